-- What the steps owe that set a bit of the scope's word.
use Rattle.std.proofs.Common.{◌≡◌, ℕ, ◌^◌, refl, ap}
use Rattle.std.specs.Prelude.{bit_or, slice_index}
use Rattle.atomic_table.specs.Table.{Allows, keeps}
use Rattle.table_rules.specs.declared.cargo.Cargo.{Ghosts}
use Rattle.table_rules.specs.declared.frame.Frame.{Frame}
use Rattle.table_rules.specs.Running.{Running}
use Rattle.table_steps.specs.Claims.{with_step}
use Rattle.table_steps.specs.Seats.{Seated}
use Rattle.table_kept.proofs.Standing.{Standing}
use Rattle.table_kept.proofs.Listing.{AllowsListed, allows-listed, lists-one}
use Rattle.table_scope_kept.proofs.ScopeKinds.{closes-runs, joins-runs}

module _ {P E O : Type 0} (cargo : Ghosts P E O) (f : Frame O) (slots id : ℕ) (m : Seated P E) where
  -- the step that sets these bits
  abbrev Sets : ℕ → Type 0
  Sets bits = AllowsListed cargo f slots id m 0 (λ n. bit_or n bits) (λ n m'. m' ≡ (with_step 0 n (bit_or n bits) m.0, m.1))

  sets-listed : (bits : ℕ) →
      Allows (Running cargo f) slots id m 0 (λ n. bit_or n bits) (λ n m'. m' ≡ (with_step 0 n (bit_or n bits) m.0, m.1)) → Sets bits
  sets-listed bits =
      allows-listed cargo f slots id m 0 (λ n. bit_or n bits) (λ n m'. m' ≡ (with_step 0 n (bit_or n bits) m.0, m.1))
      (λ n m' told. lists-one 0 n (bit_or n bits) m m' m.0 (ap (λ z. z.0) told) refl refl refl refl)

  pub sets-closed : Sets (2 ^ 33)
  sets-closed =
      sets-listed (2 ^ 33) (λ s r deep at small.
      let hand : Standing cargo f = record {
        state = s;
        id = id;
        view = m.0;
        running = r;
        at = at;
      } in (
        with_step 0 (slice_index s.words 0) (bit_or (slice_index s.words 0) (2 ^ 33)) m.0,
        keeps,
        tt,
        closes-runs cargo f hand,
        refl,
      ))

  pub sets-joining : Sets (2 ^ 34)
  sets-joining =
      sets-listed (2 ^ 34) (λ s r deep at small.
      let hand : Standing cargo f = record {
        state = s;
        id = id;
        view = m.0;
        running = r;
        at = at;
      } in (
        with_step 0 (slice_index s.words 0) (bit_or (slice_index s.words 0) (2 ^ 34)) m.0,
        keeps,
        tt,
        joins-runs cargo f hand,
        refl,
      ))

-- A hand that found another's run can try to remove the callback again. Hand 0 finds none under the scope.
use Rattle.std.proofs.Common.{◌≡◌, ℕ, zero, suc, refl, ap, ◌∙◌, arith}
use Rattle.std.specs.Prelude.{Option, Some}
use Rattle.life_rules.specs.declared.words.CallbackPhase.TheVariants.{Running as Runs}
use Rattle.life_rules.specs.declared.event.Name.{Name}
use Rattle.life_rules.specs.declared.event.SourceRef.TheVariants.{Scope}
use Rattle.node_tree.specs.Tree.{nearest}
use Rattle.life_rules.specs.States.{source_for}
use Rattle.atomic_table.specs.declared.shared.Seat.{Seat}
use Rattle.table_rules.specs.declared.view.View.{View}
use Rattle.table_rules.specs.declared.view.Held.{Held}
use Rattle.table_rules.specs.Named.{find_by}
use Rattle.table_steps.specs.Views.{Board}
use Rattle.table_steps.specs.Hearings.{UnderScope}
use Rattle.table_steps.specs.Remembers.{running}
use Rattle.op_slot.proofs.Kept.{find-noted}
use Rattle.stop_calls.specs.declared.removing.Settled.{Settled}
use Rattle.stop_calls.specs.Removals.{MayWithdraw, IsReadAs, IsLastTry, IsSettled, Waits}

module _ {P E O : Type 0} {board : Board O} {x : Name} {old new : Seat (Option P) (View P E)} where
  unrun : IsReadAs board x old new Runs → running new.me.0 x ≡ 0
  unrun r = ap (λ m. running m.0 x) r.told.me_is ∙ r.unrun

  pub again : MayWithdraw old.me.0 x → IsReadAs board x old new Runs → MayWithdraw new.me.0 x
  again may r = record {
    held = record (may.held) { phase = Some Runs };
    holds =
        ap (λ m. find_by (λ (e : Held E). e.name) m.0.held x) r.told.me_is
        ∙ find-noted (λ (e : Held E). e.name) (λ (e : Held E). record e { phase = Some Runs }) (λ e. refl) x old.me.0.held may.held may.holds;
    known = Runs;
    known_is = refl;
    registered = refl;
    unscanned = λ runs. let none = unrun r in absurd (omega (arith, runs, none));
  }

module _ {P E O : Type 0} (board : Board O) (x : Name) (old : Seat (Option P) (View P E)) where
  -- under the scope hand 0 doesn't wait, since it finds no run of another hand there
  never-waits : (count : ℕ) (middle : Seat (Option P) (View P E)) → old.me.0.number ≡ 0 →
      source_for x (nearest board.frame.tree x.node) ≡ Some Scope → Waits board x (suc count) old middle → ⊥
  never-waits zero middle zeroth hears waited =
      waited.2.told.scope (ap (λ m. m.0.number) waited.1 ∙ zeroth) hears refl
  never-waits (suc count) middle zeroth hears waited = never-waits count waited.0 zeroth hears waited.1

  at-once : (count : ℕ) (middle : Seat (Option P) (View P E)) → Waits board x count old middle →
      UnderScope board.frame.tree old.me.0 x (count ≡ 0)
  at-once zero middle waited zeroth hears = refl
  at-once (suc count) middle waited zeroth hears = absurd (never-waits count middle zeroth hears waited)

  -- what the last try found is what became of the callback
  pub settled-so : (middle new : Seat (Option P) (View P E)) (answer : Settled) → ((count : ℕ) × Waits board x count old middle) →
      IsLastTry board x middle new answer → IsSettled board x old new answer
  settled-so middle new answer waited last =
      record {
        count = waited.0;
        middle = middle;
        waited = waited.1;
        last = last;
        at_once = at-once waited.0 middle waited.1;
      }

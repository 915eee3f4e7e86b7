-- The parcels of several children are taken out of their homes, and joined, one after the other.
use Rattle.std.proofs.Common.{◌≡◌, inl, inr, ℕ, suc, ◌+◌, ◌<◌, ◌≤◌, Bool, true, false, ◌&&◌, List, length, take, get_or, arith, refl, sym, ap, ◌∙◌, subst}
use Rattle.std.specs.Prelude.{slice_index, Option, Some, None, is_some, IfSome}
use Rattle.std.specs.Option.{option_map}
use Rattle.std.proofs.lemmas.Bool.{and_parts, both_ways, cases_lt}
use Rattle.std.proofs.lemmas.List.{take_more, take_all}
use Rattle.common_lemmas.proofs.Bool.{either}
use Rattle.plan_shape.specs.Blueprint.{Blueprint}
use Rattle.table_steps.specs.Views.{Board, IsHandOf}
use Rattle.home_items.specs.declared.item.Item.{Item}
use Rattle.home_items.specs.Contents.{Done}
use Rattle.home_items.specs.Parcels.{Delivery, IsDelivery}
use Rattle.exec_recv.specs.Seats.{HandSeat}
use Rattle.step_parts.specs.Kids.{AreKids}
use Rattle.step_parts.specs.Several.{emptied, Empties}
use Rattle.step_parts.specs.Stepping.{Stepping}
use Rattle.step_parts.specs.Takes.{IsOpenWith, IsOpen, IsFoundBelow, GathersChild}
use Rattle.step_parts.proofs.Several.{not-before, emptied-else, empties-here, empties-open, empties-more}
use Rattle.exec_all.specs.declared.joining.Joining.{Joining}
use Rattle.exec_all.specs.Joined.{IsJoined, Adds}
use Rattle.exec_all.specs.Opens.{parcel_of, ends_in, HaveEnded, OneIsEmpty, TakesAll}

there : (o : Option Delivery) → is_some o ≡ true → (parcel : Delivery) × (o ≡ Some parcel)
there None is = cc
there (Some parcel) is = (parcel, refl)

not-there : (o : Option Delivery) → is_some o ≡ false → o ≡ None
not-there None is = refl
not-there (Some parcel) is = cc

other-off : (a b : Bool) → a ≡ true → (a && b) ≡ false → b ≡ false
other-off true b on off = off
other-off false b on off = cc

some-joining : (joining : Joining) → Some joining ≡ None → ⊥
some-joining joining e = cc

module _ (board : Board Blueprint) (t : Stepping) (children : List ℕ) where
  -- the homes of the first so many were emptied
  pub record IsTaking (all : Bool) (joining : Joining) (i : ℕ) (old new : HandSeat) : Type 0 where
    pub within : i ≤ length children
    pub empties : Empties board t (take i children) old new
    pub found : all ≡ true → (inside : Item) (kid : ℕ → Option Item) → IsOpenWith board t inside kid old →
        HaveEnded kid children i × IsJoined joining (ends_in kid children) i
    pub missing : all ≡ false → (inside : Item) (kid : ℕ → Option Item) → IsOpenWith board t inside kid old →
        OneIsEmpty kid children i

  pub taking-none : (joining : Joining) (hand : HandSeat) → IsHandOf board hand → ((ends : ℕ → Delivery) → IsJoined joining ends 0) →
      IsTaking true joining 0 hand hand
  taking-none joining hand is none =
      record {
        within = omega arith;
        empties = empties-here board t hand is;
        found = λ all inside kid is_open. (
          record { lay = λ i less. absurd (omega (arith, less)); lawful = λ i less. absurd (omega (arith, less)) },
          none (ends_in kid children),
        );
        missing = λ off inside kid is_open. absurd (both_ways true off refl);
      }

  -- so a step can take the next
  pub taking-open : (all : Bool) (joining : Joining) (i : ℕ) (old new : HandSeat) → IsTaking all joining i old new →
      IsOpen board t old → IsOpen board t new
  taking-open all joining i old new taking is_open = empties-open board t (take i children) old new taking.empties is_open

  module _ (all found : Bool) (joining next : Joining) (i : ℕ) (old between new : HandSeat) (kids : AreKids board t.name children)
      (inside : i < length children) (was : IsTaking all joining i old between)
      (one : GathersChild board t Adds (get_or children i 0) joining next found between new) where
    abbrev n : ℕ
    n = get_or children i 0

    module _ (item : Item) (kid : ℕ → Option Item) (is_open : IsOpenWith board t item kid old) where
      middle : IsOpenWith board t item (emptied (take i children) kid) between
      middle = was.empties.left item kid is_open

      -- what lay in its home
      lay-here : kid n ≡ option_map Done one.answer
      lay-here =
          sym (emptied-else (take i children) kid n (not-before children i kids.different inside))
          ∙ one.takes.lay item (emptied (take i children) kid) middle

      -- a parcel lay there, and in each before
      module _ (both : (all && found) ≡ true) where
        parts : (all ≡ true) × (found ≡ true)
        parts = and_parts all found both

        before : HaveEnded kid children i × IsJoined joining (ends_in kid children) i
        before = was.found parts.0 item kid is_open

        answer : (parcel : Delivery) × (one.answer ≡ Some parcel)
        answer = there one.answer (sym one.found_is ∙ parts.1)

        full : kid n ≡ Some (Done answer.0)
        full = lay-here ∙ ap (option_map Done) answer.1

        end-here : ends_in kid children i ≡ answer.0
        end-here = ap parcel_of full

        lawful-here : IsDelivery answer.0
        lawful-here =
            (subst (λ (o : Option Delivery). IfSome o (IsFoundBelow board t n new.me)) answer.1
            (one.takes.found (record { inside = item; kid = emptied (take i children) kid; is = middle }))).lawful

        ended-more : HaveEnded kid children (i + 1)
        ended-more =
            record {
              lay = λ j less. elim (cases_lt j i) [
                | inl earlier ↦ before.0.lay j earlier
                | inr last ↦
                    let at : i ≡ j = omega (arith, less, last) in
                    subst (λ k. kid (slice_index children k) ≡ Some (Done (ends_in kid children k))) at
                    (full ∙ ap (λ (p : Delivery). Some (Done p)) (sym end-here))
              ];
              lawful = λ j less. elim (cases_lt j i) [
                | inl earlier ↦ before.0.lawful j earlier
                | inr last ↦
                    let at : i ≡ j = omega (arith, less, last) in
                    subst (λ k. IsDelivery (ends_in kid children k)) at (subst IsDelivery (sym end-here) lawful-here)
              ];
            }

        joined-more : IsJoined next (ends_in kid children) (i + 1)
        joined-more =
            let at : suc i ≡ i + 1 = omega arith in
            subst (IsJoined next (ends_in kid children)) at
            (subst (λ (o : Option Delivery). IfSome o (Adds joining next)) answer.1 one.gathered (ends_in kid children) i end-here before.1)

      -- none lay there, or none in one before
      one-empty : (all && found) ≡ false → OneIsEmpty kid children (i + 1)
      one-empty off =
          either all
          (λ on. (
            i,
            omega arith,
            lay-here ∙ ap (option_map Done) (not-there one.answer (sym one.found_is ∙ other-off all found on off)),
          ))
          (λ no.
          let before = was.missing no item kid is_open in
          let less = before.1 in
          (before.0, omega (arith, less), before.2))

    pub taking-more : IsTaking (all && found) next (i + 1) old new
    taking-more =
        record {
          within = omega (arith, inside);
          empties = subst (λ ns. Empties board t ns old new) (sym (take_more children i 0 inside))
              (empties-more board t (take i children) old between was.empties n one.answer new one.takes);
          found = λ both item kid is_open. (ended-more item kid is_open both, joined-more item kid is_open both);
          missing = λ off item kid is_open. one-empty item kid is_open off;
        }

  -- and so all
  module _ (all : Bool) (joining : Joining) (i : ℕ) (old new : HandSeat) (past : length children ≤ i)
      (was : IsTaking all joining i old new) where
    at-end : i ≡ length children
    at-end = let most = was.within in omega (arith, past, most)

    every : Empties board t children old new
    every = subst (λ ns. Empties board t ns old new) (take_all i children past) was.empties

    pub takes-every : all ≡ true → TakesAll board t children (Some joining) old new
    takes-every is =
        record {
          empties = every;
          found = λ inside kid is_open.
              subst (λ k. HaveEnded kid children k × IsJoined joining (ends_in kid children) k) at-end (was.found is inside kid is_open);
          missing = λ none inside kid is_open. absurd (some-joining joining none);
        }

    pub takes-some : all ≡ false → TakesAll board t children None old new
    takes-some off =
        record {
          empties = every;
          found = tt;
          missing = λ none inside kid is_open. subst (OneIsEmpty kid children) at-end (was.missing off inside kid is_open);
        }

-- How the homes of a bulk's parts are emptied, one after the other, and what lay there is added up.
use Rattle.std.proofs.Common.{◌≡◌, inl, inr, ℕ, suc, ◌+◌, ◌<◌, ℤ, List, refl, sym, ap, ◌∙◌, subst, arith}
use Rattle.std.specs.Prelude.{Option, Some, None, IfSome}
use Rattle.std.specs.List.{range_with_len}
use Rattle.std.specs.Option.{option_map}
use Rattle.exec_job.specs.declared.job.Job.{Job}
use Rattle.plan_shape.specs.Blueprint.{Blueprint}
use Rattle.plan_shape.specs.declared.limits.TheConstants.{BULK_PARTS}
use Rattle.table_steps.specs.Views.{Board, IsHandOf}
use Rattle.home_items.specs.declared.item.Item.{Item}
use Rattle.home_items.specs.Contents.{Done}
use Rattle.home_items.specs.Parcels.{Delivery}
use Rattle.exec_recv.specs.Seats.{HandSeat}
use Rattle.step_parts.specs.Several.{emptied, Empties}
use Rattle.step_parts.specs.Stepping.{Stepping}
use Rattle.step_parts.specs.Takes.{IsFoundBelow, IsOpen, IsOpenWith, TakesChild}
use Rattle.step_parts.proofs.Several.{emptied-else, empties-here, empties-more, empties-open}
use Rattle.exec_bulk.specs.declared.joining.Made.{Made}
use Rattle.exec_bulk.specs.declared.joining.Made.TheVariants.{Want}
use Rattle.exec_bulk.specs.Made.{AddsParcel, HasNoPart, IsFrontMade, one_missing}
use Rattle.exec_bulk.specs.Opens.{HaveDelivered, HasDrawn, GathersPart, GathersParts}
use Rattle.exec_bulk.specs.Rows.{first_part}
use Rattle.exec_bulk.proofs.Making.{missing-made}
use Rattle.exec_bulk.proofs.Ranges.{range-else, range-more}

same-parcel : (a b : Delivery) → Some (Done a) ≡ Some (Done b) → a ≡ b
same-parcel a b e = cc

none-done : (a : Delivery) → None ≡ Some (Done a) → ⊥
none-done a e = cc

module _ (board : Board Blueprint) (t : Stepping) where
  abbrev first : ℕ
  first = first_part t.name.node

  pub parts-none : (made : Made) (hand : HandSeat) → IsHandOf board hand → HasNoPart made → GathersParts board t 0 made hand hand
  parts-none made hand of none =
      record {
        empties = empties-here board t hand of;
        made_is = λ job whole drawn. none.made_is job whole;
        wants = λ inside kid lies is have. none.able is;
      }

  module _ (n : ℕ) (made : Made) (old between : HandSeat) (was : GathersParts board t n made old between) where
    -- the homes are being emptied still
    pub parts-open : IsOpen board t old → IsOpen board t between
    parts-open lies = empties-open board t (range_with_len first n) old between was.empties lies

    next-empty : (answer : Option Delivery) (new : HandSeat) → TakesChild board t (first + n) answer between new →
        Empties board t (range_with_len first (n + 1)) old new
    next-empty answer new takes =
        let on : suc n ≡ n + 1 = omega arith in
        subst (λ (k : ℕ). Empties board t (range_with_len first k) old new) on
        (subst (λ ns. Empties board t ns old new) (sym (range-more first n))
        (empties-more board t (range_with_len first n) old between was.empties (first + n) answer new takes))

  -- the next is, and what lay there was added
  module _ (part : ℕ) (before after : Made) (old between new : HandSeat) (was : GathersParts board t part before old between)
      (next : GathersPart board t part before after between new) where
    -- what lay in the part's home lies there until then
    lay-still : (inside : Item) (kid : ℕ → Option Item) → IsOpenWith board t inside kid old →
        kid (first + part) ≡ option_map Done next.answer
    lay-still inside kid lies =
        sym (emptied-else (range_with_len first part) kid (first + part) (range-else first part (first + part) (omega arith)))
        ∙ next.takes.lay inside (emptied (range_with_len first part) kid) (was.empties.left inside kid lies)

    -- where the parts want memory now, one of them does, or isn't done
    more-wants : (inside : Item) (kid : ℕ → Option Item) → IsOpenWith board t inside kid old → after ≡ Want →
        HaveDelivered first (part + 1) kid → ⊥
    more-wants inside kid lies is have = of next.answer (lay-still inside kid lies) next.adds
      where
        of : (answer : Option Delivery) → kid (first + part) ≡ option_map Done answer → IfSome answer (AddsParcel before after) → ⊥
        of None lay adds = let last = have part (omega arith) in none-done last.parcel (sym lay ∙ last.full)
        of (Some parcel) lay adds =
            let last = have part (omega arith) in
            elim (adds.wants is) [
              | inl before_is ↦ was.wants inside kid lies before_is (λ i lower. have i (omega (arith, lower)))
              | inr wanted ↦
                  last.able (ap (λ (p : Delivery). p.completion) (same-parcel last.parcel parcel (sym last.full ∙ lay)) ∙ wanted)
            ]

    module _ (within : part < BULK_PARTS) (job : Job) (whole : List ℤ) (drawn : HasDrawn board t job whole old) where
      open-still : IsOpen board t between
      open-still = parts-open part before old between was (record { inside = drawn.inside; kid = drawn.kid; is = drawn.opened })

      more-made : IsFrontMade after job whole (part + 1)
      more-made = of next.answer (lay-still drawn.inside drawn.kid drawn.opened) next.adds next.misses (next.takes.found open-still)
        where
          of : (answer : Option Delivery) → drawn.kid (first + part) ≡ option_map Done answer → IfSome answer (AddsParcel before after) →
              (answer ≡ None → after ≡ one_missing before) → IfSome answer (IsFoundBelow board t (first + part) new.me) →
              IsFrontMade after job whole (part + 1)
          of None lay adds misses found =
              subst (λ (made : Made). IsFrontMade made job whole (part + 1)) (sym (misses refl))
              (missing-made before job whole part within (was.made_is job whole drawn))
          of (Some parcel) lay adds misses found =
              adds.made job whole part within (drawn.makes part parcel within lay found.lawful) (was.made_is job whole drawn)

    pub parts-more : part < BULK_PARTS → GathersParts board t (part + 1) after old new
    parts-more within =
        record {
          empties = next-empty part before old between was next.answer new next.takes;
          made_is = more-made within;
          wants = more-wants;
        }

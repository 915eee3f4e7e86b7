-- A node that may be stepped, and whose home has its start, has just begun.
use Rattle.std.proofs.Common.{◌≡◌, true, List, [], ◌∷◌, length, inl, inr, Option, Some, None, refl, sym, ap, ◌∙◌, arith}
use Rattle.std.specs.Prelude.{ℤ, ◌≢◌, is_some, slice_get}
use Rattle.std.proofs.lemmas.Option.{same_Some}
use Rattle.life_rules.specs.declared.event.Name.{Name}
use Rattle.plan_shape.specs.Blueprint.{Blueprint}
use Rattle.table_steps.specs.Views.{Board}
use Rattle.table_steps.specs.Seats.{Seated}
use Rattle.home_items.specs.declared.entry.Entry.{Entry}
use Rattle.home_items.specs.declared.item.Item.{Item}
use Rattle.home_items.specs.Contents.{Start, Rest, Done}
use Rattle.home_items.specs.Entries.{plan_of, drawn_of}
use Rattle.home_items.specs.Fits.{IsRest}
use Rattle.home_items.specs.Items.{start_in, is_start, lot_of}
use Rattle.home_items.proofs.Lots.{draws-some}
use Rattle.exec_recv.specs.Over.{IsOver}
use Rattle.exec_recv.specs.Steppable.{CanStep, HasBegun, IsBack}

-- a start of the table's plan has an entry, since a plan has a node
some-entry : (board : Board Blueprint) (plan : Blueprint) (start : List Entry) → IsOver board plan →
    plan_of start ≡ board.frame.over.value → (p : Entry) × (above : List Entry) × (start ≡ p ∷ above)
some-entry board plan [] over key =
    let none : 0 ≡ length plan.nodes = ap (λ (b : Blueprint). length b.nodes) (key ∙ over.over) in
    absurd (omega (arith, none, over.is_plan.some))
some-entry board plan (p ∷ above) over key = (p, above, refl)

-- what a child draws is never nothing
child-draws : (start : List Entry) (e p : Entry) (above : List Entry) → start ≡ e ∷ p ∷ above → drawn_of start ≢ []
child-draws start e p above is none = draws-some (slice_get p.plan.nodes e.node) e.whole (sym (ap drawn_of is) ∙ none)

-- and a start fixes nothing
start-fixes : (item : Item) → is_start item ≡ true → lot_of item ≡ []
start-fixes (Start start) is = refl
start-fixes (Rest start kept) is = cc
start-fixes (Done parcel) is = cc

some-of : (o : Option Item) → is_some o ≡ true → (item : Item) × (o ≡ Some item)
some-of None is = cc
some-of (Some item) is = (item, refl)

-- so a node that is back hasn't its start in its home
back-rests : (board : Board Blueprint) (plan : Blueprint) (x : Name) (m : Seated Item Entry) → IsOver board plan → (can : CanStep board x m) →
    IsBack board x can.held can.item can.kid → is_start can.item ≡ true → ⊥
back-rests board plan x m over can back is =
    let full = some-of (can.kid back.last) back.full in
    let done = can.kids back.last full.0 back.below full.1 in
    let head = some-entry board plan can.held.start over can.key in
    child-draws (start_in full.0) done.entry head.0 head.1 (done.below ∙ ap (λ (s : List Entry). done.entry ∷ s) head.2)
    (same_Some (drawn_of (start_in full.0)) [] (sym done.draws ∙ back.lot ∙ ap (λ (l : List ℤ). Some l) (start-fixes can.item is)))

pub start-begun : (board : Board Blueprint) (plan : Blueprint) (x : Name) (m : Seated Item Entry) → IsOver board plan → (can : CanStep board x m) →
    is_start can.item ≡ true → HasBegun board x can.held can.item can.kid
start-begun board plan x m over can is =
    elim can.came [
      | inl begun ↦ begun
      | inr later ↦ elim later [
        | inl taken ↦ absurd (not-rest can.item is taken.rests.rest)
        | inr back ↦ absurd (back-rests board plan x m over can back is)
      ]
    ]
  where
    not-rest : (item : Item) → is_start item ≡ true → IsRest item → ⊥
    not-rest (Start start) is rest = rest
    not-rest (Rest start kept) is rest = cc
    not-rest (Done parcel) is rest = rest

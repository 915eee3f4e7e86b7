-- A `when_all` that has begun was opened: what is known of its children, where each has completed.
use Rattle.std.proofs.Common.{◌≡◌, ◌≢◌, inl, inr, ℕ, ◌<◌, true, false, List, ◌∷◌, length, arith, refl, sym, ap, ◌∙◌, subst}
use Rattle.std.specs.Prelude.{slice_index, Option, Some, None, is_some}
use Rattle.std.proofs.lemmas.Option.{same_Some}
use Rattle.node_tree.specs.Tree.{is_child}
use Rattle.plan_rules.specs.declared.node.Node.TheVariants.{WhenAll}
use Rattle.plan_shape.specs.Blueprint.{Blueprint}
use Rattle.table_steps.specs.Slots.{held_at}
use Rattle.table_steps.specs.Views.{Board}
use Rattle.home_items.specs.declared.entry.Entry.{Entry}
use Rattle.home_items.specs.declared.item.Item.{Item}
use Rattle.home_items.specs.declared.item.State.TheVariants.{Start as Begins}
use Rattle.home_items.specs.Contents.{Start, Rest, Done}
use Rattle.home_items.specs.Bounds.{least_of}
use Rattle.home_items.specs.Entries.{node_of}
use Rattle.home_items.specs.Fits.{FitsHome}
use Rattle.home_items.specs.Items.{start_in, state_of, HasCompleted}
use Rattle.home_items.specs.Parcels.{Delivery}
use Rattle.exec_recv.specs.Seats.{HandSeat}
use Rattle.exec_recv.specs.Steppable.{CanStep, IsBack, IsDoneBelow as LiesDone}
use Rattle.start_laws.specs.AllEnds.{FailedFirst}
use Rattle.start_laws.specs.Holding.{IsDoneBelow}
use Rattle.start_laws.specs.Nodes.{IsStartOf}
use Rattle.start_laws.proofs.Knowing.{homes-tell}
use Rattle.step_parts.specs.Heard.{has_heard}
use Rattle.step_parts.specs.Kids.{AreKids}
use Rattle.step_parts.specs.Midway.{Ready}
use Rattle.step_parts.specs.Several.{emptied}
use Rattle.step_parts.specs.Stepping.{Stepping}
use Rattle.step_parts.specs.Takes.{IsOpenWith, IsOpen, IsTaken}
use Rattle.step_parts.proofs.Ended.{open-none, open-ready, open-taken}
use Rattle.step_parts.proofs.Several.{emptied-in}
use Rattle.step_parts.proofs.Telling.{told-none}
use Rattle.step_parts.proofs.Took.{taken-of}
use Rattle.exec_all.specs.declared.joining.Joining.{Joining}
use Rattle.exec_all.specs.Joined.{IsJoined}
use Rattle.exec_all.specs.Opens.{ends_in, HaveEnded, MayOpen, TakesAll, HaveJoined}
use Rattle.exec_all.proofs.Plans.{all-kids, among-kids, named-kids, some-kids, rest-all}

some-none : (item : Item) → Some item ≡ None → ⊥
some-none item e = cc

-- a node that has begun and goes on awaited all its children
least-begun : (item : Item) (children : List ℕ) → IsStartOf (start_in item) (WhenAll children) → state_of item ≢ Begins → ¬ HasCompleted item →
    least_of item ≡ length children
least-begun (Start start) children of begun goes_on = absurd (begun refl)
least-begun (Rest start kept) children of begun goes_on = rest-all start children kept of
least-begun (Done parcel) children of begun goes_on = absurd (goes_on tt)

-- What was taken up.
module _ (board : Board Blueprint) (t : Stepping) (children : List ℕ) (up : HandSeat) (may : MayOpen board t children up) where
  abbrev pub can : CanStep board t.name t.from.me
  can = may.may.can

  pub lies : IsOpenWith board t can.item can.kid up
  lies = may.up.opened can

  pub up-open : IsOpen board t up
  up-open = record { inside = can.item; kid = can.kid; is = lies }

  pub up-kids : AreKids board t.name children
  up-kids = all-kids board t.name children may.may.site may.node_is

  module _ (all : Option Joining) (middle : HandSeat) (took : TakesAll board t children all up middle) where
    none : (n : ℕ) → is_child board.frame.tree t.name.node n ≡ true → emptied children can.kid n ≡ None
    none n below = emptied-in children can.kid n (named-kids board t.name children may.may.site may.node_is n below)

    left : IsOpenWith board t can.item (λ _. None) middle
    left = open-none board t can.item (emptied children can.kid) middle (took.empties.left can.item can.kid lies) none

    -- the homes of the children are empty
    pub opened : IsTaken board t middle
    opened = open-taken board t can.item middle left

    of : IsStartOf t.start (WhenAll children)
    of = taken-of board t middle opened (WhenAll children) may.node_is

    -- as many were awaited
    pub awaited : Ready board t.name t.start (length children) middle.me
    awaited =
        subst (λ k. Ready board t.name t.start k middle.me)
        (least-begun can.item children (subst (λ (s : List Entry). IsStartOf s (WhenAll children)) (sym left.midway.inside_is) of)
        (λ e. may.begun (may.up.state_is can ∙ e)) can.goes_on)
        (open-ready board t can.item middle left)

    holds : held_at middle.me.0 t.name ≡ Some can.held
    holds = took.empties.keeps.same_held ∙ may.up.keeps.same_held ∙ can.tends.holds

    shows : t.start ≡ can.held.start
    shows = sym left.midway.inside_is ∙ can.shows

    -- each child has completed
    module _ (ended : HaveEnded can.kid children (length children)) where
      abbrev ends : ℕ → Delivery
      ends = ends_in can.kid children

      done-at : (i : ℕ) → i < length children → IsDoneBelow t.start (ends i) (slice_index children i) can.held.told_children
      done-at i within =
          let n = slice_index children i in
          let below : LiesDone can.held n (Done (ends i)) = can.kids n (Done (ends i)) (up-kids.each i within) (ended.lay i within) in
          let less = left.midway.places.kids n (up-kids.each i within) in
          let same : node_of t.start ≡ t.name.node = left.midway.node in
          homes-tell.done t.start of.start_is (ends i) (ended.lawful i within) below.entry
          (below.below ∙ ap (λ (l : List Entry). below.entry ∷ l) (sym shows)) n (omega (arith, less, same)) can.held.told_children below.fit

      abbrev first : ℕ
      first = slice_index children 0

      some : 0 < length children
      some = let some = some-kids board t.name children may.may.site may.node_is in omega (arith, some)

      first-full : can.kid first ≡ Some (Done (ends 0))
      first-full = ended.lay 0 some

      -- so the hand came to hold it by the last report
      back : IsBack board t.name can.held can.item can.kid
      back =
          elim can.came [
            | inl begun ↦ absurd (some-none (Done (ends 0)) (sym first-full ∙ begun.empty first (up-kids.each 0 some)))
            | inr later ↦ elim later [
              | inl was ↦ absurd (some-none (Done (ends 0)) (sym first-full ∙ was.empty first (up-kids.each 0 some)))
              | inr reported ↦ reported
            ]
          ]

      full : (n : ℕ) → is_child board.frame.tree t.name.node n ≡ true → is_some (can.kid n) ≡ true
      full n below =
          let among = among-kids board t.name children may.may.site may.node_is n below in
          subst (λ k. is_some (can.kid k) ≡ true) among.2 (ap is_some (ended.lay among.0 among.1))

      -- one that failed without having seen a request
      module _ (n : ℕ) (done : Item) (below : is_child board.frame.tree t.name.node n ≡ true) (lay : can.kid n ≡ Some done)
          (fits : FitsHome done t.name.node false) where
        among : (i : ℕ) × (i < length children) × (slice_index children i ≡ n)
        among = among-kids board t.name children may.may.site may.node_is n below

        done-is : done ≡ Done (ends among.0)
        done-is =
            same_Some done (Done (ends among.0))
            (sym lay ∙ ap can.kid (sym among.2) ∙ ended.lay among.0 among.1)

        fits-here : FitsHome (Done (ends among.0)) t.name.node false
        fits-here = subst (λ (i : Item). FitsHome i t.name.node false) done-is fits

        failed-here : FailedFirst ends (length children)
        failed-here = (
          among.0,
          among.1,
          elim (fits-here.0) [
            | inl own_item ↦
                let number : node_of (ends among.0).start ≡ slice_index children among.0 = (done-at among.0 among.1).number in
                let node : node_of (ends among.0).start ≡ t.name.node = own_item.node in
                let less = left.midway.places.kids (slice_index children among.0) (up-kids.each among.0 among.1) in
                absurd (omega (arith, number, node, less))
            | inr failed ↦ failed.failed
          ],
          (fits-here.1 refl).saw,
        )

      failed-first : can.held.told_children ≡ true → has_heard board t.name middle.me ≡ false → FailedFirst ends (length children)
      failed-first told silent =
          let failure = back.failure told (told-none board t.name middle.me can.held holds silent) full in
          failed-here failure.0 failure.1 failure.2 failure.3 failure.4

      pub have-joined : (joining : Joining) → IsJoined joining ends (length children) → HaveJoined board t children joining middle.me
      have-joined joining joined =
          record { ends = ends; joined = joined; told = can.held.told_children; each = done-at; failed = failed-first }

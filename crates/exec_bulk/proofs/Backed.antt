-- A bulk has taken what lay in the home of its child.
use Rattle.std.proofs.Common.{◌≡◌, inl, inr, ℕ, true, ◌==◌, Option, Some, None, refl, sym, ap, ◌∙◌, arith}
use Rattle.std.specs.Prelude.{IfSome}
use Rattle.std.specs.Option.{option_map}
use Rattle.std.proofs.lemmas.Bool.{cond-true, cond-false, eq-eqb}
use Rattle.std.proofs.lemmas.Option.{same_Some}
use Rattle.common_lemmas.proofs.Bool.{either}
use Rattle.node_tree.specs.Tree.{is_child}
use Rattle.plan_rules.specs.declared.node.Node.{Node}
use Rattle.plan_rules.specs.declared.node.Node.TheVariants.{Bulk}
use Rattle.plan_shape.specs.Blueprint.{Blueprint}
use Rattle.table_steps.specs.Views.{Board}
use Rattle.op_slot.specs.Tends.{put_at}
use Rattle.home_items.specs.declared.item.Item.{Item}
use Rattle.home_items.specs.Contents.{Done}
use Rattle.home_items.specs.Parcels.{Delivery}
use Rattle.exec_recv.specs.Seats.{HandSeat}
use Rattle.start_laws.proofs.Knowing.{from-plain}
use Rattle.step_parts.specs.Stepping.{Stepping}
use Rattle.step_parts.specs.Takes.{HasParcel, IsFoundBelow, IsOpenWith, IsTaken, TakesBack, TakesChild}
use Rattle.step_parts.specs.Heard.{has_heard}
use Rattle.step_parts.proofs.Ended.{open-none, open-taken}
use Rattle.step_parts.proofs.Frames.{ready-at}
use Rattle.step_parts.proofs.Telling.{found-done}
use Rattle.exec_bulk.specs.Opens.{MayTakeBack}
use Rattle.exec_bulk.proofs.Opened.{opened-of}
use Rattle.exec_bulk.proofs.Places.{bulk-child, bulk-kids, bulk-plain}

-- a home that was emptied is empty, and one that was empty is still
put-none : (n k : ℕ) (kid : ℕ → Option Item) → n ≡ k → put_at n None kid k ≡ None
put-none n k kid same = cond-true (n == k) None (kid k) (eq-eqb n k same)

put-still : (n k : ℕ) (kid : ℕ → Option Item) → kid k ≡ None → put_at n None kid k ≡ None
put-still n k kid none = either (n == k) (λ h. cond-true (n == k) None (kid k) h) (λ h. cond-false (n == k) None (kid k) h ∙ none)

module _ (board : Board Blueprint) (t : Stepping) (child : ℕ) (old new : HandSeat) (may : MayTakeBack board t child old)
    (answer : Option Delivery) (takes : TakesChild board t child answer old new) where
  abbrev bulk : Node
  bulk = Bulk child may.job

  abbrev was : IsOpenWith board t may.inside may.kid old
  was = may.opened

  -- the homes of its children are empty, and were but for the child's
  gone : (kid : ℕ → Option Item) → ((n : ℕ) → is_child board.frame.tree t.name.node n ≡ true → kid n ≡ may.kid n) →
      (n : ℕ) → is_child board.frame.tree t.name.node n ≡ true → put_at child None kid n ≡ None
  gone kid same n is =
      elim (bulk-kids board t.name child may.job was.site may.node_is n is) [
        | inl first ↦ put-none child n kid (sym first)
        | inr part ↦ put-still child n kid (same n is ∙ ap may.kid part.2 ∙ may.none part.0 part.1)
      ]

  -- what lies there is one thing
  kid-same : (inside : Item) (kid : ℕ → Option Item) → IsOpenWith board t inside kid old → (n : ℕ) →
      is_child board.frame.tree t.name.node n ≡ true → kid n ≡ may.kid n
  kid-same inside kid lies n is =
      same_Some (kid n) (may.kid n) (sym (lies.midway.tends.kids n is) ∙ was.midway.tends.kids n is)

  own : (inside : Item) (kid : ℕ → Option Item) → IsOpenWith board t inside kid old → IsOpenWith board t inside (λ _. None) new
  own inside kid lies =
      open-none board t inside (put_at child None kid) new (takes.left inside kid lies) (gone kid (kid-same inside kid lies))

  taken : IsTaken board t new
  taken = open-taken board t may.inside new (own may.inside may.kid was)

  has-parcel : (parcel : Delivery) → may.kid child ≡ Some (Done parcel) → IsFoundBelow board t child new.me parcel → HasParcel board t new.me parcel
  has-parcel parcel full found =
      let here = bulk-child board t.name child may.job was.site may.node_is in
      record {
        ready = ready-at board t.name t.start new.me 0 1 was.midway.held (takes.keeps.same_held ∙ was.midway.tends.holds)
            (was.midway.awaited child (Done parcel) here full) taken.ready;
        from = from-plain t.start parcel child (has_heard board t.name new.me)
            (found-done board t child new.me parcel found was.start_is (bulk-plain board t.name child may.job was.site may.node_is))
            bulk (opened-of board t may.inside may.kid old was bulk may.node_is) (0, omega arith, refl);
      }

  pub backed : TakesBack board t child answer old new
  backed =
      record {
        keeps = takes.keeps;
        taken = taken;
        parcel = of answer (takes.lay may.inside may.kid was) (takes.found (record { inside = may.inside; kid = may.kid; is = was }));
        lay = takes.lay;
        own = own;
      }
    where
      of : (o : Option Delivery) → may.kid child ≡ option_map Done o → IfSome o (IsFoundBelow board t child new.me) →
          IfSome o (HasParcel board t new.me)
      of None lay found = tt
      of (Some parcel) lay found = has-parcel parcel lay found

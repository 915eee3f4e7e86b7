-- What a let that has begun has at hand, once the homes of its children are empty.
use Rattle.std.specs.Prelude.{All, IfSome}
use Rattle.std.specs.Option.{option_map}
use Rattle.std.proofs.Common.{◌≡◌, inl, inr, ℕ, ◌==◌, true, false, get_or, Option, Some, None, refl, sym, ap, ◌∙◌, subst}
use Rattle.std.proofs.lemmas.Bool.{cond-false}
use Rattle.std.proofs.lemmas.List.Elements.{Contains-get_or}
use Rattle.node_tree.specs.Tree.{is_child, has_source}
use Rattle.plan_rules.specs.declared.node.Node.{Node}
use Rattle.plan_shape.specs.Blueprint.{Blueprint}
use Rattle.plan_kinds.specs.Runs.{bodies_of}
use Rattle.table_steps.specs.Views.{Board}
use Rattle.op_slot.specs.Tends.{put_at}
use Rattle.home_items.specs.declared.item.Item.{Item}
use Rattle.home_items.specs.Contents.{Done}
use Rattle.home_items.specs.Parcels.{Delivery}
use Rattle.exec_recv.specs.Seats.{HandSeat}
use Rattle.start_laws.proofs.Knowing.{from-plain}
use Rattle.step_parts.specs.Midway.{ChangesHomes, Ready}
use Rattle.step_parts.specs.Several.{emptied}
use Rattle.step_parts.specs.Stepping.{Stepping}
use Rattle.step_parts.specs.Takes.{HasParcel, IsFoundBelow, IsOpenWith, IsTaken, TakesChild, TakesKept}
use Rattle.step_parts.proofs.Ended.{changes-here, changes-on, open-none, open-taken}
use Rattle.step_parts.proofs.Frames.{ready-at}
use Rattle.step_parts.proofs.Telling.{found-done}
use Rattle.step_parts.proofs.Took.{taken-of}
use Rattle.step_parts.proofs.Unkept.{kept-has, rests-one, unkept-taken}
use Rattle.exec_let.specs.Kinds.{let_child}
use Rattle.exec_let.specs.Opens.{newest_in, MayOpen, IsOfBody, TakesBodies, HasBody, Opens}
use Rattle.exec_let.proofs.Emptied.{put-fewer, put-here, among-empty, emptied-none, found-still}
use Rattle.exec_let.proofs.Places.{let-awaits, let-runs, let-source, child-below, body-below, below-cases, child-other}

-- The homes of the let's children were emptied, one after the other. Since then the let is held as it was, and as much was heard.
record HasEmptied (board : Board Blueprint) (t : Stepping) (node : Node) (below body : Option Delivery) (old new : HandSeat) : Type 0 where
  pub may : MayOpen board t node old
  pub middle : HandSeat
  pub next : TakesChild board t (let_child node) below old middle
  pub last : HandSeat
  pub took : TakesBodies board t (bodies_of node) body middle last
  pub since : ChangesHomes board t.name last new

module _ (board : Board Blueprint) (t : Stepping) (node : Node) (below body : Option Delivery) (old new : HandSeat)
    (e : HasEmptied board t node below body old new) where
  all : ChangesHomes board t.name old new
  all = changes-on board t.name old e.last new (changes-on board t.name old e.middle e.last e.next.keeps e.took.empties.keeps) e.since

  module _ (inside : Item) (kid : ℕ → Option Item) (lies : IsOpenWith board t inside kid old) where
    abbrev later : ℕ → Option Item
    later = put_at (let_child node) None kid

    abbrev left : ℕ → Option Item
    left = emptied (bodies_of node) later

    second : IsOpenWith board t inside later e.middle
    second = e.next.left inside kid lies

    third : IsOpenWith board t inside left e.last
    third = e.took.empties.left inside later second

    -- each home is empty
    none-left : (n : ℕ) → is_child board.frame.tree t.name.node n ≡ true → left n ≡ None
    none-left n child =
        elim (below-cases board t.name node lies.site e.may.node_is e.may.is_let n child) [
          | inl one ↦ emptied-none (bodies_of node) later n (ap later one ∙ put-here (let_child node) kid)
          | inr among ↦ among-empty (bodies_of node) later n among
        ]

    empty : IsOpenWith board t inside (λ _. None) e.last
    empty = open-none board t inside left e.last third none-left

    -- what lay in those of the bodies
    of-bodies : (o : Option Delivery) → body ≡ o → IfSome o (IsOfBody board t (bodies_of node) kid new.me)
    of-bodies None is = tt
    of-bodies (Some parcel) is =
        let one = subst (λ (o : Option Delivery). IfSome o (IsOfBody board t (bodies_of node) later e.last.me)) is (e.took.found inside later second) in
        record {
          body = one.body;
          among = one.among;
          found = found-still board t one.body e.last new parcel e.since one.found;
          lay = put-fewer (let_child node) kid one.body (Done parcel) one.lay;
        }

    no-bodies : body ≡ None → All (λ n. kid n ≡ None) (bodies_of node)
    no-bodies none i d within =
        let n = get_or (bodies_of node) i d in
        let other = child-other board t.name node lies.site e.may.node_is e.may.is_let n (Contains-get_or (bodies_of node) i d within) in
        sym (cond-false (let_child node == n) None (kid n) other) ∙ e.took.nothing inside later second none i d within

    -- and in that of the child, or else was kept
    child-lay : (o : Option Delivery) → below ≡ o → newest_in (kid (let_child node)) inside ≡ newest_in (option_map Done o) inside
    child-lay o is = ap (λ (d : Option Item). newest_in d inside) (e.next.lay inside kid lies ∙ ap (option_map Done) is)

    -- The step goes on from there.
    module _ (taken : IsTaken board t new) where
      -- a home that was full was of a child that the let awaited
      one-full : (n : ℕ) → is_child board.frame.tree t.name.node n ≡ true → (parcel : Delivery) → kid n ≡ Some (Done parcel) →
          Ready board t.name t.start 1 new.me
      one-full n child parcel full =
          ready-at board t.name t.start new.me 0 1 lies.midway.held (all.same_held ∙ lies.midway.tends.holds)
          (lies.midway.awaited n (Done parcel) child full) taken.ready

      source : has_source board.frame.tree t.name.node ≡ false
      source = let-source board t.name node lies.site e.may.node_is e.may.is_let

      has-below : (parcel : Delivery) → below ≡ Some parcel → HasParcel board t new.me parcel
      has-below parcel is =
          let child = let_child node in
          let found = subst (λ (o : Option Delivery). IfSome o (IsFoundBelow board t child e.middle.me)) is
          (e.next.found (record { inside = inside; kid = kid; is = lies })) in
          let here = found-still board t child e.middle new parcel (changes-on board t.name e.middle e.last new e.took.empties.keeps e.since) found in
          record {
            ready = one-full child (child-below board t.name node lies.site e.may.node_is e.may.is_let) parcel
                (e.next.lay inside kid lies ∙ ap (option_map Done) is);
            from = from-plain t.start parcel child _ (found-done board t child new.me parcel here taken.start_is source) node
                (taken-of board t new taken node e.may.node_is) (let-runs node e.may.is_let);
          }

      has-body : (o : Option Delivery) → body ≡ o → IfSome o (HasBody board t node new.me)
      has-body None is = tt
      has-body (Some parcel) is =
          let one : IsOfBody board t (bodies_of node) kid new.me parcel = of-bodies (Some parcel) is in
          record {
            ready = one-full one.body (body-below board t.name node lies.site e.may.node_is e.may.is_let one.body one.among) parcel one.lay;
            body = one.body;
            among = one.among;
            done = found-done board t one.body new.me parcel one.found taken.start_is source;
          }

-- The child's parcel lay in its home.
pub opens-below : (board : Board Blueprint) (t : Stepping) (node : Node) (old : HandSeat) → MayOpen board t node old →
    (parcel : Delivery) (below body : Option Delivery) (middle new : HandSeat) → TakesChild board t (let_child node) below old middle →
    TakesBodies board t (bodies_of node) body middle new → below ≡ Some parcel →
    Opens board t node (Some parcel) body old new
opens-below board t node old may parcel below body middle new next took is =
    let e : HasEmptied board t node below body old new =
    record { may = may; middle = middle; next = next; last = new; took = took; since = changes-here board t.name new took.empties.keeps.stays.hand } in
    let inside = may.lies.inside in
    let kid = may.lies.kid in
    let lies = may.lies.is in
    let taken = open-taken board t inside new (empty board t node below body old new e inside kid lies) in
    record {
      taken = taken;
      child = has-below board t node below body old new e inside kid lies taken parcel is;
      body = has-body board t node below body old new e inside kid lies taken body refl;
      child_is = λ i k l. sym (child-lay board t node below body old new e i k l (Some parcel) is);
      body_is = λ i k l. of-bodies board t node below body old new e i k l body refl;
      none_is = no-bodies board t node below body old new e;
    }

-- Nothing lay there: the let may have kept one.
pub opens-kept : (board : Board Blueprint) (t : Stepping) (node : Node) (old : HandSeat) → MayOpen board t node old →
    (below body kept : Option Delivery) (middle last new : HandSeat) → TakesChild board t (let_child node) below old middle →
    TakesBodies board t (bodies_of node) body middle last → below ≡ None → TakesKept board t kept last new →
    Opens board t node kept body old new
opens-kept board t node old may below body kept middle last new next took none takes =
    let e : HasEmptied board t node below body old new =
    record { may = may; middle = middle; next = next; last = last; took = took; since = takes.keeps } in
    let inside = may.lies.inside in
    let kid = may.lies.kid in
    let lies = may.lies.is in
    let before = empty board t node below body old new e inside kid lies in
    let taken = unkept-taken board t inside last new before kept takes in
    let of = taken-of board t new taken node may.node_is in
    record {
      taken = taken;
      child = kept-has board t inside last new before kept takes (rests-one t.start node of.node_is (let-awaits node may.is_let)) may.of
          (λ silent. may.saw (sym (next.keeps.heard) ∙ sym (took.empties.keeps.heard) ∙ silent));
      body = has-body board t node below body old new e inside kid lies taken body refl;
      child_is = λ i k l.
          sym (child-lay board t node below body old new e i k l None none
          ∙ takes.lay i (left board t node below body old new e i k l) (third board t node below body old new e i k l));
      body_is = λ i k l. of-bodies board t node below body old new e i k l body refl;
      none_is = no-bodies board t node below body old new e;
    }

-- What is found of a node that awaits one child at a time.
use Rattle.std.proofs.Common.{◌≡◌, ℕ, true, false, List, refl, sym, ap, ◌∙◌, subst}
use Rattle.std.specs.Prelude.{Option, Some, None}
use Rattle.std.proofs.lemmas.Bool.{false≢true}
use Rattle.std.proofs.lemmas.Option.{same_Some}
use Rattle.life_rules.specs.declared.event.Name.{Name}
use Rattle.node_tree.specs.Tree.{is_child}
use Rattle.plan_shape.specs.Blueprint.{Blueprint}
use Rattle.table_steps.specs.Views.{Board}
use Rattle.home_items.specs.declared.entry.Entry.{Entry}
use Rattle.home_items.specs.declared.item.Item.{Item}
use Rattle.home_items.specs.declared.item.State.{State}
use Rattle.home_items.specs.declared.item.State.TheVariants.{Start as Begins}
use Rattle.home_items.specs.Contents.{Start, Rest, Done}
use Rattle.home_items.specs.Fits.{IsItemOf}
use Rattle.home_items.specs.Items.{start_in, parcel_in, saw_in, state_of, is_start, GoesOn}
use Rattle.home_items.specs.Parcels.{Delivery}
use Rattle.home_items.proofs.States.{state-start}
use Rattle.exec_recv.specs.Seats.{HandSeat}
use Rattle.exec_recv.specs.Sites.{node_at, MayStep}
use Rattle.exec_recv.specs.Steppable.{CanStep}
use Rattle.step_parts.specs.declared.found.Found.{Found}
use Rattle.step_parts.specs.declared.found.Found.TheVariants.{Begun, Back, Again}
use Rattle.step_parts.specs.Heard.{MaySee}
use Rattle.step_parts.specs.Stepping.{Stepping}
use Rattle.step_parts.specs.Takes.{IsOnlyChild, TakesOne, HasJustBegun, IsOpenWith, IsOpen, IsTaken, TakesKept, TakesBack, TakesState, TakesFound, TakesUp}
use Rattle.step_parts.proofs.Emptied.{awaiting-node}
use Rattle.step_parts.proofs.Ended.{opens, open-none}
use Rattle.step_parts.proofs.Took.{taken-of}
use Rattle.step_parts.proofs.Unkept.{rests-one, unkept-taken, kept-has}

start-so : (item : Item) (start : List Entry) → is_start item ≡ true → start_in item ≡ start → item ≡ Start start
start-so (Start s) start is same = ap Start same
start-so (Rest s kept) start is same = cc
start-so (Done parcel) start is same = cc

rest-so : (item : Item) (start : List Entry) (answer : Option Delivery) → GoesOn item → is_start item ≡ false → start_in item ≡ start →
    parcel_in item ≡ answer → item ≡ Rest start answer
rest-so (Start s) start answer goes_on is same keeps = cc
rest-so (Rest s kept) start answer goes_on is same keeps = rw (same, keeps) refl
rest-so (Done parcel) start answer goes_on is same keeps = absurd (goes_on tt)

module _ (board : Board Blueprint) (t : Stepping) where
  -- nothing lay in the child's home: what the node kept was taken
  module _ (child : Option ℕ) (one : TakesOne (node_at board t.name) child) (answer : Option Delivery) (old middle new : HandSeat)
      (is : IsOpen board t old) (lay : (inside : Item) (kid : ℕ → Option Item) → IsOpenWith board t inside kid old → (n : ℕ) → child ≡ Some n → kid n ≡ None)
      (empty : (inside : Item) (kid : ℕ → Option Item) → IsOpenWith board t inside kid old → IsOpenWith board t inside (λ _. None) middle)
      (sees : (inside : Item) → MaySee board t.name (saw_in inside) old.me → MaySee board t.name (saw_in inside) middle.me)
      (takes : TakesKept board t answer middle new) where
    again-taken : IsTaken board t new
    again-taken = unkept-taken board t is.inside middle new (empty is.inside is.kid is.is) answer takes

    found-again : TakesFound board t child (Again answer) old new
    found-again =
        let node = awaiting-node (node_at board t.name) child one in
        record {
          taken = again-taken;
          begun = refl;
          childless = λ none. refl;
          lay = lay;
          own = λ inside kid lies rests.
              rest-so inside t.start answer lies.midway.goes_on rests lies.midway.inside_is
              (takes.lay inside (λ _. None) (empty inside kid lies));
          parcel = λ inside kid lies of saw.
              kept-has board t inside middle new (empty inside kid lies) answer takes
              (rests-one t.start node.0 (taken-of board t new again-taken node.0 node.1).node_is node.2) of (sees inside saw);
        }

  -- a node with this child alone
  module _ (n : ℕ) (one : TakesOne (node_at board t.name) (Some n)) (old : HandSeat) where
    pub found-back : (parcel : Delivery) (new : HandSeat) → TakesBack board t n (Some parcel) old new → TakesFound board t (Some n) (Back parcel) old new
    found-back parcel new back =
        record {
          taken = back.taken;
          begun = refl;
          childless = λ none. cc;
          lay = λ inside kid lies k names.
              subst (λ i. kid i ≡ Some (Done parcel)) (same_Some n k names) (back.lay inside kid lies);
          own = λ inside kid lies rests. tt;
          parcel = λ inside kid lies of saw. back.parcel;
        }

    pub found-kept : (middle new : HandSeat) → IsOpen board t old → TakesBack board t n None old middle → (answer : Option Delivery) →
        TakesKept board t answer middle new → TakesFound board t (Some n) (Again answer) old new
    found-kept middle new is back answer takes =
        found-again (Some n) one answer old middle new is
        (λ inside kid lies k names. subst (λ i. kid i ≡ None) (same_Some n k names) (back.lay inside kid lies))
        back.own (λ inside may none. may (sym back.keeps.heard ∙ none)) takes

  -- a node with none
  pub found-own : (old new : HandSeat) → TakesOne (node_at board t.name) None → IsOnlyChild board t.name None → IsOpen board t old → (answer : Option Delivery) →
      TakesKept board t answer old new → TakesFound board t None (Again answer) old new
  found-own old new one only is answer takes =
      found-again None one answer old old new is (λ inside kid lies k names. cc)
      (λ inside kid lies. open-none board t inside kid old lies (λ k child. absurd (none-some k (only.only k child))))
      (λ inside may. may) takes
    where
      none-some : (k : ℕ) → None ≡ Some k → ⊥
      none-some k e = cc

no-start : (item : Item) (state : State) → state ≡ state_of item → (state ≡ Begins → ⊥) → is_start item ≡ false
no-start (Start start) state is other = absurd (other is)
no-start (Rest start kept) state is other = refl
no-start (Done parcel) state is other = refl

module _ (board : Board Blueprint) (x : Name) (child : Option ℕ) (old up : HandSeat) (may : MayStep board x old) (t : Stepping) (state : State)
    (takes : TakesState board x t state old up) where
  -- What was taken up can be looked into.
  pub up-opens : IsOpen board t up
  up-opens = opens board t may.can.item may.can.kid up (takes.opened may.can)

  pub up-only : IsOnlyChild board x child → IsOnlyChild board t.name child
  up-only only = subst (λ (y : Name). IsOnlyChild board y child) (sym takes.name_is) only

  pub up-one : TakesOne (node_at board x) child → TakesOne (node_at board t.name) child
  up-one one = subst (λ (y : Name). TakesOne (node_at board y) child) (sym takes.name_is) one

  -- the node has begun nothing yet
  pub up-new : state ≡ Begins → IsOnlyChild board x child → TakesUp board x child (record { taken = t; found = Begun }) old up
  up-new is only =
      let fresh = λ (can : CanStep board x old.me). state-start can.item (sym is ∙ takes.state_is can) in
      let taken = takes.fresh may.can (fresh may.can) in
      record {
        name_is = takes.name_is;
        from_is = takes.from_is;
        is = taken;
        parcel = tt;
        begun = λ new. subst (λ (y : Name). HasJustBegun board y up.me) (sym takes.name_is) (takes.begun may.can (fresh may.can));
        childless = λ none. refl;
        own = λ can. start-so can.item t.start (fresh can) (takes.opened can).midway.inside_is;
        lay = λ can n names.
            let below = subst (λ (y : Name). is_child board.frame.tree y.node n ≡ true) (sym takes.name_is) (only.is n names) in
            same_Some (can.kid n) None
            (sym ((takes.opened can).midway.tends.kids n below) ∙ taken.ready.is.tends.kids n below);
      }

  -- or it has begun, and this is found
  pub up-found : (state ≡ Begins → ⊥) → (found : Found) (new : HandSeat) → TakesFound board t child found up new →
      TakesUp board x child (record { taken = t; found = found }) old new
  up-found other found new finds =
      record {
        name_is = takes.name_is;
        from_is = takes.from_is;
        is = finds.taken;
        parcel = finds.parcel may.can.item may.can.kid (takes.opened may.can)
            (subst (λ (y : Name). IsItemOf may.can.item y.node) (sym takes.name_is) (takes.of may.can))
            (subst (λ (y : Name). MaySee board y (saw_in may.can.item) up.me) (sym takes.name_is) (takes.saw may.can));
        begun = λ new. absurd (false≢true (sym finds.begun ∙ new));
        childless = finds.childless;
        own = λ can. finds.own can.item can.kid (takes.opened can) (no-start can.item state (takes.state_is can) other);
        lay = λ can. finds.lay can.item can.kid (takes.opened can);
      }

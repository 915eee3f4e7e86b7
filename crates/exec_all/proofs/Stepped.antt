-- What the step of a `when_all` comes to, once it is taken up; and where it has begun, once the homes of its children are empty.
use Rattle.std.proofs.Common.{◌≡◌, ◌≢◌, inr, ℕ, true, false, List, refl, sym, ap, ◌∙◌, subst}
use Rattle.std.specs.Prelude.{Option, Some, None, IfSome}
use Rattle.std.proofs.lemmas.Bool.{both_ways}
use Rattle.std.proofs.lemmas.Option.{same_Some, IfSome_then}
use Rattle.exec_value.specs.declared.outcome.Completion.TheVariants.{Stopped}
use Rattle.life_rules.specs.declared.event.Name.{Name}
use Rattle.life_rules.specs.declared.event.Resting.TheVariants.{Loop as InLoop}
use Rattle.plan_rules.specs.declared.node.Node.{Node}
use Rattle.plan_rules.specs.declared.node.Node.TheVariants.{WhenAll}
use Rattle.plan_shape.specs.Blueprint.{Blueprint}
use Rattle.table_steps.specs.Views.{Board}
use Rattle.home_items.specs.declared.item.Item.{Item}
use Rattle.home_items.specs.declared.item.State.{State}
use Rattle.home_items.specs.declared.item.State.TheVariants.{Start as Begins}
use Rattle.home_items.specs.Contents.{Start, Rest, Done}
use Rattle.home_items.specs.Entries.{asked_of}
use Rattle.home_items.specs.Items.{is_start, state_of}
use Rattle.exec_recv.specs.declared.next.Next.{Next}
use Rattle.exec_recv.specs.Seats.{HandSeat}
use Rattle.exec_recv.specs.Sites.{node_at, MayStep, Steps}
use Rattle.step_parts.specs.Completes.{Completes}
use Rattle.step_parts.specs.Leaves.{MayLeave, LeavesAt}
use Rattle.step_parts.specs.Midway.{Ready}
use Rattle.step_parts.specs.Stepping.{Stepping}
use Rattle.step_parts.specs.Takes.{HasJustBegun, IsOpenWith, TakesState}
use Rattle.step_parts.proofs.Took.{taken-inner}
use Rattle.step_parts.proofs.Wanted.{bare-leaves}
use Rattle.exec_all.specs.declared.joining.Joining.{Joining}
use Rattle.exec_all.specs.Begins.{MayBegin}
use Rattle.exec_all.specs.Ends.{MayEndAll, EndsAll}
use Rattle.exec_all.specs.Kinds.{IsAll}
use Rattle.exec_all.specs.Opens.{AreTogether, HaveJoined, MayOpen, TakesAll}
use Rattle.exec_all.specs.Steps.{StepsBegun, StepsAll}
use Rattle.exec_all.proofs.Begun.{all-of}
use Rattle.exec_all.proofs.Opened.{can, lies, opened, awaited, have-joined}
use Rattle.exec_all.proofs.Plans.{rest-all}

some-none : (joining : Joining) → Some joining ≡ None → ⊥
some-none joining e = cc

module _ (board : Board Blueprint) (t : Stepping) (children : List ℕ) (up : HandSeat) (may : MayOpen board t children up)
    (all : Option Joining) (middle : HandSeat) (took : TakesAll board t children all up middle) where
  joined : (joining : Joining) → ((inside : Item) (kid : ℕ → Option Item) → IsOpenWith board t inside kid up → AreTogether kid children joining) →
      HaveJoined board t children joining middle.me
  joined joining found =
      let ended = found (can board t children up may).item (can board t children up may).kid (lies board t children up may) in
      have-joined board t children up may all middle took ended.0 joining ended.1

  all-joined : IfSome all (λ joining. HaveJoined board t children joining middle.me)
  all-joined = IfSome_then all took.found joined

  pub then-ends : asked_of t.start ≡ false → (joining : Joining) → all ≡ Some joining → MayEndAll board t joining middle
  then-ends unasked joining is =
      record {
        children = children;
        taken = opened board t children up may all middle took;
        node_is = may.node_is;
        ready = awaited board t children up may all middle took;
        unasked = unasked;
        have = subst (λ (o : Option Joining). IfSome o (λ j. HaveJoined board t children j middle.me)) is all-joined;
      }

  pub then-rests : MayLeave board t None middle
  then-rests =
      let taken = opened board t children up may all middle took in
      bare-leaves board t middle taken (taken-inner board t middle taken (WhenAll children) may.node_is)
      (subst (λ k. Ready board t.name t.start k middle.me)
      (sym (rest-all t.start children None (all-of board t children middle taken may.node_is)))
      (awaited board t children up may all middle took))

  -- how it went on
  module _ (next : Next) (new : HandSeat) where
    pub did-stop : asked_of t.start ≡ true → Completes board t Stopped false next middle new → StepsBegun board t children next up new
    did-stop asked completes =
        record {
          all = all;
          middle = middle;
          takes = took;
          taken = opened board t children up may all middle took;
          awaited = awaited board t children up may all middle took;
          joined = all-joined;
          stops = λ is. completes;
          ends = λ joining unasked is. absurd (both_ways (asked_of t.start) unasked asked);
          waits = λ unasked none. absurd (both_ways (asked_of t.start) unasked asked);
        }

    pub did-end : asked_of t.start ≡ false → (joining : Joining) → all ≡ Some joining → EndsAll board t joining next middle new →
        StepsBegun board t children next up new
    did-end unasked joining there ends =
        record {
          all = all;
          middle = middle;
          takes = took;
          taken = opened board t children up may all middle took;
          awaited = awaited board t children up may all middle took;
          joined = all-joined;
          stops = λ asked. absurd (both_ways (asked_of t.start) unasked asked);
          ends = λ other is at.
              subst (λ (j : Joining). EndsAll board t j next middle new) (same_Some joining other (sym there ∙ at)) ends;
          waits = λ is none. absurd (some-none joining (sym there ∙ none));
        }

    pub did-wait : asked_of t.start ≡ false → all ≡ None → LeavesAt board t None InLoop next middle new →
        StepsBegun board t children next up new
    did-wait unasked none leaves =
        record {
          all = all;
          middle = middle;
          takes = took;
          taken = opened board t children up may all middle took;
          awaited = awaited board t children up may all middle took;
          joined = all-joined;
          stops = λ asked. absurd (both_ways (asked_of t.start) unasked asked);
          ends = λ joining is there. absurd (some-none joining (sym there ∙ none));
          waits = λ is other. leaves;
        }

-- which nodes are stepped so
pub all-is : (o : Option Node) → IsAll o → (children : List ℕ) × (o ≡ Some (WhenAll children))
all-is None is = absurd is
all-is (Some (WhenAll children)) is = (children, refl)
all-is (Some node) is = absurd is

-- as its node was matched
pub all-so : (o : Option Node) (node : Node) (listed children : List ℕ) → o ≡ Some node → node ≡ WhenAll listed → children ≡ listed →
    o ≡ Some (WhenAll children)
all-so o node listed children at is same = at ∙ ap (λ (n : Node). Some n) is ∙ ap (λ (l : List ℕ). Some (WhenAll l)) (sym same)

begins-start : (item : Item) → state_of item ≡ Begins → is_start item ≡ true
begins-start (Start start) is = refl
begins-start (Rest start None) is = cc
begins-start (Rest start (Some parcel)) is = cc
begins-start (Done parcel) is = cc

-- A step that begins here takes up a `when_all`.
module _ (board : Board Blueprint) (x : Name) (children : List ℕ) (at : node_at board x ≡ Some (WhenAll children)) (t : Stepping) (state : State)
    (old up : HandSeat) (may : MayStep board x old) (takes : TakesState board x t state old up) where
  named : node_at board t.name ≡ Some (WhenAll children)
  named = ap (node_at board) takes.name_is ∙ at

  pub may-begin : state ≡ Begins → MayBegin board t children up
  may-begin is =
      let start = begins-start may.can.item (sym (takes.state_is may.can) ∙ is) in
      record {
        taken = takes.fresh may.can start;
        node_is = named;
        begun = subst (λ (y : Name). HasJustBegun board y up.me) (sym takes.name_is) (takes.begun may.can start);
      }

  pub may-open : state ≢ Begins → MayOpen board t children up
  may-open begun =
      record {
        may = subst (λ (h : HandSeat). MayStep board t.name h) (sym takes.from_is)
            (subst (λ (y : Name). MayStep board y old) (sym takes.name_is) may);
        state = state;
        up = subst (λ (h : HandSeat). TakesState board t.name t state h up) (sym takes.from_is)
            (subst (λ (y : Name). TakesState board y t state old up) (sym takes.name_is) takes);
        begun = begun;
        node_is = named;
      }

  -- what began and ended there is a step of the node
  pub steps-so : (next : Next) (new : HandSeat) → Steps board t.name next t.from new → Steps board x next old new
  steps-so next new steps =
      subst (λ (h : HandSeat). Steps board x next h new) takes.from_is
      (subst (λ (y : Name). Steps board y next t.from new) takes.name_is steps)

  pub steps-then : (next : Next) (new : HandSeat) → state ≢ Begins → StepsBegun board t children next up new → StepsAll board x next old new
  steps-then next new begun steps =
      record {
        children = children;
        node_is = at;
        does = inr (record { taken = t; state = state; up = up; takes = takes; begun = begun; steps = steps });
      }

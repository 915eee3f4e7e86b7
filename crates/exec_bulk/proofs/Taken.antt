-- A bulk was taken up: its step goes on by how far it has come.
use Rattle.std.proofs.Common.{◌≡◌, ◌≢◌, ℕ, Bool, true, false, Some, None, sym, ap, ◌∙◌, subst}
use Rattle.exec_job.specs.declared.job.Job.{Job}
use Rattle.life_rules.specs.declared.event.Name.{Name}
use Rattle.node_tree.specs.Tree.{is_child, is_root}
use Rattle.plan_rules.specs.declared.node.Node.TheVariants.{Bulk}
use Rattle.plan_shape.specs.Blueprint.{Blueprint}
use Rattle.table_steps.specs.Readings.{KnowsIdle}
use Rattle.table_steps.specs.Views.{Board}
use Rattle.home_items.specs.Contents.{Start, Rest, Done}
use Rattle.home_items.specs.declared.item.Item.{Item}
use Rattle.home_items.specs.declared.item.State.{State}
use Rattle.home_items.specs.declared.item.State.TheVariants.{Start as Begins, Rest as Rests, Kept}
use Rattle.home_items.specs.Entries.{asked_of}
use Rattle.home_items.specs.Items.{GoesOn, state_of}
use Rattle.home_items.proofs.States.{state-start}
use Rattle.exec_recv.specs.Seats.{HandSeat}
use Rattle.exec_recv.specs.Sites.{node_at}
use Rattle.exec_recv.specs.Steppable.{CanStep}
use Rattle.step_parts.specs.Starts.{MayRun}
use Rattle.step_parts.specs.Stepping.{Stepping}
use Rattle.step_parts.specs.Takes.{IsTaken, TakesState}
use Rattle.step_parts.proofs.Reading.{begun-idle}
use Rattle.step_parts.proofs.Took.{taken-inner}
use Rattle.exec_bulk.specs.Opens.{HasTakenUp}
use Rattle.exec_bulk.proofs.Going.{bulk-runs}
use Rattle.exec_bulk.proofs.Places.{bulk-child}

-- how far it has come, by its item
state-rest : (item : Item) → GoesOn item → (state : State) → state ≡ state_of item → state ≢ Begins → state ≢ Kept → state ≡ Rests
state-rest (Start start) on state is begins kept = absurd (begins is)
state-rest (Rest start None) on state is begins kept = is
state-rest (Rest start (Some parcel)) on state is begins kept = absurd (kept is)
state-rest (Done parcel) on state is begins kept = absurd (on tt)

module _ (board : Board Blueprint) (x : Name) (t : Stepping) (state : State) (old up : HandSeat) (takes : TakesState board x t state old up)
    (can : CanStep board x old.me) where
  -- of one that keeps no row, and has begun, nothing is kept
  pub takes-rest : state ≢ Begins → state ≢ Kept → state ≡ Rests
  takes-rest begins kept = state-rest can.item can.goes_on state (takes.state_is can) begins kept

  module _ (child : ℕ) (job : Job) (at : node_at board x ≡ Some (Bulk child job)) where
    its : node_at board t.name ≡ Some (Bulk child job)
    its = ap (node_at board) takes.name_is ∙ at

    pub taken-up : HasTakenUp board t child state up
    taken-up = record {
      before = old;
      can = subst (λ (y : Name). CanStep board y old.me) (sym takes.name_is) can;
      takes = subst (λ (y : Name). TakesState board y t state old up) (sym takes.name_is) takes;
      job = job;
      node_is = its;
    }

    pub rest-up : state ≢ Begins → state ≢ Kept → HasTakenUp board t child Rests up
    rest-up begins kept = subst (λ (s : State). HasTakenUp board t child s up) (takes-rest begins kept) taken-up

    -- one that has begun nothing may start its child
    module _ (new : state ≡ Begins) where
      fresh : IsTaken board t up
      fresh = takes.fresh can (state-start can.item (sym new ∙ takes.state_is can))

      pub new-inner : is_root board.frame.tree t.name.node ≡ false
      new-inner = taken-inner board t up fresh (Bulk child job) its

      pub new-runs : (asked : Bool) → asked ≡ asked_of t.start → MayRun board t child asked up
      new-runs asked asked_is = bulk-runs board t child job up fresh its asked asked_is

      pub new-idle : KnowsIdle t.name child up.me
      new-idle =
          subst (λ (y : Name). KnowsIdle y child up.me) (sym takes.name_is)
          (begun-idle board x child up.me
          (subst (λ (y : Name). is_child board.frame.tree y.node child ≡ true) takes.name_is
          (bulk-child board t.name child job fresh.site its))
          (takes.begun can (state-start can.item (sym new ∙ takes.state_is can))))

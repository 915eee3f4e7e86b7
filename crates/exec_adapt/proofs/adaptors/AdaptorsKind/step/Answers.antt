use Rattle.std.proofs.Common.{inl, inr, sym, ◌∙◌, subst}
use Rattle.home_items.specs.declared.item.State.{State}
use Rattle.step_parts.specs.Takes.{TakesState}
use Rattle.step_parts.proofs.Started.{starts-steps}
use Rattle.exec_adapt.specs.Kinds.{IsAdaptor, IsAdaptorNode}
use Rattle.exec_adapt.proofs.Adapting.{first-inner, first-runs, first-idle, taken-goes}
use Rattle.exec_adapt.proofs.Places.{adaptor-at, adaptor-some}
use Rattle.exec_adapt.proofs.Stepped.{steps-as, goes-steps}
use Rattle.exec_adapt.proofs.adaptors.AdaptorsKind.step.Goals as goal

pub node-node-requires : goal.node-node-requires
node-node-requires g c = adaptor-at _ c.requires.kind

pub unreachable-requires : goal.unreachable-requires
unreachable-requires g c =
    let is : IsAdaptor c.node-node.result.now = subst IsAdaptorNode c.node-node.ensures c.requires.kind in
    adaptor-some c.node-node.result.now is (sym c.adapted.ensures ∙ c.in_default.is)

pub take_up-taken-requires : goal.take_up-taken-requires
take_up-taken-requires g c = record { may = c.requires.may }

pub start_child-requires-clause-inner : goal.start_child-requires-clause-inner
start_child-requires-clause-inner g c =
    first-inner _ _ _ _ c.node-node.ensures (sym c.adapted.ensures ∙ c.in-Some.is) _ _ _ _ c.take_up-taken.ensures c.requires.may c.in-Start.is

pub start_child-requires-clause-may : goal.start_child-requires-clause-may
start_child-requires-clause-may g c =
    first-runs _ _ _ _ c.node-node.ensures (sym c.adapted.ensures ∙ c.in-Some.is) _ _ _ _ c.take_up-taken.ensures c.requires.may c.in-Start.is
    c.asked-asked.result c.asked-asked.ensures

pub start_child-requires-clause-idle : goal.start_child-requires-clause-idle
start_child-requires-clause-idle g c =
    first-idle _ _ _ _ c.node-node.ensures (sym c.adapted.ensures ∙ c.in-Some.is) _ _ _ _ c.take_up-taken.ensures c.requires.may c.in-Start.is

pub go_on-requires : goal.go_on-requires
go_on-requires g c = record {
  may = taken-goes _ _ _ _ c.node-node.ensures (sym c.adapted.ensures ∙ c.in-Some.is) _ _ _ _ c.take_up-taken.ensures c.requires.may;
}

pub returns-in-Start-clause-steps : goal.returns-in-Start-clause-steps
returns-in-Start-clause-steps g c = steps-as _ _ _ _ _ _ c.take_up-taken.ensures _ _ (starts-steps _ _ _ _ _ _ c.start_child.ensures)

pub returns-in-Start-clause-does : goal.returns-in-Start-clause-does
returns-in-Start-clause-does g c =
    record {
      node = c.node-node.result.now;
      node_is = c.node-node.ensures;
      child = c.in-Some.child;
      child_is = sym c.adapted.ensures ∙ c.in-Some.is;
      does = inl (record {
        taken = c.take_up-taken.result.0;
        up = c.take_up-taken.new.hand;
        takes = subst
            (λ (s : State). TakesState c.args.site.now c.args.name c.take_up-taken.result.0 s c.args.hand.now c.take_up-taken.new.hand)
            c.in-Start.is c.take_up-taken.ensures;
        starts = c.start_child.ensures;
      });
    }

pub returns-in_default-state : goal.returns-in_default-state
returns-in_default-state g c =
    record {
      steps = steps-as _ _ _ _ _ _ c.take_up-taken.ensures _ _ (goes-steps _ _ _ _ _ _ _ c.go_on.ensures);
      does = record {
        node = c.node-node.result.now;
        node_is = c.node-node.ensures;
        child = c.in-Some.child;
        child_is = sym c.adapted.ensures ∙ c.in-Some.is;
        does = inr (record {
          taken = c.take_up-taken.result.0;
          state = c.take_up-taken.result.1;
          up = c.take_up-taken.new.hand;
          takes = c.take_up-taken.ensures;
          begun = c.in_default-state.not-Start;
          goes_on = c.go_on.ensures;
        });
      };
    }

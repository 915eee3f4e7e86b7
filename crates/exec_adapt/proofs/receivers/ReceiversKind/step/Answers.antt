use Rattle.std.proofs.Common.{inl, inr, sym, ◌∙◌, subst}
use Rattle.home_items.specs.declared.item.State.{State}
use Rattle.step_parts.specs.Takes.{TakesState}
use Rattle.step_parts.proofs.Started.{top-steps}
use Rattle.exec_adapt.proofs.Places.{receiver-at}
use Rattle.exec_adapt.proofs.Receiving.{taken-names, taken-top, first-root, first-runs, first-idle, taken-receives}
use Rattle.exec_adapt.proofs.Stepped.{steps-as, receives-steps}
use Rattle.exec_adapt.proofs.receivers.ReceiversKind.step.Goals as goal

pub take_up_top-taken-requires : goal.take_up_top-taken-requires
take_up_top-taken-requires g c = record { may = c.requires.may }

pub unreachable-requires : goal.unreachable-requires
unreachable-requires g c =
    taken-names _ _ _ _ _ _ c.take_up_top-taken.ensures.takes c.requires.may (receiver-at _ c.requires.kind)
    (sym c.take_up_top-taken.ensures.child ∙ c.in_default.is)

pub start_top-requires-clause-root : goal.start_top-requires-clause-root
start_top-requires-clause-root g c =
    first-root _ _ _ _ _ _ c.take_up_top-taken.ensures.takes c.requires.may (receiver-at _ c.requires.kind) c.in-Start.is c.in-Some.child
    (sym c.take_up_top-taken.ensures.child ∙ c.in-Some.is)

pub start_top-requires-clause-may : goal.start_top-requires-clause-may
start_top-requires-clause-may g c =
    first-runs _ _ _ _ _ _ c.take_up_top-taken.ensures.takes c.requires.may (receiver-at _ c.requires.kind) c.in-Start.is c.in-Some.child
    (sym c.take_up_top-taken.ensures.child ∙ c.in-Some.is)

pub start_top-requires-clause-idle : goal.start_top-requires-clause-idle
start_top-requires-clause-idle g c =
    first-idle _ _ _ _ _ _ c.take_up_top-taken.ensures.takes c.requires.may (receiver-at _ c.requires.kind) c.in-Start.is c.in-Some.child
    (sym c.take_up_top-taken.ensures.child ∙ c.in-Some.is)

pub receive-requires : goal.receive-requires
receive-requires g c = record {
  may = taken-receives _ _ _ _ _ _ c.take_up_top-taken.ensures.takes c.requires.may (receiver-at _ c.requires.kind) c.in-Some.child
      (sym c.take_up_top-taken.ensures.child ∙ c.in-Some.is) c.in_default-state.not-Start;
}

pub returns-in-Start-clause-steps : goal.returns-in-Start-clause-steps
returns-in-Start-clause-steps g c = steps-as _ _ _ _ _ _ c.take_up_top-taken.ensures.takes _ _ (top-steps _ _ _ _ _ _ c.start_top.ensures)

pub returns-in-Start-clause-does : goal.returns-in-Start-clause-does
returns-in-Start-clause-does g c =
    let names = sym c.take_up_top-taken.ensures.child ∙ c.in-Some.is in
    record {
      child = c.in-Some.child;
      top = taken-top _ _ _ _ _ _ c.take_up_top-taken.ensures.takes c.requires.may (receiver-at _ c.requires.kind) c.in-Some.child names;
      does = inl (record {
        taken = c.take_up_top-taken.result.0;
        up = c.take_up_top-taken.new.hand;
        takes = subst
            (λ (s : State). TakesState c.args.site.now c.args.name c.take_up_top-taken.result.0 s c.args.hand.now c.take_up_top-taken.new.hand)
            c.in-Start.is c.take_up_top-taken.ensures.takes;
        names = names;
        starts = c.start_top.ensures;
      });
    }

pub returns-in_default-state : goal.returns-in_default-state
returns-in_default-state g c =
    let names = sym c.take_up_top-taken.ensures.child ∙ c.in-Some.is in
    record {
      steps = steps-as _ _ _ _ _ _ c.take_up_top-taken.ensures.takes _ _ (receives-steps _ _ _ _ _ _ c.receive.ensures);
      does = record {
        child = c.in-Some.child;
        top = taken-top _ _ _ _ _ _ c.take_up_top-taken.ensures.takes c.requires.may (receiver-at _ c.requires.kind) c.in-Some.child names;
        does = inr (record {
          taken = c.take_up_top-taken.result.0;
          state = c.take_up_top-taken.result.1;
          up = c.take_up_top-taken.new.hand;
          takes = c.take_up_top-taken.ensures.takes;
          begun = c.in_default-state.not-Start;
          names = names;
          receives = c.receive.ensures;
        });
      };
    }

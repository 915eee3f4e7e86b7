use Rattle.std.proofs.Common.{Some, sym, ap, ◌∙◌, subst, refl}
use Rattle.exec_value.specs.declared.outcome.Completion.TheVariants.{Value}
use Rattle.exec_value.specs.declared.data.Datum.{Datum}
use Rattle.std.proofs.Common.{List, false}
use Rattle.plan_rules.specs.declared.node.Node.{Node}
use Rattle.step_parts.specs.Completes.{Completes}
use Rattle.exec_adapt.specs.Adapts.{MakesAs}
use Rattle.exec_adapt.specs.Kinds.{IsFactory, IsFactoryNode}
use Rattle.exec_adapt.proofs.MakingOwn.{leaf-at, leaf-taken, input-carries, input-ends, error-names, other-made, made-as}
use Rattle.exec_adapt.proofs.Places.{factory-at}
use Rattle.exec_adapt.proofs.Stepped.{steps-as, answer-steps, with-steps}
use Rattle.exec_adapt.proofs.factories.FactoriesKind.step.Goals as goal

pub node-node-requires : goal.node-node-requires
node-node-requires g c = factory-at _ c.requires.kind

pub take_up-taken-requires : goal.take_up-taken-requires
take_up-taken-requires g c = record { may = c.requires.may }

pub complete_with_args-requires : goal.complete_with_args-requires
complete_with_args-requires g c =
    let is : IsFactory c.node-node.result.now = subst IsFactoryNode c.node-node.ensures c.requires.kind in
    let took = c.take_up-taken.ensures in
    record {
      may = input-ends _ _ _ (leaf-taken _ _ _ c.node-node.ensures is _ _ _ _ took c.requires.may)
          (leaf-at _ _ _ c.node-node.ensures is _ _ _ _ took c.requires.may ∙ ap (λ (n : Node). Some n) c.in-Input.is);
    }

pub complete_named-requires : goal.complete_named-requires
complete_named-requires g c =
    let is : IsFactory c.node-node.result.now = subst IsFactoryNode c.node-node.ensures c.requires.kind in
    let took = c.take_up-taken.ensures in
    record {
      may = error-names _ _ _ (leaf-taken _ _ _ c.node-node.ensures is _ _ _ _ took c.requires.may) c.in-JustError.error
          (leaf-at _ _ _ c.node-node.ensures is _ _ _ _ took c.requires.may ∙ ap (λ (n : Node). Some n) c.in-JustError.is);
    }

pub answer-requires : goal.answer-requires
answer-requires g c =
    let is : IsFactory c.node-node.result.now = subst IsFactoryNode c.node-node.ensures c.requires.kind in
    let took = c.take_up-taken.ensures in
    record {
      may = record {
        taken = leaf-taken _ _ _ c.node-node.ensures is _ _ _ _ took c.requires.may;
        node_is = leaf-at _ _ _ c.node-node.ensures is _ _ _ _ took c.requires.may;
        query_is = c.in-ReadEnv.is;
      };
    }

pub make_own-requires : goal.make_own-requires
make_own-requires g c =
    let is : IsFactory c.node-node.result.now = subst IsFactoryNode c.node-node.ensures c.requires.kind in
    let took = c.take_up-taken.ensures in
    record {
      may = record {
        taken = leaf-taken _ _ _ c.node-node.ensures is _ _ _ _ took c.requires.may;
        node_is = leaf-at _ _ _ c.node-node.ensures is _ _ _ _ took c.requires.may;
        made = other-made c.node-node.result.now is c.in_default.not-Input c.in_default.not-JustError;
        sees = λ none. refl;
        stop_is = λ stop. absurd (c.in_default.not-ReadEnv _ stop);
      };
    }

pub returns-in-Input-clause-steps : goal.returns-in-Input-clause-steps
returns-in-Input-clause-steps g c = steps-as _ _ _ _ _ _ c.take_up-taken.ensures _ _ c.complete_with_args.ensures.steps

pub returns-in-JustError-clause-steps : goal.returns-in-JustError-clause-steps
returns-in-JustError-clause-steps g c =
    steps-as _ _ _ _ _ _ c.take_up-taken.ensures _ _ c.complete_named.ensures.steps

pub returns-in-ReadEnv-clause-steps : goal.returns-in-ReadEnv-clause-steps
returns-in-ReadEnv-clause-steps g c =
    steps-as _ _ _ _ _ _ c.take_up-taken.ensures _ _ (answer-steps _ _ _ _ _ c.in-ReadEnv.query c.answer.ensures)

pub returns-in_default-clause-steps : goal.returns-in_default-clause-steps
returns-in_default-clause-steps g c =
    steps-as _ _ _ _ _ _ c.take_up-taken.ensures _ _ (with-steps _ _ _ _ _ _ _ c.make_own.ensures)

pub returns-in-Input-clause-does : goal.returns-in-Input-clause-does
returns-in-Input-clause-does g c =
    let is : IsFactory c.node-node.result.now = subst IsFactoryNode c.node-node.ensures c.requires.kind in
    let took = c.take_up-taken.ensures in
    let at = leaf-at _ _ _ c.node-node.ensures is _ _ _ _ took c.requires.may ∙ ap (λ (n : Node). Some n) c.in-Input.is in
    record {
      node = c.node-node.result.now;
      node_is = c.node-node.ensures;
      taken = c.take_up-taken.result.0;
      state = c.take_up-taken.result.1;
      up = c.take_up-taken.new.hand;
      takes = took;
      makes = subst
          (λ (n : Node). MakesAs c.args.site.now c.take_up-taken.result.0 n c.complete_with_args.result c.take_up-taken.new.hand c.complete_with_args.new.hand)
          (sym c.in-Input.is)
          (subst
          (λ (values : List Datum). Completes c.args.site.now c.take_up-taken.result.0 (Value values) false c.complete_with_args.result c.take_up-taken.new.hand c.complete_with_args.new.hand)
          (input-carries _ _ _ (leaf-taken _ _ _ c.node-node.ensures is _ _ _ _ took c.requires.may) at) c.complete_with_args.ensures);
    }

pub returns-in-JustError-clause-does : goal.returns-in-JustError-clause-does
returns-in-JustError-clause-does g c =
    record {
      node = c.node-node.result.now;
      node_is = c.node-node.ensures;
      taken = c.take_up-taken.result.0;
      state = c.take_up-taken.result.1;
      up = c.take_up-taken.new.hand;
      takes = c.take_up-taken.ensures;
      makes = subst
          (λ (n : Node). MakesAs c.args.site.now c.take_up-taken.result.0 n c.complete_named.result c.take_up-taken.new.hand c.complete_named.new.hand)
          (sym c.in-JustError.is) c.complete_named.ensures;
    }

pub returns-in-ReadEnv-clause-does : goal.returns-in-ReadEnv-clause-does
returns-in-ReadEnv-clause-does g c =
    record {
      node = c.node-node.result.now;
      node_is = c.node-node.ensures;
      taken = c.take_up-taken.result.0;
      state = c.take_up-taken.result.1;
      up = c.take_up-taken.new.hand;
      takes = c.take_up-taken.ensures;
      makes = subst
          (λ (n : Node). MakesAs c.args.site.now c.take_up-taken.result.0 n c.answer.result c.take_up-taken.new.hand c.answer.new.hand)
          (sym c.in-ReadEnv.is) c.answer.ensures;
    }

pub returns-in_default-clause-does : goal.returns-in_default-clause-does
returns-in_default-clause-does g c =
    record {
      node = c.node-node.result.now;
      node_is = c.node-node.ensures;
      taken = c.take_up-taken.result.0;
      state = c.take_up-taken.result.1;
      up = c.take_up-taken.new.hand;
      takes = c.take_up-taken.ensures;
      makes = made-as _ _ _ _ _ c.node-node.result.now (subst IsFactoryNode c.node-node.ensures c.requires.kind)
          c.in_default.not-Input c.in_default.not-JustError c.in_default.not-ReadEnv c.make_own.ensures;
    }

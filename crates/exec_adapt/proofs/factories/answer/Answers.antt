use Rattle.std.proofs.Common.{Bool, false, ◌||◌, sym, ap, ◌∙◌, subst}
use Rattle.plan_rules.specs.declared.node.Node.{Node}
use Rattle.plan_rules.specs.declared.node.Node.TheVariants.{ReadEnv}
use Rattle.plan_rules.specs.declared.node.Query.{Query}
use Rattle.plan_rules.specs.declared.node.Query.TheVariants.{Stop}
use Rattle.exec_adapt.specs.Adapts.{Answers, Makes}
use Rattle.exec_adapt.proofs.MakingOwn.{answer-looks, answer-tells}
use Rattle.exec_adapt.proofs.factories.answer.Goals as goal

pub hear-saw-requires : goal.hear-saw-requires
hear-saw-requires g c = record { taken = c.requires.may.taken }

pub make_own-requires : goal.make_own-requires
make_own-requires g c = record {
  may = answer-looks _ _ _ _ _ c.requires.may c.hear-saw.result c.hear-saw.new.hand c.hear-saw.ensures.keeps c.hear-saw.ensures.looked
      c.either-stop.result (c.either-stop.ensures ∙ ap (λ (b : Bool). b || c.hear-saw.result) c.asked.ensures);
}

pub make_own-requires-in-Record : goal.make_own-requires-in-Record
make_own-requires-in-Record g c = record { may = answer-tells _ _ _ _ _ c.requires.may c.in-Record.is }

pub returns-in-Stop : goal.returns-in-Stop
returns-in-Stop g c =
    let stop = c.either-stop.ensures ∙ ap (λ (b : Bool). b || c.hear-saw.result) c.asked.ensures in
    subst (λ (q : Query). Answers c.args.site.now c.args.taken q c.make_own.result c.args.hand.now c.make_own.new.hand) (sym c.in-Stop.is)
    (record {
      saw = c.hear-saw.result;
      middle = c.hear-saw.new.hand;
      looked = c.hear-saw.ensures.looked;
      makes = subst
          (λ (b : Bool). Makes c.args.site.now c.args.taken (ReadEnv Stop) b c.hear-saw.result c.make_own.result c.hear-saw.new.hand c.make_own.new.hand) stop
          (subst
          (λ (n : Node). Makes c.args.site.now c.args.taken n c.either-stop.result c.hear-saw.result c.make_own.result c.hear-saw.new.hand c.make_own.new.hand)
          (c.requires.may.query_is ∙ ap (λ (q : Query). ReadEnv q) c.in-Stop.is) c.make_own.ensures);
    })

pub returns-in-Record : goal.returns-in-Record
returns-in-Record g c =
    subst (λ (q : Query). Answers c.args.site.now c.args.taken q c.make_own-in-Record.result c.args.hand.now c.make_own-in-Record.new.hand)
    (sym c.in-Record.is)
    (subst (λ (n : Node). Makes c.args.site.now c.args.taken n false false c.make_own-in-Record.result c.args.hand.now c.make_own-in-Record.new.hand)
    (c.requires.may.query_is ∙ ap (λ (q : Query). ReadEnv q) c.in-Record.is) c.make_own-in-Record.ensures)

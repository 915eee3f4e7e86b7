use Rattle.std.proofs.Common.{◌≡◌, ◌||◌, sym, ap, ◌∙◌, subst}
use Rattle.exec_value.specs.declared.outcome.Completion.{Completion}
use Rattle.plan_rules.specs.Settle.{unless_asked}
use Rattle.exec_value.specs.declared.outcome.Completion.TheVariants.{Value}
use Rattle.std.specs.Prelude.{[]}
use Rattle.home_items.specs.Entries.{asked_of}
use Rattle.exec_recv.specs.Sites.{node_at}
use Rattle.step_parts.specs.Completes.{Completes}
use Rattle.step_parts.proofs.Asked.{look-sees}
use Rattle.step_parts.proofs.Ended.{taken-on}
use Rattle.exec_hop.proofs.Landed.{schedule-ends}
use Rattle.exec_hop.proofs.Taken.{schedule-of}
use Rattle.exec_hop.proofs.schedule.finish.Goals.{then-asked, else-asked}
use Rattle.exec_hop.proofs.schedule.finish.Goals as goal

pub complete-requires : goal.complete-requires
complete-requires g c =
    let board = c.args.site.now in
    let saw = c.hear-saw.result in
    let kind = schedule-of (node_at board c.args.taken.name) c.requires.may.kind in
    let stops : c.if-asked.stops ≡ (asked_of c.args.taken.start || saw) =
    elim c.if-asked.branch [
      | then-asked w ↦ w.stops-is ∙ w.if-asked.true ∙ ap (λ b. b || saw) (sym w.if-asked.true ∙ c.asked.ensures)
      | else-asked w ↦ w.stops-is ∙ ap (λ b. b || saw) (sym w.if-asked.false ∙ c.asked.ensures)
    ] in
    record {
      may = schedule-ends board c.args.taken c.hear-saw.new.hand
          (taken-on board c.args.taken c.args.hand.now c.hear-saw.new.hand c.hear-saw.ensures.keeps c.requires.may.taken) kind.0 kind.1 saw
          (look-sees board c.args.taken.name saw c.args.hand.now.me c.hear-saw.new.hand.me c.hear-saw.ensures.looked) c.put_scheduled.new.done
          (c.put_scheduled.ensures ∙ ap (λ b. unless_asked b (Value [])) stops);
    }

pub returns : goal.returns
returns g c =
    let board = c.args.site.now in
    let saw = c.hear-saw.result in
    let stops : c.if-asked.stops ≡ (asked_of c.args.taken.start || saw) =
    elim c.if-asked.branch [
      | then-asked w ↦ w.stops-is ∙ w.if-asked.true ∙ ap (λ b. b || saw) (sym w.if-asked.true ∙ c.asked.ensures)
      | else-asked w ↦ w.stops-is ∙ ap (λ b. b || saw) (sym w.if-asked.false ∙ c.asked.ensures)
    ] in
    record {
      saw = saw;
      middle = c.hear-saw.new.hand;
      looked = c.hear-saw.ensures.looked;
      completes = subst
          (λ (d : Completion). Completes board c.args.taken d saw c.complete.result c.hear-saw.new.hand c.complete.new.hand)
          (c.put_scheduled.ensures ∙ ap (λ b. unless_asked b (Value [])) stops) c.complete.ensures;
    }

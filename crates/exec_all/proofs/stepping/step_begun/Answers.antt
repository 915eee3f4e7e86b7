use Rattle.std.proofs.Common.{sym, ◌∙◌}
use Rattle.exec_all.proofs.Begun.{asked-stops}
use Rattle.exec_all.proofs.Opened.{up-open, up-kids, opened}
use Rattle.exec_all.proofs.Stepped.{then-ends, then-rests, did-stop, did-end, did-wait}
use Rattle.exec_all.proofs.stepping.step_begun.Goals as goal

pub take_all-all-requires-clause-kids : goal.take_all-all-requires-clause-kids
take_all-all-requires-clause-kids g c = up-kids c.args.site.now c.args.taken c.args.children.now c.args.hand.now c.requires.may

pub take_all-all-requires-clause-opened : goal.take_all-all-requires-clause-opened
take_all-all-requires-clause-opened g c = up-open c.args.site.now c.args.taken c.args.children.now c.args.hand.now c.requires.may

pub complete_stopped-requires : goal.complete_stopped-requires
complete_stopped-requires g c =
    let may = c.requires.may in
    record {
      may = asked-stops c.args.site.now c.args.taken c.args.children.now c.take_all-all.new.hand
          (opened c.args.site.now c.args.taken c.args.children.now c.args.hand.now may c.take_all-all.result c.take_all-all.new.hand
          c.take_all-all.ensures)
          may.node_is (sym c.asked.ensures ∙ c.if-asked.true);
    }

pub end_all-requires : goal.end_all-requires
end_all-requires g c =
    record {
      may = then-ends c.args.site.now c.args.taken c.args.children.now c.args.hand.now c.requires.may c.take_all-all.result c.take_all-all.new.hand
          c.take_all-all.ensures (sym c.asked.ensures ∙ c.if-asked.false) c.in-Some.joining c.in-Some.is;
    }

pub leave_at_rest-requires : goal.leave_at_rest-requires
leave_at_rest-requires g c =
    record {
      may = then-rests c.args.site.now c.args.taken c.args.children.now c.args.hand.now c.requires.may c.take_all-all.result c.take_all-all.new.hand
          c.take_all-all.ensures;
    }

pub returns-then-asked-clause-does : goal.returns-then-asked-clause-does
returns-then-asked-clause-does g c =
    did-stop c.args.site.now c.args.taken c.args.children.now c.args.hand.now c.requires.may c.take_all-all.result c.take_all-all.new.hand
    c.take_all-all.ensures c.complete_stopped.result c.complete_stopped.new.hand (sym c.asked.ensures ∙ c.if-asked.true)
    c.complete_stopped.ensures

pub returns-in-Some-clause-does : goal.returns-in-Some-clause-does
returns-in-Some-clause-does g c =
    did-end c.args.site.now c.args.taken c.args.children.now c.args.hand.now c.requires.may c.take_all-all.result c.take_all-all.new.hand
    c.take_all-all.ensures c.end_all.result c.end_all.new.hand (sym c.asked.ensures ∙ c.if-asked.false) c.in-Some.joining c.in-Some.is
    c.end_all.ensures.ends

pub returns-in-None-clause-does : goal.returns-in-None-clause-does
returns-in-None-clause-does g c =
    did-wait c.args.site.now c.args.taken c.args.children.now c.args.hand.now c.requires.may c.take_all-all.result c.take_all-all.new.hand
    c.take_all-all.ensures c.leave_at_rest.result c.leave_at_rest.new.hand (sym c.asked.ensures ∙ c.if-asked.false) c.in-None.is
    c.leave_at_rest.ensures

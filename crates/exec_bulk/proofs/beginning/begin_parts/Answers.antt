use Rattle.std.proofs.lemmas.Bool.{both_ways}
use Rattle.step_parts.proofs.Ended.{taken-on}
use Rattle.exec_bulk.proofs.Begun.{may-start}
use Rattle.exec_bulk.proofs.Ended.{want-ends}
use Rattle.exec_bulk.proofs.beginning.begin_parts.Goals as goal

pub want_memory-requires : goal.want_memory-requires
want_memory-requires g c =
    let on = c.requires.may.goes_on in
    record { may = want-ends _ _ on.child on.job _ (taken-on _ _ _ _ c.may_rest_on.ensures.keeps on.taken) on.node_is }

pub start_parts-requires : goal.start_parts-requires
start_parts-requires g c =
    record {
      may = may-start _ _ _ _ c.requires.may _ _ (rw c.saw-saw.ensures at c.may_rest_on.ensures) c.if-not-may_rest_on.false _ c.row_of-row.ensures;
    }

pub returns-then-not-may_rest_on : goal.returns-then-not-may_rest_on
returns-then-not-may_rest_on g c =
    record {
      answer = c.may_rest_on.result;
      middle = c.may_rest_on.new.hand;
      looks = rw c.saw-saw.ensures at c.may_rest_on.ensures;
      starts = λ yes. absurd (both_ways c.may_rest_on.result c.if-not-may_rest_on.true yes);
      wants = λ _. c.want_memory.ensures;
    }

pub returns : goal.returns
returns g c =
    record {
      answer = c.may_rest_on.result;
      middle = c.may_rest_on.new.hand;
      looks = rw c.saw-saw.ensures at c.may_rest_on.ensures;
      starts = λ _. c.start_parts.ensures;
      wants = λ no. absurd (both_ways c.may_rest_on.result no c.if-not-may_rest_on.false);
    }

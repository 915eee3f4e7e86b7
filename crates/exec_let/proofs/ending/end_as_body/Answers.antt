use Rattle.exec_let.proofs.Ended.{body-ends}
use Rattle.exec_let.proofs.ending.end_as_body.Goals as goal

pub complete-requires : goal.complete-requires
complete-requires g c = record {
  may = body-ends _ _ _ _ _ c.requires.may c.hear-saw.ensures.keeps c.hear-saw.result c.hear-saw.ensures.looked;
}

pub returns-clause-ends : goal.returns-clause-ends
returns-clause-ends g c = record {
  saw = c.hear-saw.result;
  middle = c.hear-saw.new.hand;
  looked = c.hear-saw.ensures.looked;
  completes = c.complete.ensures;
}

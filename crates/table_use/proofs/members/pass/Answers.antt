use Rattle.table_use.proofs.members.pass.Goals as goal

pub returns-in-Ok-clause-passed : goal.returns-in-Ok-clause-passed
returns-in-Ok-clause-passed c =
    record {
      place = c.in-Ok.association;
      middle = c.enter.new.hand.me;
      came = c.in-Ok.ensures.associated;
      went = c.leave.ensures.left;
    }

pub returns-in-Err-clause-passed : goal.returns-in-Err-clause-passed
returns-in-Err-clause-passed c = c.in-Err.ensures.associated

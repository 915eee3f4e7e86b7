use Rattle.plan_reader.proofs.AnswerLemmas.{no_elements}
use Rattle.plan_reader.proofs.read.check_kinds.Goals as goal

pub returns-else-found-clause-err : goal.returns-else-found-clause-err
returns-else-found-clause-err c = no_elements c.args.found.now c.if-found.false

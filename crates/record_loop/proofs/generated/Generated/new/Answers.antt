use Rattle.record_loop.proofs.GeneratedLaws.{text-lines, text-within}
use Rattle.record_loop.proofs.generated.Generated.new.Goals as goal

pub returns-in_err-new-clause-lines : goal.returns-in_err-new-clause-lines
returns-in_err-new-clause-lines c = text-lines c.args.kind c.args.count

pub returns-in_err-new-clause-within : goal.returns-in_err-new-clause-within
returns-in_err-new-clause-within c = text-within c.args.kind c.args.count c.requires.few

pub returns-clause-lines : goal.returns-clause-lines
returns-clause-lines c = text-lines c.args.kind c.args.count

pub returns-clause-within : goal.returns-clause-within
returns-clause-within c = text-within c.args.kind c.args.count c.requires.few

use Rattle.join_commands.proofs.NoteLaws.{of_cause}
use Rattle.join_commands.proofs.refusal.put_cause.Goals as goal

pub returns-in-NoStatus : goal.returns-in-NoStatus
returns-in-NoStatus g c = of_cause c.args.names.now c.args.name.now _ _ c.in-NoStatus.is c.put_bytes.ensures

pub returns-in-NoLines : goal.returns-in-NoLines
returns-in-NoLines g c = of_cause c.args.names.now c.args.name.now _ _ c.in-NoLines.is c.put_bytes-in-NoLines.ensures

pub returns-in-StatusIsnt : goal.returns-in-StatusIsnt
returns-in-StatusIsnt g c = of_cause c.args.names.now c.args.name.now _ _ c.in-StatusIsnt.is c.put_said.ensures

pub returns-in-NotLine : goal.returns-in-NotLine
returns-in-NotLine g c = of_cause c.args.names.now c.args.name.now _ _ c.in-NotLine.is c.put_not_line.ensures

pub returns-in-StatusDiffers : goal.returns-in-StatusDiffers
returns-in-StatusDiffers g c = of_cause c.args.names.now c.args.name.now _ _ c.in-StatusDiffers.is c.put_differs.ensures

pub returns-in-NoSummary : goal.returns-in-NoSummary
returns-in-NoSummary g c = of_cause c.args.names.now c.args.name.now _ _ c.in-NoSummary.is c.put_bytes-in-NoSummary.ensures

pub returns-in-Contradicts : goal.returns-in-Contradicts
returns-in-Contradicts g c = of_cause c.args.names.now c.args.name.now _ _ c.in-Contradicts.is c.put_contradiction.ensures

pub returns-in-TooLarge : goal.returns-in-TooLarge
returns-in-TooLarge g c = of_cause c.args.names.now c.args.name.now _ _ c.in-TooLarge.is c.put_bytes-in-TooLarge.ensures

pub returns-in-Changed : goal.returns-in-Changed
returns-in-Changed g c = of_cause c.args.names.now c.args.name.now _ _ c.in-Changed.is c.put_bytes-in-Changed.ensures

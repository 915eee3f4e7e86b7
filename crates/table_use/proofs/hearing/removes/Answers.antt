use Rattle.std.proofs.Common.{ap}
use Rattle.life_rules.specs.declared.event.SourceRef.TheVariants.{Node}
use Rattle.table_rules.specs.ShownViews.{scan_in}
use Rattle.table_use.proofs.Roots.{can-withdraw, settled-root}
use Rattle.table_use.proofs.hearing.removes.Goals as goal

pub withdraw-requires-clause-needs : goal.withdraw-requires-clause-needs
withdraw-requires-clause-needs g c κs within =
    can-withdraw c.args.table.now c.args.root _ c.args.hand.now.me c.requires.holds c.requires.read
    (ap (λ l. scan_in l (Node c.args.root)) c.requires.idle.scans)

pub returns-clause-idle : goal.returns-clause-idle
returns-clause-idle g c =
    (settled-root c.args.table.now c.args.root c.withdraw.result c.args.hand.now c.withdraw.new.hand _ c.requires.holds c.requires.idle
    c.withdraw.ensures.settled).1

pub returns-clause-holds : goal.returns-clause-holds
returns-clause-holds g c =
    (settled-root c.args.table.now c.args.root c.withdraw.result c.args.hand.now c.withdraw.new.hand _ c.requires.holds c.requires.idle
    c.withdraw.ensures.settled).0

pub returns-clause-settled : goal.returns-clause-settled
returns-clause-settled g c = c.withdraw.ensures.settled

use Rattle.std.proofs.Common.{refl, ap}
use Rattle.life_rules.specs.declared.event.SourceRef.TheVariants.{Node}
use Rattle.table_rules.specs.ShownViews.{scan_in}
use Rattle.table_use.proofs.Roots.{can-withdraw, tried-root}
use Rattle.table_use.proofs.hearing.tries.Goals as goal

pub try_withdraw-requires-clause-needs : goal.try_withdraw-requires-clause-needs
try_withdraw-requires-clause-needs c κs =
    can-withdraw c.args.table.now c.args.root _ c.args.hand.now.me c.requires.holds refl
    (ap (λ l. scan_in l (Node c.args.root)) c.requires.idle.scans)

pub returns-clause-idle : goal.returns-clause-idle
returns-clause-idle c =
    (tried-root c.args.table.now c.args.root c.args.hand.now c.try_withdraw.new.hand _ c.requires.holds c.requires.idle
    c.try_withdraw.result c.try_withdraw.ensures.tried).1

pub returns-clause-holds : goal.returns-clause-holds
returns-clause-holds c =
    (tried-root c.args.table.now c.args.root c.args.hand.now c.try_withdraw.new.hand _ c.requires.holds c.requires.idle
    c.try_withdraw.result c.try_withdraw.ensures.tried).0

pub returns-clause-tried : goal.returns-clause-tried
returns-clause-tried c = c.try_withdraw.ensures.tried

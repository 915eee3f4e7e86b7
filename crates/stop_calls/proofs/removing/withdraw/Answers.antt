use Rattle.std.proofs.Common.{suc}
use Rattle.op_slot.proofs.Staying.{stays-on}
use Rattle.stop_calls.specs.declared.removing.Settled.TheVariants.{NeverRan, Ran, OwnHand}
use Rattle.stop_calls.proofs.Waiting.{again, settled-so}
use Rattle.stop_calls.proofs.removing.withdraw.Goals as goal

pub loop-preserved : goal.loop-preserved
loop-preserved g c =
    let before = c.loop.invariant in
    let tried = c.in-Running.ensures.tried in
    record {
      next = tt;
      finite = tt;
      stays = stays-on c.args.table.now c.args.hand.now c.loop.hand c.try_withdraw.new.hand before.stays c.try_withdraw.ensures.stays;
      may = again before.may tried;
      waited = (suc before.waited.0, (c.loop.hand, before.waited.1, tried));
    }

pub returns-in-NeverRan-clause-settled : goal.returns-in-NeverRan-clause-settled
returns-in-NeverRan-clause-settled g c =
    settled-so c.args.table.now c.args.node c.args.hand.now c.loop.hand c.try_withdraw.new.hand NeverRan c.loop.invariant.waited
    c.in-NeverRan.ensures.tried

pub returns-in-Ran-clause-settled : goal.returns-in-Ran-clause-settled
returns-in-Ran-clause-settled g c =
    settled-so c.args.table.now c.args.node c.args.hand.now c.loop.hand c.try_withdraw.new.hand Ran c.loop.invariant.waited
    c.in-Ran.ensures.tried

pub returns-in-OwnHand-clause-settled : goal.returns-in-OwnHand-clause-settled
returns-in-OwnHand-clause-settled g c =
    settled-so c.args.table.now c.args.node c.args.hand.now c.loop.hand c.try_withdraw.new.hand OwnHand c.loop.invariant.waited
    c.in-OwnHand.ensures.tried

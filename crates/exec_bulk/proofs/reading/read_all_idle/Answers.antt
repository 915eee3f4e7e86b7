use Rattle.step_parts.proofs.Ended.{keeps-same, keeps-then, taken-on}
use Rattle.exec_bulk.proofs.Idle.{all-idle-none, all-idle-more}
use Rattle.exec_bulk.proofs.reading.read_all_idle.Goals as goal

pub loop-child-init : goal.loop-child-init
loop-child-init g c =
    record {
      keeps = keeps-same c.args.site.now c.args.taken.now c.args.hand.now c.requires.taken.stays.hand;
      idle = all-idle-none c.args.site.now c.args.taken.now c.args.children.now c.args.hand.now c.requires.taken;
    }

pub read_idle-requires-clause-taken : goal.read_idle-requires-clause-taken
read_idle-requires-clause-taken g c =
    taken-on c.args.site.now c.args.taken.now c.args.hand.now c.loop-child.hand c.loop-child.invariant.keeps c.requires.taken

pub read_idle-requires-clause-child : goal.read_idle-requires-clause-child
read_idle-requires-clause-child g c = c.requires.kids.each c.loop-child.child-index c.loop-child-test.true

pub loop-child-preserved : goal.loop-child-preserved
loop-child-preserved g c =
    record {
      keeps = keeps-then c.args.site.now c.args.taken.now c.args.hand.now c.loop-child.hand c.read_idle.new.hand c.loop-child.invariant.keeps
          c.read_idle.ensures.keeps;
      idle = all-idle-more c.args.taken.now.name c.args.children.now c.loop-child.child-index c.loop-child.hand.me c.read_idle.new.hand.me
          c.loop-child.invariant.idle c.read_idle.ensures.idles c.read_idle.ensures.idle;
    }

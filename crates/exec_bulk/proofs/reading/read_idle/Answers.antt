use Rattle.step_parts.proofs.Ended.{keeps-same, keeps-then, taken-on}
use Rattle.exec_bulk.proofs.Idle.{idles-here, idles-on, read-above, read-begun, read-idle}
use Rattle.exec_bulk.proofs.reading.read_idle.Goals as goal

pub loop-init : goal.loop-init
loop-init g c =
    record {
      next = tt;
      finite = tt;
      keeps = keeps-same c.args.site.now c.args.taken.now c.args.hand.now c.requires.taken.stays.hand;
      idles = idles-here c.args.taken.now.name c.args.hand.now.me;
    }

pub has_begun-requires-clause-holds : goal.has_begun-requires-clause-holds
has_begun-requires-clause-holds g c κs =
    let taken = taken-on c.args.site.now c.args.taken.now c.args.hand.now c.loop.hand c.loop.invariant.keeps c.requires.taken in
    read-above c.args.site.now c.args.taken.now c.args.child c.requires.child c.loop.hand taken c.site.inside.table.now c.site.view_is
    c.name.result c.name.ensures

pub loop-preserved : goal.loop-preserved
loop-preserved g c =
    let before = c.loop.invariant in
    let taken = taken-on c.args.site.now c.args.taken.now c.args.hand.now c.loop.hand before.keeps c.requires.taken in
    let read = read-begun c.args.site.now c.args.taken.now c.args.child c.requires.child c.loop.hand taken c.site.inside.table.now c.site.view_is
    c.name.result c.name.ensures c.has_begun.new.hand c.has_begun.ensures.stays c.has_begun.result c.if-not-has_begun.false
    c.has_begun.ensures.begun in
    record {
      next = tt;
      finite = tt;
      keeps = keeps-then c.args.site.now c.args.taken.now c.args.hand.now c.loop.hand c.has_begun.new.hand before.keeps read.0;
      idles = idles-on c.args.taken.now.name c.args.hand.now.me c.loop.hand.me c.has_begun.new.hand.me before.idles read.1;
    }

pub returns-then-not-has_begun : goal.returns-then-not-has_begun
returns-then-not-has_begun g c =
    let before = c.loop.invariant in
    let taken = taken-on c.args.site.now c.args.taken.now c.args.hand.now c.loop.hand before.keeps c.requires.taken in
    let read = read-idle c.args.site.now c.args.taken.now c.args.child c.requires.child c.loop.hand taken c.site.inside.table.now c.site.view_is
    c.name.result c.name.ensures c.has_begun.new.hand c.has_begun.ensures.stays c.has_begun.result c.if-not-has_begun.true
    c.has_begun.ensures.begun in
    record {
      keeps = keeps-then c.args.site.now c.args.taken.now c.args.hand.now c.loop.hand c.has_begun.new.hand before.keeps read.0;
      idles = idles-on c.args.taken.now.name c.args.hand.now.me c.loop.hand.me c.has_begun.new.hand.me before.idles read.1;
      idle = read.2;
    }

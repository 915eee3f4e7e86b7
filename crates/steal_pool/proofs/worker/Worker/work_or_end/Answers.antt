use Rattle.exec_recv.proofs.Asiding.{aside-on}
use Rattle.node_walks.proofs.Read.{looked-rests}
use Rattle.steal_pool.proofs.Searched.{same-on, scope-looks, then-ended}
use Rattle.steal_pool.proofs.worker.Worker.work_or_end.Goals as goal

pub returns-in-Took : goal.returns-in-Took
returns-in-Took g c =
    record {
      ready = c.work_once.ensures.ready;
      same = c.work_once.ensures.same;
      aside = c.work_once.ensures.aside;
      ended = tt;
      desk = c.work_once.ensures.desk;
    }

pub returns-then-is_joined : goal.returns-then-is_joined
returns-then-is_joined g c =
    let board = c.args.site.now in
    let old = c.args.self.now.hand in
    let between = c.work_once.new.self.hand in
    let new = c.is_joined.new.hand in
    let worked = c.work_once.ensures in
    let read = c.is_joined.ensures.read in
    record {
      ready = record {
        of_table = rw c.site.view_is at c.is_joined.ensures.stays.hand;
        rests = looked-rests 0 read.word between.me new.me read.me_is worked.ready.rests;
      };
      same = same-on old between new worked.same c.is_joined.ensures.stays.same;
      aside = aside-on old.me between.me new.me worked.aside (scope-looks board c.is_joined.result old.me between.me new.me read).aside;
      ended = then-ended board c.is_joined.result old.me between.me new.me read c.in-Idle.ensures.works c.if-is_joined.true;
      desk = worked.desk;
    }

pub returns-else-is_joined : goal.returns-else-is_joined
returns-else-is_joined g c =
    let board = c.args.site.now in
    let old = c.args.self.now.hand in
    let between = c.work_once.new.self.hand in
    let new = c.is_joined.new.hand in
    let worked = c.work_once.ensures in
    let read = c.is_joined.ensures.read in
    record {
      ready = record {
        of_table = rw c.site.view_is at c.is_joined.ensures.stays.hand;
        rests = looked-rests 0 read.word between.me new.me read.me_is worked.ready.rests;
      };
      same = same-on old between new worked.same c.is_joined.ensures.stays.same;
      aside = aside-on old.me between.me new.me worked.aside (scope-looks board c.is_joined.result old.me between.me new.me read).aside;
      ended = tt;
      desk = worked.desk;
    }

use Rattle.std.proofs.Common.{sym, ap, subst}
use Rattle.table_steps.specs.Seats.{Seated}
use Rattle.home_items.specs.declared.entry.Entry.{Entry}
use Rattle.home_items.specs.declared.item.Item.{Item}
use Rattle.node_walks.specs.Completes.{IsListed}
use Rattle.run_loop.specs.declared.looped.Loop.{Loop as Looped}
use Rattle.run_loop.specs.Loops.{told}
use Rattle.run_loop.proofs.OneRun.{listed-still}
use Rattle.node_tests.proofs.Ready.{told-ready}
use Rattle.node_tests.proofs.tests.decks.hears.Goals as goal

pub poll-taken-requires-clause-ready : goal.poll-taken-requires-clause-ready
poll-taken-requires-clause-ready g c κs within =
    told-ready c.args.site.now c.args.looped.now c.drain-moved.new.self (told c.drain-moved.new.self) c.requires.ready c.drain-moved.ensures.rest

pub returns-clause-listed : goal.returns-clause-listed
returns-clause-listed g c =
    let board = c.args.site.now in
    let drained = c.drain-moved.new.self in
    let same = sym (ap (λ (l : Looped). l.hand.me) c.drain-moved.ensures.rest.rest) in
    listed-still board c.args.block drained.hand.me c.poll-taken.new.self.hand.me c.poll-taken.ensures.aside
    (subst (λ (m : Seated Item Entry). IsListed board c.args.block m) same c.requires.listed)

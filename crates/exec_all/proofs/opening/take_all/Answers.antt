use Rattle.std.proofs.Common.{◌+◌, Bool, sym, subst}
use Rattle.exec_all.proofs.Emptied.{IsTaking, taking-none, taking-open, taking-more, takes-every, takes-some}
use Rattle.exec_all.proofs.opening.take_all.Goals as goal

pub loop-child-init : goal.loop-child-init
loop-child-init g c =
    taking-none c.args.site.now c.args.taken.now c.args.children.now c.none-joining.result c.args.hand.now c.requires.opened.is.stays.hand
    c.none-joining.ensures

pub gather_child-found-requires-clause-child : goal.gather_child-found-requires-clause-child
gather_child-found-requires-clause-child g c = c.requires.kids.each c.loop-child.child-index c.loop-child-test.true

pub gather_child-found-requires-clause-opened : goal.gather_child-found-requires-clause-opened
gather_child-found-requires-clause-opened g c =
    taking-open c.args.site.now c.args.taken.now c.args.children.now c.loop-child.all c.loop-child.joining c.loop-child.child-index
    c.args.hand.now c.loop-child.hand c.loop-child.invariant c.requires.opened

pub loop-child-preserved : goal.loop-child-preserved
loop-child-preserved g c =
    subst (λ (b : Bool). IsTaking c.args.site.now c.args.taken.now c.args.children.now b c.gather_child-found.new.all (c.loop-child.child-index + 1) c.args.hand.now c.gather_child-found.new.hand)
    (sym c.both-all.ensures)
    (taking-more c.args.site.now c.args.taken.now c.args.children.now c.loop-child.all c.gather_child-found.result c.loop-child.joining
    c.gather_child-found.new.all c.loop-child.child-index c.args.hand.now c.loop-child.hand c.gather_child-found.new.hand c.requires.kids
    c.loop-child-test.true c.loop-child.invariant c.gather_child-found.ensures)

pub returns-then-not-all : goal.returns-then-not-all
returns-then-not-all g c =
    takes-some c.args.site.now c.args.taken.now c.args.children.now c.loop-child.all c.loop-child.joining c.loop-child.child-index
    c.args.hand.now c.loop-child.hand c.loop-child-test.false c.loop-child.invariant c.if-not-all.true

pub returns : goal.returns
returns g c =
    takes-every c.args.site.now c.args.taken.now c.args.children.now c.loop-child.all c.loop-child.joining c.loop-child.child-index
    c.args.hand.now c.loop-child.hand c.loop-child-test.false c.loop-child.invariant c.if-not-all.false

use Rattle.std.proofs.Common.{◌<◌, length, get_or, sym, ◌∙◌, subst, arith}
use Rattle.deck_relay.proofs.Seats.{within}
use Rattle.deck_relay.proofs.Rounds.{begins, read, misses, passes, steals, keeps-deques, owner-here, owner-on, waits-on}
use Rattle.deck_relay.proofs.stealing.steal_round.Goals as goal

pub loop-k-init : goal.loop-k-init
loop-k-init c = (begins c.args.place c.args.thefts.now, owner-here c.args.own.now)

pub loop-k-preserved-then-k-passed : goal.loop-k-preserved-then-k-passed
loop-k-preserved-then-k-passed c = (
  passes c.args.place c.loop-k.k c.args.thefts.now c.loop-k.thefts c.loop-k.invariant.0 (omega arith),
  c.loop-k.invariant.1,
)

pub loop-k-preserved : goal.loop-k-preserved
loop-k-preserved c =
    let other = c.index-thefts-k.result in (
      misses c.args.place c.loop-k.k c.args.thefts.now c.loop-k.thefts (get_or c.loop-k.thefts c.loop-k.k other) c.steal.new.theft
          c.loop-k.invariant.0 (omega arith) (read c.loop-k.thefts c.loop-k.k other (omega arith)) c.steal.ensures.deque
          c.in-None.ensures.same c.in-None.ensures.missed,
      waits-on c.args.own.now c.loop-k.own c.steal.new.own c.loop-k.invariant.1 c.steal.ensures.own c.in-None.ensures.kept,
    )

pub steal-requires-clause-first_in : goal.steal-requires-clause-first_in
steal-requires-clause-first_in c = c.loop-k.invariant.1.same.flavor ∙ c.requires.first_in

pub steal-requires-clause-part : goal.steal-requires-clause-part
steal-requires-clause-part c = subst (λ n. 0 < n) (sym c.loop-k.invariant.1.same.share) c.requires.part

pub returns-in-Some-clause-stolen : goal.returns-in-Some-clause-stolen
returns-in-Some-clause-stolen c =
    let other = c.index-thefts-k.result in
    steals c.args.place c.loop-k.k c.args.thefts.now c.loop-k.thefts (get_or c.loop-k.thefts c.loop-k.k other) c.steal.new.theft c.args.own.now
    c.loop-k.own c.steal.new.own c.in-Some.name c.loop-k.invariant.0 (λ same. let no : ⊥ = omega (arith, same) in no)
    (read c.loop-k.thefts c.loop-k.k other (omega arith)) c.loop-k.invariant.1.view c.in-Some.ensures.stolen

pub returns-in-Some-clause-deques : goal.returns-in-Some-clause-deques
returns-in-Some-clause-deques c =
    let other = c.index-thefts-k.result in
    keeps-deques c.args.place c.loop-k.k c.args.thefts.now c.loop-k.thefts (get_or c.loop-k.thefts c.loop-k.k other) c.steal.new.theft
    c.loop-k.invariant.0 (read c.loop-k.thefts c.loop-k.k other (omega arith)) c.steal.ensures.deque

pub returns-in-Some-clause-own : goal.returns-in-Some-clause-own
returns-in-Some-clause-own c = owner-on c.args.own.now c.loop-k.own c.steal.new.own c.loop-k.invariant.1.same c.steal.ensures.own

pub returns-clause-deques : goal.returns-clause-deques
returns-clause-deques c = c.loop-k.invariant.0.deques

pub returns-clause-same : goal.returns-clause-same
returns-clause-same c = c.loop-k.invariant.0.views

pub returns-clause-own : goal.returns-clause-own
returns-clause-own c = c.loop-k.invariant.1.same

pub returns-clause-kept : goal.returns-clause-kept
returns-clause-kept c = c.loop-k.invariant.1.view

pub returns-clause-missed : goal.returns-clause-missed
returns-clause-missed c = λ k before after apart was is.
    let near : k < length c.args.thefts.now = within c.args.thefts.now k before was in
    c.loop-k.invariant.0.missed k before after (omega (arith, near)) apart was is

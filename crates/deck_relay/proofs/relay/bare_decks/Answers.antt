use Rattle.std.proofs.Common.{◌≡◌, ◌+◌, ◌-◌, List, arith, sym, ap, subst}
use Rattle.std.specs.Arc.{arc_value}
use Rattle.crossbeam_queue.specs.Passes.{view, IsPassOf}
use Rattle.deck_relay.specs.declared.tokens.Tokens.{Tokens}
use Rattle.deck_relay.specs.declared.queues.Shared.{Shared}
use Rattle.deck_relay.specs.declared.deck.Deck.{Deck}
use Rattle.deck_relay.specs.Openings.{AreBare}
use Rattle.deck_relay.proofs.Balances.{begins}
use Rattle.deck_relay.proofs.Opens.{Opening, splits, whole-first, goes-on, ends}
use Rattle.deck_relay.proofs.relay.bare_decks.Goals as goal

pub ruled-requires-clause-rule : goal.ruled-requires-clause-rule
ruled-requires-clause-rule c = begins

pub another-pass-requires-clause-rule : goal.another-pass-requires-clause-rule
another-pass-requires-clause-rule c = splits _ c.loop-place._place _ c.loop-place.invariant.knows (omega arith)

pub remove-requires : goal.remove-requires
remove-requires c = omega (arith, c.loop-place.invariant.waiting)

pub loop-place-preserved : goal.loop-place-preserved
loop-place-preserved c =
    let of : Shared = arc_value c.in_ok-queue.queue in
    let is = c.loop-place.invariant in
    let seated : IsPassOf of.line c.another-pass.result =
    subst (λ (q : Shared). IsPassOf q.line c.another-pass.result) c.deref.ensures c.another-pass.ensures.queue.1 in
    let whole = whole-first (c.args.workers + 1) c.loop-place._place of c.loop-place.rest c.loop-place.decks.items c.loop-place.sleepers.items
    c.remove.new.self.items c.remove.result is (omega arith) c.remove.ensures.value c.remove.ensures.items in
    subst (λ (l : List Deck). Opening (c.args.workers + 1) (c.loop-place._place + 1) of c.another-pass.new.pass l c.remove.new.self.items)
    (sym {A = List Deck} c.in_ok-push.ensures.items)
    (goes-on (c.args.workers + 1) c.loop-place._place of c.loop-place.rest c.loop-place.decks.items c.loop-place.sleepers.items
    c.remove.new.self.items c.remove.result is whole c.another-pass.new.pass c.another-pass.result c.in_ok-bare.field-0 seated
    c.another-pass.ensures.queue.0 c.another-pass.ensures.rule.0 c.another-pass.ensures.rule.1 c.in_ok-bare.ensures)

pub remove-requires-2 : goal.remove-requires-2
remove-requires-2 c = omega (arith, c.loop-place.invariant.waiting)

pub bare-requires-2-clause-seated : goal.bare-requires-2-clause-seated
bare-requires-2-clause-seated c = c.loop-place.invariant.seated

pub bare-requires-2-clause-queued : goal.bare-requires-2-clause-queued
bare-requires-2-clause-queued c =
    let share : (view c.loop-place.rest).share ≡ 32 - c.loop-place._place =
    ap (λ (v : Tokens). v.share) c.loop-place.invariant.knows in
    omega (arith, share)

pub returns : goal.returns
returns c =
    let of : Shared = arc_value c.in_ok-queue.queue in
    let is = c.loop-place.invariant in
    let made : c.args.workers ≡ c.loop-place._place = omega arith in
    let whole = whole-first (c.args.workers + 1) c.loop-place._place of c.loop-place.rest c.loop-place.decks.items c.loop-place.sleepers.items
    c.remove-2.new.self.items c.remove-2.result is (omega arith) c.remove-2.ensures.value c.remove-2.ensures.items in
    subst (λ (l : List Deck). AreBare (c.args.workers + 1) l) (sym {A = List Deck} c.in_ok-push-2.ensures.items)
    (ends (c.args.workers + 1) c.loop-place._place of c.loop-place.rest c.loop-place.decks.items c.loop-place.sleepers.items
    c.remove-2.new.self.items c.remove-2.result is whole c.in_ok-bare-2.field-0 c.in_ok-bare-2.ensures (omega arith) (omega arith))

use Rattle.std.proofs.Common.{◌∙◌, refl, sym, arith}
use Rattle.exec_life.specs.StateLists.{machine}
use Rattle.replay_core.specs.Candidates.{places_of}
use Rattle.replay_core.proofs.Passed.{waiting_yes, waiting_no, waiting_all}
use Rattle.replay_core.proofs.There.{place-there}
use Rattle.replay_core.specs.Listings.{is_waiting}
use Rattle.replay_core.proofs.candidates.Listing.waiting.Goals as goal

pub is_waiting-requires : goal.is_waiting-requires
is_waiting-requires c =
    place-there (machine c.args.self.now.state.now) c.args.self.now.places.now c.loop-place.place-index _
    c.args.self.now.ready.places_are c.loop-place-test.true

pub loop-place-preserved-then-not-is_waiting : goal.loop-place-preserved-then-not-is_waiting
loop-place-preserved-then-not-is_waiting c =
    let s = machine c.args.self.now.state.now in
    waiting_no (is_waiting s c.args.self.now.hand) c.args.self.now.places.now (places_of s) c.loop-place.waiting.items c.loop-place.place-index _ _
    c.args.self.now.ready.places_are c.loop-place-test.true refl (sym c.is_waiting.ensures ∙ c.if-not-is_waiting.true) c.loop-place.invariant

pub loop-place-preserved : goal.loop-place-preserved
loop-place-preserved c =
    let s = machine c.args.self.now.state.now in
    waiting_yes (is_waiting s c.args.self.now.hand) c.args.self.now.places.now (places_of s) c.loop-place.waiting.items _ c.loop-place.place-index _ _
    c.args.self.now.ready.places_are c.loop-place-test.true refl (sym c.is_waiting.ensures ∙ c.if-not-is_waiting.false) c.loop-place.invariant c.in_ok-push.ensures.items

pub returns : goal.returns
returns c =
    let s = machine c.args.self.now.state.now in
    c.loop-place.invariant
    ∙ waiting_all (is_waiting s c.args.self.now.hand) c.args.self.now.places.now (places_of s) c.loop-place.place-index
    c.args.self.now.ready.places_are (omega (arith, c.loop-place-test.false))

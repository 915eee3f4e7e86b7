use Rattle.std.proofs.Common.{[], ◌∷◌, get_or, refl, subst, arith}
use Rattle.trace_text.specs.Kinds.{place_event}
use Rattle.life_rules.specs.declared.event.Event.{Event}
use Rattle.exec_life.specs.StateLists.{machine}
use Rattle.replay_core.specs.Candidates.{places_of}
use Rattle.replay_core.specs.Listings.{Keeps}
use Rattle.replay_core.proofs.Kept.{keeps_more, keeps_each}
use Rattle.replay_core.proofs.candidates.Listing.keep_places.Goals as goal

pub loop-place-preserved : goal.loop-place-preserved
loop-place-preserved c =
    let s = machine c.args.self.now.state.now in
    let kept =
    subst (λ (e : Event). Keeps s c.args.self.now.hand c.loop-place.found.items c.keep.new.found.items (e ∷ []))
    c.event.ensures c.in_ok-keep.ensures in
    keeps_more (λ p. place_event c.args.kind p ∷ []) c.args.self.now.places.now (places_of s) c.loop-place.place-index
    (get_or c.args.self.now.places.now c.loop-place.place-index (record { block = 0; node = 0 })) _
    c.args.self.now.ready.places_are c.loop-place.invariant kept c.loop-place-test.true refl

pub returns : goal.returns
returns c =
    let s = machine c.args.self.now.state.now in
    keeps_each (λ p. place_event c.args.kind p ∷ []) c.args.self.now.places.now (places_of s) c.loop-place.place-index
    c.args.self.now.ready.places_are c.loop-place.invariant (omega (arith, c.loop-place-test.false))

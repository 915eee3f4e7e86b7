use Rattle.std.proofs.Common.{[], ◌∷◌, get_or, List, ℕ, refl, subst, arith}
use Rattle.life_rules.specs.declared.event.Event.TheVariants.{Await}
use Rattle.life_rules.specs.declared.event.Place.{Place}
use Rattle.exec_life.specs.StateLists.{machine}
use Rattle.replay_core.specs.Candidates.{places_of, fresh_children}
use Rattle.replay_core.specs.Listings.{Keeps}
use Rattle.replay_core.proofs.Kept.{keeps_more, keeps_each}
use Rattle.replay_core.proofs.There.{place-there}
use Rattle.replay_core.proofs.candidates.Listing.keep_awaits.Goals as goal

pub fresh_children-requires : goal.fresh_children-requires
fresh_children-requires c =
    place-there (machine c.args.self.now.state.now) c.args.self.now.places.now c.loop-place.place-index _
    c.args.self.now.ready.places_are c.loop-place-test.true

pub loop-place-preserved : goal.loop-place-preserved
loop-place-preserved c =
    let s = machine c.args.self.now.state.now in
    let p : Place = get_or c.args.self.now.places.now c.loop-place.place-index (record { block = 0; node = 0 }) in
    let kept =
    subst (λ (l : List ℕ). Keeps s c.args.self.now.hand c.loop-place.found.items c.keep.new.found.items (Await p l ∷ []))
    c.in_ok-fresh_children.ensures c.in_ok-keep.ensures in
    keeps_more (λ q. Await q (fresh_children s q) ∷ []) c.args.self.now.places.now (places_of s) c.loop-place.place-index
    p _ c.args.self.now.ready.places_are c.loop-place.invariant kept c.loop-place-test.true refl

pub returns : goal.returns
returns c =
    let s = machine c.args.self.now.state.now in
    keeps_each (λ q. Await q (fresh_children s q) ∷ []) c.args.self.now.places.now (places_of s) c.loop-place.place-index
    c.args.self.now.ready.places_are c.loop-place.invariant (omega (arith, c.loop-place-test.false))

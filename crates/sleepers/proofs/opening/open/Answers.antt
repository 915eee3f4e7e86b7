use Rattle.std.proofs.Common.{◌+◌, List, arith, refl, sym, subst}
use Rattle.sleepers.specs.declared.sleeper.Sleeper.{Sleeper}
use Rattle.sleepers.specs.Places.{HavePlaces}
use Rattle.sleepers.proofs.Snoc.{one-more}
use Rattle.sleepers.proofs.opening.open.Goals as goal

pub loop-place-preserved : goal.loop-place-preserved
loop-place-preserved c =
    record {
      left = omega (arith, c.in-Some.ensures.cases, c.loop-place.invariant.left);
      places = subst (λ (l : List Sleeper). HavePlaces (c.loop-place.place + 1) l) (sym c.in_ok-push-3.ensures.items)
          (one-more c.loop-place.place c.loop-place.sleepers.items _ c.loop-place.invariant.places refl);
    }

-- What reasons say is so, need by need.
use Rattle.std.proofs.Common.{◌≡◌, ℕ, ◌<◌, ◌≤◌, Bool, true, false, not, ◌&&◌, ◌||◌, cond, Option, None, Some, refl, sym, ap, ◌∙◌, subst, arith}
use Rattle.std.specs.Prelude.{is_some, nat_lt, nat_le, ◌==◌}
use Rattle.std.proofs.lemmas.Bool.{and_parts, and_from, not-true, cond_both, lt-ltb, false_from_ne_true, true_from_ne_false, both_ways, not_from_true}
use Rattle.life_rules.specs.declared.event.Place.{Place}
use Rattle.life_rules.specs.declared.event.SourceAt.{SourceAt}
use Rattle.life_rules.specs.declared.event.SourceAt.TheVariants.{At}
use Rattle.life_rules.specs.declared.event.SourceRef.TheVariants.{Node}
use Rattle.life_rules.specs.States.{State, is_place, name_at}
use Rattle.life_rules.specs.Views.{is_scanning}
use Rattle.step_reasons.specs.declared.fact.Fact.{Fact}
use Rattle.step_reasons.specs.declared.fact.Fact.TheVariants.{GoesOnWith, ScansNot}
use Rattle.step_reasons.specs.Scanning.{scans, next_place}
use Rattle.step_reasons.specs.So.{IsSo}
use Rattle.step_reasons.specs.StopReasons.{scan_reason}

-- a negated test that fails
pub not-false : (b : Bool) → not b ≡ false → b ≡ true
not-false true e = refl
not-false false e = cc

-- the hand scans the source of a place that is there
pub scans-place : (s : State) (h : ℕ) (p : Place) → is_place s p ≡ true → not (is_scanning (s.view h) (Node (name_at s p))) ≡ false → scans s h (At p) ≡ true
scans-place s h p there scanning = and_from (is_place s p) (is_scanning (s.view h) (Node (name_at s p))) there (not-false _ scanning)

-- where the scan stands
pub scan-so : (s : State) (h : ℕ) (at : SourceAt) → nat_lt h s.hands ≡ true → IsSo s (scan_reason s h at)
scan-so s h at hand =
    cond_both (scans s h at) (GoesOnWith h at (next_place s h at)) (ScansNot h at) (IsSo s)
    (λ t. (hand, t, refl))
    (λ f. (hand, f))

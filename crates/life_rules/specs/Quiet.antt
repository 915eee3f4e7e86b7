-- When nothing touches a block any more.
use Rattle.std.specs.Prelude.{◌≡◌, ℕ, ◌<◌, true, false, ◌||◌}
use Rattle.life_rules.specs.declared.event.Name.{Name}
use Rattle.life_rules.specs.declared.event.SourceRef.TheVariants.{Node}
use Rattle.life_rules.specs.Words.{is_idle, is_done, is_armed, is_running}
use Rattle.life_rules.specs.Views.{is_scanning}
use Rattle.life_rules.specs.LifeSteps.{may_release}
use Rattle.life_rules.specs.Sound.{Sound}
use Rattle.life_rules.specs.States.{State, size, name_of, control_at, phase_at, stand}

-- no view has the node in any way but as a finished root, its callback is at rest, no scan is of
-- its source, and it is done where it has begun
pub record IsQuietAt (s : State) (x : Name) : Type 0 where
  pub holds : stand s (λ v. v.holds) x ≡ 0
  pub starts : stand s (λ v. v.starts) x ≡ 0
  pub reports : stand s (λ v. v.reports) x ≡ 0
  pub runs : stand s (λ v. v.runs) x ≡ 0
  pub callback : (is_armed (phase_at s x) || is_running (phase_at s x)) ≡ false
  pub scans : (h : ℕ) → h < s.hands → is_scanning (s.view h) (Node x) ≡ false
  pub control : (is_idle (control_at s x) || is_done (control_at s x)) ≡ true

abbrev pub Quiet : State → ℕ → Type 0
Quiet s b = (n : ℕ) → n < size s → IsQuietAt s (name_of s b n)

-- in a sound state nothing touches a block any more that a hand may give back
abbrev pub IsQuietAtRelease : Type 0
IsQuietAtRelease =
    (s : State) (hand block : ℕ) → Sound s → hand < s.hands → may_release s hand block ≡ true →
    Quiet s block

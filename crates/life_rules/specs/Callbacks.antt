-- When a callback may stand, and who runs it ([stopcallback]).
use Rattle.std.specs.Prelude.{◌≡◌, ℕ, ◌<◌, ◌≤◌, Bool, true, false, ◌||◌}
use Rattle.std.specs.Option.{option_map_or}
use Rattle.life_rules.specs.declared.event.Name.{Name}
use Rattle.life_rules.specs.declared.event.SourceRef.TheVariants.{Node}
use Rattle.life_rules.specs.declared.words.CallbackPhase.TheVariants.{Never}
use Rattle.node_tree.specs.Tree.{is_child}
use Rattle.life_rules.specs.Words.{is_idle, is_under_way, is_armed, is_running, has_run, clear}
use Rattle.life_rules.specs.Views.{View, beside}
use Rattle.common_lemmas.specs.Sums.{one}
use Rattle.life_rules.specs.States.{State, control_at, phase_at, bits_at, nearest_of, stand}
use Rattle.life_rules.specs.Scans.{is_next_in}

-- a node that hasn't begun has no callback and no request, and no child of it has begun
pub record IsFresh (s : State) (x : Name) : Type 0 where
  pub callback : phase_at s x ≡ Never
  pub source : bits_at s (Node x) ≡ clear
  pub children : (n : ℕ) → is_child s.tree x.node n ≡ true →
      is_idle (control_at s (beside x n)) ≡ true

abbrev pub BeginsInOrder : State → Type 0
BeginsInOrder s = (x : Name) → is_idle (control_at s x) ≡ true → IsFresh s x

-- an armed or running place belongs to a node that has begun and isn't done
abbrev pub ArmedLives : State → Type 0
ArmedLives s =
    (x : Name) → (is_armed (phase_at s x) || is_running (phase_at s x)) ≡ true →
    is_under_way (control_at s x) ≡ true

-- the source on which x's callback is registered is one, and a stop is requested on it
abbrev pub nearest_is_requested : State → Name → Bool
nearest_is_requested s x =
    option_map_or (λ source. (bits_at s source).requested) (nearest_of s x) false

-- x is the next place of a scan that the view makes of x's nearest source
abbrev pub is_next_of_nearest : State → View → Name → Bool
is_next_of_nearest s v x =
    option_map_or (λ source. is_next_in s v source x) (nearest_of s x) false

pub record RunsAreScanned (s : State) : Type 0 where
  -- a place is running exactly where a view runs it
  pub runs : (x : Name) → stand s (λ v. v.runs) x ≡ one (is_running (phase_at s x))
  -- and that view scans the nearest source, with the place as the next
  pub next : (h : ℕ) (x : Name) → h < s.hands → 1 ≤ (s.view h).runs x →
      is_next_of_nearest s (s.view h) x ≡ true
  -- the nearest source of a running or ran place is requested
  pub cause : (x : Name) → (is_running (phase_at s x) || has_run (phase_at s x)) ≡ true →
      nearest_is_requested s x ≡ true

-- The associations with the scope, and the request on its source (P3149, [exec.scope]).
use Rattle.std.specs.Prelude.{◌≡◌, ℕ, ◌+◌, ◌<◌, ◌≤◌, true}
use Rattle.life_rules.specs.declared.event.SourceRef.TheVariants.{Scope}
use Rattle.life_rules.specs.Views.{View, is_scanning}
use Rattle.life_rules.specs.States.{State}
use Rattle.common_lemmas.specs.Sums.{total}

-- the associations that aren't being refused
abbrev pub kept : View → ℕ
kept v = v.made + v.making

pub record Associations (s : State) : Type 0 where
  -- the count is the number of associations in all views
  pub count : s.scope.count ≡ total (λ h. kept (s.view h) + (s.view h).refused) s.hands
  -- a joined scope has only associations that are being refused
  pub joined : s.scope.joined ≡ true → total (λ h. kept (s.view h)) s.hands ≡ 0
  -- a hand makes one association at a time
  pub single : (h : ℕ) → h < s.hands → (s.view h).making + (s.view h).refused ≤ 1
  -- the scope keeps to its greatest number
  pub most : total (λ h. kept (s.view h)) s.hands ≤ s.most

pub record ScopeRequested (s : State) : Type 0 where
  -- the scope's request stands exactly where hand 0 made it
  pub by_hand_0 : s.scope_source.requested ≡ (s.view 0).requested
  pub scan : (h : ℕ) → h < s.hands → is_scanning (s.view h) Scope ≡ true → h ≡ 0

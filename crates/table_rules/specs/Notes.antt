-- What the hands know is so.
use Rattle.std.specs.Prelude.{◌≡◌, ℕ, ◌+◌, ◌≤◌, Bool, true, false, ◌||◌, List, [], length, Some, MatchOption}
use Rattle.std.specs.Option.{option_map_or}
use mathlib.Core.Option.{some}
use lib.ListN.{get_elem?}
use Rattle.life_rules.specs.declared.event.Name.{Name}
use Rattle.life_rules.specs.declared.event.SourceRef.{SourceRef}
use Rattle.life_rules.specs.declared.event.SourceRef.TheVariants.{Scope, Node}
use Rattle.life_rules.specs.declared.words.CallbackPhase.{CallbackPhase}
use Rattle.life_rules.specs.declared.words.CallbackPhase.TheVariants.{Never, Armed, Running, Ran, Removed}
use Rattle.node_tree.specs.Tree.{is_child, parent_of, given_by, nearest}
use Rattle.life_rules.specs.Words.{is_idle, is_armed, is_running, has_run}
use Rattle.life_rules.specs.Views.{beside}
use Rattle.life_rules.specs.States.{State, control_at, phase_at, bits_at, source_for}
use Rattle.life_rules.specs.Callbacks.{nearest_is_requested}
use Rattle.table_rules.specs.declared.view.View.{View}
use Rattle.table_rules.specs.declared.view.Held.{Held}
use Rattle.table_rules.specs.declared.view.Owed.{Owed}
use Rattle.table_rules.specs.declared.view.Reported.{Reported}
use Rattle.table_rules.specs.declared.view.Rooted.{Rooted}
use Rattle.table_rules.specs.Named.{Each}
use Rattle.table_rules.specs.ShownWords.{is_present}
use Rattle.table_rules.specs.Scenes.{Scene}

-- the source that the children of x hear is one, and a stop is requested on it
abbrev pub children_are_requested : State → Name → Bool
children_are_requested s x =
    option_map_or (λ source. (bits_at s source).requested)
    (source_for x (given_by s.tree x.node (nearest s.tree x.node))) false

-- the callback's phase may be this, where the hand that holds the node last read that
abbrev pub is_still : CallbackPhase → CallbackPhase → Type 0
is_still Never phase = phase ≡ Never
is_still Armed phase = (is_armed phase || (is_running phase || has_run phase)) ≡ true
is_still Running phase = (is_armed phase || (is_running phase || has_run phase)) ≡ true
is_still Ran phase = phase ≡ Ran
is_still Removed phase = phase ≡ Removed

-- the entry names no later generation than its block's
abbrev pub IsPast : State → Name → Type 0
IsPast s x = x.generation ≤ (s.block x.block).generation

abbrev pub IsPastSource : State → SourceRef → Type 0
IsPastSource s Scope = Unit {0}
IsPastSource s (Node x) = IsPast s x

module _ {P E : Type 0} (s : Scene P E) where
  pub record IsHeldSo (e : Held E) : Type 0 where
    pub start : e.start ≡ s.past.start e.name
    pub named : e.named ≡ s.past.named e.name
    pub told : e.told ≡ true → nearest_is_requested s.state e.name ≡ true
    pub told_children : e.told_children ≡ true → children_are_requested s.state e.name ≡ true
    pub lot : MatchOption e.lot (Unit {0}) (λ lot. lot ≡ s.past.lot e.name)
    pub phase : MatchOption e.phase (Unit {0}) (λ known. is_still known (phase_at s.state e.name))
    pub idle : Each (λ n. (is_child s.state.tree e.name.node n ≡ true)
        × (is_idle (control_at s.state (beside e.name n)) ≡ true)) e.idle

  -- the root is owed with nothing above it and no lot, another node with its parent's
  abbrev pub IsOwedSo : Owed E → Type 0
  IsOwedSo e =
      MatchOption (parent_of s.state.tree e.name.node) ((e.above ≡ []) × (e.lot ≡ []))
      (λ p. (e.above ≡ s.past.start (beside e.name p)) × (e.lot ≡ s.past.lot (beside e.name p)))

  abbrev pub IsReportedSo : Reported P E → Type 0
  IsReportedSo e = (e.start ≡ s.past.start e.name) × (s.past.delivered e.name ≡ Some e.item)

  -- a root that the hand claimed has begun, while its block is of that generation
  abbrev pub IsRootedSo : Rooted E → Type 0
  IsRootedSo e =
      IsPast s.state e.name
      × (is_present s.state.block e.name ≡ true →
      (is_idle (control_at s.state e.name) ≡ false) × (s.past.start e.name ≡ e.start))

  pub record IsKnown (v : View P E) : Type 0 where
    pub held : Each IsHeldSo v.held
    pub owed : Each IsOwedSo v.owed
    pub reported : Each IsReportedSo v.reported
    pub noted : Each IsRootedSo v.noted
    pub unlooked : Each (IsPast s.state) v.unlooked
    pub seen_after : Each (IsPast s.state) v.seen_after
    pub seen : Each (IsPastSource s.state) v.seen

  pub record ViewsStand (views : List (View P E)) : Type 0 where
    pub each : (h : ℕ) (v : View P E) → get_elem? views h ≡ some v → IsKnown v
    -- each view has its hand's number, and hand 0 counts those that were split off
    pub number : (h : ℕ) (v : View P E) → get_elem? views h ≡ some v → v.number ≡ h
    pub splits : (v : View P E) → get_elem? views 0 ≡ some v → v.splits + 1 ≡ length views

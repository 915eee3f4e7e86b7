-- Who has a node, and what a busy word counts.
use Rattle.std.specs.Prelude.{◌≡◌, ℕ, ◌+◌, ◌*◌, ◌≤◌, Bool, false, not, ◌&&◌}
use Rattle.life_rules.specs.declared.words.ControlWord.TheVariants.{Idle}
use Rattle.life_rules.specs.declared.words.CallbackPhase.TheVariants.{Never}
use Rattle.life_rules.specs.declared.words.ControlWord.{ControlWord}
use Rattle.life_rules.specs.declared.event.Name.{Name}
use Rattle.node_tree.specs.Tree.{is_child, is_root}
use Rattle.life_rules.specs.Words.{is_open, is_idle, is_held, is_done, is_under_way, pending, clear}
use Rattle.common_lemmas.specs.Sums.{one}
use Rattle.life_rules.specs.Views.{beside}
use Rattle.life_rules.specs.States.{State, size, is_live, control_at, stand}
use Rattle.common_lemmas.specs.Sums.{total}

-- how often all views together have a name, against its word
pub record Fits (holds starts reports finished : ℕ) (live root : Bool)
    (word : ControlWord) : Type 0 where
  -- a node is held exactly where a view holds it
  pub held : holds ≡ one (is_held word)
  -- one whose start is owed is of an open block, and idle
  pub start : starts ≤ one (live && is_idle word)
  -- the root of an open block is idle exactly where a view owes its start
  pub root_start : one (root && (live && is_idle word)) ≤ starts
  -- one whose report is owed is done, and isn't the root
  pub report : reports ≤ one (is_done word && not root)
  -- the root is done exactly where a view holds it as finished
  pub finish : finished ≡ one (is_done word && root)

-- each name stands in at most one view so, once, and as its word says
abbrev pub IsOwned : State → Name → Type 0
IsOwned s x =
    Fits (stand s (λ v. v.holds) x) (stand s (λ v. v.starts) x) (stand s (λ v. v.reports) x)
    (stand s (λ v. v.finished) x) (is_live s x) (is_root s.tree x.node) (control_at s x)

-- what a child counts for in its parent's word: it is under way, its start is owed, its report is
-- owed
abbrev pub weight : State → Name → ℕ
weight s x =
    one (is_under_way (control_at s x)) + stand s (λ v. v.starts) x + stand s (λ v. v.reports) x

-- what the children of a node count for together
abbrev pub owed_below : State → Name → ℕ
owed_below s x = total (λ n. one (is_child s.tree x.node n) * weight s (beside x n)) (size s)

-- a place of a block that isn't open reads as at first
pub record IsUnused (s : State) (b n : ℕ) : Type 0 where
  pub control : s.control b n ≡ Idle
  pub callback : s.callback b n ≡ Never
  pub source : s.source b n ≡ clear

pub record Owned (s : State) : Type 0 where
  pub names : (x : Name) → IsOwned s x
  pub unused : (b n : ℕ) → is_open (s.block b).state ≡ false → IsUnused s b n

-- a word counts exactly the children that are still to report
abbrev pub Counted : State → Type 0
Counted s = (x : Name) → pending (control_at s x) ≡ owed_below s x

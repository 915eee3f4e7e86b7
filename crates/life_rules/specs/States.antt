-- The state of the whole: the words as they read, and what each hand knows.
use Rattle.std.specs.Prelude.{ℕ, ◌+◌, Bool, ◌&&◌, ◌==◌, nat_lt, if◌then◌else◌, List, length, Option, Some, None}
use Rattle.common_lemmas.specs.Sums.{total}
use Rattle.node_tree.specs.declared.node.TreeNode.{TreeNode}
use Rattle.life_rules.specs.declared.words.BlockWord.{BlockWord}
use Rattle.life_rules.specs.declared.words.ControlWord.{ControlWord}
use Rattle.life_rules.specs.declared.words.ControlWord.TheVariants.{Idle}
use Rattle.life_rules.specs.declared.words.CallbackPhase.{CallbackPhase}
use Rattle.life_rules.specs.declared.words.CallbackPhase.TheVariants.{Never}
use Rattle.life_rules.specs.declared.words.Bits.{Bits}
use Rattle.life_rules.specs.declared.scope.ScopeWord.{ScopeWord}
use Rattle.node_tree.specs.declared.scope_kind.ScopeKind.{ScopeKind}
use Rattle.life_rules.specs.declared.event.Name.{Name}
use Rattle.life_rules.specs.declared.event.Place.{Place}
use Rattle.life_rules.specs.declared.event.SourceRef.{SourceRef}
use Rattle.life_rules.specs.declared.event.SourceRef.TheVariants.{Scope, Node}
use Rattle.node_tree.specs.Tree.{Nearest, TheScope, TheNode, Nowhere, nearest}
use Rattle.life_rules.specs.Words.{is_open, clear}
use Rattle.life_rules.specs.Views.{View, beside}

-- The words of places go by block and node, the views by hand.
pub record State : Type 0 where
  pub tree : List TreeNode
  pub blocks : ℕ
  pub hands : ℕ
  pub kind : ScopeKind
  -- the most associations that the scope takes
  pub most : ℕ
  pub block : ℕ → BlockWord
  pub control : ℕ → ℕ → ControlWord
  pub callback : ℕ → ℕ → CallbackPhase
  pub source : ℕ → ℕ → Bits
  pub scope_source : Bits
  pub scope : ScopeWord
  pub view : ℕ → View

abbrev pub size : State → ℕ
size s = length s.tree

-- the place exists
abbrev pub is_place : State → Place → Bool
is_place s p = nat_lt p.block s.blocks && nat_lt p.node (size s)

-- the node of a block, at the block's generation
abbrev pub name_of : State → ℕ → ℕ → Name
name_of s b n = record { block = b; generation = (s.block b).generation; node = n }

abbrev pub name_at : State → Place → Name
name_at s p = name_of s p.block p.node

-- its block is open, at this generation, and has this node
abbrev pub is_live : State → Name → Bool
is_live s x =
    nat_lt x.block s.blocks
    && (nat_lt x.node (size s)
    && (is_open (s.block x.block).state && x.generation == (s.block x.block).generation))

-- the control word as it reads at this generation
abbrev pub control_at : State → Name → ControlWord
control_at s x = if is_live s x then s.control x.block x.node else Idle

abbrev pub phase_at : State → Name → CallbackPhase
phase_at s x = if is_live s x then s.callback x.block x.node else Never

abbrev pub bits_at : State → SourceRef → Bits
bits_at s Scope = s.scope_source
bits_at s (Node x) = if is_live s x then s.source x.block x.node else clear

-- the source on which a callback of the node is registered
abbrev pub source_for : Name → Nearest → Option SourceRef
source_for x TheScope = Some Scope
source_for x (TheNode p) = Some (Node (beside x p))
source_for x Nowhere = None

abbrev pub nearest_of : State → Name → Option SourceRef
nearest_of s x = source_for x (nearest s.tree x.node)

-- how often all views together have the name so
abbrev pub stand : State → (View → Name → ℕ) → Name → ℕ
stand s part x = total (λ h. part (s.view h) x) s.hands

abbrev pub with_view : State → ℕ → View → State
with_view s h v = record s { view = λ i. if i == h then v else s.view i }

-- f, but v at b and n
abbrev pub set_at : {A : Type 0} → (ℕ → ℕ → A) → ℕ → ℕ → A → ℕ → ℕ → A
set_at f b n v i j = if i == b && j == n then v else f i j

abbrev pub with_block : State → ℕ → BlockWord → State
with_block s b w = record s { block = λ i. if i == b then w else s.block i }

abbrev pub with_control : State → ℕ → ℕ → ControlWord → State
with_control s b n w = record s { control = set_at s.control b n w }

abbrev pub with_callback : State → ℕ → ℕ → CallbackPhase → State
with_callback s b n w = record s { callback = set_at s.callback b n w }

abbrev pub with_bits : State → SourceRef → Bits → State
with_bits s Scope w = record s { scope_source = w }
with_bits s (Node x) w = record s { source = set_at s.source x.block x.node w }

abbrev pub with_scope : State → ScopeWord → State
with_scope s w = record s { scope = w }

-- A state as lists, and the state of the rules that they mean.
use Rattle.std.specs.Prelude.{◌≡◌, ℕ, ◌≤◌, ◌<◌, ◌==◌, ◌^◌, false, if◌then◌else◌, List, length, Some, None, slice_get}
use Rattle.std.specs.Option.{option_map_or}
use Rattle.life_rules.specs.declared.event.Name.{Name}
use Rattle.life_rules.specs.declared.event.SourceRef.{SourceRef}
use Rattle.life_rules.specs.declared.event.SourceRef.TheVariants.{Scope, Node}
use Rattle.node_tree.specs.declared.scope_kind.ScopeKind.{ScopeKind}
use Rattle.life_rules.specs.declared.limits.TheConstants.{MOST_BLOCKS, MOST_HANDS}
use Rattle.node_tree.specs.declared.node.TreeNode.{TreeNode}
use Rattle.life_rules.specs.Sound.{Sound}
use Rattle.life_rules.specs.States.{State}
use Rattle.life_rules.specs.Views.{View, blank}
use Rattle.common_lemmas.specs.Sums.{one}
use Rattle.exec_life.specs.ViewLists.{ViewLists, role_in, runs_in, unlooked_in, seen_after_in, seen_at, scan_of, is_holder, is_starter, is_reporter, is_finisher}
use Rattle.exec_life.specs.WordLists.{WordLists, block_word, control_word, callback_word, source_word}

-- the lists of a state
pub record StateLists : Type 0 where
  pub tree : List TreeNode
  pub kind : ScopeKind
  pub most : ℕ
  pub words : WordLists
  -- one for each hand
  pub views : List ViewLists

-- the present generation of each block
abbrev pub generations : WordLists → ℕ → ℕ
generations w b = (block_word w b).generation

-- what a cell says of a name: nothing, where the name isn't of its block's present generation
abbrev pub said_of : {A : Type 0} → (ℕ → ℕ) → A → (ℕ → ℕ → A) → Name → A
said_of present nothing f x =
    if x.generation == present x.block then f x.block x.node else nothing

-- the same of a source: the scope's has a cell of its own
abbrev pub said_of_source : {A : Type 0} → (ℕ → ℕ) → A → A → (ℕ → ℕ → A) → SourceRef → A
said_of_source present nothing scope f Scope = scope
said_of_source present nothing scope f (Node x) = said_of present nothing f x

-- the view that the cells mean, where the blocks are at these generations
abbrev pub view_of : (ℕ → ℕ) → ViewLists → View
view_of present v =
    record {
      holds = said_of present 0 (λ b n. one (is_holder (role_in v b n)));
      starts = said_of present 0 (λ b n. one (is_starter (role_in v b n)));
      reports = said_of present 0 (λ b n. one (is_reporter (role_in v b n)));
      finished = said_of present 0 (λ b n. one (is_finisher (role_in v b n)));
      runs = said_of present 0 (λ b n. one (runs_in v b n));
      scan = said_of_source present None v.scope_scan (scan_of v);
      unlooked = said_of present false (unlooked_in v);
      seen_after = said_of present false (seen_after_in v);
      seen = said_of_source present false v.scope_seen (seen_at v);
      made = v.made;
      making = v.making;
      refused = v.refused;
      requested = v.requested;
    }

-- the state that the lists mean
abbrev pub machine : StateLists → State
machine d =
    record {
      tree = d.tree;
      blocks = length d.words.blocks;
      hands = length d.views;
      kind = d.kind;
      most = d.most;
      block = block_word d.words;
      control = control_word d.words;
      callback = callback_word d.words;
      source = source_word d.words;
      scope_source = d.words.scope_source;
      scope = d.words.scope;
      view = λ h. option_map_or (view_of (generations d.words)) (slice_get d.views h) blank;
    }

-- the view has a cell for each of so many blocks and nodes
pub record IsOver (blocks nodes : ℕ) (v : ViewLists) : Type 0 where
  pub blocks_are : v.blocks ≡ blocks
  pub nodes_are : v.nodes ≡ nodes

-- the lists fit one another, and are as long as they may be
pub record IsFitted (d : StateLists) : Type 0 where
  pub nodes_are : d.words.nodes ≡ length d.tree
  pub each_view : (h : ℕ) (v : ViewLists) → slice_get d.views h ≡ Some v →
      IsOver (length d.words.blocks) (length d.tree) v
  pub most_blocks : length d.words.blocks ≤ MOST_BLOCKS
  pub most_hands : length d.views ≤ MOST_HANDS
  pub most_associations : d.most < 2 ^ 16

-- the lists of a state: they fit, and mean a sound state
pub record IsState (d : StateLists) : Type 0 where
  pub fitted : IsFitted d
  pub sound : Sound (machine d)

-- The state with which all begins.
use Rattle.std.specs.Prelude.{ℕ, false, List}
use Rattle.node_tree.specs.declared.node.TreeNode.{TreeNode}
use Rattle.life_rules.specs.declared.words.BlockState.TheVariants.{Free}
use Rattle.life_rules.specs.declared.words.ControlWord.TheVariants.{Idle}
use Rattle.life_rules.specs.declared.words.CallbackPhase.TheVariants.{Never}
use Rattle.node_tree.specs.declared.scope_kind.ScopeKind.{ScopeKind}
use Rattle.life_rules.specs.Words.{clear}
use Rattle.life_rules.specs.Views.{blank}
use Rattle.life_rules.specs.States.{State}

-- all blocks are free at generation 0, the scope is unused, and no hand has done anything
abbrev pub opening : List TreeNode → ℕ → ℕ → ScopeKind → ℕ → State
opening nodes number_of_blocks number_of_hands scope_kind greatest =
    record {
      tree = nodes;
      blocks = number_of_blocks;
      hands = number_of_hands;
      kind = scope_kind;
      most = greatest;
      block = λ _. record { generation = 0; state = Free };
      control = λ _ _. Idle;
      callback = λ _ _. Never;
      source = λ _ _. clear;
      scope_source = clear;
      scope = record { used = false; closed = false; joining = false; joined = false; count = 0 };
      view = λ _. blank;
    }

-- What a hand is told of stop requests when it comes to hold a node.
use Rattle.std.specs.Prelude.{◌≡◌, Bool, true, false, List, Some, None}
use Rattle.node_tree.specs.declared.node.TreeNode.{TreeNode}
use Rattle.life_rules.specs.declared.event.Name.{Name}
use Rattle.life_rules.specs.declared.event.SourceRef.TheVariants.{Scope}
use Rattle.node_tree.specs.Tree.{nearest, has_source, is_unstoppable}
use Rattle.life_rules.specs.States.{source_for}
use Rattle.table_rules.specs.declared.view.View.{View}

-- for hand 0, where x hears the scope's source, the fact holds
abbrev pub UnderScope : {P E : Type 0} → List TreeNode → View P E → Name → Type 0 → Type 0
UnderScope tree v x fact = v.number ≡ 0 → source_for x (nearest tree x.node) ≡ Some Scope → fact

-- told of the source that x hears, and of the one that its children hear
pub record HearsAs {P E : Type 0} (tree : List TreeNode) (v : View P E) (x : Name)
    (told told_children : Bool) : Type 0 where
  -- hand 0 alone makes the scope's request: it is told of its own
  pub scope : UnderScope tree v x (told ≡ v.requested)
  -- a node that hears no source is told of none
  pub none : source_for x (nearest tree x.node) ≡ None → told ≡ false
  -- the children of a node without a source hear what it hears, and where it is unstoppable nothing
  pub passes : has_source tree x.node ≡ false → is_unstoppable tree x.node ≡ false →
      told_children ≡ told
  pub shelters : has_source tree x.node ≡ false → is_unstoppable tree x.node ≡ true →
      told_children ≡ false

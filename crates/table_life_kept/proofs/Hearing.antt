-- What the rule says of stop requests on the source that a node hears, and on the one that its children hear.
use Rattle.std.proofs.Common.{◌≡◌, ℕ, true, false, List, sym, ap, ◌∙◌, subst}
use Rattle.std.specs.Option.{option_map_or}
use Rattle.std.proofs.lemmas.Bool.{cond-true, cond-false}
use mathlib.Core.Option.{some}
use lib.ListN.{get_elem?}
use Rattle.node_tree.specs.declared.node.TreeNode.{TreeNode}
use Rattle.life_rules.specs.declared.event.Name.{Name}
use Rattle.life_rules.specs.declared.event.SourceRef.TheVariants.{Scope}
use Rattle.node_tree.specs.Tree.{Nearest, TheNode, Nowhere, nearest, given_by, has_source, is_unstoppable}
use Rattle.life_rules.specs.Views.{View as PureView}
use Rattle.life_rules.specs.States.{State, bits_at, source_for}
use Rattle.life_rules.specs.Callbacks.{nearest_is_requested}
use Rattle.table_rules.specs.declared.cargo.Cargo.{Ghosts}
use Rattle.table_rules.specs.declared.frame.Frame.{Frame}
use Rattle.table_rules.specs.ShownWords.{block_of}
use Rattle.table_rules.specs.Scenes.{shown}
use Rattle.table_rules.specs.Notes.{children_are_requested}
use Rattle.table_steps.specs.Hearings.{HearsAs}
use Rattle.table_kept.proofs.Standing.{Standing}
use Rattle.table_kept.proofs.ViewMoves.{view-here}

-- the children of a node without a source hear what the node hears, and where it is unstoppable nothing
given-on : (tree : List TreeNode) (n : ℕ) (above : Nearest) → has_source tree n ≡ false → is_unstoppable tree n ≡ false →
    given_by tree n above ≡ above
given-on tree n above none hears =
    cond-false (has_source tree n) (TheNode n) _ none ∙ cond-false (is_unstoppable tree n) Nowhere above hears

given-none : (tree : List TreeNode) (n : ℕ) (above : Nearest) → has_source tree n ≡ false → is_unstoppable tree n ≡ true →
    given_by tree n above ≡ Nowhere
given-none tree n above none deaf =
    cond-false (has_source tree n) (TheNode n) _ none ∙ cond-true (is_unstoppable tree n) Nowhere above deaf

module _ (s : State) (x : Name) (none : has_source s.tree x.node ≡ false) where
  pub children-pass : is_unstoppable s.tree x.node ≡ false → children_are_requested s x ≡ nearest_is_requested s x
  children-pass hears =
      ap (λ near. option_map_or (λ source. (bits_at s source).requested) (source_for x near) false)
      (given-on s.tree x.node (nearest s.tree x.node) none hears)

  pub children-sheltered : is_unstoppable s.tree x.node ≡ true → children_are_requested s x ≡ false
  children-sheltered deaf =
      ap (λ near. option_map_or (λ source. (bits_at s source).requested) (source_for x near) false)
      (given-none s.tree x.node (nearest s.tree x.node) none deaf)

module _ {P E O : Type 0} (cargo : Ghosts P E O) (f : Frame O) (hand : Standing cargo f) where
  open hand use {state as s, id, view as v, running as r, at}

  abbrev now : State
  now = shown f s

  -- hand 0 knows whether the scope's request stands: it alone makes it
  scope-is : v.number ≡ 0 → (bits_at now Scope).requested ≡ v.requested
  scope-is number =
      let first : id ≡ 0 = sym (r.stands.views.number id v at) ∙ number in
      let here = subst (λ j. get_elem? s.views j ≡ some v) first at in
      r.stands.sound.scope.by_hand_0 ∙ ap (λ (u : PureView). u.requested) (view-here (block_of f.layout s.words) s.views 0 v here)

  -- so a hand may be told, when it comes to hold x
  pub hears-as : (x : Name) → HearsAs f.tree v x (nearest_is_requested now x) (children_are_requested now x)
  hears-as x =
      record {
        scope = λ number near.
            ap (λ o. option_map_or (λ source. (bits_at now source).requested) o false) near ∙ scope-is number;
        none = λ nowhere. ap (λ o. option_map_or (λ source. (bits_at now source).requested) o false) nowhere;
        passes = children-pass now x;
        shelters = children-sheltered now x;
      }

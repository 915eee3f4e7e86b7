-- A table of nearest sources that is filled from the root downwards.
use Rattle.std.proofs.Common.{◌≡◌, ℕ, ◌+◌, ◌<◌, ◌≤◌, List, length, Some, None, sym, ap, ◌∙◌, inl, inr, get_or, set, arith}
use Rattle.std.proofs.lemmas.Bool.{cases_eq}
use Rattle.std.proofs.lemmas.List.{get_or-set_same, get_or-set_other, get_or_read}
use Rattle.node_tree.specs.declared.node.TreeNode.{TreeNode}
use Rattle.node_tree.specs.Tree.{IsTree, parent_of, given_by, nearest}
use Rattle.node_tree.specs.declared.nearest.NearestSource.{NearestSource}
use Rattle.node_tree.specs.declared.nearest.NearestSource.TheVariants.{Scope}
use Rattle.node_tree.specs.Nearest.{read}
use Rattle.node_tree.proofs.Walk.{parent_within, nearest-some, nearest-none}

-- the table tells the nearest sources from this node on
abbrev pub TellsFrom : List TreeNode → List NearestSource → ℕ → Type 0
TellsFrom tree table n =
    (k : ℕ) → n ≤ k → k < length tree → read (get_or table k Scope) ≡ nearest tree k

-- a node with a parent
pub filled-some : (tree : List TreeNode) (table : List NearestSource) (n p : ℕ) (above here : NearestSource) →
    IsTree tree → n < length tree → length table ≡ length tree → parent_of tree n ≡ Some p →
    above ≡ get_or table p above → read here ≡ given_by tree p (read above) →
    TellsFrom tree table (n + 1) → TellsFrom tree (set table n here) n
filled-some tree table n p above here is within long some reads gives later k from below =
    let up = parent_within tree n p is some in
    let there : above ≡ get_or table p Scope = get_or_read table p above (omega (arith, up.1)) reads Scope in
    let parent : read above ≡ nearest tree p = ap read there ∙ later p (omega (arith, up.0)) up.1 in
    elim (cases_eq k n) [
      | inl at ↦
          ap (λ j. read (get_or (set table n here) j Scope)) at
          ∙ ap read (get_or-set_same table n here Scope (omega arith))
          ∙ gives
          ∙ ap (given_by tree p) parent
          ∙ sym (nearest-some tree n p is some)
          ∙ ap (nearest tree) (sym at)
      | inr other ↦
          ap read (get_or-set_other table n k here Scope other) ∙ later k (omega (arith, other)) below
    ]

-- the root
pub filled-none : (tree : List TreeNode) (table : List NearestSource) (n : ℕ) → parent_of tree n ≡ None →
    get_or table n Scope ≡ Scope → TellsFrom tree table (n + 1) → TellsFrom tree table n
filled-none tree table n none first later k from below =
    elim (cases_eq k n) [
      | inl at ↦
          ap (λ j. read (get_or table j Scope)) at
          ∙ ap read first
          ∙ sym (nearest-none tree n none)
          ∙ ap (nearest tree) (sym at)
      | inr other ↦ later k (omega (arith, other)) below
    ]

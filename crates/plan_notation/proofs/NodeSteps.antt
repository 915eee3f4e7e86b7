-- The tokens of the next node.
use Rattle.std.proofs.Common.{◌≡◌, ℕ, ◌+◌, List, [], ◌∷◌, ◌++◌, drop, slice_get, Some, ap, ◌∙◌}
use Rattle.std.proofs.lemmas.List.{at_drop_more}
use Rattle.std.proofs.lemmas.Option.{slice_get_within, get_or_from_slice_get}
use Rattle.plan_rules.specs.declared.node.Node.{Node}
use Rattle.plan_notation.specs.NodeTokens.{Done, node_words, words_from}

pub words_next : (nodes : List Node) (n : ℕ) (node : Node) (done : Done) → slice_get nodes n ≡ Some node
    → words_from (drop n nodes) done ≡ words_from (drop (n + 1) nodes) (done ++ node_words done node ∷ [])
words_next nodes n node done at =
    at_drop_more (λ (ns : List Node). words_from ns done) nodes n node (slice_get_within nodes n node at)
    ∙ ap (λ (x : Node). words_from (x ∷ drop (n + 1) nodes) done) (get_or_from_slice_get nodes n node node at)

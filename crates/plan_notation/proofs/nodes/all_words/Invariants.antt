use Rattle.std.specs.Prelude.{slice_get}
use Rattle.std.proofs.Common.{◌≡◌, ◌<◌, ℕ, Some, drop}
use Rattle.plan_rules.specs.declared.node.Node.{Node}
use Rattle.plan_writer.specs.Held.{IsHeldNode}
use Rattle.plan_notation.specs.NodeTokens.{all_words, words_from}
use Rattle.plan_notation.proofs.nodes.all_words.Given as goal

-- the nodes that are left lead where all lead
abbrev pub invariant-loop-number : goal.invariant-loop-number
invariant-loop-number l = record {
  words : words_from (drop l.number l.plan.nodes) l.done.items ≡ all_words l.plan.nodes;
  held : (n : ℕ) (node : Node) → slice_get l.plan.nodes n ≡ Some node → n < l.number → IsHeldNode node;
}

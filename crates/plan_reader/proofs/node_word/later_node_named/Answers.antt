use Rattle.plan_reader.proofs.node_word.later_node_named.Goals as goal

pub returns-else-is_first : goal.returns-else-is_first
returns-else-is_first c = rw c.if-is_first.false c.named.ensures

use Rattle.std.proofs.Common.{drop}
use Rattle.table_steps.specs.Remembers.{IsAdding}
use Rattle.op_table.proofs.owing.add_children.Given as goal

abbrev pub invariant-loop-child : goal.invariant-loop-child
invariant-loop-child l = IsAdding l.name l.children (drop l.child-index l.children) l.fn.owed l.owed

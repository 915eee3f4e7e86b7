use Rattle.std.proofs.Common.{[], subst}
use Rattle.exec_value.specs.declared.outcome.Completion.TheVariants.{Value}
use Rattle.node_images.specs.Joined.{Tells}
use Rattle.start_laws.specs.AllEnds.{first_ends, late_ends}
use Rattle.exec_all.proofs.Walking.{behind, late-there, put-all}
use Rattle.exec_all.proofs.joining.put_late.Goals as goal

pub returns-in-Ok : goal.returns-in-Ok
returns-in-Ok c ends n none front late =
    put-all ends n c.join_child.new.together c.put_together-in-Ok.new.done c.put_together-in-Ok.result
    (behind ends n c.put_together.new.done c.join_child.new.together none
    (subst (λ r. Tells r (late_ends ends n (Value []))) c.in-Ok.ensures.ok late) (c.join_child.ensures (first_ends ends n) front))
    c.put_together-in-Ok.ensures.ok c.put_together-in-Ok.ensures.err

pub returns-in-Err : goal.returns-in-Err
returns-in-Err c ends n none front late =
    late-there ends n c.in-Err.no_room (subst (λ r. Tells r (late_ends ends n (Value []))) c.in-Err.ensures.err late)

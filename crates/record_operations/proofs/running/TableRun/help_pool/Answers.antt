use Rattle.record_operations.specs.Runs.{run_of}
use Rattle.record_operations.proofs.Held.{helped-held}
use Rattle.record_operations.proofs.running.TableRun.help_pool.Goals as goal

pub invariant_of-self : goal.invariant_of-self
invariant_of-self g c =
    let inside = c.self.inside in
    helped-held g.B.OnTable.is g.B.OnTable.claimed g.B.OnTable.desk inside.post
    (run_of inside.table.now inside.plan.now inside.looped inside.operations.items inside.requested inside.futures)
    (g.T.Stepper.plan inside.stepper.now) inside.next inside.spawns c.args.helps c.help_pool.new.self c.help_pool.ensures c.self.invariant

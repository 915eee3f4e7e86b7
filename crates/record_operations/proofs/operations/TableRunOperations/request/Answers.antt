use Rattle.std.proofs.Common.{refl}
use Rattle.record_operations.specs.Runs.{run_of}
use Rattle.record_operations.proofs.Sounding.{asked-ready, asked-sound}
use Rattle.record_operations.proofs.operations.TableRunOperations.request.Goals as goal

pub invariant_of-self : goal.invariant_of-self
invariant_of-self g c =
    let inside = c.self.inside in
    let sound = c.self.invariant.sound in
    let looped = record inside.looped { hand = c.ask_scope.new.hand } in
    record {
      sound = asked-sound g.B.OnTable.is g.B.OnTable.claimed
          (run_of inside.table.now inside.plan.now inside.looped inside.operations.items inside.requested inside.futures)
          (g.T.Stepper.plan inside.stepper.now) inside.next sound looped
          (asked-ready inside.table.now inside.looped looped sound.ready refl sound.ready.delays c.ask_scope.ensures.stays.hand
          c.ask_scope.ensures.rests c.ask_scope.ensures.asked)
          refl c.ask_scope.ensures.asked;
      spawns_is = c.self.invariant.spawns_is;
      both = c.self.invariant.both;
    }

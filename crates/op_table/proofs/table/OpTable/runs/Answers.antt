use Rattle.std.proofs.Common.{ap, ◌∙◌, subst}
use Rattle.std.specs.Prelude.{nat_le}
use Rattle.table_steps.specs.Remembers.{running}
use Rattle.table_kept.proofs.Remembering.{IsLaid, place-here}
use Rattle.table_stop_kept.proofs.Run.Remembered.{tells-run}
use Rattle.op_table.proofs.table.OpTable.runs.Goals as goal

pub contains-requires : goal.contains-requires
contains-requires g c =
    record {
      place = place-here c.hand.invariant.runs c.args.self.now
          (subst IsLaid c.self.view_is (record { words = c.self.invariant.2; slots = c.self.invariant.3 }))
          (ap (λ s. s.table_id) c.hand.view_is ∙ c.requires.table.table_is) c.args.name c.requires.place;
    }

pub returns : goal.returns
returns g c =
    c.contains.ensures
    ∙ tells-run c.hand.inside.seat c.hand.inside.owed c.hand.inside.runs c.hand.invariant c.args.name
    ∙ ap (λ s. nat_le 1 (running s.me.0 c.args.name)) c.hand.view_is

use Rattle.std.proofs.Common.{List, ℕ, None, subst, arith}
use Rattle.exec_io.specs.Views.{SourceView}
use Rattle.picture_commands.specs.Shows.{Names}
use Rattle.picture_commands.proofs.showing.show_asked.Goals as goal

-- no record
none_read : SourceView
none_read = record { left = None; faults = 0 }

pub returns : goal.returns
returns g c =
    let ended = g.N.Sink.told c.show_file-status.new.notes in
    let done = c.show_file-status.ensures none_read in
    record {
      ended = ended;
      ends = c.show_file-status.ensures;
      names = subst (λ (name : List ℕ). Names c.show_file-status.result name ended (g.N.Sink.told c.name_missing.new.notes)) c.file_of.ensures c.name_missing.ensures.names;
      notes_later = omega (arith, done.notes_later, c.name_missing.ensures.later);
    }

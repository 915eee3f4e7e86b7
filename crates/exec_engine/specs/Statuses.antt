-- The status of a run whose plan was opened, by how it ended.
use Rattle.std.specs.Prelude.{◌==◌, Bool, true, false, nat_lt, if◌then◌else◌}
use Rattle.line_summary.specs.declared.summary.Summary.{Summary}
use Rattle.record_lines.specs.declared.ending.End.{End}
use Rattle.record_lines.specs.declared.ending.End.TheVariants.{Ended, Fault, Limit as LimitEnd}
use Rattle.record_loop.specs.declared.ending.Ending.{Ending}
use Rattle.exec_status.specs.declared.status.Status.{Status}
use Rattle.exec_status.specs.declared.status.Status.TheVariants.{AllValues, NotAllValues, NoMemory, ReadFault, WriteFault, Limit}

-- The status of lines that were all written, by their numbers.
abbrev pub status_of_lines : Summary → Status
status_of_lines summary =
    if nat_lt 0 summary.no_memory then NoMemory
    else (if summary.values == summary.lines then AllValues else NotAllValues)

-- A lost write comes first.
abbrev pub status_at : Bool → End → Summary → Status
status_at true end summary = WriteFault
status_at false Fault summary = ReadFault
status_at false LimitEnd summary = Limit
status_at false Ended summary = status_of_lines summary

abbrev pub status_of : Ending → Status
status_of ending = status_at ending.lost ending.end ending.summary

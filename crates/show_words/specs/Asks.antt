-- What a list of words asks for.
use Rattle.std.specs.Prelude.{ℕ, ◌<◌, nat_lt, List, [], ◌∷◌, Option, None, Some, is_some, codes, bytes_eq, if◌then◌else◌}
use Rattle.std.specs.Borrow.{Bor}
use Rattle.std.specs.Option.{option_map, option_and_then, unwrap_or}
use Rattle.show_words.specs.declared.asked.Asked.{Asked}
use Rattle.show_words.specs.declared.asked.Asked.TheVariants.{Plan, Trace, Why, Write, Text}
use Rattle.show_words.specs.declared.asked.Rows.{Rows}
use Rattle.show_words.specs.declared.asked.TheConstants.{MOST_ENTRY}
use Rattle.show_words.specs.declared.reading.Reading.{Reading}
use Rattle.exec_words.specs.Command.{only_name}
use Rattle.show_words.specs.Reading.{nothing_said_of_rows, read_rows_on}

-- All rows, where nothing else is said.
abbrev pub rows_of : Reading → Rows
rows_of r = record {
  refused = r.refused;
  first = unwrap_or r.from 1;
  last = unwrap_or r.to MOST_ENTRY;
}

-- A picture of a trace has a file, and its last row isn't before its first.
abbrev pub trace_of : Reading → Option Asked
trace_of r =
    if is_some r.awaits then None else (
    if nat_lt (rows_of r).last (rows_of r).first then None
    else option_map (λ file. Trace file (rows_of r)) r.file)

-- What a list of words asks for. None is a fault of usage.
abbrev pub asked_of : List (Bor (List ℕ)) → Option Asked
asked_of [] = None
asked_of (first ∷ words) =
    let file = only_name words in
    if bytes_eq first.now (codes "plan") then option_map (λ name. Plan name) file else (
    if bytes_eq first.now (codes "trace")
    then option_and_then trace_of (read_rows_on nothing_said_of_rows words) else (
    if bytes_eq first.now (codes "why") then option_map (λ name. Why name) file else (
    if bytes_eq first.now (codes "write") then option_map (λ name. Write name) file else (
    if bytes_eq first.now (codes "text") then option_map (λ name. Text name) file else None))))

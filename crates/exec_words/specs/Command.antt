-- Which command a list of words asks for.
use Rattle.std.specs.Prelude.{ℕ, ◌||◌, List, [], ◌∷◌, Option, None, Some, is_some, codes, bytes_eq, if◌then◌else◌}
use Rattle.std.specs.Borrow.{Bor}
use Rattle.std.specs.Option.{option_map, option_and_then, unwrap_or}
use Rattle.exec_words.specs.declared.command.Command.{Command}
use Rattle.exec_words.specs.declared.command.Command.TheVariants.{Run, Gen, Replay, Check}
use Rattle.exec_words.specs.declared.command.Options.{Options}
use Rattle.exec_words.specs.declared.command.Order.TheVariants.{Fifo}
use Rattle.exec_words.specs.declared.number.TheConstants.{MOST_GENERATED}
use Rattle.exec_words.specs.declared.reading.Reading.{Reading}
use Rattle.exec_words.specs.declared.words.TheConstants.{DEFAULT_WORKERS, DEFAULT_WINDOW}
use Rattle.exec_words.specs.Numbers.{number_between}
use Rattle.exec_words.specs.Reading.{is_name, nothing_said, read_on}

-- Four workers, a window of 64 and the order fifo, where nothing else is said.
abbrev pub options_of : Reading → Options
options_of r = record {
  workers = unwrap_or r.workers DEFAULT_WORKERS;
  window = unwrap_or r.window DEFAULT_WINDOW;
  order = unwrap_or r.order Fifo;
}

-- A run has a plan and no number.
abbrev pub run_of : Reading → Option Command
run_of r =
    if is_some r.awaits || is_some r.count then None
    else option_map (λ plan. Run plan (options_of r) r.summary) r.plan

-- A run over generated records has a plan and their number, and no word for the summary.
abbrev pub gen_of : Reading → Option Command
gen_of r =
    if is_some r.awaits || r.summary then None
    else option_and_then (λ plan.
    option_and_then (λ (count : Bor (List ℕ)).
    option_map (λ n. Gen plan n (options_of r)) (number_between 0 MOST_GENERATED count.now))
    r.count) r.plan

-- One word, which is a name.
abbrev pub only_name : List (Bor (List ℕ)) → Option (Bor (List ℕ))
only_name (name ∷ []) = if is_name name.now then Some name else None
only_name _ = None

-- The command of a list of words. None is a fault of usage.
abbrev pub command_of : List (Bor (List ℕ)) → Option Command
command_of [] = None
command_of (first ∷ words) =
    let said = read_on nothing_said words in
    let file = only_name words in
    if bytes_eq first.now (codes "run") then option_and_then run_of said else (
    if bytes_eq first.now (codes "gen") then option_and_then gen_of said else (
    if bytes_eq first.now (codes "replay") then option_map (λ name. Replay name) file else (
    if bytes_eq first.now (codes "check") then option_map (λ name. Check name) file else None)))

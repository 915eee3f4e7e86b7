-- What the words behind `trace` say, one after another.
use Rattle.std.specs.Prelude.{ℕ, true, false, ◌==◌, List, [], ◌∷◌, Option, None, Some, is_none, codes, bytes_eq, if◌then◌else◌}
use Rattle.std.specs.Borrow.{Bor}
use Rattle.std.specs.List.{before_first, after_first}
use Rattle.std.specs.Option.{option_map, option_and_then}
use Rattle.show_words.specs.declared.asked.TheConstants.{MOST_ENTRY}
use Rattle.show_words.specs.declared.reading.Reading.{Reading}
use Rattle.show_words.specs.declared.reading.Setting.{Setting}
use Rattle.show_words.specs.declared.reading.Setting.TheVariants.{From, To}
use Rattle.exec_words.specs.Numbers.{number_between}
use Rattle.exec_words.specs.Reading.{is_name, once}

-- The options that take a value.
abbrev pub row_setting_named : List ℕ → Option Setting
row_setting_named name =
    if bytes_eq name (codes "--from") then Some From else (
    if bytes_eq name (codes "--to") then Some To else None)

-- Before the first of these words.
abbrev pub nothing_said_of_rows : Reading
nothing_said_of_rows = record {
  file = None;
  from = None;
  to = None;
  refused = false;
  awaits = None;
}

-- The numbers of entries, from 1.
abbrev pub with_from : List ℕ → Reading → Option Reading
with_from value r =
    option_map (λ n. record r { from = Some n; awaits = None })
    (once r.from (number_between 1 MOST_ENTRY value))

abbrev pub with_to : List ℕ → Reading → Option Reading
with_to value r =
    option_map (λ n. record r { to = Some n; awaits = None })
    (once r.to (number_between 1 MOST_ENTRY value))

-- The value of an option.
abbrev pub with_row : Setting → List ℕ → Reading → Option Reading
with_row From value r = with_from value r
with_row To value r = with_to value r

-- The mark is asked for once.
abbrev pub with_refused : Reading → Option Reading
with_refused r = if r.refused then None else Some (record r { refused = true })

-- The one name is the file's.
abbrev pub with_trace_file : Bor (List ℕ) → Reading → Option Reading
with_trace_file name r = if is_none r.file then Some (record r { file = Some name }) else None

-- The name of an option, `=` and its value, in one word.
abbrev pub with_joined_row : List ℕ → Reading → Option Reading
with_joined_row word r =
    option_and_then (λ setting. with_row setting (after_first (λ b. b == 61) word) r)
    (row_setting_named (before_first (λ b. b == 61) word))

-- A word that is no name is an option that awaits its value, the word for the mark, or an option
-- with its value.
abbrev pub with_trace_option : List ℕ → Reading → Option Reading
with_trace_option word r =
    elim (row_setting_named word) [
      | Some setting ↦ Some (record r { awaits = Some setting })
      | None ↦ if bytes_eq word (codes "--refused") then with_refused r else with_joined_row word r
    ]

-- One word more is the value that is awaited, else a name or an option.
abbrev pub with_trace_word : Bor (List ℕ) → Reading → Option Reading
with_trace_word word r =
    elim r.awaits [
      | Some setting ↦ with_row setting word.now r
      | None ↦ if is_name word.now then with_trace_file word r else with_trace_option word.now r
    ]

-- The words, one after another, after what was said before them.
abbrev pub read_rows_on : Reading → List (Bor (List ℕ)) → Option Reading
read_rows_on r [] = Some r
read_rows_on r (word ∷ words) = option_and_then (λ s. read_rows_on s words) (with_trace_word word r)

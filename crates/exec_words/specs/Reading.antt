-- What the words behind the first one say, one after another.
use Rattle.std.specs.Prelude.{ℕ, Bool, true, false, ◌==◌, not, List, [], ◌∷◌, Option, None, Some, is_some, is_none, codes, bytes_eq, if◌then◌else◌}
use Rattle.std.specs.Borrow.{Bor}
use Rattle.std.specs.List.{before_first, after_first}
use Rattle.std.specs.Option.{option_map, option_and_then}
use Rattle.exec_words.specs.declared.command.Order.{Order}
use Rattle.exec_words.specs.declared.command.Order.TheVariants.{Fifo, Lifo}
use Rattle.exec_words.specs.declared.number.TheConstants.{MOST_WORKERS, MOST_WINDOW}
use Rattle.exec_words.specs.declared.reading.Reading.{Reading}
use Rattle.exec_words.specs.declared.reading.Setting.{Setting}
use Rattle.exec_words.specs.declared.reading.Setting.TheVariants.{Workers, Window, Order as OrderSetting}
use Rattle.exec_words.specs.Numbers.{number_between}

-- A word is a name where it isn't empty and doesn't begin with `-`.
abbrev pub is_name : List ℕ → Bool
is_name [] = false
is_name (first ∷ _) = not (first == 45)

-- The options that take a value.
abbrev pub setting_named : List ℕ → Option Setting
setting_named name =
    if bytes_eq name (codes "--workers") then Some Workers else (
    if bytes_eq name (codes "--window") then Some Window else (
    if bytes_eq name (codes "--order") then Some OrderSetting else None))

-- The orders.
abbrev pub order_named : List ℕ → Option Order
order_named name =
    if bytes_eq name (codes "fifo") then Some Fifo else (
    if bytes_eq name (codes "lifo") then Some Lifo else None)

-- Before the first of these words.
abbrev pub nothing_said : Reading
nothing_said = record {
  plan = None;
  count = None;
  workers = None;
  window = None;
  order = None;
  summary = false;
  awaits = None;
}

-- What is said once: a good value, where there was none before.
abbrev pub once : {A : Type 0} → Option A → Option A → Option A
once before value = if is_some before then None else value

-- The workers are 0 to 16.
abbrev pub with_workers : List ℕ → Reading → Option Reading
with_workers value r =
    option_map (λ n. record r { workers = Some n; awaits = None })
    (once r.workers (number_between 0 MOST_WORKERS value))

-- The window is 1 to 256.
abbrev pub with_window : List ℕ → Reading → Option Reading
with_window value r =
    option_map (λ n. record r { window = Some n; awaits = None })
    (once r.window (number_between 1 MOST_WINDOW value))

-- The order is fifo or lifo.
abbrev pub with_order : List ℕ → Reading → Option Reading
with_order value r =
    option_map (λ o. record r { order = Some o; awaits = None }) (once r.order (order_named value))

-- The value of an option.
abbrev pub with_value : Setting → List ℕ → Reading → Option Reading
with_value Workers value r = with_workers value r
with_value Window value r = with_window value r
with_value OrderSetting value r = with_order value r

-- The summary is asked for once.
abbrev pub with_summary : Reading → Option Reading
with_summary r = if r.summary then None else Some (record r { summary = true })

-- The first name is the plan's, the second stands for a number, and there is no third.
abbrev pub with_name : Bor (List ℕ) → Reading → Option Reading
with_name name r =
    if is_none r.plan then Some (record r { plan = Some name }) else (
    if is_none r.count then Some (record r { count = Some name }) else None)

-- The name of an option, `=` and its value, in one word.
abbrev pub with_joined : List ℕ → Reading → Option Reading
with_joined word r =
    option_and_then (λ setting. with_value setting (after_first (λ b. b == 61) word) r)
    (setting_named (before_first (λ b. b == 61) word))

-- A word that is no name is an option that awaits its value, the word for the summary, or an option
-- with its value.
abbrev pub with_option : List ℕ → Reading → Option Reading
with_option word r =
    elim (setting_named word) [
      | Some setting ↦ Some (record r { awaits = Some setting })
      | None ↦ if bytes_eq word (codes "--summary") then with_summary r else with_joined word r
    ]

-- One word more is the value that is awaited, else a name or an option.
abbrev pub with_word : Bor (List ℕ) → Reading → Option Reading
with_word word r =
    elim r.awaits [
      | Some setting ↦ with_value setting word.now r
      | None ↦ if is_name word.now then with_name word r else with_option word.now r
    ]

-- The words, one after another, after what was said before them.
abbrev pub read_on : Reading → List (Bor (List ℕ)) → Option Reading
read_on r [] = Some r
read_on r (word ∷ words) = option_and_then (λ s. read_on s words) (with_word word r)

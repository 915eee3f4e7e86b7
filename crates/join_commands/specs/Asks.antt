-- What words ask to be joined.
use Rattle.std.specs.Prelude.{◌≡◌, ℕ, ◌-◌, Bool, true, ◌&&◌, List, [], ◌∷◌, ◌++◌, length, drop, nat_le, Option, None, Some, codes, bytes_eq, if◌then◌else◌}
use Rattle.std.specs.Borrow.{Bor}
use Rattle.std.specs.List.{list_all}
use Rattle.exec_words.specs.Reading.{is_name}
use Rattle.join_commands.specs.declared.ask.Asked.{Asked}
use Rattle.join_commands.specs.declared.ask.Request.{Request}
use Rattle.join_commands.specs.declared.ask.Asked.TheVariants.{Lines, Dealt, Summary}
use Rattle.join_commands.specs.declared.ask.TheConstants.{MOST_PARTS}

-- Names of parts: one or more, each of which is a name, and not too many.
abbrev pub are_names : List (Bor (List ℕ)) → Bool
are_names names =
    nat_le 1 (length names) && nat_le (length names) MOST_PARTS
    && list_all (λ name. is_name name.now) names

-- This is asked where the words are names of parts.
abbrev pub asked_with : Asked → List (Bor (List ℕ)) → Option Asked
asked_with asked names = if are_names names then Some asked else None

-- What words behind `lines` ask.
abbrev pub lines_asked : List (Bor (List ℕ)) → Option Asked
lines_asked [] = None
lines_asked (first ∷ names) =
    if bytes_eq first.now (codes "--dealt") then asked_with Dealt names
    else asked_with Lines (first ∷ names)

-- What words ask to be joined. None is a fault of usage.
abbrev pub command_asked : List (Bor (List ℕ)) → Option Asked
command_asked [] = None
command_asked (first ∷ words) =
    if bytes_eq first.now (codes "lines") then lines_asked words
    else (if bytes_eq first.now (codes "summary") then asked_with Summary words else None)

-- How many words stand before the names.
abbrev pub words_before : Asked → ℕ
words_before Lines = 1
words_before Dealt = 2
words_before Summary = 1

-- These words ask this of the parts of these names.
pub record IsRequest (words : List (Bor (List ℕ))) (request : Request) : Type 0 where
  pub asked : command_asked words ≡ Some request.asked
  pub names : request.names.now ≡ drop (words_before request.asked) words
  pub are : are_names request.names.now ≡ true

-- The words behind `lines` do.
pub record IsLinesRequest (words : List (Bor (List ℕ))) (request : Request) : Type 0 where
  pub asked : lines_asked words ≡ Some request.asked
  pub names : request.names.now ≡ drop (words_before request.asked - 1) words
  pub are : are_names request.names.now ≡ true

-- The lines that tell how the program is called.
abbrev pub join_usage : List ℕ
join_usage =
    codes "usage: exec_join lines [--dealt] PART..\n" ++ codes "usage: exec_join summary PART..\n"

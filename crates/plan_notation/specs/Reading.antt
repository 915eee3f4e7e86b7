-- What a text in the notation is: a plan file's JSON, or the first refusal.
use Rattle.std.specs.Prelude.{ℕ, List, [], ◌∷◌, length, Result, Ok, Err, if◌then◌else◌}
use Rattle.plan_words.specs.Cutting.{tokens_of}
use Rattle.plan_words.specs.Lexemes.{Lexeme}
use Rattle.plan_notation.specs.declared.machine.Expect.{Expect}
use Rattle.plan_notation.specs.declared.machine.Expect.TheVariants as expect
use Rattle.plan_notation.specs.declared.wanted.Refusal.{Refusal}
use Rattle.plan_notation.specs.declared.wanted.Wanted.{Wanted}
use Rattle.plan_notation.specs.declared.wanted.Wanted.TheVariants as wanted
use Rattle.plan_notation.specs.Assembled.{plan_json}
use Rattle.plan_notation.specs.Frames.{SpotSeen}
use Rattle.plan_notation.specs.Grammar.{wanted_by_setting}
use Rattle.plan_notation.specs.Machine.{Outcome, machine_at_start, is_text_done, start_input, token_step, then_on}
use Rattle.plan_notation.specs.States.{MachineState}

-- all tokens, in order
abbrev pub run_tokens : List Lexeme → MachineState → Outcome
run_tokens [] s = Ok s
run_tokens (t ∷ ts) s = then_on (run_tokens ts) (token_step t s)

-- what was read: the JSON of a plan file, the nodes in the order of their ends, and where the scope
-- is told
pub record TextRead : Type 0 where
  pub json : List ℕ
  pub spots : List SpotSeen
  pub scope_at : ℕ

abbrev pub reads_of : MachineState → TextRead
reads_of s = record {
  json = plan_json s.said s.sender.text;
  spots = s.spots;
  scope_at = s.said.scope_at;
}

-- what is wanted where the text ends too early
abbrev pub lacking : Expect → Wanted
lacking expect.Start = wanted.Sender
lacking (expect.Setting which at) = wanted_by_setting which
lacking expect.Adaptor = wanted.Adaptor
lacking expect.Bracket = wanted.Bracket
lacking other = wanted.Separator

-- the text ends behind a sender that no node has as an argument
abbrev pub reads_if_done : ℕ → MachineState → Result TextRead Refusal
reads_if_done end s =
    if is_text_done s then Ok (reads_of s) else Err (record { at = end; wanted = lacking s.expect })

-- an `input` that stands last is a node
abbrev pub last_begun : Expect → MachineState → Outcome
last_begun (expect.Input at) s = start_input at s
last_begun next s = Ok s

abbrev pub then_reads : (MachineState → Result TextRead Refusal) → Outcome → Result TextRead Refusal
then_reads next (Ok s) = next s
then_reads next (Err refusal) = Err refusal

abbrev pub reads_at_end : ℕ → MachineState → Result TextRead Refusal
reads_at_end end s = then_reads (reads_if_done end) (last_begun s.expect s)

-- the text
abbrev pub read_in : List ℕ → Result TextRead Refusal
read_in text = then_reads (reads_at_end (length text))
    (run_tokens (tokens_of text) machine_at_start)

-- its JSON
abbrev pub json_of_reads : Result TextRead Refusal → Result (List ℕ) Refusal
json_of_reads (Ok reads) = Ok reads.json
json_of_reads (Err refusal) = Err refusal

abbrev pub json_in : List ℕ → Result (List ℕ) Refusal
json_in text = json_of_reads (read_in text)

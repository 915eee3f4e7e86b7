-- How a text is read, token by token: what each changes, or the first that is refused.
use Rattle.std.specs.Prelude.{◌≡◌, ℕ, ◌+◌, Bool, true, false, ◌||◌, ◌&&◌, List, [], ◌∷◌, ◌++◌, length, nat_le, nat_lt, Option, Some, None, Result, Ok, Err, MatchResult, if◌then◌else◌}
use Rattle.plan_words.specs.declared.kind.TokenKind.TheVariants as kind
use Rattle.plan_words.specs.Lexemes.{Lexeme}
use Rattle.plan_parts.specs.declared.job_word.JobWord.{JobWord}
use Rattle.plan_parts.specs.JobWords.{job_named}
use Rattle.plan_shape.specs.declared.limits.TheConstants.{MOST_DEPTH}
use Rattle.plan_reader.specs.declared.node_word.Leaf.TheVariants as leaf
use Rattle.plan_reader.specs.declared.node_word.NodeWord.{NodeWord}
use Rattle.plan_reader.specs.declared.node_word.NodeWord.TheVariants as node
use Rattle.plan_reader.specs.NodeWords.{node_named}
use Rattle.plan_notation.specs.declared.grammar.Setting.{Setting}
use Rattle.plan_notation.specs.declared.grammar.Setting.TheVariants as setting
use Rattle.plan_notation.specs.declared.machine.Expect.{Expect}
use Rattle.plan_notation.specs.declared.machine.Expect.TheVariants as expect
use Rattle.plan_notation.specs.declared.wanted.Fault.{Fault}
use Rattle.plan_notation.specs.declared.wanted.Refusal.{Refusal}
use Rattle.plan_notation.specs.declared.wanted.Wanted.{Wanted}
use Rattle.plan_notation.specs.declared.wanted.Wanted.TheVariants as wanted
use Rattle.plan_notation.specs.Arguments.{IsTokenFault, argument_text, is_kind, token_name, refuse}
use Rattle.plan_notation.specs.Assembled.{job_json, node_json}
use Rattle.plan_notation.specs.Frames.{DoneSender, FrameSeen, SpotSeen, new_frame, no_sender, frame_over, with_argument, with_sender}
use Rattle.plan_notation.specs.Grammar.{begins_sender, fewest, fewest_of_job, has_brackets, is_element_word, setting_of_name, wanted_by_node, wanted_by_job, wanted_by_setting}
use Rattle.plan_notation.specs.Said.{settings_at_first, with_setting}
use Rattle.plan_notation.specs.States.{MachineState}

abbrev pub Outcome : Type 0
Outcome = Result MachineState Refusal

-- a call goes on to the state that was wanted, or is refused as was wanted
abbrev pub Steps : Outcome → MachineState → Result (Unit {0}) Fault → Type 0
Steps outcome new result = MatchResult result (λ _. outcome ≡ Ok new) (IsTokenFault outcome)

-- before the first token
abbrev pub machine_at_start : MachineState
machine_at_start = record {
  said = settings_at_first;
  expect = expect.Start;
  sender = no_sender;
  frames = [];
  constants = [];
  spots = [];
}

abbrev pub in_expect : Expect → MachineState → MachineState
in_expect next s = record s { expect = next }

abbrev pub pushed : FrameSeen → MachineState → MachineState
pushed f s = record s { frames = f ∷ s.frames }

abbrev pub with_frames : List FrameSeen → MachineState → MachineState
with_frames frames s = record s { frames = frames }

abbrev pub without_sender : MachineState → MachineState
without_sender s = record s { sender = no_sender }

-- a node is the sender that is done
abbrev pub spot_of_frame : FrameSeen → SpotSeen
spot_of_frame f = record { at = f.at; below = f.below }

abbrev pub put : FrameSeen → MachineState → MachineState
put f s = record s {
  sender = record {
    text = node_json f.word f.child f.arguments;
    height = f.height + 1;
    number = length s.spots;
  };
  spots = s.spots ++ spot_of_frame f ∷ [];
  expect = expect.Behind;
}

-- a node has all its arguments; it may not stand over too long a path
abbrev pub finish : FrameSeen → MachineState → Outcome
finish f s =
    if nat_le MOST_DEPTH f.height then Err (record { at = f.at; wanted = wanted.Depth })
    else Ok (put f s)

-- a node begins, over this sender if it takes one
abbrev pub node_begun : NodeWord → ℕ → Option DoneSender → FrameSeen
node_begun word at None = new_frame word at
node_begun word at (Some child) = frame_over child (new_frame word at)

abbrev pub begin_frame : FrameSeen → MachineState → Outcome
begin_frame f s =
    if has_brackets f.word then Ok (in_expect expect.Bracket (pushed f s)) else finish f s

abbrev pub begin : NodeWord → ℕ → Option DoneSender → MachineState → Outcome
begin word at child s = begin_frame (node_begun word at child) s

-- a node that begins a sender
abbrev pub named_sender : Option NodeWord → Lexeme → MachineState → Outcome
named_sender (Some word) t s =
    if begins_sender word then begin word t.at None s else refuse t wanted.Sender
named_sender None t s = refuse t wanted.Sender

abbrev pub begin_sender : Lexeme → MachineState → Outcome
begin_sender t s = named_sender (node_named false (token_name t.text)) t s

-- a node that takes the sender before the bar
abbrev pub named_adaptor : Option NodeWord → Lexeme → MachineState → Outcome
named_adaptor (Some word) t s =
    if begins_sender word then refuse t wanted.Adaptor
    else begin word t.at (Some s.sender) (without_sender s)
named_adaptor None t s = refuse t wanted.Adaptor

abbrev pub begin_adaptor : Lexeme → MachineState → Outcome
begin_adaptor t s = named_adaptor (node_named false (token_name t.text)) t s

-- the bracket behind the last argument
abbrev pub or_wanted : Wanted → Option Wanted → Wanted
or_wanted other (Some w) = w
or_wanted other None = other

abbrev pub missing : FrameSeen → Wanted
missing f = or_wanted wanted.Close (wanted_by_node f.word (length f.arguments))

abbrev pub closes : List FrameSeen → Lexeme → MachineState → Outcome
closes [] t s = refuse t wanted.End
closes (f ∷ fs) t s =
    if nat_lt (length f.arguments) (fewest f.word) then refuse t (missing f)
    else finish f (with_frames fs s)

abbrev pub close : Lexeme → MachineState → Outcome
close t s = closes s.frames t s

-- a job
abbrev pub is_job : Wanted → Bool
is_job wanted.Job = true
is_job wanted.ElementJob = true
is_job w = false

abbrev pub allows : Wanted → JobWord → Bool
allows wanted.ElementJob job = is_element_word job
allows w job = true

abbrev pub named_job : Option JobWord → Wanted → Lexeme → MachineState → Outcome
named_job (Some job) w t s =
    if allows w job then Ok (record s { constants = []; expect = expect.Job job }) else refuse t w
named_job None w t s = refuse t w

abbrev pub begin_job : Wanted → Lexeme → MachineState → Outcome
begin_job w t s = named_job (job_named (token_name t.text)) w t s

-- the next argument of a node
abbrev pub with_text : Result (List ℕ) Refusal → FrameSeen → MachineState → Outcome
with_text (Ok text) f s = Ok (in_expect expect.Separator (pushed (with_argument text f) s))
with_text (Err refusal) f s = Err refusal

abbrev pub argued : Option Wanted → FrameSeen → Lexeme → MachineState → Outcome
argued None f t s = refuse t wanted.Close
argued (Some wanted.Sender) f t s = begin_sender t (pushed f s)
argued (Some w) f t s =
    if is_job w then begin_job w t (pushed f s) else with_text (argument_text w t) f s

abbrev pub argues : List FrameSeen → Lexeme → MachineState → Outcome
argues [] t s = refuse t wanted.End
argues (f ∷ fs) t s = argued (wanted_by_node f.word (length f.arguments)) f t (with_frames fs s)

abbrev pub argument : Lexeme → MachineState → Outcome
argument t s = argues s.frames t s

-- behind an argument: a comma, or the last bracket
abbrev pub separator : Lexeme → MachineState → Outcome
separator t s =
    if is_kind t kind.Comma then Ok (in_expect expect.Argument s)
    else (if is_kind t kind.Close then close t s else refuse t wanted.Separator)

-- behind a job: a constant of it, or what follows it
abbrev pub constant_added : List ℕ → MachineState → MachineState
constant_added text s = record s { constants = s.constants ++ text ∷ [] }

abbrev pub with_read : Result (List ℕ) Refusal → MachineState → Outcome
with_read (Ok text) s = Ok (constant_added text s)
with_read (Err refusal) s = Err refusal

abbrev pub next_constant : Option Wanted → Lexeme → MachineState → Outcome
next_constant (Some w) t s = with_read (argument_text w t) s
next_constant None t s = refuse t wanted.Separator

abbrev pub missing_of_job : JobWord → ℕ → Wanted
missing_of_job job count = or_wanted wanted.Separator (wanted_by_job job count)

abbrev pub job_ended : List ℕ → List FrameSeen → Lexeme → MachineState → Outcome
job_ended text [] t s = refuse t wanted.End
job_ended text (f ∷ fs) t s = separator t (pushed (with_argument text f) (with_frames fs s))

abbrev pub end_job : JobWord → Lexeme → MachineState → Outcome
end_job job t s =
    if nat_lt (length s.constants) (fewest_of_job job)
    then refuse t (missing_of_job job (length s.constants))
    else job_ended (job_json job s.constants) s.frames t s

abbrev pub after_job : JobWord → Lexeme → MachineState → Outcome
after_job job t s =
    if is_kind t kind.Comma || is_kind t kind.Close then end_job job t s
    else next_constant (wanted_by_job job (length s.constants)) t s

-- behind a sender: a bar, or the sender is an argument
abbrev pub sender_ended : List FrameSeen → Lexeme → MachineState → Outcome
sender_ended [] t s = refuse t wanted.End
sender_ended (f ∷ fs) t s =
    separator t (pushed (with_sender s.sender f) (without_sender (with_frames fs s)))

abbrev pub after_sender : Lexeme → MachineState → Outcome
after_sender t s =
    if is_kind t kind.Bar then Ok (in_expect expect.Adaptor s) else sender_ended s.frames t s

-- the value of a setting
abbrev pub setting_told : Setting → List ℕ → ℕ → MachineState → MachineState
setting_told which value at s =
    record s { said = with_setting which value at s.said; expect = expect.Start }

abbrev pub told_as : Setting → ℕ → Result (List ℕ) Refusal → MachineState → Outcome
told_as which at (Ok value) s = Ok (setting_told which value at s)
told_as which at (Err refusal) s = Err refusal

abbrev pub after_setting : Setting → ℕ → Lexeme → MachineState → Outcome
after_setting which at t s = told_as which at (argument_text (wanted_by_setting which) t) s

-- behind `input`: a word is the kind of the records
abbrev pub then_on : (MachineState → Outcome) → Outcome → Outcome
then_on next (Ok s) = next s
then_on next (Err refusal) = Err refusal

abbrev pub start_input : ℕ → MachineState → Outcome
start_input at s = begin (node.Leaf leaf.Input) at None s

abbrev pub after_input : ℕ → Lexeme → MachineState → Outcome
after_input at t s =
    if is_kind t kind.Word then after_setting setting.Input at t s
    else then_on (after_sender t) (start_input at s)

-- at the head of the text: a setting, or the first node
abbrev pub started : Option Setting → Lexeme → MachineState → Outcome
started (Some setting.Input) t s = Ok (in_expect (expect.Input t.at) s)
started (Some other) t s = Ok (in_expect (expect.Setting other t.at) s)
started None t s = begin_sender t s

abbrev pub start : Lexeme → MachineState → Outcome
start t s = started (setting_of_name (token_name t.text)) t s

-- the bracket before arguments, and an argument or the bracket behind none
abbrev pub bracket : Lexeme → MachineState → Outcome
bracket t s =
    if is_kind t kind.Open then Ok (in_expect expect.First s) else refuse t wanted.Bracket

abbrev pub first_argument : Lexeme → MachineState → Outcome
first_argument t s = if is_kind t kind.Close then close t s else argument t s

-- the next token
abbrev pub step_from : Expect → Lexeme → MachineState → Outcome
step_from expect.Start t s = start t s
step_from (expect.Setting which at) t s = after_setting which at t s
step_from (expect.Input at) t s = after_input at t s
step_from expect.Adaptor t s = begin_adaptor t s
step_from expect.Bracket t s = bracket t s
step_from expect.First t s = first_argument t s
step_from expect.Argument t s = argument t s
step_from (expect.Job job) t s = after_job job t s
step_from expect.Separator t s = separator t s
step_from expect.Behind t s = after_sender t s

abbrev pub token_step : Lexeme → MachineState → Outcome
token_step t s = step_from s.expect t s

-- a sender is done, and no node has it as an argument
abbrev pub is_behind : Expect → Bool
is_behind expect.Behind = true
is_behind next = false

abbrev pub has_none : List FrameSeen → Bool
has_none [] = true
has_none (f ∷ fs) = false

abbrev pub is_text_done : MachineState → Bool
is_text_done s = is_behind s.expect && has_none s.frames

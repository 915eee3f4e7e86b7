-- What is said of a trace.
use Rattle.std.specs.Prelude.{ℕ, ◌+◌, ◌==◌, Bool, true, false, if◌then◌else◌, List, [], ◌++◌, length, codes}
use Rattle.life_rules.specs.States.{State}
use Rattle.replay_core.specs.Traces.{state_at}
use Rattle.replay_core.specs.Verdicts.{IsFirstRefused, AllTaken}
use Rattle.step_reasons.specs.declared.fact.Fact.{Fact}
use Rattle.trace_text.specs.declared.entry.Entry.{Entry}
use Rattle.trace_text.specs.Texts.{entry_text}
use Rattle.trace_text.specs.Values.{TraceValue}
use Rattle.trace_reasons.specs.Open.{marks, open_text}
use Rattle.trace_reasons.specs.Sentences.{between, own_place, fact_text}
use Rattle.trace_reasons.specs.Since.{IsReason}

-- the line of the text on which the entry stands, from 1
abbrev pub entry_line : TraceValue → ℕ → ℕ
entry_line t e = length t.opening.nodes + 1 + e

abbrev pub since_text : ℕ → List ℕ
since_text j = if j == 0 then [] else between (codes " since entry ") j []

-- which entry is refused, where it stands, and why
abbrev pub refused_text : TraceValue → ℕ → Entry → Fact → ℕ → List ℕ
refused_text t e entry fact j =
    between (codes "entry ") e (codes ", line ")
    ++ (between [] (entry_line t e) (codes ": ")
    ++ (entry_text entry
    ++ (codes ": " ++ (fact_text (own_place entry.event) fact ++ (since_text j ++ codes "\n")))))

-- how many entries there are, and what is open after them
abbrev pub entries_word : ℕ → List ℕ
entries_word n = if n == 1 then codes " entry taken; " else codes " entries taken; "

abbrev pub taken_text : ℕ → State → List ℕ
taken_text n s =
    between [] n (entries_word n)
    ++ (open_text (marks s) ++ codes "\n")

-- Whether each entry of a trace is a step, and what is said of it.
pub data Explains (t : TraceValue) : Bool → List ℕ → Type 0 where
  taken : (n : ℕ) → AllTaken t n → Explains t true (taken_text n (state_at t n))
  refused : (e : ℕ) (entry : Entry) (fact : Fact) (j : ℕ) → IsFirstRefused t e
      → IsReason t e entry fact j → Explains t false (refused_text t e entry fact j)

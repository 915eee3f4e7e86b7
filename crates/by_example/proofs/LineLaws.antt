-- What the plan on the pool makes of lines.
use Rattle.std.proofs.Common.{◌≡◌, ℕ, suc, ◌+◌, List, [], ◌∷◌, length, inl, inr, refl, sym, ap, ◌∙◌, subst, arith}
use Rattle.std.specs.Prelude.{ℤ, map, slice_get, Option, None, Some, Result, Ok, Err, IfOk}
use Rattle.std.specs.declared.alloc.AllocError.{AllocError}
use Rattle.std.specs.Option.{option_map, option_and_then}
use Rattle.std.proofs.lemmas.Option.{same_Some}
use Rattle.exec_io.specs.Views.{SinkView, SourceView}
use Rattle.exec_value.specs.Number.{int_of}
use Rattle.exec_value.specs.Record.{record_of}
use Rattle.exec_value.specs.declared.data.Datum.{Datum}
use Rattle.exec_value.specs.declared.data.Datum.TheVariants.{Int}
use Rattle.exec_value.specs.declared.kinds.Kind.TheVariants.{Int as IntKind}
use Rattle.exec_value.specs.declared.outcome.Completion.{Completion}
use Rattle.exec_value.specs.declared.outcome.Outcome.{Outcome}
use Rattle.exec_value.specs.declared.outcome.Outcome.TheVariants.{Done, BadRecord}
use Rattle.plan_rules.specs.Allowed.{Allowed}
use Rattle.plan_rules.specs.declared.stop.StopState.TheVariants.{Never}
use Rattle.plan_shape.specs.Blueprint.{Blueprint}
use Rattle.record_lines.specs.Lines.{text_of}
use Rattle.record_lines.specs.Records.{records_of}
use Rattle.record_loop.specs.Printing.{Finished}
use Rattle.record_loop.specs.ReadStarts.{ReadStart}
use Rattle.record_loop.specs.declared.printer.Form.TheVariants.{Lines}
use Rattle.record_loop.specs.Tallies.{IsToldBy}
use Rattle.whole_run.specs.Accounts.{EndsRun, IsClosedFor}
use Rattle.whole_run.specs.Endings.{Streams, WantsMemory, streams}
use Rattle.whole_run.specs.declared.account.Account.{Account}
use Rattle.line_rules.specs.Lawful.{Lawful, MayEnd, datum_of}
use Rattle.line_rules.specs.PlanTerms.{AllowsRecord, terms_of}
use Rattle.by_example.specs.Adder.{pool_adder}
use Rattle.by_example.specs.Streams.{AddsOneToEach, answered, number_of, outcome_of}
use Rattle.by_example.specs.declared.streaming.TheConstants.{WINDOW}
use Rattle.by_example.proofs.AdderAllowed.{pool-adds}
use Rattle.by_example.proofs.AdderKinds.{pool-small}

-- a list that has the image of each element has the images
mapped : {A B : Type 0} (f : A → B) (xs : List A) (ys : List B) → length ys ≡ length xs →
    ((i : ℕ) (x : A) (y : B) → slice_get xs i ≡ Some x → slice_get ys i ≡ Some y → y ≡ f x) → ys ≡ map f xs
mapped f [] [] long each = refl
mapped f [] (y ∷ ys) long each = absurd (omega (arith, long))
mapped f (x ∷ xs) [] long each = absurd (omega (arith, long))
mapped f (x ∷ xs) (y ∷ ys) long each =
    let rest = mapped f xs ys (omega (arith, long)) (λ i z w at bt. each (suc i) z w at bt) in
    ap (λ b. b ∷ ys) (each 0 x y refl refl) ∙ ap (λ l. f x ∷ l) rest

-- what a line shows as an int record is its number
shown : (text : Option (List ℕ)) → option_and_then (record_of IntKind) text ≡ option_map Int (option_and_then int_of text)
shown None = refl
shown (Some line) = refl

line-number : (line : List ℕ) → datum_of IntKind line ≡ option_map Int (number_of line)
line-number line = shown (text_of line)

-- a line without a number is a bad record
bad-line : (number : Option ℤ) → option_map Int number ≡ None → BadRecord ≡ answered number
bad-line None none = refl
bad-line (Some n) none = cc

-- a number's operation completes with the next
good-line : (number : Option ℤ) (datum : Datum) (r : ℕ) (c : Completion) → option_map Int number ≡ Some datum →
    Allowed pool_adder.nodes 2 (datum ∷ []) r Never c → Done c ≡ answered number
good-line None datum r c is may = cc
good-line (Some n) datum r c is may =
    ap Done (pool-adds n r c (subst (λ (d : Datum). Allowed pool_adder.nodes 2 (d ∷ []) r Never c) (sym (same_Some (Int n) datum is)) may))

allowed-record : (r : ℕ) (datum : Datum) (c : Completion) → AllowsRecord pool_adder r datum Never c →
    Allowed pool_adder.nodes 2 (datum ∷ []) r Never c
unfolding AllowsRecord
allowed-record r datum c may = may

one-line : (window r : ℕ) (line : List ℕ) (outcome : Outcome) →
    MayEnd (terms_of WantsMemory pool_adder window) r Never line outcome → outcome ≡ outcome_of line
one-line window r line BadRecord none = bad-line (number_of line) (sym (line-number line) ∙ none)
one-line window r line (Done c) (inl wanting) = elim wanting.1 [
  | inl other ↦ absurd (other refl)
  | inr large ↦ absurd (large pool-small)
]
one-line window r line (Done c) (inr allowed) =
    good-line (number_of line) allowed.datum r c (sym (line-number line) ∙ allowed.shows)
    (allowed-record r allowed.datum c allowed.allowed)

all-lines : (window : ℕ) (lines : List (List ℕ)) (outcomes : List Outcome) →
    Lawful (terms_of WantsMemory pool_adder window) lines outcomes → outcomes ≡ map outcome_of lines
all-lines window lines outcomes lawful =
    mapped outcome_of lines outcomes lawful.as_many
    (λ i line outcome at bt. one-line window (i + 1) line outcome (lawful.each i line outcome at bt))

-- a run of a plan that is this one keeps its promise, and that one
pub same-ends : (plan : Blueprint) → plan ≡ pool_adder → (before after : Streams) (answer : Result Account AllocError) →
    IfOk answer (EndsRun plan WINDOW Lines before after) → IfOk answer (EndsRun pool_adder WINDOW Lines before after)
same-ends plan is before after answer ends = subst (λ (p : Blueprint). IfOk answer (EndsRun p WINDOW Lines before after)) is ends

module _ {S K : Type 0} (source : S → SourceView) (reads : S → Option (List ReadStart)) (sink : K → SinkView) (old new : S) (before after : K) where
  -- what its source and its sink tell
  abbrev around : S → K → Streams
  around records out = streams (source records) (reads records) (sink out)

  adds-lines : (account : Account) → EndsRun pool_adder WINDOW Lines (around old before) (around new after) account →
      IsClosedFor pool_adder WINDOW account.tally account.closing → AddsOneToEach source sink old new before after account
  adds-lines account ends closed =
      let ran = ends.ran in
      let lines = records_of ran.bytes account.ending.end in
      let are = all-lines WINDOW lines ran.answered.outcomes ran.answered.lawful in
      record {
        bytes = ran.bytes;
        rest = ran.rest;
        reads = ran.reads;
        all = λ whole. ran.all (inl whole);
        printed = subst (λ (l : List Outcome). Finished Lines (sink before) (sink after) account.ending.summary account.ending.lost l) are ran.answered.finished;
        told = subst (λ (l : List Outcome). IsToldBy pool_adder account.closing.board.table_id l account.tally) are ran.answered.told;
        closed = closed;
      }

  pub ends-adding : (plan : Blueprint) → plan ≡ pool_adder → (answer : Result Account AllocError) →
      IfOk answer (EndsRun plan WINDOW Lines (around old before) (around new after)) →
      IfOk answer (λ account. IsClosedFor plan WINDOW account.tally account.closing) → IfOk answer (AddsOneToEach source sink old new before after)
  ends-adding plan is (Ok account) ends closed =
      adds-lines account
      (subst (λ (p : Blueprint). EndsRun p WINDOW Lines (around old before) (around new after) account) is ends)
      (subst (λ (p : Blueprint). IsClosedFor p WINDOW account.tally account.closing) is closed)
  ends-adding plan is (Err e) ends closed = tt

-- How one more outcome is printed.
use Rattle.std.proofs.Common.{◌≡◌, ◌⊎◌, ℕ, ◌+◌, ◌≤◌, Bool, true, false, List, [], ◌∷◌, ◌++◌, length, take, Option, IfSome, Result, Ok, Err, is_err, OnOk, refl, sym, ap, ◌∙◌, subst, inl, inr, zero-le, append_assoc, append-nil, length-append, arith}
use Rattle.exec_io.specs.declared.fault.Failed.{Failed}
use Rattle.exec_io.specs.Causes.{HasCause}
use Rattle.exec_io.specs.Sinks.{Appends}
use Rattle.exec_io.proofs.SinkLemmas.{Appends-nil, Appends-trans}
use Rattle.exec_value.specs.declared.outcome.Outcome.{Outcome}
use Rattle.outcome_lines.specs.Line.{line_of, text_from}
use Rattle.outcome_lines.specs.Summary.{summary_of}
use Rattle.exec_io.specs.Writing.{AppendsFront, Puts}
use Rattle.exec_io.proofs.PutsLemmas.{AppendsFront-whole, AppendsFront-none, AppendsFront-cut, AppendsFront-then}
use Rattle.line_summary.specs.Counting.{Summarizes}
use Rattle.record_loop.specs.declared.printer.Form.{Form}
use Rattle.record_loop.specs.declared.printer.Form.TheVariants.{Lines, Summary}
use Rattle.record_loop.specs.declared.printer.Printer.{Printer}
use Rattle.exec_io.specs.Views.{SinkView}
use Rattle.record_loop.specs.Printing.{Wrote, text_so_far, text_of, AppendsAtLeast, HoldsAllBut, KeepsTaking, HasWrittenNone, Printed}

-- a test has one answer
pub differ : {b : Bool} → b ≡ true → b ≡ false → ⊥
differ holds fails = cc

-- a write that isn't lost in the end wasn't lost before
pub not-lost : (before after : Bool) → (before ≡ true → after ≡ true) → after ≡ false → before ≡ false
not-lost true after stays kept = let lost : after ≡ true = stays refl in cc
not-lost false after stays kept = refl

-- the text of one more outcome
text_from-more : (number : ℕ) (outcomes : List Outcome) (outcome : Outcome) → text_from number (outcomes ++ outcome ∷ []) ≡ text_from number outcomes ++ line_of (number + length outcomes) outcome
text_from-more number [] outcome = append-nil (line_of number outcome) ∙ ap (λ n. line_of n outcome) (let e : number ≡ number + 0 = omega arith in e)
text_from-more number (o ∷ outcomes) outcome =
    let next : (number + 1) + length outcomes ≡ number + length (o ∷ outcomes) = omega arith in
    ap (λ text. line_of number o ++ text) (text_from-more (number + 1) outcomes outcome ∙ ap (λ n. text_from (number + 1) outcomes ++ line_of n outcome) next)
    ∙ sym (append_assoc (line_of number o) (text_from (number + 1) outcomes) (line_of (number + length (o ∷ outcomes)) outcome))

-- the line of the next outcome stands at the end of the text
next_line : (outcomes : List Outcome) (outcome : Outcome) (number : ℕ) → number ≡ length outcomes + 1 → text_from 1 (outcomes ++ outcome ∷ []) ≡ text_from 1 outcomes ++ line_of number outcome
next_line outcomes outcome number is =
    let same : 1 + length outcomes ≡ number = omega arith in
    text_from-more 1 outcomes outcome ∙ ap (λ n. text_from 1 outcomes ++ line_of n outcome) same

-- after a lost write the front of a text is one of a longer text
Wrote-cut : {text : List ℕ} {start now : SinkView} {due lost : Bool} (more : List ℕ) → lost ≡ true → Wrote text start now due lost → Wrote (text ++ more) start now due lost
Wrote-cut more gone wrote = record {
  part = AppendsFront-cut more wrote.part;
  whole = λ kept. absurd (differ gone kept);
  handed_on = λ kept. absurd (differ gone kept);
  cause = wrote.cause;
  still = wrote.still;
  later = wrote.later;
}

-- what was written is handed on
pub Wrote-hands : {text : List ℕ} {start now : SinkView} {due : Bool} (later : SinkView) (r : Result (Unit {0}) Failed) → Wrote text start now due false
    → Appends now.written later.written [] → OnOk r (IfSome later.outstanding (λ count. count ≡ 0)) → HasCause now.faults later.faults r
    → Wrote text start later false (is_err r)
Wrote-hands {text = text} {start = start} later (Ok v) wrote same handed cause = record {
  part = subst (AppendsFront start.written later.written) (append-nil text) (AppendsFront-then (wrote.whole refl) (AppendsFront-none [] same));
  whole = λ _. subst (Appends start.written later.written) (append-nil text) (Appends-trans (wrote.whole refl) same);
  handed_on = λ _ _. inl handed;
  cause = λ is. cc;
  still = λ _. cause.still ∙ wrote.still refl;
  later = omega (arith, wrote.later, cause.later);
}
Wrote-hands {text = text} {start = start} later (Err e) wrote same handed cause = record {
  part = subst (AppendsFront start.written later.written) (append-nil text) (AppendsFront-then (wrote.whole refl) (AppendsFront-none [] same));
  whole = λ is. cc;
  handed_on = λ is. cc;
  cause = λ _. omega (arith, cause.failed, wrote.later);
  still = λ is. cc;
  later = omega (arith, wrote.later, cause.later);
}

-- more is written
Wrote-puts : {text more : List ℕ} {start : SinkView} {s t : SinkView} {due : Bool} {r : Result (Unit {0}) Failed} → Wrote text start s due false → Puts s t r more → Wrote (text ++ more) start t true (is_err r)
Wrote-puts {text = text} {more = more} {start = start} {s = s} {t = t} {r = Ok v} wrote puts = record {
  part = AppendsFront-then (wrote.whole refl) puts.part;
  whole = λ _. Appends-trans (wrote.whole refl) puts.ok;
  handed_on = λ _ settled. cc;
  cause = λ is. cc;
  still = λ _. puts.cause.still ∙ wrote.still refl;
  later = omega (arith, wrote.later, puts.cause.later);
}
Wrote-puts {text = text} {more = more} {start = start} {s = s} {t = t} {r = Err e} wrote puts = record {
  part = AppendsFront-then (wrote.whole refl) puts.part;
  whole = λ is. cc;
  handed_on = λ is. cc;
  cause = λ _. omega (arith, puts.cause.failed, wrote.later);
  still = λ is. cc;
  later = omega (arith, wrote.later, puts.cause.later);
}

-- the line of the next outcome is written
pub Printed-line : {form : Form} {start : SinkView} {s t : SinkView} {old new : Printer} {outcomes : List Outcome} {r : Result (Unit {0}) Failed} (outcome : Outcome) (number : ℕ)
    → Printed form start s old outcomes → Summarizes new.summary (outcomes ++ outcome ∷ [])
    → old.form ≡ Lines → old.lost ≡ false → number ≡ old.summary.lines + 1
    → Puts s t r (line_of number outcome) → new.form ≡ old.form → new.due ≡ true → new.lost ≡ is_err r
    → Printed form start t new (outcomes ++ outcome ∷ [])
Printed-line {form = Summary} outcome number printed counts lines kept count puts same due lost = absurd (let e : Summary ≡ Lines = sym printed.form_is ∙ lines in cc)
Printed-line {form = Lines} {start = start} {s = s} {t = t} {old = old} {new = new} {outcomes = outcomes} {r = r} outcome number printed counts lines kept count puts same due lost =
    let more : text_from 1 (outcomes ++ outcome ∷ []) ≡ text_from 1 outcomes ++ line_of number outcome = next_line outcomes outcome number (omega (arith, count, printed.counted.lines)) in
    let was : Wrote (text_from 1 outcomes) start s old.due false = subst (Wrote (text_from 1 outcomes) start s old.due) kept printed.wrote in
    let wrote = Wrote-puts was puts in
    let P : List ℕ → Type 0 = λ text. Wrote text start t true (is_err r) in
    let Q : Bool → Type 0 = λ d. Wrote (text_from 1 (outcomes ++ outcome ∷ [])) start t d (is_err r) in
    let R : Bool → Type 0 = λ l. Wrote (text_from 1 (outcomes ++ outcome ∷ [])) start t new.due l in
    record {
      form_is = same ∙ printed.form_is;
      counted = counts;
      wrote = subst R (sym lost) (subst Q (sym due) (subst P (sym more) wrote));
      none = λ summary. cc;
    }

-- the summary of the outcomes is written
pub Printed-summary : {form : Form} {start : SinkView} {s t : SinkView} {old : Printer} {outcomes : List Outcome} {due lost : Bool} {r : Result (Unit {0}) Failed}
    → Printed form start s old outcomes → old.form ≡ Summary → old.lost ≡ false
    → Puts s t r (summary_of outcomes) → due ≡ true → lost ≡ is_err r
    → Wrote (text_of form outcomes) start t due lost
Printed-summary {form = Lines} printed summary kept puts due lost = absurd (let e : Lines ≡ Summary = sym printed.form_is ∙ summary in cc)
Printed-summary {form = Summary} {start = start} {s = s} {t = t} {old = old} {outcomes = outcomes} {due = d} {lost = l} {r = r} printed summary kept puts due lost =
    let was : Wrote [] start s old.due false = subst (Wrote [] start s old.due) kept printed.wrote in
    let wrote : Wrote (summary_of outcomes) start t true (is_err r) = Wrote-puts was puts in
    let Q : Bool → Type 0 = λ d. Wrote (summary_of outcomes) start t d (is_err r) in
    let R : Bool → Type 0 = λ l. Wrote (summary_of outcomes) start t d l in
    subst R (sym lost) (subst Q (sym due) wrote)

-- nothing is left to write: the lines stand there, or a write was lost
pub Printed-rest : {form : Form} {start now : SinkView} {old : Printer} {outcomes : List Outcome} → Printed form start now old outcomes → (old.lost ≡ true) ⊎ (old.form ≡ Lines) → Wrote (text_of form outcomes) start now old.due old.lost
Printed-rest {form = Lines} printed why = printed.wrote
Printed-rest {form = Summary} {outcomes = outcomes} printed (inl gone) = Wrote-cut (summary_of outcomes) gone printed.wrote
Printed-rest {form = Summary} printed (inr lines) = absurd (let e : Summary ≡ Lines = sym printed.form_is ∙ lines in cc)

-- once what was written is handed on, nothing is due
pub Wrote-settled : {text : List ℕ} {start now : SinkView} {due lost : Bool} → (lost ≡ false → due ≡ false) → Wrote text start now due lost → Wrote text start now false lost
Wrote-settled settled wrote = record {
  part = wrote.part;
  whole = wrote.whole;
  handed_on = λ kept _. wrote.handed_on kept (settled kept);
  cause = wrote.cause;
  still = wrote.still;
  later = wrote.later;
}

-- the same outcomes are printed, where the text stands as it is told
pub Printed-same : {form : Form} {start now later : SinkView} {old new : Printer} {outcomes : List Outcome} → new.form ≡ old.form → new.summary ≡ old.summary → (HasWrittenNone old → HasWrittenNone new)
    → ((text : List ℕ) → Wrote text start now old.due old.lost → Wrote text start later new.due new.lost) → Printed form start now old outcomes → Printed form start later new outcomes
Printed-same {form = form} {outcomes = outcomes} same summary none wrote printed = record {
  form_is = same ∙ printed.form_is;
  counted = subst (λ x. Summarizes x outcomes) (sym summary) printed.counted;
  wrote = wrote (text_so_far form outcomes) printed.wrote;
  none = λ summary. none (printed.none summary);
}

-- an outcome is counted alone: after a lost write, or where a summary is to come
pub Printed-counts : {form : Form} {start now : SinkView} {old new : Printer} {outcomes : List Outcome} (outcome : Outcome) → Printed form start now old outcomes → Summarizes new.summary (outcomes ++ outcome ∷ [])
    → (old.lost ≡ true) ⊎ (old.form ≡ Summary) → new.form ≡ old.form → new.due ≡ old.due → new.lost ≡ old.lost
    → Printed form start now new (outcomes ++ outcome ∷ [])
Printed-counts {form = form} {start = start} {now = now} {old = old} {new = new} {outcomes = outcomes} outcome printed counts why same due lost = record {
  form_is = same ∙ printed.form_is;
  counted = counts;
  wrote = kept (subst (λ (l : Bool). Wrote (text_so_far form outcomes) start now new.due l) (sym lost) (subst (λ (d : Bool). Wrote (text_so_far form outcomes) start now d old.lost) (sym due) printed.wrote));
  none = λ summary. record { due = due ∙ (printed.none summary).due; lost = lost ∙ (printed.none summary).lost };
}
  where
    of_lines : (f : Form) → f ≡ form → (old.lost ≡ true) ⊎ (f ≡ Summary) → Wrote (text_so_far f outcomes) start now new.due new.lost → Wrote (text_so_far f (outcomes ++ outcome ∷ [])) start now new.due new.lost
    of_lines Summary is reason wrote = wrote
    of_lines Lines is (inl gone) wrote =
        subst (λ (text : List ℕ). Wrote text start now new.due new.lost) (sym (next_line outcomes outcome (length outcomes + 1) refl))
        (Wrote-cut (line_of (length outcomes + 1) outcome) (lost ∙ gone) wrote)
    of_lines Lines is (inr summary) wrote = cc

    reason : (old.lost ≡ true) ⊎ (old.form ≡ Summary) → (old.lost ≡ true) ⊎ (form ≡ Summary)
    reason (inl gone) = inl gone
    reason (inr summary) = inr (sym printed.form_is ∙ summary)

    kept : Wrote (text_so_far form outcomes) start now new.due new.lost → Wrote (text_so_far form (outcomes ++ outcome ∷ [])) start now new.due new.lost
    kept = of_lines form refl (reason why)

-- nothing is done to out
pub AtLeast-nil : (told : Option (List ℕ)) → AppendsAtLeast told told []
AtLeast-nil told = record { more = []; grown = Appends-nil told }

-- a front of a text is written
pub AtLeast-front : {old new : Option (List ℕ)} {text : List ℕ} → AppendsFront old new text → AppendsAtLeast old new []
AtLeast-front {text = text} front = record { more = take front.count text; grown = front.grown }

-- a text is written, and more may be
AtLeast-whole : {old new : Option (List ℕ)} (text : List ℕ) → Appends old new text → AppendsAtLeast old new text
AtLeast-whole {old = old} {new = new} text all = record { more = []; grown = subst (Appends old new) (sym (append-nil text)) all }

-- what was written stays
pub AtLeast-then : {old mid new : Option (List ℕ)} {text : List ℕ} → AppendsAtLeast old mid text → AppendsAtLeast mid new [] → AppendsAtLeast old new text
AtLeast-then {old = old} {new = new} {text = text} first second = record {
  more = first.more ++ second.more;
  grown = subst (Appends old new) (append_assoc text first.more second.more) (Appends-trans first.grown second.grown);
}

-- no outcome is printed yet
pub HoldsAllBut-none : (most : ℕ) (form : Form) (start : SinkView) → HoldsAllBut most form start start []
HoldsAllBut-none most form start = record { whole = []; rest = []; split = refl; few = zero-le; held = by form }
  where
    by : (f : Form) → AppendsAtLeast start.written start.written (text_so_far f [])
    by Lines = AtLeast-nil start.written
    by Summary = AtLeast-nil start.written

-- where no write was lost the text of all that are printed stands there whole
pub HoldsAllBut-all : {form : Form} {start now : SinkView} {printer : Printer} {outcomes : List Outcome} (most : ℕ) → printer.lost ≡ false → Printed form start now printer outcomes → HoldsAllBut most form start now outcomes
HoldsAllBut-all {form = form} {outcomes = outcomes} most kept printed = record {
  whole = outcomes;
  rest = [];
  split = sym (append-nil outcomes);
  few = zero-le;
  held = AtLeast-whole (text_so_far form outcomes) (printed.wrote.whole kept);
}

-- the same outcomes stand there later
pub HoldsAllBut-grows : {most next : ℕ} {form : Form} {start now later : SinkView} {outcomes : List Outcome} → HoldsAllBut most form start now outcomes → AppendsAtLeast now.written later.written [] → most ≤ next → HoldsAllBut next form start later outcomes
HoldsAllBut-grows holds grows within = record {
  whole = holds.whole;
  rest = holds.rest;
  split = holds.split;
  few = omega (arith, within, holds.few);
  held = AtLeast-then holds.held grows;
}

-- one more outcome is printed, and may be missing
pub HoldsAllBut-more : {most next : ℕ} {form : Form} {start now later : SinkView} {outcomes : List Outcome} (outcome : Outcome) → HoldsAllBut most form start now outcomes → AppendsAtLeast now.written later.written [] → most + 1 ≤ next → HoldsAllBut next form start later (outcomes ++ outcome ∷ [])
HoldsAllBut-more outcome holds grows within = record {
  whole = holds.whole;
  rest = holds.rest ++ outcome ∷ [];
  split = ap (λ os. os ++ outcome ∷ []) holds.split ∙ append_assoc holds.whole holds.rest (outcome ∷ []);
  few = omega (arith, length-append holds.rest (outcome ∷ []), within, holds.few);
  held = AtLeast-then holds.held grows;
}

-- where all outcomes are finished their text stands there whole
pub HoldsAllBut-whole : {form : Form} {start now : SinkView} (most : ℕ) (outcomes : List Outcome) → Appends start.written now.written (text_of form outcomes) → HoldsAllBut most form start now outcomes
HoldsAllBut-whole {form = form} {start = start} {now = now} most outcomes wrote = record { whole = outcomes; rest = []; split = sym (append-nil outcomes); few = zero-le; held = by form wrote }
  where
    by : (f : Form) → Appends start.written now.written (text_of f outcomes) → AppendsAtLeast start.written now.written (text_so_far f outcomes)
    by Lines all = AtLeast-whole (text_from 1 outcomes) all
    by Summary all = AtLeast-front (AppendsFront-whole all)

-- where all records are taken, no write was lost before the rest is written
pub kept-taking : {form : Form} {start now : SinkView} {printer : Printer} {outcomes : List Outcome} {lost : Bool} → (printer.lost ≡ true → lost ≡ true) → Printed form start now printer outcomes → KeepsTaking form lost → printer.lost ≡ false
kept-taking {printer = printer} {lost = lost} stays printed (inl kept) = not-lost printer.lost lost stays kept
kept-taking stays printed (inr summary) = (printed.none summary).lost

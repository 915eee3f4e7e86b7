-- What is answered of the bytes of a file has one status.
use Rattle.std.proofs.Common.{◌≡◌, ◌⊎◌, ℕ, ◌-◌, Bool, true, false, IsTrue, IsFalse, List, Result, Ok, Err, refl, sym, ap, ◌∙◌, subst, inl, inr, arith}
use Rattle.exec_status.specs.declared.status.Status.{Status}
use Rattle.exec_status.specs.declared.status.Status.TheVariants.{AllValues, NotAllValues, Usage, PlanRefused, NoMemory, ReadFault, WriteFault, Limit}
use Rattle.plan_rules.specs.Exclusion.{exclude_each_other}
use Rattle.plan_shape.specs.Blueprint.{Blueprint}
use Rattle.plan_reader.specs.declared.fault.PlanFault.{PlanFault}
use Rattle.plan_reader.specs.declared.fault.PlanFault.TheVariants as fault
use Rattle.plan_reader.specs.PlanFile.{IsPlanOf, IsFaultOf, IsRefused as IsRefusedPlan}
use Rattle.std.proofs.lemmas.Bool.{false≢true}
use Rattle.trace_reasons.specs.Explaining.{Explains}
use Rattle.trace_reasons.specs.Explaining.Explains.{taken as all_taken, refused as one_refused}
use Rattle.trace_text.specs.Reading.{trace_in}
use Rattle.trace_text.specs.Values.{TraceValue}
use Rattle.trace_commands.specs.declared.file.Refusal.{Refusal}
use Rattle.trace_commands.specs.declared.file.Refusal.TheVariants.{TooLong, Line}
use Rattle.trace_commands.specs.Answers.{IsDue, IsRefused}
use Rattle.trace_commands.proofs.Due.{IsDecided}
use Rattle.trace_commands.proofs.Ending.{IsAnswer}
use Rattle.notation_answers.specs.Answers.{IsAnswer as IsWrittenAs, IsPlanLine, IsPlanRefused, IsTextRefused}
use Rattle.notation_answers.specs.Plans.{IsRefusedJson}
use Rattle.plan_notation.specs.Reading.{TextRead}
use Rattle.show_words.specs.declared.asked.Rows.{Rows}
use Rattle.picture_commands.specs.Answers.{IsDrawn, IsExplained, IsInNotation, IsPlanAnswer, IsTextAnswer, IsReasoned, IsTraceDrawn, status_of, the_plan, the_text, the_trace, the_why, the_write}

-- a result has one answer
one-ok : {A B : Type 0} {result : Result A B} {a b : A} → result ≡ Ok a → result ≡ Ok b → a ≡ b
one-ok {a = a} {b = b} one other = let both : Ok a ≡ Ok b = sym one ∙ other in cc

ok-or-err : {A B : Type 0} {result : Result A B} {a : A} {e : B} → result ≡ Ok a → result ≡ Err e → ⊥
ok-or-err {a = a} {e = e} one other = let both : Ok a ≡ Err e = sym one ∙ other in cc

not-true : (b : Bool) → IsTrue b → IsFalse b → ⊥
not-true b holds fails = let wrong : true ≡ false = sym holds ∙ fails in cc

-- a plan is refused for no cause
not-refused : (bytes : List ℕ) (plan : Blueprint) (cause : PlanFault) → IsPlanOf bytes plan → (cause ≡ fault.NoMemory → ⊥) → IsFaultOf bytes cause → ⊥
not-refused bytes plan fault.TooLong is other refused = ok-or-err is.1 refused
not-refused bytes plan fault.NotJson is other refused = ok-or-err is.1 refused
not-refused bytes plan fault.Form is other refused = ok-or-err is.1 refused
not-refused bytes plan fault.UnknownName is other refused = ok-or-err is.1 refused
not-refused bytes plan fault.Limit is other refused = ok-or-err is.1 refused
not-refused bytes plan fault.Kinds is other refused =
    let there : IsRefusedPlan is.0 fault.Kinds = subst (λ found. IsRefusedPlan found fault.Kinds) (sym (one-ok is.1 refused.1)) refused.2 in
    there is.2.matches
not-refused bytes plan fault.Excluded is other refused =
    let there : IsRefusedPlan is.0 fault.Excluded = subst (λ found. IsRefusedPlan found fault.Excluded) (sym (one-ok is.1 refused.1)) refused.2 in
    let P : Blueprint → Type 0 = λ p. IsFalse (exclude_each_other p.settings) in
    not-true (exclude_each_other is.0.plan.settings) there.1 (subst P is.2.same is.2.rules)
not-refused bytes plan fault.NoMemory is other refused = other refl

-- a plan file is answered as that of a plan, or as one that is refused
plan-cases : (Shows : List ℕ → List ℕ → Type 0) (bytes : List ℕ) (status : Status) (text : List ℕ) → IsPlanAnswer Shows bytes status text → ((status ≡ AllValues) × Shows bytes text) ⊎ ((status ≡ NotAllValues) × IsReasoned bytes text)
plan-cases Shows bytes AllValues text is = inl (refl, is)
plan-cases Shows bytes NotAllValues text is = inr (refl, is)
plan-cases Shows bytes Usage text is = absurd is
plan-cases Shows bytes PlanRefused text is = absurd is
plan-cases Shows bytes NoMemory text is = absurd is
plan-cases Shows bytes ReadFault text is = absurd is
plan-cases Shows bytes WriteFault text is = absurd is
plan-cases Shows bytes Limit text is = absurd is

-- bytes have answers of one status
plan-once : (Shows : List ℕ → List ℕ → Type 0) (bytes : List ℕ) (status due : Status) (text other : List ℕ) → ((a b : List ℕ) → Shows bytes a → IsReasoned bytes b → ⊥)
    → IsPlanAnswer Shows bytes status text → IsPlanAnswer Shows bytes due other → status ≡ due
plan-once Shows bytes status due text other one_of is again = elim (plan-cases Shows bytes status text is) [
  | inl one ↦ elim (plan-cases Shows bytes due other again) [
    | inl two ↦ one.0 ∙ sym two.0
    | inr two ↦ absurd (one_of text other one.1 two.1)
  ]
  | inr one ↦ elim (plan-cases Shows bytes due other again) [
    | inl two ↦ absurd (one_of other text two.1 one.1)
    | inr two ↦ one.0 ∙ sym two.0
  ]
]

drawn-or-reasoned : (bytes text other : List ℕ) → IsDrawn bytes text → IsReasoned bytes other → ⊥
drawn-or-reasoned bytes text other drawn reasoned =
    not-refused bytes drawn.plan reasoned.fault drawn.is reasoned.cause reasoned.is

plan-answered : (bytes : List ℕ) (status due : Status) (text : List ℕ) → IsPlanAnswer IsDrawn bytes status text → IsDue the_plan bytes due → status ≡ due
plan-answered bytes status due text is (inl other) = plan-once IsDrawn bytes status due text other.0 (drawn-or-reasoned bytes) is other.1
plan-answered bytes status due text is (inr refusal) = absurd refusal.0.1

pub plan-decided : IsDecided the_plan
plan-decided = record { answered = plan-answered; refused = λ bytes refusal due refused. absurd refused }

noted-or-reasoned : (bytes text other : List ℕ) → IsInNotation bytes text → IsReasoned bytes other → ⊥
noted-or-reasoned bytes text other noted reasoned =
    not-refused bytes noted.plan reasoned.fault noted.is reasoned.cause reasoned.is

text-answered : (bytes : List ℕ) (status due : Status) (text : List ℕ) → IsPlanAnswer IsInNotation bytes status text → IsDue the_text bytes due → status ≡ due
text-answered bytes status due text is (inl other) = plan-once IsInNotation bytes status due text other.0 (noted-or-reasoned bytes) is other.1
text-answered bytes status due text is (inr refusal) = absurd refusal.0.1

pub text-decided : IsDecided the_text
text-decided = record { answered = text-answered; refused = λ bytes refusal due refused. absurd refused }

-- a text in the notation is a plan, or it is refused
line-or-refused : (bytes line told : List ℕ) → IsPlanLine bytes line → IsTextRefused bytes told ⊎ IsPlanRefused bytes told → ⊥
line-or-refused bytes line told is (inl refused) = ok-or-err is.is_plan.is_read refused.is_refused
line-or-refused bytes line told is (inr refused) =
    let same : refused.is_refused.reads ≡ is.is_plan.reads = one-ok refused.is_refused.is_read is.is_plan.is_read in
    let there = subst (λ (r : TextRead). IsRefusedJson r.json refused.refusal) same refused.is_refused.is_refused in
    not-refused is.is_plan.reads.json is.plan there.why is.is_plan.is_plan there.other there.is_fault

written-once : (bytes : List ℕ) (a b : Bool) (text other : List ℕ) → IsWrittenAs a bytes text → IsWrittenAs b bytes other → a ≡ b
written-once bytes true true text other is again = refl
written-once bytes false false text other is again = refl
written-once bytes true false text other is again = absurd (line-or-refused bytes text other is again)
written-once bytes false true text other is again = absurd (line-or-refused bytes other text again is)

read-once : (bytes : List ℕ) (status due : Status) (text other : List ℕ) → IsTextAnswer bytes status text → IsTextAnswer bytes due other → status ≡ due
read-once bytes status due text other is again =
    is.status_is ∙ ap status_of (written-once bytes is.written.is_plan again.written.is_plan is.written.text.items again.written.text.items is.is again.is) ∙ sym again.status_is

write-answered : (bytes : List ℕ) (status due : Status) (text : List ℕ) → IsTextAnswer bytes status text → IsDue the_write bytes due → status ≡ due
write-answered bytes status due text is (inl other) = read-once bytes status due text other.0 is other.1
write-answered bytes status due text is (inr refusal) = absurd refusal.0.1

pub write-decided : IsDecided the_write
write-decided = record { answered = write-answered; refused = λ bytes refusal due refused. absurd refused }

-- a picture and a reason are answers
pub is_answer : (drawn : Bool) → IsAnswer (status_of drawn)
is_answer true = tt
is_answer false = tt

-- bytes that are a trace are not refused
not-traced : (rows : Rows) (bytes : List ℕ) (status : Status) (text : List ℕ) (refusal : Refusal) → IsTraceDrawn rows bytes status text → IsRefused trace_in bytes refusal → ⊥
not-traced rows bytes status text TooLong is refused = omega (arith, is.short, refused)
not-traced rows bytes status text (Line n) is refused = ok-or-err is.read refused.1

trace-answered : (rows : Rows) (bytes : List ℕ) (status due : Status) (text : List ℕ) → IsTraceDrawn rows bytes status text → IsDue (the_trace rows) bytes due → status ≡ due
trace-answered rows bytes status due text is (inl other) = is.status_is ∙ sym other.1.status_is
trace-answered rows bytes status due text is (inr refusal) = absurd (not-traced rows bytes status text refusal.0.0 is refusal.0.1)

trace-refused : (rows : Rows) (bytes : List ℕ) (refusal : Refusal) (due : Status) → IsRefused trace_in bytes refusal → IsDue (the_trace rows) bytes due → PlanRefused ≡ due
trace-refused rows bytes refusal due refused (inl other) = absurd (not-traced rows bytes due other.0 refusal other.1 refused)
trace-refused rows bytes refusal due refused (inr again) = sym again.1

pub trace-decided : (rows : Rows) → IsDecided (the_trace rows)
trace-decided rows = record { answered = trace-answered rows; refused = trace-refused rows }

-- a trace is taken, or an entry of it is refused
explained-one : (t : TraceValue) (a b : Bool) (text other : List ℕ) → Explains t a text → Explains t b other → a ≡ b
explained-one t a b text other (all_taken n all) (all_taken m every) = refl
explained-one t a b text other (one_refused e entry fact j first why) (one_refused f entry2 fact2 k first2 why2) = refl
explained-one t a b text other (all_taken n all) (one_refused e entry fact j first why) = absurd (false≢true (sym first.refused ∙ all.each (e - 1) (omega (arith, all.count, first.from_one, first.within))))
explained-one t a b text other (one_refused e entry fact j first why) (all_taken n all) = absurd (false≢true (sym first.refused ∙ all.each (e - 1) (omega (arith, all.count, first.from_one, first.within))))

explained-once : (bytes : List ℕ) (status due : Status) (text other : List ℕ) → IsExplained bytes status text → IsExplained bytes due other → status ≡ due
explained-once bytes status due text other is again =
    let same : again.trace ≡ is.trace = one-ok again.read is.read in
    let there = subst (λ (t : TraceValue). Explains t again.taken other) same again.explains in
    is.status_is ∙ ap status_of (explained-one is.trace is.taken again.taken text other is.explains there) ∙ sym again.status_is

not-explained : (bytes : List ℕ) (status : Status) (text : List ℕ) (refusal : Refusal) → IsExplained bytes status text → IsRefused trace_in bytes refusal → ⊥
not-explained bytes status text TooLong is refusal = omega (arith, is.short, refusal)
not-explained bytes status text (Line n) is refusal = ok-or-err is.read refusal.1

why-answered : (bytes : List ℕ) (status due : Status) (text : List ℕ) → IsExplained bytes status text → IsDue the_why bytes due → status ≡ due
why-answered bytes status due text is (inl other) = explained-once bytes status due text other.0 is other.1
why-answered bytes status due text is (inr refusal) = absurd (not-explained bytes status text refusal.0.0 is refusal.0.1)

why-refused : (bytes : List ℕ) (refusal : Refusal) (due : Status) → IsRefused trace_in bytes refusal → IsDue the_why bytes due → PlanRefused ≡ due
why-refused bytes refusal due refused_so (inl other) = absurd (not-explained bytes due other.0 refusal other.1 refused_so)
why-refused bytes refusal due refused_so (inr again) = sym again.1

pub why-decided : IsDecided the_why
why-decided = record { answered = why-answered; refused = why-refused }

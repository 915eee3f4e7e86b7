-- The status that is due to a file is one.
use Rattle.std.proofs.Common.{◌≡◌, ℕ, ◌-◌, ◌≤◌, List, length, Result, Ok, Err, refl, sym, ◌∙◌, subst, inl, inr, arith}
use Rattle.std.proofs.lemmas.Bool.{false≢true}
use Rattle.exec_status.specs.declared.status.Status.{Status}
use Rattle.exec_status.specs.declared.status.Status.TheVariants.{PlanRefused}
use Rattle.trace_text.specs.declared.limits.TheConstants.{FILE_BYTES}
use Rattle.trace_text.specs.Reading.{trace_in, schedule_in}
use Rattle.trace_text.specs.Values.{TraceValue}
use Rattle.replay_core.specs.declared.check.Verdict.{Verdict}
use Rattle.replay_core.specs.declared.check.Verdict.TheVariants.{Taken, Refused}
use Rattle.replay_core.specs.Verdicts.{IsVerdict}
use Rattle.trace_commands.specs.declared.file.Refusal.{Refusal}
use Rattle.trace_commands.specs.declared.file.Refusal.TheVariants.{TooLong, Line}
use Rattle.trace_commands.specs.Answers.{Question, IsRefused, IsChecked, IsReplayed, the_check, the_replay, verdict_status, IsDue}

-- bytes that are answered or refused so have no other status
pub record IsDecided (question : Question) : Type 0 where
  pub answered : (bytes : List ℕ) (status due : Status) (text : List ℕ) → question.answers bytes status text → IsDue question bytes due → status ≡ due
  pub refused : (bytes : List ℕ) (refusal : Refusal) (due : Status) → question.refuses bytes refusal → IsDue question bytes due → PlanRefused ≡ due

-- bytes that are read are not refused
read_or_refused : {A : Type 0} (read : List ℕ → Result A ℕ) (bytes : List ℕ) (x : A) (refusal : Refusal) → length bytes ≤ FILE_BYTES → read bytes ≡ Ok x → IsRefused read bytes refusal → ⊥
read_or_refused read bytes x TooLong short is refused = omega (arith, short, refused)
read_or_refused read bytes x (Line n) short is refused = let e : Ok x ≡ Err n = sym is ∙ refused.1 in cc

ok-one : {A : Type 0} (x y : A) → ◌≡◌ {A = Result A ℕ} (Ok x) (Ok y) → x ≡ y
ok-one x y e = cc

-- two verdicts of one trace have one status
one_status : (t : TraceValue) (v w : Verdict) → IsVerdict t v → IsVerdict t w → verdict_status v ≡ verdict_status w
one_status t (Taken n) (Taken m) one other = refl
one_status t (Refused e) (Refused f) one other = refl
one_status t (Taken n) (Refused e) all first = absurd (false≢true (sym first.refused ∙ all.each (e - 1) (omega (arith, all.count, first.from_one, first.within))))
one_status t (Refused e) (Taken n) first all = absurd (false≢true (sym first.refused ∙ all.each (e - 1) (omega (arith, all.count, first.from_one, first.within))))

one_check : (bytes : List ℕ) (status due : Status) (text other : List ℕ) → IsChecked bytes status text → IsChecked bytes due other → status ≡ due
one_check bytes status due text other one two =
    let same : two.trace ≡ one.trace = ok-one two.trace one.trace (sym two.read ∙ one.read) in
    let P : TraceValue → Type 0 = λ t. IsVerdict t two.verdict in
    one.status_is ∙ one_status one.trace one.verdict two.verdict one.is (subst P same two.is) ∙ sym two.status_is

check-answered : (bytes : List ℕ) (status due : Status) (text : List ℕ) → IsChecked bytes status text → IsDue the_check bytes due → status ≡ due
check-answered bytes status due text is (inl other) = one_check bytes status due text other.0 is other.1
check-answered bytes status due text is (inr refusal) = absurd (read_or_refused trace_in bytes is.trace refusal.0.0 is.short is.read refusal.0.1)

check-refused : (bytes : List ℕ) (refusal : Refusal) (due : Status) → IsRefused trace_in bytes refusal → IsDue the_check bytes due → PlanRefused ≡ due
check-refused bytes refusal due refused (inl other) = absurd (read_or_refused trace_in bytes other.1.trace refusal other.1.short other.1.read refused)
check-refused bytes refusal due refused (inr again) = sym again.1

pub check-decided : IsDecided the_check
check-decided = record { answered = check-answered; refused = check-refused }

replay-answered : (bytes : List ℕ) (status due : Status) (text : List ℕ) → IsReplayed bytes status text → IsDue the_replay bytes due → status ≡ due
replay-answered bytes status due text is (inl other) = is.status_is ∙ sym other.1.status_is
replay-answered bytes status due text is (inr refusal) = absurd (read_or_refused schedule_in bytes is.schedule refusal.0.0 is.short is.read refusal.0.1)

replay-refused : (bytes : List ℕ) (refusal : Refusal) (due : Status) → IsRefused schedule_in bytes refusal → IsDue the_replay bytes due → PlanRefused ≡ due
replay-refused bytes refusal due refused (inl other) = absurd (read_or_refused schedule_in bytes other.1.schedule refusal other.1.short other.1.read refused)
replay-refused bytes refusal due refused (inr again) = sym again.1

pub replay-decided : IsDecided the_replay
replay-decided = record { answered = replay-answered; refused = replay-refused }

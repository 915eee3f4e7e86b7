-- Which runs end with values alone, and which never with want of memory.
use Rattle.std.proofs.Common.{◌≡◌, ◌⊎◌, ℕ, suc, ◌+◌, ◌-◌, ◌<◌, ◌≤◌, true, cond, count_by, get_or, slice_get, List, [], ◌∷◌, length, ◌++◌, Option, None, Some, refl, sym, ap, ◌∙◌, subst, inl, inr, append-nil, arith}
use Rattle.std.specs.Prelude.{IsSomeAnd}
use Rattle.std.specs.Io.KnownBytes.{Consumes, IsAtEnd}
use Rattle.std.proofs.lemmas.List.Sums.{sum_by-cons}
use Rattle.std.proofs.lemmas.Bool.{cases_Bool}
use Rattle.std.proofs.lemmas.Option.{slice_get_within, slice_get-get_or}
use Rattle.exec_value.specs.declared.data.Datum.{Datum}
use Rattle.exec_value.specs.declared.kinds.Kind.{Kind}
use Rattle.exec_value.specs.declared.outcome.Completion.{Completion}
use Rattle.exec_value.specs.declared.outcome.Completion.TheVariants.{NoMemory as NoMemoryEnd, Value, Error, Stopped}
use Rattle.exec_value.specs.declared.outcome.Outcome.{Outcome}
use Rattle.exec_value.specs.declared.outcome.Outcome.TheVariants.{Done, BadRecord}
use Rattle.outcome_lines.specs.Summary.{is_value, is_out_of_memory}
use Rattle.exec_io.specs.Views.{SourceView}
use Rattle.plan_kinds.proofs.Plans.{plans-built}
use Rattle.plan_laws.proofs.Memory.{allowed-memory}
use Rattle.plan_laws.proofs.OneCompletion.{calm-settled}
use Rattle.plan_reader.specs.PlanFile.{IsPlanOf}
use Rattle.plan_rules.specs.declared.stop.StopState.{StopState}
use Rattle.plan_rules.specs.declared.stop.StopState.TheVariants.{Never}
use Rattle.plan_kinds.specs.Small.{IsSmall}
use Rattle.plan_shape.specs.Blueprint.{Blueprint, IsPlan}
use Rattle.record_lines.specs.declared.ending.End.{End}
use Rattle.record_lines.specs.declared.ending.End.TheVariants.{Ended}
use Rattle.record_lines.specs.Records.{records_of}
use Rattle.line_rules.specs.Lawful.{MayEnd, Lawful}
use Rattle.line_rules.specs.PlanTerms.{AllowsRecord}
use Rattle.line_rules.specs.StopStates.{stop_state}
use Rattle.exec_status.specs.declared.status.Status.{Status}
use Rattle.exec_status.specs.declared.status.Status.TheVariants.{AllValues, NoMemory}
use Rattle.exec_engine.specs.declared.task.Origin.{Origin}
use Rattle.exec_engine.specs.declared.task.Origin.TheVariants.{Source, Generated}
use Rattle.exec_engine.specs.declared.tally.Tally.{Tally}
use Rattle.exec_engine.specs.declared.task.Task.{Task}
use Rattle.exec_engine.specs.Complete.{IsFinished, SettlesToValue, SettleToValues}
use Rattle.exec_engine.specs.Opening.{Finds}
use Rattle.exec_engine.specs.Surroundings.{Surroundings}
use Rattle.exec_engine.specs.Says.{HasNoMemory, Lines, Says, Untouched, terms_for}
use Rattle.exec_engine.specs.Taken.{Takes, OfRecords}
use Rattle.exec_engine.proofs.RefusedLaws.{stands-same}

-- where each line is a value or out-of-memory, there are as many of both as lines
counted-both : (outcomes : List Outcome) → ((i : ℕ) (outcome : Outcome) → slice_get outcomes i ≡ Some outcome → (is_value outcome ≡ true) ⊎ (is_out_of_memory outcome ≡ true))
    → length outcomes ≤ count_by is_value outcomes + count_by is_out_of_memory outcomes
counted-both [] each = omega arith
counted-both (o ∷ outcomes) each =
    let rest = counted-both outcomes (λ i outcome at. each (suc i) outcome at) in
    let values = sum_by-cons (λ x. cond (is_value x) 1 0) o outcomes in
    let memory = sum_by-cons (λ x. cond (is_out_of_memory x) 1 0) o outcomes in
    elim (each 0 o refl) [
      | inl value ↦ omega (arith, rest, values, memory, ap {B = ℕ} (λ b. cond b 1 0) value)
      | inr none ↦ omega (arith, rest, values, memory, ap {B = ℕ} (λ b. cond b 1 0) none)
    ]

-- a record shows one datum
one-datum : {shown : Option Datum} {a b : Datum} → shown ≡ Some a → shown ≡ Some b → a ≡ b
one-datum {a = a} {b = b} one other = let both : Some a ≡ Some b = sym one ∙ other in cc

none-shown : {shown : Option Datum} {a : Datum} → shown ≡ Some a → shown ≡ None → ⊥
none-shown {a = a} one none = let both : Some a ≡ None = sym one ∙ none in cc

-- a record that settles to a value, and that no stop reaches, ends so, or with want of memory
value-or-memory : (task : Task) (plan : Blueprint) (number : ℕ) (line : List ℕ) (outcome : Outcome) → IsPlan plan → SettlesToValue plan number line
    → MayEnd (terms_for task plan) number Never line outcome → (is_value outcome ≡ true) ⊎ (is_out_of_memory outcome ≡ true)
unfolding AllowsRecord
value-or-memory task plan number line BadRecord whole settles may = absurd (none-shown settles.shows may)
value-or-memory task plan number line (Done completion) whole settles (inl wants) = inr (ap (λ (c : Completion). is_out_of_memory (Done c)) wants.0)
value-or-memory task plan number line (Done completion) whole settles (inr ends) =
    let root = length plan.nodes - 1 in
    let same : ends.datum ≡ settles.datum = one-datum ends.shows settles.shows in
    let P : Datum → Type 0 = λ d. AllowsRecord plan number d Never completion in
    let allowed : AllowsRecord plan number settles.datum Never completion = subst P same ends.allowed in
    let is = (calm-settled plan.nodes (plans-built plan whole).ordered root (settles.datum ∷ []) number settles.calm completion).0 allowed in
    inl (ap (λ (c : Completion). is_value (Done c)) is ∙ settles.value)

-- lawful lines of records that settle to values are values or out-of-memory
all-values : (task : Task) (plan : Blueprint) (records : List (List ℕ)) (outcomes : List Outcome) → IsPlan plan → SettleToValues task plan records → Lawful (terms_for task plan) records outcomes
    → length outcomes ≤ count_by is_value outcomes + count_by is_out_of_memory outcomes
all-values task plan records outcomes whole settle lawful = counted-both outcomes (λ i outcome at.
    let within : i < length records = omega (arith, slice_get_within outcomes i outcome at, lawful.as_many) in
    let line = get_or records i [] in
    let stands : slice_get records i ≡ Some line = slice_get-get_or records i [] within in
    let P : StopState → Type 0 = λ stop. MayEnd (terms_for task plan) (i + 1) stop line outcome in
    value-or-memory task plan (i + 1) line outcome whole (settle.each i line stands) (subst P (settle.never outcomes i lawful within) (lawful.each i line outcome stands at)))

-- what holds of the records of a source that was read to its end
bytes-of_source : (P : List ℕ → Type 0) (source left : Option (List ℕ)) (bytes : List ℕ) → Consumes source left bytes → IsAtEnd left → IsSomeAnd source P → P bytes
bytes-of_source P None left bytes consumed at_end holds = absurd holds
bytes-of_source P (Some all) None bytes consumed at_end holds = absurd consumed
bytes-of_source P (Some all) (Some rest) bytes consumed at_end holds = subst P (consumed ∙ ap (λ bs. bytes ++ bs) at_end ∙ append-nil bytes) holds

of-records : (origin : Origin) (kind : Kind) (before after : SourceView) (records : List (List ℕ)) (P : List (List ℕ) → Type 0) → Takes origin kind before after Ended [] records → OfRecords origin kind before P → P records
of-records (Source form) kind before after records P takes holds =
    subst P (sym takes.are) (subst (λ (bs : List ℕ). P (records_of bs Ended)) (append-nil takes.bytes)
    (bytes-of_source (λ bytes. P (records_of bytes Ended)) before.left after.left (takes.bytes ++ []) takes.reads.consumed (takes.reads.at_end refl) holds))
of-records (Generated count) kind before after records P takes holds = subst P (sym takes.are) holds

-- no lawful line of a small plan is out-of-memory
not-memory : (outcome : Outcome) → is_out_of_memory outcome ≡ true → outcome ≡ Done NoMemoryEnd
not-memory BadRecord is = cc
not-memory (Done NoMemoryEnd) is = refl
not-memory (Done (Value values)) is = cc
not-memory (Done (Error e)) is = cc
not-memory (Done Stopped) is = cc

small-ends : (task : Task) (plan : Blueprint) (number : ℕ) (stop : StopState) (line : List ℕ) → IsSmall plan → MayEnd (terms_for task plan) number stop line (Done NoMemoryEnd) → ⊥
unfolding AllowsRecord
small-ends task plan number stop line small (inl wants) = elim wants.1 [ inl other ↦ other small.input | inr large ↦ large small ]
small-ends task plan number stop line small (inr ends) =
    allowed-memory plan.nodes (length plan.nodes - 1) (ends.datum ∷ []) number stop ends.allowed

-- where no element is so, none is counted
none-counted : (f : Outcome → _) (outcomes : List Outcome) → ((i : ℕ) (outcome : Outcome) → slice_get outcomes i ≡ Some outcome → f outcome ≡ true → ⊥) → count_by f outcomes ≡ 0
none-counted f [] none = refl
none-counted f (o ∷ outcomes) none =
    let rest = none-counted f outcomes (λ i outcome at. none (suc i) outcome at) in
    let step = sum_by-cons (λ x. cond (f x) 1 0) o outcomes in
    elim (cases_Bool (f o)) [
      | inl holds ↦ absurd (none 0 o refl holds)
      | inr fails ↦ omega (arith, rest, step, ap {B = ℕ} (λ b. cond b 1 0) fails)
    ]

pub small-lines : (task : Task) (plan : Blueprint) (records : List (List ℕ)) (outcomes : List Outcome) → IsSmall plan → Lawful (terms_for task plan) records outcomes → count_by is_out_of_memory outcomes ≡ 0
small-lines task plan records outcomes small lawful = none-counted is_out_of_memory outcomes (λ i outcome at is.
    let within : i < length records = omega (arith, slice_get_within outcomes i outcome at, lawful.as_many) in
    let line = get_or records i [] in
    let stop = stop_state (terms_for task plan).rules (terms_for task plan).window outcomes (i + 1) in
    let P : Outcome → Type 0 = λ o. MayEnd (terms_for task plan) (i + 1) stop line o in
    small-ends task plan (i + 1) stop line small (subst P (not-memory outcome is) (lawful.each i line outcome (slice_get-get_or records i [] within) at)))

module _ (task : Task) (old new : Surroundings) (tally : Tally) where
  -- records that settle to values alone have no other line, unless memory runs out
  pub says-values : (plan : Blueprint) (status : Status) → Finds old task (λ bytes. IsPlanOf bytes plan) → IsFinished status
      → OfRecords task.origin plan.settings.input old.records (SettleToValues task plan) → Says task old new tally status → (status ≡ AllValues) ⊎ (status ≡ NoMemory)
  says-values plan status stands (inl all) settle says = inl all
  says-values plan status stands (inr (inr none)) settle says = inr none
  says-values plan status stands (inr (inl some)) settle says =
      let prints = subst (Says task old new tally) some says in
      let lines = prints.lines in
      let P : Blueprint → Type 0 = λ p. OfRecords task.origin p.settings.input old.records (SettleToValues task p) in
      let here = subst P (sym (stands-same lines.has stands)) settle in
      let these = of-records task.origin lines.plan.settings.input old.records new.records lines.records (SettleToValues task lines.plan) lines.takes here in
      absurd (omega (arith, all-values task lines.plan lines.records prints.outcomes lines.has.opened.whole these lines.lawful, prints.holds.0, prints.holds.1))

  -- and for a small plan it runs out before a record is taken alone
  pub says-small : (plan : Blueprint) (status : Status) → Finds old task (λ bytes. IsPlanOf bytes plan) → IsSmall plan → Says task old new tally status → status ≡ NoMemory → Untouched task old new tally
  says-small plan status stands small says is = untouched (subst (Says task old new tally) is says)
    where
      untouched : Says task old new tally NoMemory → Untouched task old new tally
      untouched (inl kept) = kept
      untouched (inr prints) =
          let lines = prints.lines in
          absurd (omega (arith, prints.holds, small-lines task lines.plan lines.records prints.outcomes (subst IsSmall (sym (stands-same lines.has stands)) small) lines.lawful))

-- none of its lines is out-of-memory
pub says-small_lines : (task : Task) (old new : Surroundings) (end : End) (rest : List ℕ) (outcomes : List Outcome) (lines : Lines task old new end rest outcomes) → IsSmall lines.plan → ¬ HasNoMemory outcomes
says-small_lines task old new end rest outcomes lines small some =
    omega (arith, some, small-lines task lines.plan lines.records outcomes small lines.lawful)

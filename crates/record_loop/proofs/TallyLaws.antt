-- How what was collected goes with the lines.
use Rattle.std.proofs.Common.{◌≡◌, ◌≢◌, ◌⊎◌, inl, inr, ℕ, ◌+◌, ◌<◌, ◌≤◌, ◌==◌, Bool, true, false, List, [], ◌∷◌, ◌++◌, length, Option, Some, slice_get, cond, refl, sym, ap, ◌∙◌, subst, arith, length-append}
use Rattle.std.proofs.lemmas.Bool.Decides.{eqb_tells}
use Rattle.std.proofs.lemmas.Bool.{cases_lt, cond-true, cond-false, eq-eqb, ne_eqb}
use Rattle.std.proofs.lemmas.List.Sums.{sum_by_push, sum_by-append}
use Rattle.std.proofs.lemmas.Option.{slice_get_past}
use Rattle.circular_buffer.proofs.Places.{slice_get-append_left, slice_get-append_right}
use Rattle.atomic_table.specs.Seated.{TableId}
use Rattle.exec_value.specs.declared.outcome.Completion.{Completion}
use Rattle.exec_value.specs.declared.outcome.Completion.TheVariants.{Value, Error, Stopped, NoMemory as NoMemoryEnd}
use Rattle.exec_value.specs.declared.outcome.Outcome.{Outcome}
use Rattle.exec_value.specs.declared.outcome.Outcome.TheVariants.{Done, BadRecord}
use Rattle.line_summary.specs.Counting.{Summarizes}
use Rattle.line_summary.specs.declared.summary.Summary.{Summary}
use Rattle.outcome_lines.specs.Summary.{is_value, is_error, is_stopped, is_out_of_memory}
use Rattle.plan_shape.specs.Blueprint.{Blueprint}
use Rattle.line_rules.specs.Lawful.{Terms}
use Rattle.line_rules.specs.Moments.{Moment}
use Rattle.run_tally.specs.Gathered.{Gathered, gathered, ended, ends_in_value, ends_in_error, ends_stopped, wants_memory}
use Rattle.record_loop.specs.declared.printer.Printer.{Printer}
use Rattle.record_loop.specs.declared.slot.Slot.{Slot}
use Rattle.record_loop.specs.declared.slot.Slot.TheVariants.{Running, Bad, NoMemory}
use Rattle.record_loop.specs.Slots.{SettlesSlot}
use Rattle.record_loop.specs.Standing.{StandsFor}
use Rattle.record_loop.specs.Tallies.{TalliesWith, IsToldAs, IsToldBy, of_record}
use Rattle.record_loop.specs.Works.{Work}

-- a summary that has counted one outcome more: by how much its numbers have grown
record Grows (old new : Summary) (outcome : Outcome) : Type 0 where
  values : new.values ≡ old.values + cond (is_value outcome) 1 0
  errors : new.errors ≡ old.errors + cond (is_error outcome) 1 0
  stopped : new.stopped ≡ old.stopped + cond (is_stopped outcome) 1 0
  no_memory : new.no_memory ≡ old.no_memory + cond (is_out_of_memory outcome) 1 0

Grows-more : {old new : Summary} {outcomes : List Outcome} {outcome : Outcome} → Summarizes old outcomes → Summarizes new (outcomes ++ outcome ∷ []) → Grows old new outcome
Grows-more {outcomes = outcomes} {outcome = outcome} before after = record {
  values = omega (arith, before.values, after.values, sum_by_push (λ x. cond (is_value x) 1 0) outcomes outcome);
  errors = omega (arith, before.errors, after.errors, sum_by_push (λ x. cond (is_error x) 1 0) outcomes outcome);
  stopped = omega (arith, before.stopped, after.stopped, sum_by_push (λ x. cond (is_stopped x) 1 0) outcomes outcome);
  no_memory = omega (arith, before.no_memory, after.no_memory, sum_by_push (λ x. cond (is_out_of_memory x) 1 0) outcomes outcome);
}

abbrev one : Bool → ℕ
one b = cond b 1 0

-- one more was collected
ended-more : (is : Completion → Bool) (g : Gathered) (all : List Gathered) → ended is (g ∷ all) ≡ cond (is g.completion) 1 0 + ended is all
ended-more is g all = sum_by-append (λ (x : Gathered). cond (is x.completion) 1 0) (g ∷ []) all ∙ ap (λ (n : ℕ). n + ended is all) first
  where
    first : ended is (g ∷ []) ≡ cond (is g.completion) 1 0
    first = omega arith

-- a line says how its completion ended
same-value : (completion : Completion) → is_value (Done completion) ≡ ends_in_value completion
same-value (Value values) = refl
same-value (Error name) = refl
same-value Stopped = refl
same-value NoMemoryEnd = refl

same-error : (completion : Completion) → is_error (Done completion) ≡ ends_in_error completion
same-error (Value values) = refl
same-error (Error name) = refl
same-error Stopped = refl
same-error NoMemoryEnd = refl

same-stopped : (completion : Completion) → is_stopped (Done completion) ≡ ends_stopped completion
same-stopped (Value values) = refl
same-stopped (Error name) = refl
same-stopped Stopped = refl
same-stopped NoMemoryEnd = refl

same-memory : (completion : Completion) → is_out_of_memory (Done completion) ≡ wants_memory completion
same-memory (Value values) = refl
same-memory (Error name) = refl
same-memory Stopped = refl
same-memory NoMemoryEnd = refl

-- the completion that was collected is the next line
TalliesWith-raised : {all : List Gathered} {old new : Summary} (plan : Blueprint) (table : TableId) (number : ℕ) (completion : Completion) → Grows old new (Done completion) → TalliesWith all old → TalliesWith (gathered plan table number completion ∷ all) new
TalliesWith-raised {all = all} plan table number completion grows tallies =
    let g = gathered plan table number completion in
    record {
      values = omega (arith, grows.values, tallies.values, ended-more ends_in_value g all, ap one (same-value completion));
      errors = omega (arith, grows.errors, tallies.errors, ended-more ends_in_error g all, ap one (same-error completion));
      stopped = omega (arith, grows.stopped, tallies.stopped, ended-more ends_stopped g all, ap one (same-stopped completion));
      no_memory = omega (arith, grows.no_memory, tallies.no_memory, ended-more wants_memory g all, ap one (same-memory completion));
    }

-- a line of a record whose operation wasn't begun is a bad record, or out-of-memory
TalliesWith-bad : {all : List Gathered} {old new : Summary} → Grows old new BadRecord → TalliesWith all old → TalliesWith all new
TalliesWith-bad grows tallies = omega (arith, grows, tallies)

TalliesWith-lacking : {all : List Gathered} {old new : Summary} → Grows old new (Done NoMemoryEnd) → TalliesWith all old → TalliesWith all new
TalliesWith-lacking grows tallies = omega (arith, grows, tallies)

-- a line more leaves the others
get-other : (outcomes : List Outcome) (outcome : Outcome) (i : ℕ) → i ≢ length outcomes → slice_get (outcomes ++ outcome ∷ []) i ≡ slice_get outcomes i
get-other outcomes outcome i apart = by (cases_lt i (length outcomes))
  where
    by : (i < length outcomes) ⊎ (length outcomes ≤ i) → slice_get (outcomes ++ outcome ∷ []) i ≡ slice_get outcomes i
    by (inl within) = slice_get-append_left outcomes (outcome ∷ []) i within
    by (inr past) =
        let longer = length-append outcomes (outcome ∷ []) in
        slice_get_past (outcomes ++ outcome ∷ []) i (omega (arith, longer, past, apart)) ∙ sym (slice_get_past outcomes i past)

-- nothing was collected for the record after the last line
told-past : {plan : Blueprint} {table : TableId} {outcomes : List Outcome} {all : List Gathered} → IsToldBy plan table outcomes all → of_record (length outcomes + 1) all ≡ []
told-past {plan = plan} {table = table} {outcomes = outcomes} {all = all} told =
    subst (λ (o : Option Outcome). IsToldAs plan table (length outcomes + 1) o (of_record (length outcomes + 1) all)) (slice_get_past outcomes (length outcomes) (omega arith)) (told.each (length outcomes))

-- the last line
get-last : (outcomes : List Outcome) (outcome : Outcome) → slice_get (outcomes ++ outcome ∷ []) (length outcomes) ≡ Some outcome
get-last outcomes outcome = slice_get-append_right outcomes (outcome ∷ []) (length outcomes) 0 (omega arith)

-- one line more
told-more : {plan : Blueprint} {table : TableId} {outcomes : List Outcome} {all : List Gathered} (more : List Gathered) (outcome : Outcome)
    → IsToldAs plan table (length outcomes + 1) (Some outcome) (of_record (length outcomes + 1) more) → ((number : ℕ) → number ≢ length outcomes + 1 → of_record number more ≡ of_record number all)
    → IsToldBy plan table outcomes all → IsToldBy plan table (outcomes ++ outcome ∷ []) more
told-more {plan = plan} {table = table} {outcomes = outcomes} {all = all} more outcome is others told = record { each = each; none = others 0 (λ e. omega (arith, e)) ∙ told.none }
  where
    each : (i : ℕ) → IsToldAs plan table (i + 1) (slice_get (outcomes ++ outcome ∷ []) i) (of_record (i + 1) more)
    each i = by (eqb_tells i (length outcomes))
      where
        by : ((i == length outcomes) ≡ true) × (i ≡ length outcomes) ⊎ ((i == length outcomes) ≡ false) × (i ≢ length outcomes) → IsToldAs plan table (i + 1) (slice_get (outcomes ++ outcome ∷ []) i) (of_record (i + 1) more)
        by (inl same) =
            subst (λ (k : ℕ). IsToldAs plan table (k + 1) (slice_get (outcomes ++ outcome ∷ []) k) (of_record (k + 1) more)) (sym same.1)
            (subst (λ (o : Option Outcome). IsToldAs plan table (length outcomes + 1) o (of_record (length outcomes + 1) more)) (sym (get-last outcomes outcome)) is)
        by (inr other) =
            subst (λ (found : List Gathered). IsToldAs plan table (i + 1) (slice_get (outcomes ++ outcome ∷ []) i) found) (sym (others (i + 1) (λ e. other.1 (omega (arith, e)))))
            (subst (λ (o : Option Outcome). IsToldAs plan table (i + 1) o (of_record (i + 1) all)) (sym (get-other outcomes outcome i other.1)) (told.each i))

-- one of which nothing was collected
told-without : {plan : Blueprint} {table : TableId} {outcomes : List Outcome} {all : List Gathered} (outcome : Outcome) → IsToldAs plan table (length outcomes + 1) (Some outcome) [] → IsToldBy plan table outcomes all → IsToldBy plan table (outcomes ++ outcome ∷ []) all
told-without {plan = plan} {table = table} {outcomes = outcomes} {all = all} outcome is told =
    told-more all outcome (subst (λ (found : List Gathered). IsToldAs plan table (length outcomes + 1) (Some outcome) found) (sym (told-past told)) is) (λ number apart. refl) told

-- one whose completion was collected
told-with : {plan : Blueprint} {table : TableId} {outcomes : List Outcome} {all : List Gathered} (completion : Completion) → IsToldBy plan table outcomes all → IsToldBy plan table (outcomes ++ Done completion ∷ []) (gathered plan table (length outcomes + 1) completion ∷ all)
told-with {plan = plan} {table = table} {outcomes = outcomes} {all = all} completion told =
    let g = gathered plan table (length outcomes + 1) completion in
    told-more (g ∷ all) (Done completion)
    (inl (cond-true (g.number == (length outcomes + 1)) (g ∷ of_record (length outcomes + 1) all) (of_record (length outcomes + 1) all) (eq-eqb (length outcomes + 1) (length outcomes + 1) refl)
    ∙ ap (λ (found : List Gathered). g ∷ found) (told-past told)))
    (λ number apart. cond-false (g.number == number) (g ∷ of_record number all) (of_record number all) (ne_eqb (length outcomes + 1) number (λ e. apart (sym e)))) told

module _ (Wants : Blueprint → Type 0) (terms : Terms) (old new : Work) (moment : Option Moment) (outcomes : List Outcome) (line : List ℕ) where
  -- a slot is settled, and its line counted
  pub TalliesWith-settles : {before after : Summary} (slot : Slot) (outcome : Outcome) → StandsFor terms old moment (length outcomes + 1) line slot → SettlesSlot Wants old new slot outcome → Summarizes before outcomes → Summarizes after (outcomes ++ outcome ∷ []) → TalliesWith old.collected before → TalliesWith new.collected after
  TalliesWith-settles {after = after} (Running ticket) (Done completion) stands collects counted more tallies =
      subst (λ (all : List Gathered). TalliesWith all after) (sym (collects.collected _ stands.begun)) (TalliesWith-raised old.plan old.table (length outcomes + 1) completion (Grows-more counted more) tallies)
  TalliesWith-settles (Running ticket) BadRecord stands settles counted more tallies = absurd settles
  TalliesWith-settles {before = before} {after = after} Bad outcome stands settles counted more tallies =
      subst (λ (all : List Gathered). TalliesWith all after) (sym settles.1.collected)
      (TalliesWith-bad (subst (Grows before after) settles.0 (Grows-more counted more)) tallies)
  TalliesWith-settles {before = before} {after = after} NoMemory outcome stands settles counted more tallies =
      subst (λ (all : List Gathered). TalliesWith all after) (sym settles.1.collected)
      (TalliesWith-lacking (subst (Grows before after) settles.0 (Grows-more counted more)) tallies)

  -- and told
  pub told-settles : (slot : Slot) (outcome : Outcome) → StandsFor terms old moment (length outcomes + 1) line slot → SettlesSlot Wants old new slot outcome → IsToldBy old.plan old.table outcomes old.collected → IsToldBy old.plan old.table (outcomes ++ outcome ∷ []) new.collected
  told-settles (Running ticket) (Done completion) stands collects told =
      subst (λ (all : List Gathered). IsToldBy old.plan old.table (outcomes ++ Done completion ∷ []) all) (sym (collects.collected _ stands.begun)) (told-with completion told)
  told-settles (Running ticket) BadRecord stands settles told = absurd settles
  told-settles Bad outcome stands settles told =
      subst (λ (all : List Gathered). IsToldBy old.plan old.table (outcomes ++ outcome ∷ []) all) (sym settles.1.collected)
      (subst (λ (o : Outcome). IsToldBy old.plan old.table (outcomes ++ o ∷ []) old.collected) (sym settles.0) (told-without BadRecord refl told))
  told-settles NoMemory outcome stands settles told =
      subst (λ (all : List Gathered). IsToldBy old.plan old.table (outcomes ++ outcome ∷ []) all) (sym settles.1.collected)
      (subst (λ (o : Outcome). IsToldBy old.plan old.table (outcomes ++ o ∷ []) old.collected) (sym settles.0) (told-without (Done NoMemoryEnd) (inr (refl, refl)) told))

-- no operation was collected, and there is no line
pub TalliesWith-new : {summary : Summary} {all : List Gathered} → all ≡ [] → Summarizes summary [] → TalliesWith all summary
TalliesWith-new {summary = summary} new counted = subst (λ (t : List Gathered). TalliesWith t summary) (sym new) (record {
  values = sym counted.values;
  errors = sym counted.errors;
  stopped = sym counted.stopped;
  no_memory = omega (arith, counted.no_memory);
})

pub told-new : {plan : Blueprint} {table : TableId} {all : List Gathered} → all ≡ [] → IsToldBy plan table [] all
told-new {plan = plan} {table = table} new = subst (λ (t : List Gathered). IsToldBy plan table [] t) (sym new) (record {
  each = λ i. subst (λ (o : Option Outcome). IsToldAs plan table (i + 1) o []) (sym (slice_get_past [] i (omega arith))) refl;
  none = refl;
})

-- another summary of the same lines
pub TalliesWith-same : {all : List Gathered} {old new : Summary} {outcomes : List Outcome} → Summarizes old outcomes → Summarizes new outcomes → TalliesWith all old → TalliesWith all new
TalliesWith-same before after tallies = record {
  values = tallies.values ∙ before.values ∙ sym after.values;
  errors = tallies.errors ∙ before.errors ∙ sym after.errors;
  stopped = tallies.stopped ∙ before.stopped ∙ sym after.stopped;
  no_memory = omega (arith, tallies.no_memory, before.no_memory, after.no_memory);
}

-- nothing is collected, and nothing printed
pub TalliesWith-kept : {old new : List Gathered} {printer next : Printer} → new ≡ old → next ≡ printer → TalliesWith old printer.summary → TalliesWith new next.summary
TalliesWith-kept {old = old} {next = next} collected same tallies =
    subst (λ (t : List Gathered). TalliesWith t next.summary) (sym collected)
    (subst (λ (p : Printer). TalliesWith old p.summary) (sym same) tallies)

pub told-kept : {plan : Blueprint} {table : TableId} {outcomes : List Outcome} {old new : List Gathered} → new ≡ old → IsToldBy plan table outcomes old → IsToldBy plan table outcomes new
told-kept {plan = plan} {table = table} {outcomes = outcomes} collected told = subst (λ (t : List Gathered). IsToldBy plan table outcomes t) (sym collected) told

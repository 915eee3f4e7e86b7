-- How the lines of two parts, and of several, are lawful together.
use Rattle.std.proofs.Common.{◌≡◌, ℕ, suc, ◌+◌, ◌-◌, ◌<◌, ◌≤◌, false, List, [], ◌∷◌, ◌++◌, length, Option, Some, None, inl, inr, refl, sym, ap, ◌∙◌, subst, arith, length-append}
use Rattle.std.specs.Prelude.{slice_get}
use Rattle.std.specs.List.{flat_map, AllZip}
use Rattle.std.proofs.lemmas.Bool.{cases_lt}
use Rattle.common_lemmas.proofs.Lists.{slice_get-append_left, slice_get-append_right}
use Rattle.exec_value.specs.declared.outcome.Completion.{Completion}
use Rattle.exec_value.specs.declared.outcome.Outcome.{Outcome}
use Rattle.exec_value.specs.declared.outcome.Outcome.TheVariants.{Done, BadRecord}
use Rattle.plan_rules.specs.declared.stop.StopState.{StopState}
use Rattle.plan_rules.specs.declared.stop.StopState.TheVariants.{Never}
use Rattle.line_rules.specs.Lawful.{Lawful, Terms, MayEnd, EndsAllowed}
use Rattle.plan_shape.specs.Blueprint.{Blueprint}
use Rattle.line_rules.specs.PlanTerms.{terms_of}
use Rattle.line_rules.specs.StopStates.{stop_state, state_after, state_on_error, stronger, first_error}
use Rattle.part_lines.specs.Streams.{in_order}
use Rattle.join_laws.specs.Joined.{MayBeCut, PartsJoin}

module _ (WantsMemory : Blueprint → Type 0) (plan : Blueprint) (window : ℕ) (cut : MayBeCut plan) where
  abbrev pub terms : Terms
  terms = terms_of WantsMemory plan window

  -- no stop reaches a record
  never : (outcomes : List Outcome) (number : ℕ) → stop_state terms.rules terms.window outcomes number ≡ Never
  never outcomes number =
      ap (λ after. stronger (state_after after terms.window (length outcomes) number) (state_on_error terms.rules.on_error (first_error 1 outcomes) terms.window number)) cut.after
      ∙ ap (λ on_error. stronger Never (state_on_error on_error (first_error 1 outcomes) terms.window number)) cut.on_error

  -- under another number a record may end so too
  renumbered : (number other : ℕ) (line : List ℕ) (outcome : Outcome) → MayEnd terms number Never line outcome → MayEnd terms other Never line outcome
  renumbered number other line BadRecord may = may
  renumbered number other line (Done completion) (inl wants) = inl wants
  renumbered number other line (Done completion) (inr allowed) = inr (record {
    datum = allowed.datum;
    shows = allowed.shows;
    allowed = cut.any_number number other allowed.datum Never completion allowed.allowed;
  })

  -- and in other lists of lines
  pub moved : (some others : List Outcome) (number other : ℕ) (line : List ℕ) (outcome : Outcome)
      → MayEnd terms number (stop_state terms.rules terms.window some number) line outcome
      → MayEnd terms other (stop_state terms.rules terms.window others other) line outcome
  moved some others number other line outcome may =
      subst (λ (stop : StopState). MayEnd terms other stop line outcome) (sym (never others other))
      (renumbered number other line outcome (subst (λ (stop : StopState). MayEnd terms number stop line outcome) (never some number) may))

  two_parts : (records more : List (List ℕ)) (outcomes later : List Outcome) → Lawful terms records outcomes → Lawful terms more later → Lawful terms (records ++ more) (outcomes ++ later)
  two_parts records more outcomes later first second = record {
    as_many = omega (arith, first.as_many, second.as_many, length-append records more, length-append outcomes later);
    each = λ i line outcome is_line is_outcome. elim (cases_lt i (length records)) [
      | inl below ↦
          let here : i < length outcomes = omega (arith, below, first.as_many) in
          moved outcomes (outcomes ++ later) (i + 1) (i + 1) line outcome
          (first.each i line outcome (sym (slice_get-append_left records more i below) ∙ is_line) (sym (slice_get-append_left outcomes later i here) ∙ is_outcome))
      | inr above ↦
          let k : ℕ = i - length records in
          let place : length records + k ≡ i = omega (arith, above) in
          let place' : length outcomes + k ≡ i = omega (arith, above, first.as_many) in
          let line_there : slice_get more k ≡ Some line = sym (slice_get-append_right records more k) ∙ ap (slice_get (records ++ more)) place ∙ is_line in
          let outcome_there : slice_get later k ≡ Some outcome = sym (slice_get-append_right outcomes later k) ∙ ap (slice_get (outcomes ++ later)) place' ∙ is_outcome in
          moved later (outcomes ++ later) (k + 1) (i + 1) line outcome (second.each k line outcome line_there outcome_there)
    ];
  }

  no_part : Lawful terms [] []
  no_part = record { as_many = refl; each = λ i line outcome is_line is_outcome. absurd (none i line is_line) }
    where
      none : (i : ℕ) (line : List ℕ) → slice_get [] i ≡ Some line → ⊥
      none i line e = cc

  pub parts_join : PartsJoin (terms_of WantsMemory plan window)
  parts_join [] [] lawful = no_part
  parts_join [] (o ∷ outcomes) lawful = absurd lawful
  parts_join (r ∷ records) [] lawful = absurd lawful
  parts_join (r ∷ records) (o ∷ outcomes) lawful = two_parts r (in_order records) o (in_order outcomes) lawful.0 (parts_join records outcomes lawful.1)

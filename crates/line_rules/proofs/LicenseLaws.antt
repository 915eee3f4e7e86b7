-- How lines stay licensed, and that licensed lines are lawful.
use Rattle.std.proofs.Common.{◌≡◌, ◌⊎◌, ℕ, zero, suc, ◌+◌, ◌<◌, ◌≤◌, Bool, true, false, List, [], ◌∷◌, ◌++◌, length, Option, Some, None, nat_le, slice_get, refl, sym, ap, ◌∙◌, subst, inl, inr, length-append, arith}
use Rattle.std.proofs.lemmas.Bool.{leb-true, leb-false}
use Rattle.std.proofs.lemmas.Option.{slice_get_within}
use Rattle.exec_value.specs.declared.outcome.Outcome.{Outcome}
use Rattle.exec_value.specs.declared.outcome.Outcome.TheVariants.{Done, BadRecord}
use Rattle.plan_rules.specs.declared.stop.StopState.{StopState}
use Rattle.plan_rules.specs.declared.stop.StopState.TheVariants.{Never, May, Stands}
use Rattle.line_rules.specs.Lawful.{Terms, MayEnd, EndsWanting, EndsAllowed, Lawful}
use Rattle.line_rules.specs.Moments.{Moment, license, is_asked_before, IsCaused, Licensed, Covers}
use Rattle.line_rules.specs.StopStates.{stop_state, state_between}
use Rattle.line_rules.proofs.Agreement.{agrees}

-- an element of a list with one more at its end
at_push : {X : Type 0} (xs : List X) (x : X) (i : ℕ) (y : X) → slice_get (xs ++ x ∷ []) i ≡ Some y → (slice_get xs i ≡ Some y) ⊎ ((i ≡ length xs) × (x ≡ y))
at_push [] x zero y is = inr (refl, cc)
at_push [] x (suc i) y is = absurd (let none : None ≡ Some y = is in cc)
at_push (z ∷ xs) x zero y is = inl is
at_push (z ∷ xs) x (suc i) y is = elim (at_push xs x i y is) [ inl h ↦ inl h | inr h ↦ inr (ap suc h.0, h.1) ]

-- no record has no line
pub Licensed-nil : (terms : Terms) (moment : Option Moment) → Licensed terms moment [] []
Licensed-nil terms moment = record { as_many = refl; each = λ i line outcome h. absurd (let none : None ≡ Some line = h in cc) }

-- one more record has its outcome
pub Licensed-more : {terms : Terms} {moment : Option Moment} {records : List (List ℕ)} {outcomes : List Outcome} (line : List ℕ) (outcome : Outcome) → Licensed terms moment records outcomes
    → MayEnd terms (length outcomes + 1) (license moment (length outcomes + 1)) line outcome
    → Licensed terms moment (records ++ line ∷ []) (outcomes ++ outcome ∷ [])
Licensed-more {terms = terms} {moment = moment} {records = records} {outcomes = outcomes} line outcome licensed may = record {
  as_many = omega (arith, licensed.as_many, length-append records (line ∷ []), length-append outcomes (outcome ∷ []));
  each = λ i l o is_line is_outcome.
      elim (at_push records line i l is_line) [
        | inl in_records ↦ elim (at_push outcomes outcome i o is_outcome) [
          | inl in_outcomes ↦ licensed.each i l o in_records in_outcomes
          | inr last ↦ absurd (omega (arith, slice_get_within records i l in_records, last.0, licensed.as_many))
        ]
        | inr last ↦ elim (at_push outcomes outcome i o is_outcome) [
          | inl in_outcomes ↦ absurd (omega (arith, slice_get_within outcomes i o in_outcomes, last.0, licensed.as_many))
          | inr same ↦
              let P : List ℕ → Type 0 = λ x. MayEnd terms (i + 1) (license moment (i + 1)) x o in
              let Q : Outcome → Type 0 = λ x. MayEnd terms (i + 1) (license moment (i + 1)) line x in
              let R : ℕ → Type 0 = λ n. MayEnd terms (n + 1) (license moment (n + 1)) line outcome in
              subst P last.1 (subst Q same.1 (subst R (sym same.0) may))
        ]
      ];
}

-- a line that was written by the moment saw no request
early-license : (moment : Moment) (number : ℕ) → number ≤ moment.written → license (Some moment) number ≡ Never
early-license moment number early = by (nat_le number moment.written) refl
  where
    by : (b : Bool) → nat_le number moment.written ≡ b → state_between b (nat_le moment.first number) ≡ Never
    by true is = refl
    by false is = absurd (omega (arith, leb-false number moment.written is, early))

-- the request is made now: the lines written so far saw none
pub Licensed-asks : {terms : Terms} {records : List (List ℕ)} {outcomes : List Outcome} (moment : Moment) → length outcomes ≤ moment.written → Licensed terms None records outcomes → Licensed terms (Some moment) records outcomes
Licensed-asks {terms = terms} {outcomes = outcomes} moment written licensed = record {
  as_many = licensed.as_many;
  each = λ i line outcome is_line is_outcome.
      let P : StopState → Type 0 = λ stop. MayEnd terms (i + 1) stop line outcome in
      subst P (sym (early-license moment (i + 1) (omega (arith, slice_get_within outcomes i outcome is_outcome, written)))) (licensed.each i line outcome is_line is_outcome);
}

-- the license of a line that is written after the moment, by whether its record was started asked
pub late-license : (moment : Moment) (number : ℕ) → moment.written < number → (asked : Bool) → nat_le moment.first number ≡ asked → state_between false asked ≡ license (Some moment) number
late-license moment number late asked is = by (nat_le number moment.written) refl
  where
    by : (b : Bool) → nat_le number moment.written ≡ b → state_between false asked ≡ state_between b (nat_le moment.first number)
    by true written = absurd (omega (arith, leb-true number moment.written written, late))
    by false written = ap (λ b. state_between false b) (sym is)

-- a record that ends so in a stop state may end so where a request may come
MayEnd-may : (terms : Terms) → Covers terms → (number : ℕ) (stop : StopState) (line : List ℕ) (outcome : Outcome) → MayEnd terms number stop line outcome → MayEnd terms number May line outcome
MayEnd-may terms covers number stop line BadRecord may = may
MayEnd-may terms covers number stop line (Done completion) (inl wants) = inl wants
MayEnd-may terms covers number stop line (Done completion) (inr ends) = inr (record {
  datum = ends.datum;
  shows = ends.shows;
  allowed = covers number ends.datum stop completion ends.allowed;
})

-- lines that are licensed by a request that was made when it was due are lawful
pub Lawful-from_licensed : (terms : Terms) → Covers terms → (moment : Option Moment) (records : List (List ℕ)) (outcomes : List Outcome)
    → IsCaused terms.rules terms.window (length outcomes) outcomes moment → Licensed terms moment records outcomes → Lawful terms records outcomes
Lawful-from_licensed terms covers moment records outcomes caused licensed = record {
  as_many = licensed.as_many;
  each = λ i line outcome is_line is_outcome.
      let may = licensed.each i line outcome is_line is_outcome in
      let P : StopState → Type 0 = λ stop. MayEnd terms (i + 1) stop line outcome in
      elim (agrees terms.rules terms.window outcomes moment caused (i + 1)) [
        | inl same ↦ subst P same may
        | inr weak ↦ subst P (sym weak) (MayEnd-may terms covers (i + 1) (license moment (i + 1)) line outcome may)
      ];
}

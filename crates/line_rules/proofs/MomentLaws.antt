-- How the cause of a request goes on as records are read and lines are written.
use Rattle.std.proofs.Common.{◌≡◌, ◌⊎◌, ℕ, ◌+◌, ◌<◌, ◌≤◌, Bool, true, false, List, [], ◌∷◌, ◌++◌, length, Option, Some, None, IfSome, refl, sym, ap, ◌∙◌, inl, inr, length-append, arith}
use Rattle.std.proofs.lemmas.Bool.{cases_Bool}
use Rattle.exec_value.specs.declared.outcome.Outcome.{Outcome}
use Rattle.outcome_lines.specs.Summary.{is_error}
use Rattle.line_rules.specs.StopStates.{StopRules, first_error}
use Rattle.line_rules.specs.Moments.{Moment, IsQuiet, IsDue, IsTimely, IsCaused}
use Rattle.line_rules.proofs.FirstError.{first_error-stays, first_error-none, first_error-found}

-- nothing was read and nothing was written
pub quiet-nil : (rules : StopRules) → IfSome rules.after (λ k. 0 < k) → IsQuiet rules 0 []
quiet-nil rules after = record { after = after; on_error = λ _. refl }

module _ (rules : StopRules) (window read : ℕ) (outcomes : List Outcome) where
  -- one more record is read, and it isn't record k
  pub quiet-read : (rules.after ≡ Some (read + 1) → ⊥) → IsQuiet rules read outcomes → IsQuiet rules (read + 1) outcomes
  quiet-read other quiet = record { after = later rules.after refl quiet.after; on_error = quiet.on_error }
    where
      below : (k : ℕ) → rules.after ≡ Some k → read < k → read + 1 < k
      below k is less = omega (arith, less, apart k is)
        where
          apart : (k : ℕ) → rules.after ≡ Some k → (read + 1 ≡ k → ⊥)
          apart k is same = other (is ∙ ap Some (sym same))

      later : (after : Option ℕ) → rules.after ≡ after → IfSome after (λ k. read < k) → IfSome after (λ k. read + 1 < k)
      later None is less = tt
      later (Some k) is less = below k is less

  -- record k is read, and the request is made
  pub timely-read : rules.after ≡ Some (read + 1) → length outcomes ≤ read → read + 1 ≤ length outcomes + window → IsQuiet rules read outcomes → IsTimely rules window (read + 1) outcomes (record { written = length outcomes; first = read + 1 })
  timely-read is written within quiet = record {
    ahead = omega (arith, written);
    written = omega arith;
    first = omega arith;
    within = within;
    after = here rules.after is;
    on_error = λ set. none (first_error 1 outcomes) (quiet.on_error set);
    due = inl (read + 1, is, (omega arith), within);
  }
    where
      here : (after : Option ℕ) → after ≡ Some (read + 1) → IfSome after (λ k. read + 1 ≤ k)
      here None is = tt
      here (Some k) is = let same : k ≡ read + 1 = cc in omega (arith, same)

      none : (found : Option ℕ) → found ≡ None → IfSome found (λ j. length outcomes ≤ j)
      none None is = tt
      none (Some j) is = cc

  -- one more record is read after the request
  pub timely-more : (moment : Moment) → IsTimely rules window read outcomes moment → IsTimely rules window (read + 1) outcomes moment
  timely-more moment timely = record {
    ahead = timely.ahead;
    written = timely.written;
    first = omega (arith, timely.first);
    within = timely.within;
    after = timely.after;
    on_error = timely.on_error;
    due = due timely.due;
  }
    where
      due : IsDue rules window read outcomes moment → IsDue rules window (read + 1) outcomes moment
      due (inl k) = inl (k.0, k.1, (omega (arith, k.2)), k.3)
      due (inr j) = inr j

  -- one more line is written, for which no request is made
  pub quiet-write : (outcome : Outcome) → (rules.on_error ≡ true → is_error outcome ≡ false) → IsQuiet rules read outcomes → IsQuiet rules read (outcomes ++ outcome ∷ [])
  quiet-write outcome fine quiet = record {
    after = quiet.after;
    on_error = λ set. first_error-none 1 outcomes outcome (quiet.on_error set) (fine set);
  }

  -- the first error is written, and the request is made
  pub timely-write : (outcome : Outcome) → rules.on_error ≡ true → is_error outcome ≡ true → length outcomes + 1 ≤ read → read ≤ length outcomes + window → IsQuiet rules read outcomes → IsTimely rules window read (outcomes ++ outcome ∷ []) (record { written = length outcomes + 1; first = read + 1 })
  timely-write outcome set failed written within quiet = record {
    ahead = omega (arith, written);
    written = omega (arith, length-append outcomes (outcome ∷ []));
    first = omega arith;
    within = omega (arith, within);
    after = later rules.after quiet.after;
    on_error = λ _. last (first_error 1 (outcomes ++ outcome ∷ [])) found;
    due = inr (set, found);
  }
    where
      same : 1 + length outcomes ≡ length outcomes + 1
      same = omega arith

      found : first_error 1 (outcomes ++ outcome ∷ []) ≡ Some (length outcomes + 1)
      found = first_error-found 1 outcomes outcome (quiet.on_error set) failed ∙ ap Some same

      later : (after : Option ℕ) → IfSome after (λ k. read < k) → IfSome after (λ k. read + 1 ≤ k)
      later None less = tt
      later (Some k) less = omega (arith, less)

      last : (first : Option ℕ) → first ≡ Some (length outcomes + 1) → IfSome first (λ j. length outcomes + 1 ≤ j)
      last None is = tt
      last (Some j) is = let e : j ≡ length outcomes + 1 = cc in omega (arith, e)

  -- one more line is written after the request
  pub timely-written : (outcome : Outcome) (moment : Moment) → IsTimely rules window read outcomes moment → IsTimely rules window read (outcomes ++ outcome ∷ []) moment
  timely-written outcome moment timely = record {
    ahead = timely.ahead;
    written = omega (arith, timely.written, length-append outcomes (outcome ∷ []));
    first = timely.first;
    within = timely.within;
    after = timely.after;
    on_error = λ set. later (first_error 1 outcomes) refl (timely.on_error set);
    due = due timely.due;
  }
    where
      due : IsDue rules window read outcomes moment → IsDue rules window read (outcomes ++ outcome ∷ []) moment
      due (inl k) = inl k
      due (inr j) = inr (j.0, first_error-stays 1 moment.written outcomes (outcome ∷ []) j.1)

      known : (first : Option ℕ) (j : ℕ) → first ≡ Some j → moment.written ≤ j → IfSome first (λ j. moment.written ≤ j)
      known None j is below = tt
      known (Some i) j is below = let e : i ≡ j = cc in omega (arith, e, below)

      none : (first : Option ℕ) → first ≡ None → IfSome first (λ j. moment.written ≤ j)
      none None is = tt
      none (Some i) is = cc

      new : first_error 1 outcomes ≡ None → (b : Bool) → is_error outcome ≡ b → IfSome (first_error 1 (outcomes ++ outcome ∷ [])) (λ j. moment.written ≤ j)
      new is true failed = known (first_error 1 (outcomes ++ outcome ∷ [])) (1 + length outcomes) (first_error-found 1 outcomes outcome is failed) (omega (arith, timely.written))
      new is false fine = none (first_error 1 (outcomes ++ outcome ∷ [])) (first_error-none 1 outcomes outcome is fine)

      later : (first : Option ℕ) → first_error 1 outcomes ≡ first → IfSome first (λ j. moment.written ≤ j) → IfSome (first_error 1 (outcomes ++ outcome ∷ [])) (λ j. moment.written ≤ j)
      later None is below = new is (is_error outcome) refl
      later (Some j) is below = known (first_error 1 (outcomes ++ outcome ∷ [])) j (first_error-stays 1 j outcomes (outcome ∷ []) is) below

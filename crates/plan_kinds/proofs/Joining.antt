-- Nodes that join the values of several children keep kinds.
use Rattle.std.specs.Prelude.{slice_index}
use Rattle.std.proofs.Common.{◌≡◌, ℕ, zero, suc, ◌<◌, true, IsTrue, ◌||◌, List, [], ◌∷◌, ◌++◌, length, Some, None, inl, inr, refl, sym, ap, ◌∙◌, subst, arith, false}
use Rattle.std.proofs.lemmas.List.{append_assoc, append-nil}
use Rattle.std.proofs.lemmas.Bool.{or_left, or_right, cases_eq}
use Rattle.exec_value.specs.Kinds.{HaveKinds}
use Rattle.exec_value.specs.declared.kinds.Kind.{Kind}
use Rattle.exec_value.specs.declared.data.Datum.{Datum}
use Rattle.exec_value.specs.declared.outcome.Completion.{Completion}
use Rattle.exec_value.specs.declared.outcome.Completion.TheVariants.{Value, Error, Stopped, NoMemory}
use Rattle.plan_rules.specs.declared.stop.StopState.{StopState}
use Rattle.plan_rules.specs.declared.stop.StopState.TheVariants.{May}
use Rattle.plan_rules.specs.Allowed.{Ends, IsFailure, FailsWith, AllOf, Joined2, joined as joined_data}
use Rattle.plan_kinds.specs.Shapes.{Shape, HasShape, appended, joined}
use Rattle.plan_kinds.specs.Values.{shapes_of}
use Rattle.plan_kinds.specs.Signatures.{Signatures, sigs_at, Fits}
use Rattle.plan_kinds.specs.Flags.{any_error, any_stop}
use Rattle.plan_kinds.specs.declared.sig.Sig.{Sig}
use Rattle.plan_kinds.proofs.Fitting.{FitsAs, same-fits}
use Rattle.plan_kinds.proofs.Agreeing.{value_at, values_at, any-at}

kinds-append : (values more : List Datum) (kinds others : List Kind) → HaveKinds values kinds →
    HaveKinds more others → HaveKinds (values ++ more) (kinds ++ others)
kinds-append [] more [] others have rest = rest
kinds-append [] more (kind ∷ kinds) others have rest = absurd have
kinds-append (datum ∷ values) more [] others have rest = absurd have
kinds-append (datum ∷ values) more (kind ∷ kinds) others have rest =
    (have.0, kinds-append values more kinds others have.1 rest)

shapes-append : (values more : List Datum) (shape other : Shape) → HasShape values shape →
    HasShape more other → HasShape (values ++ more) (appended shape other)
shapes-append values more (Some kinds) (Some others) have rest = kinds-append values more kinds others have rest
shapes-append values more None other have rest = absurd have
shapes-append values more shape None have rest = absurd rest

joined-front : (values : ℕ → List Datum) (n : ℕ) →
    joined_data values (suc n) ≡ values 0 ++ joined_data (λ i. values (suc i)) n
joined-front values zero = sym (append-nil (values 0))
joined-front values (suc n) =
    ap (λ l. l ++ values (suc n)) (joined-front values n)
    ∙ append_assoc (values 0) (joined_data (λ i. values (suc i)) n) (values (suc n))

module _ (below : Signatures) (a : Shape) where
  -- the children's data, one after another, are of the joined shape
  joined-shape : (xs : List ℕ) (values : ℕ → List Datum) →
      ((i : ℕ) → i < length xs → HasShape (values i) (value_at below (slice_index xs i) a)) →
      HasShape (joined_data values (length xs)) (joined (values_at below xs a))
  joined-shape [] values each = tt
  joined-shape (x ∷ xs) values each =
      subst (λ (l : List Datum). HasShape l (joined (values_at below (x ∷ xs) a)))
      (sym (joined-front values (length xs)))
      (shapes-append (values 0) (joined_data (λ i. values (suc i)) (length xs))
      (value_at below x a) (joined (values_at below xs a)) (each 0 (omega arith))
      (joined-shape xs (λ i. values (suc i)) (λ i within. each (suc i) (omega arith))))

  -- an error of one of them
  error-of : (xs : List ℕ) (i : ℕ) → i < length xs → (d : Completion) (e : List ℕ) → d ≡ Error e →
      Fits (below (slice_index xs i) a) d → IsTrue (any_error (sigs_at below xs a))
  error-of xs i within d e is fits =
      any-at below a (λ (sig : Sig). sig.may_error) xs i within
      (subst (Fits (below (slice_index xs i) a)) is fits)

  fails-fit : (xs : List ℕ) (ends : Ends) →
      ((i : ℕ) → i < length xs → Fits (below (slice_index xs i) a) (ends i)) →
      (j : ℕ) → j < length xs → (d : Completion) → ends j ≡ d → (shape : Shape) (c : Completion) →
      FailsWith d ends (length xs) c → FitsAs shape (any_error (sigs_at below xs a)) true c
  fails-fit xs ends each j within (Error e) is shape c h =
      same-fits shape (any_error (sigs_at below xs a)) true (Error e) c
      (error-of xs j within (ends j) e is (each j within)) h
  fails-fit xs ends each j within Stopped is shape c h = elim h [
    | inl x ↦ same-fits shape (any_error (sigs_at below xs a)) true (Error x.1) c
        (error-of xs x.0 x.2 (ends x.0) x.1 x.3 (each x.0 x.2)) x.4
    | inr x ↦ same-fits shape (any_error (sigs_at below xs a)) true Stopped c refl x.1
  ]
  fails-fit xs ends each j within (Value values) is shape c h = absurd h
  fails-fit xs ends each j within NoMemory is shape c h = absurd h

  pub all-fits : (xs : List ℕ) (Child : StopState → ℕ → Completion → Type 0) (q : StopState) →
      ((s : StopState) (i : ℕ) → i < length xs → (c : Completion) → Child s i c →
      Fits (below (slice_index xs i) a) c) →
      (c : Completion) → AllOf Child q (length xs) c →
      FitsAs (joined (values_at below xs a)) (any_error (sigs_at below xs a)) true c
  all-fits xs Child q child c h = elim h [
    | inl x ↦ same-fits (joined (values_at below xs a)) (any_error (sigs_at below xs a)) true
        (Value (joined_data x.0 (length xs))) c
        (joined-shape xs x.0 (λ i within. child q i within (Value (x.0 i)) (x.1 i within))) x.2
    | inr x ↦ fails-fit xs x.1
        (λ i within. fits_each x.0 x.1 x.3 x.5 i within)
        x.0 x.2 (x.1 x.0) refl (joined (values_at below xs a)) c x.6
  ]
    where
      fits_each : (j : ℕ) (ends : Ends) → Child q j (ends j) →
          ((i : ℕ) → i < length xs → (i ≡ j → ⊥) → Child May i (ends i)) →
          (i : ℕ) → i < length xs → Fits (below (slice_index xs i) a) (ends i)
      fits_each j ends own others i within = elim (cases_eq i j) [
        | inl e ↦ child q i within (ends i) (subst (λ k. Child q k (ends k)) (sym e) own)
        | inr other ↦ child May i within (ends i) (others i within other)
      ]

-- one list after another, and then nothing more
pub appended-none : (shape : Shape) → appended shape (Some []) ≡ shape
appended-none (Some kinds) = ap Some (append-nil kinds)
appended-none None = refl

-- what the two of an `ahead` are together
abbrev FitsBoth : Sig → Sig → Completion → Type 0
FitsBoth front back c =
    FitsAs (joined (shapes_of (front ∷ back ∷ []))) (any_error (front ∷ back ∷ []))
    (any_stop (front ∷ back ∷ [])) c

second-fails : (front back : Sig) (d : Completion) → IsFailure d → Fits back d → FitsBoth front back d
second-fails front back (Error e) failure fits =
    or_right front.may_error (back.may_error || false) (or_left back.may_error false fits)
second-fails front back Stopped failure fits =
    or_right front.may_stop (back.may_stop || false) (or_left back.may_stop false fits)
second-fails front back (Value values) failure fits = absurd failure
second-fails front back NoMemory failure fits = absurd failure

first-fails : (front back : Sig) (d : Completion) → IsFailure d → Fits front d → FitsBoth front back d
first-fails front back (Error e) failure fits = or_left front.may_error (back.may_error || false) fits
first-fails front back Stopped failure fits = or_left front.may_stop (back.may_stop || false) fits
first-fails front back (Value values) failure fits = absurd failure
first-fails front back NoMemory failure fits = absurd failure

pub ahead-fits : (front back : Sig) (First Second : Completion → Type 0) →
    ((d : Completion) → First d → Fits front d) → ((d : Completion) → Second d → Fits back d) →
    (c : Completion) → Joined2 First Second c → FitsBoth front back c
ahead-fits front back First Second first second c h = elim h [
  | inl x ↦ second-fails front back c x.1 (second c x.0)
  | inr x ↦ elim (x.2) [
    | inl y ↦ first-fails front back c y.1 (first c y.0)
    | inr y ↦ same-fits (joined (shapes_of (front ∷ back ∷ []))) (any_error (front ∷ back ∷ []))
        (any_stop (front ∷ back ∷ [])) (Value (y.0 ++ x.0)) c
        (shapes-append y.0 x.0 front.value (appended back.value (Some [])) (first (Value y.0) y.1)
        (subst (HasShape x.0) (sym (appended-none back.value)) (second (Value x.0) x.1))) y.2
  ]
]

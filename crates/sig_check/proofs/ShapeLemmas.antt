-- Shapes of the values of several signatures, one more at a time.
use Rattle.std.specs.Prelude.{is_some}
use Rattle.std.specs.List.{list_all}
use Rattle.std.specs.Option.{option_or}
use Rattle.std.proofs.Common.{◌≡◌, ℕ, zero, suc, ◌+◌, ◌<◌, Bool, true, ◌&&◌, List, [], ◌∷◌, length, get_or, take, Some, None, refl, sym, ap, ◌∙◌, subst, arith, add-one}
use Rattle.std.proofs.lemmas.List.{append_assoc}
use Rattle.std.proofs.lemmas.List.Folds.{list_all-map}
use Rattle.plan_kinds.specs.declared.sig.Sig.{Sig}
use Rattle.plan_kinds.specs.Shapes.{Shape, agrees, common, all_agree, appended, joined}
use Rattle.plan_kinds.specs.Values.{shapes_of}
use Rattle.plan_kinds.proofs.Agreeing.{both-none}
use Rattle.plan_kinds.proofs.Joining.{appended-none}

nothing-appended : (shape : Shape) → appended (Some []) shape ≡ shape
nothing-appended (Some kinds) = refl
nothing-appended None = refl

appended-assoc : (x y z : Shape) → appended x (appended y z) ≡ appended (appended x y) z
appended-assoc (Some f) (Some g) (Some h) = ap Some (sym (append_assoc f g h))
appended-assoc (Some f) (Some g) None = refl
appended-assoc (Some f) None z = refl
appended-assoc None y z = refl

joined-suc : (sigs : List Sig) (i : ℕ) (sig : Sig) → i < length sigs → sig ≡ get_or sigs i sig →
    joined (shapes_of (take (suc i) sigs)) ≡ appended (joined (shapes_of (take i sigs))) sig.value
joined-suc [] i sig within is = absurd (omega arith)
joined-suc (x ∷ xs) zero sig within is =
    appended-none x.value ∙ ap (λ (s : Sig). s.value) (sym is) ∙ sym (nothing-appended sig.value)
joined-suc (x ∷ xs) (suc i) sig within is =
    ap (appended x.value) (joined-suc xs i sig (omega arith) is)
    ∙ appended-assoc x.value (joined (shapes_of (take i xs))) sig.value

-- one value more, joined behind the others
pub joined-more : (sigs : List Sig) (i : ℕ) (sig : Sig) → i < length sigs → sig ≡ get_or sigs i sig →
    joined (shapes_of (take (i + 1) sigs)) ≡ appended (joined (shapes_of (take i sigs))) sig.value
joined-more sigs i sig within is = rw add-one (joined-suc sigs i sig within is)

or-some : (shape other : Shape) → is_some shape ≡ true → option_or shape other ≡ shape
or-some (Some kinds) other some = refl
or-some None other some = cc

or-none : (shape : Shape) → option_or shape None ≡ shape
or-none (Some kinds) = refl
or-none None = refl

or-assoc : (x y z : Shape) → option_or x (option_or y z) ≡ option_or (option_or x y) z
or-assoc (Some kinds) y z = refl
or-assoc None y z = refl

-- the first that isn't never is the common one
pub common-first : (sigs : List Sig) (i : ℕ) (sig : Sig) → i < length sigs → sig ≡ get_or sigs i sig →
    common (shapes_of (take i sigs)) ≡ None → is_some sig.value ≡ true → common (shapes_of sigs) ≡ sig.value
common-first [] i sig within is none some = absurd (omega arith)
common-first (x ∷ xs) zero sig within is none some =
    let same : x.value ≡ sig.value = ap (λ (s : Sig). s.value) (sym is) in
    or-some x.value (common (shapes_of xs)) (ap is_some same ∙ some) ∙ same
common-first (x ∷ xs) (suc i) sig within is none some =
    let parts = both-none x.value (common (shapes_of (take i xs))) none in
    ap (λ s. option_or s (common (shapes_of xs))) parts.0
    ∙ common-first xs i sig (omega arith) is parts.1 some

common-suc : (sigs : List Sig) (i : ℕ) (sig : Sig) → i < length sigs → sig ≡ get_or sigs i sig →
    common (shapes_of (take (suc i) sigs)) ≡ option_or (common (shapes_of (take i sigs))) sig.value
common-suc [] i sig within is = absurd (omega arith)
common-suc (x ∷ xs) zero sig within is = or-none x.value ∙ ap (λ (s : Sig). s.value) (sym is)
common-suc (x ∷ xs) (suc i) sig within is =
    ap (option_or x.value) (common-suc xs i sig (omega arith) is)
    ∙ or-assoc x.value (common (shapes_of (take i xs))) sig.value

-- one never more
pub common-more : (sigs : List Sig) (i : ℕ) (sig : Sig) → i < length sigs → sig ≡ get_or sigs i sig →
    common (shapes_of (take i sigs)) ≡ None → sig.value ≡ None → common (shapes_of (take (i + 1) sigs)) ≡ None
common-more sigs i sig within is none never =
    rw add-one (common-suc sigs i sig within is
    ∙ ap (λ s. option_or s sig.value) none ∙ never)

-- a shape and others agree, where it and each of them agrees with the common one
pub all-agree : (front joint : Shape) (sigs : List Sig) (answer : Bool) →
    joint ≡ common (front ∷ shapes_of sigs) → agrees joint front ≡ true →
    answer ≡ list_all (λ (sig : Sig). agrees joint sig.value) sigs → answer ≡ all_agree (front ∷ shapes_of sigs)
all-agree front joint sigs answer is first others =
    subst (λ j. answer ≡ list_all (agrees j) (front ∷ shapes_of sigs)) is
    (others ∙ sym (list_all-map (agrees joint) (λ (sig : Sig). sig.value) sigs)
    ∙ sym (ap (λ b. b && list_all (agrees joint) (shapes_of sigs)) first))

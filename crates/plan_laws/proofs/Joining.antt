-- How the children of a `when_all` end together in plain evaluation.
use Rattle.std.specs.Prelude.{slice_index, map}
use Rattle.std.proofs.Common.{◌≡◌, ℕ, zero, suc, ◌<◌, List, [], ◌∷◌, ◌++◌, length, refl, sym, ap, ap₂, ◌∙◌, subst, arith}
use Rattle.std.proofs.lemmas.List.{append_assoc, append-nil}
use Rattle.exec_value.specs.declared.data.Datum.{Datum}
use Rattle.exec_value.specs.declared.outcome.Completion.{Completion}
use Rattle.exec_value.specs.declared.outcome.Completion.TheVariants.{Value, Error, Stopped, NoMemory}
use Rattle.plan_rules.specs.Allowed.{Ends, joined}
use Rattle.plan_rules.specs.Settle.{and_then, all_of}
use Rattle.plan_rules.specs.Calm.{IsValue}
use Rattle.plan_laws.proofs.Memory.{HasMemory}

joined-front : (values : ℕ → List Datum) (n : ℕ) →
    joined values (suc n) ≡ values 0 ++ joined (λ i. values (suc i)) n
joined-front values zero = sym (append-nil (values 0))
joined-front values (suc n) =
    ap (λ l. l ++ values (suc n)) (joined-front values n)
    ∙ append_assoc (values 0) (joined (λ i. values (suc i)) n) (values (suc n))

-- where each child has a value, all are joined
pub all-values : (f : ℕ → Completion) (xs : List ℕ) (values : ℕ → List Datum) →
    ((i : ℕ) → i < length xs → f (slice_index xs i) ≡ Value (values i)) →
    all_of (map f xs) ≡ Value (joined values (length xs))
all-values f [] values each = refl
all-values f (x ∷ xs) values each =
    ap₂ and_then (each 0 (omega arith))
    (all-values f xs (λ i. values (suc i)) (λ i within. each (suc i) (omega arith)))
    ∙ ap Value (sym (joined-front values (length xs)))

-- what the completion of all tells of those of the children
abbrev pub Tells : Completion → Ends → ℕ → Type 0
Tells (Value values) ends count = (i : ℕ) → i < count → IsValue (ends i)
Tells (Error e) ends count = (j : ℕ) × (j < count) × (ends j ≡ Error e)
Tells Stopped ends count =
    ((j : ℕ) × (j < count) × (ends j ≡ Stopped))
    × ((i : ℕ) (e : List ℕ) → i < count → ends i ≡ Error e → ⊥)
Tells NoMemory ends count = ⊥

-- the first, and those behind it
each-of : (P : ℕ → Type 0) (count : ℕ) → P 0 → ((i : ℕ) → i < count → P (suc i)) →
    (i : ℕ) → i < suc count → P i
each-of P count here behind zero within = here
each-of P count here behind (suc i) within = behind i (omega arith)

value-no_error : (d : Completion) (e : List ℕ) → IsValue d → d ≡ Error e → ⊥
value-no_error d e value same = subst IsValue same value

tells-front : (x y : Completion) (ends : Ends) (count : ℕ) → ends 0 ≡ x → HasMemory x →
    Tells y (λ i. ends (suc i)) count → Tells (and_then x y) ends (suc count)
tells-front (Value front) (Value values) ends count at memory told =
    each-of (λ i. IsValue (ends i)) count (subst IsValue (sym at) tt) told
tells-front (Value front) (Error e) ends count at memory told =
    let within = told.1 in (suc told.0, omega (arith, within), told.2)
tells-front (Value front) Stopped ends count at memory told =
    let within = told.0.1 in (
      (suc told.0.0, omega (arith, within), told.0.2),
      λ i e. each-of (λ k. ends k ≡ Error e → ⊥) count (λ wrong. cc) (λ k. told.1 k e) i,
    )
tells-front (Value front) NoMemory ends count at memory told = absurd told
tells-front (Error e) y ends count at memory told = (0, omega arith, at)
tells-front Stopped (Value values) ends count at memory told = (
  (0, omega arith, at),
  λ i e. each-of (λ k. ends k ≡ Error e → ⊥) count (λ wrong. cc)
      (λ k within. value-no_error (ends (suc k)) e (told k within)) i,
)
tells-front Stopped (Error e) ends count at memory told =
    let within = told.1 in (suc told.0, omega (arith, within), told.2)
tells-front Stopped Stopped ends count at memory told = (
  (0, omega arith, at),
  λ i e. each-of (λ k. ends k ≡ Error e → ⊥) count (λ wrong. cc) (λ k. told.1 k e) i,
)
tells-front Stopped NoMemory ends count at memory told = absurd told
tells-front NoMemory y ends count at memory told = absurd memory

pub all-tells : (f : ℕ → Completion) → ((n : ℕ) → HasMemory (f n)) → (xs : List ℕ) →
    Tells (all_of (map f xs)) (λ i. f (slice_index xs i)) (length xs)
all-tells f memory [] = λ i within. absurd (omega arith)
all-tells f memory (x ∷ xs) =
    tells-front (f x) (all_of (map f xs)) (λ i. f (slice_index (x ∷ xs) i)) (length xs) refl (memory x)
    (all-tells f memory xs)

-- Passes that come back to one.
use Rattle.std.proofs.Common.{◌≡◌, ◌≢◌, ℕ, zero, suc, false, ◌&&◌, ◌||◌, List, [], ◌∷◌, ◌++◌, sum_by, All, arith, refl, sym, ap, ◌∙◌, append-nil}
use Rattle.std.specs.Prelude.{slice_get, Some, None}
use Rattle.std.proofs.lemmas.List.Sums.{sum_by-cons}
use Rattle.std.proofs.lemmas.Bool.{or_from, and_left, and_right}
use Rattle.loop_queue.specs.declared.entry.Entry.{Entry}
use Rattle.loop_queue.specs.declared.queue.Known.{Known}
use Rattle.loop_queue.specs.Rule.{of_post, both, has_some}
use Rattle.loop_queue.proofs.Entries.{of-append, of-own, of-none}

pub got : {X : Type 0} (a b : X) → Some a ≡ Some b → a ≡ b
got a b e = cc

pub no-more : {X : Type 0} (b : X) → None ≡ Some b → ⊥
no-more b e = cc

some-place : (j : ℕ) → suc j ≢ zero
some-place j e = omega (arith, e)

first-place : (j : ℕ) → zero ≢ suc j
first-place j e = omega (arith, e)

apart-before : (j k : ℕ) → j ≢ k → suc j ≢ suc k
apart-before j k apart e = apart (let is : j ≡ k = omega (arith, e) in is)

-- where one of two drained nothing
pub first-dry : (v w : Known) → v.mixed ≡ false → v.drained ≡ [] → w.mixed ≡ false →
    ((both v w).mixed ≡ false) × ((both v w).drained ≡ w.drained)
first-dry v w fine none plain = (
  or_from v.mixed (w.mixed || (has_some v.drained && has_some w.drained)) fine
      (or_from w.mixed (has_some v.drained && has_some w.drained) plain (and_left (has_some v.drained) (has_some w.drained) (ap has_some none))),
  ap (λ l. l ++ w.drained) none,
)

pub second-dry : (v w : Known) → v.mixed ≡ false → w.drained ≡ [] → w.mixed ≡ false →
    ((both v w).mixed ≡ false) × ((both v w).drained ≡ v.drained)
second-dry v w fine none plain = (
  or_from v.mixed (w.mixed || (has_some v.drained && has_some w.drained)) fine
      (or_from w.mixed (has_some v.drained && has_some w.drained) plain (and_right (has_some v.drained) (has_some w.drained) (ap has_some none))),
  ap (λ l. v.drained ++ l) none ∙ append-nil v.drained,
)

-- posts, each with a number and what it knows
module _ {X : Type 0} (number : X → ℕ) (known : X → Known) where
  -- what a pass knows that took in these posts, the last one first
  abbrev pub gather : X → List X → Known
  gather first [] = known first
  gather first (next ∷ rest) = both (gather next rest) (known first)

  pub shared : (first : X) (rest : List X) → (gather first rest).share ≡ sum_by (λ x. (known x).share) (first ∷ rest)
  shared first [] = omega (arith, sum_by-cons (λ x. (known x).share) first [])
  shared first (next ∷ rest) = omega (arith, sum_by-cons (λ x. (known x).share) first (next ∷ rest), shared next rest)

  module _ (own : (x : X) → All (λ entry. entry.post ≡ number x) (known x).posted) (plain : (x : X) → (known x).mixed ≡ false) where
    abbrev posted : X → List Entry
    posted x = (known x).posted

    none-posted : (k : ℕ) (x : X) → number x ≢ k → of_post k (posted x) ≡ []
    none-posted k x apart = of-none k (number x) (posted x) (λ is. apart (sym is)) (own x)

    absent : (k : ℕ) (first : X) (rest : List X) → ((j : ℕ) (x : X) → slice_get (first ∷ rest) j ≡ Some x → number x ≢ k) →
        of_post k (gather first rest).posted ≡ []
    absent k first [] others = none-posted k first (others 0 first refl)
    absent k first (next ∷ rest) others =
        of-append k (gather next rest).posted (posted first)
        ∙ ap (λ l. l ++ of_post k (posted first)) (absent k next rest (λ j x e. others (suc j) x e))
        ∙ none-posted k first (others 0 first refl)

    mine : (first x : X) → first ≡ x → of_post (number x) (posted first) ≡ posted x
    mine first x is = ap (λ y. of_post (number x) (posted y)) is ∙ of-own (number x) (posted x) (own x)

    -- what the post at one place posted is all that was posted under its number
    pub posted-at : (first : X) (rest : List X) (place : ℕ) (x : X) → slice_get (first ∷ rest) place ≡ Some x →
        ((j : ℕ) (y : X) → j ≢ place → slice_get (first ∷ rest) j ≡ Some y → number y ≢ number x) →
        of_post (number x) (gather first rest).posted ≡ posted x
    posted-at first [] zero x e others = mine first x (got first x e)
    posted-at first [] (suc place) x e others = absurd (no-more x e)
    posted-at first (next ∷ rest) zero x e others =
        of-append (number x) (gather next rest).posted (posted first)
        ∙ ap (λ l. l ++ of_post (number x) (posted first)) (absent (number x) next rest (λ j y h. others (suc j) y (some-place j) h))
        ∙ mine first x (got first x e)
    posted-at first (next ∷ rest) (suc place) x e others =
        of-append (number x) (gather next rest).posted (posted first)
        ∙ ap (λ l. of_post (number x) (gather next rest).posted ++ l) (none-posted (number x) first (others 0 first (first-place place) refl))
        ∙ append-nil (of_post (number x) (gather next rest).posted)
        ∙ posted-at next rest place x e (λ j y apart h. others (suc j) y (apart-before j place apart) h)

    -- where no post drained, none did
    dry : (first : X) (rest : List X) → ((j : ℕ) (x : X) → slice_get (first ∷ rest) j ≡ Some x → (known x).drained ≡ []) →
        ((gather first rest).mixed ≡ false) × ((gather first rest).drained ≡ [])
    dry first [] none = (plain first, none 0 first refl)
    dry first (next ∷ rest) none =
        let later = dry next rest (λ j x e. none (suc j) x e) in
        let step = first-dry (gather next rest) (known first) later.0 later.1 (plain first) in
        (step.0, step.1 ∙ none 0 first refl)

    -- and where one did, what it drained is all
    pub drained-at : (first : X) (rest : List X) (place : ℕ) (x : X) → slice_get (first ∷ rest) place ≡ Some x →
        ((j : ℕ) (y : X) → j ≢ place → slice_get (first ∷ rest) j ≡ Some y → (known y).drained ≡ []) →
        ((gather first rest).mixed ≡ false) × ((gather first rest).drained ≡ (known x).drained)
    drained-at first [] zero x e alone = (plain first, ap (λ y. (known y).drained) (got first x e))
    drained-at first [] (suc place) x e alone = absurd (no-more x e)
    drained-at first (next ∷ rest) zero x e alone =
        let later = dry next rest (λ j y h. alone (suc j) y (some-place j) h) in
        let step = first-dry (gather next rest) (known first) later.0 later.1 (plain first) in
        (step.0, step.1 ∙ ap (λ y. (known y).drained) (got first x e))
    drained-at first (next ∷ rest) (suc place) x e alone =
        let later = drained-at next rest place x e (λ j y apart h. alone (suc j) y (apart-before j place apart) h) in
        let step = second-dry (gather next rest) (known first) later.0 (alone 0 first (first-place place) refl) (plain first) in
        (step.0, step.1 ∙ later.1)

-- What the two walks of a `when_all` give together may be delivered.
use Rattle.std.proofs.Common.{◌≡◌, ◌≢◌, ℕ, ◌<◌, Bool, true, false, not, List, length, inl, inr, refl, sym, ap, ◌∙◌, subst, arith}
use Rattle.std.proofs.lemmas.Bool.{false≢true}
use Rattle.common_lemmas.proofs.Bool.{either}
use Rattle.exec_value.specs.declared.outcome.Completion.{Completion}
use Rattle.exec_value.specs.declared.outcome.Completion.TheVariants.{Value, Error, Stopped, NoMemory}
use Rattle.plan_rules.specs.Allowed.{IsFailure, FailsWith}
use Rattle.home_items.specs.declared.entry.Entry.{Entry}
use Rattle.home_items.specs.Parcels.{Delivery, MayDeliver}
use Rattle.start_laws.specs.AllLaws.{AllDelivered}
use Rattle.start_laws.specs.AllEnds.{is_failure, fails_first, first_ends, all_ends, some_saw, some_first, saw_together, all_saw, FailedFirst, AllsMayEnd}
use Rattle.start_laws.proofs.Together.{all-values, one-fails}
use Rattle.start_laws.proofs.Walks.{data_at, FirstTells, LateTells, first-tells, late-tells, none-saw, saw-none, first-none, first-some, first-is}

-- where none failed without having seen a request, a failure is seen
failure-seen : {G : Type 0} (ends : ℕ → Delivery) (count : ℕ) → ((i : ℕ) → i < count → fails_first (ends i) ≡ false) →
    not (some_first ends count) ≡ false → G
failure-seen ends count none is = absurd (false≢true (sym is ∙ ap not (first-none ends count none)))

is-failing : (c d : Completion) → c ≡ d → IsFailure d → IsFailure c
is-failing c d at fails = subst IsFailure (sym at) fails

module _ (start : List Entry) (children : List ℕ) (ends : ℕ → Delivery) (all : AllDelivered start children ends)
    (memory : (i : ℕ) → i < length children → (ends i).completion ≢ NoMemory) where
  abbrev count : ℕ
  count = length children

  abbrev Fails : Completion → Completion → Type 0
  Fails c made = FailsWith c (λ i. (ends i).completion) count made

  -- child j decides
  decides : (j : ℕ) → j < count → (c : Completion) → (ends j).completion ≡ c → IsFailure c → (saw : Bool) →
      (saw ≡ false → (ends j).saw ≡ false) → (made : Completion) → Fails c made → MayDeliver start saw made
  decides j within c at fails saw sees made makes =
      one-fails start children ends all memory j within (is-failing (ends j).completion c at fails) saw sees made
      (subst (λ d. Fails d made) (sym at) makes)

  walked-may : (x y : Completion) → FirstTells ends count memory count x → LateTells ends count memory count x y →
      MayDeliver start (saw_together y ends count) y
  walked-may x (Value vs) told tells =
      let first : FirstTells ends count memory count (Value vs) = subst (FirstTells ends count memory count) tells.0 told in
      subst (λ values. MayDeliver start (some_saw ends count) (Value values)) (sym (first.1 tells.1))
      (all-values start children ends all (data_at ends count memory)
      (λ i within. first.0 i within (tells.1 i within)) (some_saw ends count)
      (λ i within none. none-saw ends count none i within))
  walked-may x (Error e) told tells = elim (tells.3) [
    | inl unseen ↦
        decides tells.0 tells.1 (Error e) tells.2 tt (not (some_first ends count)) (λ none. unseen) (Error e) refl
    | inr more ↦ elim more [
      | inl stopped ↦
          decides stopped.0 stopped.1 Stopped stopped.2 tt (not (some_first ends count)) (λ none. stopped.3) (Error e)
          (inl (tells.0, e, tells.1, tells.2, refl))
      | inr none ↦
          decides tells.0 tells.1 (Error e) tells.2 tt (not (some_first ends count)) (λ is. failure-seen ends count none is)
          (Error e) refl
    ]
  ]
  walked-may x Stopped told tells =
      let none_there : Fails Stopped Stopped = inr ((λ i e inside is. tells.1 i inside (inr inside) e is), refl) in
      elim (tells.0.3) [
        | inl unseen ↦
            decides tells.0.0 tells.0.1 Stopped tells.0.2 tt (not (some_first ends count)) (λ none. unseen) Stopped none_there
        | inr none ↦
            decides tells.0.0 tells.0.1 Stopped tells.0.2 tt (not (some_first ends count))
            (λ is. failure-seen ends count none is) Stopped none_there
      ]
  walked-may x NoMemory told tells = absurd tells

  all-may : MayDeliver start (all_saw ends count) (all_ends ends count)
  all-may =
      let told : FirstTells ends count memory count (first_ends ends count) = first-tells ends count memory count (omega arith) in
      walked-may (first_ends ends count) (all_ends ends count) told
      (late-tells ends count memory (first_ends ends count) told count (omega arith))

module _ (ends : ℕ → Delivery) (count : ℕ) (memory : (i : ℕ) → i < count → (ends i).completion ≢ NoMemory) where
  told : FirstTells ends count memory count (first_ends ends count)
  told = first-tells ends count memory count (omega arith)

  tells : LateTells ends count memory count (first_ends ends count) (all_ends ends count)
  tells = late-tells ends count memory (first_ends ends count) told count (omega arith)

  -- a child that failed without having seen a request
  failed-first : (j : ℕ) → j < count → is_failure (ends j).completion ≡ true → (ends j).saw ≡ false →
      not (some_first ends count) ≡ false
  failed-first j within fails unseen =
      ap not (first-some ends count j within (first-is (ends j).saw (ends j).completion unseen fails))

  unseen-walked : ((i : ℕ) → i < count → (ends i).saw ≡ false) → (x y : Completion) → LateTells ends count memory count x y →
      saw_together y ends count ≡ false
  unseen-walked each x (Value vs) walked = saw-none ends count each
  unseen-walked each x (Error e) walked =
      failed-first walked.0 walked.1 (ap is_failure walked.2) (each walked.0 walked.1)
  unseen-walked each x Stopped walked =
      failed-first walked.0.0 walked.0.1 (ap is_failure walked.0.2) (each walked.0.0 walked.0.1)
  unseen-walked each x NoMemory walked = absurd walked

  fails-is : (c : Completion) → IsFailure c → is_failure c ≡ true
  fails-is (Error e) fails = refl
  fails-is Stopped fails = refl
  fails-is (Value values) fails = absurd fails
  fails-is NoMemory fails = absurd fails

  failed-walked : (j : ℕ) → j < count → IsFailure (ends j).completion → (ends j).saw ≡ false → (x y : Completion) →
      FirstTells ends count memory count x → LateTells ends count memory count x y → saw_together y ends count ≡ false
  failed-walked j within fails unseen x (Value vs) first walked =
      let values : FirstTells ends count memory count (Value vs) = subst (FirstTells ends count memory count) walked.0 first in
      absurd (subst IsFailure (values.0 j within (walked.1 j within)) fails)
  failed-walked j within fails unseen x (Error e) first walked =
      failed-first j within (fails-is (ends j).completion fails) unseen
  failed-walked j within fails unseen x Stopped first walked =
      failed-first j within (fails-is (ends j).completion fails) unseen
  failed-walked j within fails unseen x NoMemory first walked = absurd walked

  never-wants : all_ends ends count ≡ NoMemory → ⊥
  never-wants is = subst (LateTells ends count memory count (first_ends ends count)) is tells

  -- what the hand was told of requests above the node and below
  calm-walked : (above below : Bool) → (below ≡ false → (i : ℕ) → i < count → (ends i).saw ≡ false) →
      (below ≡ true → above ≡ false → FailedFirst ends count) → above ≡ false → all_saw ends count ≡ false
  calm-walked above below each failed none =
      either below
      (λ t.
      let first = failed t none in
      failed-walked first.0 first.1 first.2 first.3 (first_ends ends count) (all_ends ends count) told tells)
      (λ f. unseen-walked (each f) (first_ends ends count) (all_ends ends count) tells)

pub alls-end : AllsMayEnd
alls-end = record { may = all-may; has_memory = never-wants; unseen = calm-walked }

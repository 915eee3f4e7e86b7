-- BucketLaws: which due turns stand in a bucket, and which bucket a new turn empties.
use Rattle.std.proofs.Common.{◌≡◌, ◌≢◌, ℕ, ◌+◌, ◌*◌, ◌/◌, ◌%◌, ◌<◌, ◌≤◌, eqb, leb, sym, ap, ◌∙◌, inl, inr, arith}
use Rattle.std.proofs.lemmas.Bool.{cases_lt, cases_eq, le-leb, lt-leb, eq-eqb, ne_eqb, cond-true, cond-false}
use Rattle.timer_wheel.specs.declared.buckets.TheConstants.{LAP, LONG_LAP, READY}
use Rattle.timer_wheel.specs.declared.limits.TheConstants.{MOST_TURNS}
use Rattle.timer_wheel.specs.Buckets.{bucket_of}

-- why a due turn stands in a bucket
pub data StandsIn (turn due bucket : ℕ) : Type 0 where
  ready : due ≤ turn → bucket ≡ READY → StandsIn turn due bucket
  first : turn < due → due / LAP ≡ turn / LAP → bucket ≡ due % LAP → StandsIn turn due bucket
  second : turn < due → due / LAP ≢ turn / LAP → due / LONG_LAP ≡ turn / LONG_LAP
      → bucket ≡ LAP + due / LAP % LAP → StandsIn turn due bucket
  third : turn < due → due / LONG_LAP ≢ turn / LONG_LAP
      → bucket ≡ 2 * LAP + due / LONG_LAP % LAP → StandsIn turn due bucket

-- each due turn stands in its bucket for one of these reasons
pub stands : (turn due : ℕ) → StandsIn turn due (bucket_of turn due)
unfolding bucket_of
stands turn due = elim (cases_lt turn due) [
  | inr come ↦ ready come (cond-true (leb due turn) _ _ (le-leb due turn come))
  | inl later ↦
      let not_come = cond-false (leb due turn) _ _ (lt-leb due turn later) in
      elim (cases_eq (due / LAP) (turn / LAP)) [
        | inl same ↦
            first later same (not_come ∙ cond-true (eqb (due / LAP) (turn / LAP)) _ _ (eq-eqb _ _ same))
        | inr other ↦
            let not_near = cond-false (eqb (due / LAP) (turn / LAP)) _ _ (ne_eqb _ _ other) in
            elim (cases_eq (due / LONG_LAP) (turn / LONG_LAP)) [
              | inl same ↦
                  second later other same
                  (not_come ∙ not_near ∙ cond-true (eqb (due / LONG_LAP) (turn / LONG_LAP)) _ _ (eq-eqb _ _ same))
              | inr far ↦
                  third later far
                  (not_come ∙ not_near ∙ cond-false (eqb (due / LONG_LAP) (turn / LONG_LAP)) _ _ (ne_eqb _ _ far))
            ]
      ]
]

-- in the bucket of those that are due stand exactly those whose turn has come
ready-go : (turn due bucket : ℕ) → StandsIn turn due bucket → bucket ≡ READY → due ≤ turn
ready-go turn due bucket (ready come is) at = come
ready-go turn due bucket (first later same is) at = absurd (omega arith)
ready-go turn due bucket (second later other same is) at = absurd (omega arith)
ready-go turn due bucket (third later far is) at = absurd (omega arith)

pub bucket_of-ready : (turn due : ℕ) → bucket_of turn due ≡ READY → due ≤ turn
bucket_of-ready turn due = ready-go turn due (bucket_of turn due) (stands turn due)

come-go : (turn due bucket : ℕ) → StandsIn turn due bucket → bucket ≢ READY → turn < due
come-go turn due bucket (ready come is) apart = absurd (apart is)
come-go turn due bucket (first later same is) apart = later
come-go turn due bucket (second later other same is) apart = later
come-go turn due bucket (third later far is) apart = later

pub bucket_of-not_ready : (turn due : ℕ) → bucket_of turn due ≢ READY → turn < due
bucket_of-not_ready turn due = come-go turn due (bucket_of turn due) (stands turn due)

-- at a turn that begins no due turn stands in the bucket that the turn empties
leave-go : (turn due to from : ℕ) → due ≤ turn + 1 + MOST_TURNS → StandsIn (turn + 1) due to
    → StandsIn turn (turn + 1) from → to ≢ from
leave-go turn due to from near at (ready come is) = absurd (omega arith)
leave-go turn due to from near (ready past at) (first next same is) = λ e. absurd (omega arith)
leave-go turn due to from near (ready past at) (second next other same is) = λ e. absurd (omega arith)
leave-go turn due to from near (ready past at) (third next far is) = λ e. absurd (omega arith)
leave-go turn due to from near (first later lap at) (first next same is) = λ e. absurd (omega arith)
leave-go turn due to from near (first later lap at) (second next other same is) = λ e. absurd (omega arith)
leave-go turn due to from near (first later lap at) (third next far is) = λ e. absurd (omega arith)
leave-go turn due to from near (second later apart lap at) (first next same is) = λ e. absurd (omega arith)
leave-go turn due to from near (second later apart lap at) (second next other same is) = λ e. absurd (omega arith)
leave-go turn due to from near (second later apart lap at) (third next far is) = λ e. absurd (omega arith)
leave-go turn due to from near (third later apart at) (first next same is) = λ e. absurd (omega arith)
leave-go turn due to from near (third later apart at) (second next other same is) = λ e. absurd (omega arith)
leave-go turn due to from near (third later apart at) (third next far is) = λ e. absurd (omega arith)

pub bucket_of-leaves : (turn due : ℕ) → due ≤ turn + 1 + MOST_TURNS
    → bucket_of (turn + 1) due ≢ bucket_of turn (turn + 1)
bucket_of-leaves turn due near =
    leave-go turn due (bucket_of (turn + 1) due) (bucket_of turn (turn + 1)) near (stands (turn + 1) due) (stands turn (turn + 1))

-- a turn that begins a lap empties the bucket of that lap
second-from : (turn due from : ℕ) → turn + 1 < due → due / LAP ≢ turn / LAP → due / LONG_LAP ≡ turn / LONG_LAP
    → due / LAP ≡ (turn + 1) / LAP → StandsIn turn (turn + 1) from → from ≡ LAP + due / LAP % LAP
second-from turn due from later apart long lap (ready come is) = absurd (omega arith)
second-from turn due from later apart long lap (first next same is) = absurd (omega arith)
second-from turn due from later apart long lap (second next other same is) = is ∙ ap (λ n. LAP + n % LAP) (sym lap)
second-from turn due from later apart long lap (third next far is) = absurd (omega arith)

third-from : (turn due from : ℕ) → turn + 1 < due → due / LONG_LAP ≢ turn / LONG_LAP
    → due / LONG_LAP ≡ (turn + 1) / LONG_LAP → StandsIn turn (turn + 1) from → from ≡ 2 * LAP + due / LONG_LAP % LAP
third-from turn due from later apart long (ready come is) = absurd (omega arith)
third-from turn due from later apart long (first next same is) = absurd (omega arith)
third-from turn due from later apart long (second next other same is) = absurd (apart (long ∙ same))
third-from turn due from later apart long (third next far is) = is ∙ ap (λ n. 2 * LAP + n % LAP) (sym long)

-- a due turn that lies behind the turn that begins, and stands in another bucket than it empties, stays
stay-go : (turn due was to from : ℕ) → turn + 1 < due → was ≢ from → StandsIn turn due was → StandsIn (turn + 1) due to
    → StandsIn turn (turn + 1) from → to ≡ was
stay-go turn due was to from later apart (ready past at) new next = absurd (omega arith)
stay-go turn due was to from later apart old (ready past at) next = absurd (omega arith)
stay-go turn due was to from later apart (first before lap was_is) (first after same at) next = at ∙ sym was_is
stay-go turn due was to from later apart (first before lap was_is) (second after other same at) next = absurd (omega arith)
stay-go turn due was to from later apart (first before lap was_is) (third after far at) next = absurd (omega arith)
stay-go turn due was to from later apart (second before short long was_is) (first after same at) next =
    absurd (apart (was_is ∙ sym (second-from turn due from later short long same next)))
stay-go turn due was to from later apart (second before short long was_is) (second after other same at) next = at ∙ sym was_is
stay-go turn due was to from later apart (second before short long was_is) (third after far at) next = absurd (omega arith)
stay-go turn due was to from later apart (third before long was_is) (first after same at) next =
    absurd (apart (was_is ∙ sym (third-from turn due from later long (omega arith) next)))
stay-go turn due was to from later apart (third before long was_is) (second after other same at) next =
    absurd (apart (was_is ∙ sym (third-from turn due from later long same next)))
stay-go turn due was to from later apart (third before long was_is) (third after far at) next = at ∙ sym was_is

past-go : (turn due was to : ℕ) → due ≤ turn → StandsIn turn due was → StandsIn (turn + 1) due to → to ≡ was
past-go turn due was to past (ready come was_is) (ready come' at) = at ∙ sym was_is
past-go turn due was to past (first later lap was_is) new = absurd (omega arith)
past-go turn due was to past (second later short long was_is) new = absurd (omega arith)
past-go turn due was to past (third later long was_is) new = absurd (omega arith)
past-go turn due was to past (ready come was_is) (first later lap at) = absurd (omega arith)
past-go turn due was to past (ready come was_is) (second later short long at) = absurd (omega arith)
past-go turn due was to past (ready come was_is) (third later long at) = absurd (omega arith)

pub bucket_of-stays : (turn due : ℕ) → bucket_of turn due ≢ bucket_of turn (turn + 1)
    → bucket_of (turn + 1) due ≡ bucket_of turn due
bucket_of-stays turn due apart = elim (cases_lt (turn + 1) due) [
  | inl later ↦
      stay-go turn due (bucket_of turn due) (bucket_of (turn + 1) due) (bucket_of turn (turn + 1)) later apart
      (stands turn due) (stands (turn + 1) due) (stands turn (turn + 1))
  | inr come ↦ elim (cases_eq due (turn + 1)) [
    | inl here ↦ absurd (apart (ap (bucket_of turn) here))
    | inr past ↦
        past-go turn due (bucket_of turn due) (bucket_of (turn + 1) due) (omega arith) (stands turn due) (stands (turn + 1) due)
  ]
]

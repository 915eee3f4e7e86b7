-- SettlingLaws: the places stand where they do at the present turn, whatever a call changes.
use Rattle.std.proofs.Common.{◌≡◌, ◌≢◌, ℕ, zero, suc, ◌∷◌, ◌+◌, ◌<◌, ◌≤◌, ◌==◌, Bool, false, cond, List, Option, Some, None, IsSome, is_some, count_by, length, set, replicate, refl, sym, ap, ◌∙◌, inl, inr, arith}
use Rattle.std.specs.Option.{option_map}
use Rattle.std.proofs.lemmas.Bool.{cases_lt, cases_eq, eq-eqb, ne_eqb}
use Rattle.std.proofs.lemmas.List.{get_or-set_same, get_or-set_other, get_or_past, get_or-map, get_or-replicate, length-set, length-map, length-replicate, set-set, map-set, same_lists, get_or_default}
use Rattle.std.proofs.lemmas.List.Sums.{sum_by-set}
use Rattle.std.proofs.lemmas.Option.{same_Some, none-some}
use Rattle.timer_wheel.specs.declared.buckets.TheConstants.{READY}
use Rattle.timer_wheel.specs.declared.limits.TheConstants.{MOST_PLACES, MOST_TURNS}
use Rattle.timer_wheel.specs.Buckets.{bucket_of}
use Rattle.timer_wheel.specs.Links.{home_of}
use Rattle.timer_wheel.specs.Pairs.{Pairs, count_of, removed, IsDue, NoneIsDue}
use Rattle.timer_wheel.specs.Settling.{due_of, homes_at, IsSettledBut, NoneBelongs, IsWheel}
use Rattle.timer_wheel.proofs.BucketLaws.{bucket_of-stays, bucket_of-leaves, bucket_of-ready, bucket_of-not_ready}
use Rattle.timer_wheel.proofs.RingLaws.{place-from_home}

-- whether this is the bucket
abbrev pub is_home : ℕ → Option ℕ → Bool
is_home bucket None = false
is_home bucket (Some home) = home == bucket

-- the bucket of a place at a turn
pub homes_at-read : (turn : ℕ) (due_turns : List (Option ℕ)) (place : ℕ)
    → home_of (homes_at turn due_turns) place ≡ option_map (bucket_of turn) (due_of due_turns place)
homes_at-read turn due_turns place = elim (cases_lt place (length due_turns)) [
  | inl within ↦ get_or-map (option_map (bucket_of turn)) due_turns place None None within
  | inr past ↦
      get_or_past (homes_at turn due_turns) place None (omega (arith, length-map due_turns (option_map (bucket_of turn))))
      ∙ ap (option_map (bucket_of turn)) (sym (get_or_past due_turns place None past))
]

-- an option that was mapped to a value
pub mapped-from : (f : ℕ → ℕ) (o home : Option ℕ) (bucket : ℕ) → home ≡ option_map f o → home ≡ Some bucket
    → (due : ℕ) × (o ≡ Some due) × (f due ≡ bucket)
mapped-from f None home bucket is some = absurd (none-some bucket (sym is ∙ some))
mapped-from f (Some due) home bucket is some = (due, refl, same_Some (f due) bucket (sym is ∙ some))

-- so it is a value
is_some-mapped : (f : ℕ → ℕ) (o home : Option ℕ) (bucket : ℕ) → home ≡ option_map f o → home ≡ Some bucket → IsSome o
is_some-mapped f None home bucket is some = absurd (none-some bucket (sym is ∙ some))
is_some-mapped f (Some due) home bucket is some = refl

-- the bucket of a place, if there is one, that the turn that begins doesn't empty
mapped-stays : (turn : ℕ) (o home : Option ℕ) → home ≡ option_map (bucket_of turn) o → home ≢ Some (bucket_of turn (turn + 1))
    → home ≡ option_map (bucket_of (turn + 1)) o
mapped-stays turn None home is apart = is
mapped-stays turn (Some due) home is apart = is ∙ ap Some (sym (bucket_of-stays turn due (λ e. apart (is ∙ ap Some e))))

-- when a turn begins, all stand where they do, but for those in the bucket that it empties
pub IsSettledBut-begins : (turn : ℕ) (due_turns homes : List (Option ℕ)) → homes ≡ homes_at turn due_turns
    → IsSettledBut (bucket_of turn (turn + 1)) (turn + 1) due_turns homes
IsSettledBut-begins turn due_turns homes settled =
    let read : (place : ℕ) → home_of homes place ≡ option_map (bucket_of turn) (due_of due_turns place) =
    λ place. ap (λ h. home_of h place) settled ∙ homes_at-read turn due_turns place in
    record {
      size = ap length settled ∙ length-map due_turns (option_map (bucket_of turn));
      others = λ place apart. mapped-stays turn (due_of due_turns place) (home_of homes place) (read place) apart;
      there = λ place at.
          is_some-mapped (bucket_of turn) (due_of due_turns place) (home_of homes place) (bucket_of turn (turn + 1)) (read place) at;
    }

-- and none stands in that one
pub NoneBelongs-begins : (turn : ℕ) (due_turns homes : List (Option ℕ)) → IsWheel turn due_turns homes
    → NoneBelongs (bucket_of turn (turn + 1)) (turn + 1) due_turns
NoneBelongs-begins turn due_turns homes wheel place due is = bucket_of-leaves turn due (omega (arith, wheel.near place due is))

-- fewer places stand in a bucket when one has moved on
pub count_by-moved : (bucket : ℕ) (homes : List (Option ℕ)) (place to : ℕ) → home_of homes place ≡ Some bucket → to ≢ bucket
    → count_by (is_home bucket) (set (set homes place None) place (Some to)) < count_by (is_home bucket) homes
count_by-moved bucket homes place to at apart =
    let one : Option ℕ → ℕ = λ home. cond (is_home bucket home) 1 0 in
    let inside = place-from_home homes place bucket at in
    let was : one (home_of homes place) ≡ 1 = ap one at ∙ ap (λ t. cond t 1 0) (eq-eqb bucket bucket refl) in
    let is : one (Some to) ≡ 0 = ap (λ t. cond t 1 0) (ne_eqb to bucket apart) in
    let once : set (set homes place None) place (Some to) ≡ set homes place (Some to) = set-set homes place None (Some to) in
    omega (arith, ap (count_by (is_home bucket)) once, sum_by-set one homes place (Some to) None inside, was, is)

-- where no place is left in the bucket, all stand where they do
pub homes_at-settled : (bucket turn : ℕ) (due_turns homes : List (Option ℕ)) → IsSettledBut bucket turn due_turns homes
    → ((place : ℕ) → home_of homes place ≢ Some bucket) → homes ≡ homes_at turn due_turns
homes_at-settled bucket turn due_turns homes but none =
    let size = length-map due_turns (option_map (bucket_of turn)) in
    same_lists homes (homes_at turn due_turns) (but.size ∙ sym size)
    (λ k d within.
    get_or_default homes k d None within ∙ but.others k (none k) ∙ sym (homes_at-read turn due_turns k)
    ∙ get_or_default (homes_at turn due_turns) k None d (omega (arith, size, but.size)))

module _ (turn : ℕ) (due_turns homes : List (Option ℕ)) (wheel : IsWheel turn due_turns homes) where
  -- the bucket of a place
  pub home-read : (place : ℕ) → home_of homes place ≡ option_map (bucket_of turn) (due_of due_turns place)
  home-read place = ap (λ h. home_of h place) wheel.settled ∙ homes_at-read turn due_turns place

  -- a place in the bucket of those that are due is due
  pub IsDue-ready : (place : ℕ) → home_of homes place ≡ Some READY → IsDue (record { turn = turn; due_turns = due_turns }) place
  IsDue-ready place ready =
      let from = mapped-from (bucket_of turn) (due_of due_turns place) (home_of homes place) READY (home-read place) ready in
      record { due = from.0; there = from.1; come = bucket_of-ready turn from.0 from.2 }

  -- where it is empty, none is due
  pub NoneIsDue-ready : ((place : ℕ) → home_of homes place ≢ Some READY) → NoneIsDue (record { turn = turn; due_turns = due_turns })
  NoneIsDue-ready none place due is =
      bucket_of-not_ready turn due
      (λ e. none place (home-read place ∙ ap (option_map (bucket_of turn)) is ∙ ap Some e))

  -- a pair is added
  pub IsWheel-added : (place turns : ℕ) → place < length due_turns → turns ≤ MOST_TURNS
      → IsWheel turn (set due_turns place (Some (turn + turns))) (set homes place (Some (bucket_of turn (turn + turns))))
  IsWheel-added place turns inside short = record {
    few = omega (arith, wheel.few, length-set {A = Option ℕ} due_turns place (Some (turn + turns)));
    not_over = wheel.not_over;
    near = λ k due is. elim (cases_eq k place) [
      | inl here ↦
          let there : due_of (set due_turns place (Some (turn + turns))) k ≡ Some (turn + turns) =
          ap (due_of (set due_turns place (Some (turn + turns)))) here
          ∙ get_or-set_same due_turns place (Some (turn + turns)) None inside in
          omega (arith, same_Some (turn + turns) due (sym there ∙ is))
      | inr other ↦ wheel.near k due (sym (get_or-set_other due_turns place k (Some (turn + turns)) None other) ∙ is)
    ];
    settled =
        ap (λ h. set h place (Some (bucket_of turn (turn + turns)))) wheel.settled
        ∙ sym (map-set (option_map (bucket_of turn)) due_turns place (Some (turn + turns)));
  }

  -- a pair is removed
  pub IsWheel-removed : (place : ℕ) → IsWheel turn (set due_turns place None) (set homes place None)
  IsWheel-removed place = record {
    few = omega (arith, wheel.few, length-set {A = Option ℕ} due_turns place None);
    not_over = wheel.not_over;
    near = λ k due is. elim (cases_eq k place) [
      | inl here ↦
          elim (cases_lt place (length due_turns)) [
            | inl inside ↦
                let gone = ap (due_of (set due_turns place None)) here ∙ get_or-set_same due_turns place None None inside in
                absurd (none-some due (sym gone ∙ is))
            | inr past ↦
                let gone : due_of (set due_turns place None) k ≡ None =
                ap (due_of (set due_turns place None)) here
                ∙ get_or_past (set due_turns place None) place None (omega (arith, length-set {A = Option ℕ} due_turns place None)) in
                absurd (none-some due (sym gone ∙ is))
          ]
      | inr other ↦ wheel.near k due (sym (get_or-set_other due_turns place k None None other) ∙ is)
    ];
    settled = ap (λ h. set h place None) wheel.settled ∙ sym (map-set (option_map (bucket_of turn)) due_turns place None);
  }

-- one pair is removed
pub count_of-removed : (pairs : Pairs) (place : ℕ) → IsDue pairs place → count_of (removed pairs place) + 1 ≡ count_of pairs
count_of-removed pairs place due =
    let one : Option ℕ → ℕ = λ o. cond (is_some o) 1 0 in
    let inside = place-from_home pairs.due_turns place due.due due.there in
    omega (arith, sum_by-set one pairs.due_turns place None None inside, ap one due.there)

-- a wheel without pairs
pub IsWheel-opened : (places : ℕ) (due_turns homes : List (Option ℕ)) → places ≤ MOST_PLACES
    → due_turns ≡ replicate places None → homes ≡ replicate places None → IsWheel 0 due_turns homes
IsWheel-opened places due_turns homes few none free = record {
  few = omega (arith, few, ap length none, length-replicate {A = Option ℕ} places None);
  not_over = omega arith;
  near = λ k due is. absurd (none-some due (sym (ap (λ xs. due_of xs k) none ∙ none-of k) ∙ is));
  settled = free ∙ sym (ap (homes_at 0) none ∙ map-none places);
}
  where
    none-of : (k : ℕ) → due_of (replicate places None) k ≡ None
    none-of k = elim (cases_lt k places) [
      | inl within ↦ get_or-replicate places k None None within
      | inr past ↦ get_or_past (replicate places None) k None (omega (arith, length-replicate {A = Option ℕ} places None))
    ]

    map-none : (n : ℕ) → homes_at 0 (replicate n None) ≡ replicate n None
    map-none zero = refl
    map-none (suc n) = ap (λ xs. None ∷ xs) (map-none n)

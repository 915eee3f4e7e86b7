-- WheelLaws: the wheel has a pair for each delay, whatever a call changes.
use Rattle.std.proofs.Common.{◌≡◌, ℕ, zero, suc, ◌∷◌, ◌+◌, ◌<◌, Bool, true, false, not, cond, List, Option, Some, None, IsSome, is_some, length, map, set, replicate, refl, sym, ap, ◌∙◌, inl, inr, arith}
use Rattle.std.specs.Bool.{OnTrue, OnFalse}
use Rattle.std.specs.Option.{option_map}
use Rattle.std.proofs.lemmas.Bool.{cases_lt, cond-false, OnTrue_at}
use Rattle.std.proofs.lemmas.List.{get_or-set_same, get_or_past, get_or-map, length-map, map-set, set-set, set-get_or}
use Rattle.std.proofs.lemmas.List.Sums.{sum_by-set}
use Rattle.std.proofs.lemmas.Option.{same_Some, none-some}
use Rattle.timer_wheel.specs.Pairs.{Pairs, due_turn, is_there, added, removed}
use Rattle.timer_wheel.specs.Pairs as pairs
use Rattle.timer_wheel.specs.declared.waiting.Waiting.{Waiting}
use Rattle.timer_wheel.specs.Delays.{DelayList, count_of, delay_at, turn_due, is_known, seen_parked, forgotten, IsDue, NoneIsDue}
use Rattle.timer_wheel.specs.Wheels.{IsOnWheel}

-- a place in the list that has a delay is one of the places
within-from : (waiting : List (Option Waiting)) (delays : DelayList) (place : ℕ) (one : Waiting) →
    delay_at delays place ≡ Some one → place < length delays.waiting
within-from waiting delays place one is = elim (cases_lt place (length delays.waiting)) [
  | inl within ↦ within
  | inr past ↦ absurd (none-some one (sym (get_or_past delays.waiting place None past) ∙ is))
]

-- an option that was mapped to a value
waits-from : (o : Option Waiting) (due : ℕ) → option_map turn_due o ≡ Some due →
    (one : Waiting) × (o ≡ Some one) × (turn_due one ≡ due)
waits-from None due is = absurd (none-some due is)
waits-from (Some one) due is = (one, refl, same_Some (turn_due one) due is)

none-from : (o : Option ℕ) → is_some o ≡ false → o ≡ None
none-from None none = refl
none-from (Some due) none = cc

-- to take out a pair that isn't there changes nothing
removed-none : (old : Pairs) (place : ℕ) → is_there old place ≡ false → removed old place ≡ old
removed-none old place none =
    ap (λ (l : List (Option ℕ)). record old { due_turns = l })
    (ap (set old.due_turns place) (sym (none-from (due_turn old place) none)) ∙ set-get_or old.due_turns place None)

-- whether there was a pair or none, there is none afterwards
pub removed-is : (old new : Pairs) (place : ℕ) (answer : Bool) → answer ≡ is_there old place →
    OnTrue answer (new ≡ removed old place) → OnFalse answer (new ≡ old) → new ≡ removed old place
removed-is old new place true is there absent = there
removed-is old new place false is there absent = absent ∙ sym (removed-none old place (sym is))

-- so one is added there
pub added-is : (old mid new : Pairs) (place turns : ℕ) (answer : Bool) → place < pairs.places old →
    mid ≡ removed old place → answer ≡ not (is_there mid place) → OnTrue answer (new ≡ added mid place turns) →
    new ≡ added old place turns
added-is old mid new place turns answer within gone is there =
    let none : is_there mid place ≡ false =
    ap (λ (p : Pairs). is_there p place) gone ∙ ap is_some (get_or-set_same old.due_turns place None None within) in
    OnTrue_at (is ∙ ap not none) there
    ∙ ap (λ (p : Pairs). added p place turns) gone
    ∙ ap (λ (l : List (Option ℕ)). record old { due_turns = l }) (set-set old.due_turns place None (Some (old.turn + turns)))

-- no pairs, and no delays
map-none : (n : ℕ) → map (option_map turn_due) (replicate n None) ≡ replicate n None
map-none zero = refl
map-none (suc n) = ap (λ (l : List (Option ℕ)). None ∷ l) (map-none n)

pub on-opened : (wheel : Pairs) (waiting : List (Option Waiting)) (n : ℕ) → wheel ≡ pairs.opened n → waiting ≡ replicate n None →
    IsOnWheel wheel waiting
on-opened wheel waiting n wheel_is none =
    ap (λ (p : Pairs). p.due_turns) wheel_is ∙ sym (map-none n) ∙ ap (map (option_map turn_due)) (sym none)

module _ (wheel : Pairs) (waiting : List (Option Waiting)) (on : IsOnWheel wheel waiting) where
  -- a pair is taken out with its delay
  pub on-removed : (new : Pairs) (place : ℕ) → new ≡ removed wheel place → IsOnWheel new (set waiting place None)
  on-removed new place is =
      ap (λ (p : Pairs). p.due_turns) is ∙ ap (λ (l : List (Option ℕ)). set l place None) on
      ∙ sym (map-set (option_map turn_due) waiting place None)

  -- and one is added with its delay
  pub on-added : (new : Pairs) (place turns generation since : ℕ) → new ≡ added wheel place turns → since ≡ new.turn →
      IsOnWheel new (set waiting place (Some (record { generation = generation; since = since; turns = turns })))
  on-added new place turns generation since is now =
      let turn : since ≡ wheel.turn = now ∙ ap (λ (p : Pairs). p.turn) is in
      ap (λ (p : Pairs). p.due_turns) is
      ∙ ap (λ (l : List (Option ℕ)). set l place (Some (wheel.turn + turns))) on
      ∙ ap (λ (t : ℕ). set (map (option_map turn_due) waiting) place (Some (t + turns))) (sym turn)
      ∙ sym (map-set (option_map turn_due) waiting place (Some (record { generation = generation; since = since; turns = turns })))

  -- as many places
  pub same-places : (place : ℕ) → place < length waiting → place < pairs.places wheel
  same-places place within = omega (arith, ap length on, length-map waiting (option_map turn_due))

  abbrev list : DelayList
  list = record { turn = wheel.turn; waiting = waiting }

  -- the due turn of a place is that of its delay
  turn-read : (place : ℕ) → due_turn wheel place ≡ option_map turn_due (delay_at list place)
  turn-read place =
      ap (λ (l : List (Option ℕ)). pairs.due_turn (record { turn = wheel.turn; due_turns = l }) place) on
      ∙ elim (cases_lt place (length waiting)) [
        | inl within ↦ get_or-map (option_map turn_due) waiting place None None within
        | inr past ↦
            get_or_past (map (option_map turn_due) waiting) place None (omega (arith, length-map waiting (option_map turn_due)))
            ∙ ap (option_map turn_due) (sym (get_or_past waiting place None past))
      ]

  -- where a pair is due, a delay is
  due-waits : (place : ℕ) (due : pairs.IsDue wheel place) →
      (one : Waiting) × (delay_at list place ≡ Some one) × (turn_due one ≡ due.due)
  due-waits place due = waits-from (delay_at list place) due.due (sym (turn-read place) ∙ due.there)

  pub waits-some : (place : ℕ) → pairs.IsDue wheel place → IsSome (delay_at list place)
  waits-some place due = ap is_some (due-waits place due).1

  pub is-due : (place : ℕ) (one : Waiting) → pairs.IsDue wheel place → delay_at list place ≡ Some one → IsDue list place one.generation
  is-due place one due there =
      let waits = due-waits place due in
      let same : waits.0 ≡ one = same_Some waits.0 one (sym waits.1 ∙ there) in
      record {
        waiting = one;
        there = there;
        generation_is = refl;
        come = omega (arith, ap turn_due same, waits.2, due.come);
      }

  -- where none is, none is
  pub none-due : pairs.NoneIsDue wheel → NoneIsDue list
  none-due none place one there = none place (turn_due one) (turn-read place ∙ ap (option_map turn_due) there)

  -- one delay fewer
  pub one-fewer : (place : ℕ) → pairs.IsDue wheel place → count_of (forgotten list place) + 1 ≡ count_of list
  one-fewer place due =
      let one : Option Waiting → ℕ = λ o. cond (is_some o) 1 0 in
      let waits = due-waits place due in
      omega (arith, sum_by-set one waiting place None None (within-from waiting list place waits.0 waits.1), ap one waits.1)

-- a delay that isn't known is first seen
pub seen-is : (delays : DelayList) (place generation turns since turn : ℕ) → is_known delays place generation ≡ false →
    turn ≡ delays.turn → since ≡ turn →
    (let seen : DelayList = record {
      turn = turn;
      waiting = set delays.waiting place (Some (record { generation = generation; since = since; turns = turns }));
    } in
    seen ≡ seen_parked delays place generation turns)
seen-is delays place generation turns since turn unknown same now =
    ap (λ (s : ℕ). let seen : DelayList = record {
      turn = turn;
      waiting = set delays.waiting place (Some (record { generation = generation; since = s; turns = turns }));
    } in seen) now
    ∙ ap (λ (t : ℕ). let seen : DelayList = record {
      turn = t;
      waiting = set delays.waiting place (Some (record { generation = generation; since = t; turns = turns }));
    } in seen) same
    ∙ sym (cond-false (is_known delays place generation) _ _ unknown)

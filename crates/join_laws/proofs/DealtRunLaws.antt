-- The same of parts to which records were dealt in turn.
use Rattle.std.proofs.Common.{◌≡◌, ℕ, zero, suc, ◌+◌, ◌*◌, ◌/◌, ◌%◌, ◌<◌, ◌≤◌, List, [], ◌∷◌, length, map, Option, Some, None, inl, inr, refl, sym, ap, ◌∙◌, subst, arith}
use Rattle.std.specs.Prelude.{All, slice_get}
use Rattle.std.specs.Borrow.{Bor}
use Rattle.std.specs.List.{AllZip}
use Rattle.std.specs.Option.{option_map}
use Rattle.std.proofs.lemmas.List.Elements.{All-cons, All-head, All-nil, All-tail}
use Rattle.std.proofs.lemmas.Nat.{div-add-mod', div-mul-add, mod-mul-add}
use Rattle.std.proofs.lemmas.Option.{slice_get-map, slice_get_cases, slice_get_past, slice_get_within}
use Rattle.exec_io.specs.Shelves.{Texts}
use Rattle.exec_value.specs.declared.outcome.Outcome.{Outcome}
use Rattle.outcome_lines.specs.Line.{outcome_words}
use Rattle.part_lines.specs.Outcomes.{IsWritable, outcomes_words}
use Rattle.part_lines.specs.Streams.{AreDealt}
use Rattle.plan_shape.specs.Blueprint.{Blueprint}
use Rattle.line_rules.specs.Lawful.{Lawful, Terms}
use Rattle.line_rules.specs.PlanTerms.{terms_of}
use Rattle.join_laws.specs.Joined.{MayBeCut}
use Rattle.join_laws.specs.Runs.{DealtRunsJoin, HoldRuns}
use Rattle.join_laws.proofs.DealtLaws.{Placed, dealt_parts_join, placed, there, zip_length}
use Rattle.join_laws.proofs.RunLaws.{lawful_each, part_words, parts_known, writes}

-- a list whose elements are found one by one
found_list : {A : Type 0} (P : ℕ → A → Type 0) (n : ℕ) → ((i : ℕ) → i < n → (x : A) × P i x)
    → (xs : List A) × (length xs ≡ n) × ((i : ℕ) (x : A) → slice_get xs i ≡ Some x → P i x)
found_list P zero find = ([], refl, λ i x is. cc)
found_list {A = A} P (suc n) find =
    let first = find 0 (omega arith) in
    let rest = found_list (λ i x. P (suc i) x) n (λ i below. find (suc i) (omega (arith, below))) in
    (first.0 ∷ rest.0, ap (λ k. suc k) rest.1, at first.0 rest.0 first.1 rest.2)
  where
    at : (first : A) (rest : List A) → P 0 first → ((i : ℕ) (x : A) → slice_get rest i ≡ Some x → P (suc i) x)
        → (i : ℕ) (x : A) → slice_get (first ∷ rest) i ≡ Some x → P i x
    at first rest here later zero x is = let same : first ≡ x = cc in subst (P 0) same here
    at first rest here later (suc i) x is = later i x is

-- lists that get the same are the same
pub same_list : {A : Type 0} (xs ys : List A) → ((i : ℕ) → slice_get xs i ≡ slice_get ys i) → xs ≡ ys
same_list [] [] same = refl
same_list [] (y ∷ ys) same = let e = same 0 in cc
same_list (x ∷ xs) [] same = let e = same 0 in cc
same_list (x ∷ xs) (y ∷ ys) same =
    let first = same 0 in
    let rest : xs ≡ ys = same_list xs ys (λ i. same (suc i)) in
    cc

all_from : {A : Type 0} (P : A → Type 0) (xs : List A) → ((i : ℕ) (x : A) → slice_get xs i ≡ Some x → P x) → All P xs
all_from P [] each = All-nil P
all_from P (x ∷ xs) each = All-cons P x xs (each 0 x refl) (all_from P xs (λ i y is. each (suc i) y is))

all_at : {A : Type 0} (P : A → Type 0) (xs : List A) → All P xs → (i : ℕ) (x : A) → slice_get xs i ≡ Some x → P x
all_at P [] all i x is = cc
all_at P (y ∷ xs) all zero x is = let same : y ≡ x = cc in subst P same (All-head P y xs all)
all_at P (y ∷ xs) all (suc i) x is = all_at P xs (All-tail P y xs all) i x is

-- items are dealt to parts in one way
dealt_once : {A : Type 0} (parts : List (List A)) (xs ys : List A) → 0 < length parts → AreDealt parts xs → AreDealt parts ys → xs ≡ ys
dealt_once parts xs ys some first second = same_list xs ys (λ i.
    let place : i / length parts * length parts + i % length parts ≡ i = div-add-mod' i (length parts) in
    let part = there parts (i % length parts) (omega (arith, some)) in
    sym (first.each (i % length parts) (i / length parts) part.0 part.1 ∙ ap (slice_get xs) place)
    ∙ (second.each (i % length parts) (i / length parts) part.0 part.1 ∙ ap (slice_get ys) place))

map_many : {A B : Type 0} (f : A → B) (xs : List A) → length (map f xs) ≡ length xs
map_many f [] = refl
map_many f (x ∷ xs) = ap (λ n. suc n) (map_many f xs)

-- what dealt outcomes say was dealt
words_dealt : (outcomes : List (List Outcome)) (all : List Outcome) → AreDealt outcomes all → AreDealt (part_words outcomes) (outcomes_words all)
words_dealt outcomes all dealt = record {
  each = λ at round part is.
      let got : option_map outcomes_words (slice_get outcomes at) ≡ Some part = sym (slice_get-map outcomes_words outcomes at) ∙ is in
      of_part at round part (slice_get outcomes at) refl got;
}
  where
    of_part : (at round : ℕ) (part : List (List ℕ)) (said : Option (List Outcome)) → slice_get outcomes at ≡ said → option_map outcomes_words said ≡ Some part
        → slice_get part round ≡ slice_get (outcomes_words all) (round * length (map outcomes_words outcomes) + at)
    of_part at round part None is got = cc
    of_part at round part (Some said) is got =
        let same : outcomes_words said ≡ part = cc in
        ap (λ (l : List (List ℕ)). slice_get l round) (sym same)
        ∙ (slice_get-map outcome_words said round
        ∙ (ap (option_map outcome_words) (dealt.each at round said is)
        ∙ (sym (slice_get-map outcome_words all (round * length outcomes + at))
        ∙ ap (λ n. slice_get (outcomes_words all) (round * n + at)) (sym (map_many outcomes_words outcomes)))))

module _ (WantsMemory : Blueprint → Type 0) (plan : Blueprint) (window : ℕ) (cut : MayBeCut plan) where
  abbrev terms : Terms
  terms = terms_of WantsMemory plan window

  module _ (records : List (List (List ℕ))) (outcomes : List (List Outcome)) (every : List (List ℕ))
      (some : 0 < length records) (zip : AllZip (Lawful terms) records outcomes) (dealt : AreDealt records every) where
    -- the outcome of the i-th record
    abbrev IsOutcome : ℕ → Outcome → Type 0
    IsOutcome i outcome =
        (said : List Outcome) × (slice_get outcomes (i % length records) ≡ Some said) × (slice_get said (i / length records) ≡ Some outcome)

    outcome_of : (i : ℕ) → i < length every → (outcome : Outcome) × IsOutcome i outcome
    outcome_of i within =
        let at = placed WantsMemory plan window cut records outcomes every some zip dealt i in
        let line = there every i within in
        let below : i / length records < length at.lines = slice_get_within at.lines (i / length records) line.0 (at.line_at ∙ line.1) in
        let outcome = there at.said (i / length records) (omega (arith, below, at.lawful.as_many)) in
        (outcome.0, (at.said, at.said_is, outcome.1))

    -- outcomes that stand as they were found were dealt
    module _ (all : List Outcome) (many : length all ≡ length every) (each : (i : ℕ) (outcome : Outcome) → slice_get all i ≡ Some outcome → IsOutcome i outcome) where
      got_there : (at round : ℕ) (part : List Outcome) (outcome : Outcome) → at < length records → slice_get outcomes at ≡ Some part
          → slice_get all (round * length records + at) ≡ Some outcome → slice_get part round ≡ Some outcome
      got_there at round part outcome below is got =
          let one = each (round * length records + at) outcome got in
          let in_round : (round * length records + at) / length records ≡ round = div-mul-add round (length records) at below in
          let in_part : (round * length records + at) % length records ≡ at = mod-mul-add round (length records) at below in
          let there_is : slice_get outcomes at ≡ Some one.0 = ap (slice_get outcomes) (sym in_part) ∙ one.1 in
          let same : one.0 ≡ part = cc in
          let here : slice_get one.0 round ≡ Some outcome = ap (slice_get one.0) (sym in_round) ∙ one.2 in
          ap (λ (l : List Outcome). slice_get l round) (sym same) ∙ here

      -- behind the last none stands
      none_behind : (at round : ℕ) (part : List Outcome) → at < length records → slice_get outcomes at ≡ Some part
          → length all ≤ round * length records + at → length part ≤ round
      none_behind at round part below is past =
          let i : ℕ = round * length records + at in
          let placed_at = placed WantsMemory plan window cut records outcomes every some zip dealt (round * length records + at) in
          let in_round : (round * length records + at) / length records ≡ round = div-mul-add round (length records) at below in
          let in_part : (round * length records + at) % length records ≡ at = mod-mul-add round (length records) at below in
          let there_is : slice_get outcomes at ≡ Some placed_at.said = ap (slice_get outcomes) (sym in_part) ∙ placed_at.said_is in
          let same : placed_at.said ≡ part = cc in
          let nothing : slice_get placed_at.lines round ≡ None =
          ap (slice_get placed_at.lines) (sym in_round) ∙ (placed_at.line_at ∙ slice_get_past every (round * length records + at) (omega (arith, past, many))) in
          let short : length placed_at.lines ≤ round = ends_before placed_at.lines round nothing in
          omega (arith, short, placed_at.lawful.as_many, ap length same)
        where
          ends_before : {A : Type 0} (xs : List A) (i : ℕ) → slice_get xs i ≡ None → length xs ≤ i
          ends_before xs i none = elim ((slice_get_cases xs i).1) [
            | inl found ↦ let e = found.2 in cc
            | inr past ↦ past.0
          ]

      all_dealt : AreDealt outcomes all
      all_dealt = record {
        each = λ at round part is.
            let same : length records ≡ length outcomes = zip_length (Lawful terms) records outcomes zip in
            let below : at < length records = omega (arith, same, slice_get_within outcomes at part is) in
            let here : slice_get part round ≡ slice_get all (round * length records + at) = elim ((slice_get_cases all (round * length records + at)).1) [
              | inl found ↦ got_there at round part found.0 below is found.2 ∙ sym found.2
              | inr past ↦ slice_get_past part round (none_behind at round part below is past.0) ∙ sym past.1
            ] in
            here ∙ ap (λ n. slice_get all (round * n + at)) same;
      }

    pub dealt_outcomes : (all : List Outcome) × AreDealt outcomes all × ((i : ℕ) (outcome : Outcome) → slice_get all i ≡ Some outcome → IsOutcome i outcome)
    dealt_outcomes =
        let found = found_list IsOutcome (length every) outcome_of in
        (found.0, all_dealt found.0 found.1 found.2, found.2)

  -- all outcomes are writable
  part_writable : (texts : Texts) (names : List (Bor (List ℕ))) (records : List (List (List ℕ))) (outcomes : List (List Outcome)) → HoldRuns terms texts names records outcomes
      → (at : ℕ) (said : List Outcome) → slice_get outcomes at ≡ Some said → All IsWritable said
  part_writable texts [] [] [] runs at said is = cc
  part_writable texts [] [] (first ∷ outcomes) runs at said is = absurd runs
  part_writable texts [] (lines ∷ records) outcomes runs at said is = absurd runs
  part_writable texts (name ∷ names) [] outcomes runs at said is = absurd runs
  part_writable texts (name ∷ names) (lines ∷ records) [] runs at said is = absurd runs
  part_writable texts (name ∷ names) (lines ∷ records) (first ∷ outcomes) runs zero said is =
      let same : first ≡ said = cc in subst (All IsWritable) same runs.0.writable
  part_writable texts (name ∷ names) (lines ∷ records) (first ∷ outcomes) runs (suc at) said is =
      part_writable texts names records outcomes runs.1 at said is

  names_many : (texts : Texts) (names : List (Bor (List ℕ))) (records : List (List (List ℕ))) (outcomes : List (List Outcome)) → HoldRuns terms texts names records outcomes
      → length names ≡ length records
  names_many texts [] [] outcomes runs = refl
  names_many texts [] (lines ∷ records) outcomes runs = absurd runs
  names_many texts (name ∷ names) [] outcomes runs = absurd runs
  names_many texts (name ∷ names) (lines ∷ records) [] runs = absurd runs
  names_many texts (name ∷ names) (lines ∷ records) (first ∷ outcomes) runs = ap (λ n. suc n) (names_many texts names records outcomes runs.1)

  pub dealt_runs_join : DealtRunsJoin (terms_of WantsMemory plan window)
  dealt_runs_join texts names records outcomes every old new status named runs dealt joins =
      let zip = lawful_each terms texts names records outcomes runs in
      let some : 0 < length records = omega (arith, named, names_many texts names records outcomes runs) in
      let found = dealt_outcomes records outcomes every some zip dealt in
      let all : List Outcome = found.0 in
      let lawful = dealt_parts_join WantsMemory plan window cut records outcomes every found.0 some zip dealt found.1 in
      let writable : All IsWritable found.0 = all_from IsWritable found.0 (λ i outcome is.
      let one = found.2 i outcome is in
      all_at IsWritable one.0 (part_writable texts names records outcomes runs (i % length records) one.0 one.1) (i / length records) outcome one.2) in
      let known = parts_known terms texts names records outcomes joins.parts runs joins.whole in
      let lines_dealt : AreDealt (part_words outcomes) joins.lines = subst (λ (p : List (List (List ℕ))). AreDealt p joins.lines) known joins.joined in
      let same : joins.lines ≡ outcomes_words found.0 =
      dealt_once (part_words outcomes) joins.lines (outcomes_words found.0) (parts_some outcomes (omega (arith, some, zip_length (Lawful terms) records outcomes zip)))
      lines_dealt (words_dealt outcomes found.0 found.1) in
      (found.0, found.1, writes terms old new status every found.0 joins.lines lawful writable same joins.told joins.status_is)
    where
      parts_some : (outcomes : List (List Outcome)) → 0 < length outcomes → 0 < length (part_words outcomes)
      parts_some outcomes some = omega (arith, map_many outcomes_words outcomes, some)

-- How lines of parts to which records were dealt in turn are lawful together.
use Rattle.std.proofs.Common.{◌≡◌, ℕ, zero, suc, ◌+◌, ◌*◌, ◌/◌, ◌%◌, ◌<◌, ◌≤◌, List, [], ◌∷◌, length, Some, inl, inr, refl, sym, ap, ◌∙◌, arith}
use Rattle.std.specs.Prelude.{slice_get}
use Rattle.std.specs.List.{AllZip}
use Rattle.std.proofs.lemmas.Bool.{cases_lt}
use Rattle.std.proofs.lemmas.Nat.{div-add-mod'}
use Rattle.std.proofs.lemmas.Option.{slice_get_cases, slice_get_within}
use Rattle.exec_value.specs.declared.outcome.Outcome.{Outcome}
use Rattle.line_rules.specs.Lawful.{Lawful, Terms}
use Rattle.line_rules.specs.PlanTerms.{terms_of}
use Rattle.plan_shape.specs.Blueprint.{Blueprint}
use Rattle.part_lines.specs.Streams.{AreDealt}
use Rattle.join_laws.specs.Joined.{DealtPartsJoin, MayBeCut}
use Rattle.join_laws.proofs.JoinLaws.{moved}

-- an element that is there
pub there : {A : Type 0} (xs : List A) (i : ℕ) → i < length xs → (x : A) × (slice_get xs i ≡ Some x)
there xs i within = elim ((slice_get_cases xs i).1) [
  | inl found ↦ (found.0, found.2)
  | inr past ↦ absurd (omega (arith, within, past.0))
]

-- a list none of whose places lies behind another's end is no longer
no_longer : {A B : Type 0} (xs : List A) (ys : List B) → ((i : ℕ) → i < length xs → i < length ys) → length xs ≤ length ys
no_longer xs ys within = elim (cases_lt (length ys) (length xs)) [
  | inl below ↦ absurd (omega (arith, within (length ys) below))
  | inr above ↦ above
]

-- what stands of two lists at a place
pub zip_length : {A B : Type 0} (R : A → B → Type 0) (xs : List A) (ys : List B) → AllZip R xs ys → length xs ≡ length ys
zip_length R [] [] zip = refl
zip_length R [] (y ∷ ys) zip = absurd zip
zip_length R (x ∷ xs) [] zip = absurd zip
zip_length R (x ∷ xs) (y ∷ ys) zip = ap suc (zip_length R xs ys zip.1)

zip_there : {A B : Type 0} (R : A → B → Type 0) (xs : List A) (ys : List B) → AllZip R xs ys → (i : ℕ) → i < length xs
    → (x : A) × (y : B) × (slice_get xs i ≡ Some x) × (slice_get ys i ≡ Some y) × R x y
zip_there R [] ys zip i within = absurd (omega (arith, within))
zip_there R (x ∷ xs) [] zip i within = absurd zip
zip_there R (x ∷ xs) (y ∷ ys) zip zero within = (x, y, refl, refl, zip.0)
zip_there R (x ∷ xs) (y ∷ ys) zip (suc i) within = zip_there R xs ys zip.1 i (omega (arith, within))

module _ (WantsMemory : Blueprint → Type 0) (plan : Blueprint) (window : ℕ) (cut : MayBeCut plan) where
  abbrev terms : Terms
  terms = terms_of WantsMemory plan window

  -- where the i-th record of a stream that was dealt stands: in a round of a part
  pub record Placed (records : List (List (List ℕ))) (outcomes : List (List Outcome)) (every : List (List ℕ)) (i : ℕ) : Type 0 where
    pub lines : List (List ℕ)
    pub said : List Outcome
    pub said_is : slice_get outcomes (i % length records) ≡ Some said
    pub line_at : slice_get lines (i / length records) ≡ slice_get every i
    pub lawful : Lawful terms lines said

  pub placed : (records : List (List (List ℕ))) (outcomes : List (List Outcome)) (every : List (List ℕ)) → 0 < length records → AllZip (Lawful terms) records outcomes
      → AreDealt records every → (i : ℕ) → Placed records outcomes every i
  placed records outcomes every some zip dealt i =
      let at_part : i % length records < length records = omega (arith, some) in
      let place : i / length records * length records + i % length records ≡ i = div-add-mod' i (length records) in
      let both = zip_there (Lawful terms) records outcomes zip (i % length records) at_part in
      record {
        lines = both.0;
        said = both.1;
        said_is = both.3;
        line_at = dealt.each (i % length records) (i / length records) both.0 both.2 ∙ ap (slice_get every) place;
        lawful = both.4;
      }

  module _ (records : List (List (List ℕ))) (outcomes : List (List Outcome)) (every : List (List ℕ)) (all : List Outcome)
      (some : 0 < length records) (zip : AllZip (Lawful terms) records outcomes) (dealt : AreDealt records every) (ends : AreDealt outcomes all) where
    outcome_at : (i : ℕ) (at : Placed records outcomes every i) → slice_get at.said (i / length records) ≡ slice_get all i
    outcome_at i at =
        let place : i / length records * length records + i % length records ≡ i = div-add-mod' i (length records) in
        let same : length outcomes ≡ length records = sym (zip_length (Lawful terms) records outcomes zip) in
        ends.each (i % length records) (i / length records) at.said at.said_is
        ∙ (ap (λ n. slice_get all (i / length records * n + i % length records)) same ∙ ap (slice_get all) place)

    -- where a record stands its line does, and where a line stands its record does
    line_within : (i : ℕ) → i < length every → i < length all
    line_within i within =
        let at = placed records outcomes every some zip dealt i in
        let line = there every i within in
        let below : i / length records < length at.lines = slice_get_within at.lines (i / length records) line.0 (at.line_at ∙ line.1) in
        let outcome = there at.said (i / length records) (omega (arith, below, at.lawful.as_many)) in
        slice_get_within all i outcome.0 (sym (outcome_at i at) ∙ outcome.1)

    record_within : (i : ℕ) → i < length all → i < length every
    record_within i within =
        let at = placed records outcomes every some zip dealt i in
        let outcome = there all i within in
        let below : i / length records < length at.said = slice_get_within at.said (i / length records) outcome.0 (outcome_at i at ∙ outcome.1) in
        let line = there at.lines (i / length records) (omega (arith, below, at.lawful.as_many)) in
        slice_get_within every i line.0 (sym at.line_at ∙ line.1)

    dealt_lawful : Lawful terms every all
    dealt_lawful = record {
      as_many =
          let least : length every ≤ length all = no_longer every all line_within in
          let most : length all ≤ length every = no_longer all every record_within in
          omega (arith, least, most);
      each = λ i line outcome is_line is_outcome.
          let at = placed records outcomes every some zip dealt i in
          moved WantsMemory plan window cut at.said all (i / length records + 1) (i + 1) line outcome
          (at.lawful.each (i / length records) line outcome (at.line_at ∙ is_line) (outcome_at i at ∙ is_outcome));
    }

  pub dealt_parts_join : DealtPartsJoin (terms_of WantsMemory plan window)
  dealt_parts_join records outcomes every all some zip dealt ends = dealt_lawful records outcomes every all some zip dealt ends

-- What is answered of a text in the notation.
use Rattle.std.specs.Prelude.{◌≡◌, ◌⊎◌, ℕ, Bool, true, false, min, List, [], ◌∷◌, ◌++◌, length, string_bytes, Ok, Err, codes, decimal}
use Rattle.std.specs.List.{concat}
use Rattle.plan_shape.specs.Blueprint.{Blueprint}
use Rattle.plan_writer.specs.Canonical.{plan_text}
use Rattle.plan_words.specs.Places.{place_behind}
use Rattle.plan_words.specs.Seen.{words_in}
use Rattle.plan_words.specs.declared.place.Place.{Place}
use Rattle.plan_places.specs.declared.refusal.Refusal.{Refusal as PlanRefusal}
use Rattle.plan_notation.specs.NodeTokens.{notation_words}
use Rattle.plan_notation.specs.Reading.{json_in, read_in}
use Rattle.plan_notation.specs.declared.wanted.Refusal.{Refusal}
use Rattle.notation_answers.specs.declared.answer.Written.{Written}
use Rattle.notation_answers.specs.Plans.{IsPlanIn, IsRefusedAtSpot}

-- how a sentence begins that tells of a place
abbrev pub place_head : Place → List ℕ
place_head p =
    concat (codes "line " ∷ decimal p.line ∷ codes ", column " ∷ decimal p.column ∷ codes ": " ∷ [])

-- the place behind so many bytes of the text
abbrev pub place_in : List ℕ → ℕ → Place
place_in text at = place_behind text (min at (length text))

-- a sentence tells of this place
abbrev pub TellsOfPlace : List ℕ → ℕ → List ℕ → Type 0
TellsOfPlace text at told = (reason : List ℕ) × (told ≡ place_head (place_in text at) ++ reason)

-- a sentence with this reason, in a line of its own
abbrev pub sentence_at : List ℕ → ℕ → List ℕ → List ℕ
sentence_at text at reason = place_head (place_in text at) ++ (reason ++ 10 ∷ [])

-- the plan's canonical text, in one line
pub record IsPlanLine (text line : List ℕ) : Type 0 where
  pub plan : Blueprint
  pub is_plan : IsPlanIn text plan
  pub line_is : line ≡ plan_text plan ++ 10 ∷ []

-- the text is refused at its first token that can't stand there, whose place is told
pub record IsTextRefused (text told : List ℕ) : Type 0 where
  pub refusal : Refusal
  pub is_refused : read_in text ≡ Err refusal
  pub tells : TellsOfPlace text refusal.at told

-- or the plan is refused, and the place of its node and the reason are told
pub record IsPlanRefused (text told : List ℕ) : Type 0 where
  pub refusal : PlanRefusal
  pub at : ℕ
  pub is_refused : IsRefusedAtSpot text refusal at
  pub told_is : told ≡ sentence_at text at (string_bytes refusal.reason)

abbrev pub IsAnswer : Bool → List ℕ → List ℕ → Type 0
IsAnswer true text line = IsPlanLine text line
IsAnswer false text told = IsTextRefused text told ⊎ IsPlanRefused text told

-- what is answered of a text
abbrev pub IsAnswerOf : List ℕ → Written → Type 0
IsAnswerOf text written = IsAnswer written.is_plan text written.text.items

-- a text has the plan's tokens, and is read as the plan's canonical JSON
pub record IsTextOf (plan : Blueprint) (text : List ℕ) : Type 0 where
  pub words_are : words_in text ≡ notation_words plan
  pub read_back : json_in text ≡ Ok (plan_text plan)

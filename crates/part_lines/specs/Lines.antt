-- The lines of a part: a number, a blank, and the words of a record.
use Rattle.std.specs.Prelude.{◌≡◌, ◌≢◌, ℕ, ◌+◌, ◌≤◌, ◌<◌, List, [], ◌∷◌, ◌++◌, length, take, drop, decimal, All, Some, IsSome}
use Rattle.exec_value.specs.Bytes.{blank, line_feed}
use Rattle.record_lines.specs.Lines.{HasNoLineFeed}
use Rattle.part_lines.specs.declared.limits.TheConstants.{MOST_WORDS, MOST_LINES}
use Rattle.part_lines.specs.declared.line.Said.{Said}
use Rattle.part_lines.specs.Sorts.{sort_of}

-- The line of the record of this number.
abbrev pub numbered_line : ℕ → List ℕ → List ℕ
numbered_line number words = decimal number ++ blank ∷ words ++ line_feed ∷ []

-- Lines one after another, the first under this number.
abbrev pub lines_from : ℕ → List (List ℕ) → List ℕ
lines_from number [] = []
lines_from number (words ∷ more) = numbered_line number words ++ lines_from (number + 1) more

-- Words that a line may have: they are of a sort, none of their bytes is a line feed, and there are
-- not too many.
pub record AreLineWords (words : List ℕ) : Type 0 where
  pub sort : IsSome (sort_of words)
  pub free : HasNoLineFeed words
  pub short : length words ≤ MOST_WORDS

-- The text of a part is the lines of these words, numbered from 1.
pub record IsPartText (text : List ℕ) (said : List (List ℕ)) : Type 0 where
  pub text_is : text ≡ lines_from 1 said
  pub each : All AreLineWords said
  pub few : length said ≤ MOST_LINES

-- A text is that of a part in one way: no other lines have it.
abbrev pub HasOneReading : Type 0
HasOneReading =
    (text : List ℕ) (said other : List (List ℕ)) → IsPartText text said → IsPartText text other
    → said ≡ other

-- Bytes begin with the line of this number.
pub record BeginsLine (number : ℕ) (bytes : List ℕ) : Type 0 where
  pub words : List ℕ
  pub more : List ℕ
  pub are : AreLineWords words
  pub bytes_are : bytes ≡ numbered_line number words ++ more
  pub few : number ≤ MOST_LINES

-- The first line feed of bytes stands at this place.
pub record LineEndsAt (bytes : List ℕ) (end : ℕ) : Type 0 where
  pub within : end < length bytes
  pub free : HasNoLineFeed (take end bytes)
  pub whole : bytes ≡ take end bytes ++ line_feed ∷ drop (end + 1) bytes

-- The text of a part has lines before this one, and then bytes that don't begin with its line.
pub record StopsAt (text : List ℕ) (number : ℕ) : Type 0 where
  pub said : List (List ℕ)
  pub rest : List ℕ
  pub text_is : text ≡ lines_from 1 said ++ rest
  pub each : All AreLineWords said
  pub number_is : number ≡ length said + 1
  pub some_rest : rest ≢ []
  pub no_line : ¬ BeginsLine number rest

-- Bytes begin with the line of this number and words, and this is where its parts end.
pub record Shows (bytes : List ℕ) (number : ℕ) (said : Said) (words : List ℕ) : Type 0 where
  pub more : List ℕ
  pub are : AreLineWords words
  pub bytes_are : bytes ≡ numbered_line number words ++ more
  pub head : said.head ≡ length (decimal number)
  pub length_is : said.length ≡ length (numbered_line number words)
  pub sort_is : sort_of words ≡ Some said.sort
  pub few : number ≤ MOST_LINES

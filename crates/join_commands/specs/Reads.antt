-- What is read of the text of a summary, piece by piece.
use Rattle.std.specs.Prelude.{◌≡◌, ◌≢◌, ℕ, ◌+◌, ◌<◌, List, ◌∷◌, ◌++◌, length, take, drop, decimal, All}
use Rattle.exec_value.specs.Bytes.{blank}
use Rattle.join_commands.specs.declared.reading.Count.{Count}
use Rattle.join_commands.specs.declared.reading.Three.{Three}
use Rattle.join_commands.specs.declared.reading.Word.{Word}

-- No byte is a blank.
abbrev pub HasNoBlank : List ℕ → Type 0
HasNoBlank bytes = All (λ byte. byte ≢ blank) bytes

-- A name, a count and further bytes, with a blank between each two.
abbrev pub count_before : List ℕ → ℕ → List ℕ → List ℕ
count_before name count more = name ++ (blank ∷ (decimal count ++ (blank ∷ more)))

-- A count was read, and what stands behind it.
pub record HasCount (count : ℕ) (more : List ℕ) (read : Count) : Type 0 where
  pub count_is : read.count ≡ count
  pub rest_is : read.rest.now ≡ more

-- Three counts were read, and what stands behind them.
pub record HasThree (first second third : ℕ) (more : List ℕ) (read : Three) : Type 0 where
  pub first_is : read.first ≡ first
  pub second_is : read.second ≡ second
  pub third_is : read.third ≡ third
  pub rest_is : read.rest.now ≡ more

-- The bytes before a blank were read, and those behind it.
pub record HasWord (word more : List ℕ) (read : Word) : Type 0 where
  pub word_is : read.word.now ≡ word
  pub rest_is : read.rest.now ≡ more

-- The first blank of a text stands at this place.
pub record CutsAt (text : List ℕ) (end : ℕ) : Type 0 where
  pub within : end < length text
  pub free : HasNoBlank (take end text)
  pub whole : text ≡ take end text ++ blank ∷ drop (end + 1) text

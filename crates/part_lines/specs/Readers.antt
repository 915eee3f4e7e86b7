-- What a reader of a part has read.
use Rattle.std.specs.Prelude.{◌≡◌, ◌≢◌, ◌≤◌, ◌+◌, ℕ, List, [], ◌∷◌, ◌++◌, length, Option, None, Some, IfSome, Result, Ok, Err, IsErrOf, All}
use Rattle.std.specs.Io.KnownBytes.{IsAtEnd}
use Rattle.std.specs.Option.{option_map}
use Rattle.exec_io.specs.Causes.{Rose}
use Rattle.exec_value.specs.Bytes.{blank, line_feed}
use Rattle.part_lines.specs.declared.line.Said.{Said}
use Rattle.part_lines.specs.declared.reader.PartFault.{PartFault}
use Rattle.part_lines.specs.declared.reader.PartFault.TheVariants.{NotLine}
use Rattle.part_lines.specs.declared.window.ReadFault.{ReadFault}
use Rattle.part_lines.specs.declared.window.ReadFault.TheVariants.{Failed}
use Rattle.part_lines.specs.Lines.{AreLineWords, BeginsLine, LineEndsAt, Shows, lines_from}

-- A reader: the bytes that it has at hand, those that are ahead where the file tells them, and how
-- many lines it has passed.
pub record ReaderView : Type 0 where
  pub at_hand : List ℕ
  pub ahead : Option (List ℕ)
  pub passed : ℕ

-- The bytes at hand, and then what is left of the file.
abbrev pub bytes_ahead : List ℕ → Option (List ℕ) → Option (List ℕ)
bytes_ahead at_hand left = option_map (λ more. at_hand ++ more) left

-- Of this text a reader has passed the lines of these words.
pub record HasReadLines (text : List ℕ) (said : List (List ℕ)) (reader : ReaderView) : Type 0 where
  pub rest : List ℕ
  pub ahead : reader.ahead ≡ Some rest
  pub text_is : text ≡ lines_from 1 said ++ rest
  pub each : All AreLineWords said
  pub passed : reader.passed ≡ length said

-- A window is read on: it fails only where the folder's count rose, and otherwise leaves it as it
-- was.
pub record HasReadCause {T : Type 0} (before now : ℕ) (result : Result T ReadFault) : Type 0 where
  pub later : before ≤ now
  pub failed : IsErrOf result Failed → Rose before now
  pub still : result ≢ Err Failed → now ≡ before

-- The next line feed is at hand, at this place; or nothing is left.
abbrev pub FindsLineEnd : List ℕ → Option (List ℕ) → Option ℕ → Type 0
FindsLineEnd at_hand left None = (at_hand ≡ []) × IsAtEnd left
FindsLineEnd at_hand left (Some end) = LineEndsAt at_hand end

-- The line of the next number is at hand, and says these words.
pub record IsAtLine (reader : ReaderView) (said : Said) (words : List ℕ) : Type 0 where
  pub at_hand : Shows reader.at_hand (reader.passed + 1) said words
  pub ahead : IfSome reader.ahead (λ bytes. Shows bytes (reader.passed + 1) said words)

-- What comes next: the end of the part, or the line of the next number.
abbrev pub IsNext : ReaderView → Option Said → Type 0
IsNext reader None = IsAtEnd reader.ahead
IsNext reader (Some said) = (words : List ℕ) × IsAtLine reader said words

-- The bytes begin with the line of this number, or it is told that they don't.
abbrev pub IsSaidOrFault : List ℕ → ℕ → Result (Option Said) PartFault → Type 0
IsSaidOrFault bytes number (Ok (Some said)) = (words : List ℕ) × Shows bytes number said words
IsSaidOrFault bytes number (Ok None) = ⊥
IsSaidOrFault bytes number (Err (NotLine at)) = (at ≡ number) × ¬ BeginsLine number bytes
IsSaidOrFault bytes number (Err fault) = ⊥

-- The bytes of a line behind its number.
abbrev pub behind_number : List ℕ → List ℕ
behind_number words = blank ∷ words ++ line_feed ∷ []

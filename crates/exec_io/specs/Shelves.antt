-- The texts of a shelf, each under its name.
use Rattle.std.specs.Prelude.{◌≡◌, ◌&&◌, not, Bool, true, ℕ, ◌+◌, List, [], ◌∷◌, take, Option, None, Some, Result, IfOk, IfSome, IsErrOf, IsNone, IsSomeAnd, Vec, bytes_eq, if◌then◌else◌}
use Rattle.std.specs.List.{list_any}
use Rattle.std.specs.declared.alloc.Global.{Global}
use Rattle.exec_io.specs.declared.fault.ShelfFault.{ShelfFault}
use Rattle.exec_io.specs.declared.fault.ShelfFault.TheVariants.{Failed}

-- Names in bytes, each with its text.
abbrev pub Texts : Type 0
Texts = List (List ℕ × List ℕ)

-- The text of this name, where there is one.
abbrev pub text_of : Texts → List ℕ → Option (List ℕ)
text_of [] name = None
text_of (entry ∷ texts) name = if bytes_eq entry.0 name then Some entry.1 else text_of texts name

-- Do no two of these names equal each other?
abbrev pub are_distinct : List (List ℕ) → Bool
are_distinct [] = true
are_distinct (name ∷ names) = not (list_any (bytes_eq name) names) && are_distinct names

-- What a read of a shelf answers.
abbrev pub Answer : Type 0
Answer = Result (Vec ℕ Global) ShelfFault

-- What is read is the first max + 1 bytes of the named text, and a name without a text is a fault.
pub record ReadsText (texts : Texts) (name : List ℕ) (max : ℕ) (result : Answer) : Type 0 where
  pub text : IfOk result (λ bytes.
      IsSomeAnd (text_of texts name) (λ text. bytes.items ≡ take (max + 1) text))
  pub missing : IsNone (text_of texts name) → IsErrOf result Failed

-- A shelf that tells its texts gave these bytes of the named one: all, or its first, one more than
-- `most`.
abbrev pub Gives : ℕ → Option Texts → List ℕ → List ℕ → Type 0
Gives most texts name bytes =
    IfSome texts (λ known.
    IsSomeAnd (text_of known name) (λ text. bytes ≡ take (most + 1) text))

-- The shelf tells its texts, and what it gives of the named one has this property.
abbrev pub Stands : ℕ → Option Texts → List ℕ → (List ℕ → Type 0) → Type 0
Stands most texts name P =
    IsSomeAnd texts (λ known.
    IsSomeAnd (text_of known name) (λ text. P (take (most + 1) text)))

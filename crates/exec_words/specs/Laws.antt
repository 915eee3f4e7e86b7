-- What holds of the spellings and the places of options.
use Rattle.std.specs.Prelude.{◌≡◌, ◌⊎◌, ℕ, IsTrue, List, ◌∷◌, ◌++◌, None, codes}
use Rattle.std.specs.Borrow.{Bor}
use Rattle.exec_words.specs.declared.reading.Reading.{Reading}
use Rattle.exec_words.specs.declared.reading.Setting.{Setting}
use Rattle.exec_words.specs.declared.reading.Setting.TheVariants.{Workers, Window, Order}
use Rattle.exec_words.specs.Reading.{is_name, read_on}

-- The names of the options that take a value.
abbrev pub name_of : Setting → List ℕ
name_of Workers = codes "--workers"
name_of Window = codes "--window"
name_of Order = codes "--order"

-- An option's value may stand in the next word, or in the same one behind `=`.
abbrev pub SpellingsAgree : Type 0
SpellingsAgree =
    (r : Reading) (setting : Setting) (name value joined : Bor (List ℕ))
    (words : List (Bor (List ℕ)))
    → r.awaits ≡ None → name.now ≡ name_of setting
    → joined.now ≡ name_of setting ++ 61 ∷ value.now
    → read_on r (name ∷ value ∷ words) ≡ read_on r (joined ∷ words)

-- A word is a whole option: it has its value behind `=`, or is the one for the summary.
abbrev pub IsOption : List ℕ → Type 0
IsOption word =
    ((setting : Setting) × (value : List ℕ) × (word ≡ name_of setting ++ 61 ∷ value))
    ⊎ (word ≡ codes "--summary")

-- A whole option may stand before a name and behind it.
abbrev pub PlacesAgree : Type 0
PlacesAgree =
    (r : Reading) (option name : Bor (List ℕ)) (words : List (Bor (List ℕ)))
    → r.awaits ≡ None → IsOption option.now → IsTrue (is_name name.now)
    → read_on r (option ∷ name ∷ words) ≡ read_on r (name ∷ option ∷ words)

-- Looking a name up on a shelf, one place after the other.
use Rattle.std.proofs.Common.{◌≡◌, ℕ, zero, suc, ◌+◌, ◌<◌, ◌≤◌, List, [], ◌∷◌, length, get_or, drop, String, Vec, string_bytes, true, false, Some, None, refl, sym, ap, ◌∙◌, arith}
use Rattle.std.specs.declared.alloc.Global.{Global}
use Rattle.std.specs.Prelude.{bytes_eq}
use Rattle.exec_io.specs.Memory.{named_texts}
use Rattle.exec_io.specs.Shelves.{text_of}

-- the name at this place is the one that is looked for
pub found : (names : List (String Global)) (texts : List (Vec ℕ Global)) (i : ℕ) (name : String Global) (text : Vec ℕ Global) (key : List ℕ)
    → i < length names → length names ≡ length texts → name ≡ get_or names i name → text ≡ get_or texts i text → bytes_eq (string_bytes name) key ≡ true
    → text_of (drop i (named_texts names texts)) key ≡ Some text.items
found [] texts i name text key below paired is_name is_text same = absurd (omega arith)
found (n ∷ names) [] i name text key below paired is_name is_text same = absurd (omega arith)
found (n ∷ names) (t ∷ texts) zero name text key below paired is_name is_text same =
    let here : bytes_eq (string_bytes n) key ≡ true = ap (λ s. bytes_eq (string_bytes s) key) (sym is_name) ∙ same in
    rw here (ap (λ v. Some v.items) (sym is_text))
found (n ∷ names) (t ∷ texts) (suc i) name text key below paired is_name is_text same =
    found names texts i name text key (omega arith) (omega arith) is_name is_text same

-- it is another, so the search goes on
pub passed : (names : List (String Global)) (texts : List (Vec ℕ Global)) (i : ℕ) (name : String Global) (key : List ℕ)
    → i < length names → length names ≡ length texts → name ≡ get_or names i name → bytes_eq (string_bytes name) key ≡ false
    → text_of (drop i (named_texts names texts)) key ≡ text_of (drop (i + 1) (named_texts names texts)) key
passed [] texts i name key below paired is_name differs = absurd (omega arith)
passed (n ∷ names) [] i name key below paired is_name differs = absurd (omega arith)
passed (n ∷ names) (t ∷ texts) zero name key below paired is_name differs =
    let here : bytes_eq (string_bytes n) key ≡ false = ap (λ s. bytes_eq (string_bytes s) key) (sym is_name) ∙ differs in
    rw here refl
passed (n ∷ names) (t ∷ texts) (suc i) name key below paired is_name differs =
    passed names texts i name key (omega arith) (omega arith) is_name differs
    ∙ ap (λ k. text_of (drop k (named_texts (n ∷ names) (t ∷ texts))) key) (let e : suc (i + 1) ≡ suc i + 1 = omega arith in e)

-- behind the last place there is none
pub not_found : (names : List (String Global)) (texts : List (Vec ℕ Global)) (i : ℕ) (key : List ℕ) → length names ≤ i → text_of (drop i (named_texts names texts)) key ≡ None
not_found [] texts zero key past = refl
not_found [] texts (suc i) key past = refl
not_found (n ∷ names) texts zero key past = absurd (omega arith)
not_found (n ∷ names) [] (suc i) key past = refl
not_found (n ∷ names) (t ∷ texts) (suc i) key past = not_found names texts i key (omega arith)

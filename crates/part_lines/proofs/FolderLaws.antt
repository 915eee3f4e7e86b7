-- Looking a name up among files in memory, one after the other.
use Rattle.std.proofs.Common.{◌≡◌, ℕ, zero, suc, ◌+◌, ◌<◌, ◌≤◌, List, [], ◌∷◌, length, get_or, map, drop, string_bytes, true, false, Some, None, refl, sym, ap, ◌∙◌, arith}
use Rattle.std.specs.Prelude.{bytes_eq}
use Rattle.exec_io.specs.Shelves.{text_of}
use Rattle.part_lines.specs.declared.mem_folder.Named.{Named}
use Rattle.part_lines.specs.MemFolders.{named_text}

-- the name at this place is the one that is looked for
pub found : (files : List Named) (i : ℕ) (file : Named) (key : List ℕ) → i < length files → file ≡ get_or files i file → bytes_eq (string_bytes file.name) key ≡ true
    → text_of (map named_text (drop i files)) key ≡ Some file.text.items
found [] i file key below is same = absurd (omega arith)
found (f ∷ files) zero file key below is same =
    let here : bytes_eq (string_bytes f.name) key ≡ true = ap (λ (n : Named). bytes_eq (string_bytes n.name) key) (sym is) ∙ same in
    rw here (ap (λ (n : Named). Some n.text.items) (sym is))
found (f ∷ files) (suc i) file key below is same = found files i file key (omega arith) is same

-- it is another, so the search goes on
pub passed : (files : List Named) (i : ℕ) (file : Named) (key : List ℕ) → i < length files → file ≡ get_or files i file → bytes_eq (string_bytes file.name) key ≡ false
    → text_of (map named_text (drop i files)) key ≡ text_of (map named_text (drop (i + 1) files)) key
passed [] i file key below is differs = absurd (omega arith)
passed (f ∷ files) zero file key below is differs =
    let here : bytes_eq (string_bytes f.name) key ≡ false = ap (λ (n : Named). bytes_eq (string_bytes n.name) key) (sym is) ∙ differs in
    rw here refl
passed (f ∷ files) (suc i) file key below is differs =
    passed files i file key (omega arith) is differs
    ∙ ap (λ k. text_of (map named_text (drop k (f ∷ files))) key) (let e : suc (i + 1) ≡ suc i + 1 = omega arith in e)

-- behind the last place there is none
pub not_found : (files : List Named) (i : ℕ) (key : List ℕ) → length files ≤ i → text_of (map named_text (drop i files)) key ≡ None
not_found [] zero key past = refl
not_found [] (suc i) key past = refl
not_found (f ∷ files) zero key past = absurd (omega arith)
not_found (f ∷ files) (suc i) key past = not_found files i key (omega arith)

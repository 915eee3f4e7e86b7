-- What is ahead once a file is open.
use Rattle.std.proofs.Common.{◌≡◌, ℕ, List, Option, Some, None, Ok, refl, ap, subst, ◌∙◌}
use Rattle.std.specs.Prelude.{IfSome, is_some}
use Rattle.exec_io.specs.Shelves.{Texts, text_of}
use Rattle.part_lines.specs.Folders.{Opens}

-- a file that was opened has a text, of which all is left
pub has_text : {File : Type 0} (left : File → Option (List ℕ)) (all : Texts) (name : List ℕ) (file : File) → Opens left all name (Ok file)
    → (text : List ℕ) × (text_of all name ≡ Some text) × (left file ≡ Some text)
has_text left all name file opens = known (text_of all name) refl
  where
    known : (text : Option (List ℕ)) → text_of all name ≡ text → (text : List ℕ) × (text_of all name ≡ Some text) × (left file ≡ Some text)
    known None is = cc (opens.missing (ap is_some is))
    known (Some text) is = (text, is, opens.opened ∙ is)

-- the same where a folder tells its texts
pub opened_text : {File : Type 0} (left : File → Option (List ℕ)) (texts : Option Texts) (all : Texts) (name : List ℕ) (file : File) → texts ≡ Some all
    → IfSome texts (λ known. Opens left known name (Ok file)) → (text : List ℕ) × (text_of all name ≡ Some text) × (left file ≡ Some text)
opened_text left None all name file is opens = cc
opened_text left (Some known) all name file is opens =
    let same : known ≡ all = cc in
    has_text left all name file (subst (λ (t : Texts). Opens left t name (Ok file)) same opens)

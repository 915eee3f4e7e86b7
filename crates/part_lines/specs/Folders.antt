-- Files that are opened by name.
use Rattle.std.specs.Prelude.{◌≡◌, ◌≢◌, ℕ, ◌≤◌, List, Option, Result, Err, IfOk, IsNone, IsErrOf}
use Rattle.exec_io.specs.Causes.{Rose}
use Rattle.exec_io.specs.Shelves.{Texts, text_of}
use Rattle.part_lines.specs.declared.folder.OpenFault.{OpenFault}
use Rattle.part_lines.specs.declared.folder.OpenFault.TheVariants.{Missing, Failed}

-- What a folder tells at one moment: the texts of its files by name, and how often a call failed.
pub record FolderView : Type 0 where
  pub texts : Option Texts
  pub faults : ℕ

-- What is opened is at the start of the text of this name, and there is no file without one.
pub record Opens {File : Type 0} (left : File → Option (List ℕ)) (texts : Texts) (name : List ℕ)
    (result : Result File OpenFault) : Type 0 where
  pub opened : IfOk result (λ file. left file ≡ text_of texts name)
  pub missing : IsNone (text_of texts name) → IsErrOf result Missing
  pub there : IsErrOf result Missing → IsNone (text_of texts name)

-- An opening fails only where the count rose in it, and otherwise leaves the count as it was.
pub record HasOpenCause {File : Type 0} (before now : ℕ) (result : Result File OpenFault)
    : Type 0 where
  pub later : before ≤ now
  pub failed : IsErrOf result Failed → Rose before now
  pub still : result ≢ Err Failed → now ≡ before

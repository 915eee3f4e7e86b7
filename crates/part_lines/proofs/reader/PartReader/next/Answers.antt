use Rattle.std.proofs.Common.{◌+◌, sym, subst, Option, Result, ℕ, List}
use Rattle.std.specs.Prelude.{IfErr}
use Rattle.part_lines.specs.declared.line.Said.{Said}
use Rattle.part_lines.specs.declared.reader.PartFault.{PartFault}
use Rattle.part_lines.specs.Faults.{IsFaultAt}
use Rattle.part_lines.specs.Readers.{ReaderView, FindsLineEnd, IsSaidOrFault, bytes_ahead}
use Rattle.part_lines.proofs.FillLaws.{said_fault}
use Rattle.part_lines.proofs.reader.PartReader.next.Goals as goal
use Rattle.part_lines.proofs.reader.PartReader.next.Goals.{in-Ok-Some, in-Ok-None, in-Err}

pub returns-clause-fault : goal.returns-clause-fault
returns-clause-fault g c =
    let number : ℕ = c.self.inside.passed + 1 in
    let old : Option (List ℕ) = bytes_ahead c.self.inside.window (g.F.Folder.left c.self.inside.file) in
    let left : Option (List ℕ) = g.F.Folder.left c.fill_line.new.file in
    let at_hand : List ℕ = c.fill_line.new.window in
    let P : Result (Option Said) PartFault → Type 0 = λ r. IfErr r (IsFaultAt old number) in
    let V : ReaderView → Type 0 = λ v. IfErr c.match-fill_line.result (IsFaultAt v.ahead (v.passed + 1)) in
    subst V c.self.view_is (elim c.match-fill_line.branch [
      | in-Ok-Some w ↦
          let found = subst (FindsLineEnd at_hand left) w.in-Ok-Some.field-0-is w.in-Ok-Some.ensures.found in
          let said = subst (λ (b : List ℕ). IsSaidOrFault b number w.said_or_fault.result) w.bytes.ensures w.said_or_fault.ensures in
          subst P (sym w.result-is) (said_fault number at_hand w.in-Ok-Some.end left old w.said_or_fault.result found said w.in-Ok-Some.ensures.ahead)
      | in-Ok-None w ↦ subst P (sym w.result-is) tt
      | in-Err w ↦ subst P (sym w.result-is) w.in-Err.ensures.fault
    ])

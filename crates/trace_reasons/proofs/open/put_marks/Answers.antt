use Rattle.std.proofs.Common.{ap, ◌∙◌}
use Rattle.exec_life.specs.WordLists.{WordLists}
use Rattle.life_rules.specs.declared.scope.ScopeWord.{ScopeWord}
use Rattle.pictures.proofs.Joining.{Adds-then, Adds-same}
use Rattle.trace_reasons.specs.Open.{association_mark}
use Rattle.trace_reasons.proofs.open.put_marks.Goals as goal

pub returns : goal.returns
returns c =
    let word = ap (λ (w : ScopeWord). association_mark w.count) c.scope.ensures in
    let count = Adds-same (word ∙ ap (λ (w : WordLists). association_mark w.scope.count) c.words.ensures.words) c.in_ok-put_association_mark.ensures in
    Adds-then c.in_ok-put_block_marks.ensures
    (Adds-then c.in_ok-put_callback_marks.ensures
    (Adds-then c.in_ok-put_scan_marks.ensures (Adds-then c.in_ok-put_scan_mark.ensures count)))

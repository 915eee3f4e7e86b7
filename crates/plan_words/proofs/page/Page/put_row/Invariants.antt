use Rattle.std.proofs.Common.{true}
use Rattle.plan_words.specs.Seen.{IsInRow, seen_in}
use Rattle.plan_words.proofs.LongLemmas.{OnInRow}
use Rattle.plan_words.proofs.page.Page.put_row.Given as goal

-- as if the bytes so far stood on one line
abbrev pub invariant-bytes : goal.invariant-bytes
invariant-bytes l =
    IsInRow true l.bytes (seen_in l.initial.self.text)
    → OnInRow l.initial.self.text l.bytes l.index l.self.text l.can_cut

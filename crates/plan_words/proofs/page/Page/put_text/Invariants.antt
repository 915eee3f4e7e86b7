use Rattle.std.proofs.Common.{true}
use Rattle.plan_words.specs.Seen.{IsInText, seen_in}
use Rattle.plan_words.proofs.LongLemmas.{OnInText}
use Rattle.plan_words.proofs.page.Page.put_text.Given as goal

-- as if the bytes so far stood on one line
abbrev pub invariant-bytes : goal.invariant-bytes
invariant-bytes l =
    IsInText true l.bytes (seen_in l.initial.self.text)
    → OnInText l.initial.self.text l.bytes l.index l.self.text l.can_cut

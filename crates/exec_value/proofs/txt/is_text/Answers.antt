use Rattle.std.proofs.lemmas.Bool.Decides.{Decides-like, same_from_decides}
use Rattle.exec_value.proofs.TextLemmas.{Decides-is_text, is_ok-from_utf8}
use Rattle.exec_value.proofs.txt.is_text.Goals as goal

pub returns-then-bytes-le-TEXT_BYTES-clause-value : goal.returns-then-bytes-le-TEXT_BYTES-clause-value
returns-then-bytes-le-TEXT_BYTES-clause-value c =
    rw c.is_ok.ensures.value (same_from_decides _ _ (Decides-like _ (λ u. record { utf8 = u; short = c.if-bytes-le-TEXT_BYTES.true }) (λ t. t.utf8) (is_ok-from_utf8 c.from_utf8.result c.args.bytes.now _ _ c.from_utf8.ensures.cases)) (Decides-is_text c.args.bytes.now))

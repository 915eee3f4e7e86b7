use Rattle.std.proofs.Common.{length, ap, arith, subst, sym}
use Rattle.exec_value.specs.Kept.{kept_bytes}
use Rattle.exec_value.specs.Text.{IsText}
use Rattle.exec_value.proofs.TextLemmas.{IsText-append}
use Rattle.exec_value.proofs.txt.Txt.append.Goals as goal

pub invariant_of-self : goal.invariant_of-self
invariant_of-self c =
    let more = c.as_bytes.ensures in
    let both = IsText-append (kept_bytes c.self.inside.kept) c.as_bytes.result.now c.self.invariant.text (subst IsText (sym more.bytes) more.text) (omega (arith, c.requires, ap length c.self.view_is, ap length more.bytes)) in
    record { text = rw c.in_ok-self-inside.ensures.ok both; many = c.in_ok-self-inside.ensures.many }

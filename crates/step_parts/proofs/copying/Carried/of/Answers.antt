use Rattle.std.proofs.Common.{◌≡◌, sym, ◌∙◌, arith, w64, to_z, of_z}
use Rattle.std.proofs.lemmas.Int.{to_z-of_z}
use Rattle.step_parts.proofs.Copied.{int-alone}
use Rattle.step_parts.proofs.copying.Carried.of.Goals as goal

pub returns-in-Some-clause-copies : goal.returns-in-Some-clause-copies
returns-in-Some-clause-copies c =
    let same : to_z w64 (of_z w64 c.in-Some.number) ≡ c.in-Some.number = grind (arith, to_z-of_z) in
    rw (same) (int-alone c.args.values.now c.in-Some.number (sym c.one_int.ensures ∙ c.in-Some.is))

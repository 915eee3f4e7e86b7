use Rattle.std.proofs.Common.{◌≡◌, codes, FitsSigned, rules, ◌∙◌}
use Rattle.std.proofs.lemmas.Int.{to_z-of_z}
use Rattle.std.specs.Fmt.{signed_decimal}
use Rattle.std.specs.Int.{w128}
use Rattle.join_commands.proofs.NoteLaws.{one}
use Rattle.join_commands.proofs.refusal.put_sum.Goals as goal

pub returns : goal.returns
returns g c =
    let fits : FitsSigned w128 c.args.sum = search rules in
    let digits : c.format.result.now ≡ signed_decimal c.args.sum = simp to_z-of_z at c.format.ensures.text in
    one (codes ".out: the sum is ") (codes ", and there are no values\n") c.as_bytes.result.now (signed_decimal c.args.sum) (c.as_bytes.ensures.value ∙ digits) c.put_pieces.ensures

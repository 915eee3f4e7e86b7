use Rattle.std.proofs.Common.{◌≡◌, codes, decimal, ap, ◌∙◌}
use Rattle.exec_status.specs.Status.{code_of}
use Rattle.join_commands.proofs.NoteLaws.{three}
use Rattle.join_commands.proofs.refusal.put_differs.Goals as goal

pub returns : goal.returns
returns g c =
    let told : c.as_bytes.result.now ≡ decimal (code_of c.args.told) = c.as_bytes.ensures.value ∙ (c.format.ensures.text ∙ ap decimal c.code.ensures) in
    let found : c.as_bytes-3.result.now ≡ decimal (code_of c.args.found) = c.as_bytes-3.ensures.value ∙ (c.format-2.ensures.text ∙ ap decimal c.code-2.ensures) in
    three (codes ".status: the status is ") (codes ", but the lines of ") (codes ".out say ") (codes "\n") c.as_bytes.result.now (decimal (code_of c.args.told)) c.as_bytes-2.result.now c.args.name.now c.as_bytes-3.result.now (decimal (code_of c.args.found))
    told c.as_bytes-2.ensures.value found c.put_pieces.ensures

use Rattle.std.proofs.Common.{◌≡◌}
use Rattle.picture_commands.specs.Answers.{IsReasoned}
use Rattle.picture_commands.specs.Reasons.{reason_line}
use Rattle.picture_commands.proofs.Plans.{if-ok}
use Rattle.picture_commands.proofs.reason.told.Goals as goal

pub returns : goal.returns
returns c =
    let refusal = c.in_ok-refusal.refusal in
    let bytes = c.args.bytes.now in
    if-ok c.reason_line.result (λ text. text.items ≡ reason_line refusal) (λ text. IsReasoned bytes text.items)
    (λ text is. record {
      fault = c.args.fault;
      cause = c.requires.cause;
      is = c.requires.is;
      refusal = refusal;
      tells = c.in_ok-refusal.ensures;
      text_is = is;
    })
    c.reason_line.ensures

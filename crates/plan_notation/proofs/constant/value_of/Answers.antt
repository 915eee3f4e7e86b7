use Rattle.std.proofs.lemmas.Bool.{false≢true}
use Rattle.plan_notation.proofs.Parsed.{json-read, json-refused}
use Rattle.plan_notation.proofs.constant.value_of.Goals as goal

pub returns-in-Ok : goal.returns-in-Ok
returns-in-Ok c = json-read c.args.text.now _ c.in-Ok.ensures.ok.0 c.in-Ok.ensures.ok.1

pub returns-in-Err-2 : goal.returns-in-Err-2
returns-in-Err-2 c =
    json-refused c.args.text.now (c.in-Err.ensures.err (λ memory. false≢true (c.if-is_memory.ensures.1 memory)))

use Rattle.std.proofs.Common.{refl}
use Rattle.std.proofs.lemmas.Bool.{false≢true}
use Rattle.plan_reader.proofs.JsonLemmas.{json_of-read, json_of-refused}
use Rattle.plan_reader.proofs.read.read_json.Goals as goal

pub returns-in-Ok-clause-ok : goal.returns-in-Ok-clause-ok
returns-in-Ok-clause-ok c =
    json_of-read c.args.bytes.now _ c.in-Ok.ensures.ok.0 c.in-Ok.ensures.ok.1

pub returns-in-Err-2-clause-err : goal.returns-in-Err-2-clause-err
returns-in-Err-2-clause-err c other =
    let none = c.in-Err.ensures.err (λ memory. false≢true (c.if-is_memory.ensures.1 memory)) in
    (refl, json_of-refused c.args.bytes.now none)

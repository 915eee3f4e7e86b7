use Rattle.std.proofs.Common.{◌<◌, ◌∷◌, [], length, ap, ◌∙◌, arith}
use Rattle.std.proofs.lemmas.Bool.{ltb-true}
use Rattle.exec_job.proofs.OperandLemmas.{maybe_int-length, maybe_text-length, measured, kinds-length}
use Rattle.exec_value.specs.declared.outcome.Completion.TheVariants.{Value}
use Rattle.exec_job.proofs.AnswerLemmas.{Gives-at, Gives-at_stop}
use Rattle.exec_job.proofs.answer.apply_to.Goals as goal

pub only-requires : goal.only-requires
only-requires c =
    let t = rw c.in-Length.is at c.requires.takes in
    (measured c.args.operands.now t.0 t.1 t.2).0

pub bounds-operands-place : goal.bounds-operands-place
bounds-operands-place c =
    let t = rw c.in-At.is at c.requires.takes in
    omega (arith, ltb-true c.in-At.place (length t.0) t.2, kinds-length c.args.operands.now t.0 t.1)

pub only-requires-in-IntOr : goal.only-requires-in-IntOr
only-requires-in-IntOr c =
    let t = rw c.in-IntOr.is at c.requires.takes in
    maybe_int-length c.args.operands.now t.0 t.1 t.2

pub only-requires-in-TextOr : goal.only-requires-in-TextOr
only-requires-in-TextOr c =
    let t = rw c.in-TextOr.is at c.requires.takes in
    maybe_text-length c.args.operands.now t.0 t.1 t.2

pub returns-in_err-copy-in-At : goal.returns-in_err-copy-in-At
returns-in_err-copy-in-At c =
    let t = rw c.in-At.is at c.requires.takes in
    let here : c.in-At.place < length c.args.operands.now = omega (arith, ltb-true c.in-At.place (length t.0) t.2, kinds-length c.args.operands.now t.0 t.1) in
    rw c.in-At.is (Gives-at_stop c.args.operands.now c.in-At.place c.index-operands-place.result c.from_residual-in_err-copy-in-At.result c.index-operands-place.is here c.from_residual-in_err-copy-in-At.ensures.0 (λ place. let ok = c.in_err-copy-in-At.ensures.in_place place in cc))

pub returns-in_ok-copy-in-At : goal.returns-in_ok-copy-in-At
returns-in_ok-copy-in-At c =
    let t = rw c.in-At.is at c.requires.takes in
    let here : c.in-At.place < length c.args.operands.now = omega (arith, ltb-true c.in-At.place (length t.0) t.2, kinds-length c.args.operands.now t.0 t.1) in
    let made = c.one-in-At.ensures ∙ ap (λ d. Value (d ∷ [])) c.in_ok-copy-in-At.ensures.ok in
    rw c.in-At.is (Gives-at c.args.operands.now c.in-At.place c.index-operands-place.result c.one-in-At.result c.index-operands-place.is here made)

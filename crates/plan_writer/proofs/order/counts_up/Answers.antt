use Rattle.std.proofs.Common.{◌<◌, ◌≤◌, length, ap, ◌∙◌, arith}
use Rattle.std.proofs.lemmas.Bool.{eq-eqb, eqb-true, false≢true}
use Rattle.std.proofs.lemmas.List.FromFn.{length-range_with_len}
use Rattle.plan_writer.proofs.CountLemmas.{counted-at, counts-up}
use Rattle.plan_writer.proofs.order.counts_up.Goals as goal

pub returns-then-number-index : goal.returns-then-number-index
returns-then-number-index c = (
  λ t. absurd (false≢true t),
  λ is.
      let within : c.loop-index.index < length c.args.numbers.now = omega arith in
      let at = counted-at c.args.numbers.now c.args.bound c.loop-index.index is within in
      absurd (omega (arith, at, c.if-number-index.true)),
)

pub returns : goal.returns
returns c =
    let numbers = c.args.numbers.now in
    let past : length numbers ≤ c.loop-index.index = omega arith in (
      λ t. counts-up numbers c.args.bound (eqb-true (length numbers) c.args.bound t)
          (λ k less. c.loop-index.invariant k (omega (arith, less, past))),
      λ is. eq-eqb (length numbers) c.args.bound (ap length is ∙ length-range_with_len 0 c.args.bound),
    )

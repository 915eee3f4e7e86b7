use Rattle.std.proofs.Common.{List, ℕ, subst, ◌∙◌}
use Rattle.std.specs.Borrow.{Bor}
use Rattle.std.proofs.lemmas.List.{take_all}
use Rattle.join_commands.specs.Summaries.{HasSum, IsTooLarge}
use Rattle.join_commands.proofs.SummaryLaws.{beyond_at, has_at, of_none}
use Rattle.join_commands.proofs.summary.sum_of_all.Goals as goal

pub loop-at-preserved : goal.loop-at-preserved
loop-at-preserved g c = record {
  summed = λ all known.
      has_at all c.args.names.now c.loop-at.at _ c.loop-at.sum c.in-Ok.numbers c.in-Some.more c.loop-at-test.true
      (c.loop-at.invariant.summed all known) (c.in-Ok.ensures.whole all (c.loop-at.invariant.texts ∙ known)) c.in-Some.ensures.both;
  texts = c.in-Ok.ensures.same ∙ c.loop-at.invariant.texts;
  faults = c.in-Ok.ensures.cause.still (λ e. cc) ∙ c.loop-at.invariant.faults;
}

pub returns-clause-summed : goal.returns-clause-summed
returns-clause-summed g c = λ all known.
    subst (λ (l : List (Bor (List ℕ))). HasSum all l c.loop-at.sum) (take_all c.loop-at.at c.args.names.now c.loop-at-test.false) (c.loop-at.invariant.summed all known)

pub returns-in_default-clause-refused : goal.returns-in_default-clause-refused
returns-in_default-clause-refused g c = λ all known.
    let large : IsTooLarge c.loop-at.sum c.in-Ok.numbers = of_none c.added.result _ c.added.ensures.large c.in_default.not-Some in (
      c.loop-at-test.true,
      beyond_at all c.args.names.now c.loop-at.at _ c.loop-at.sum c.in-Ok.numbers c.loop-at-test.true
          (c.loop-at.invariant.summed all known) (c.in-Ok.ensures.whole all (c.loop-at.invariant.texts ∙ known)) large,
    )

pub returns-in-Err-clause-same : goal.returns-in-Err-clause-same
returns-in-Err-clause-same g c = c.in-Err.ensures.same ∙ c.loop-at.invariant.texts

pub returns-in_default-clause-same : goal.returns-in_default-clause-same
returns-in_default-clause-same g c = c.in-Ok.ensures.same ∙ c.loop-at.invariant.texts

pub returns-clause-same : goal.returns-clause-same
returns-clause-same g c = c.loop-at.invariant.texts

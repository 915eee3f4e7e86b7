use Rattle.std.proofs.Common.{◌≡◌, Result, Ok, MatchResult, sym, subst}
use Rattle.plan_notation.specs.declared.wanted.Refusal.{Refusal}
use Rattle.plan_notation.specs.Arguments.{IsTokenFault}
use Rattle.plan_notation.specs.Reading.{TextRead}
use Rattle.plan_notation.proofs.Ends.{finished_on}
use Rattle.plan_notation.proofs.reading.finished.Goals as goal

pub returns : goal.returns
returns c =
    subst (λ (o : Result TextRead Refusal). MatchResult c.ends.result (λ reads. o ≡ Ok reads) (IsTokenFault o))
    (sym (finished_on c.args.end c.args.machine c.begin_last.new.machine c.in_ok-begin_last.ensures)) c.ends.ensures

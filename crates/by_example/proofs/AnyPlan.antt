-- What follows for a plan that was read, and for a run of it.
use Rattle.std.proofs.Common.{◌≡◌, ℕ, ◌<◌, List, Option, None, Some, IfSome, IsTrue, sym, subst, arith}
use Rattle.std.specs.Prelude.{nat_le}
use Rattle.std.proofs.lemmas.Bool.{and_parts, leb-true}
use Rattle.plan_kinds.specs.Reached.{KindsMatch}
use Rattle.plan_reader.specs.PlanFile.{IsPlanOf}
use Rattle.plan_shape.specs.Blueprint.{Blueprint, IsPlan}
use Rattle.plan_shape.specs.Conditions.{is_within}
use Rattle.plan_shape.specs.declared.limits.TheConstants.{MOST_STOP_AFTER}
use Rattle.record_loop.specs.declared.printer.Form.TheVariants.{Lines}
use Rattle.whole_run.specs.Accounts.{EndsRun, IsClosedFor}
use Rattle.whole_run.specs.Endings.{Streams}
use Rattle.whole_run.specs.declared.account.Account.{Account}
use Rattle.line_rules.specs.PlanTerms.{MayRun, window_of}
use Rattle.by_example.specs.AnyPlan.{RunsText}
use Rattle.by_example.specs.declared.streaming.TheConstants.{WINDOW}

-- the kinds of a plan that was read match
pub read-matches : (bytes : List ℕ) (plan : Blueprint) → IsPlanOf bytes plan → KindsMatch plan.nodes plan.settings.input
read-matches bytes plan is =
    let P : Blueprint → Type 0 = λ p. KindsMatch p.nodes p.settings.input in
    subst P (sym is.2.same) is.2.matches.kinds

-- records are counted from 1
from-one : (after : Option ℕ) → IfSome after (λ n. IsTrue (is_within 1 MOST_STOP_AFTER n)) → IfSome after (λ k. 0 < k)
from-one None within = tt
from-one (Some n) within = omega (arith, leb-true 1 n (and_parts (nat_le 1 n) (nat_le n MOST_STOP_AFTER) within).0)

-- and it may be run with its settings
pub read-may-run : (bytes : List ℕ) (plan : Blueprint) → IsPlanOf bytes plan → IsPlan plan → MayRun plan.settings
read-may-run bytes plan is whole = record {
  stop_after = from-one plan.settings.stop_after whole.settings_are.stop_after;
  rules = is.2.rules;
}

-- a run of it, with as many records at once as it may have
pub runs-text : (bytes : List ℕ) (plan : Blueprint) (window : ℕ) (before after : Streams) (account : Account) →
    IsPlanOf bytes plan → window ≡ window_of plan WINDOW → EndsRun plan window Lines before after account →
    IsClosedFor plan window account.tally account.closing → RunsText bytes before after account
runs-text bytes plan window before after account is at_once ends closed = record {
  plan = plan;
  is = is;
  ends = subst (λ (w : ℕ). EndsRun plan w Lines before after account) at_once ends;
  closed = subst (λ (w : ℕ). IsClosedFor plan w account.tally account.closing) at_once closed;
}

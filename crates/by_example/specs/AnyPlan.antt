-- What becomes of a stream by a plan that is read.
use Rattle.std.specs.Prelude.{◌≢◌, ℕ, List}
use Rattle.plan_reader.specs.PlanFile.{IsFaultOf, IsPlanOf}
use Rattle.plan_reader.specs.declared.fault.PlanFault.{PlanFault}
use Rattle.plan_reader.specs.declared.fault.PlanFault.TheVariants.{NoMemory}
use Rattle.plan_shape.specs.Blueprint.{Blueprint}
use Rattle.record_loop.specs.declared.printer.Form.TheVariants.{Lines}
use Rattle.whole_run.specs.Accounts.{EndsRun, IsClosedFor}
use Rattle.whole_run.specs.Endings.{Streams}
use Rattle.whole_run.specs.declared.account.Account.{Account}
use Rattle.line_rules.specs.PlanTerms.{window_of}
use Rattle.by_example.specs.declared.streaming.TheConstants.{WINDOW}

-- The text is a plan, and a run of it over the lines of a source ended so, on a table that was
-- closed with its scope joined and each block given back.
pub record RunsText (text : List ℕ) (before after : Streams) (account : Account) : Type 0 where
  pub plan : Blueprint
  pub is : IsPlanOf text plan
  pub ends : EndsRun plan (window_of plan WINDOW) Lines before after account
  pub closed : IsClosedFor plan (window_of plan WINDOW) account.tally account.closing

-- A fault that is answered is one that the text has, unless it is want of memory.
abbrev pub AnswersFault : List ℕ → PlanFault → Type 0
AnswersFault text fault = fault ≢ NoMemory → IsFaultOf text fault

-- What is allowed where no request was seen is allowed where one was.
use Rattle.std.proofs.Common.{ℕ, Bool, true, false}
use Rattle.exec_value.specs.declared.outcome.Completion.{Completion}
use Rattle.plan_rules.specs.Allowed.{Allowed}
use Rattle.plan_rules.specs.declared.stop.StopState.TheVariants.{Never}
use Rattle.plan_laws.proofs.Covers.{may-covers}
use Rattle.exec_value.specs.declared.data.Datum.{Datum}
use Rattle.home_items.specs.declared.entry.Entry.{Entry}
use Rattle.home_items.specs.Below.{AllowedWith}
use Rattle.plan_rules.specs.Seen.{seen_state}
use Rattle.std.specs.Prelude.{List}
use Rattle.plan_rules.specs.declared.node.Node.{Node}

-- of any node, by whether the request stood before the start
stop-widens : (nodes : List Node) (n : ℕ) (a : List Datum) (r : ℕ) (asked saw : Bool) (c : Completion) →
    Allowed nodes n a r (seen_state asked saw) c → Allowed nodes n a r (seen_state asked true) c
stop-widens nodes n a r true saw c h = h
stop-widens nodes n a r false true c h = h
stop-widens nodes n a r false false c h = may-covers nodes n a r Never c h

pub below-widens : (p : Entry) (saw : Bool) (child : ℕ) (done : Completion) →
    AllowedWith p saw child done → AllowedWith p true child done
below-widens p saw child done = stop-widens p.plan.nodes child p.args p.number p.asked saw done

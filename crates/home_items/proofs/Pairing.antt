-- What a child delivered, in its parent's words.
use Rattle.std.specs.Prelude.{List, Option}
use Rattle.std.proofs.Common.{◌≡◌, Bool, ◌∷◌, subst}
use Rattle.exec_value.specs.declared.outcome.Completion.{Completion}
use Rattle.plan_rules.specs.declared.node.Node.{Node}
use Rattle.plan_rules.specs.Allowed.{Allowed}
use Rattle.home_items.specs.declared.entry.Entry.{Entry}
use Rattle.plan_rules.specs.Seen.{seen_state}
use Rattle.home_items.specs.Below.{asked_below, IsPlainChild}
use Rattle.home_items.specs.Parcels.{AllowedFor}

-- a child that ran with its parent's arguments completed as is allowed there
pub run-allowed : (parent : Option Node) (e p : Entry) (above : List Entry) → e.plan ≡ p.plan → e.number ≡ p.number →
    IsPlainChild parent e p → (saw : Bool) (done : Completion) → AllowedFor (e ∷ above) saw done →
    Allowed p.plan.nodes e.node p.args p.number (seen_state (asked_below parent p.asked) saw) done
run-allowed parent e p above plan number run saw done allowed =
    subst (λ pl. Allowed pl.nodes e.node p.args p.number (seen_state (asked_below parent p.asked) saw) done) plan
    (subst (λ args. Allowed e.plan.nodes e.node args p.number (seen_state (asked_below parent p.asked) saw) done) run.args
    (subst (λ r. Allowed e.plan.nodes e.node e.args r (seen_state (asked_below parent p.asked) saw) done) number
    (subst (λ asked. Allowed e.plan.nodes e.node e.args e.number (seen_state asked saw) done) run.asked allowed)))

use Rattle.std.proofs.Common.{◌≡◌, ℕ, Bool, List, sym, ap, ◌∙◌, subst}
use Rattle.std.specs.Prelude.{None}
use Rattle.exec_value.specs.declared.data.Datum.{Datum}
use Rattle.plan_shape.specs.Blueprint.{Blueprint}
use Rattle.plan_kinds.specs.TreeLaws.{IsSpawned}
use Rattle.home_items.specs.declared.entry.Entry.{Entry}
use Rattle.home_items.specs.Entries.{plan_of, args_of, record_number, asked_of, record_start, start_naming}
use Rattle.home_items.specs.Starts.{IsReceiverStart}
use Rattle.serve_ahead.specs.Spawned.{spawned_start}
use Rattle.serve_ahead.proofs.AtHand.{of, carries-args}
use Rattle.serve_ahead.proofs.Spawning.{first-spawned, record-receiver}
use Rattle.serve_ahead.proofs.env.first_env.Goals as goal

spawned-so : (first : ℕ) (start env named : List Entry) (plan : Blueprint) (args : List Datum) (number : ℕ) (asked : Bool) →
    named ≡ start_naming first env → env ≡ record_start plan args number asked → plan ≡ plan_of start → args ≡ args_of start →
    number ≡ record_number start → asked ≡ asked_of start → named ≡ spawned_start first start
spawned-so first start env named plan args number asked named_is env_is plan_is args_is number_is asked_is =
    named_is
    ∙ ap (λ (e : List Entry). start_naming first e)
    (env_is ∙ ap (λ (p : Blueprint). record_start p args number asked) plan_is
    ∙ ap (λ (a : List Datum). record_start (plan_of start) a number asked) args_is
    ∙ ap (λ (n : ℕ). record_start (plan_of start) (args_of start) n asked) number_is
    ∙ ap (λ (b : Bool). record_start (plan_of start) (args_of start) (record_number start) b) asked_is)

pub naming_first-requires-clause-receiver : goal.naming_first-requires-clause-receiver
naming_first-requires-clause-receiver g c =
    subst IsReceiverStart (sym c.of_record.ensures)
    (record-receiver c.site.inside.plan.now _ _ _ c.args.at.first
    (rw c.site.invariant (rw c.site.view_is (first-spawned c.args.site.now c.args.at c.requires.has.ahead))))

pub naming_first-requires-clause-first : goal.naming_first-requires-clause-first
naming_first-requires-clause-first g c =
    subst (λ (s : List Entry). IsSpawned (plan_of s).nodes c.args.at.first) (sym c.of_record.ensures)
    (rw c.site.invariant (rw c.site.view_is (first-spawned c.args.site.now c.args.at c.requires.has.ahead)))

pub returns-clause-ok : goal.returns-clause-ok
returns-clause-ok g c =
    let t = c.args.taken.now in
    let at = c.args.at in
    let is = of c.args.site.now at t None c.args.hand.now c.requires.has in
    let key = rw (← c.site.view_is) at c.requires.has.taken.ready.is.key in
    spawned-so at.first t.start c.of_record.result c.naming_first.result c.site.inside.plan.now c.in_ok-args.args c.number-number.result c.asked-asked.result
    c.naming_first.ensures c.of_record.ensures (c.site.invariant ∙ sym key)
    (c.in_ok-args.ensures.copies ∙ carries-args t.start at.first at.second is) c.number-number.ensures c.asked-asked.ensures

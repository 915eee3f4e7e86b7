use Rattle.std.proofs.Common.{◌≡◌, true, ◌&&◌, sym, ap, ◌∙◌, arith}
use Rattle.std.specs.Prelude.{nat_lt}
use Rattle.std.proofs.lemmas.Bool.{lt-ltb}
use Rattle.exec_life.specs.StateLists.{machine}
use Rattle.life_rules.specs.Steps.{may_happen}
use Rattle.replay_core.proofs.machine.advance.Goals as goal

pub returns-clause-exact : goal.returns-clause-exact
returns-clause-exact c =
    let s = machine c.args.state.now in
    let e = c.args.entry.now in
    let there : nat_lt e.hand s.hands ≡ true = lt-ltb e.hand s.hands (omega (arith, c.if-entry-hands.false, c.hands.ensures)) in
    c.step.ensures.exact
    ∙ ap (may_happen s e.hand) (c.in_ok-event.ensures ∙ c.parts_of.ensures)
    ∙ sym (ap (λ b. b && may_happen s e.hand e.event) there)

pub returns-clause-table : goal.returns-clause-table
returns-clause-table c = c.step.ensures.table

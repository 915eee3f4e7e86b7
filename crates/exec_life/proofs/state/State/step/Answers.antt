use Rattle.std.proofs.Common.{◌<◌, sym, subst}
use Rattle.life_rules.specs.Sound.{Sound}
use Rattle.life_laws.proofs.Laws.{sound-after}
use Rattle.exec_life.specs.Parts.{shown}
use Rattle.exec_life.specs.StateLists.{StateLists, machine}
use Rattle.exec_life.specs.Reading.{SameTable}
use Rattle.exec_life.proofs.SameTables.{table-stays}
use Rattle.exec_life.proofs.state.State.step.Goals as goal

pub invariant_of-self : goal.invariant_of-self
invariant_of-self c =
    let means = c.take_step.ensures in
    let hand = subst (λ (d : StateLists). c.args.hand < (machine d).hands) (sym c.self.view_is) c.requires in
    record {
      fitted = means.fitted;
      sound =
          subst Sound (sym means.state_is)
          (sound-after c.args.event (shown c.self.inside.parts) c.args.hand c.self.invariant.sound hand
          (sym c.if-not-allows.ensures));
    }

pub returns-clause-table : goal.returns-clause-table
returns-clause-table c =
    let inside = shown c.self.inside.parts in
    let new = subst (SameTable inside) (sym c.take_step.ensures.state_is) (table-stays inside c.args.hand c.args.event) in
    rw (← c.self.view_is) new

pub allows-requires : goal.allows-requires
allows-requires c =
    let has : StateLists → Type 0 = λ d. c.args.hand < (machine d).hands in
    record { state = c.self.invariant; hand_is = subst has (sym c.self.view_is) c.requires }

pub take_step-requires-clause-ready : goal.take_step-requires-clause-ready
take_step-requires-clause-ready c =
    let has : StateLists → Type 0 = λ d. c.args.hand < (machine d).hands in
    record { state = c.self.invariant; hand_is = subst has (sym c.self.view_is) c.requires }

pub take_step-requires-clause-needs : goal.take_step-requires-clause-needs
take_step-requires-clause-needs c = sym c.if-not-allows.ensures

pub returns-clause-exact : goal.returns-clause-exact
returns-clause-exact c = rw (← c.self.view_is) c.if-not-allows.ensures

pub returns-clause-taken : goal.returns-clause-taken
returns-clause-taken c = rw (← c.self.view_is) c.take_step.ensures.state_is

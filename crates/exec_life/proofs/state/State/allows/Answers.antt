use Rattle.std.proofs.Common.{◌<◌, sym, subst}
use Rattle.exec_life.specs.StateLists.{StateLists, machine}
use Rattle.exec_life.proofs.state.State.allows.Goals as goal

pub allows-requires : goal.allows-requires
allows-requires c =
    let has : StateLists → Type 0 = λ d. c.args.hand < (machine d).hands in
    record { state = c.self.invariant; hand_is = subst has (sym c.self.view_is) c.requires }

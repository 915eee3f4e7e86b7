use Rattle.std.proofs.Common.{sym, subst, List, All, ◌-◌}
use Rattle.std.proofs.lemmas.List.Elements.{All-take}
use Rattle.std.specs.Prelude.{vec_len}
use Rattle.run_workers.specs.Crews.{CanServe}
use Rattle.run_workers.proofs.Hands.{TheHand, if-taken}
use Rattle.run_workers.proofs.beside.take_hand.Goals as goal

pub returns-clause-serve : goal.returns-clause-serve
returns-clause-serve g c =
    let P : TheHand → Type 0 = CanServe c.args.table.now (g.T.Stepper.plan c.args.stepper.now) in
    subst (λ (hands : List TheHand). All P hands) (sym c.pop.ensures.rest)
    (All-take P (vec_len c.args.hands.now - 1) c.args.hands.now.items c.requires.serve)

pub returns-clause-taken : goal.returns-clause-taken
returns-clause-taken g c =
    if-taken (CanServe c.args.table.now (g.T.Stepper.plan c.args.stepper.now)) c.pop.new.self.items
    c.args.hands.now.items c.pop.result c.requires.serve c.pop.ensures.items

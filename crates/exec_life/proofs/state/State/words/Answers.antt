use Rattle.exec_life.specs.Parts.{lists_of}
use Rattle.exec_life.proofs.Tells.{tell-words}
use Rattle.exec_life.proofs.state.State.words.Goals as goal

pub returns-clause-tells : goal.returns-clause-tells
returns-clause-tells c = rw (← c.self.view_is) (tell-words (lists_of c.self.inside.parts) c.self.invariant)

pub returns-clause-sound : goal.returns-clause-sound
returns-clause-sound c = rw (← c.self.view_is) c.self.invariant.sound

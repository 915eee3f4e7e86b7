use Rattle.exec_life.specs.Parts.{lists_of}
use Rattle.exec_life.proofs.ScopeMeans.{rouse-means}
use Rattle.exec_life.proofs.parts.Parts.rouse.Goals as goal

pub returns : goal.returns
returns c =
    rouse-means (lists_of c.args.self.now) c.set_control.new.self c.args.hand c.args.place c.requires.ready.state
    c.set_control.ensures

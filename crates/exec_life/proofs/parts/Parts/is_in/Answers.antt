use Rattle.std.proofs.Common.{◌<◌, ℕ, Bool, sym, arith}
use Rattle.life_rules.specs.States.{name_of, size}
use Rattle.life_rules.specs.StopSteps.{has}
use Rattle.exec_life.specs.Parts.{shown}
use Rattle.exec_life.proofs.Below.{some_below-found, some_below-more}
use Rattle.exec_life.proofs.parts.Parts.is_in.Goals as goal

pub returns-then-has : goal.returns-then-has
returns-then-has c =
    let s = shown c.args.self.now in
    let test : ℕ → Bool = λ n. has (s.view c.args.hand) (name_of s c.args.block n) in
    let within : c.loop-node.node < size s = omega arith in
    sym (some_below-found test (size s) c.loop-node.node within (sym c.if-has.ensures))

pub loop-node-preserved : goal.loop-node-preserved
loop-node-preserved c =
    let s = shown c.args.self.now in
    let test : ℕ → Bool = λ n. has (s.view c.args.hand) (name_of s c.args.block n) in
    some_below-more test c.loop-node.node c.loop-node.invariant (sym c.if-has.ensures)

use Rattle.std.proofs.Common.{◌<◌, ℕ, Bool, sym, arith}
use Rattle.life_rules.specs.States.{name_at, size}
use Rattle.exec_life.specs.Parts.{shown, is_begun_child}
use Rattle.exec_life.proofs.Below.{some_below-found, some_below-more}
use Rattle.exec_life.proofs.parts.Parts.has_begun_below.Goals as goal

pub returns-then-is_begun_child : goal.returns-then-is_begun_child
returns-then-is_begun_child c =
    let s = shown c.args.self.now in
    let test : ℕ → Bool = is_begun_child s (name_at s c.args.place) in
    let within : c.loop-node.node < size s = omega arith in
    sym (some_below-found test (size s) c.loop-node.node within (sym c.if-is_begun_child.ensures))

pub loop-node-preserved : goal.loop-node-preserved
loop-node-preserved c =
    let s = shown c.args.self.now in
    let test : ℕ → Bool = is_begun_child s (name_at s c.args.place) in
    some_below-more test c.loop-node.node c.loop-node.invariant (sym c.if-is_begun_child.ensures)

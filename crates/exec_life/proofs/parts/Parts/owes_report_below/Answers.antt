use Rattle.std.proofs.Common.{◌<◌, ℕ, Bool, sym, arith}
use Rattle.life_rules.specs.States.{name_at, size}
use Rattle.exec_life.specs.Parts.{shown, owes_report_of}
use Rattle.exec_life.proofs.Below.{some_below-found, some_below-more}
use Rattle.exec_life.proofs.parts.Parts.owes_report_below.Goals as goal

pub returns-then-owes_report_of : goal.returns-then-owes_report_of
returns-then-owes_report_of c =
    let s = shown c.args.self.now in
    let test : ℕ → Bool = owes_report_of s (s.view c.args.hand) (name_at s c.args.place) in
    let within : c.loop-node.node < size s = omega arith in
    sym (some_below-found test (size s) c.loop-node.node within (sym c.if-owes_report_of.ensures))

pub loop-node-preserved : goal.loop-node-preserved
loop-node-preserved c =
    let s = shown c.args.self.now in
    let test : ℕ → Bool = owes_report_of s (s.view c.args.hand) (name_at s c.args.place) in
    some_below-more test c.loop-node.node c.loop-node.invariant (sym c.if-owes_report_of.ensures)

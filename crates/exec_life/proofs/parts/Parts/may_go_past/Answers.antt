use Rattle.std.proofs.Common.{◌&&◌, ◌<◌, ℕ, Bool, sym, arith}
use Rattle.std.proofs.lemmas.Bool.{and_parts}
use Rattle.std.specs.Prelude.{◌==◌}
use Rattle.life_rules.specs.declared.event.SourceRef.TheVariants.{Scope}
use Rattle.life_rules.specs.Scans.{is_next_in}
use Rattle.life_rules.specs.States.{is_place, name_of, size}
use Rattle.exec_life.specs.Parts.{shown}
use Rattle.exec_life.proofs.Below.{some_below-found}
use Rattle.exec_life.proofs.parts.Parts.may_go_past.Goals as goal

pub returns-then-may_run : goal.returns-then-may_run
returns-then-may_run c =
    let s = shown c.args.self.now in
    let v = s.view c.args.hand in
    let n = c.loop-node.node in
    let b = c.args.block in
    let test : ℕ → Bool = λ k. is_next_in s v Scope (name_of s b k) && v.runs (name_of s b k) == 0 in
    let within : n < size s = omega arith in
    let parts = and_parts (is_place s (record { block = b; node = n })) (test n) (sym c.if-may_run.ensures) in
    sym (some_below-found test (size s) n within parts.1)

use Rattle.std.proofs.Common.{◌*◌, ◌+◌, arith, ap}
use Rattle.std.proofs.lemmas.Bool.{and_parts, ltb-true}
use Rattle.std.proofs.lemmas.Nat.{mul-add-lt}
use Rattle.std.specs.Prelude.{nat_lt}
use Rattle.life_rules.specs.States.{size}
use Rattle.exec_life.specs.Parts.{shown}
use Rattle.exec_life.proofs.parts.Parts.index.Goals as goal

pub returns-clause-within : goal.returns-clause-within
returns-clause-within c =
    let s = shown c.args.self.now in
    let p = c.args.place in
    let parts = and_parts (nat_lt p.block s.blocks) (nat_lt p.node (size s)) c.requires.place in
    let within = mul-add-lt p.block (size s) p.node s.blocks (ltb-true _ _ parts.0) (ltb-true _ _ parts.1) in
    let e = ap (λ k. p.block * k + p.node) c.size.ensures.size in
    omega (arith, within, e)

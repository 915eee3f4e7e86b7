use Rattle.std.proofs.Common.{◌≡◌, ◌<◌, ℕ, Bool, length, sym, ap, ◌∙◌, arith}
use Rattle.std.specs.Prelude.{nat_lt}
use Rattle.std.proofs.lemmas.Bool.{and_from, lt-ltb}
use Rattle.exec_life.specs.StateLists.{machine}
use Rattle.life_rules.specs.Scans.{is_next_in}
use Rattle.life_rules.specs.States.{size, name_of}
use Rattle.life_rules.specs.StopSteps.{source_of}
use Rattle.step_reasons.proofs.Firsts.{first-start, first-found, first-next, first-end}
use Rattle.step_reasons.proofs.reading.next_node.Goals as goal

pub loop-node-init : goal.loop-node-init
loop-node-init c =
    let s = machine c.args.state.now in
    record {
      so_far = first-start (λ n. is_next_in s (s.view c.args.hand) (source_of s c.args.source) (name_of s c.args.block n)) (size s);
      size_is = c.size-size.ensures.size ∙ ap length c.tree.ensures;
    }

pub is_next_in-requires-clause-place : goal.is_next_in-requires-clause-place
is_next_in-requires-clause-place c =
    let s = machine c.args.state.now in
    and_from (nat_lt c.args.block s.blocks) (nat_lt c.loop-node.node (size s))
    (lt-ltb c.args.block s.blocks c.requires.block) (lt-ltb c.loop-node.node (size s) (omega (arith, c.loop-node.invariant.size_is)))

pub returns-then-is_next_in : goal.returns-then-is_next_in
returns-then-is_next_in c =
    let s = machine c.args.state.now in
    let test : ℕ → Bool = λ n. is_next_in s (s.view c.args.hand) (source_of s c.args.source) (name_of s c.args.block n) in
    let within : c.loop-node.node < size s = omega (arith, c.loop-node.invariant.size_is) in
    sym (first-found test (size s) c.loop-node.node within c.loop-node.invariant.so_far (sym c.is_next_in.ensures ∙ c.if-is_next_in.true))

pub loop-node-preserved : goal.loop-node-preserved
loop-node-preserved c =
    let s = machine c.args.state.now in
    let test : ℕ → Bool = λ n. is_next_in s (s.view c.args.hand) (source_of s c.args.source) (name_of s c.args.block n) in
    let within : c.loop-node.node < size s = omega (arith, c.loop-node.invariant.size_is) in
    record {
      so_far = first-next test (size s) c.loop-node.node within c.loop-node.invariant.so_far (sym c.is_next_in.ensures ∙ c.if-is_next_in.false);
      size_is = c.loop-node.invariant.size_is;
    }

pub returns : goal.returns
returns c =
    let s = machine c.args.state.now in
    let test : ℕ → Bool = λ n. is_next_in s (s.view c.args.hand) (source_of s c.args.source) (name_of s c.args.block n) in
    let all : c.loop-node.node ≡ size s = omega (arith, c.loop-node.invariant.size_is) in
    c.loop-node.invariant.size_is ∙ sym (first-end test (size s) c.loop-node.node all c.loop-node.invariant.so_far)

use Rattle.std.proofs.Common.{◌≡◌, ℕ, true, false, List, Result, length, sym, ap, ◌∙◌, subst, arith}
use Rattle.std.proofs.lemmas.Bool.{false≢true}
use Rattle.plan_parts.specs.Reading.{any_fault}
use Rattle.plan_builder.proofs.AddedLemmas.{length-with_node}
use Rattle.plan_rules.specs.Children.{named_by}
use Rattle.plan_rules.specs.declared.node.Node.{Node}
use Rattle.plan_shape.specs.declared.fault.BuildFault.{BuildFault}
use Rattle.plan_shape.specs.Refusals.{Adds}
use Rattle.plan_reader.specs.Roots.{AreRoots}
use Rattle.plan_reader.specs.Walked.{Walked, make}
use Rattle.plan_reader.specs.contracts.walk.Walk.{the_view}
use Rattle.plan_reader.proofs.WalkLemmas.{make-faulty, make-added, make-refused}
use Rattle.plan_reader.proofs.walk.Walk.make.Goals as goal

pub returns-then-any : goal.returns-then-any
returns-then-any c =
    let is : any_fault c.self.inside.faults ≡ true = grind arith in
    let P : Walked → Type 0 = λ w. w ≡ make c.args.node w in
    subst P c.self.view_is (make-faulty c.args.node (the_view c.self.inside) is)

pub returns-in-Ok : goal.returns-in-Ok
returns-in-Ok c =
    let is : any_fault c.self.inside.faults ≡ false = grind arith in
    let Q : Walked → Type 0 = λ w. AreRoots w (named_by c.args.node) in
    let roots = subst Q (sym c.self.view_is) c.requires.roots in
    make-added c.args.node (the_view c.self.inside) c.add.new.self c.add.result c.in-Ok.number
    is roots c.add.ensures c.in-Ok.is
    ∙ ap (make c.args.node) c.self.view_is

pub returns-else-is_memory : goal.returns-else-is_memory
returns-else-is_memory c =
    let is : any_fault c.self.inside.faults ≡ false = grind arith in
    let Q : Walked → Type 0 = λ w. AreRoots w (named_by c.args.node) in
    let roots = subst Q (sym c.self.view_is) c.requires.roots in
    make-refused c.args.node (the_view c.self.inside) c.add.new.self c.add.result c.in-Err.fault
    c.both-self-inside.result
    is roots c.add.ensures c.in-Err.is (λ memory. false≢true (c.if-is_memory.ensures.1 memory))
    c.both-self-inside.ensures
    ∙ ap (make c.args.node) c.self.view_is

-- the node that was made last is the last of the builder's
pub invariant_of-self : goal.invariant_of-self
invariant_of-self c =
    let nodes = c.self.inside.builder in
    let R : Result ℕ BuildFault → Type 0 = λ r. Adds nodes c.add.new.self c.args.node r in
    let taken = subst R c.in-Ok.is c.add.ensures in
    omega (
      arith,
      taken.number,
      ap (λ (ns : List Node). length ns) taken.added,
      length-with_node nodes c.args.node,
    )

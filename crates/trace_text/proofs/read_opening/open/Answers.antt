use Rattle.std.proofs.Common.{◌≡◌, ℕ, ◌+◌, List, [], Option, Ok, Err, sym, ap, ◌∙◌, arith}
use Rattle.std.specs.Option.{option_map_or}
use Rattle.node_tree.specs.declared.node.TreeNode.{TreeNode}
use Rattle.trace_text.specs.Reading.{setup_of}
use Rattle.trace_text.specs.Setups.{Setup}
use Rattle.trace_text.proofs.ReadLaws.{within-limits, first_fault-none, first_fault-some}
use Rattle.trace_text.proofs.read_opening.open.Goals as goal

pub overflow_add-result : goal.overflow_add-result
overflow_add-result c =
    let shape = c.in-Err-Shape.is ∙ ap (λ f. Err f) c.in-Err-Shape.field-0-is in
    let fault = (c.open.ensures.shape c.in-Err-Shape.node).0 shape in
    let few = (within-limits c.args.header c.requires.within).few_nodes in
    omega (arith, c.in-Err-Shape.node-is, fault.within, c.requires.nodes, few)

pub returns-in-Ok : goal.returns-in-Ok
returns-in-Ok c =
    let setup : Setup = setup_of c.args.header c.args.nodes.items in
    let same : setup ≡ c.new.result = ap (λ (l : List TreeNode). setup_of c.args.header l) (sym c.in-Ok.ensures.nodes) ∙ sym c.new.ensures in
    ap (λ (o : Option ℕ). option_map_or (λ n. Err (n + 2)) o (Ok (record { setup = setup; later = [] }))) (first_fault-none c.args.nodes.items c.in-Ok.ensures.tree)
    ∙ ap (λ (u : Setup). Ok (record { setup = u; later = [] })) same

pub returns-in-Err-Shape : goal.returns-in-Err-Shape
returns-in-Err-Shape c =
    let shape = c.in-Err-Shape.is ∙ ap (λ f. Err f) c.in-Err-Shape.field-0-is in
    let fault = (c.open.ensures.shape c.in-Err-Shape.node).0 shape in
    let some = (within-limits c.args.header c.requires.within).some_node in
    let number = sym c.in-Err-Shape.node-is in
    ap (λ (o : Option ℕ). option_map_or (λ n. Err (n + 2)) o (Ok (record { setup = setup_of c.args.header c.args.nodes.items; later = [] })))
    (first_fault-some c.args.nodes.items c.in-Err-Shape.node (omega (arith, some, c.requires.nodes)) fault)
    ∙ ap (λ (n : ℕ). Err (n + 2)) number

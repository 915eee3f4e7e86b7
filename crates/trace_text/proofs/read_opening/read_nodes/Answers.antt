use Rattle.std.proofs.Common.{◌≡◌, ℕ, ◌+◌, ◌-◌, List, [], ◌∷◌, ◌++◌, length, Some, None, Err, sym, ap, ◌∙◌, arith}
use Rattle.std.proofs.lemmas.List.{length_push}
use Rattle.node_tree.specs.declared.node.TreeNode.{TreeNode}
use Rattle.trace_text.specs.Reading.{Lines, lines_in, nodes_of}
use Rattle.trace_text.specs.Words.{Halves}
use Rattle.trace_text.proofs.ReadLaws.{lines_in-cut, nodes-none, nodes-read}
use Rattle.trace_text.proofs.read_opening.read_nodes.Goals as goal

pub returns-in_default-clause-read : goal.returns-in_default-clause-read
returns-in_default-clause-read c =
    let so_far = c.loop-number.invariant in
    let number : 2 + length c.loop-number.nodes.items ≡ c.loop-number.number + 2 = omega (arith, so_far.count) in
    sym so_far.read
    ∙ nodes-none c.args.total (c.args.total - c.loop-number.number) c.loop-number.lines.rest.now c.loop-number.nodes.items (omega arith) c.in_default.ensures
    ∙ ap (λ (n : ℕ). Err n) number

pub returns-in_default-read-clause-read : goal.returns-in_default-read-clause-read
returns-in_default-read-clause-read c =
    let so_far = c.loop-number.invariant in
    let number : 2 + length c.loop-number.nodes.items ≡ c.loop-number.number + 2 = omega (arith, so_far.count) in
    sym so_far.read
    ∙ nodes-read c.args.total (c.args.total - c.loop-number.number) c.loop-number.lines.rest.now c.loop-number.nodes.items _ None (omega arith) c.in-Some.ensures
    (sym c.in_default-read.is ∙ c.in-Ok.ensures)
    ∙ ap (λ (n : ℕ). Err n) number

pub loop-number-preserved : goal.loop-number-preserved
loop-number-preserved c =
    let so_far = c.loop-number.invariant in
    let total = c.args.total in
    let n = c.loop-number.number in
    let nodes = c.loop-number.nodes.items in
    let node = c.in-Some-read.node in
    let rest = c.loop-number.lines.rest.now in
    let later = c.next_line.new.self.rest.now in
    let h : Halves = record { front = c.in-Some.line.now; rest = later } in
    let more : c.push.new.self.items ≡ nodes ++ node ∷ [] = c.in-Ok-push.ensures.items in
    let left : total - (n + 1) ≡ total - n - 1 = omega arith in
    record {
      read =
          ap (λ (k : ℕ). nodes_of total k (lines_in later).ended c.push.new.self.items) left
          ∙ ap (λ (l : List TreeNode). nodes_of total (total - n - 1) (lines_in later).ended l) more
          ∙ sym (nodes-read total (total - n) rest nodes h (Some node) (omega arith) c.in-Some.ensures (sym c.in-Some-read.is ∙ c.in-Ok.ensures))
          ∙ so_far.read;
      left = sym (ap (λ (l : Lines). l.rest) (lines_in-cut rest h c.in-Some.ensures)) ∙ so_far.left;
      count = ap length more ∙ length_push nodes node ∙ ap (λ (k : ℕ). k + 1) so_far.count;
    }

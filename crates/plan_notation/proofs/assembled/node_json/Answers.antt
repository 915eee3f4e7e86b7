use Rattle.std.proofs.Common.{◌≡◌, ℕ, List, map, codes, sym, ap, subst, IfOk}
use Rattle.plan_reader.specs.declared.node_word.NodeWord.{NodeWord}
use Rattle.plan_reader.specs.declared.node_word.NodeWord.TheVariants as node
use Rattle.plan_notation.specs.Assembled.{five, node_json}
use Rattle.plan_notation.proofs.assembled.node_json.Goals as goal

pub returns-in-Bulk : goal.returns-in-Bulk
returns-in-Bulk c =
    let pieces = map (λ piece. piece.items) c.args.arguments.now in
    let same : five (codes "{\"child\":") c.args.child.now (codes ",\"do\":\"bulk\",\"job\":") c.piece_at-first.result.now (codes "}")
    ≡ node_json node.Bulk c.args.child.now pieces =
    ap (λ (job : List ℕ). five (codes "{\"child\":") c.args.child.now (codes ",\"do\":\"bulk\",\"job\":") job (codes "}")) c.piece_at-first.ensures in
    let told = subst (λ (bytes : List ℕ). IfOk c.five.result (λ text. text.items ≡ bytes)) same c.five.ensures in
    subst (λ (n : NodeWord). IfOk c.five.result (λ text. text.items ≡ node_json n c.args.child.now pieces)) (sym c.in-Bulk.is) told

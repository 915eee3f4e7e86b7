use Rattle.std.proofs.Common.{◌≡◌, ap, ◌∙◌, ℕ, arith}
use Rattle.life_rules.specs.States.{set_at}
use Rattle.exec_life.specs.Grids.{at}
use Rattle.exec_life.proofs.GridLemmas.{begun-more, ClearsRow-done}
use Rattle.exec_life.proofs.grid.Grid.clear_row.Goals as goal

pub loop-node-preserved : goal.loop-node-preserved
loop-node-preserved g c =
    let kept = c.loop-node.invariant in
    let b = c.args.block in
    let v = c.args.value in
    let n = c.loop-node.node in
    record {
      rows = c.set.ensures.size.rows ∙ kept.rows;
      columns = c.set.ensures.size.columns ∙ kept.columns;
      ends = kept.ends;
      cells =
          c.set.ensures.cell v
          ∙ ap (λ (f : ℕ → ℕ → g.row.T.Denot). set_at f b n v) kept.cells
          ∙ begun-more (at v c.args.self.now) b n v;
    }

pub returns : goal.returns
returns g c =
    let kept = c.loop-node.invariant in
    let n = c.loop-node.node in
    let all : n ≡ c.args.self.now.columns = omega (arith, kept.ends) in
    ClearsRow-done c.args.self.now c.loop-node.self c.args.block n c.args.value
    (record { rows = kept.rows; columns = kept.columns }) all kept.cells

use Rattle.exec_life.specs.Grids.{Cells}
use Rattle.exec_life.proofs.GridLemmas.{SetsCell-set}
use Rattle.exec_life.proofs.grid.Grid.set.Goals as goal

pub returns : goal.returns
returns g c =
    let inside : Cells g.row.T.Denot =
    record { rows = c.self.inside.rows; columns = c.self.inside.columns; cells = c.self.inside.cells.items } in
    SetsCell-set c.args.self.now inside c.args.place.block c.args.place.node c.args.value
    c.self.view_is c.self.invariant c.requires.row c.requires.column

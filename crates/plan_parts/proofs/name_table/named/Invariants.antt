use Rattle.std.proofs.Common.{◌≡◌, map, drop}
use Rattle.plan_parts.specs.Named.{named}
use Rattle.plan_parts.proofs.name_table.named.Given as goal

-- the name is that of no row that was passed
abbrev pub invariant-rows : goal.invariant-rows
invariant-rows g l =
    named (map (λ row. (row.0.now, row.1)) l.rows) l.name
    ≡ named (map (λ row. (row.0.now, row.1)) (drop l.row-index l.rows)) l.name

-- How the program is called.
use Rattle.std.specs.Prelude.{ℕ, List, ◌++◌, codes}

-- The lines that are told where words ask for nothing.
abbrev pub usage_lines : List ℕ
usage_lines =
    ((codes "usage: exec_run run PLAN [--workers N] [--window W] [--order fifo|lifo] [--summary]\n"
    ++ codes "usage: exec_run gen PLAN N [--workers N] [--window W] [--order fifo|lifo]\n")
    ++ codes "usage: exec_run replay FILE\n")
    ++ codes "usage: exec_run check FILE\n"

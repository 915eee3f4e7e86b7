-- How the program is called.
use Rattle.std.specs.Prelude.{ℕ, ◌++◌, List, codes}

abbrev pub show_usage_lines : List ℕ
show_usage_lines =
    codes "usage: exec_show plan FILE\n"
    ++ (codes "usage: exec_show trace FILE [--refused] [--from N] [--to M]\n"
    ++ (codes "usage: exec_show why FILE\n"
    ++ (codes "usage: exec_show write FILE\n" ++ codes "usage: exec_show text FILE\n")))

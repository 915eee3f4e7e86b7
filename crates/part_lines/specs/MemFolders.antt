-- The files of a folder in memory.
use Rattle.std.specs.Prelude.{ℕ, List, string_bytes}
use Rattle.part_lines.specs.declared.mem_folder.Named.{Named}

-- A name, and the text of its file.
abbrev pub named_text : Named → (List ℕ × List ℕ)
named_text file = (string_bytes file.name, file.text.items)

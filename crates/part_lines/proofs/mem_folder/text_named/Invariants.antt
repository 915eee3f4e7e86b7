use Rattle.std.proofs.Common.{◌≡◌, drop, map}
use Rattle.exec_io.specs.Shelves.{text_of}
use Rattle.part_lines.specs.MemFolders.{named_text}
use Rattle.part_lines.proofs.mem_folder.text_named.Given as goal

-- the names passed so far aren't this one
abbrev pub invariant-loop-file : goal.invariant-loop-file
invariant-loop-file l = text_of (map named_text l.files) l.name ≡ text_of (map named_text (drop l.file-index l.files)) l.name

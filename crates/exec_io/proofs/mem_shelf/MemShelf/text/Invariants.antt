use Rattle.std.proofs.Common.{◌≡◌, drop}
use Rattle.exec_io.specs.Memory.{named_texts}
use Rattle.exec_io.specs.Shelves.{text_of}
use Rattle.exec_io.proofs.mem_shelf.MemShelf.text.Given as goal

-- the names passed so far aren't this one
abbrev pub invariant-loop-i : goal.invariant-loop-i
invariant-loop-i l =
    let texts = named_texts l.self-inside.names.items l.self-inside.texts.items in
    text_of texts l.name ≡ text_of (drop l.i texts) l.name

-- What notes say.
use Rattle.std.specs.Prelude.{ℕ, List, [], codes}
use Rattle.exec_words.specs.Usage.{usage_lines}
use Rattle.exec_status.specs.declared.status.Status.{Status}
use Rattle.exec_status.specs.declared.status.Status.TheVariants.{Usage, NoMemory, ReadFault, WriteFault, Limit}

-- What is told of a status. Of a refused file the refusal is told.
abbrev pub note_of : Status → List ℕ
note_of Usage = usage_lines
note_of NoMemory = codes "out of memory\n"
note_of ReadFault = codes "read fault\n"
note_of WriteFault = codes "write fault\n"
note_of Limit = codes "limit\n"
note_of _ = []

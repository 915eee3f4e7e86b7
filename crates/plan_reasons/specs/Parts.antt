-- The keys of plans, nodes and jobs, and what each takes.
use Rattle.std.specs.Prelude.{ℕ, Bool, true, false, List, codes}
use Rattle.plan_reasons.specs.declared.part.Part.{Part}
use Rattle.plan_reasons.specs.declared.part.Part.TheVariants.{Do, Root, Child, First, Second, Children, Bodies, Job, Pick, Values, Error, On, Turns, Query, Of, JobName, N, Lo, Hi, Text, I, Else, Version, Input, Scope, StopAfter, OnError}

-- a key by its name
abbrev pub part_key : Part → List ℕ
part_key Do = codes "do"
part_key Root = codes "root"
part_key Child = codes "child"
part_key First = codes "first"
part_key Second = codes "second"
part_key Children = codes "children"
part_key Bodies = codes "bodies"
part_key Job = codes "job"
part_key Pick = codes "pick"
part_key Values = codes "values"
part_key Error = codes "error"
part_key On = codes "on"
part_key Turns = codes "turns"
part_key Query = codes "query"
part_key Of = codes "of"
part_key JobName = codes "job"
part_key N = codes "n"
part_key Lo = codes "lo"
part_key Hi = codes "hi"
part_key Text = codes "text"
part_key I = codes "i"
part_key Else = codes "else"
part_key Version = codes "version"
part_key Input = codes "input"
part_key Scope = codes "scope"
part_key StopAfter = codes "stop_after"
part_key OnError = codes "on_error"

-- what stands at a key
abbrev pub wanted_at : Part → List ℕ
wanted_at Do = codes "a string"
wanted_at Root = codes "a node"
wanted_at Child = codes "a node"
wanted_at First = codes "a node"
wanted_at Second = codes "a node"
wanted_at Children = codes "an array of 2 to 64 nodes"
wanted_at Bodies = codes "an array of 1 to 16 nodes"
wanted_at Job = codes "a job"
wanted_at Pick = codes "a job"
wanted_at Values = codes "an array of at most 64 constants"
wanted_at Error = codes "a name of 1 to 64 letters, digits, -, _, . and @"
wanted_at On = codes "loop or pool"
wanted_at Turns = codes "an integer from 0 to 1000000"
wanted_at Query = codes "stop or record"
wanted_at Of = codes "int or text"
wanted_at JobName = codes "a string"
wanted_at N = codes "an integer of 64 bits"
wanted_at Lo = codes "an integer of 64 bits"
wanted_at Hi = codes "an integer of 64 bits"
wanted_at Text = codes "a string of at most 4096 bytes"
wanted_at I = codes "an integer from 0 to 63"
wanted_at Else = codes "an integer of 64 bits or a string of at most 4096 bytes"
wanted_at Version = codes "1 or 2"
wanted_at Input = codes "int, text or row"
wanted_at Scope = codes "simple or counting"
wanted_at StopAfter = codes "an integer from 1 to 1000000"
wanted_at OnError = codes "go or stop"

-- the constants of a node or a job, of which one may be wrong
abbrev pub is_values : Part → Bool
is_values Values = true
is_values part = false

-- What is told of a plan that is refused.
use Rattle.std.specs.Prelude.{◌≡◌, ℕ, List, codes, Option}
use Rattle.exec_io.specs.Shelves.{Texts}
use Rattle.plan_reader.specs.declared.fault.PlanFault.{PlanFault}
use Rattle.plan_reader.specs.declared.fault.PlanFault.TheVariants.{TooLong, NotJson, Form, UnknownName, Limit, Kinds, Excluded, NoMemory as NoPlanMemory}
use Rattle.exec_engine.specs.Opening.{HasPlanRefusal}

-- What is told of a plan that is refused, by the first cause in this order.
abbrev pub refusal_of : PlanFault → List ℕ
refusal_of TooLong = codes "plan refused: P1 too long\n"
refusal_of NotJson = codes "plan refused: P2 not JSON\n"
refusal_of Form = codes "plan refused: P3 form\n"
refusal_of UnknownName = codes "plan refused: P4 unknown name\n"
refusal_of Limit = codes "plan refused: P5 limit\n"
refusal_of Kinds = codes "plan refused: P6 kinds\n"
refusal_of Excluded = codes "plan refused: P7 settings exclude each other\n"
refusal_of NoPlanMemory = codes "out of memory\n"

-- The plan of this name is refused with this note.
abbrev pub IsPlanRefusedWith : Option Texts → List ℕ → List ℕ → Type 0
IsPlanRefusedWith texts name note =
    (fault : PlanFault) × HasPlanRefusal texts name fault × (note ≡ refusal_of fault)

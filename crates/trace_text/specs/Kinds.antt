-- The events of the kinds that have only a block, only a place, or nothing beside them.
use Rattle.std.specs.Prelude.{ℕ, List, codes}
use Rattle.life_rules.specs.declared.event.Event.{Event}
use Rattle.life_rules.specs.declared.event.Event.TheVariants.{Claim, Begin, Take, Finish, Report, Release, Arm, EndRun, Withdraw, WithdrawOwn, Skip, Rouse, Enter, MarkUsed, Leave, Close, Join}
use Rattle.life_rules.specs.declared.event.Place.{Place}
use Rattle.trace_text.specs.declared.kinds.BlockKind.{BlockKind}
use Rattle.trace_text.specs.declared.kinds.BlockKind.TheVariants.{Claim as AClaim, Release as ARelease, Skip as ASkip}
use Rattle.trace_text.specs.declared.kinds.PlaceKind.{PlaceKind}
use Rattle.trace_text.specs.declared.kinds.PlaceKind.TheVariants.{Begin as ABegin, Take as ATake, Finish as AFinish, Report as AReport, Arm as AnArm, EndRun as AnEndRun, Withdraw as AWithdraw, WithdrawOwn as AWithdrawOwn, Rouse as ARouse}
use Rattle.trace_text.specs.declared.kinds.BareKind.{BareKind}
use Rattle.trace_text.specs.declared.kinds.BareKind.TheVariants.{Enter as AnEnter, MarkUsed as AMarkUsed, Leave as ALeave, Close as AClose, Join as AJoin}

abbrev pub block_event : BlockKind → ℕ → Event
block_event AClaim b = Claim b
block_event ARelease b = Release b
block_event ASkip b = Skip b

abbrev pub place_event : PlaceKind → Place → Event
place_event ABegin p = Begin p
place_event ATake p = Take p
place_event AFinish p = Finish p
place_event AReport p = Report p
place_event AnArm p = Arm p
place_event AnEndRun p = EndRun p
place_event AWithdraw p = Withdraw p
place_event AWithdrawOwn p = WithdrawOwn p
place_event ARouse p = Rouse p

abbrev pub bare_event : BareKind → Event
bare_event AnEnter = Enter
bare_event AMarkUsed = MarkUsed
bare_event ALeave = Leave
bare_event AClose = Close
bare_event AJoin = Join

-- how a text calls each kind
abbrev pub block_name : BlockKind → List ℕ
block_name AClaim = codes "claim"
block_name ARelease = codes "release"
block_name ASkip = codes "skip"

abbrev pub place_name : PlaceKind → List ℕ
place_name ABegin = codes "begin"
place_name ATake = codes "take"
place_name AFinish = codes "finish"
place_name AReport = codes "report"
place_name AnArm = codes "arm"
place_name AnEndRun = codes "end_run"
place_name AWithdraw = codes "withdraw"
place_name AWithdrawOwn = codes "withdraw_own"
place_name ARouse = codes "rouse"

abbrev pub bare_name : BareKind → List ℕ
bare_name AnEnter = codes "enter"
bare_name AMarkUsed = codes "mark_used"
bare_name ALeave = codes "leave"
bare_name AClose = codes "close"
bare_name AJoin = codes "join"

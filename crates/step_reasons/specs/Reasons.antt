-- Why a hand may not take a step.
use Rattle.std.specs.Prelude.{ℕ, nat_lt, Option, None}
use Rattle.life_rules.specs.declared.event.Event.{Event}
use Rattle.life_rules.specs.declared.event.Event.TheVariants.{Claim, Begin, Await, Rest, Take, Finish, Report, Release, Arm, Look, Request, Run, EndRun, Withdraw, WithdrawOwn, SealScan, Skip, Rouse, Enter, MarkUsed, Leave, Close, Join, Seal}
use Rattle.life_rules.specs.States.{State}
use Rattle.step_reasons.specs.declared.fact.Fact.{Fact}
use Rattle.step_reasons.specs.declared.fact.Fact.TheVariants.{NoHand}
use Rattle.step_reasons.specs.LifeReasons.{claim_reason, begin_reason, await_reason, rest_reason, take_reason, finish_reason, report_reason, release_reason}
use Rattle.step_reasons.specs.StopReasons.{arm_reason, look_reason, request_reason, run_reason, end_run_reason, withdraw_reason, withdraw_own_reason, seal_scan_reason, skip_reason, rouse_reason, enter_reason, mark_used_reason, leave_scope_reason, seal_reason}
use Rattle.step_reasons.specs.Unless.{unless}

-- the first need of the event that doesn't hold, by its reason; none where it may happen
abbrev pub event_reason : State → ℕ → Event → Option Fact
event_reason s h (Claim block) = claim_reason s block
event_reason s h (Begin place) = begin_reason s h place
event_reason s h (Await place children) = await_reason s h place children
event_reason s h (Rest place to) = rest_reason s h place
event_reason s h (Take place) = take_reason s h place
event_reason s h (Finish place) = finish_reason s h place
event_reason s h (Report place) = report_reason s h place
event_reason s h (Release block) = release_reason s h block
event_reason s h (Arm place) = arm_reason s h place
event_reason s h (Look source after) = look_reason s h source after
event_reason s h (Request source failure) = request_reason s h source failure
event_reason s h (Run source place) = run_reason s h source place
event_reason s h (EndRun place) = end_run_reason s h place None
event_reason s h (Withdraw place) = withdraw_reason s h place
event_reason s h (WithdrawOwn place) = withdraw_own_reason s h place
event_reason s h (SealScan source) = seal_scan_reason s h source
event_reason s h (Skip block) = skip_reason s h block
event_reason s h (Rouse place) = rouse_reason s h place
event_reason s h Enter = enter_reason s h
event_reason s h MarkUsed = mark_used_reason s h
event_reason s h Leave = leave_scope_reason s h
event_reason s h Close = None
event_reason s h Join = None
event_reason s h (Seal expected) = seal_reason s expected

-- why the hand may not take the step; none where it may
abbrev pub reason_of : State → ℕ → Event → Option Fact
reason_of s h event = unless (nat_lt h s.hands) (NoHand h) (event_reason s h event)

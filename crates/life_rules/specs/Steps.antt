-- The step relation: which hand may do what in which state, and what the state is then.
use Rattle.std.specs.Prelude.{◌≡◌, ℕ, ◌<◌, Bool, true, ◌&&◌, nat_lt, if◌then◌else◌, List, [], ◌∷◌}
use Rattle.life_rules.specs.declared.event.Event.{Event}
use Rattle.life_rules.specs.declared.event.Event.TheVariants.{Claim, Begin, Await, Rest, Take, Finish, Report, Release, Arm, Look, Request, Run, EndRun, Withdraw, WithdrawOwn, SealScan, Skip, Rouse, Enter, MarkUsed, Leave, Close, Join, Seal}
use Rattle.life_rules.specs.States.{State}
use Rattle.life_rules.specs.LifeSteps.{may_claim, after_claim, may_begin, after_begin, may_await, after_await, may_rest, after_rest, may_take, after_take, may_finish, after_finish, may_report, after_report, may_release, after_release}
use Rattle.life_rules.specs.StopSteps.{may_arm, after_arm, may_look, after_look, may_request, after_request, may_run, after_run, may_end_run, after_end_run, may_withdraw, after_withdraw, may_withdraw_own, after_withdraw_own, may_seal_scan, after_seal_scan, may_skip, after_skip}
use Rattle.life_rules.specs.ScopeSteps.{may_rouse, after_rouse, may_enter, after_enter, may_mark_used, after_mark_used, may_leave, after_leave, after_close, after_join, may_seal_as, after_seal}

-- what the event needs, of the words and of the hand's own view
abbrev pub may_happen : State → ℕ → Event → Bool
may_happen s h (Claim block) = may_claim s h block
may_happen s h (Begin place) = may_begin s h place
may_happen s h (Await place children) = may_await s h place children
may_happen s h (Rest place to) = may_rest s h place
may_happen s h (Take place) = may_take s h place
may_happen s h (Finish place) = may_finish s h place
may_happen s h (Report place) = may_report s h place
may_happen s h (Release block) = may_release s h block
may_happen s h (Arm place) = may_arm s h place
may_happen s h (Look source after) = may_look s h source after
may_happen s h (Request source failure) = may_request s h source failure
may_happen s h (Run source place) = may_run s h source place
may_happen s h (EndRun place) = may_end_run s h place
may_happen s h (Withdraw place) = may_withdraw s h place
may_happen s h (WithdrawOwn place) = may_withdraw_own s h place
may_happen s h (SealScan source) = may_seal_scan s h source
may_happen s h (Skip block) = may_skip s h block
may_happen s h (Rouse place) = may_rouse s h place
may_happen s h Enter = may_enter s h
may_happen s h MarkUsed = may_mark_used s h
may_happen s h Leave = may_leave s h
may_happen s h Close = true
may_happen s h Join = true
may_happen s h (Seal expected) = may_seal_as s expected

-- the state after it
abbrev pub after : State → ℕ → Event → State
after s h (Claim block) = after_claim s h block
after s h (Begin place) = after_begin s h place
after s h (Await place children) = after_await s h place children
after s h (Rest place to) = after_rest s h place to
after s h (Take place) = after_take s h place
after s h (Finish place) = after_finish s h place
after s h (Report place) = after_report s h place
after s h (Release block) = after_release s h block
after s h (Arm place) = after_arm s h place
after s h (Look source after_arming) = after_look s h source after_arming
after s h (Request source failure) = after_request s h source failure
after s h (Run source place) = after_run s h source place
after s h (EndRun place) = after_end_run s h place
after s h (Withdraw place) = after_withdraw s h place
after s h (WithdrawOwn place) = after_withdraw_own s h place
after s h (SealScan source) = after_seal_scan s h source
after s h (Skip block) = after_skip s h block
after s h (Rouse place) = after_rouse s h place
after s h Enter = after_enter s h
after s h MarkUsed = after_mark_used s h
after s h Leave = after_leave s h
after s h Close = after_close s
after s h Join = after_join s
after s h (Seal expected) = after_seal s

-- the hand takes the step
pub record Step (old : State) (hand : ℕ) (event : Event) (new : State) : Type 0 where
  pub hand_is : hand < old.hands
  pub needs : may_happen old hand event ≡ true
  pub gives : new ≡ after old hand event

-- what one hand tries
pub record Move : Type 0 where
  pub hand : ℕ
  pub event : Event

-- it is a step of its hand in this state
abbrev pub is_step : State → Move → Bool
is_step s m = nat_lt m.hand s.hands && may_happen s m.hand m.event

-- a move that is no step changes nothing
abbrev pub moved : State → Move → State
moved s m = if is_step s m then after s m.hand m.event else s

-- the state after a whole list of moves, in their order
abbrev pub run : List Move → State → State
run [] s = s
run (m ∷ ms) s = run ms (moved s m)

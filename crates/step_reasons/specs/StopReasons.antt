-- Why a hand may not take a step of stop sources, of callbacks or of the scope: the needs of each
-- step, and the reason where one doesn't hold.
use Rattle.std.specs.Prelude.{ℕ, Bool, true, false, not, ◌&&◌, ◌||◌, ◌==◌, nat_le, nat_lt, if◌then◌else◌, Option, Some, None, is_some}
use Rattle.life_rules.specs.declared.event.Place.{Place}
use Rattle.life_rules.specs.declared.event.SourceAt.{SourceAt}
use Rattle.life_rules.specs.declared.event.SourceAt.TheVariants.{Scope, At}
use Rattle.life_rules.specs.declared.event.SourceRef.TheVariants.{Node}
use Rattle.life_rules.specs.declared.scope.ScopeWord.{ScopeWord}
use Rattle.life_rules.specs.ScopeSteps.{may_enter, may_mark_used, may_leave, may_seal_as}
use Rattle.life_rules.specs.States.{State, is_place, name_at, control_at, phase_at, nearest_of}
use Rattle.life_rules.specs.StopSteps.{source_of, is_source, may_look, may_request, may_run, may_seal_scan, may_skip}
use Rattle.life_rules.specs.Scans.{is_nearest}
use Rattle.life_rules.specs.Views.{is_scanning}
use Rattle.life_rules.specs.Words.{is_free, is_never, is_armed, is_running, has_run, is_parked}
use Rattle.step_reasons.specs.declared.fact.Fact.{Fact}
use Rattle.step_reasons.specs.declared.fact.Fact.TheVariants.{NoBlock, NoPlace, NoSource, HearsFrom, Scans, ScansNot, GoesOnWith, NothingToLookAfter, NothingToRequest, RunsNot, InTheMaking, BeingRefused, NoneInTheMaking, NoneToLeave, ScopeIs}
use Rattle.step_reasons.specs.LifeReasons.{stands, calls_back, block_is}
use Rattle.step_reasons.specs.Scanning.{nearest_source, scans, next_place}
use Rattle.step_reasons.specs.Unless.{unless}

abbrev pub arm_reason : State → ℕ → Place → Option Fact
arm_reason s h p =
    unless (is_place s p) (NoPlace p)
    (unless (nat_le 1 ((s.view h).holds (name_at s p))) (stands s p)
    (unless (is_never (phase_at s (name_at s p))) (calls_back s p)
    (unless (is_some (nearest_of s (name_at s p))) (HearsFrom p (nearest_source s p)) None)))

abbrev pub look_reason : State → ℕ → SourceAt → Option Place → Option Fact
look_reason s h at None = unless (is_source s at) (NoSource at) None
look_reason s h at (Some p) =
    unless (is_place s p) (NoPlace p)
    (unless (is_nearest s (source_of s at) (name_at s p)) (HearsFrom p (nearest_source s p))
    (unless ((s.view h).unlooked (name_at s p)) (NothingToLookAfter h at p) None))

abbrev pub request_reason : State → ℕ → SourceAt → Bool → Option Fact
request_reason s h at failure =
    unless (is_source s at) (NoSource at)
    (unless (may_request s h at failure) (NothingToRequest h at failure) None)

-- the hand makes a scan of the source; where it does, the scan goes on elsewhere
abbrev pub scan_reason : State → ℕ → SourceAt → Fact
scan_reason s h at =
    if scans s h at then GoesOnWith h at (next_place s h at) else ScansNot h at

abbrev pub run_reason : State → ℕ → SourceAt → Place → Option Fact
run_reason s h at p =
    unless (is_place s p) (NoPlace p)
    (unless ((s.view h).runs (name_at s p) == 0) (calls_back s p)
    (unless (may_run s h at p) (scan_reason s h at) None))

abbrev pub end_run_reason : State → ℕ → Place → Option Fact → Option Fact
end_run_reason s h p rest =
    unless (is_place s p) (NoPlace p)
    (unless (nat_le 1 ((s.view h).runs (name_at s p))) (calls_back s p)
    (unless (not (is_scanning (s.view h) (Node (name_at s p)))) (Scans h (At p)) rest))

abbrev pub withdraw_reason : State → ℕ → Place → Option Fact
withdraw_reason s h p =
    let phase = phase_at s (name_at s p) in
    unless (is_place s p) (NoPlace p)
    (unless (nat_le 1 ((s.view h).holds (name_at s p))) (stands s p)
    (unless ((s.view h).runs (name_at s p) == 0) (calls_back s p)
    (unless (is_armed phase || (is_running phase || has_run phase)) (calls_back s p) None)))

abbrev pub withdraw_own_reason : State → ℕ → Place → Option Fact
withdraw_own_reason s h p =
    end_run_reason s h p (unless (nat_le 1 ((s.view h).holds (name_at s p))) (stands s p) None)

abbrev pub seal_scan_reason : State → ℕ → SourceAt → Option Fact
seal_scan_reason s h at =
    unless (is_source s at) (NoSource at)
    (unless (may_seal_scan s h at) (scan_reason s h at) None)

abbrev pub skip_reason : State → ℕ → ℕ → Option Fact
skip_reason s h b =
    unless (nat_lt b s.blocks) (NoBlock b)
    (unless (is_free (s.block b).state) (block_is s b)
    (unless (may_skip s h b) (scan_reason s h Scope) None))

abbrev pub rouse_reason : State → ℕ → Place → Option Fact
rouse_reason s h p =
    unless (is_place s p) (NoPlace p)
    (unless (is_parked (control_at s (name_at s p))) (stands s p)
    (unless (nat_le 1 ((s.view h).runs (name_at s p)) || h == 0) (RunsNot h p) None))

-- an association of the hand is in the making, or being refused
abbrev pub enter_reason : State → ℕ → Option Fact
enter_reason s h =
    unless (may_enter s h) (if may_mark_used s h then InTheMaking h else BeingRefused h) None

abbrev pub mark_used_reason : State → ℕ → Option Fact
mark_used_reason s h = unless (may_mark_used s h) (NoneInTheMaking h) None

abbrev pub leave_scope_reason : State → ℕ → Option Fact
leave_scope_reason s h = unless (may_leave s h) (NoneToLeave h) None

abbrev pub seal_reason : State → ScopeWord → Option Fact
seal_reason s expected = unless (may_seal_as s expected) (ScopeIs s.scope) None

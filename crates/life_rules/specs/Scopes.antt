-- How a scope's word reads, and when it turns an association away (P3149, [exec.scope]).
use Rattle.std.specs.Prelude.{ℕ, Bool, not, ◌&&◌, ◌==◌, nat_le, if◌then◌else◌, Option, Some, None, is_some}
use Rattle.life_rules.specs.declared.scope.ScopeWord.{ScopeWord}
use Rattle.life_rules.specs.declared.scope.ScopeState.{ScopeState}
use Rattle.life_rules.specs.declared.scope.ScopeState.TheVariants.{Unused, Open, OpenAndJoining, Closed, ClosedAndJoining, UnusedAndClosed, Joined}
use Rattle.life_rules.specs.declared.scope.Refused.{Refused}
use Rattle.life_rules.specs.declared.scope.Refused.TheVariants.{AtMost, Closed as ByClosed, Joined as ByJoined}

-- joined where that bit is set; else joining, unused or open, each of them closed or not. A count
-- above 0 with the used bit clear reads as used: an association is in the making
abbrev pub scope_state : ScopeWord → ScopeState
scope_state w =
    if w.joined then Joined else (
    if w.joining then (if w.closed then ClosedAndJoining else OpenAndJoining) else (
    if not w.used && w.count == 0 then (if w.closed then UnusedAndClosed else Unused) else (
    if w.closed then Closed else Open)))

-- why an association is refused, in this order: joined, closed, as many as the scope takes
abbrev pub refusal : ScopeWord → ℕ → Option Refused
refusal w most =
    if w.joined then Some ByJoined else (
    if w.closed then Some ByClosed else (
    if nat_le most w.count then Some (AtMost w.count) else None))

abbrev pub is_refused : ScopeWord → ℕ → Bool
is_refused w most = is_some (refusal w most)

-- the scope is joining, and its count came to 0
abbrev pub may_seal : ScopeWord → Bool
may_seal w = w.joining && not w.joined && w.count == 0

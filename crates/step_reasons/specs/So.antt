-- When what a reason says is so in a state.
use Rattle.std.specs.Prelude.{◌≡◌, false, true, nat_lt, Some}
use Rattle.life_rules.specs.ScopeSteps.{may_enter, may_mark_used, may_leave}
use Rattle.life_rules.specs.States.{State, is_place}
use Rattle.life_rules.specs.StopSteps.{is_source, may_look, may_request}
use Rattle.node_tree.specs.Tree.{is_child}
use Rattle.step_reasons.specs.declared.fact.Fact.{Fact}
use Rattle.step_reasons.specs.declared.fact.Fact.TheVariants.{NoHand, NoBlock, NoPlace, NoSource, BlockIs, Stands, CallbackIs, HearsFrom, Scans, ScansNot, GoesOnWith, NamesNone, NamesTwice, NotChild, NothingToLookAfter, NothingToRequest, RunsNot, InTheMaking, BeingRefused, NoneInTheMaking, NoneToLeave, ScopeIs}
use Rattle.step_reasons.specs.declared.reading.Part.TheVariants.{Runs}
use Rattle.step_reasons.specs.Scanning.{nearest_source, scans, next_place}
use Rattle.step_reasons.specs.Standings.{standing_of, callback_of, has_part}

-- what the reason says is so: of a hand, a block and a place that are there, unless it says that
-- they aren't
abbrev pub IsSo : State → Fact → Type 0
IsSo s (NoHand h) = nat_lt h s.hands ≡ false
IsSo s (NoBlock b) = nat_lt b s.blocks ≡ false
IsSo s (NoPlace p) = is_place s p ≡ false
IsSo s (NoSource at) = is_source s at ≡ false
IsSo s (BlockIs b state) = (nat_lt b s.blocks ≡ true) × ((s.block b).state ≡ state)
IsSo s (Stands p standing) = (is_place s p ≡ true) × (standing_of s p ≡ standing)
IsSo s (CallbackIs p callback) = (is_place s p ≡ true) × (callback_of s p ≡ callback)
IsSo s (HearsFrom p nearest) = (is_place s p ≡ true) × (nearest_source s p ≡ nearest)
IsSo s (Scans h at) = (nat_lt h s.hands ≡ true) × (scans s h at ≡ true)
IsSo s (ScansNot h at) = (nat_lt h s.hands ≡ true) × (scans s h at ≡ false)
IsSo s (GoesOnWith h at next) =
    (nat_lt h s.hands ≡ true) × (scans s h at ≡ true) × (next_place s h at ≡ next)
IsSo s NamesNone = Unit {0}
IsSo s NamesTwice = Unit {0}
IsSo s (NotChild p child) = (is_place s p ≡ true) × (is_child s.tree p.node child ≡ false)
IsSo s (NothingToLookAfter h at p) =
    (nat_lt h s.hands ≡ true) × (may_look s h at (Some p) ≡ false)
IsSo s (NothingToRequest h at failure) =
    (nat_lt h s.hands ≡ true) × (may_request s h at failure ≡ false)
IsSo s (RunsNot h p) =
    (nat_lt h s.hands ≡ true) × (is_place s p ≡ true) × (has_part s Runs p h ≡ false)
IsSo s (InTheMaking h) = (nat_lt h s.hands ≡ true) × (may_mark_used s h ≡ true)
IsSo s (BeingRefused h) =
    (nat_lt h s.hands ≡ true) × (may_enter s h ≡ false) × (may_mark_used s h ≡ false)
IsSo s (NoneInTheMaking h) = (nat_lt h s.hands ≡ true) × (may_mark_used s h ≡ false)
IsSo s (NoneToLeave h) = (nat_lt h s.hands ≡ true) × (may_leave s h ≡ false)
IsSo s (ScopeIs word) = s.scope ≡ word

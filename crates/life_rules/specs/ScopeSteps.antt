-- The steps of the counting scope, and the step that wakes a parked node. `may_x` is what the step
-- x needs, `after_x` the state after it.
use Rattle.std.specs.Prelude.{ℕ, ◌+◌, ◌-◌, Bool, true, not, ◌&&◌, ◌||◌, ◌==◌, nat_le, if◌then◌else◌}
use Rattle.life_rules.specs.declared.words.ControlWord.TheVariants.{ReadyLoop}
use Rattle.life_rules.specs.declared.scope.ScopeWord.{ScopeWord}
use Rattle.life_rules.specs.declared.event.Place.{Place}
use Rattle.life_rules.specs.Words.{is_parked}
use Rattle.life_rules.specs.Scopes.{is_refused, may_seal}
use Rattle.life_rules.specs.Views.{View}
use Rattle.life_rules.specs.States.{State, is_place, name_at, control_at, with_view, with_control, with_scope}

-- rouse: the node is parked. The hand runs the node's callback, or is hand 0
abbrev pub may_rouse : State → ℕ → Place → Bool
may_rouse s h p =
    let x = name_at s p in
    is_place s p && (is_parked (control_at s x) && (nat_le 1 ((s.view h).runs x) || h == 0))

abbrev pub after_rouse : State → ℕ → Place → State
after_rouse s h p = with_control s p.block p.node ReadyLoop

-- enter: the hand has no association in the making or being refused
abbrev pub may_enter : State → ℕ → Bool
may_enter s h = (s.view h).making + (s.view h).refused == 0

-- the hand's view of the association that it entered, by the word that it read
abbrev pub entered : ScopeWord → ℕ → View → View
entered w most v =
    if is_refused w most then record v { refused = v.refused + 1 } else (
    if w.used then record v { made = v.made + 1 } else record v { making = v.making + 1 })

-- the count rises, also for an association that is refused
abbrev pub after_enter : State → ℕ → State
after_enter s h =
    let w = s.scope in
    with_view (with_scope s (record w { count = w.count + 1 })) h (entered w s.most (s.view h))

-- mark_used: the hand has an association in the making
abbrev pub may_mark_used : State → ℕ → Bool
may_mark_used s h = nat_le 1 (s.view h).making

abbrev pub after_mark_used : State → ℕ → State
after_mark_used s h =
    let v = s.view h in
    with_view (with_scope s (record s.scope { used = true })) h
    (record v { making = v.making - 1; made = v.made + 1 })

-- leave: the hand has an association that is made or being refused
abbrev pub may_leave : State → ℕ → Bool
may_leave s h = nat_le 1 ((s.view h).made + (s.view h).refused)

-- one that is being refused goes first
abbrev pub left : View → View
left v =
    if nat_le 1 v.refused
    then record v { refused = v.refused - 1 }
    else record v { made = v.made - 1 }

abbrev pub after_leave : State → ℕ → State
after_leave s h =
    let w = s.scope in
    with_view (with_scope s (record w { count = w.count - 1 })) h (left (s.view h))

abbrev pub after_close : State → State
after_close s = with_scope s (record s.scope { closed = true })

abbrev pub after_join : State → State
after_join s = with_scope s (record s.scope { joining = true })

abbrev pub agree : Bool → Bool → Bool
agree a b = if a then b else not b

abbrev pub same_word : ScopeWord → ScopeWord → Bool
same_word a b =
    agree a.used b.used
    && (agree a.closed b.closed
    && (agree a.joining b.joining && (agree a.joined b.joined && a.count == b.count)))

-- seal: the word is as expected, joining, not joined, and counts none
abbrev pub may_seal_as : State → ScopeWord → Bool
may_seal_as s expected = same_word s.scope expected && may_seal expected

abbrev pub after_seal : State → State
after_seal s = with_scope s (record s.scope { joined = true })

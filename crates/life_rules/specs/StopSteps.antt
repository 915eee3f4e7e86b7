-- The steps of stop sources and their callbacks ([stopsource], [stopcallback]). `may_x` is what the
-- step x needs, `after_x` the state after it.
use Rattle.std.specs.Prelude.{ℕ, zero, suc, ◌+◌, ◌*◌, Bool, true, false, not, ◌&&◌, ◌||◌, ◌==◌, nat_le, nat_lt, if◌then◌else◌, Option, Some, None, is_some}
use Rattle.std.specs.Option.{option_map_or}
use Rattle.life_rules.specs.declared.words.CallbackPhase.TheVariants.{Armed, Running, Ran, Removed}
use Rattle.node_tree.specs.declared.scope_kind.ScopeKind.{ScopeKind}
use Rattle.node_tree.specs.declared.scope_kind.ScopeKind.TheVariants.{Simple, Counting}
use Rattle.life_rules.specs.declared.event.Name.{Name}
use Rattle.life_rules.specs.declared.event.Place.{Place}
use Rattle.life_rules.specs.declared.event.SourceAt.{SourceAt}
use Rattle.life_rules.specs.declared.event.SourceAt.TheVariants.{Scope as AtScope, At}
use Rattle.life_rules.specs.declared.event.SourceRef.{SourceRef}
use Rattle.life_rules.specs.declared.event.SourceRef.TheVariants.{Scope, Node}
use Rattle.node_tree.specs.Tree.{is_child, has_source}
use Rattle.life_rules.specs.Words.{is_never, is_armed, is_running, has_run, is_free, is_idle}
use Rattle.life_rules.specs.Views.{View, same_source, beside, gain, lose, mark, note, scan_at, is_scanning}
use Rattle.life_rules.specs.States.{State, size, is_place, name_of, name_at, control_at, phase_at, bits_at, nearest_of, with_view, with_callback, with_bits}
use Rattle.life_rules.specs.Scans.{index, is_nearest, is_next_in, is_past_all}

abbrev pub source_of : State → SourceAt → SourceRef
source_of s AtScope = Scope
source_of s (At p) = Node (name_at s p)

-- the scope has a source, and so have some nodes
abbrev pub is_source : State → SourceAt → Bool
is_source s AtScope = true
is_source s (At p) = is_place s p && has_source s.tree p.node

-- some node below n is so
abbrev pub some_below : (ℕ → Bool) → ℕ → Bool
some_below test zero = false
some_below test (suc n) = some_below test n || test n

-- arm: the hand holds the node, whose callback place is none, and the node's nearest source is one
abbrev pub may_arm : State → ℕ → Place → Bool
may_arm s h p =
    let x = name_at s p in
    is_place s p
    && (nat_le 1 ((s.view h).holds x) && (is_never (phase_at s x) && is_some (nearest_of s x)))

-- the callback is registered, and the hand hasn't looked after it yet
abbrev pub after_arm : State → ℕ → Place → State
after_arm s h p =
    let v = s.view h in
    with_view (with_callback s p.block p.node Armed) h
    (record v { unlooked = mark (name_at s p) true v.unlooked })

-- look: at any source; or, after an arming that wasn't looked after yet, at that place's nearest
abbrev pub may_look : State → ℕ → SourceAt → Option Place → Bool
may_look s h at None = is_source s at
may_look s h at (Some p) =
    let x = name_at s p in
    is_place s p && ((s.view h).unlooked x && is_nearest s (source_of s at) x)

-- a request that is read is seen, and the place is looked after
abbrev pub after_look : State → ℕ → SourceAt → Option Place → State
after_look s h at None =
    let v = s.view h in
    let read = (bits_at s (source_of s at)).requested in
    with_view s h (record v { seen = note (source_of s at) read v.seen })
after_look s h at (Some p) =
    let v = s.view h in
    let x = name_at s p in
    let read = (bits_at s (source_of s at)).requested in
    with_view s h
    (record v {
      seen = note (source_of s at) read v.seen;
      unlooked = mark x false v.unlooked;
      seen_after = mark x (v.seen_after x || read) v.seen_after;
    })

-- the hand owes the report of a child of x
abbrev pub owes_report_below : State → View → Name → Bool
owes_report_below s v x =
    some_below (λ n. is_child s.tree x.node n && nat_le 1 (v.reports (beside x n))) (size s)

-- some child of x has begun
abbrev pub has_begun_below : State → Name → Bool
has_begun_below s x =
    some_below (λ n. is_child s.tree x.node n && not (is_idle (control_at s (beside x n)))) (size s)

-- the hand has seen the request on the node's nearest source
abbrev pub has_seen_nearest : State → View → Name → Bool
has_seen_nearest s v x = option_map_or v.seen (nearest_of s x) false

-- the hand passes the request of the nearest source on to x: it runs x's callback, or holds x
-- before its children begin and has seen that request
abbrev pub may_forward : State → View → Name → Bool
may_forward s v x =
    nat_le 1 (v.runs x)
    || (nat_le 1 (v.holds x) && (not (has_begun_below s x) && has_seen_nearest s v x))

-- the view has the name in some way that keeps its block from being released
abbrev pub has : View → Name → Bool
has v x = nat_le 1 (v.holds x + v.starts x + v.reports x + v.finished x + v.runs x)

-- the source can't go away under the hand: it is the scope's, or of an operation that the hand is
-- in
abbrev pub is_live_for : State → View → SourceRef → Bool
is_live_for s v Scope = true
is_live_for s v (Node x) = some_below (λ n. has v (beside x n)) (size s)

abbrev pub is_counting : ScopeKind → Bool
is_counting Simple = false
is_counting Counting = true

-- a first request: on the scope by hand 0, where its kind has a source; on a node because a child
-- failed, whose report the hand owes, or to pass a request on
abbrev pub may_request_first : State → ℕ → SourceAt → Bool → Bool
may_request_first s h AtScope failure = not failure && (h == 0 && is_counting s.kind)
may_request_first s h (At p) failure =
    if failure then owes_report_below s (s.view h) (name_at s p)
    else may_forward s (s.view h) (name_at s p)

-- a request again, by a hand that has seen it
abbrev pub may_repeat : State → View → SourceRef → Bool → Bool
may_repeat s v source failure = not failure && (v.seen source && is_live_for s v source)

abbrev pub may_request : State → ℕ → SourceAt → Bool → Bool
may_request s h at failure =
    is_source s at
    && (may_request_first s h at failure || may_repeat s (s.view h) (source_of s at) failure)

abbrev pub is_scope : SourceRef → Bool
is_scope Scope = true
is_scope (Node x) = false

-- the request stands, and is seen. The hand that made it begins a scan
abbrev pub after_request : State → ℕ → SourceAt → Bool → State
after_request s h at failure =
    let v = s.view h in
    let source = source_of s at in
    let bits = bits_at s source in
    let new = not bits.requested in
    with_view
    (with_bits s source (record bits { requested = true; failed = bits.failed || failure })) h
    (record v {
      seen = note source true v.seen;
      scan = if new then scan_at source (Some 0) v.scan else v.scan;
      requested = v.requested || (new && is_scope source);
    })

-- run: the place is the next of the hand's scan, and its callback doesn't run
abbrev pub may_run : State → ℕ → SourceAt → Place → Bool
may_run s h at p =
    let x = name_at s p in
    is_place s p
    && (is_next_in s (s.view h) (source_of s at) x && (s.view h).runs x == 0)

-- the scan goes on behind x
abbrev pub passed : State → SourceRef → Name → View → View
passed s source x v = record v { scan = scan_at source (Some (index s x + 1)) v.scan }

-- an armed callback runs now, and any other place is passed
abbrev pub after_run : State → ℕ → SourceAt → Place → State
after_run s h at p =
    let v = s.view h in
    let x = name_at s p in
    if is_armed (phase_at s x)
    then with_view (with_callback s p.block p.node Running) h (record v { runs = gain x v.runs })
    else with_view s h (passed s (source_of s at) x v)

-- the hand no longer runs x, and its scan has passed it
abbrev pub run_over : State → Name → View → View
run_over s x v =
    let w = record v { runs = lose x v.runs } in
    option_map_or (λ source. passed s source x w) (nearest_of s x) w

-- end_run: the hand runs the place, and makes no scan of the node's own source
abbrev pub may_end_run : State → ℕ → Place → Bool
may_end_run s h p =
    let x = name_at s p in
    is_place s p && (nat_le 1 ((s.view h).runs x) && not (is_scanning (s.view h) (Node x)))

abbrev pub after_end_run : State → ℕ → Place → State
after_end_run s h p =
    with_view (with_callback s p.block p.node Ran) h (run_over s (name_at s p) (s.view h))

-- withdraw: the hand holds the node and doesn't run its callback, which is armed, running or ran
abbrev pub may_withdraw : State → ℕ → Place → Bool
may_withdraw s h p =
    let x = name_at s p in
    let phase = phase_at s x in
    is_place s p
    && (nat_le 1 ((s.view h).holds x)
    && ((s.view h).runs x == 0 && (is_armed phase || (is_running phase || has_run phase))))

-- an armed callback is removed. One that runs or ran tells that its source is requested
abbrev pub after_withdraw : State → ℕ → Place → State
after_withdraw s h p =
    let v = s.view h in
    let x = name_at s p in
    if is_armed (phase_at s x)
    then with_callback s p.block p.node Removed
    else with_view s h
    (record v { seen = option_map_or (λ source. note source true v.seen) (nearest_of s x) v.seen })

-- withdraw_own: the hand holds the node and runs its callback, and doesn't scan the node's own
-- source
abbrev pub may_withdraw_own : State → ℕ → Place → Bool
may_withdraw_own s h p = may_end_run s h p && nat_le 1 ((s.view h).holds (name_at s p))

abbrev pub after_withdraw_own : State → ℕ → Place → State
after_withdraw_own s h p =
    with_view (with_callback s p.block p.node Removed) h (run_over s (name_at s p) (s.view h))

-- seal_scan: the hand's scan has passed all places
abbrev pub may_seal_scan : State → ℕ → SourceAt → Bool
may_seal_scan s h at =
    let source = source_of s at in
    is_source s at
    && option_map_or (λ i. is_past_all s source i) ((s.view h).scan source) false

abbrev pub after_seal_scan : State → ℕ → SourceAt → State
after_seal_scan s h at =
    let v = s.view h in
    let source = source_of s at in
    with_view (with_bits s source (record (bits_at s source) { scanned = true })) h
    (record v { scan = scan_at source None v.scan })

-- skip: the next place of the hand's scan of the scope lies in this block, which is free, and its
-- callback doesn't run
abbrev pub may_skip : State → ℕ → ℕ → Bool
may_skip s h b =
    let v = s.view h in
    nat_lt b s.blocks
    && (is_free (s.block b).state
    && some_below (λ n. is_next_in s v Scope (name_of s b n) && v.runs (name_of s b n) == 0)
    (size s))

-- the scan goes on in the next block
abbrev pub after_skip : State → ℕ → ℕ → State
after_skip s h b =
    let v = s.view h in
    with_view s h (record v { scan = scan_at Scope (Some ((b + 1) * size s)) v.scan })

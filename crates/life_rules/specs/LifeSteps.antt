-- The steps of an operation's life. `may_x` is what the step x needs, `after_x` the state after it.
use Rattle.std.specs.Prelude.{ℕ, ◌+◌, ◌-◌, ◌^◌, Bool, true, false, not, ◌&&◌, ◌||◌, ◌==◌, nat_le, nat_lt, if◌then◌else◌, List, [], ◌∷◌, length}
use Rattle.std.specs.List.{list_any, list_all}
use Rattle.std.specs.Option.{option_map_or}
use Rattle.life_rules.specs.declared.words.BlockWord.{BlockWord}
use Rattle.life_rules.specs.declared.words.BlockState.TheVariants.{Free, Open, Retired}
use Rattle.life_rules.specs.declared.words.ControlWord.TheVariants.{Idle, Busy, Done}
use Rattle.life_rules.specs.declared.words.CallbackPhase.TheVariants.{Never}
use Rattle.life_rules.specs.declared.event.Name.{Name}
use Rattle.life_rules.specs.declared.event.Place.{Place}
use Rattle.life_rules.specs.declared.event.Resting.{Resting}
use Rattle.life_rules.specs.declared.event.SourceRef.TheVariants.{Node}
use Rattle.common_lemmas.specs.Lists.{are_different}
use Rattle.node_tree.specs.Tree.{is_child, is_root, parent_of}
use Rattle.life_rules.specs.Words.{is_free, is_idle, is_armed, is_running, may_be_taken, one_less, pending, resting_at, clear}
use Rattle.life_rules.specs.Views.{View, beside, gain, lose, gain_each, is_scanning, forget}
use Rattle.life_rules.specs.States.{State, size, is_place, name_of, name_at, control_at, phase_at, with_view, with_block, with_control}

-- the view holds the node, and makes no scan of the node's own source
abbrev pub may_leave_node : View → Name → Bool
may_leave_node v x = nat_le 1 (v.holds x) && not (is_scanning v (Node x))

-- claim: the block is free
abbrev pub may_claim : State → ℕ → ℕ → Bool
may_claim s h b = nat_lt b s.blocks && is_free (s.block b).state

abbrev pub root_of : State → ℕ → Name
root_of s b = name_of s b (size s - 1)

-- the block is open at the same generation, and the hand owes the root's start
abbrev pub after_claim : State → ℕ → ℕ → State
after_claim s h b =
    let v = s.view h in
    with_view (with_block s b (record (s.block b) { state = Open })) h
    (record v { starts = gain (root_of s b) v.starts })

-- begin: the hand owes the start
abbrev pub may_begin : State → ℕ → Place → Bool
may_begin s h p = is_place s p && nat_le 1 ((s.view h).starts (name_at s p))

-- the hand holds the node
abbrev pub after_begin : State → ℕ → Place → State
after_begin s h p =
    let v = s.view h in
    let x = name_at s p in
    with_view (with_control s p.block p.node (Busy 0)) h
    (record v { starts = lose x v.starts; holds = gain x v.holds })

-- the node is a child of x that hasn't begun
abbrev pub may_be_awaited : State → Name → ℕ → Bool
may_be_awaited s x n = is_child s.tree x.node n && is_idle (control_at s (beside x n))

-- await: the hand holds the node, and names different children that haven't begun, at least one
abbrev pub may_await : State → ℕ → Place → List ℕ → Bool
may_await s h p nodes =
    is_place s p
    && (may_leave_node (s.view h) (name_at s p)
    && (nat_le 1 (length nodes)
    && (are_different nodes && list_all (may_be_awaited s (name_at s p)) nodes)))

-- the node waits for so many children, and the hand owes them their starts
abbrev pub after_await : State → ℕ → Place → List ℕ → State
after_await s h p nodes =
    let v = s.view h in
    let x = name_at s p in
    with_view (with_control s p.block p.node (Busy (length nodes))) h
    (record v { holds = lose x v.holds; starts = gain_each x nodes v.starts })

-- rest: the hand holds the node
abbrev pub may_rest : State → ℕ → Place → Bool
may_rest s h p = is_place s p && may_leave_node (s.view h) (name_at s p)

abbrev pub after_rest : State → ℕ → Place → Resting → State
after_rest s h p to =
    let v = s.view h in
    with_view (with_control s p.block p.node (resting_at to)) h
    (record v { holds = lose (name_at s p) v.holds })

-- take: the node rests, ready in a context that the hand serves, or parked
abbrev pub may_take : State → ℕ → Place → Bool
may_take s h p = is_place s p && may_be_taken (control_at s (name_at s p)) h

abbrev pub after_take : State → ℕ → Place → State
after_take s h p =
    let v = s.view h in
    with_view (with_control s p.block p.node (Busy 0)) h
    (record v { holds = gain (name_at s p) v.holds })

-- finish: the hand holds the node, whose callback isn't armed and doesn't run
abbrev pub may_finish : State → ℕ → Place → Bool
may_finish s h p =
    let phase = phase_at s (name_at s p) in
    is_place s p
    && (may_leave_node (s.view h) (name_at s p) && not (is_armed phase || is_running phase))

-- the node is done. The hand owes its report, or holds the finished root
abbrev pub after_finish : State → ℕ → Place → State
after_finish s h p =
    let v = s.view h in
    let x = name_at s p in
    with_view (with_control s p.block p.node Done) h
    (if is_root s.tree p.node
    then record v { holds = lose x v.holds; finished = gain x v.finished }
    else record v { holds = lose x v.holds; reports = gain x v.reports })

-- report: the hand owes the child's report, and makes no scan of the parent's source
abbrev pub may_report : State → ℕ → Place → Bool
may_report s h p =
    let v = s.view h in
    is_place s p
    && (nat_le 1 (v.reports (name_at s p))
    && option_map_or (λ q. not (is_scanning v (Node (name_of s p.block q))))
    (parent_of s.tree p.node) false)

-- the child's report to its parent x: one child less is pending, and after the last the hand holds
-- x
abbrev pub reported_to : State → ℕ → Place → Name → State
reported_to s h p x =
    let v = s.view h in
    let word = control_at s x in
    with_view (with_control s x.block x.node (one_less word)) h
    (if pending word == 1
    then record v { reports = lose (name_at s p) v.reports; holds = gain x v.holds }
    else record v { reports = lose (name_at s p) v.reports })

abbrev pub after_report : State → ℕ → Place → State
after_report s h p =
    option_map_or (λ q. reported_to s h p (name_of s p.block q)) (parent_of s.tree p.node) s

-- release: the hand holds the finished root
abbrev pub may_release : State → ℕ → ℕ → Bool
may_release s h b = nat_lt b s.blocks && nat_le 1 ((s.view h).finished (root_of s b))

-- the last generation of a block
abbrev pub last_generation : ℕ
last_generation = 2 ^ 32 - 1

-- a block that was given back: free at the next generation, or retired after its last
abbrev pub next_word : BlockWord → BlockWord
next_word w =
    if w.generation == last_generation
    then record { generation = w.generation; state = Retired }
    else record { generation = w.generation + 1; state = Free }

-- the block is given back. Its places read as at first, and no view notes anything of it any more
abbrev pub after_release : State → ℕ → ℕ → State
after_release s h b =
    let v = s.view h in
    record s {
      block = λ i. if i == b then next_word (s.block b) else s.block i;
      control = λ i n. if i == b then Idle else s.control i n;
      callback = λ i n. if i == b then Never else s.callback i n;
      source = λ i n. if i == b then clear else s.source i n;
      view = λ i. forget b (if i == h
          then record v { finished = lose (root_of s b) v.finished }
          else s.view i);
    }

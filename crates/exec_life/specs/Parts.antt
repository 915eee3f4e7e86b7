-- The parts of a state, as the lists that they are and the state that they mean.
use Rattle.std.specs.Prelude.{◌≡◌, ℕ, ◌+◌, ◌<◌, Bool, not, ◌&&◌, ◌==◌, nat_le}
use Rattle.life_rules.specs.declared.event.Name.{Name}
use Rattle.life_rules.specs.declared.event.Place.{Place}
use Rattle.life_rules.specs.declared.words.CallbackPhase.{CallbackPhase}
use Rattle.life_rules.specs.declared.event.SourceRef.TheVariants.{Scope}
use Rattle.life_rules.specs.Scans.{is_next_in}
use Rattle.life_rules.specs.States.{State, size, name_of, name_at, control_at, with_view, with_callback}
use Rattle.life_rules.specs.StopSteps.{some_below, has, run_over}
use Rattle.node_tree.specs.Tree.{is_child}
use Rattle.life_rules.specs.Views.{View, beside}
use Rattle.life_rules.specs.Words.{is_idle}
use Rattle.exec_life.specs.declared.parts.Parts.{Parts}
use Rattle.exec_life.specs.StateLists.{StateLists, machine, IsFitted, IsState}

-- the lists that the parts are
abbrev pub lists_of : Parts → StateLists
lists_of p =
    record { tree = p.tree; kind = p.kind; most = p.most; words = p.words; views = p.views.items }

-- the state that the parts mean
abbrev pub shown : Parts → State
shown p = machine (lists_of p)

-- the parts are those of a state, which has this hand
pub record IsReady (p : Parts) (hand : ℕ) : Type 0 where
  pub state : IsState (lists_of p)
  pub hand_is : hand < (shown p).hands

-- the lists fit, and mean this state
pub record Means (d : StateLists) (state : State) : Type 0 where
  pub fitted : IsFitted d
  pub state_is : machine d ≡ state

-- in how many ways the view has the name, its runs aside
abbrev pub roles_of : View → Name → ℕ
roles_of v x = v.holds x + v.starts x + v.reports x + v.finished x

-- the next place of the view's scan of the scope lies in this block, and its callback doesn't run
abbrev pub is_next_in_block : State → ℕ → ℕ → Bool
is_next_in_block s h b =
    let v = s.view h in
    some_below (λ n. is_next_in s v Scope (name_of s b n) && v.runs (name_of s b n) == 0) (size s)

-- the view is in the operation of this block
abbrev pub is_in_block : State → ℕ → ℕ → Bool
is_in_block s h b = some_below (λ n. has (s.view h) (name_of s b n)) (size s)

-- the node is a child of x, and the view owes its report
abbrev pub owes_report_of : State → View → Name → ℕ → Bool
owes_report_of s v x n = is_child s.tree x.node n && nat_le 1 (v.reports (beside x n))

-- the node is a child of x, and has begun
abbrev pub is_begun_child : State → Name → ℕ → Bool
is_begun_child s x n = is_child s.tree x.node n && not (is_idle (control_at s (beside x n)))

-- the state after the hand no longer runs the place, whose callback is then in this phase
abbrev pub after_run_over : State → ℕ → Place → CallbackPhase → State
after_run_over s h p phase =
    with_view (with_callback s p.block p.node phase) h (run_over s (name_at s p) (s.view h))

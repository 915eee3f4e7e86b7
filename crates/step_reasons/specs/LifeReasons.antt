-- Why a hand may not take a step of an operation's life: the needs of each step, in their order,
-- and the reason where one doesn't hold.
use Rattle.std.specs.Prelude.{ℕ, not, ◌-◌, ◌||◌, nat_le, nat_lt, List, [], ◌∷◌, length, Option, Some, None}
use Rattle.std.specs.Option.{option_map_or}
use Rattle.common_lemmas.specs.Lists.{are_different}
use Rattle.life_rules.specs.declared.event.Place.{Place}
use Rattle.life_rules.specs.declared.event.SourceAt.TheVariants.{At}
use Rattle.life_rules.specs.declared.event.SourceRef.TheVariants.{Node}
use Rattle.life_rules.specs.LifeSteps.{root_of}
use Rattle.life_rules.specs.States.{State, size, is_place, name_of, name_at, control_at, phase_at}
use Rattle.life_rules.specs.Views.{beside, is_scanning}
use Rattle.life_rules.specs.Words.{is_free, is_idle, is_armed, is_running, may_be_taken}
use Rattle.node_tree.specs.Tree.{is_child, parent_of}
use Rattle.step_reasons.specs.declared.fact.Fact.{Fact}
use Rattle.step_reasons.specs.declared.fact.Fact.TheVariants.{NoBlock, NoPlace, BlockIs, Stands, CallbackIs, Scans, NamesNone, NamesTwice, NotChild}
use Rattle.step_reasons.specs.Scanning.{place_of}
use Rattle.step_reasons.specs.Standings.{standing_of, callback_of}
use Rattle.step_reasons.specs.Unless.{unless}

-- how far the node has come
abbrev pub stands : State → Place → Fact
stands s p = Stands p (standing_of s p)

-- what has become of its callback
abbrev pub calls_back : State → Place → Fact
calls_back s p = CallbackIs p (callback_of s p)

abbrev pub block_is : State → ℕ → Fact
block_is s b = BlockIs b (s.block b).state

abbrev pub claim_reason : State → ℕ → Option Fact
claim_reason s b =
    unless (nat_lt b s.blocks) (NoBlock b) (unless (is_free (s.block b).state) (block_is s b) None)

abbrev pub begin_reason : State → ℕ → Place → Option Fact
begin_reason s h p =
    unless (is_place s p) (NoPlace p)
    (unless (nat_le 1 ((s.view h).starts (name_at s p))) (stands s p) None)

-- the hand holds the node, and makes no scan of its source
abbrev pub leave_reason : State → ℕ → Place → Option Fact → Option Fact
leave_reason s h p rest =
    unless (nat_le 1 ((s.view h).holds (name_at s p))) (stands s p)
    (unless (not (is_scanning (s.view h) (Node (name_at s p)))) (Scans h (At p)) rest)

-- each is a child of the node, and hasn't begun
abbrev pub child_reason : State → Place → ℕ → Option Fact → Option Fact
child_reason s p n rest =
    unless (is_child s.tree p.node n) (NotChild p n)
    (unless (is_idle (control_at s (beside (name_at s p) n))) (stands s (place_of p.block n)) rest)

abbrev pub children_reason : State → Place → List ℕ → Option Fact
children_reason s p [] = None
children_reason s p (n ∷ ns) = child_reason s p n (children_reason s p ns)

abbrev pub await_reason : State → ℕ → Place → List ℕ → Option Fact
await_reason s h p nodes =
    unless (is_place s p) (NoPlace p)
    (leave_reason s h p
    (unless (nat_le 1 (length nodes)) NamesNone
    (unless (are_different nodes) NamesTwice (children_reason s p nodes))))

abbrev pub rest_reason : State → ℕ → Place → Option Fact
rest_reason s h p = unless (is_place s p) (NoPlace p) (leave_reason s h p None)

abbrev pub take_reason : State → ℕ → Place → Option Fact
take_reason s h p =
    unless (is_place s p) (NoPlace p)
    (unless (may_be_taken (control_at s (name_at s p)) h) (stands s p) None)

abbrev pub finish_reason : State → ℕ → Place → Option Fact
finish_reason s h p =
    let phase = phase_at s (name_at s p) in
    unless (is_place s p) (NoPlace p)
    (leave_reason s h p (unless (not (is_armed phase || is_running phase)) (calls_back s p) None))

-- the hand makes no scan of the source of the node's parent
abbrev pub parent_reason : State → ℕ → Place → Option ℕ → Option Fact
parent_reason s h p None = Some (stands s p)
parent_reason s h p (Some q) =
    unless (not (is_scanning (s.view h) (Node (name_of s p.block q))))
    (Scans h (At (place_of p.block q))) None

abbrev pub report_reason : State → ℕ → Place → Option Fact
report_reason s h p =
    unless (is_place s p) (NoPlace p)
    (unless (nat_le 1 ((s.view h).reports (name_at s p))) (stands s p)
    (parent_reason s h p (parent_of s.tree p.node)))

abbrev pub release_reason : State → ℕ → ℕ → Option Fact
release_reason s h b =
    unless (nat_lt b s.blocks) (NoBlock b)
    (unless (nat_le 1 ((s.view h).finished (root_of s b)))
    (stands s (place_of b (size s - 1))) None)

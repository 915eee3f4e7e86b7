-- Which starts there are.
use Rattle.std.specs.Prelude.{◌≡◌, ⊤, ℕ, true, false, List, [], ◌∷◌, length, Some}
use Rattle.plan_kinds.specs.TreeLaws.{IsTop}
use Rattle.home_items.specs.declared.entry.Entry.{Entry}
use Rattle.home_items.specs.HasKinds.{HasKinds}
use Rattle.home_items.specs.Below.{GoesBelow}

-- A start of the receiver node names the one child that its operation runs. Its arguments may be of
-- any kinds.
pub record IsReceiver (e : Entry) : Type 0 where
  pub node : e.node ≡ length e.plan.nodes
  pub top : ℕ
  pub names : e.child ≡ Some top
  pub is_top : IsTop e.plan.nodes top
  pub whole : e.whole ≡ []

-- The entry goes on below the start above it, with arguments of its node's kinds.
pub record IsEntry (e p : Entry) : Type 0 where
  pub under : GoesBelow true e p
  pub kinds : HasKinds e.plan e.node e.args

-- the start of the receiver node, which has nothing above it
abbrev pub IsReceiverStart : List Entry → Type 0
IsReceiverStart [] = ⊥
IsReceiverStart (e ∷ []) = IsReceiver e
IsReceiverStart (e ∷ p ∷ above) = ⊥

-- the first entry goes on below the next
abbrev pub BeginsBelow : List Entry → Type 0
BeginsBelow [] = ⊥
BeginsBelow (e ∷ []) = ⊥
BeginsBelow (e ∷ p ∷ above) = IsEntry e p

-- A start: it ends with a start of the receiver node, and each entry before goes on below the next.
abbrev pub IsStart : List Entry → Type 0
IsStart [] = ⊥
IsStart (e ∷ []) = IsReceiver e
IsStart (e ∷ p ∷ above) = IsEntry e p × IsStart (p ∷ above)

-- The start rests on no completion that only a request that was seen allows.
abbrev pub NeedsNoRequest : List Entry → Type 0
NeedsNoRequest [] = ⊤
NeedsNoRequest (e ∷ []) = ⊤
NeedsNoRequest (e ∷ p ∷ above) = GoesBelow false e p

-- What a walk gives to a mail: the names of the nodes that its steps left ready.
use Rattle.std.specs.Prelude.{◌≡◌, List, [], ◌∷◌}
use Rattle.life_rules.specs.declared.event.Name.{Name}
use Rattle.node_tree.specs.declared.context.Context.{Context}
use Rattle.node_tree.specs.declared.context.Context.TheVariants.{Loop, Pool}
use Rattle.exec_recv.specs.declared.next.Next.{Next}
use Rattle.exec_recv.specs.declared.next.Next.TheVariants.{Go, Rest, InLoop, InPool, Parked}
use Rattle.node_walks.specs.declared.mail.ReadyNode.{ReadyNode}

-- The node that a step of x left ready which ended so, where it left one.
abbrev pub ready_after : Name → Next → List ReadyNode
ready_after x (Go n) = []
ready_after x Rest = []
ready_after x InLoop = record { name = x; on = Loop } ∷ []
ready_after x InPool = record { name = x; on = Pool } ∷ []
ready_after x Parked = []

-- What a mail does with the name of a node that is ready in a context.
abbrev pub HearsOf : Type 0 → Type 1
HearsOf M = Name → Context → M → M → Type 0

module _ {M : Type 0} (hears : HearsOf M) where
  -- The mail heard of this node, and then this came to it.
  pub record HearsFirst (node : ReadyNode) (Others : M → Type 0) (mail : M) : Type 0 where
    pub between : M
    pub first : hears node.name node.on mail between
    pub others : Others between

  -- It heard of each of these nodes, in their order, and of nothing else.
  abbrev pub HearsEach : List ReadyNode → M → M → Type 0
  HearsEach [] mail mail' = mail' ≡ mail
  HearsEach (node ∷ ready) mail mail' =
      HearsFirst node (λ between. HearsEach ready between mail') mail

  -- What was done left these nodes ready, and the mail heard of each, in their order, and of
  -- nothing else.
  pub record HearsAll (mail mail' : M) (Leaves : List ReadyNode → Type 0) : Type 0 where
    pub ready : List ReadyNode
    pub leaves : Leaves ready
    pub heard : HearsEach ready mail mail'

-- What a backend keeps, and what its calls do where it is lawful ([exec.sysctxrepl.psb]).
use Rattle.std.specs.Prelude.{◌≡◌, ℕ, ◌<◌, ◌≤◌, List, [], ◌∷◌, ◌++◌, length}
use Rattle.life_rules.specs.declared.event.Name.{Name}
use Rattle.pool_backends.specs.declared.order.Order.{Order}
use Rattle.pool_backends.specs.declared.order.Order.TheVariants.{Fifo, Lifo}

-- The names that were submitted and not yet handed out, the first that came in front; the order in
-- which they are handed out; and how many there is room for.
pub record Stock : Type 0 where
  pub pending : List Name
  pub arranged : Order
  pub capacity : ℕ

-- The pending names of which this one goes out next: it came first under Fifo, and last under Lifo.
abbrev pub with_next : Order → Name → List Name → List Name
with_next Fifo name rest = name ∷ rest
with_next Lifo name rest = rest ++ name ∷ []

-- The order is set, and the names stay.
abbrev pub Arranges : Order → Stock → Stock → Type 0
Arranges order old new = new ≡ record old { arranged = order }

-- There was room for the name, which came last.
pub record Submits (name : Name) (old new : Stock) : Type 0 where
  pub room : length old.pending < old.capacity
  pub is : new ≡ record old { pending = old.pending ++ name ∷ [] }

-- There was none, and this is the name that was submitted. Nothing changed.
pub record HandsBack (name : Name) (old new : Stock) (back : Name) : Type 0 where
  pub full : old.capacity ≤ length old.pending
  pub is : back ≡ name
  pub same : new ≡ old

-- The name whose turn it was is no more pending.
pub record HandsOut (old new : Stock) (name : Name) : Type 0 where
  pub names : old.pending ≡ with_next old.arranged name new.pending
  pub rest : new ≡ record old { pending = new.pending }

-- No name was pending, and nothing changed.
pub record HasNone (old new : Stock) : Type 0 where
  pub none : old.pending ≡ []
  pub same : new ≡ old

-- The names of nodes of which a loop is told later.
use Rattle.std.specs.Prelude.{◌≡◌, ◌≤◌, ◌⊎◌, true, false, [], ◌∷◌, ◌++◌, vec_capacity, vec_len}
use Rattle.life_rules.specs.declared.event.Name.{Name}
use Rattle.node_tree.specs.declared.context.Context.{Context}
use Rattle.record_operations.specs.declared.later_mail.LaterMail.{LaterMail}

-- The node came last in the list.
pub record IsKeptLater (name : Name) (on : Context) (old new : LaterMail) : Type 0 where
  pub list : new.list.items ≡ old.list.items ++ record { name = name; on = on } ∷ []
  pub lost : new.lost ≡ old.lost

-- The list is full and as it was, and it is noted that a name was lost.
pub record IsLost (old new : LaterMail) : Type 0 where
  pub full : vec_capacity old.list ≤ vec_len old.list
  pub list : new.list.items ≡ old.list.items
  pub lost : new.lost ≡ true

-- The one or the other.
abbrev pub HearsLater : Name → Context → LaterMail → LaterMail → Type 0
HearsLater name on old new = IsKeptLater name on old new ⊎ IsLost old new

-- It has no names, and lost none.
pub record HasNoNames (posted : LaterMail) : Type 0 where
  pub list : posted.list.items ≡ []
  pub lost : posted.lost ≡ false

-- A list of names that became longer.
use Rattle.std.specs.Prelude.{◌≡◌, List, ◌++◌}
use Rattle.life_rules.specs.declared.event.Name.{Name}

-- These are the names, and others after them.
pub record AreMoreNames (names longer : List Name) : Type 0 where
  pub others : List Name
  pub is : longer ≡ names ++ others

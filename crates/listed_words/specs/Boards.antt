-- What contracts see of a table.
use Rattle.atomic_table.specs.Seated.{TableId}

-- which table it is, and the key that its rule was told
pub record Board (K : Type 0) : Type 0 where
  pub table_id : TableId
  pub key : K

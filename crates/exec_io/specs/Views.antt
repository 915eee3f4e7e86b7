-- What a sink, a source and a shelf tell at one moment.
use Rattle.std.specs.Prelude.{ℕ, List, Option}
use Rattle.exec_io.specs.Asked.{Asked}
use Rattle.exec_io.specs.Shelves.{Texts}

-- What a sink tells: the bytes written, how many of them it hasn't handed on, and how often a call
-- failed. It may stop telling the first two.
pub record SinkView : Type 0 where
  pub written : Option (List ℕ)
  pub outstanding : Option ℕ
  pub faults : ℕ

-- What a source tells: the bytes that are left, and how often a call failed.
pub record SourceView : Type 0 where
  pub left : Option (List ℕ)
  pub faults : ℕ

-- What a shelf tells: the texts by name, the names that it was asked for, and how often a call
-- failed.
pub record ShelfView : Type 0 where
  pub texts : Option Texts
  pub asked : Asked
  pub faults : ℕ

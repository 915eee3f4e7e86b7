-- A grid of cells: one for each block and node.
use Rattle.std.specs.Prelude.{◌≡◌, ℕ, ◌+◌, ◌*◌, ◌==◌, nat_lt, if◌then◌else◌, List, slice_index_or}
use Rattle.life_rules.specs.States.{set_at}

-- the cells of a grid, which are of this type
pub record Cells (A : Type 0) : Type 0 where
  -- the blocks
  pub rows : ℕ
  -- the nodes of each
  pub columns : ℕ
  -- the cells, block by block
  pub cells : List A

-- the cell of a block and a node, d where there is none
abbrev pub at : {A : Type 0} → A → Cells A → ℕ → ℕ → A
at d g b n = if nat_lt n g.columns then slice_index_or g.cells (b * g.columns + n) d else d

-- both have as many rows and columns
pub record SameSize {A : Type 0} (old new : Cells A) : Type 0 where
  pub rows : new.rows ≡ old.rows
  pub columns : new.columns ≡ old.columns

-- a grid of that size with this value in all cells
pub record IsBlank {A : Type 0} (rows columns : ℕ) (v : A) (g : Cells A) : Type 0 where
  pub rows_are : g.rows ≡ rows
  pub columns_are : g.columns ≡ columns
  pub cells_are : at v g ≡ (λ b n. v)

-- only the cell of this block and node changed
pub record SetsCell {A : Type 0} (old new : Cells A) (b n : ℕ) (v : A) : Type 0 where
  pub size : SameSize old new
  pub cell : (d : A) → at d new ≡ set_at (at d old) b n v

-- f, but v at all nodes of b
abbrev pub row_at : {A : Type 0} → (ℕ → ℕ → A) → ℕ → A → ℕ → ℕ → A
row_at f b v i j = if i == b then v else f i j

-- only the cells of this block changed
pub record ClearsRow {A : Type 0} (old new : Cells A) (b : ℕ) (v : A) : Type 0 where
  pub size : SameSize old new
  pub row : at v new ≡ row_at (at v old) b v

-- so many blocks, and so many nodes of each
pub record HasSize {A : Type 0} (rows columns : ℕ) (g : Cells A) : Type 0 where
  pub rows_are : g.rows ≡ rows
  pub columns_are : g.columns ≡ columns

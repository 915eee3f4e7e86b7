-- How the bytes of a text are kept.
use Rattle.std.specs.Prelude.{ℕ, ◌+◌, ◌<◌, ◌≤◌, ⊤, List, length}
use Rattle.std.specs.Arc.{arc_slice_items}
use Rattle.exec_value.specs.Short.{short_bytes}
use Rattle.exec_value.specs.Text.{IsText}
use Rattle.exec_value.specs.declared.limits.TheConstants.{INLINE_BYTES}
use Rattle.exec_value.specs.declared.txt.Kept.{Kept}
use Rattle.exec_value.specs.declared.txt.Kept.TheVariants.{InPlace, Shared}

-- the bytes
abbrev pub kept_bytes : Kept → List ℕ
kept_bytes (InPlace short) = short_bytes short
kept_bytes (Shared bytes) = arc_slice_items bytes

-- bytes and then more stand in place together
abbrev pub FitInPlace : List ℕ → List ℕ → Type 0
FitInPlace bytes more = length bytes + length more ≤ INLINE_BYTES

-- bytes are shared only where they are more than stand in place
abbrev pub AreManyIfShared : Kept → Type 0
AreManyIfShared (InPlace short) = ⊤
AreManyIfShared (Shared bytes) = INLINE_BYTES < length (arc_slice_items bytes)

-- the bytes are a text
pub record KeepText (kept : Kept) : Type 0 where
  pub text : IsText (kept_bytes kept)
  pub many : AreManyIfShared kept

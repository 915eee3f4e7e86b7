-- Futures that were just opened.
use Rattle.std.specs.Prelude.{◌≡◌, ℕ, List, Option, None, replicate}
use Rattle.spawn_future.specs.declared.future.Future.{Future}
use Rattle.spawn_future.specs.Slots.{Has, kept_in}

-- So many slots, all free.
pub record IsOpened (most : ℕ) (slots : List (Option Future)) : Type 0 where
  pub slots_are : slots ≡ replicate most None
  pub none : kept_in slots ≡ 0
  pub free : (t : ℕ) (f : Future) → ¬ Has slots t f

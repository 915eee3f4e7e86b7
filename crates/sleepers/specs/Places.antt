-- Sleepers and their places.
use Rattle.std.specs.Prelude.{◌≡◌, ℕ, List, length, slice_get, Some}
use Rattle.sleepers.specs.declared.sleeper.Sleeper.{Sleeper}

-- so many sleepers, each at its place
pub record HavePlaces (hands : ℕ) (sleepers : List Sleeper) : Type 0 where
  pub count : length sleepers ≡ hands
  pub place : (k : ℕ) (sleeper : Sleeper) → slice_get sleepers k ≡ Some sleeper → sleeper.place ≡ k

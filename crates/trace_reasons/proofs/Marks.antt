-- How marks are added, one number after another.
use Rattle.std.proofs.Common.{ℕ, ◌+◌, ◌<◌, ◌≤◌, List, take, sym}
use Rattle.std.specs.List.{flat_map, range_with_len}
use Rattle.pictures.specs.Adding.{Adds}
use Rattle.pictures.proofs.Joining.{Adds-then, Adds-same}
use Rattle.replay_core.proofs.Kept.{numbers_next, numbers_all}

-- of one number more
pub marks-more : (g : ℕ → List ℕ) (n i : ℕ) {old mid new : List ℕ} → Adds old mid (flat_map g (take i (range_with_len 0 n))) → Adds mid new (g i) → i < n → Adds old new (flat_map g (take (i + 1) (range_with_len 0 n)))
marks-more g n i {old} {mid} {new} p q here = Adds-same (sym (numbers_next g n i here)) (Adds-then p q)

-- of all
pub marks-all : (g : ℕ → List ℕ) (n i : ℕ) {old new : List ℕ} → Adds old new (flat_map g (take i (range_with_len 0 n))) → n ≤ i → Adds old new (flat_map g (range_with_len 0 n))
marks-all g n i {old} {new} p all = Adds-same (numbers_all g n i all) p

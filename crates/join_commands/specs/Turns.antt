-- How lines that were dealt in turn are taken from their parts.
use Rattle.std.specs.Prelude.{◌≡◌, ℕ, ◌+◌, ◌≤◌, ◌<◌, List, take, slice_get, Some}
use Rattle.std.specs.List.{AllZip}
use Rattle.part_lines.specs.declared.tally.Tally.{Tally}
use Rattle.part_lines.specs.Lines.{IsPartText}
use Rattle.part_lines.specs.Readers.{HasReadLines, ReaderView}
use Rattle.join_commands.specs.declared.fault.JoinFault.{JoinFault}
use Rattle.join_commands.specs.declared.fault.JoinFault.TheVariants.{Refused, ReadFault, WriteFault, NoMemory}
use Rattle.join_commands.specs.declared.refusal.Cause.{Cause}
use Rattle.join_commands.specs.declared.refusal.Cause.TheVariants.{NotDealt}

-- Of the parts that have the fewest lines the one at this place is the first.
pub record IsFirstEnded (tallies : List Tally) (ended : ℕ) : Type 0 where
  pub each : (at : ℕ) (tally least : Tally) → slice_get tallies at ≡ Some tally
      → slice_get tallies ended ≡ Some least
      → (least.lines ≤ tally.lines) × (at < ended → least.lines < tally.lines)

-- Lines were dealt in turn: each part has as many, but for the first ones, which have one more.
pub record AreLevel (tallies : List Tally) : Type 0 where
  pub rounds : ℕ
  pub more : ℕ
  pub each : (at : ℕ) (tally : Tally) → slice_get tallies at ≡ Some tally
      → (at < more → tally.lines ≡ rounds + 1) × (more ≤ at → tally.lines ≡ rounds)

-- The part at one place has a line of this number, and the part at another place has ended before.
pub record PartHasEnded (tallies : List Tally) (at number ended : ℕ) : Type 0 where
  pub tally : Tally
  pub least : Tally
  pub tally_is : slice_get tallies at ≡ Some tally
  pub least_is : slice_get tallies ended ≡ Some least
  pub there : number ≤ tally.lines
  pub before : at < ended → number ≡ least.lines + 2
  pub behind : ended ≤ at → number ≡ least.lines + 1

-- Lines weren't dealt in turn.
abbrev pub IsUnevenFor : List Tally → ℕ → Cause → Type 0
IsUnevenFor tallies at (NotDealt number ended) = PartHasEnded tallies at number ended
IsUnevenFor tallies at cause = ⊥

abbrev pub IsUneven : List Tally → JoinFault → Type 0
IsUneven tallies (Refused refusal) = IsUnevenFor tallies refusal.at refusal.cause
IsUneven tallies ReadFault = ⊥
IsUneven tallies WriteFault = ⊥
IsUneven tallies NoMemory = ⊥

-- A reader is at a line of a part that has these lines.
pub record IsAt (said : List (List ℕ)) (reader : ReaderView) : Type 0 where
  pub text : List ℕ
  pub part : IsPartText text said
  pub read : HasReadLines text (take reader.passed said) reader

-- Readers are at the starts of parts that have these lines.
abbrev pub AreAtStarts : List (List (List ℕ)) → List ReaderView → Type 0
AreAtStarts parts readers = AllZip (λ said reader. IsAt said reader
    × (reader.passed ≡ 0)) parts readers

-- What a hand needs to seal its scan of a source, and what that does to it.
use Rattle.std.specs.Prelude.{◌≡◌, ℕ, ◌-◌, ◌*◌, true, false, if◌then◌else◌, List, [], ◌∷◌, length, Option, Some}
use Rattle.life_rules.specs.declared.event.SourceRef.{SourceRef}
use Rattle.life_rules.specs.Views.{same_source}
use Rattle.table_words.specs.Stamps.{stamp_of}
use Rattle.table_words.specs.Controls.{source_read}
use Rattle.table_words.specs.Layouts.{index}
use Rattle.atomic_table.specs.declared.shared.Seat.{Seat}
use Rattle.table_rules.specs.declared.frame.Frame.{Frame}
use Rattle.table_rules.specs.declared.view.View.{View}
use Rattle.table_rules.specs.declared.view.Scanning.{Scanning}
use Rattle.table_rules.specs.ShownViews.{scan_in}
use Rattle.table_steps.specs.Views.{Board, knows}
use Rattle.table_steps.specs.Claims.{with_step}
use Rattle.table_steps.specs.Seats.{Seated, homes_of, view_of}
use Rattle.table_steps.specs.Requests.{IsWordOf}
use Rattle.table_steps.specs.Sights.{spot_of}
use Rattle.table_steps.specs.ScanOrders.{none_hears}

-- the hand scans the source, and no place of it is left
pub record CanSealScan {P E O : Type 0} (f : Frame O) (v : View P E)
    (source : SourceRef) : Type 0 where
  pub from : ℕ
  pub scans : scan_in v.scans source ≡ Some from
  pub past : none_hears f.tree source from (length f.tree * f.layout.blocks - from) ≡ true

-- the scans without those of the source
abbrev pub drops : SourceRef → List Scanning → List Scanning
drops source [] = []
drops source (scan ∷ scans) =
    if same_source scan.source source then drops source scans else scan ∷ drops source scans

-- the hand no longer scans the source
abbrev pub seals_scan : {P E : Type 0} → SourceRef → View P E → View P E
seals_scan source v = record v { scans = drops source v.scans }

-- the word is the source's, and says that a stop is requested of it, and that it wasn't scanned yet
pub record SaysUnscanned (source : SourceRef) (word : ℕ) : Type 0 where
  pub is_of : IsWordOf source word
  pub requested : (source_read word).requested ≡ true
  pub unscanned : (source_read word).scanned ≡ false

-- what the step tells, beside the word that it found
pub record SealsScanAt {P E : Type 0} (source : SourceRef) (i read left : ℕ)
    (m m' : Seated P E) : Type 0 where
  pub found : SaysUnscanned source read
  pub me_is : m' ≡ (with_step i read left (seals_scan source (view_of m)), homes_of m)

-- the source's word was read as requested and not yet scanned, and left as scanned, and the scan is
-- sealed
pub record IsScanSealed {P E O : Type 0} (board : Board O) (source : SourceRef)
    (old new : Seat (Option P) (View P E)) : Type 0 where
  pub read : ℕ
  pub left : ℕ
  pub found : SaysUnscanned source read
  pub stamp_is : stamp_of left ≡ stamp_of read
  pub left_is : source_read left ≡ record (source_read read) { scanned = true }
  pub me_is : new.me ≡ (
    with_step (index board.frame.layout (spot_of source)) read left (seals_scan source (knows old)),
    homes_of old.me,
  )

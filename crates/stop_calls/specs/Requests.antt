-- What a stop request answers ([stopsource.inplace.mem]).
use Rattle.std.specs.Prelude.{◌≡◌, ℕ, Bool, true, false, not, Option}
use Rattle.life_rules.specs.declared.event.Name.{Name}
use Rattle.life_rules.specs.declared.event.SourceRef.{SourceRef}
use Rattle.life_rules.specs.declared.event.SourceRef.TheVariants.{Node}
use Rattle.table_words.specs.Stamps.{stamp_of}
use Rattle.table_words.specs.Controls.{source_read}
use Rattle.table_words.specs.Layouts.{index}
use Rattle.atomic_table.specs.declared.shared.Seat.{Seat}
use Rattle.table_rules.specs.declared.view.View.{View}
use Rattle.table_steps.specs.Views.{Board, knows}
use Rattle.table_steps.specs.Sights.{spot_of}
use Rattle.table_steps.specs.Requests.{bits_asked, asks_at, HasAsked, IsWordOf}
use Rattle.stop_calls.specs.declared.requesting.Request.{Request}
use Rattle.stop_calls.specs.declared.requesting.Request.TheVariants.{Made, Already}
use Rattle.stop_calls.specs.declared.requesting.Failure.{Failure}
use Rattle.stop_calls.specs.Cursors.{first_scan}

-- where a stop was requested before, a request answers so; else it gives a scan from the first
-- place on
abbrev pub is_answer : SourceRef → Bool → Request → Type 0
is_answer source before (Made scan) = (before ≡ false) × (scan ≡ first_scan source)
is_answer source before Already = before ≡ true

-- a request, with a failure or without: the answer is what the word that was read says, and the
-- hand has noted the request. The word that was left says requested, and with a failure failed too.
-- A hand that has seen the request, on a source that can't go away under it, is told that it was
-- made already
pub record IsAskedFor {P E O : Type 0} (board : Board O) (source : SourceRef) (failure : Bool)
    (answer : Request) (old new : Seat (Option P) (View P E)) : Type 0 where
  pub word : ℕ
  pub is_of : IsWordOf source word
  pub answer_is : is_answer source (source_read word).requested answer
  pub left : ℕ
  pub stamp_is : stamp_of left ≡ stamp_of word
  pub left_is : source_read left ≡ bits_asked failure (source_read word)
  pub again : HasAsked (knows old) source → answer ≡ Already
  pub me_is : new.me ≡ asks_at source (index board.frame.layout (spot_of source)) word left old.me

-- one without
abbrev pub IsRequested : {P E O : Type 0} → Board O → SourceRef → Request →
    Seat (Option P) (View P E) → Seat (Option P) (View P E) → Type 0
IsRequested board source answer old new = IsAskedFor board source false answer old new

-- one with a failure, which is the first where the word that was read says that none was told
-- before
pub record IsFailed {P E O : Type 0} (board : Board O) (node : Name) (answer : Failure)
    (old new : Seat (Option P) (View P E)) : Type 0 where
  pub asked : IsAskedFor board (Node node) true answer.request old new
  pub first_is : answer.first ≡ not (source_read asked.word).failed

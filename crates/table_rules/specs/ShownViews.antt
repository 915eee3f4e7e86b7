-- What the views of a table's hands say: the pure machine's views. Entries of older generations say
-- nothing any more.
use Rattle.std.specs.Prelude.{ℕ, zero, suc, Bool, ◌&&◌, if◌then◌else◌, List, [], ◌∷◌, Option, Some, None}
use Rattle.std.specs.List.{list_any}
use Rattle.life_rules.specs.declared.words.BlockWord.{BlockWord}
use Rattle.life_rules.specs.declared.event.Name.{Name}
use Rattle.life_rules.specs.declared.event.SourceRef.{SourceRef}
use Rattle.life_rules.specs.Views.{View, blank, same, same_source}
use Rattle.table_rules.specs.declared.view.View as hand
use Rattle.table_rules.specs.declared.view.Scanning.{Scanning}
use Rattle.table_rules.specs.Named.{count_by}
use Rattle.table_rules.specs.ShownWords.{is_present, is_present_source}

-- where the view's scan of the source goes on
abbrev pub scan_in : List Scanning → SourceRef → Option ℕ
scan_in [] source = None
scan_in (scan ∷ scans) source =
    if same_source scan.source source then Some scan.next else scan_in scans source

abbrev pub has_name : List Name → Name → Bool
has_name names x = list_any (λ y. same y x) names

abbrev pub has_source_ref : List SourceRef → SourceRef → Bool
has_source_ref sources source = list_any (λ t. same_source t source) sources

-- a hand's view as the pure machine has it
abbrev pub shown_view : {P E : Type 0} → (ℕ → BlockWord) → hand.View P E → View
shown_view blocks v =
    record {
      holds = count_by (λ e. e.name) v.held;
      starts = count_by (λ e. e.name) v.owed;
      reports = count_by (λ e. e.name) v.reported;
      finished = count_by (λ x. x) v.finished;
      runs = count_by (λ x. x) v.runs;
      scan = scan_in v.scans;
      unlooked = λ x. has_name v.unlooked x && is_present blocks x;
      seen_after = λ x. has_name v.seen_after x && is_present blocks x;
      seen = λ t. has_source_ref v.seen t && is_present_source blocks t;
      made = v.made;
      making = v.making;
      refused = v.refused;
      requested = v.requested;
    }

-- the view of the hand h; a hand that wasn't split off yet has done nothing
abbrev pub view_at : {P E : Type 0} → (ℕ → BlockWord) → List (hand.View P E) → ℕ → View
view_at blocks [] h = blank
view_at blocks (v ∷ vs) zero = shown_view blocks v
view_at blocks (v ∷ vs) (suc h) = view_at blocks vs h

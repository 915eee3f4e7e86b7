-- By each call of this use the list of the hand's steps grows, or stays.
use Rattle.std.proofs.Common.{◌≡◌, inl, inr, ℕ, zero, suc, Bool, true, false, List, [], ◌∷◌, refl, ap, ◌∙◌}
use Rattle.std.specs.Prelude.{Option, if◌then◌else◌}
use Rattle.life_rules.specs.declared.words.CallbackPhase.{CallbackPhase}
use Rattle.life_rules.specs.declared.event.Name.{Name}
use Rattle.life_rules.specs.declared.event.SourceRef.{SourceRef}
use Rattle.node_tree.specs.Tree.{has_source}
use Rattle.common_lemmas.proofs.Bool.{either}
use Rattle.atomic_table.specs.declared.shared.Seat.{Seat}
use Rattle.table_rules.specs.declared.view.View.{View}
use Rattle.listed_words.specs.declared.seen.Seen.{Seen}
use Rattle.listed_words.specs.Lists.{entry}
use Rattle.table_steps.specs.Views.{Board, aimed}
use Rattle.table_steps.specs.Awaits.{AwaitsAt}
use Rattle.table_steps.specs.Begins.{IsRenewed, Begins}
use Rattle.table_steps.specs.Claims.{Missed}
use Rattle.table_steps.specs.Seats.{Seated}
use Rattle.table_steps.specs.Finishes.{FinishedAt}
use Rattle.table_steps.specs.Readings.{IsBegunAs, IsPhaseAs, says_begun, notes_idle, above_it}
use Rattle.table_steps.specs.declared.report.Report.{Report}
use Rattle.table_steps.specs.declared.report.Report.TheVariants.{Last, Others}
use Rattle.table_steps.specs.Reports.{IsReportedAs}
use Rattle.table_steps.specs.Takes.{TakenAt}
use Rattle.table_steps.specs.Rests.{RestsAt}
use Rattle.table_steps.specs.Runs.{listed, run_index}
use Rattle.table_steps.specs.ScanSeals.{IsScanSealed}
use Rattle.table_steps.specs.Steps.{control_index}
use Rattle.table_steps.specs.Swaps.{IsSwapped}
use Rattle.op_slot.specs.Searches.{IsMissedBelow}
use Rattle.stop_calls.specs.declared.arming.Armed.{Armed}
use Rattle.stop_calls.specs.declared.scanning.Scan.{Scan}
use Rattle.stop_calls.specs.Armings.{IsArmedSo}
use Rattle.stop_calls.specs.Removals.{IsOver}
use Rattle.stop_calls.specs.Walks.{IsFound, IsThrough}
pub use Rattle.stop_calls.proofs.Keeping.{same-longer, one-longer, longer-on, walks-longer}
use Rattle.stop_calls.proofs.Keeping.{over-passed, found-longer, through-longer}
use Rattle.table_use.specs.declared.cargo.Item.{Item}
use Rattle.table_use.specs.declared.cargo.Entry.{Entry}
use Rattle.table_use.specs.Causes.{IsLonger, GoesOn}
use Rattle.table_use.specs.contracts.cargo.ItemCargo.TheImpl.{ghosts}

two-longer : (s t : Seen) (l l' : List Seen) → l' ≡ s ∷ t ∷ l → IsLonger l l'
two-longer s t l l' is = record { made = s ∷ t ∷ []; is = is }

pub on : (m m1 m2 : Seated Item Entry) → GoesOn m m1 → GoesOn m1 m2 → GoesOn m m2
on m m1 m2 first second = longer-on m.0.steps m1.0.steps m2.0.steps first second

pub stays : (m : Seated Item Entry) → GoesOn m m
stays m = same-longer m.0.steps m.0.steps refl

pub listed-longer : (i : ℕ) (words : List ℕ) (l : List Seen) → IsLonger l (listed i words l)
listed-longer i [] l = same-longer l l refl
listed-longer i (word ∷ words) l =
    let s : Seen = entry i word word in
    longer-on l (s ∷ l) (listed i words (s ∷ l)) (one-longer s l (s ∷ l) refl) (listed-longer i words (s ∷ l))

abbrev pub steps_of : Seated Item Entry → List Seen
steps_of m = m.0.steps

-- a choice between two views with the same steps
idle-steps : (b : Bool) (x : Name) (n : ℕ) (v : View Item Entry) → (if b then v else notes_idle x n v).steps ≡ v.steps
idle-steps true x n v = refl
idle-steps false x n v = refl

module _ (board : Board ℕ) where
  -- a search for a free block
  missed-on : (b : ℕ) (old new : Seat (Option Item) (View Item Entry)) → Missed board b old new → GoesOn old.me new.me
  missed-on b old new missed =
      elim missed [
        | inl was ↦ one-longer _ old.me.0.steps new.me.0.steps (ap steps_of was.me_is)
        | inr was ↦ two-longer _ _ old.me.0.steps new.me.0.steps (ap steps_of was.me_is)
      ]

  pub searched-on : (count : ℕ) (old new : Seat (Option Item) (View Item Entry)) → IsMissedBelow board count old new → GoesOn old.me new.me
  searched-on zero old new missed = same-longer old.me.0.steps new.me.0.steps (ap steps_of missed)
  searched-on (suc b) old new missed =
      on old.me missed.0.me new.me (searched-on b old missed.0 missed.1) (missed-on b missed.0 new missed.2)

  module _ (x : Name) (m m1 : Seated Item Entry) where
    pub swapped-on : (new old : Option Item) → IsSwapped board.frame x new old m m1 → GoesOn m m1
    swapped-on new old did = one-longer _ m.0.steps m1.0.steps (ap steps_of did.me_is)

    renewed-on : IsRenewed (aimed board.frame x) m m1 → GoesOn m m1
    renewed-on did =
        either (has_source board.frame.tree x.node)
        (λ t. one-longer _ m.0.steps m1.0.steps (ap steps_of (did.0 t).did))
        (λ f. same-longer m.0.steps m1.0.steps (ap steps_of (did.1 f)))

  pub begun-on : (x : Name) (m m1 : Seated Item Entry) → Begins ghosts (aimed board.frame x) m m1 → GoesOn m m1
  begun-on x m m1 did =
      on m did.middle m1 (renewed-on x m did.middle did.renewed)
      (one-longer _ did.middle.0.steps m1.0.steps (ap steps_of did.began.did.me_is))

  module _ (x : Name) (m m1 : Seated Item Entry) where
    pub phase-steps : (phase : CallbackPhase) (read : IsPhaseAs board.frame x phase m m1) →
        m1.0.steps ≡ entry (run_index board x.block x.node) read.0 read.0 ∷ m.0.steps
    phase-steps phase read = ap steps_of read.2

    pub phase-on : (phase : CallbackPhase) → IsPhaseAs board.frame x phase m m1 → GoesOn m m1
    phase-on phase read = one-longer _ m.0.steps m1.0.steps (phase-steps phase read)

    pub child-steps : (begun : Bool) (read : IsBegunAs board.frame x begun m m1) →
        m1.0.steps ≡ entry (control_index board x) read.0 read.0 ∷ m.0.steps
    child-steps begun read =
        ap steps_of read.2
        ∙ ap (λ (l : List Seen). entry (control_index board x) read.0 read.0 ∷ l)
        (idle-steps (says_begun x.generation read.0) (above_it board.frame.tree x) x.node m.0)

    pub child-on : (begun : Bool) → IsBegunAs board.frame x begun m m1 → GoesOn m m1
    child-on begun read = one-longer _ m.0.steps m1.0.steps (child-steps begun read)

    pub awaits-on : (nodes : List ℕ) (i read left : ℕ) → AwaitsAt ghosts (aimed board.frame x) nodes i read left m m1 → GoesOn m m1
    awaits-on nodes i read left did = one-longer _ m.0.steps m1.0.steps (ap steps_of did.me_is)

    pub rests-on : (i read left : ℕ) → RestsAt (aimed board.frame x) i read left m m1 → GoesOn m m1
    rests-on i read left did = one-longer _ m.0.steps m1.0.steps (ap steps_of did.me_is)

    pub reported-on : (answer : Report) → IsReportedAs ghosts board.frame x answer m m1 → GoesOn m m1
    reported-on Last did = one-longer _ m.0.steps m1.0.steps (ap steps_of did.4.me_is)
    reported-on Others did = one-longer _ m.0.steps m1.0.steps (ap steps_of did.4)

    pub taken-on : (i read left : ℕ) → TakenAt ghosts (aimed board.frame x) (board.frame.over.value ∷ []) i read left m m1 → GoesOn m m1
    taken-on i read left did = one-longer _ m.0.steps m1.0.steps (ap steps_of did.me_is)

    pub finished-on : (i read left : ℕ) → FinishedAt ghosts (aimed board.frame x) i read left m m1 → GoesOn m m1
    finished-on i read left did = one-longer _ m.0.steps m1.0.steps (ap steps_of did.me_is)

  module _ (old new : Seat (Option Item) (View Item Entry)) where
    pub armed-on : (x : Name) (answer : Armed) → IsArmedSo board x answer old new → GoesOn old.me new.me
    armed-on x answer did =
        on old.me did.middle.me new.me (one-longer _ old.me.0.steps did.middle.me.0.steps (ap steps_of did.armed.me_is))
        (one-longer _ did.middle.me.0.steps new.me.0.steps (ap steps_of did.looked.2))

    pub over-on : (x : Name) → IsOver board x old new → GoesOn old.me new.me
    over-on x over = (over-passed board old new x over).aside.steps

    pub sealed-on : (source : SourceRef) → IsScanSealed board source old new → GoesOn old.me new.me
    sealed-on source sealed = one-longer _ old.me.0.steps new.me.0.steps (ap steps_of sealed.me_is)

  module _ (before after : Scan) (old new : Seat (Option Item) (View Item Entry)) where
    pub found-on : (x : Name) → IsFound board before old new after x → GoesOn old.me new.me
    found-on x found = found-longer board old new before after x found

    pub through-on : IsThrough board before old new after → GoesOn old.me new.me
    through-on through = through-longer board old new before after through

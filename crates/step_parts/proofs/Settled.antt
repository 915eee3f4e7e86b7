-- How a node's callback is settled: what was read is noted, and a removal waits for the end of a run.
use Rattle.std.proofs.Common.{◌≡◌, ℕ, zero, suc, true, false, List, [], ◌∷◌, arith, refl, sym, ap, ◌∙◌, subst}
use Rattle.std.specs.Prelude.{Option, Some, None}
use Rattle.std.specs.Option.{option_map_or}
use Rattle.atomic_table.specs.declared.shared.Seat.{Seat}
use Rattle.life_rules.specs.declared.event.Name.{Name}
use Rattle.life_rules.specs.declared.event.SourceRef.{SourceRef}
use Rattle.life_rules.specs.declared.event.SourceRef.TheVariants.{Node}
use Rattle.life_rules.specs.declared.words.CallbackPhase.{CallbackPhase}
use Rattle.life_rules.specs.declared.words.CallbackPhase.TheVariants.{Armed, Running as Runs, Ran as HasRun, Removed}
use Rattle.life_rules.specs.States.{source_for}
use Rattle.life_rules.specs.Views.{same_source}
use Rattle.life_rules.specs.Words.{is_armed}
use Rattle.listed_words.specs.Lists.{entry}
use Rattle.node_tree.specs.Tree.{nearest}
use Rattle.plan_shape.specs.Blueprint.{Blueprint}
use Rattle.std.proofs.lemmas.Bool.{cond-false}
use Rattle.table_rules.specs.declared.view.View.{View}
use Rattle.table_rules.specs.declared.view.Held.{Held}
use Rattle.table_rules.specs.declared.view.Scanning.{Scanning}
use Rattle.table_rules.specs.Named.{count_by}
use Rattle.table_rules.specs.ShownViews.{has_source_ref, scan_in}
use Rattle.table_steps.specs.Views.{Board, Stays}
use Rattle.table_steps.specs.Callbacks.{callback_index, is_registered, learns, left_by}
use Rattle.table_steps.specs.Claims.{with_step}
use Rattle.table_steps.specs.Seats.{Seated}
use Rattle.table_steps.specs.Finishes.{is_settled}
use Rattle.table_steps.specs.Readings.{at_entry, notes_phase, Holds, IsPhaseAs}
use Rattle.table_steps.specs.Slots.{held_at}
use Rattle.stop_calls.specs.declared.removing.Settled.{Settled}
use Rattle.stop_calls.specs.declared.removing.Settled.TheVariants.{NeverRan, Ran, OwnHand}
use Rattle.stop_calls.specs.Removals.{MayWithdraw, IsReadAs, IsLastTry, IsSettled, Waits}
use Rattle.home_items.specs.declared.entry.Entry.{Entry}
use Rattle.home_items.specs.declared.item.Item.{Item}
use Rattle.exec_recv.specs.Asides.{aside_of}
use Rattle.exec_recv.specs.Seats.{HandSeat}
use Rattle.exec_recv.proofs.Moves.{moves-look, moves-callback}
use Rattle.exec_recv.proofs.Asiding.{aside-one}
use Rattle.step_parts.specs.Midway.{Ready, KeepsReady}
use Rattle.step_parts.specs.Settles.{HasSettled}
use Rattle.step_parts.specs.Stepping.{Stepping}
use Rattle.step_parts.specs.Takes.{IsTaken, Keeps}
use Rattle.step_parts.proofs.Ended.{taken-on}
use Rattle.step_parts.proofs.Frames.{keeps-here, keeps-on}
use Rattle.step_parts.proofs.Noting.{NotesEntry, ChangesNotes, notes-held, notes-keeps, or-true}

-- a source that came to a list of requests that were seen leaves the others there
more-seen : (near : Option SourceRef) (seen : List SourceRef) (source : SourceRef) → has_source_ref seen source ≡ true →
    has_source_ref (option_map_or (λ s. s ∷ seen) near seen) source ≡ true
more-seen None seen source is = is
more-seen (Some near) seen source is = or-true (same_source near source) (has_source_ref seen source) is

-- a phase is noted
abbrev pub with_phase : CallbackPhase → Held Entry → Held Entry
with_phase phase e = record e { phase = Some phase }

pub phase-slight : (phase : CallbackPhase) → ChangesNotes (with_phase phase)
phase-slight phase =
    record {
      names = λ e. refl;
      same = λ e. record { start = refl; named = refl; told = refl; told_children = refl; lot = refl };
    }

module _ (board : Board Blueprint) (x : Name) where
  -- a phase that was read is noted
  phase-notes : (phase : CallbackPhase) (m m' : Seated Item Entry) → IsPhaseAs board.frame x phase m m' → NotesEntry board x (with_phase phase) m m'
  phase-notes phase m m' read =
      record {
        held = ap (λ (z : Seated Item Entry). z.0.held) read.2
            ∙ ap (λ (p : CallbackPhase). at_entry (λ (e : Held Entry). e.name) (with_phase p) x m.0.held)
            (sym read.1);
        owed = ap (λ (z : Seated Item Entry). z.0.owed) read.2;
        homes = ap (λ (z : Seated Item Entry). z.1) read.2;
        aside = aside-one (entry (callback_index board x) read.0 read.0) m m' (ap (λ (z : Seated Item Entry). aside_of z.0) read.2)
            (ap (λ (z : Seated Item Entry). z.0.steps) read.2) (ap (λ (z : Seated Item Entry). z.0.seen) read.2);
        moves = moves-look board x (callback_index board x) read.0 m m' (ap (λ (z : Seated Item Entry). z.0.steps) read.2);
      }

  -- and so is that of a try to remove the callback: it was armed, and is removed
  armed-notes : (old new : Seat (Option Item) (View Item Entry)) → IsReadAs board x old new Armed → NotesEntry board x (with_phase Removed) old.me new.me
  armed-notes old new tried =
      let is = tried.told.me_is in
      record {
        held = ap (λ (z : Seated Item Entry). z.0.held) is;
        owed = ap (λ (z : Seated Item Entry). z.0.owed) is;
        homes = ap (λ (z : Seated Item Entry). z.1) is;
        aside = aside-one (entry (callback_index board x) tried.told.word _) old.me new.me
            (ap (λ (z : Seated Item Entry). aside_of z.0) is) (ap (λ (z : Seated Item Entry). z.0.steps) is)
            (ap (λ (z : Seated Item Entry). z.0.seen) is);
        moves = moves-callback board x tried.told.word _ old.me new.me (ap (λ (z : Seated Item Entry). z.0.steps) is);
      }

  -- or it runs or ran, and the request on the source that the node hears was seen
  module _ (phase : CallbackPhase) (unarmed : is_armed phase ≡ false) (old new : Seat (Option Item) (View Item Entry)) (tried : IsReadAs board x old new phase) where
    ran-is : (left : ℕ) × (new.me ≡ (
      with_step (callback_index board x) tried.told.word left (learns board.frame.tree x (notes_phase x phase old.me.0)),
      old.me.1,
    ))
    ran-is = (
      left_by x.generation tried.told.word,
      tried.told.me_is
          ∙ ap (λ (v : View Item Entry). (with_step (callback_index board x) tried.told.word (left_by x.generation tried.told.word) v, old.me.1))
          (cond-false (is_armed phase) (notes_phase x Removed old.me.0)
          (learns board.frame.tree x (notes_phase x phase old.me.0)) unarmed),
    )

    ran-notes : NotesEntry board x (with_phase phase) old.me new.me
    ran-notes =
        let is = ran-is.1 in
        record {
          held = ap (λ (z : Seated Item Entry). z.0.held) is;
          owed = ap (λ (z : Seated Item Entry). z.0.owed) is;
          homes = ap (λ (z : Seated Item Entry). z.1) is;
          aside = record {
            same = ap (λ (z : Seated Item Entry). aside_of z.0) is;
            fresh = entry (callback_index board x) tried.told.word ran-is.0 ∷ [];
            grown = ap (λ (z : Seated Item Entry). z.0.steps) is;
            sees = λ source seen.
                ap (λ (z : Seated Item Entry). has_source_ref z.0.seen source) is
                ∙ more-seen (source_for x (nearest board.frame.tree x.node)) old.me.0.seen source seen;
          };
          moves = moves-callback board x tried.told.word ran-is.0 old.me new.me (ap (λ (z : Seated Item Entry). z.0.steps) is);
        }

  -- tries that found a run of another hand
  waits-keep : (count : ℕ) (old new : Seat (Option Item) (View Item Entry)) → Waits board x count old new →
      KeepsReady board x old.me new.me
  waits-keep zero old new waited = subst (λ (z : Seated Item Entry). KeepsReady board x old.me z) (sym waited) (keeps-here board x old.me)
  waits-keep (suc count) old new waited =
      keeps-on board x old.me waited.0.me new.me (waits-keep count old waited.0 waited.1)
      (notes-keeps board x (with_phase Runs) (phase-slight Runs) waited.0.me new.me (ran-notes Runs refl waited.0 new waited.2))

  -- the phase that was noted is what the hand has read
  noted-settles : (phase : CallbackPhase) (m m' : Seated Item Entry) → NotesEntry board x (with_phase phase) m m' → (held : Held Entry) →
      held_at m.0 x ≡ Some held → is_settled phase ≡ true → HasSettled x m'
  noted-settles phase m m' notes held holds settled =
      record {
        held = with_phase phase held;
        holds = notes-held board x (with_phase phase) (phase-slight phase) m m' notes held holds;
        settled = settled;
      }

  -- the last try: it never ran, or ran; this hand doesn't run it
  last-keeps : (answer : Settled) (old new : Seat (Option Item) (View Item Entry)) (start : List Entry) → Ready board x start 0 old.me →
      IsLastTry board x old new answer → KeepsReady board x old.me new.me × HasSettled x new.me
  last-keeps NeverRan old new start ready tried =
      let notes = armed-notes old new tried in (
        notes-keeps board x (with_phase Removed) (phase-slight Removed) old.me new.me notes,
        noted-settles Removed old.me new.me notes ready.is.held ready.is.tends.holds refl,
      )
  last-keeps Ran old new start ready tried =
      let notes = ran-notes HasRun refl old new tried in (
        notes-keeps board x (with_phase HasRun) (phase-slight HasRun) old.me new.me notes,
        noted-settles HasRun old.me new.me notes ready.is.held ready.is.tends.holds refl,
      )
  last-keeps OwnHand old new start ready tried =
      let runs = tried.runs in
      let none : count_by (λ (y : Name). y) old.me.0.runs x ≡ 0 =
      ap (λ (l : List Name). count_by (λ (y : Name). y) l x) ready.is.unrun in
      absurd (omega (arith, runs, none))

  settled-keeps : (answer : Settled) (old new : Seat (Option Item) (View Item Entry)) (start : List Entry) → Ready board x start 0 old.me →
      IsSettled board x old new answer → KeepsReady board x old.me new.me × HasSettled x new.me
  settled-keeps answer old new start ready settled =
      let waited = waits-keep settled.count old settled.middle settled.waited in
      let middle : Ready board x start 0 settled.middle.me =
      record { inside = ready.inside; is = waited.midway start ready.inside 0 (λ _. None) ready.is } in
      let last = last-keeps answer settled.middle new start middle settled.last in
      (keeps-on board x old.me settled.middle.me new.me waited last.0, last.1)

-- So does a step with the callback of the node that it has taken up.
module _ (board : Board Blueprint) (t : Stepping) where
  -- it can read the phase
  pub can-read : (hand : HandSeat) → IsTaken board t hand → Holds hand.me.0 t.name
  can-read hand is = record { held = is.ready.is.held; holds = is.ready.is.tends.holds }

  module _ (phase : CallbackPhase) (old new : HandSeat) (is : IsTaken board t old) (read : IsPhaseAs board.frame t.name phase old.me new.me) where
    notes : NotesEntry board t.name (with_phase phase) old.me new.me
    notes = phase-notes board t.name phase old.me new.me read

    pub read-keeps : Stays board old new → Keeps board t old new
    read-keeps stays =
        record { stays = stays; ready = notes-keeps board t.name (with_phase phase) (phase-slight phase) old.me new.me notes }

    pub read-settles : is_settled phase ≡ true → HasSettled t.name new.me
    read-settles settled =
        noted-settles board t.name phase old.me new.me notes is.ready.is.held is.ready.is.tends.holds settled

    -- and where it says that the callback may run still, remove it
    pub may-withdraw : Stays board old new → is_registered phase ≡ true → MayWithdraw new.me.0 t.name
    may-withdraw stays registered =
        record {
          held = with_phase phase is.ready.is.held;
          holds = notes-held board t.name (with_phase phase) (phase-slight phase) old.me new.me notes is.ready.is.held is.ready.is.tends.holds;
          known = phase;
          known_is = refl;
          registered = registered;
          unscanned = λ runs. ap (λ (l : List Scanning). scan_in l (Node t.name)) (taken-on board t old new (read-keeps stays) is).ready.is.calm;
        }

  -- once it is removed, the step goes on, and the callback is over
  module _ (answer : Settled) (old new : HandSeat) (is : IsTaken board t old) (settled : IsSettled board t.name old new answer) where
    both : KeepsReady board t.name old.me new.me × HasSettled t.name new.me
    both = settled-keeps board t.name answer old new t.start is.ready settled

    pub withdraw-keeps : Stays board old new → Keeps board t old new
    withdraw-keeps stays = record { stays = stays; ready = both.0 }

    pub withdraw-settles : HasSettled t.name new.me
    withdraw-settles = both.1

-- The steps on a callback's word are moves of the pure machine.
use Rattle.std.proofs.Common.{◌≡◌, ℕ, true, not, ◌&&◌, ◌||◌, ◌==◌, ◌<◌, ◌+◌, cond, List, ◌∷◌, arith, refl, sym, ap, ◌∙◌, subst}
use Rattle.std.specs.Prelude.{Option, Some, MatchOption, is_some, nat_le, slice_set}
use Rattle.std.specs.Option.{option_map_or}
use Rattle.std.proofs.lemmas.Bool.{and_from, or_left, cond-true, cond-false, eq-eqb, le-leb}
use Rattle.common_lemmas.proofs.Bool.{either}
use mathlib.Core.Option as maybe
use Rattle.life_rules.specs.declared.words.BlockWord.{BlockWord}
use Rattle.life_rules.specs.declared.words.CallbackPhase.{CallbackPhase}
use Rattle.life_rules.specs.declared.words.CallbackPhase.TheVariants.{Never, Armed, Ran}
use Rattle.life_rules.specs.declared.words.ControlWord.TheVariants.{Idle}
use Rattle.life_rules.specs.declared.event.Name.{Name}
use Rattle.life_rules.specs.declared.event.SourceRef.{SourceRef}
use Rattle.life_rules.specs.declared.event.SourceRef.TheVariants.{Node}
use Rattle.life_rules.specs.Words.{is_never, clear}
use Rattle.life_rules.specs.Views.{View as PureView, same, lose, mark, scan_at, is_scanning}
use Rattle.life_rules.specs.States.{State, is_live, phase_at, nearest_of, with_view, with_callback}
use Rattle.life_rules.specs.Scans.{is_next}
use Rattle.life_rules.specs.StopSteps.{run_over}
use Rattle.life_rules.proofs.Readings.{lives}
use Rattle.life_rules.proofs.Names.{same-true}
use Rattle.table_words.specs.Stamps.{stamp_of}
use Rattle.table_words.specs.Controls.{control_read, callback_read, source_read}
use Rattle.table_words.specs.ScopeNumbers.{scope_read}
use Rattle.table_words.specs.Layouts.{TheScope, TheScopeSource, OfControl, OfCallback, OfSource, index}
use Rattle.atomic_table.specs.Table as table
use Rattle.table_rules.specs.declared.cargo.Cargo.{Ghosts}
use Rattle.table_rules.specs.declared.frame.Frame.{Frame}
use Rattle.table_rules.specs.declared.view.View.{View}
use Rattle.table_rules.specs.declared.view.Held.{Held}
use Rattle.table_rules.specs.ShownWords.{block_of, is_retired, is_present}
use Rattle.table_rules.specs.ShownViews.{view_at, shown_view, has_name, scan_in}
use Rattle.table_rules.specs.Scenes.{shown}
use Rattle.table_rules.specs.Notes.{is_still}
use Rattle.table_rules.specs.Running.{Running}
use Rattle.table_steps.specs.Claims.{with_step}
use Rattle.table_steps.specs.Callbacks.{callback_index, arms}
use Rattle.table_steps.specs.RunEnds.{ends_run, passes_to, number_of}
use Rattle.table_kept.proofs.Standing.{Standing}
use Rattle.table_kept.proofs.Entries.{count-without}
use Rattle.table_stop_kept.proofs.Noting.{count-at}
use Rattle.table_kept.proofs.LiveNames.{open-kept, place-live, name-live}
use Rattle.table_kept.proofs.HeldNow.{Holding, shows, below, holds-now, held, phase-so}
use Rattle.table_kept.proofs.ViewMoves.{view-here, view-set, views-same}
use Rattle.table_kept.proofs.CallbackMoves.{WritesCallback, spot-same, blocks-same, others-same, callback-after}
use Rattle.table_stop_kept.proofs.EndRun.Runs.{hand_below, live, near, may-end}
use Rattle.stop_kept.proofs.ScanAt.{map_or-some}
use Rattle.table_stop_kept.proofs.Scan.Views.{scan-passed}
use Rattle.table_laws.specs.Laws.{Has}
use Rattle.table_moves.specs.CallbackMoves.{ArmsByMove, EndsRunByMove}

-- a callback's word was written, and the hand's view changed
module _ {P E O : Type 0} (cargo : Ghosts P E O) (f : Frame O) (s : table.State (Option P) (View P E)) (r : Running cargo f s) (id : ℕ) (v : View P E) (at : Has s id v) (x : Name) (is-there : is_live (shown f s) x ≡ true) where
  node-within : x.node < f.layout.nodes
  node-within = let l = (lives (shown f s) x is-there).node in let e = r.frame.nodes in omega (arith, l, e)

  module _ (value : ℕ) (phase : CallbackPhase) (stamped : stamp_of value ≡ x.generation) (reads : callback_read value ≡ phase) (mine : View P E) (u : PureView) (shows-mine : shown_view (block_of f.layout s.words) mine ≡ u) where
    abbrev words : List ℕ
    words = slice_set s.words (index f.layout (OfCallback x.block x.node)) value

    abbrev stored : WritesCallback f.layout s.words
    stored = record {
      wide = r.sized.words;
      block = x.block;
      node = x.node;
      value = value;
      phase = phase;
      within = (lives (shown f s) x is-there).block;
      node_within = node-within;
      kept = open-kept (block_of f.layout s.words x.block).state (lives (shown f s) x is-there).is_opened;
      stamped = stamped ∙ (lives (shown f s) x is-there).generation;
      reads = reads;
    }

    block-kept : (j : ℕ) → block_of f.layout words j ≡ block_of f.layout s.words j
    block-kept = blocks-same f.layout s.words stored

    abbrev written : State
    written = with_view (with_callback (shown f s) x.block x.node phase) id u

    view-put : (h : ℕ) → view_at (block_of f.layout words) (slice_set s.views id mine) h ≡ written.view h
    view-put h =
        let before = block_of f.layout s.words in
        views-same before (block_of f.layout words)
        (λ y k. not (is_retired (block-kept y.block k).state) && y.generation == (block-kept y.block k).generation)
        (slice_set s.views id mine) h
        ∙ view-set before s.views id v mine at h
        ∙ ap (λ z. cond (h == id) z (view_at before s.views h)) shows-mine

    shown-put : (homes : List (maybe.Option (Option P))) →
        shown f record { words = words; homes = homes; views = slice_set s.views id mine } ≡ written
    shown-put homes =
        λ k. record {
          tree = f.tree;
          blocks = f.layout.blocks;
          hands = f.hands;
          kind = f.kind;
          most = f.most;
          block = λ j. block-kept j k;
          control = λ j m. others-same f.layout s.words stored
              Idle control_read OfControl (λ j m a b. (a, b)) (λ j m e. cc) j m k;
          callback = λ j m. callback-after f.layout s.words stored j m k;
          source = λ j m. others-same f.layout s.words stored
              clear source_read OfSource (λ j m a b. (a, b)) (λ j m e. cc) j m k;
          scope_source = source_read (spot-same f.layout s.words stored TheScopeSource tt (λ e. cc) k);
          scope = scope_read (spot-same f.layout s.words stored TheScope tt (λ e. cc) k);
          view = λ h. view-put h k;
        }

    pub shown-after : (s' : table.State (Option P) (View P E)) → s'.words ≡ words → s'.views ≡ slice_set s.views id mine → shown f s' ≡ written
    shown-after s' words_are views_are =
        (λ k. shown f record { words = words_are k; homes = s'.homes; views = views_are k }) ∙ shown-put s'.homes

-- what was read as never registered is so
never-of : (o : Option CallbackPhase) (phase : CallbackPhase) → o ≡ Some Never →
    MatchOption o (Unit {0}) (λ known. is_still known phase) → phase ≡ Never
never-of o phase is so = subst (λ p. MatchOption p (Unit {0}) (λ known. is_still known phase)) is so

pub arms-by_move : {P E O : Type 0} (cargo : Ghosts P E O) → ArmsByMove cargo
arms-by_move {P} {E} cargo board x old new can did s s' r stepped =
    let f = board.frame in
    let now = shown f s in
    let id = old.id in
    let v = old.me.0 in
    let blocks = block_of f.layout s.words in
    let hand : Standing cargo f = record { state = s; id = id; view = v; running = r; at = stepped.before } in
    let holding : Holding hand = record { name = x; entry = can.held; holds = can.holds } in
    let there = (held cargo f hand holding).live in
    let name = name-live now x there in
    let never : phase_at now x ≡ Never = never-of can.held.phase (phase_at now x) can.never (phase-so cargo f hand holding) in
    let u : PureView = record (now.view id) { unlooked = mark x true (now.view id).unlooked } in
    let mine : View P E = with_step (callback_index board x) did.read did.left (arms x v) in
    let shows_mine : shown_view blocks mine ≡ u =
    (λ k. record (shown_view blocks v) {
      holds = λ y. count-at (λ (e : Held E). e.name) (λ (e : Held E). record e { phase = Some Armed }) (λ e. refl) x v.held y k;
      unlooked = λ y. marks blocks x v (present now x there) y k;
    })
    ∙ ap (λ (z : PureView). record z { unlooked = mark x true z.unlooked }) (sym (shows cargo f hand holding)) in
    record {
      hand_is = below cargo f hand holding;
      needs = and_from _ _ (place-live now x there)
          (subst (λ y. (nat_le 1 ((now.view id).holds y) && (is_never (phase_at now y) && is_some (nearest_of now y))) ≡ true) (sym name)
          (and_from _ _ (le-leb 1 ((now.view id).holds x) (holds-now cargo f hand holding)) (and_from _ _ (ap is_never never) can.hears)));
      gives = shown-after cargo f s r id v stepped.before x there did.left Armed did.says.stamp_is did.says.reads mine u shows_mine s'
          stepped.words_are (stepped.views_are ∙ ap (λ z. slice_set s.views id z.0) did.me_is)
          ∙ ap (λ y. with_view (with_callback now x.block x.node Armed) id (record (now.view id) { unlooked = mark y true (now.view id).unlooked })) (sym name);
    }
  where
    present : (now : State) (x : Name) → is_live now x ≡ true → is_present now.block x ≡ true
    present now x there =
        let l = lives now x there in
        and_from _ _ (ap not (open-kept (now.block x.block).state l.is_opened)) (eq-eqb _ _ l.generation)

    marks : {P E : Type 0} (blocks : ℕ → BlockWord) (x : Name) (v : View P E) → is_present blocks x ≡ true → (y : Name) →
        (has_name (x ∷ v.unlooked) y && is_present blocks y) ≡ mark x true (λ z. has_name v.unlooked z && is_present blocks z) y
    marks blocks x v there y =
        either (same x y)
        (λ t.
        and_from (same x y || has_name v.unlooked y) (is_present blocks y) (or_left (same x y) (has_name v.unlooked y) t)
        (subst (λ z. is_present blocks z ≡ true) (same-true x y t) there)
        ∙ sym (cond-true (same x y) true (has_name v.unlooked y && is_present blocks y) t))
        (λ ne.
        ap (λ b. (b || has_name v.unlooked y) && is_present blocks y) ne
        ∙ sym (cond-false (same x y) true (has_name v.unlooked y && is_present blocks y) ne))

pub ends-run-by_move : {P E O : Type 0} (cargo : Ghosts P E O) → EndsRunByMove cargo
ends-run-by_move {P} {E} cargo board x old new can did s s' r stepped =
    let f = board.frame in
    let now = shown f s in
    let id = old.id in
    let v = old.me.0 in
    let blocks = block_of f.layout s.words in
    let hand : Standing cargo f = record { state = s; id = id; view = v; running = r; at = stepped.before } in
    let there = live cargo f hand x can in
    let name = name-live now x there in
    let is_shown : now.view id ≡ shown_view blocks v = view-here blocks s.views id v stepped.before in
    let hears = near cargo f hand x can in
    let source : SourceRef = hears.0 in
    let next : ℕ = number_of f.tree x + 1 in
    let found = map_or-some (λ i. is_next now source i x) ((now.view id).scan source) hears.2 in
    let scans : scan_in v.scans source ≡ Some found.0 = ap (λ (z : PureView). z.scan source) (sym is_shown) ∙ found.1 in
    let u : PureView = record (now.view id) { runs = lose x (now.view id).runs; scan = scan_at source (Some next) (now.view id).scan } in
    let mine : View P E = with_step (callback_index board x) did.read did.left (ends_run f.tree x v) in
    let shows_mine : shown_view blocks mine ≡ u =
    (λ k. record (shown_view blocks v) {
      runs = λ y. count-without (λ (z : Name). z) v.runs x y k;
      scan = λ t. (ap (λ o. scan_in (option_map_or (λ z. passes_to z next v.scans) o v.scans) t) hears.1
          ∙ scan-passed source next v.scans found.0 scans t) k;
    })
    ∙ ap (λ (z : PureView). record z { runs = lose x z.runs; scan = scan_at source (Some next) z.scan }) (sym is_shown) in
    let over_is : run_over now x (now.view id) ≡ u =
    let w : PureView = record (now.view id) { runs = lose x (now.view id).runs } in
    ap (λ o. option_map_or (λ t. record w { scan = scan_at t (Some next) w.scan }) o w) hears.1 in
    record {
      hand_is = hand_below cargo f hand x can;
      needs = and_from _ _ (place-live now x there)
          (subst (λ y. (nat_le 1 ((now.view id).runs y) && not (is_scanning (now.view id) (Node y))) ≡ true) (sym name) (may-end cargo f hand x can));
      gives = shown-after cargo f s r id v stepped.before x there did.left Ran did.says.stamp_is did.says.reads mine u shows_mine s'
          stepped.words_are (stepped.views_are ∙ ap (λ z. slice_set s.views id z.0) did.me_is)
          ∙ ap (λ z. with_view (with_callback now x.block x.node Ran) id z) (sym over_is)
          ∙ ap (λ y. with_view (with_callback now x.block x.node Ran) id (run_over now y (now.view id))) (sym name);
    }

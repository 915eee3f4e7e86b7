-- The steps by which a scan runs a callback and passes a place are moves of the pure machine.
use Rattle.std.proofs.Common.{◌≡◌, ℕ, true, false, ◌==◌, ◌<◌, ◌+◌, ◌*◌, List, [], ◌∷◌, length, arith, refl, sym, ap, ◌∙◌, subst, eq-eqb}
use Rattle.std.specs.Prelude.{Option, Some, slice_index, slice_set}
use Rattle.std.specs.Option.{option_map_or}
use Rattle.std.proofs.lemmas.Bool.{and_from, cond-true, cond-false, lt-ltb}
use Rattle.life_rules.specs.declared.words.CallbackPhase.TheVariants.{Running as Runs}
use Rattle.life_rules.specs.declared.event.Name.{Name}
use Rattle.life_rules.specs.declared.event.SourceRef.{SourceRef}
use Rattle.life_rules.specs.declared.event.SourceRef.TheVariants.{Scope, Node}
use Rattle.life_rules.specs.declared.event.Event.TheVariants.{Run}
use Rattle.life_rules.specs.Words.{is_armed}
use Rattle.life_rules.specs.Views.{View as PureView, gain, scan_at}
use Rattle.life_rules.specs.States.{State, is_live, phase_at, bits_at, name_of, with_view, with_callback}
use Rattle.life_rules.specs.Scans.{is_next, is_next_in}
use Rattle.life_rules.specs.StopSteps.{source_of, may_run, passed}
use Rattle.life_rules.specs.Steps.{Step}
use Rattle.table_words.specs.Stamps.{stamp_of}
use Rattle.table_words.specs.Controls.{callback_read}
use Rattle.atomic_table.specs.Table as table
use Rattle.table_rules.specs.declared.cargo.Cargo.{Ghosts}
use Rattle.table_rules.specs.declared.frame.Frame.{Frame}
use Rattle.table_rules.specs.declared.view.View.{View}
use Rattle.table_rules.specs.ShownWords.{block_of}
use Rattle.table_rules.specs.ShownViews.{shown_view}
use Rattle.table_rules.specs.Scenes.{shown}
use Rattle.table_rules.specs.Running.{Running}
use Rattle.table_steps.specs.Views.{Board}
use Rattle.table_steps.specs.Claims.{with_step, logged}
use Rattle.table_steps.specs.Runs.{CanRun, says_armed, AreTries, run_index, runs_place, passes_place, reads_on, last_of}
use Rattle.table_stop_kept.proofs.ArmedWords.{PlaceNow, armed-live, armed-phase, armed-stamp, unarmed-phase}
use Rattle.table_kept.proofs.LiveNames.{name-live}
use Rattle.table_stop_kept.proofs.Run.Runs.{ToRun, none-there, scannable, present}
use Rattle.table_stop_kept.proofs.Scan.Orders.{next-place}
use Rattle.table_stop_kept.proofs.Scan.Seal.{requested-live}
use Rattle.table_stop_kept.proofs.Scan.Views.{scan-passed}
use Rattle.table_kept.proofs.Seats.{at_within}
use Rattle.table_kept.proofs.Standing.{Standing}
use Rattle.table_kept.proofs.ViewMoves.{view-here}
use Rattle.table_laws.specs.Laws.{Has}
use Rattle.table_moves.specs.ScanMoves.{source_at, place_at, RunsByMove, PassesByMove}
use Rattle.table_moves.proofs.CallbackMoves.{shown-after}
use Rattle.table_moves.proofs.WithdrawMoves.{view-after, word-same}

-- of words that were read as armed the last one is armed
last-armed : (word : ℕ) → says_armed word ≡ true → (tries : List ℕ) → AreTries word tries → says_armed (last_of word tries) ≡ true
last-armed word armed [] later = armed
last-armed word armed (next ∷ rest) later = last-armed next later.0 rest later.2

-- a hand whose scan comes to the place
module _ {P E O : Type 0} (cargo : Ghosts P E O) (board : Board O) (source : SourceRef) (b m : ℕ) (hb : b < board.frame.layout.blocks) (id : ℕ) (v : View P E) (can : CanRun board.frame.tree v source b m) (s : table.State (Option P) (View P E)) (r : Running cargo board.frame s) (at : Has s id v) (read : ℕ) (is-read : slice_index s.words (run_index board b m) ≡ read) where
  abbrev f : Frame O
  f = board.frame

  abbrev now : State
  now = shown f s

  abbrev hand : Standing cargo f
  hand = record { state = s; id = id; view = v; running = r; at = at }

  abbrev running_next : ToRun hand
  running_next = record { source = source; block = b; place = m; can = can; within = hb; cell = 0; number = 0 }

  abbrev x : Name
  x = name_of now b m

  is-shown : now.view id ≡ shown_view (block_of f.layout s.words) v
  is-shown = view-here (block_of f.layout s.words) s.views id v at

  below : id < f.hands
  below = let l = at_within s.views id v at in let k = r.sized.seats in omega (arith, l, k)

  scans-now : (now.view id).scan source ≡ Some can.from
  scans-now = ap (λ (z : PureView). z.scan source) is-shown ∙ can.scans

  source-is : (t : SourceRef) → (bits_at now t).requested ≡ true → source_of now (source_at t) ≡ t
  source-is Scope asks = refl
  source-is (Node y) asks = ap Node (name-live now y (requested-live now y asks))

  here-source : source_of now (source_at source) ≡ source
  here-source = source-is source (scannable cargo f hand running_next).requested

  next-now : is_next_in now (now.view id) source x ≡ true
  next-now =
      ap (λ o. option_map_or (λ j. is_next now source j x) o false) scans-now
      ∙ next-place now source (present cargo f hand running_next source (scannable cargo f hand running_next).requested) can.from b m
      ∙ can.next

  unrun : ((now.view id).runs x == 0) ≡ true
  unrun = eq-eqb ((now.view id).runs x) 0 (ap (λ (z : PureView). z.runs x) is-shown ∙ none-there v.runs x can.unrun)

  may : may_run now id (source_at source) (place_at b m) ≡ true
  may =
      and_from _ _ (and_from _ _ (lt-ltb b f.layout.blocks hb) (lt-ltb m (length f.tree) can.within))
      (and_from _ _ (subst (λ t. is_next_in now (now.view id) t x ≡ true) (sym here-source) next-now) unrun)

  hm : m < f.layout.nodes
  hm = let l = can.within in let e = r.frame.nodes in omega (arith, l, e)

  abbrev spot : PlaceNow cargo f
  spot = record { state = s; running = r; block = b; node = m; in_blocks = hb; in_nodes = hm }

  abbrev runs : PureView
  runs = record (now.view id) { runs = gain x (now.view id).runs }

  abbrev passes : SourceRef → PureView
  passes t = passed now t x (now.view id)

  pub run-move : (left : ℕ) (name : Name) → says_armed read ≡ true → name ≡ record { block = b; generation = stamp_of read; node = m } →
      stamp_of left ≡ name.generation → callback_read left ≡ Runs → (s' : table.State (Option P) (View P E)) →
      s'.words ≡ slice_set s.words (run_index board b m) left →
      s'.views ≡ slice_set s.views id (with_step (run_index board b m) read left (runs_place name v)) →
      Step now id (Run (source_at source) (place_at b m)) (shown f s')
  run-move left name armed_read name_is stamped reads s' words_are views_are =
      let armed : says_armed (slice_index s.words (run_index board b m)) ≡ true = ap says_armed is-read ∙ armed_read in
      let there : is_live now x ≡ true = armed-live cargo f spot armed in
      let stamp : stamp_of read ≡ x.generation = ap stamp_of (sym is-read) ∙ armed-stamp cargo f spot armed in
      let is_x : name ≡ x = name_is ∙ (λ k. record { block = b; generation = stamp k; node = m }) in
      record {
        hand_is = below;
        needs = may;
        gives = shown-after cargo f s r id v at x there left Runs (stamped ∙ ap (λ (z : Name). z.generation) is_x) reads
            (with_step (run_index board b m) read left (runs_place name v)) runs
            (ap (λ z. shown_view (block_of f.layout s.words) (runs_place z v)) is_x
            ∙ ap (λ (z : PureView). record z { runs = gain x z.runs }) (sym is-shown))
            s' words_are views_are
            ∙ sym (cond-true (is_armed (phase_at now x)) (with_view (with_callback now b m Runs) id runs)
            (with_view now id (passes (source_of now (source_at source)))) (ap is_armed (armed-phase cargo f spot armed)));
      }

  pub pass-move : says_armed read ≡ false → (s' : table.State (Option P) (View P E)) → s'.words ≡ slice_set s.words (run_index board b m) read →
      s'.views ≡ slice_set s.views id (logged (run_index board b m) read (passes_place f.tree source b m v)) →
      Step now id (Run (source_at source) (place_at b m)) (shown f s')
  pass-move unarmed_read s' words_are views_are =
      let unarmed : says_armed (slice_index s.words (run_index board b m)) ≡ false = ap says_armed is-read ∙ unarmed_read in
      let next : ℕ = b * length f.tree + m + 1 in
      record {
        hand_is = below;
        needs = may;
        gives = view-after cargo f s id v at (logged (run_index board b m) read (passes_place f.tree source b m v)) (passes source)
            ((λ k. record (shown_view (block_of f.layout s.words) v) {
              scan = λ t. scan-passed source next v.scans can.from can.scans t k;
            })
            ∙ ap (λ (z : PureView). record z { scan = scan_at source (Some next) z.scan }) (sym is-shown))
            s' (words_are ∙ word-same cargo f s id v at (run_index board b m) read is-read) views_are
            ∙ ap (λ t. with_view now id (passes t)) (sym here-source)
            ∙ sym (cond-false (is_armed (phase_at now x)) (with_view (with_callback now b m Runs) id runs)
            (with_view now id (passes (source_of now (source_at source)))) (unarmed-phase cargo f spot unarmed));
      }

-- the loads before changed nothing but the list of steps
still-can : {P E : Type 0} {v : View P E} (tree : _) (source : SourceRef) (b m i : ℕ) (words : List ℕ) → CanRun tree v source b m →
    CanRun tree (reads_on i words v) source b m
still-can tree source b m i words can =
    record { from = can.from; scans = can.scans; within = can.within; next = can.next; unrun = can.unrun }

pub runs-by_move : {P E O : Type 0} (cargo : Ghosts P E O) → RunsByMove cargo
runs-by_move cargo board source b m name old new hb can did s s' r stepped =
    let i = run_index board b m in
    run-move cargo board source b m hb old.id (reads_on i (did.word ∷ did.tries) old.me.0)
    (still-can board.frame.tree source b m i (did.word ∷ did.tries) can) s r stepped.before (last_of did.word did.tries) stepped.read_is
    did.left name (last-armed did.word did.armed did.tries did.later) did.name_is did.says.stamp_is did.says.reads s' stepped.words_are
    (stepped.views_are ∙ ap (λ z. slice_set s.views old.id z.0) did.me_is)

pub passes-by_move : {P E O : Type 0} (cargo : Ghosts P E O) → PassesByMove cargo
passes-by_move cargo board source b m old new hb can did s s' r stepped =
    let i = run_index board b m in
    pass-move cargo board source b m hb old.id (reads_on i did.words old.me.0) (still-can board.frame.tree source b m i did.words can) s r
    stepped.before did.last stepped.read_is did.unarmed s' stepped.words_are
    (stepped.views_are ∙ ap (λ z. slice_set s.views old.id z.0) did.me_is)

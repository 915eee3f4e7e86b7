-- The steps by which a callback is removed are moves of the pure machine.
use Rattle.std.proofs.Common.{◌≡◌, ℕ, true, false, not, ◌&&◌, ◌==◌, ◌+◌, ◌^◌, ◌/◌, ◌%◌, cond, arith, refl, sym, ap, ◌∙◌, subst, eq-eqb}
use Rattle.std.specs.Prelude.{Option, Some, nat_le, slice_index, slice_set}
use Rattle.std.specs.Option.{option_map_or}
use Rattle.std.proofs.lemmas.Bool.{and_from, cond-true, cond-false, le-leb}
use Rattle.std.proofs.lemmas.Nat.{div-mul-add, mod-mul-add}
use Rattle.common_lemmas.proofs.Bool.{either}
use lib.Seq.{set-get_or}
use Rattle.life_rules.specs.declared.words.BlockWord.{BlockWord}
use Rattle.life_rules.specs.declared.words.CallbackPhase.{CallbackPhase}
use Rattle.life_rules.specs.declared.words.CallbackPhase.TheVariants.{Removed}
use Rattle.life_rules.specs.declared.event.Name.{Name}
use Rattle.life_rules.specs.declared.event.SourceRef.{SourceRef}
use Rattle.life_rules.specs.declared.event.SourceRef.TheVariants.{Node}
use Rattle.life_rules.specs.declared.event.Event.TheVariants.{Withdraw}
use Rattle.life_rules.specs.Words.{is_armed}
use Rattle.life_rules.specs.Views.{View as PureView, lose, note, scan_at, is_scanning}
use Rattle.life_rules.specs.States.{State, is_live, phase_at, name_at, nearest_of, with_view, with_callback}
use Rattle.life_rules.specs.Scans.{is_next}
use Rattle.life_rules.specs.StopSteps.{run_over}
use Rattle.life_rules.specs.Steps.{Step}
use Rattle.stop_kept.proofs.ScanAt.{map_or-some}
use Rattle.table_words.specs.Controls.{callback_written, callback_of_code}
use Rattle.atomic_table.specs.Table as table
use Rattle.atomic_table.specs.declared.shared.Seat.{Seat}
use Rattle.table_rules.specs.declared.cargo.Cargo.{Ghosts}
use Rattle.table_rules.specs.declared.frame.Frame.{Frame}
use Rattle.table_rules.specs.declared.view.View.{View}
use Rattle.table_rules.specs.declared.view.Held.{Held}
use Rattle.table_rules.specs.ShownWords.{block_of}
use Rattle.table_rules.specs.ShownViews.{view_at, shown_view, scan_in}
use Rattle.table_rules.specs.Scenes.{shown}
use Rattle.table_rules.specs.Running.{Running}
use Rattle.table_steps.specs.Claims.{with_step}
use Rattle.table_steps.specs.Readings.{says_phase, notes_phase}
use Rattle.table_steps.specs.Views.{Board}
use Rattle.table_steps.specs.Callbacks.{callback_index, is_registered, learns, withdraws, left_by, CanWithdraw, IsWithdrawn}
use Rattle.table_steps.specs.RunEnds.{removes_own, passes_to, number_of}
use Rattle.table_kept.proofs.Standing.{Standing}
use Rattle.table_kept.proofs.Entries.{count-without}
use Rattle.table_stop_kept.proofs.Noting.{count-at}
use Rattle.table_kept.proofs.AsideSteps.{unmoved}
use Rattle.table_kept.proofs.FoundNow.{found-callback}
use Rattle.table_stop_kept.proofs.Learning.{shows-learned}
use Rattle.table_kept.proofs.LiveNames.{place-live, name-live}
use Rattle.table_kept.proofs.HeldNow.{Holding, shows, below, holds-now, held}
use Rattle.table_kept.proofs.ViewMoves.{view-here, view-set}
use Rattle.table_stop_kept.proofs.EndRun.Runs.{hand_below, live, near, may-end}
use Rattle.table_stop_kept.proofs.Scan.Views.{scan-passed}
use Rattle.table_stop_kept.proofs.Withdraw.Runs.{registered}
use Rattle.table_laws.specs.Laws.{Has}
use Rattle.table_moves.specs.Moves.{place_of, HasStepped}
use Rattle.table_moves.specs.CallbackMoves.{WithdrawsByMove, WithdrawsOwnByMove}
use Rattle.table_moves.proofs.CallbackMoves.{shown-after}

-- no word changed, and one view
module _ {P E O : Type 0} (cargo : Ghosts P E O) (f : Frame O) (s : table.State (Option P) (View P E)) (id : ℕ) (v : View P E) (at : Has s id v) where
  pub view-after : (mine : View P E) (u : PureView) → shown_view (block_of f.layout s.words) mine ≡ u → (s' : table.State (Option P) (View P E)) →
      s'.words ≡ s.words → s'.views ≡ slice_set s.views id mine → shown f s' ≡ with_view (shown f s) id u
  view-after mine u shows-mine s' words_same views_are =
      let blocks = block_of f.layout s.words in
      (λ k. shown f record { words = words_same k; homes = s'.homes; views = s'.views })
      ∙ (λ k. record (shown f s) {
        view = λ h. (ap (λ vs. view_at blocks vs h) views_are ∙ view-set blocks s.views id v mine at h
            ∙ ap (λ z. cond (h == id) z (view_at blocks s.views h)) shows-mine) k;
      })

  -- a word that was left as it was read
  pub word-same : (i read : ℕ) → slice_index s.words i ≡ read → slice_set s.words i read ≡ s.words
  word-same i read is = ap (slice_set s.words i) (sym is) ∙ set-get_or s.words i 0

-- what the hand notes of the callback is shown as before
shows-noted : {P E : Type 0} (blocks : ℕ → BlockWord) (x : Name) (phase : CallbackPhase) (w : View P E) →
    shown_view blocks (notes_phase x phase w) ≡ shown_view blocks w
shows-noted {P} {E} blocks x phase w =
    λ k. record (shown_view blocks w) {
      holds = λ y. count-at (λ (e : Held E). e.name) (λ (e : Held E). record e { phase = Some phase }) (λ e. refl) x w.held y k;
    }

-- a callback that is removed from outside its run, or was found running or done
module _ {P E O : Type 0} (cargo : Ghosts P E O) (board : Board O) (x : Name) (answer : CallbackPhase) (old new : Seat (Option P) (View P E)) (can : CanWithdraw old.me.0 x) (did : IsWithdrawn board x answer old new) (s s' : table.State (Option P) (View P E)) (r : Running cargo board.frame s) (stepped : HasStepped (callback_index board x) did.word (left_by x.generation did.word) old.id old.me.0 new.me.0 s s') where
  abbrev f : Frame O
  f = board.frame

  abbrev now : State
  now = shown f s

  abbrev id : ℕ
  id = old.id

  abbrev v : View P E
  v = old.me.0

  abbrev blocks : ℕ → BlockWord
  blocks = block_of f.layout s.words

  abbrev hand : Standing cargo f
  hand = record { state = s; id = id; view = v; running = r; at = stepped.before }

  abbrev holding : Holding hand
  holding = record { name = x; entry = can.held; holds = can.holds }

  there : is_live now x ≡ true
  there = (held cargo f hand holding).live

  name : name_at now (place_of x) ≡ x
  name = name-live now x there

  is-shown : now.view id ≡ shown_view blocks v
  is-shown = shows cargo f hand holding

  kept_so : is_registered (phase_at now x) ≡ true
  kept_so = registered cargo f hand (record { name = x; can = can; cell = 0; number = 0 })

  unrun : ((now.view id).runs x == 0) ≡ true
  unrun = (λ k. (is-shown k).runs x == 0) ∙ eq-eqb _ 0 can.unrun

  phase-is : phase_at now x ≡ answer
  phase-is =
      sym (found-callback cargo f s r x there (phase_at now x) refl).reads ∙ ap (says_phase x.generation) stepped.read_is ∙ sym did.answer_is

  abbrev learned : Name → PureView
  learned y = record (now.view id) { seen = option_map_or (λ source. note source true (now.view id).seen) (nearest_of now y) (now.view id).seen }

  views-are : s'.views ≡ slice_set s.views id (with_step (callback_index board x) did.word (left_by x.generation did.word) (withdraws f.tree x answer v))
  views-are = stepped.views_are ∙ ap (λ z. slice_set s.views id z.0) did.me_is

  removes : is_armed answer ≡ true → shown f s' ≡ cond (is_armed (phase_at now x)) (with_callback now x.block x.node Removed) (with_view now id (learned x))
  removes t =
      let left_is : left_by x.generation did.word ≡ callback_written x.generation Removed =
      cond-true (is_armed (says_phase x.generation did.word)) (callback_written x.generation Removed) did.word (ap is_armed (sym did.answer_is) ∙ t) in
      let stamped = ap (λ w. w / 2 ^ 32) left_is ∙ div-mul-add x.generation (2 ^ 32) 4 (omega arith) in
      let reads = ap (λ w. callback_of_code (w % 2 ^ 32)) left_is ∙ ap callback_of_code (mod-mul-add x.generation (2 ^ 32) 4 (omega arith)) in
      shown-after cargo f s r id v stepped.before x there (left_by x.generation did.word) Removed stamped reads
      (with_step (callback_index board x) did.word (left_by x.generation did.word) (withdraws f.tree x answer v)) (now.view id)
      (ap (shown_view blocks) (cond-true (is_armed answer) (notes_phase x Removed v) (learns f.tree x (notes_phase x answer v)) t)
      ∙ shows-noted blocks x Removed v ∙ sym is-shown)
      s' stepped.words_are views-are
      ∙ unmoved (with_callback now x.block x.node Removed) id
      ∙ sym (cond-true (is_armed (phase_at now x)) (with_callback now x.block x.node Removed) (with_view now id (learned x)) (ap is_armed phase-is ∙ t))

  tells : is_armed answer ≡ false → shown f s' ≡ cond (is_armed (phase_at now x)) (with_callback now x.block x.node Removed) (with_view now id (learned x))
  tells n =
      let left_is : left_by x.generation did.word ≡ did.word =
      cond-false (is_armed (says_phase x.generation did.word)) (callback_written x.generation Removed) did.word (ap is_armed (sym did.answer_is) ∙ n) in
      view-after cargo f s id v stepped.before
      (with_step (callback_index board x) did.word (left_by x.generation did.word) (withdraws f.tree x answer v)) (learned x)
      (ap (shown_view blocks) (cond-false (is_armed answer) (notes_phase x Removed v) (learns f.tree x (notes_phase x answer v)) n)
      ∙ shows-learned now x there (notes_phase x answer v)
      ∙ ap (λ (z : PureView). record z { seen = option_map_or (λ source. note source true z.seen) (nearest_of now x) z.seen })
      (shows-noted blocks x answer v ∙ sym is-shown))
      s'
      (stepped.words_are ∙ ap (slice_set s.words (callback_index board x)) left_is
      ∙ word-same cargo f s id v stepped.before (callback_index board x) did.word stepped.read_is)
      views-are
      ∙ sym (cond-false (is_armed (phase_at now x)) (with_callback now x.block x.node Removed) (with_view now id (learned x)) (ap is_armed phase-is ∙ n))

  pub withdraw-move : Step now id (Withdraw (place_of x)) (shown f s')
  withdraw-move =
      record {
        hand_is = below cargo f hand holding;
        needs = and_from _ _ (place-live now x there)
            (subst (λ y. (nat_le 1 ((now.view id).holds y) && ((now.view id).runs y == 0 && is_registered (phase_at now y))) ≡ true) (sym name)
            (and_from _ _ (le-leb 1 ((now.view id).holds x) (holds-now cargo f hand holding)) (and_from _ _ unrun kept_so)));
        gives = either (is_armed answer) removes tells
            ∙ ap (λ y. cond (is_armed (phase_at now y)) (with_callback now x.block x.node Removed) (with_view now id (learned y))) (sym name);
      }

pub withdraws-by_move : {P E O : Type 0} (cargo : Ghosts P E O) → WithdrawsByMove cargo
withdraws-by_move cargo board x answer old new can did s s' r stepped = withdraw-move cargo board x answer old new can did s s' r stepped

pub withdraws-own-by_move : {P E O : Type 0} (cargo : Ghosts P E O) → WithdrawsOwnByMove cargo
withdraws-own-by_move {P} {E} cargo board x old new can did s s' r stepped =
    let f = board.frame in
    let now = shown f s in
    let id = old.id in
    let v = old.me.0 in
    let blocks = block_of f.layout s.words in
    let hand : Standing cargo f = record { state = s; id = id; view = v; running = r; at = stepped.before } in
    let holding : Holding hand = record { name = x; entry = can.held; holds = can.holds } in
    let there = live cargo f hand x can.run in
    let name = name-live now x there in
    let is_shown : now.view id ≡ shown_view blocks v = view-here blocks s.views id v stepped.before in
    let hears = near cargo f hand x can.run in
    let source : SourceRef = hears.0 in
    let next : ℕ = number_of f.tree x + 1 in
    let found = map_or-some (λ i. is_next now source i x) ((now.view id).scan source) hears.2 in
    let scans : scan_in v.scans source ≡ Some found.0 = ap (λ (z : PureView). z.scan source) (sym is_shown) ∙ found.1 in
    let u : PureView = record (now.view id) { runs = lose x (now.view id).runs; scan = scan_at source (Some next) (now.view id).scan } in
    let mine : View P E = with_step (callback_index board x) did.read did.left (removes_own f.tree x v) in
    let shows_mine : shown_view blocks mine ≡ u =
    (λ k. record (shown_view blocks v) {
      holds = λ y. count-at (λ (e : Held E). e.name) (λ (e : Held E). record e { phase = Some Removed }) (λ e. refl) x v.held y k;
      runs = λ y. count-without (λ (z : Name). z) v.runs x y k;
      scan = λ t. (ap (λ o. scan_in (option_map_or (λ z. passes_to z next v.scans) o v.scans) t) hears.1
          ∙ scan-passed source next v.scans found.0 scans t) k;
    })
    ∙ ap (λ (z : PureView). record z { runs = lose x z.runs; scan = scan_at source (Some next) z.scan }) (sym is_shown) in
    let over_is : run_over now x (now.view id) ≡ u =
    let w : PureView = record (now.view id) { runs = lose x (now.view id).runs } in
    ap (λ o. option_map_or (λ t. record w { scan = scan_at t (Some next) w.scan }) o w) hears.1 in
    record {
      hand_is = hand_below cargo f hand x can.run;
      needs = and_from _ _
          (and_from _ _ (place-live now x there)
          (subst (λ y. (nat_le 1 ((now.view id).runs y) && not (is_scanning (now.view id) (Node y))) ≡ true) (sym name) (may-end cargo f hand x can.run)))
          (subst (λ y. nat_le 1 ((now.view id).holds y) ≡ true) (sym name) (le-leb 1 ((now.view id).holds x) (holds-now cargo f hand holding)));
      gives = shown-after cargo f s r id v stepped.before x there did.left Removed did.says.stamp_is did.says.reads mine u shows_mine s'
          stepped.words_are (stepped.views_are ∙ ap (λ z. slice_set s.views id z.0) did.me_is)
          ∙ ap (λ z. with_view (with_callback now x.block x.node Removed) id z) (sym over_is)
          ∙ ap (λ y. with_view (with_callback now x.block x.node Removed) id (run_over now y (now.view id))) (sym name);
    }

-- The steps by which a hand reports a child and wakes a parked node are moves of the pure machine.
use Rattle.std.proofs.Common.{◌≡◌, ℕ, ℤ, Bool, true, false, not, ◌&&◌, ◌||◌, ◌==◌, ◌≤◌, ◌+◌, cond, List, arith, refl, sym, ap, ◌∙◌, subst}
use Rattle.std.specs.Prelude.{Option, is_some, nat_le, slice_index, slice_set}
use Rattle.std.specs.Option.{option_map_or}
use Rattle.std.proofs.lemmas.Bool.{and_from, cond-true, cond-false, eqb-true, ne_eqb, le-leb}
use Rattle.life_rules.specs.declared.words.ControlWord.TheVariants.{Busy, ReadyLoop, Parked}
use Rattle.life_rules.specs.declared.event.Name.{Name}
use Rattle.life_rules.specs.declared.event.SourceRef.TheVariants.{Node}
use Rattle.life_rules.specs.declared.event.Event.TheVariants.{Report as report}
use Rattle.node_tree.specs.Tree.{parent_of}
use Rattle.life_rules.specs.Words.{is_parked, one_less, pending}
use Rattle.life_rules.specs.Views.{View as PureView, gain, lose, is_scanning}
use Rattle.life_rules.specs.States.{State, is_live, control_at, name_at, name_of}
use Rattle.life_rules.specs.LifeSteps.{may_report, reported_to, after_report}
use Rattle.life_rules.specs.ScopeSteps.{after_rouse}
use Rattle.life_rules.specs.Steps.{Step}
use Rattle.common_lemmas.proofs.Bool.{either}
use Rattle.life_rules.proofs.Readings.{lives}
use Rattle.life_kept.proofs.Puts.{put}
use Rattle.table_words.specs.Stamps.{stamp_of}
use Rattle.table_words.specs.Controls.{control_read}
use Rattle.atomic_table.specs.Table as table
use Rattle.atomic_table.specs.declared.shared.Seat.{Seat}
use Rattle.table_rules.specs.declared.cargo.Cargo.{Ghosts}
use Rattle.table_rules.specs.declared.frame.Frame.{Frame}
use Rattle.table_rules.specs.declared.view.View.{View}
use Rattle.table_rules.specs.ShownWords.{block_of}
use Rattle.table_rules.specs.ShownViews.{shown_view}
use Rattle.table_rules.specs.Scenes.{shown}
use Rattle.table_rules.specs.Running.{Running}
use Rattle.table_steps.specs.Views.{Board}
use Rattle.table_steps.specs.Claims.{with_step}
use Rattle.table_steps.specs.declared.report.Report.TheVariants.{Last, Others}
use Rattle.table_steps.specs.Readings.{above_it}
use Rattle.table_steps.specs.Reports.{CanReport, CountsDown, holds_last, reports_off}
use Rattle.table_steps.specs.Steps.{control_index}
use Rattle.table_kept.proofs.Standing.{Standing}
use Rattle.table_kept.proofs.Entries.{count-without}
use Rattle.table_kept.proofs.LiveNames.{place-live, name-live}
use Rattle.table_life_kept.proofs.Report.State.{above, shows, below, owes-now, child-live, above-live}
use Rattle.table_life_kept.proofs.Report.Told.{parent-above}
use Rattle.table_kept.proofs.Seats.{at_within}
use Rattle.table_kept.proofs.ViewMoves.{view-here}
use Rattle.table_life_kept.proofs.WordsLive.{LiveWord, SaysLive, says-live}
use Rattle.table_laws.specs.Laws.{Has}
use Rattle.table_moves.specs.Moves.{place_of, ReportsByMove, RousesByMove}
use Rattle.table_moves.proofs.Moves.{shown-after}

-- a hand that may report the child
module _ {P E O : Type 0} (cargo : Ghosts P E O) (board : Board O) (c : Name) (old : Seat (Option P) (View P E)) (can : CanReport board.frame.tree old.me.0 c) (s : table.State (Option P) (View P E)) (r : Running cargo board.frame s) (at : Has s old.id old.me.0) where
  abbrev f : Frame O
  f = board.frame

  abbrev now : State
  now = shown f s

  abbrev id : ℕ
  id = old.id

  abbrev v : View P E
  v = old.me.0

  abbrev hand : Standing cargo f
  hand = record { state = s; id = id; view = v; running = r; at = at }

  abbrev x : Name
  x = above_it f.tree c

  x-is : x ≡ above cargo f hand c can
  x-is = parent-above f.tree v c can

  x-live : is_live now x ≡ true
  x-live = subst (λ z. is_live now z ≡ true) (sym x-is) (above-live cargo f hand c can)

  parent-name : name_of now c.block can.parent ≡ x
  parent-name =
      (λ k. record { block = c.block; generation = (sym (lives now c (child-live cargo f hand c can)).generation) k; node = can.parent })
      ∙ sym x-is

  child-name : name_at now (place_of c) ≡ c
  child-name = name-live now c (child-live cargo f hand c can)

  pub may-report : may_report now id (place_of c) ≡ true
  may-report =
      let scans : not (is_scanning (now.view id) (Node (above cargo f hand c can))) ≡ true =
      subst (λ (z : PureView). not (is_scanning z (Node (above cargo f hand c can))) ≡ true) (sym (shows cargo f hand c can))
      (ap (λ o. not (is_some o)) can.unscanned) in
      let free : option_map_or (λ q. not (is_scanning (now.view id) (Node (name_of now c.block q)))) (parent_of f.tree c.node) false ≡ true =
      ap (λ o. option_map_or (λ q. not (is_scanning (now.view id) (Node (name_of now c.block q)))) o false) can.parent_is
      ∙ ap (λ z. not (is_scanning (now.view id) (Node z))) (parent-name ∙ x-is) ∙ scans in
      and_from _ _ (place-live now c (child-live cargo f hand c can))
      (and_from _ _ (le-leb 1 _ (subst (λ z. 1 ≤ (now.view id).reports z) (sym child-name) (owes-now cargo f hand c can))) free)

  -- the views that a report leaves, of the one that owes it and of the one that holds the parent y then
  abbrev reporting : PureView → Name → PureView
  reporting u d = record u { reports = lose d u.reports }

  abbrev reporting_last : PureView → Name → Name → PureView
  reporting_last u d y = record u { reports = lose d u.reports; holds = gain y u.holds }

  after-is : put now id x (one_less (control_at now x)) (cond (pending (control_at now x) == 1) (reporting_last (now.view id) c x) (reporting (now.view id) c))
      ≡ after_report now id (place_of c)
  after-is =
      sym (ap (λ o. option_map_or (λ q. reported_to now id (place_of c) (name_of now c.block q)) o now) can.parent_is
      ∙ ap (reported_to now id (place_of c)) parent-name
      ∙ ap (λ (d : Name). put now id x (one_less (control_at now x)) (cond (pending (control_at now x) == 1) (reporting_last (now.view id) d x) (reporting (now.view id) d))) child-name)

  module _ (read left : ℕ) (counts : CountsDown x read left) (is-read : slice_index s.words (control_index board x) ≡ read) where
    said : SaysLive now x (Busy (counts.fewer + 1))
    said =
        let l = lives now x x-live in
        let node = l.node in
        let wide = r.frame.nodes in
        let live_word : LiveWord cargo f = record {
          state = s;
          name = x;
          word = Busy (counts.fewer + 1);
          running = r;
          within = l.block;
          node_within = omega (arith, node, wide);
          stamped = ap stamp_of is-read ∙ counts.was.stamp_is;
          reads = ap control_read is-read ∙ counts.was.reads;
          under_way = refl;
        } in
        says-live cargo f live_word

    pending-is : pending (control_at now x) ≡ pending (control_read read)
    pending-is = ap pending (said.word ∙ sym counts.was.reads)

    less-is : Busy counts.fewer ≡ one_less (control_at now x)
    less-is = ap Busy (omega arith) ∙ sym (ap one_less said.word)

    module _ (mine : View P E) (u : PureView) (shows-mine : shown_view (block_of f.layout s.words) mine ≡ u) (ends : u ≡ cond (pending (control_at now x) == 1) (reporting_last (now.view id) c x) (reporting (now.view id) c)) where
      pub moves : (s' : table.State (Option P) (View P E)) → s'.words ≡ slice_set s.words (control_index board x) left →
          s'.views ≡ slice_set s.views id mine → Step now id (report (place_of c)) (shown f s')
      moves s' words_are views_are =
          record {
            hand_is = below cargo f hand c can;
            needs = may-report;
            gives = shown-after cargo f s r id v at x x-live left (Busy counts.fewer) counts.now.stamp_is counts.now.reads mine u shows-mine
                s' words_are views_are
                ∙ (λ k. put now id x (less-is k) (ends k))
                ∙ after-is;
          }

    -- the report after which the parent waits on
    shows-off : (i : ℕ) → shown_view (block_of f.layout s.words) (with_step i read left (reports_off c v)) ≡ reporting (now.view id) c
    shows-off i =
        let before = shown_view (block_of f.layout s.words) v in
        (λ k. record before { reports = λ y. count-without (λ e. e.name) v.reported c y k })
        ∙ ap (λ (z : PureView). reporting z c) (sym (shows cargo f hand c can))

    pub on : (pending (control_read read) ≡ 1 → ⊥) → (s' : table.State (Option P) (View P E)) →
        s'.words ≡ slice_set s.words (control_index board x) left →
        s'.views ≡ slice_set s.views id (with_step (control_index board x) read left (reports_off c v)) →
        Step now id (report (place_of c)) (shown f s')
    on more s' words_are views_are =
        moves (with_step (control_index board x) read left (reports_off c v)) (reporting (now.view id) c) (shows-off (control_index board x))
        (sym (cond-false (pending (control_at now x) == 1) (reporting_last (now.view id) c x) (reporting (now.view id) c)
        (ne_eqb (pending (control_at now x)) 1 (λ e. more (sym pending-is ∙ e))))) s' words_are views_are

    -- and the last one
    shows-last : (i : ℕ) (start : List E) (named : ℕ) (told kids : Bool) (lot : List ℤ) →
        shown_view (block_of f.layout s.words) (with_step i read left (holds_last x start named told kids lot (reports_off c v)))
        ≡ reporting_last (now.view id) c x
    shows-last i start named told kids lot =
        let before = shown_view (block_of f.layout s.words) v in
        (λ k. record before { reports = λ y. count-without (λ e. e.name) v.reported c y k; holds = gain x before.holds })
        ∙ ap (λ (z : PureView). reporting_last z c x) (sym (shows cargo f hand c can))

    pub last : pending (control_read read) ≡ 1 → (start : List E) (named : ℕ) (told kids : Bool) (lot : List ℤ) (s' : table.State (Option P) (View P E)) →
        s'.words ≡ slice_set s.words (control_index board x) left →
        s'.views ≡ slice_set s.views id (with_step (control_index board x) read left (holds_last x start named told kids lot (reports_off c v))) →
        Step now id (report (place_of c)) (shown f s')
    last one start named told kids lot s' words_are views_are =
        moves (with_step (control_index board x) read left (holds_last x start named told kids lot (reports_off c v)))
        (reporting_last (now.view id) c x) (shows-last (control_index board x) start named told kids lot)
        (sym (cond-true (pending (control_at now x) == 1) (reporting_last (now.view id) c x) (reporting (now.view id) c)
        (ap (λ k. k == 1) (pending-is ∙ one)))) s' words_are views_are

pub reports-by_move : {P E O : Type 0} (cargo : Ghosts P E O) → ReportsByMove cargo
reports-by_move cargo board c Last old new can did s s' r stepped =
    let at = did.4 in
    last cargo board c old can s r stepped.before did.0 did.1 did.2 stepped.read_is did.3 at.start at.named at.told at.told_children at.lot s'
    stepped.words_are (stepped.views_are ∙ ap (λ z. slice_set s.views old.id z.0) at.me_is)
reports-by_move cargo board c Others old new can did s s' r stepped =
    on cargo board c old can s r stepped.before did.0 did.1 did.2 stepped.read_is did.3 s' stepped.words_are
    (stepped.views_are ∙ ap (λ z. slice_set s.views old.id z.0) did.4)

pub rouses-by_move : {P E O : Type 0} (cargo : Ghosts P E O) → RousesByMove cargo
rouses-by_move {P} {E} cargo board x old new place may did parked s s' r stepped =
    let f = board.frame in
    let now = shown f s in
    let id = old.id in
    let v = old.me.0 in
    let live_word : LiveWord cargo f = record {
      state = s;
      name = x;
      word = Parked;
      running = r;
      within = place.block;
      node_within = place.node;
      stamped = ap stamp_of stepped.read_is ∙ parked.stamp_is;
      reads = ap control_read stepped.read_is ∙ parked.reads;
      under_way = refl;
    } in
    let said = says-live cargo f live_word in
    let shows : now.view id ≡ shown_view (block_of f.layout s.words) v = view-here (block_of f.layout s.words) s.views id v stepped.before in
    let may_now : (nat_le 1 ((now.view id).runs x) || id == 0) ≡ true =
    (λ k. nat_le 1 ((shows k).runs x) || sym (r.stands.views.number id v stepped.before) k == 0) ∙ may in
    let left = did.roused refl in
    record {
      hand_is = (let l = at_within s.views id v stepped.before in let most = r.sized.seats in omega (arith, l, most));
      needs = and_from _ _ (place-live now x said.live)
          (subst (λ z. (is_parked (control_at now z) && (nat_le 1 ((now.view id).runs z) || id == 0)) ≡ true) (sym (name-live now x said.live))
          (and_from _ _ (ap is_parked said.word) may_now));
      gives = shown-after cargo f s r id v stepped.before x said.live did.left ReadyLoop left.stamp_is left.reads
          (with_step (control_index board x) did.word did.left v) (now.view id) (sym shows) s' stepped.words_are
          (stepped.views_are ∙ ap (λ z. slice_set s.views id z.0) did.me_is)
          ∙ (λ k. record (after_rouse now id (place_of x)) { view = λ h. same-view now id h k });
    }
  where
    same-view : (now : State) (id h : ℕ) → cond (h == id) (now.view id) (now.view h) ≡ now.view h
    same-view now id h =
        either (h == id)
        (λ t. cond-true (h == id) (now.view id) (now.view h) t ∙ ap now.view (sym (eqb-true h id t)))
        (λ n. cond-false (h == id) (now.view id) (now.view h) n)

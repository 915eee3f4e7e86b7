-- The steps by which a hand leaves a node are moves of the pure machine.
use Rattle.std.proofs.Common.{◌≡◌, ℕ, ℤ, true, false, not, ◌&&◌, ◌||◌, ◌≤◌, List, length, sym, ap, ◌∙◌, subst}
use Rattle.std.specs.Prelude.{Option, Some, None, MatchOption, nat_le, slice_set}
use Rattle.std.specs.List.{list_all}
use Rattle.std.proofs.lemmas.Bool.{and_parts, and_from, cond-true, cond-false, le-leb}
use Rattle.life_rules.specs.declared.words.ControlWord.{ControlWord}
use Rattle.life_rules.specs.declared.words.ControlWord.TheVariants.{Busy, Done}
use Rattle.life_rules.specs.declared.words.CallbackPhase.{CallbackPhase}
use Rattle.life_rules.specs.declared.words.CallbackPhase.TheVariants.{Never, Armed, Running as Runs, Ran, Removed}
use Rattle.life_rules.specs.declared.event.Name.{Name}
use Rattle.life_rules.specs.declared.event.Resting.{Resting}
use Rattle.life_rules.specs.declared.event.Event.TheVariants.{Rest, Await}
use Rattle.node_tree.specs.Tree.{is_root, is_child}
use Rattle.common_lemmas.specs.Lists.{are_different}
use Rattle.life_rules.specs.Words.{is_armed, is_running, resting_at}
use Rattle.life_rules.specs.Views.{View as PureView, lose, gain, gain_each}
use Rattle.life_rules.specs.States.{State, phase_at, name_at}
use Rattle.life_rules.specs.LifeSteps.{may_leave_node, may_be_awaited, may_await, may_rest, may_finish, after_finish}
use Rattle.life_rules.specs.Steps.{Step}
use Rattle.common_lemmas.proofs.Bool.{either}
use Rattle.life_kept.proofs.Puts.{put}
use Rattle.life_kept.proofs.Holding.{IsHeld}
use Rattle.table_words.specs.Stamps.{stamp_of}
use Rattle.table_words.specs.Controls.{control_read}
use Rattle.atomic_table.specs.Table as table
use Rattle.atomic_table.specs.declared.shared.Seat.{Seat}
use Rattle.table_rules.specs.declared.cargo.Cargo.{Ghosts}
use Rattle.table_rules.specs.declared.frame.Frame.{Frame}
use Rattle.table_rules.specs.declared.view.View.{View}
use Rattle.table_rules.specs.ShownWords.{block_of}
use Rattle.table_rules.specs.ShownViews.{shown_view}
use Rattle.table_rules.specs.Scenes.{shown}
use Rattle.table_rules.specs.Notes.{is_still}
use Rattle.table_rules.specs.Running.{Running}
use Rattle.table_steps.specs.Views.{Board, IsHandOf}
use Rattle.table_steps.specs.Claims.{with_step}
use Rattle.table_steps.specs.Slots.{knows_idle}
use Rattle.table_steps.specs.Rests.{lets_go, CanLeave}
use Rattle.table_steps.specs.Awaits.{awaits}
use Rattle.table_steps.specs.Finishes.{is_settled, CanEnd, owes_report, has_root}
use Rattle.table_steps.specs.Steps.{control_index}
use Rattle.table_kept.proofs.Standing.{Standing}
use Rattle.table_kept.proofs.Entries.{count-without}
use Rattle.table_kept.proofs.Awaiting.{all-imp, count-owes}
use Rattle.table_kept.proofs.HeldNow.{Holding, idle-known, phase-so}
use Rattle.table_life_kept.proofs.Leaving.{ToLeave, is-held, is-below, shows-old, may-leave}
use Rattle.table_kept.proofs.LiveNames.{place-live, name-live}
use Rattle.table_laws.specs.Laws.{Has}
use Rattle.table_moves.specs.Moves.{place_of, RestsByMove, AwaitsByMove, FinishesByMove}
use Rattle.table_moves.proofs.Moves.{shown-after}

-- a callback that was read as settled isn't armed and doesn't run
settled-still : (known phase : CallbackPhase) → is_settled known ≡ true → is_still known phase →
    (is_armed phase || is_running phase) ≡ false
settled-still Never phase settled still = ap (λ p. is_armed p || is_running p) still
settled-still Armed phase settled still = cc
settled-still Runs phase settled still = cc
settled-still Ran phase settled still = ap (λ p. is_armed p || is_running p) still
settled-still Removed phase settled still = ap (λ p. is_armed p || is_running p) still

settled-option : (known : Option CallbackPhase) (phase : CallbackPhase) → MatchOption known ⊥ (λ p. is_settled p ≡ true) →
    MatchOption known (Unit {0}) (λ p. is_still p phase) → (is_armed phase || is_running phase) ≡ false
settled-option None phase settled still = absurd settled
settled-option (Some known) phase settled still = settled-still known phase settled still

-- a hand that may leave the node
module _ {P E O : Type 0} (cargo : Ghosts P E O) (board : Board O) (x : Name) (old : Seat (Option P) (View P E)) (of_table : IsHandOf board old) (leave : CanLeave board.frame old.me x) (s : table.State (Option P) (View P E)) (r : Running cargo board.frame s) (at : Has s old.id old.me.0) where
  abbrev f : Frame O
  f = board.frame

  abbrev now : State
  now = shown f s

  abbrev id : ℕ
  id = old.id

  abbrev v : View P E
  v = old.me.0

  abbrev hand : Standing cargo f
  hand = record { state = s; id = id; view = v; running = r; at = at }

  abbrev leaving : ToLeave hand
  leaving = record { name = x; carried = old.me.1; seated = of_table.seated; leave = leave }

  held : IsHeld now x
  held = is-held cargo f hand leaving

  name-now : name_at now (place_of x) ≡ x
  name-now = name-live now x held.live

  shows : now.view id ≡ shown_view (block_of f.layout s.words) v
  shows = shows-old cargo f hand leaving

  left-so : (value : ℕ) (w : ControlWord) → stamp_of value ≡ x.generation → control_read value ≡ w → (mine : View P E) (u : PureView) →
      shown_view (block_of f.layout s.words) mine ≡ u → (s' : table.State (Option P) (View P E)) →
      s'.words ≡ slice_set s.words (control_index board x) value → s'.views ≡ slice_set s.views id mine → shown f s' ≡ put now id x w u
  left-so value w stamped reads mine u shows-mine s' words_are views_are =
      shown-after cargo f s r id v at x held.live value w stamped reads mine u shows-mine s' words_are views_are

  -- what is shown of a view that lets the node go
  shows-gone : (i n left : ℕ) → shown_view (block_of f.layout s.words) (with_step i n left (lets_go x v)) ≡ record (now.view id) { holds = lose x (now.view id).holds }
  shows-gone i n left =
      let before = shown_view (block_of f.layout s.words) v in
      (λ k. record before { holds = λ y. count-without (λ e. e.name) v.held x y k })
      ∙ ap (λ (z : PureView). record z { holds = lose x z.holds }) (sym shows)

  may-leave-now : may_leave_node (now.view id) (name_at now (place_of x)) ≡ true
  may-leave-now = subst (λ z. may_leave_node (now.view id) z ≡ true) (sym name-now) (may-leave cargo f hand leaving)

  pub may-rest : may_rest now id (place_of x) ≡ true
  may-rest = and_from _ _ (place-live now x held.live) may-leave-now

  pub rests : (to : Resting) (i n value : ℕ) → stamp_of value ≡ x.generation → control_read value ≡ resting_at to →
      (s' : table.State (Option P) (View P E)) → s'.words ≡ slice_set s.words (control_index board x) value →
      s'.views ≡ slice_set s.views id (with_step i n value (lets_go x v)) →
      Step now id (Rest (place_of x) to) (shown f s')
  rests to i n value stamped reads s' words_are views_are =
      record {
        hand_is = is-below cargo f hand leaving;
        needs = may-rest;
        gives = left-so value (resting_at to) stamped reads (with_step i n value (lets_go x v))
            (record (now.view id) { holds = lose x (now.view id).holds }) (shows-gone i n value) s' words_are views_are
            ∙ ap (λ z. put now id x (resting_at to) (record (now.view id) { holds = lose z (now.view id).holds })) (sym name-now);
      }

  -- of one that owes these children their starts
  abbrev awaiting : PureView → Name → List ℕ → PureView
  awaiting u z nodes = record u { holds = lose z u.holds; starts = gain_each z nodes u.starts }

  shows-awaiting : (i n left : ℕ) (nodes : List ℕ) (start : List E) (lot : List ℤ) → are_different nodes ≡ true →
      shown_view (block_of f.layout s.words) (with_step i n left (awaits x start lot nodes v)) ≡ awaiting (now.view id) x nodes
  shows-awaiting i n left nodes start lot different =
      let before = shown_view (block_of f.layout s.words) v in
      (λ k. record before {
        holds = λ y. count-without (λ e. e.name) v.held x y k;
        starts = λ y. count-owes x start lot nodes v.owed y different k;
      })
      ∙ ap (λ (z : PureView). awaiting z x nodes) (sym shows)

  module _ (nodes : List ℕ) (can : list_all (λ n. is_child f.tree x.node n && knows_idle leave.held n) nodes ≡ true) (some_child : 1 ≤ length nodes) (different : are_different nodes ≡ true) where
    -- each that is named is a child that hasn't begun
    awaitable : list_all (may_be_awaited now x) nodes ≡ true
    awaitable =
        all-imp (λ n. is_child f.tree x.node n && knows_idle leave.held n) (may_be_awaited now x)
        (λ n both.
        let parts = and_parts (is_child f.tree x.node n) (knows_idle leave.held n) both in
        and_from _ _ parts.0 (idle-known cargo f hand (record { name = x; entry = leave.held; holds = leave.holds }) n parts.0 parts.1)) nodes can

    pub may-await : may_await now id (place_of x) nodes ≡ true
    may-await =
        and_from _ _ (place-live now x held.live)
        (subst (λ z. (may_leave_node (now.view id) z && (nat_le 1 (length nodes) && (are_different nodes && list_all (may_be_awaited now z) nodes))) ≡ true)
        (sym name-now)
        (and_from _ _ (may-leave cargo f hand leaving)
        (and_from _ _ (le-leb 1 (length nodes) some_child) (and_from _ _ different awaitable))))

    pub awaits-so : (i n value : ℕ) (start : List E) (lot : List ℤ) → stamp_of value ≡ x.generation →
        control_read value ≡ Busy (length nodes) → (s' : table.State (Option P) (View P E)) →
        s'.words ≡ slice_set s.words (control_index board x) value →
        s'.views ≡ slice_set s.views id (with_step i n value (awaits x start lot nodes v)) →
        Step now id (Await (place_of x) nodes) (shown f s')
    awaits-so i n value start lot stamped reads s' words_are views_are =
        record {
          hand_is = is-below cargo f hand leaving;
          needs = may-await;
          gives = left-so value (Busy (length nodes)) stamped reads (with_step i n value (awaits x start lot nodes v))
              (awaiting (now.view id) x nodes) (shows-awaiting i n value nodes start lot different) s' words_are views_are
              ∙ ap (λ z. put now id x (Busy (length nodes)) (awaiting (now.view id) z nodes)) (sym name-now);
        }

  -- of one that has the finished root, and of one that owes the report
  abbrev rooted : PureView → Name → PureView
  rooted u z = record u { holds = lose z u.holds; finished = gain z u.finished }

  abbrev reporting : PureView → Name → PureView
  reporting u z = record u { holds = lose z u.holds; reports = gain z u.reports }

  shows-rooted : (i n left : ℕ) → shown_view (block_of f.layout s.words) (with_step i n left (has_root x v)) ≡ rooted (now.view id) x
  shows-rooted i n left =
      let before = shown_view (block_of f.layout s.words) v in
      (λ k. record before { holds = λ y. count-without (λ e. e.name) v.held x y k; finished = gain x before.finished })
      ∙ ap (λ (z : PureView). rooted z x) (sym shows)

  shows-reporting : (i n left : ℕ) (start : List E) (item : P) →
      shown_view (block_of f.layout s.words) (with_step i n left (owes_report x start item v)) ≡ reporting (now.view id) x
  shows-reporting i n left start item =
      let before = shown_view (block_of f.layout s.words) v in
      (λ k. record before { holds = λ y. count-without (λ e. e.name) v.held x y k; reports = gain x before.reports })
      ∙ ap (λ (z : PureView). reporting z x) (sym shows)

  module _ (i n value : ℕ) (stamped : stamp_of value ≡ x.generation) (reads : control_read value ≡ Done) (s' : table.State (Option P) (View P E)) (words_are : s'.words ≡ slice_set s.words (control_index board x) value) where
    pub ends-root : is_root f.tree x.node ≡ true → s'.views ≡ slice_set s.views id (with_step i n value (has_root x v)) →
        shown f s' ≡ after_finish now id (place_of x)
    ends-root root views_are =
        left-so value Done stamped reads (with_step i n value (has_root x v)) (rooted (now.view id) x) (shows-rooted i n value)
        s' words_are views_are
        ∙ ap (λ z. put now id x Done (rooted (now.view id) z)) (sym name-now)
        ∙ ap (put now id x Done) (sym (cond-true (is_root f.tree x.node) _ _ root))

    pub ends-below : (start : List E) (item : P) → is_root f.tree x.node ≡ false →
        s'.views ≡ slice_set s.views id (with_step i n value (owes_report x start item v)) →
        shown f s' ≡ after_finish now id (place_of x)
    ends-below start item below views_are =
        left-so value Done stamped reads (with_step i n value (owes_report x start item v)) (reporting (now.view id) x)
        (shows-reporting i n value start item) s' words_are views_are
        ∙ ap (λ z. put now id x Done (reporting (now.view id) z)) (sym name-now)
        ∙ ap (put now id x Done) (sym (cond-false (is_root f.tree x.node) _ _ below))

pub rests-by_move : {P E O : Type 0} (cargo : Ghosts P E O) → RestsByMove cargo
rests-by_move cargo board x to old new of_table can did s s' r stepped =
    rests cargo board x old of_table can.leave s r stepped.before to (control_index board x) did.read did.left did.says.stamp_is did.says.reads
    s' stepped.words_are
    (stepped.views_are ∙ ap (λ z. slice_set s.views old.id z.0) did.did.me_is)

pub awaits-by_move : {P E O : Type 0} (cargo : Ghosts P E O) → AwaitsByMove cargo
awaits-by_move cargo board x nodes old new of_table can did s s' r stepped =
    awaits-so cargo board x old of_table can.leave s r stepped.before nodes can.idle can.some_child can.different
    (control_index board x) did.read did.left _ _ did.says.stamp_is did.says.reads s' stepped.words_are
    (stepped.views_are ∙ ap (λ z. slice_set s.views old.id z.0) did.did.me_is)

-- a node that ends
module _ {P E O : Type 0} (cargo : Ghosts P E O) (board : Board O) (x : Name) (old : Seat (Option P) (View P E)) (of_table : IsHandOf board old) (can : CanEnd cargo board.frame old.me x) (s : table.State (Option P) (View P E)) (r : Running cargo board.frame s) (at : Has s old.id old.me.0) where
  abbrev f' : Frame O
  f' = board.frame

  abbrev now' : State
  now' = shown f' s

  abbrev hand' : Standing cargo f'
  hand' = record { state = s; id = old.id; view = old.me.0; running = r; at = at }

  abbrev leaving' : ToLeave hand'
  leaving' = record { name = x; carried = old.me.1; seated = of_table.seated; leave = can.leave }

  abbrev holding' : Holding hand'
  holding' = record { name = x; entry = can.leave.held; holds = can.leave.holds }

  pub may-finish : may_finish now' old.id (place_of x) ≡ true
  may-finish =
      let live = (is-held cargo f' hand' leaving').live in
      let name = name-live now' x live in
      let quiet : (is_armed (phase_at now' x) || is_running (phase_at now' x)) ≡ false =
      settled-option can.leave.held.phase (phase_at now' x) can.phase (phase-so cargo f' hand' holding') in
      and_from _ _ (place-live now' x live)
      (subst (λ z. (may_leave_node (now'.view old.id) z && not (is_armed (phase_at now' z) || is_running (phase_at now' z))) ≡ true) (sym name)
      (and_from _ _ (may-leave cargo f' hand' leaving') (ap not quiet)))

pub finishes-by_move : {P E O : Type 0} (cargo : Ghosts P E O) → FinishesByMove cargo
finishes-by_move cargo board x old new of_table can did s s' r stepped =
    record {
      hand_is = is-below cargo board.frame _ (leaving' cargo board x old of_table can s r stepped.before);
      needs = may-finish cargo board x old of_table can s r stepped.before;
      gives = either (is_root board.frame.tree x.node)
          (λ root.
          ends-root cargo board x old of_table can.leave s r stepped.before (control_index board x) did.read did.left did.says.stamp_is
          did.says.reads s' stepped.words_are root
          (stepped.views_are ∙ ap (λ z. slice_set s.views old.id z.0) (did.did.1 root).me_is))
          (λ below.
          ends-below cargo board x old of_table can.leave s r stepped.before (control_index board x) did.read did.left did.says.stamp_is
          did.says.reads s' stepped.words_are _ _ below
          (stepped.views_are ∙ ap (λ z. slice_set s.views old.id z.0) (did.did.0 below).me_is));
    }

-- The steps by which a hand begins a node and takes it are moves of the pure machine.
use Rattle.std.proofs.Common.{◌≡◌, ℕ, Bool, true, not, ◌&&◌, ◌==◌, ◌<◌, ◌≤◌, cond, List, arith, refl, sym, ap, ◌∙◌, subst}
use Rattle.std.specs.Prelude.{Option, nat_le, slice_set}
use Rattle.std.proofs.lemmas.Bool.{and_from, le-leb}
use mathlib.Core.Option as maybe
use lib.Seq.{set-get_or}
use Rattle.life_rules.specs.declared.words.ControlWord.{ControlWord}
use Rattle.life_rules.specs.declared.words.ControlWord.TheVariants.{Busy}
use Rattle.life_rules.specs.declared.words.CallbackPhase.TheVariants.{Never}
use Rattle.life_rules.specs.declared.event.Name.{Name}
use Rattle.life_rules.specs.declared.event.Resting.{Resting}
use Rattle.life_rules.specs.declared.event.Resting.TheVariants.{Loop, Pool, Parked}
use Rattle.life_rules.specs.declared.event.Event.TheVariants.{Begin}
use Rattle.life_rules.specs.Words.{is_under_way, clear, resting_at, may_be_taken}
use Rattle.life_rules.specs.Views.{View as PureView, gain}
use Rattle.life_rules.specs.States.{is_live, control_at}
use Rattle.life_rules.specs.Steps.{Step}
use Rattle.life_rules.proofs.Readings.{lives}
use Rattle.life_kept.proofs.Puts.{put}
use Rattle.table_words.specs.Stamps.{stamp_of}
use Rattle.table_words.specs.Controls.{control_read, callback_read, source_read}
use Rattle.table_words.specs.ScopeNumbers.{scope_read}
use Rattle.table_words.specs.Layouts.{TheScope, TheScopeSource, OfControl, OfCallback, OfSource, index}
use Rattle.atomic_table.specs.Table as table
use Rattle.table_rules.specs.declared.cargo.Cargo.{Ghosts}
use Rattle.table_rules.specs.declared.frame.Frame.{Frame}
use Rattle.table_rules.specs.declared.view.View.{View}
use Rattle.table_rules.specs.declared.view.Owed.{Owed}
use Rattle.table_rules.specs.ShownWords.{block_of, is_retired}
use Rattle.table_rules.specs.ShownViews.{view_at, shown_view}
use Rattle.table_rules.specs.Scenes.{shown}
use Rattle.table_rules.specs.Running.{Running}
use Rattle.table_steps.specs.Claims.{with_step, logged}
use Rattle.table_steps.specs.Seats.{Seated}
use Rattle.table_steps.specs.Begins.{CanBegin, begins as start_node}
use Rattle.table_steps.specs.Takes.{takes_node}
use Rattle.table_steps.specs.Steps.{control_index}
use Rattle.table_kept.proofs.Entries.{found}
use Rattle.table_kept.proofs.LiveNames.{open-kept, place-live, name-live}
use Rattle.table_life_kept.proofs.WordsLive.{LiveWord, says-live}
use Rattle.table_kept.proofs.ViewMoves.{view-here, view-set, view-kept, views-same}
use Rattle.table_kept.proofs.Seats.{at_within}
use Rattle.table_life_kept.proofs.Begin.State.{MayBegin, beginning, x-live}
use Rattle.table_life_kept.proofs.Begin.Views.{begins-shown}
use Rattle.table_life_kept.proofs.Begin.Told.{can-renewed}
use Rattle.table_life_kept.proofs.Control.Moves.{WritesControl, spot-same, blocks-same, others-same, control-after}
use Rattle.table_laws.specs.Laws.{Has}
use Rattle.table_moves.specs.Moves.{place_of, LoadsMoveNothing, BeginsByMove, TakesByMove}

-- a load leaves words and shown views as they were
pub loads-move_nothing : {P E O : Type 0} (cargo : Ghosts P E O) → LoadsMoveNothing cargo
loads-move_nothing cargo f id at found v s s' r stepped =
    let words_same = stepped.words_are ∙ ap (slice_set s.words at) (sym stepped.read_is) ∙ set-get_or s.words at 0 in
    (λ k. shown f record { words = words_same k; homes = s'.homes; views = s'.views })
    ∙ (λ k. record (shown f s) {
      view = λ h. (ap (λ vs. view_at (block_of f.layout s.words) vs h) stepped.views_are
          ∙ view-kept (block_of f.layout s.words) s.views id v (logged at found v) stepped.before refl h) k;
    })

-- a control word is written, of a node whose block is open
module _ {P E O : Type 0} (cargo : Ghosts P E O) (f : Frame O) (s : table.State (Option P) (View P E)) (r : Running cargo f s) (id : ℕ) (v : View P E) (at : Has s id v) (x : Name) (live : is_live (shown f s) x ≡ true) where
  node-within : x.node < f.layout.nodes
  node-within = let l = (lives (shown f s) x live).node in let e = r.frame.nodes in omega (arith, l, e)

  -- and the hand's view changed: the pure machine's state is put so
  module _ (value : ℕ) (w : ControlWord) (stamped : stamp_of value ≡ x.generation) (reads : control_read value ≡ w) (mine : View P E) (u : PureView) (shows-mine : shown_view (block_of f.layout s.words) mine ≡ u) where
    abbrev words : List ℕ
    words = slice_set s.words (index f.layout (OfControl x.block x.node)) value

    abbrev stored : WritesControl f.layout s.words
    stored = record {
      wide = r.sized.words;
      block = x.block;
      node = x.node;
      value = value;
      word = w;
      within = (lives (shown f s) x live).block;
      node_within = node-within;
      kept = open-kept (block_of f.layout s.words x.block).state (lives (shown f s) x live).is_opened;
      stamped = stamped ∙ (lives (shown f s) x live).generation;
      reads = reads;
    }

    block-kept : (j : ℕ) → block_of f.layout words j ≡ block_of f.layout s.words j
    block-kept = blocks-same f.layout s.words stored

    view-put : (h : ℕ) → view_at (block_of f.layout words) (slice_set s.views id mine) h ≡ (put (shown f s) id x w u).view h
    view-put h =
        let before = block_of f.layout s.words in
        views-same before (block_of f.layout words)
        (λ y k. not (is_retired (block-kept y.block k).state) && y.generation == (block-kept y.block k).generation)
        (slice_set s.views id mine) h
        ∙ view-set before s.views id v mine at h
        ∙ ap (λ z. cond (h == id) z (view_at before s.views h)) shows-mine

    shown-put : (homes : List (maybe.Option (Option P))) →
        shown f record { words = words; homes = homes; views = slice_set s.views id mine } ≡ put (shown f s) id x w u
    shown-put homes =
        λ k. record {
          tree = f.tree;
          blocks = f.layout.blocks;
          hands = f.hands;
          kind = f.kind;
          most = f.most;
          block = λ j. block-kept j k;
          control = λ j m. control-after f.layout s.words stored j m k;
          callback = λ j m. others-same f.layout s.words stored
              Never callback_read OfCallback (λ j m a b. (a, b)) (λ j m e. cc) j m k;
          source = λ j m. others-same f.layout s.words stored
              clear source_read OfSource (λ j m a b. (a, b)) (λ j m e. cc) j m k;
          scope_source = source_read (spot-same f.layout s.words stored TheScopeSource tt (λ e. cc) k);
          scope = scope_read (spot-same f.layout s.words stored TheScope tt (λ e. cc) k);
          view = λ h. view-put h k;
        }

    pub shown-after : (s' : table.State (Option P) (View P E)) → s'.words ≡ words → s'.views ≡ slice_set s.views id mine →
        shown f s' ≡ put (shown f s) id x w u
    shown-after s' words_are views_are =
        (λ k. shown f record { words = words_are k; homes = s'.homes; views = views_are k }) ∙ shown-put s'.homes

-- a hand that may begin the node, whose source is renewed
module _ {P E O : Type 0} (cargo : Ghosts P E O) (f : Frame O) (x : Name) (id : ℕ) (m : Seated P E) (can : CanBegin cargo f m x) (s : table.State (Option P) (View P E)) (r : Running cargo f s) (at : Has s id m.0) where
  begin-shows : (shown f s).view id ≡ shown_view (block_of f.layout s.words) m.0
  begin-shows = view-here (block_of f.layout s.words) s.views id m.0 at

  begin-may : MayBegin (shown f s) id x
  begin-may =
      let counts = (found (λ (e : Owed E). e.name) m.0.owed x can.owed can.owes).counts in
      record {
        sound = r.stands.sound;
        below = (let l = at_within s.views id m.0 at in let most = r.sized.seats in omega (arith, l, most));
        owes = subst (λ (u : PureView). 1 ≤ u.starts x) (sym begin-shows) counts;
      }

  begin-live : is_live (shown f s) x ≡ true
  begin-live = x-live (shown f s) id x begin-may

  pub begins : (i n value : ℕ) (start : List E) (told kids : Bool) → stamp_of value ≡ x.generation → control_read value ≡ Busy 0 →
      (s' : table.State (Option P) (View P E)) → s'.words ≡ slice_set s.words (index f.layout (OfControl x.block x.node)) value →
      s'.views ≡ slice_set s.views id (with_step i n value (start_node f.tree x start told kids m.0)) →
      Step (shown f s) id (Begin (place_of x)) (shown f s')
  begins i n value start told kids stamped reads s' words_are views_are =
      let now = shown f s in
      let name = name-live now x begin-live in
      record {
        hand_is = begin-may.below;
        needs = and_from _ _ (place-live now x begin-live)
            (subst (λ z. nat_le 1 ((now.view id).starts z) ≡ true) (sym name) (le-leb 1 ((now.view id).starts x) begin-may.owes));
        gives = shown-after cargo f s r id m.0 at x begin-live value (Busy 0) stamped reads
            (with_step i n value (start_node f.tree x start told kids m.0)) (beginning x (now.view id))
            (begins-shown (block_of f.layout s.words) f.tree x start told kids m.0 ∙ ap (beginning x) (sym begin-shows))
            s' words_are views_are
            ∙ ap (λ z. put now id x (Busy 0) (beginning z (now.view id))) (sym name);
      }

pub begins-by_move : {P E O : Type 0} (cargo : Ghosts P E O) → BeginsByMove cargo
begins-by_move cargo board x old new can did s s' r stepped =
    begins cargo board.frame x old.id did.middle (can-renewed cargo board.frame x old.me did.middle did.renewed can) s r stepped.before
    (control_index board x) did.began.read did.began.left _ did.began.did.told did.began.did.told_children did.began.says.stamp_is
    did.began.says.reads s' stepped.words_are
    (stepped.views_are ∙ ap (λ z. slice_set s.views old.id z.0) did.began.did.me_is)

-- the word of a node at rest says that it is under way
way-at : (to : Resting) → is_under_way (resting_at to) ≡ true
way-at Loop = refl
way-at Pool = refl
way-at Parked = refl

pub takes-by_move : {P E O : Type 0} (cargo : Ghosts P E O) → TakesByMove cargo
takes-by_move {P} {E} cargo board x from old new read left place serve found_word says did s s' r stepped =
    let f = board.frame in
    let now = shown f s in
    let id = old.id in
    let v = old.me.0 in
    let live_word : LiveWord cargo f = record {
      state = s;
      name = x;
      word = resting_at from;
      running = r;
      within = place.block;
      node_within = place.node;
      stamped = ap stamp_of stepped.read_is ∙ found_word.stamp_is;
      reads = ap control_read stepped.read_is ∙ found_word.reads;
      under_way = way-at from;
    } in
    let said = says-live cargo f live_word in
    let mine : may_be_taken (resting_at from) id ≡ true =
    subst (λ h. may_be_taken (resting_at from) h ≡ true) (r.stands.views.number id v stepped.before) serve in
    let name = name-live now x said.live in
    let shows : now.view id ≡ shown_view (block_of f.layout s.words) v = view-here (block_of f.layout s.words) s.views id v stepped.before in
    let taken : View P E = with_step (control_index board x) read left (takes_node x did.start did.named did.told did.told_children v) in
    let shows_taken : shown_view (block_of f.layout s.words) taken ≡ record (now.view id) { holds = gain x (now.view id).holds } =
    ap (λ (z : PureView). record z { holds = gain x z.holds }) (sym shows) in
    record {
      hand_is = (let l = at_within s.views id v stepped.before in let most = r.sized.seats in omega (arith, l, most));
      needs = and_from _ _ (place-live now x said.live)
          (subst (λ z. may_be_taken (control_at now z) id ≡ true) (sym name) (ap (λ c. may_be_taken c id) said.word ∙ mine));
      gives = shown-after cargo f s r id v stepped.before x said.live left (Busy 0) says.stamp_is says.reads taken
          (record (now.view id) { holds = gain x (now.view id).holds }) shows_taken s' stepped.words_are
          (stepped.views_are ∙ ap (λ z. slice_set s.views id z.0) did.me_is)
          ∙ ap (λ z. put now id x (Busy 0) (record (now.view id) { holds = gain z (now.view id).holds })) (sym name);
    }

-- A step that writes a node's callback word at the node's generation keeps the rule where the scene that
-- the words and views then show does.
use Rattle.std.proofs.Common.{◌≡◌, ℕ, ◌^◌, ◌<◌, ◌≤◌, true, false, not, ◌&&◌, ◌==◌, cond, List, set, sym, ap, ◌∙◌, subst, arith, length-set, inl, inr}
use Rattle.std.proofs.lemmas.Bool.{and_parts, and_from, both_ways, eqb-true, eq-eqb, cond-true, cases_eq, lt-ltb}
use Rattle.life_rules.specs.declared.words.ControlWord.TheVariants.{Idle}
use Rattle.life_rules.specs.declared.words.CallbackPhase.{CallbackPhase}
use Rattle.life_rules.specs.declared.words.CallbackPhase.TheVariants.{Never}
use Rattle.life_rules.specs.declared.event.Name.{Name}
use Rattle.node_tree.specs.Tree.{has_source}
use Rattle.life_rules.specs.Words.{is_idle, is_under_way, clear}
use Rattle.life_rules.specs.Views.{View as PureView}
use Rattle.life_rules.specs.States.{State, is_live, with_view, with_callback, phase_at}
use Rattle.common_lemmas.proofs.Bool.{either}
use Rattle.life_rules.proofs.Readings.{lives}
use Rattle.table_words.specs.Stamps.{stamp_of, code_of}
use Rattle.table_words.specs.Controls.{control_read, callback_read, callback_code, source_read}
use Rattle.table_words.specs.ScopeNumbers.{scope_read}
use Rattle.table_words.specs.Layouts.{Spot, TheScope, TheScopeSource, OfControl, OfCallback, OfSource, IsSpot, index}
use Rattle.table_rules.specs.declared.cargo.Cargo.{Ghosts}
use Rattle.table_rules.specs.declared.frame.Frame.{Frame}
use Rattle.table_rules.specs.declared.view.View.{View}
use Rattle.table_rules.specs.ShownWords.{block_of, word_of, control_of, is_retired, is_said, is_there, said_at}
use Rattle.table_rules.specs.ShownViews.{view_at, shown_view}
use Rattle.table_rules.specs.Scenes.{Scene, shown, scene}
use Rattle.table_rules.specs.Running.{Stands, Running}
use Rattle.table_kept.proofs.Standing.{Standing}
use Rattle.table_kept.proofs.Stamping.{is_on, Lists, written-risen, unsaid-kept, renewed-kept}
use Rattle.table_kept.proofs.ViewMoves.{view-set, views-same}
use Rattle.table_kept.proofs.WordMoves.{word-here}
use Rattle.table_kept.proofs.Codes.{phase-rises}
use Rattle.table_kept.proofs.LiveNames.{open-kept}
use Rattle.table_kept.proofs.CallbackMoves.{WritesCallback, spot-same, blocks-same, others-same, callback-after}

-- which node's callback word is written, and what it says then
pub record ToWriteCallback {P E O : Type 0} {cargo : Ghosts P E O} {f : Frame O}
    (hand : Standing cargo f) : Type 0 where
  pub value : ℕ
  pub name : Name
  pub phase : CallbackPhase
  pub live : is_live (shown f hand.state) name ≡ true
  pub stamped : stamp_of value ≡ name.generation
  pub reads : callback_read value ≡ phase

module _ {P E O : Type 0} (cargo : Ghosts P E O) (f : Frame O) (hand : Standing cargo f)
    (task : ToWriteCallback hand) where
  open hand use {state as s, id, view as v, running as r, at}
  open task use {value, name as x, phase, live, stamped, reads}

  abbrev now : State
  now = shown f s

  abbrev here : Scene P E
  here = scene f s r.past

  place-b : x.block < f.layout.blocks
  place-b = (lives now x live).block

  place-n : x.node < f.layout.nodes
  place-n =
      let l = (lives now x live).node in
      let e = r.frame.nodes in omega (arith, l, e)

  kept : is_retired (block_of f.layout s.words x.block).state ≡ false
  kept = open-kept (block_of f.layout s.words x.block).state (lives now x live).is_opened

  present : stamp_of value ≡ (block_of f.layout s.words x.block).generation
  present = stamped ∙ (lives now x live).generation

  abbrev words : List ℕ
  words = set s.words (index f.layout (OfCallback x.block x.node)) value

  abbrev stored : WritesCallback f.layout s.words
  stored = record {
    wide = r.sized.words;
    block = x.block;
    node = x.node;
    value = value;
    phase = phase;
    within = place-b;
    node_within = place-n;
    kept = kept;
    stamped = present;
    reads = reads;
  }

  spot-kept : (y : Spot) → IsSpot f.layout y → (OfCallback x.block x.node ≡ y → ⊥) →
      word_of f.layout words y ≡ word_of f.layout s.words y
  spot-kept = spot-same f.layout s.words stored

  block-kept : (j : ℕ) → block_of f.layout words j ≡ block_of f.layout s.words j
  block-kept = blocks-same f.layout s.words stored

  generation-kept : (j n : ℕ) → n ≤ (block_of f.layout s.words j).generation → n ≤ (block_of f.layout words j).generation
  generation-kept j n l = subst (λ b. n ≤ b.generation) (sym (block-kept j)) l

  stamp-other : (y : Spot) (j : ℕ) → IsSpot f.layout y → (OfCallback x.block x.node ≡ y → ⊥) →
      stamp_of (word_of f.layout s.words y) ≤ (block_of f.layout s.words j).generation →
      stamp_of (word_of f.layout words y) ≤ (block_of f.layout words j).generation
  stamp-other y j is ne old =
      generation-kept j (stamp_of (word_of f.layout words y))
      (subst (λ n. stamp_of n ≤ (block_of f.layout s.words j).generation) (sym (spot-kept y is ne)) old)

  stamp-callback : (j m : ℕ) → j < f.layout.blocks → m < f.layout.nodes →
      stamp_of (word_of f.layout words (OfCallback j m)) ≤ (block_of f.layout words j).generation
  stamp-callback j m hj hm =
      either (j == x.block && m == x.node)
      (λ t.
      let parts = and_parts (j == x.block) (m == x.node) t in
      let here : word_of f.layout words (OfCallback x.block x.node) ≡ value =
      word-here f.layout s.words r.sized.words (OfCallback x.block x.node) (place-b, place-n) value in
      let own : stamp_of (word_of f.layout words (OfCallback x.block x.node)) ≤ (block_of f.layout words x.block).generation =
      generation-kept x.block (stamp_of (word_of f.layout words (OfCallback x.block x.node)))
      (let e : stamp_of (word_of f.layout words (OfCallback x.block x.node)) ≡ (block_of f.layout s.words x.block).generation =
      ap stamp_of here ∙ present in omega (arith, e)) in
      subst (λ (p : ℕ × ℕ). stamp_of (word_of f.layout words (OfCallback p.0 p.1)) ≤ (block_of f.layout words p.0).generation)
      (λ k. (sym (eqb-true j x.block parts.0) k, sym (eqb-true m x.node parts.1) k)) own)
      (λ apart.
      stamp-other (OfCallback j m) j (hj, hm)
      (λ e.
      let p : x.block ≡ j = cc in
      let q : x.node ≡ m = cc in
      both_ways (j == x.block && m == x.node) apart
      (and_from (j == x.block) (m == x.node) (eq-eqb j x.block (sym p))
      (eq-eqb m x.node (sym q))))
      (r.stamped.callback j m hj hm))

  settled-control : (j m : ℕ) → j < f.layout.blocks → m < f.layout.nodes →
      is_said (block_of f.layout words j) (word_of f.layout words (OfControl j m)) ≡ false →
      is_under_way (control_read (word_of f.layout words (OfControl j m))) ≡ false
  settled-control j m hj hm old =
      let word = spot-kept (OfControl j m) (hj, hm) (λ e. cc) in
      ap (λ w. is_under_way (control_read w)) word
      ∙ r.stamped.settled j m hj hm ((λ k. is_said (sym (block-kept j) k) (sym word k)) ∙ old)

  -- the word that was written says something, the others what they said
  quiet-callback : (j m : ℕ) → j < f.layout.blocks → m < f.layout.nodes →
      is_said (block_of f.layout words j) (word_of f.layout words (OfCallback j m)) ≡ false →
      is_on (word_of f.layout words (OfCallback j m)) ≡ false
  quiet-callback j m hj hm old =
      either (j == x.block && m == x.node)
      (λ t.
      let parts = and_parts (j == x.block) (m == x.node) t in
      let here : word_of f.layout words (OfCallback x.block x.node) ≡ value =
      word-here f.layout s.words r.sized.words (OfCallback x.block x.node) (place-b, place-n) value in
      let said : is_said (block_of f.layout words x.block) (word_of f.layout words (OfCallback x.block x.node)) ≡ true =
      (λ k. is_said (block-kept x.block k) (here k))
      ∙ and_from _ _ (ap not kept) (eq-eqb (stamp_of value) (block_of f.layout s.words x.block).generation present) in
      absurd (both_ways (is_said (block_of f.layout words j) (word_of f.layout words (OfCallback j m))) old
      (subst (λ (p : ℕ × ℕ). is_said (block_of f.layout words p.0) (word_of f.layout words (OfCallback p.0 p.1)) ≡ true)
      (λ k. (sym (eqb-true j x.block parts.0) k, sym (eqb-true m x.node parts.1) k)) said)))
      (λ apart.
      let word = spot-kept (OfCallback j m) (hj, hm)
      (λ e.
      let p : x.block ≡ j = cc in
      let q : x.node ≡ m = cc in
      both_ways (j == x.block && m == x.node) apart (and_from _ _ (eq-eqb j x.block (sym p)) (eq-eqb m x.node (sym q)))) in
      unsaid-kept (block_of f.layout s.words j) (block_of f.layout words j) (word_of f.layout s.words (OfCallback j m)) (word_of f.layout words (OfCallback j m))
      is_on (block-kept j) word (r.stamped.quiet j m hj hm) old)

  -- the number that is written is greater than the one before, where the phase is a later one
  pub number-rises : callback_code (phase_at now x) < callback_code phase → word_of f.layout s.words (OfCallback x.block x.node) ≤ value
  number-rises rises =
      let w = word_of f.layout s.words (OfCallback x.block x.node) in
      let block = block_of f.layout s.words x.block in
      let most = r.stamped.callback x.block x.node place-b place-n in
      let own = present in
      either (is_said block w)
      (λ said.
      let phase-now : phase_at now x ≡ callback_read w =
      cond-true (is_live now x) (now.callback x.block x.node) Never live
      ∙ cond-true (is_there f.layout x.block x.node) (said_at block Never callback_read w) Never
      (and_from _ _ (lt-ltb x.block f.layout.blocks place-b) (lt-ltb x.node f.layout.nodes place-n))
      ∙ cond-true (is_said block w) (callback_read w) Never said in
      let less : code_of w < code_of value =
      phase-rises (code_of w) (code_of value)
      (subst (λ (p : CallbackPhase × CallbackPhase). callback_code p.0 < callback_code p.1) (λ k. (phase-now k, sym reads k)) rises) in
      omega (arith, less, most, own))
      (λ unsaid.
      elim (cases_eq (stamp_of w) block.generation) [
        | inl same ↦ absurd (both_ways (is_said block w) unsaid (and_from _ _ (ap not kept) (eq-eqb _ _ same)))
        | inr other ↦ omega (arith, most, own, other)
      ])

  renewed-still : (j m : ℕ) → j < f.layout.blocks → m < f.layout.nodes → has_source f.tree m ≡ true →
      is_idle (control_of f.layout words j m) ≡ false →
      stamp_of (word_of f.layout words (OfSource j m)) ≡ (block_of f.layout words j).generation
  renewed-still j m hj hm has =
      renewed-kept f.layout s.words words j m
      (others-same f.layout s.words stored
      Idle control_read OfControl (λ j m a b. (a, b)) (λ j m e. cc) j m)
      (spot-kept (OfSource j m) (hj, hm) (λ e. cc)) (ap (λ b. b.generation) (block-kept j)) (r.stamped.renewed j m hj hm has)

  module _ (mine : View P E) (u : PureView) (shows : shown_view (block_of f.layout s.words) mine ≡ u) where
    abbrev pub written_state : State
    written_state = with_view (with_callback now x.block x.node phase) id u

    view-put : (h : ℕ) → view_at (block_of f.layout words) (set s.views id mine) h ≡ written_state.view h
    view-put h =
        let old = block_of f.layout s.words in
        views-same old (block_of f.layout words)
        (λ y k. not (is_retired (block-kept y.block k).state) && y.generation == (block-kept y.block k).generation)
        (set s.views id mine) h
        ∙ view-set old s.views id v mine at h
        ∙ ap (λ z. cond (h == id) z (view_at old s.views h)) shows

    abbrev pub written_scene : Scene P E
    written_scene = record here { state = written_state }

    scene-put : scene f record { words = words; homes = s.homes; views = set s.views id mine } r.past ≡ written_scene
    scene-put =
        λ k. record here {
          state = record now {
            block = λ j. block-kept j k;
            control = λ j m. others-same f.layout s.words stored
                Idle control_read OfControl (λ j m a b. (a, b)) (λ j m e. cc) j m k;
            callback = λ j m. callback-after f.layout s.words stored j m k;
            source = λ j m. others-same f.layout s.words stored
                clear source_read OfSource (λ j m a b. (a, b)) (λ j m e. cc) j m k;
            scope_source = source_read (spot-kept TheScopeSource tt (λ e. cc) k);
            scope = scope_read (spot-kept TheScope tt (λ e. cc) k);
            view = λ h. view-put h k;
          };
        }

    -- the rule is kept, where what is said of the scene is
    pub callback-runs : callback_code (phase_at now x) < callback_code phase → Lists f.layout s.words (OfCallback x.block x.node) value v mine →
        Stands cargo f.over.value written_scene (set s.views id mine) →
        Running cargo f record { words = words; homes = s.homes; views = set s.views id mine }
    callback-runs rises lists stands =
        record {
          frame = r.frame;
          sized = record {
            words = length-set s.words (index f.layout (OfCallback x.block x.node)) value ∙ r.sized.words;
            homes = r.sized.homes;
            seats = subst (λ n. n ≤ f.hands) (sym (length-set s.views id mine)) r.sized.seats;
          };
          stamped = record {
            control = λ j m hj hm. stamp-other (OfControl j m) j (hj, hm) (λ e. cc) (r.stamped.control j m hj hm);
            callback = stamp-callback;
            source = λ j m hj hm. stamp-other (OfSource j m) j (hj, hm) (λ e. cc) (r.stamped.source j m hj hm);
            settled = settled-control;
            quiet = quiet-callback;
            renewed = renewed-still;
            rises = written-risen f.layout s.views id v mine at s.words value (OfCallback x.block x.node) r.sized.words (place-b, place-n)
                (number-rises rises) lists r.stamped.rises;
            scope = subst (λ w. w < 2 ^ 36) (sym (spot-kept TheScope tt (λ e. cc))) r.stamped.scope;
          };
          past = r.past;
          stands = subst (λ z. Stands cargo f.over.value z (set s.views id mine)) (sym scene-put) stands;
        }

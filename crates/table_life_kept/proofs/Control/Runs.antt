-- A step that writes a node's control word at the node's generation keeps the rule where the scene that
-- the words, views and homes then show does.
use Rattle.std.proofs.Common.{◌≡◌, ℕ, ◌^◌, ◌<◌, ◌≤◌, true, false, not, ◌&&◌, ◌==◌, cond, List, length, set, sym, ap, ◌∙◌, subst, arith, length-set}
use Rattle.std.specs.Prelude.{Option}
use Rattle.std.proofs.lemmas.Bool.{and_parts, and_from, both_ways, cond-true, cond-false, eqb-true, eq-eqb, lt-ltb}
use mathlib.Core.Option as maybe
use Rattle.life_rules.specs.declared.words.ControlWord.{ControlWord}
use Rattle.life_rules.specs.declared.words.ControlWord.TheVariants.{Idle, Done}
use Rattle.life_rules.specs.declared.words.CallbackPhase.TheVariants.{Never}
use Rattle.life_rules.specs.declared.event.Name.{Name}
use Rattle.node_tree.specs.Tree.{has_source}
use Rattle.life_rules.specs.Words.{is_idle, is_done, is_under_way, clear}
use Rattle.life_rules.specs.Views.{View as PureView}
use Rattle.life_rules.specs.States.{State, is_live, control_at}
use Rattle.common_lemmas.proofs.Bool.{either}
use Rattle.life_rules.proofs.Readings.{lives}
use Rattle.life_kept.proofs.Puts.{put}
use Rattle.table_words.specs.Stamps.{stamp_of}
use Rattle.table_words.specs.Controls.{control_read, callback_read, source_read}
use Rattle.table_words.specs.ScopeNumbers.{scope_read}
use Rattle.table_words.specs.Layouts.{Spot, TheScope, TheScopeSource, OfControl, OfCallback, OfSource, IsSpot, index}
use Rattle.table_rules.specs.declared.cargo.Cargo.{Ghosts}
use Rattle.table_rules.specs.declared.frame.Frame.{Frame}
use Rattle.table_rules.specs.declared.view.View.{View}
use Rattle.table_rules.specs.ShownWords.{block_of, word_of, control_of, is_retired, is_said, is_there, said_at}
use Rattle.table_rules.specs.ShownViews.{view_at, shown_view}
use Rattle.table_rules.specs.Scenes.{Home, Past, Scene, shown, scene}
use Rattle.table_rules.specs.Grown.{IsLaterControl}
use Rattle.table_rules.specs.Running.{Stands, Running}
use Rattle.table_kept.proofs.Standing.{Standing}
use Rattle.table_kept.proofs.Stamping.{is_on, Lists, written-risen, unsaid-kept, renewed-kept}
use Rattle.table_kept.proofs.ViewMoves.{view-set, views-same}
use Rattle.table_kept.proofs.WordMoves.{word-here}
use Rattle.table_life_kept.proofs.Control.Moves.{WritesControl, spot-same, blocks-same, others-same, control-after}
use Rattle.table_kept.proofs.HomeMoves.{home_of_place}
use Rattle.table_kept.proofs.LiveNames.{open-kept}

-- which node's control word is written, and what it says then
pub record ToWriteControl {P E O : Type 0} {cargo : Ghosts P E O} {f : Frame O}
    (hand : Standing cargo f) : Type 0 where
  pub value : ℕ
  pub name : Name
  pub word : ControlWord
  pub live : is_live (shown f hand.state) name ≡ true
  pub stamped : stamp_of value ≡ name.generation
  pub reads : control_read value ≡ word

module _ {P E O : Type 0} (cargo : Ghosts P E O) (f : Frame O) (hand : Standing cargo f)
    (task : ToWriteControl hand) where
  open hand use {state as s, id, view as v, running as r, at}
  open task use {value, name as x, word as w, live, stamped, reads}

  abbrev now : State
  now = shown f s

  place-b : x.block < f.layout.blocks
  place-b = (lives now x live).block

  place-n : x.node < f.layout.nodes
  place-n =
      let l = (lives now x live).node in
      let e = r.frame.nodes in omega (arith, l, e)

  kept : is_retired (block_of f.layout s.words x.block).state ≡ false
  kept = open-kept (block_of f.layout s.words x.block).state (lives now x live).is_opened

  present : stamp_of value ≡ (block_of f.layout s.words x.block).generation
  present = stamped ∙ (lives now x live).generation

  abbrev words : List ℕ
  words = set s.words (index f.layout (OfControl x.block x.node)) value

  abbrev stored : WritesControl f.layout s.words
  stored = record {
    wide = r.sized.words;
    block = x.block;
    node = x.node;
    value = value;
    word = w;
    within = place-b;
    node_within = place-n;
    kept = kept;
    stamped = present;
    reads = reads;
  }

  spot-kept : (y : Spot) → IsSpot f.layout y → (OfControl x.block x.node ≡ y → ⊥) →
      word_of f.layout words y ≡ word_of f.layout s.words y
  spot-kept = spot-same f.layout s.words stored

  block-kept : (j : ℕ) → block_of f.layout words j ≡ block_of f.layout s.words j
  block-kept = blocks-same f.layout s.words stored

  generation-kept : (j n : ℕ) → n ≤ (block_of f.layout s.words j).generation → n ≤ (block_of f.layout words j).generation
  generation-kept j n l = subst (λ b. n ≤ b.generation) (sym (block-kept j)) l

  stamp-other : (y : Spot) (j : ℕ) → IsSpot f.layout y → (OfControl x.block x.node ≡ y → ⊥) →
      stamp_of (word_of f.layout s.words y) ≤ (block_of f.layout s.words j).generation →
      stamp_of (word_of f.layout words y) ≤ (block_of f.layout words j).generation
  stamp-other y j is ne old =
      generation-kept j (stamp_of (word_of f.layout words y))
      (subst (λ n. stamp_of n ≤ (block_of f.layout s.words j).generation) (sym (spot-kept y is ne)) old)

  stamp-control : (j m : ℕ) → j < f.layout.blocks → m < f.layout.nodes →
      stamp_of (word_of f.layout words (OfControl j m)) ≤ (block_of f.layout words j).generation
  stamp-control j m hj hm =
      either (j == x.block && m == x.node)
      (λ t.
      let parts = and_parts (j == x.block) (m == x.node) t in
      let here : word_of f.layout words (OfControl x.block x.node) ≡ value =
      word-here f.layout s.words r.sized.words (OfControl x.block x.node) (place-b, place-n) value in
      let own : stamp_of (word_of f.layout words (OfControl x.block x.node)) ≤ (block_of f.layout words x.block).generation =
      generation-kept x.block (stamp_of (word_of f.layout words (OfControl x.block x.node)))
      (let e : stamp_of (word_of f.layout words (OfControl x.block x.node)) ≡ (block_of f.layout s.words x.block).generation =
      ap stamp_of here ∙ present in omega (arith, e)) in
      subst (λ (p : ℕ × ℕ). stamp_of (word_of f.layout words (OfControl p.0 p.1)) ≤ (block_of f.layout words p.0).generation)
      (λ k. (sym (eqb-true j x.block parts.0) k, sym (eqb-true m x.node parts.1) k)) own)
      (λ apart.
      stamp-other (OfControl j m) j (hj, hm)
      (λ e.
      let p : x.block ≡ j = cc in
      let q : x.node ≡ m = cc in
      both_ways (j == x.block && m == x.node) apart
      (and_from (j == x.block) (m == x.node) (eq-eqb j x.block (sym p))
      (eq-eqb m x.node (sym q))))
      (r.stamped.control j m hj hm))

  -- the word that was written says something, the others what they said
  settled-control : (j m : ℕ) → j < f.layout.blocks → m < f.layout.nodes →
      is_said (block_of f.layout words j) (word_of f.layout words (OfControl j m)) ≡ false →
      is_under_way (control_read (word_of f.layout words (OfControl j m))) ≡ false
  settled-control j m hj hm old =
      either (j == x.block && m == x.node)
      (λ t.
      let parts = and_parts (j == x.block) (m == x.node) t in
      let here : word_of f.layout words (OfControl x.block x.node) ≡ value =
      word-here f.layout s.words r.sized.words (OfControl x.block x.node) (place-b, place-n) value in
      let said : is_said (block_of f.layout words x.block) (word_of f.layout words (OfControl x.block x.node)) ≡ true =
      (λ k. is_said (block-kept x.block k) (here k))
      ∙ and_from _ _ (ap not kept) (eq-eqb (stamp_of value) (block_of f.layout s.words x.block).generation present) in
      absurd (both_ways (is_said (block_of f.layout words j) (word_of f.layout words (OfControl j m))) old
      (subst (λ (p : ℕ × ℕ). is_said (block_of f.layout words p.0) (word_of f.layout words (OfControl p.0 p.1)) ≡ true)
      (λ k. (sym (eqb-true j x.block parts.0) k, sym (eqb-true m x.node parts.1) k)) said)))
      (λ apart.
      let word = spot-kept (OfControl j m) (hj, hm)
      (λ e.
      let p : x.block ≡ j = cc in
      let q : x.node ≡ m = cc in
      both_ways (j == x.block && m == x.node) apart (and_from _ _ (eq-eqb j x.block (sym p)) (eq-eqb m x.node (sym q)))) in
      ap (λ w. is_under_way (control_read w)) word
      ∙ r.stamped.settled j m hj hm ((λ k. is_said (sym (block-kept j) k) (sym word k)) ∙ old))

  quiet-still : (j m : ℕ) → j < f.layout.blocks → m < f.layout.nodes →
      is_said (block_of f.layout words j) (word_of f.layout words (OfCallback j m)) ≡ false →
      is_on (word_of f.layout words (OfCallback j m)) ≡ false
  quiet-still j m hj hm =
      unsaid-kept (block_of f.layout s.words j) (block_of f.layout words j) (word_of f.layout s.words (OfCallback j m)) (word_of f.layout words (OfCallback j m))
      is_on (block-kept j) (spot-kept (OfCallback j m) (hj, hm) (λ e. cc)) (r.stamped.quiet j m hj hm)

  -- the word that is written is of no earlier generation, and the one before said of no node of its generation
  -- that it is done
  grows : is_done (control_at now x) ≡ false → IsLaterControl (word_of f.layout s.words (OfControl x.block x.node)) value
  grows undone =
      let old = word_of f.layout s.words (OfControl x.block x.node) in
      let most = r.stamped.control x.block x.node place-b place-n in
      let e = present in
      record {
        stamp = omega (arith, most, e);
        done = λ same done.
            let said : is_said (block_of f.layout s.words x.block) old ≡ true =
            and_from _ _ (ap not kept) (eq-eqb (stamp_of old) (block_of f.layout s.words x.block).generation (same ∙ e)) in
            let there : is_there f.layout x.block x.node ≡ true =
            and_from _ _ (lt-ltb x.block f.layout.blocks place-b) (lt-ltb x.node f.layout.nodes place-n) in
            let says : control_at now x ≡ Done =
            cond-true (is_live now x) (now.control x.block x.node) Idle live
            ∙ cond-true (is_there f.layout x.block x.node) (said_at (block_of f.layout s.words x.block) Idle control_read old) Idle there
            ∙ cond-true (is_said (block_of f.layout s.words x.block) old) (control_read old) Idle said
            ∙ done in
            absurd (both_ways (is_done (control_at now x)) undone (ap is_done says));
      }

  -- the node's source was renewed where it has one
  abbrev pub IsRenewedNow : Type 0
  IsRenewedNow =
      has_source f.tree x.node ≡ true → stamp_of (word_of f.layout s.words (OfSource x.block x.node)) ≡ (block_of f.layout s.words x.block).generation

  renewed-control : IsRenewedNow → (j m : ℕ) → j < f.layout.blocks → m < f.layout.nodes → has_source f.tree m ≡ true →
      is_idle (control_of f.layout words j m) ≡ false →
      stamp_of (word_of f.layout words (OfSource j m)) ≡ (block_of f.layout words j).generation
  renewed-control own j m hj hm has =
      let word = spot-kept (OfSource j m) (hj, hm) (λ e. cc) in
      let generation = ap (λ b. b.generation) (block-kept j) in
      either (j == x.block && m == x.node)
      (λ t begun.
      let parts = and_parts (j == x.block) (m == x.node) t in
      ap stamp_of word
      ∙ subst (λ (p : ℕ × ℕ). has_source f.tree p.1 ≡ true → stamp_of (word_of f.layout s.words (OfSource p.0 p.1)) ≡ (block_of f.layout s.words p.0).generation)
      (λ k. (sym (eqb-true j x.block parts.0) k, sym (eqb-true m x.node parts.1) k)) own has
      ∙ sym generation)
      (λ apart.
      renewed-kept f.layout s.words words j m
      (control-after f.layout s.words stored j m
      ∙ cond-false (j == x.block && m == x.node) w (now.control j m) apart)
      word generation (r.stamped.renewed j m hj hm has))

  module _ (mine : View P E) (u : PureView) (shows : shown_view (block_of f.layout s.words) mine ≡ u) where
    abbrev pub put_state : State
    put_state = put now id x w u

    view-put : (h : ℕ) → view_at (block_of f.layout words) (set s.views id mine) h ≡ put_state.view h
    view-put h =
        let old = block_of f.layout s.words in
        views-same old (block_of f.layout words)
        (λ y k. not (is_retired (block-kept y.block k).state) && y.generation == (block-kept y.block k).generation)
        (set s.views id mine) h
        ∙ view-set old s.views id v mine at h
        ∙ ap (λ z. cond (h == id) z (view_at old s.views h)) shows

    module _ (homes : List (maybe.Option (Option P))) (home : ℕ → ℕ → Home P) (past : Past P E) (shelved : (j m : ℕ) → home_of_place f.layout homes j m ≡ home j m) where
      abbrev pub put_scene : Scene P E
      put_scene = record { state = put_state; home = home; past = past }

      scene-put : scene f record { words = words; homes = homes; views = set s.views id mine } past ≡ put_scene
      scene-put =
          λ k. record {
            state = record {
              tree = f.tree;
              blocks = f.layout.blocks;
              hands = f.hands;
              kind = f.kind;
              most = f.most;
              block = λ j. block-kept j k;
              control = λ j m. control-after f.layout s.words stored j m k;
              callback = λ j m. others-same f.layout s.words stored
                  Never callback_read OfCallback (λ j m a b. (a, b)) (λ j m e. cc) j m k;
              source = λ j m. others-same f.layout s.words stored
                  clear source_read OfSource (λ j m a b. (a, b)) (λ j m e. cc) j m k;
              scope_source = source_read (spot-kept TheScopeSource tt (λ e. cc) k);
              scope = scope_read (spot-kept TheScope tt (λ e. cc) k);
              view = λ h. view-put h k;
            };
            home = λ j m. shelved j m k;
            past = past;
          }

      -- the rule is kept, where what is said of the scene is
      pub control-runs : is_done (control_at now x) ≡ false → IsRenewedNow → Lists f.layout s.words (OfControl x.block x.node) value v mine → length homes ≡ length s.homes →
          Stands cargo f.over.value put_scene (set s.views id mine) →
          Running cargo f record { words = words; homes = homes; views = set s.views id mine }
      control-runs undone renewed lists deep stands =
          record {
            frame = r.frame;
            sized = record {
              words = length-set s.words (index f.layout (OfControl x.block x.node)) value ∙ r.sized.words;
              homes = deep ∙ r.sized.homes;
              seats = subst (λ n. n ≤ f.hands) (sym (length-set s.views id mine)) r.sized.seats;
            };
            stamped = record {
              control = stamp-control;
              callback = λ j m hj hm. stamp-other (OfCallback j m) j (hj, hm) (λ e. cc) (r.stamped.callback j m hj hm);
              source = λ j m hj hm. stamp-other (OfSource j m) j (hj, hm) (λ e. cc) (r.stamped.source j m hj hm);
              settled = settled-control;
              quiet = quiet-still;
              renewed = renewed-control renewed;
              rises = written-risen f.layout s.views id v mine at s.words value (OfControl x.block x.node) r.sized.words (place-b, place-n)
                  (grows undone) lists r.stamped.rises;
              scope = subst (λ k. k < 2 ^ 36) (sym (spot-kept TheScope tt (λ e. cc))) r.stamped.scope;
            };
            past = past;
            stands = subst (λ z. Stands cargo f.over.value z (set s.views id mine)) (sym scene-put) stands;
          }

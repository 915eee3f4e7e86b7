-- The steps that write a stop source's word are moves of the pure machine.
use Rattle.std.proofs.Common.{◌≡◌, ℕ, ◌<◌, true, not, ◌&&◌, ◌==◌, cond, List, refl, sym, ap, ◌∙◌, subst}
use Rattle.std.specs.Prelude.{Option, slice_set}
use Rattle.std.proofs.lemmas.Bool.{and_parts, and_from, both_ways, cond-true, cond-false, eqb-true, eq-eqb, lt-ltb}
use Rattle.common_lemmas.proofs.Bool.{either}
use Rattle.life_rules.specs.declared.words.ControlWord.TheVariants.{Idle}
use Rattle.life_rules.specs.declared.words.CallbackPhase.TheVariants.{Never}
use Rattle.life_rules.specs.declared.words.Bits.{Bits}
use Rattle.life_rules.specs.declared.event.SourceRef.{SourceRef}
use Rattle.life_rules.specs.declared.event.SourceRef.TheVariants.{Scope, Node}
use Rattle.life_rules.specs.Words.{clear}
use Rattle.life_rules.specs.Views.{View as PureView}
use Rattle.life_rules.specs.States.{State, is_live, with_view}
use Rattle.life_rules.proofs.Readings.{lives}
use Rattle.stop_kept.proofs.Sources.{words_with, scope_with, asked}
use Rattle.table_words.specs.Stamps.{stamp_of}
use Rattle.table_words.specs.Controls.{control_read, callback_read, source_read}
use Rattle.table_words.specs.ScopeNumbers.{scope_read}
use Rattle.table_words.specs.Layouts.{Spot, TheScope, TheScopeSource, OfControl, OfCallback, OfSource, IsSpot, index}
use Rattle.atomic_table.specs.Table as table
use Rattle.table_rules.specs.declared.cargo.Cargo.{Ghosts}
use Rattle.table_rules.specs.declared.frame.Frame.{Frame}
use Rattle.table_rules.specs.declared.view.View.{View}
use Rattle.table_rules.specs.ShownWords.{block_of, word_of, source_of, is_retired, is_said, is_there, said, said_at}
use Rattle.table_rules.specs.ShownViews.{view_at, shown_view}
use Rattle.table_rules.specs.Scenes.{shown}
use Rattle.table_rules.specs.Running.{Running}
use Rattle.table_steps.specs.Sights.{spot_of}
use Rattle.table_kept.proofs.WordMoves.{word-here}
use Rattle.table_kept.proofs.PlaceMoves as places
use Rattle.table_kept.proofs.ViewMoves.{view-set, views-same}
use Rattle.table_kept.proofs.LiveNames.{open-kept}
use Rattle.table_stop_kept.proofs.Source.Spots.{IsLiveSource, SaysOf, no-block, no-callback, no-control, no-scope}
use Rattle.table_laws.specs.Laws.{Has}

-- a source's word was written, and the hand's view changed
module _ {P E O : Type 0} (cargo : Ghosts P E O) (f : Frame O) (s : table.State (Option P) (View P E)) (r : Running cargo f s) (id : ℕ) (v : View P E) (at : Has s id v) (value : ℕ) (source : SourceRef) (bits : Bits) (spot : IsSpot f.layout (spot_of source)) (says : SaysOf value bits source) (live : IsLiveSource (shown f s) source) where
  abbrev now : State
  now = shown f s

  abbrev words : List ℕ
  words = slice_set s.words (index f.layout (spot_of source)) value

  spot-kept : (y : Spot) → IsSpot f.layout y → (spot_of source ≡ y → ⊥) → word_of f.layout words y ≡ word_of f.layout s.words y
  spot-kept = places.spot-same f.layout s.words r.sized.words (spot_of source) spot (no-block source) value

  block-kept : (j : ℕ) → block_of f.layout words j ≡ block_of f.layout s.words j
  block-kept = places.blocks-same f.layout s.words r.sized.words (spot_of source) spot (no-block source) value

  said-kept : {A : Type 0} (first : A) (read : ℕ → A) (kind : ℕ → ℕ → Spot) (j m : ℕ) →
      (j < f.layout.blocks → m < f.layout.nodes → IsSpot f.layout (kind j m)) → (spot_of source ≡ kind j m → ⊥) →
      said f.layout words first read kind j m ≡ said f.layout s.words first read kind j m
  said-kept first read kind j m = places.said-same f.layout s.words r.sized.words (spot_of source) spot (no-block source) value first read kind j m

  -- the word that was written reads so
  written-word : word_of f.layout words (spot_of source) ≡ value
  written-word = word-here f.layout s.words r.sized.words (spot_of source) spot value

  scope-source-after : (t : SourceRef) → source ≡ t → source_read (word_of f.layout words TheScopeSource) ≡ scope_with now t bits
  scope-source-after Scope is =
      ap (λ z. source_read (word_of f.layout words (spot_of z))) (sym is) ∙ ap source_read written-word
      ∙ subst (SaysOf value bits) is says
  scope-source-after (Node y) is =
      ap source_read (spot-kept TheScopeSource tt (λ e. let no : spot_of (Node y) ≡ TheScopeSource = ap spot_of (sym is) ∙ e in cc))

  source-after : (t : SourceRef) → source ≡ t → (j m : ℕ) → source_of f.layout words j m ≡ words_with now t bits j m
  source-after Scope is j m =
      said-kept clear source_read OfSource j m (λ a b. (a, b)) (λ e. let no : spot_of Scope ≡ OfSource j m = ap spot_of (sym is) ∙ e in cc)
  source-after (Node y) is j m =
      either (j == y.block && m == y.node)
      (λ t.
      let parts = and_parts (j == y.block) (m == y.node) t in
      (λ k. source_of f.layout words (eqb-true j y.block parts.0 k) (eqb-true m y.node parts.1 k)) ∙ here-after
      ∙ sym (cond-true (j == y.block && m == y.node) bits (now.source j m) t))
      (λ apart.
      said-kept clear source_read OfSource j m (λ a b. (a, b))
      (λ e.
      let same : spot_of (Node y) ≡ OfSource j m = ap spot_of (sym is) ∙ e in
      let p : y.block ≡ j = cc in
      let q : y.node ≡ m = cc in
      both_ways (j == y.block && m == y.node) apart (and_from _ _ (eq-eqb j y.block (sym p)) (eq-eqb m y.node (sym q))))
      ∙ sym (cond-false (j == y.block && m == y.node) bits (now.source j m) apart))
    where
      says-y : (source_read value ≡ bits) × (stamp_of value ≡ y.generation)
      says-y = subst (SaysOf value bits) is says

      live-y : is_live now y ≡ true
      live-y = subst (IsLiveSource now) is live

      here-after : source_of f.layout words y.block y.node ≡ bits
      here-after =
          let l = lives now y live-y in
          let placed : IsSpot f.layout (OfSource y.block y.node) = subst (λ z. IsSpot f.layout (spot_of z)) is spot in
          let there : is_there f.layout y.block y.node ≡ true =
          and_from _ _ (lt-ltb y.block f.layout.blocks placed.0) (lt-ltb y.node f.layout.nodes placed.1) in
          let kept = open-kept (block_of f.layout s.words y.block).state l.is_opened in
          let present : is_said (block_of f.layout s.words y.block) value ≡ true =
          and_from _ _ (ap not kept) (eq-eqb _ _ (says-y.1 ∙ l.generation)) in
          let word : word_of f.layout words (OfSource y.block y.node) ≡ value =
          ap (λ z. word_of f.layout words (spot_of z)) (sym is) ∙ written-word in
          cond-true (is_there f.layout y.block y.node) (said_at (block_of f.layout words y.block) clear source_read (word_of f.layout words (OfSource y.block y.node))) clear there
          ∙ (λ k. said_at (block-kept y.block k) clear source_read (word k))
          ∙ cond-true (is_said (block_of f.layout s.words y.block) value) (source_read value) clear present
          ∙ says-y.0

  module _ (mine : View P E) (u : PureView) (shows : shown_view (block_of f.layout s.words) mine ≡ u) where
    view-put : (h : ℕ) → view_at (block_of f.layout words) (slice_set s.views id mine) h ≡ (with_view now id u).view h
    view-put h =
        let old = block_of f.layout s.words in
        views-same old (block_of f.layout words)
        (λ y k. not (is_retired (block-kept y.block k).state) && y.generation == (block-kept y.block k).generation)
        (slice_set s.views id mine) h
        ∙ view-set old s.views id v mine at h
        ∙ ap (λ z. cond (h == id) z (view_at old s.views h)) shows

    pub shown-after : (s' : table.State (Option P) (View P E)) → s'.words ≡ words → s'.views ≡ slice_set s.views id mine →
        shown f s' ≡ asked now source bits (with_view now id u).view
    shown-after s' words_are views_are =
        (λ k. shown f record { words = words_are k; homes = s'.homes; views = views_are k })
        ∙ (λ k. record {
          tree = f.tree;
          blocks = f.layout.blocks;
          hands = f.hands;
          kind = f.kind;
          most = f.most;
          block = λ j. block-kept j k;
          control = λ j m. said-kept Idle control_read OfControl j m (λ a b. (a, b)) (no-control source j m) k;
          callback = λ j m. said-kept Never callback_read OfCallback j m (λ a b. (a, b)) (no-callback source j m) k;
          source = λ j m. source-after source refl j m k;
          scope_source = scope-source-after source refl k;
          scope = scope_read (spot-kept TheScope tt (no-scope source) k);
          view = λ h. view-put h k;
        })

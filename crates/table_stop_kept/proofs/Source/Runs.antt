-- A step that writes a source's word keeps the rule where the pure machine's step keeps what is sound, and
-- requests nothing.
use Rattle.std.proofs.Common.{◌≡◌, ℕ, ◌^◌, ◌<◌, ◌≤◌, true, false, not, ◌&&◌, ◌==◌, cond, List, set, refl, sym, ap, ◌∙◌, subst, arith, length-set}
use Rattle.std.proofs.lemmas.Bool.{and_parts, and_from, both_ways, cond-true, cond-false, eqb-true, eq-eqb, lt-ltb}
use mathlib.Core.Option.{some}
use lib.ListN.{get_elem?}
use Rattle.life_rules.specs.declared.words.ControlWord.TheVariants.{Idle}
use Rattle.life_rules.specs.declared.words.CallbackPhase.TheVariants.{Never}
use Rattle.life_rules.specs.declared.words.Bits.{Bits}
use Rattle.life_rules.specs.declared.event.SourceRef.{SourceRef}
use Rattle.life_rules.specs.declared.event.SourceRef.TheVariants.{Scope, Node}
use Rattle.node_tree.specs.Tree.{has_source}
use Rattle.life_rules.specs.Words.{is_idle, is_under_way, clear}
use Rattle.life_rules.specs.Views.{View as PureView}
use Rattle.life_rules.specs.States.{State, is_live, bits_at, with_view}
use Rattle.life_rules.specs.Sound.{Sound}
use Rattle.common_lemmas.proofs.Bool.{either}
use Rattle.life_rules.proofs.Readings.{lives}
use Rattle.stop_kept.proofs.StopFrames.{related}
use Rattle.stop_kept.proofs.Sources.{words_with, scope_with, asked}
use Rattle.table_words.specs.Stamps.{stamp_of}
use Rattle.table_words.specs.Controls.{control_read, callback_read, source_read}
use Rattle.table_words.specs.ScopeNumbers.{scope_read}
use Rattle.table_words.specs.Layouts.{Spot, TheScope, TheScopeSource, OfControl, OfCallback, OfSource, IsSpot, index}
use Rattle.table_rules.specs.declared.cargo.Cargo.{Ghosts}
use Rattle.table_rules.specs.declared.frame.Frame.{Frame}
use Rattle.table_rules.specs.declared.view.View.{View}
use Rattle.table_rules.specs.ShownWords.{block_of, word_of, control_of, source_of, is_retired, is_said, is_there, said, said_at}
use Rattle.table_rules.specs.ShownViews.{view_at, shown_view}
use Rattle.table_rules.specs.Scenes.{Scene, shown, scene}
use Rattle.table_rules.specs.Notes.{IsKnown}
use Rattle.table_rules.specs.Grown.{HasBitsOfSource, IsLater}
use Rattle.table_rules.specs.Running.{Stands, Running}
use Rattle.table_steps.specs.Sights.{spot_of}
use Rattle.table_kept.proofs.Standing.{Standing}
use Rattle.table_kept.proofs.WordMoves.{word-here}
use Rattle.table_kept.proofs.PlaceMoves as places
use Rattle.table_kept.proofs.Stamping.{is_on, Lists, written-risen, unsaid-kept, renewed-kept}
use Rattle.table_kept.proofs.Counts.{tally, counts-moved}
use Rattle.table_kept.proofs.ViewMoves.{view-set, views-same, views-moved}
use Rattle.table_kept.proofs.LiveNames.{open-kept}
use Rattle.table_kept.proofs.Asides.{owning, homes-aside, starts-aside, items-aside, lots-aside}
use Rattle.table_stop_kept.proofs.Source.Spots.{IsLiveSource, SaysOf, no-block, no-callback, no-control, no-scope}

-- which source's word is written, and what it says then
pub record ToWriteSource {P E O : Type 0} {cargo : Ghosts P E O} {f : Frame O}
    (hand : Standing cargo f) : Type 0 where
  pub value : ℕ
  pub source : SourceRef
  pub bits : Bits
  pub spot : IsSpot f.layout (spot_of source)
  pub says : SaysOf value bits source
  pub live : IsLiveSource (shown f hand.state) source

module _ {P E O : Type 0} (cargo : Ghosts P E O) (f : Frame O) (hand : Standing cargo f)
    (task : ToWriteSource hand) where
  open hand use {state as s, id, view as v, running as r, at}
  open task use {value, source, bits, spot, says, live}

  abbrev now : State
  now = shown f s

  abbrev here : Scene P E
  here = scene f s r.past

  abbrev words : List ℕ
  words = set s.words (index f.layout (spot_of source)) value

  spot-kept : (y : Spot) → IsSpot f.layout y → (spot_of source ≡ y → ⊥) → word_of f.layout words y ≡ word_of f.layout s.words y
  spot-kept = places.spot-same f.layout s.words r.sized.words (spot_of source) spot (no-block source) value

  block-kept : (j : ℕ) → block_of f.layout words j ≡ block_of f.layout s.words j
  block-kept = places.blocks-same f.layout s.words r.sized.words (spot_of source) spot (no-block source) value

  said-kept : {A : Type 0} (first : A) (read : ℕ → A) (kind : ℕ → ℕ → Spot) (j m : ℕ) →
      (j < f.layout.blocks → m < f.layout.nodes → IsSpot f.layout (kind j m)) → (spot_of source ≡ kind j m → ⊥) →
      said f.layout words first read kind j m ≡ said f.layout s.words first read kind j m
  said-kept first read kind j m = places.said-same f.layout s.words r.sized.words (spot_of source) spot (no-block source) value first read kind j m

  stamp-kept : (y : Spot) (j : ℕ) → IsSpot f.layout y → (spot_of source ≡ y → ⊥) →
      stamp_of (word_of f.layout s.words y) ≤ (block_of f.layout s.words j).generation →
      stamp_of (word_of f.layout words y) ≤ (block_of f.layout words j).generation
  stamp-kept y j is ne old =
      subst (λ b. stamp_of (word_of f.layout words y) ≤ b.generation) (sym (block-kept j))
      (subst (λ k. stamp_of k ≤ (block_of f.layout s.words j).generation) (sym (spot-kept y is ne)) old)

  settled-kept : (j m : ℕ) → j < f.layout.blocks → m < f.layout.nodes →
      is_said (block_of f.layout words j) (word_of f.layout words (OfControl j m)) ≡ false →
      is_under_way (control_read (word_of f.layout words (OfControl j m))) ≡ false
  settled-kept j m hj hm old =
      let kept = spot-kept (OfControl j m) (hj, hm) (no-control source j m) in
      ap (λ w. is_under_way (control_read w)) kept
      ∙ r.stamped.settled j m hj hm ((λ k. is_said (sym (block-kept j) k) (sym kept k)) ∙ old)

  -- the word that was written reads so
  written-word : word_of f.layout words (spot_of source) ≡ value
  written-word = word-here f.layout s.words r.sized.words (spot_of source) spot value

  scope-source-after : (t : SourceRef) → source ≡ t → source_read (word_of f.layout words TheScopeSource) ≡ scope_with now t bits
  scope-source-after Scope is =
      ap (λ z. source_read (word_of f.layout words (spot_of z))) (sym is) ∙ ap source_read written-word
      ∙ subst (SaysOf value bits) is says
  scope-source-after (Node y) is =
      ap source_read (spot-kept TheScopeSource tt (λ e. let no : spot_of (Node y) ≡ TheScopeSource = ap spot_of (sym is) ∙ e in cc))

  source-after : (t : SourceRef) → source ≡ t → (j m : ℕ) → source_of f.layout words j m ≡ words_with now t bits j m
  source-after Scope is j m =
      said-kept clear source_read OfSource j m (λ a b. (a, b)) (λ e. let no : spot_of Scope ≡ OfSource j m = ap spot_of (sym is) ∙ e in cc)
  source-after (Node y) is j m =
      either (j == y.block && m == y.node)
      (λ t.
      let parts = and_parts (j == y.block) (m == y.node) t in
      (λ k. source_of f.layout words (eqb-true j y.block parts.0 k) (eqb-true m y.node parts.1 k)) ∙ here-after
      ∙ sym (cond-true (j == y.block && m == y.node) bits (now.source j m) t))
      (λ apart.
      said-kept clear source_read OfSource j m (λ a b. (a, b))
      (λ e.
      let same : spot_of (Node y) ≡ OfSource j m = ap spot_of (sym is) ∙ e in
      let p : y.block ≡ j = cc in
      let q : y.node ≡ m = cc in
      both_ways (j == y.block && m == y.node) apart (and_from _ _ (eq-eqb j y.block (sym p)) (eq-eqb m y.node (sym q))))
      ∙ sym (cond-false (j == y.block && m == y.node) bits (now.source j m) apart))
    where
      says-y : (source_read value ≡ bits) × (stamp_of value ≡ y.generation)
      says-y = subst (SaysOf value bits) is says

      live-y : is_live now y ≡ true
      live-y = subst (IsLiveSource now) is live

      here-after : source_of f.layout words y.block y.node ≡ bits
      here-after =
          let l = lives now y live-y in
          let placed : IsSpot f.layout (OfSource y.block y.node) = subst (λ z. IsSpot f.layout (spot_of z)) is spot in
          let there : is_there f.layout y.block y.node ≡ true =
          and_from _ _ (lt-ltb y.block f.layout.blocks placed.0) (lt-ltb y.node f.layout.nodes placed.1) in
          let kept = open-kept (block_of f.layout s.words y.block).state l.is_opened in
          let present : is_said (block_of f.layout s.words y.block) value ≡ true =
          and_from _ _ (ap not kept) (eq-eqb _ _ (says-y.1 ∙ l.generation)) in
          let word : word_of f.layout words (OfSource y.block y.node) ≡ value =
          ap (λ z. word_of f.layout words (spot_of z)) (sym is) ∙ written-word in
          cond-true (is_there f.layout y.block y.node) (said_at (block_of f.layout words y.block) clear source_read (word_of f.layout words (OfSource y.block y.node))) clear there
          ∙ (λ k. said_at (block-kept y.block k) clear source_read (word k))
          ∙ cond-true (is_said (block_of f.layout s.words y.block) value) (source_read value) clear present
          ∙ says-y.0

  stamp-source : (t : SourceRef) → source ≡ t → (j m : ℕ) → j < f.layout.blocks → m < f.layout.nodes →
      stamp_of (word_of f.layout words (OfSource j m)) ≤ (block_of f.layout words j).generation
  stamp-source Scope is j m hj hm =
      stamp-kept (OfSource j m) j (hj, hm) (λ e. let no : spot_of Scope ≡ OfSource j m = ap spot_of (sym is) ∙ e in cc) (r.stamped.source j m hj hm)
  stamp-source (Node y) is j m hj hm =
      either (j == y.block && m == y.node)
      (λ t.
      let parts = and_parts (j == y.block) (m == y.node) t in
      let says-y : (source_read value ≡ bits) × (stamp_of value ≡ y.generation) = subst (SaysOf value bits) is says in
      let l = lives now y (subst (IsLiveSource now) is live) in
      let word : word_of f.layout words (OfSource y.block y.node) ≡ value =
      ap (λ z. word_of f.layout words (spot_of z)) (sym is) ∙ written-word in
      let own : stamp_of (word_of f.layout words (OfSource y.block y.node)) ≤ (block_of f.layout words y.block).generation =
      (let e : stamp_of (word_of f.layout words (OfSource y.block y.node)) ≡ (block_of f.layout words y.block).generation =
      ap stamp_of word ∙ says-y.1 ∙ l.generation ∙ ap (λ b. b.generation) (sym (block-kept y.block)) in omega (arith, e)) in
      subst (λ (p : ℕ × ℕ). stamp_of (word_of f.layout words (OfSource p.0 p.1)) ≤ (block_of f.layout words p.0).generation)
      (λ k. (sym (eqb-true j y.block parts.0) k, sym (eqb-true m y.node parts.1) k)) own)
      (λ apart.
      stamp-kept (OfSource j m) j (hj, hm)
      (λ e.
      let same : spot_of (Node y) ≡ OfSource j m = ap spot_of (sym is) ∙ e in
      let p : y.block ≡ j = cc in
      let q : y.node ≡ m = cc in
      both_ways (j == y.block && m == y.node) apart (and_from _ _ (eq-eqb j y.block (sym p)) (eq-eqb m y.node (sym q))))
      (r.stamped.source j m hj hm))

  quiet-kept : (j m : ℕ) → j < f.layout.blocks → m < f.layout.nodes →
      is_said (block_of f.layout words j) (word_of f.layout words (OfCallback j m)) ≡ false →
      is_on (word_of f.layout words (OfCallback j m)) ≡ false
  quiet-kept j m hj hm =
      unsaid-kept (block_of f.layout s.words j) (block_of f.layout words j) (word_of f.layout s.words (OfCallback j m)) (word_of f.layout words (OfCallback j m))
      is_on (block-kept j) (spot-kept (OfCallback j m) (hj, hm) (no-callback source j m)) (r.stamped.quiet j m hj hm)

  -- the word that is written is of no earlier generation, and has the bits that the source had
  grows : (t : SourceRef) → source ≡ t → HasBitsOfSource (bits_at now t) bits → IsLater (spot_of t) (word_of f.layout s.words (spot_of t)) value
  grows Scope is more =
      let says-scope : source_read value ≡ bits = subst (SaysOf value bits) is says in
      subst (HasBitsOfSource (bits_at now Scope)) (sym says-scope) more
  grows (Node y) is more =
      let at_y : IsSpot f.layout (OfSource y.block y.node) = subst (λ t. IsSpot f.layout (spot_of t)) is spot in
      let says-y : (source_read value ≡ bits) × (stamp_of value ≡ y.generation) = subst (SaysOf value bits) is says in
      let old = r.stamped.source y.block y.node at_y.0 at_y.1 in
      let stamp = says-y.1 in
      let alive : is_live now y ≡ true = subst (IsLiveSource now) is live in
      let l = lives now y alive in
      let own = l.generation in
      let word = word_of f.layout s.words (OfSource y.block y.node) in
      record {
        stamp = omega (arith, old, stamp, own);
        bits = λ same.
            let said : is_said (now.block y.block) word ≡ true =
            and_from _ _ (ap not (open-kept (now.block y.block).state l.is_opened)) (eq-eqb _ _ (same ∙ stamp ∙ own)) in
            let there : is_there f.layout y.block y.node ≡ true =
            and_from _ _ (lt-ltb y.block f.layout.blocks at_y.0) (lt-ltb y.node f.layout.nodes at_y.1) in
            let reads : bits_at now (Node y) ≡ source_read word =
            cond-true (is_live now y) (now.source y.block y.node) clear alive
            ∙ cond-true (is_there f.layout y.block y.node) (said_at (now.block y.block) clear source_read word) clear there
            ∙ cond-true (is_said (now.block y.block) word) (source_read word) clear said in
            subst (λ (z : Bits × Bits). HasBitsOfSource z.0 z.1) (λ k. (reads k, sym says-y.0 k)) more;
      }

  renewed-source : (t : SourceRef) → source ≡ t → (j m : ℕ) → j < f.layout.blocks → m < f.layout.nodes → has_source f.tree m ≡ true →
      is_idle (control_of f.layout words j m) ≡ false →
      stamp_of (word_of f.layout words (OfSource j m)) ≡ (block_of f.layout words j).generation
  renewed-source Scope is j m hj hm has =
      renewed-kept f.layout s.words words j m (said-kept Idle control_read OfControl j m (λ a b. (a, b)) (no-control source j m))
      (spot-kept (OfSource j m) (hj, hm) (λ e. let no : spot_of Scope ≡ OfSource j m = ap spot_of (sym is) ∙ e in cc))
      (ap (λ b. b.generation) (block-kept j)) (r.stamped.renewed j m hj hm has)
  renewed-source (Node y) is j m hj hm has =
      either (j == y.block && m == y.node)
      (λ t begun.
      let parts = and_parts (j == y.block) (m == y.node) t in
      let says-y : (source_read value ≡ bits) × (stamp_of value ≡ y.generation) = subst (SaysOf value bits) is says in
      let l = lives now y (subst (IsLiveSource now) is live) in
      let word : word_of f.layout words (OfSource y.block y.node) ≡ value =
      ap (λ z. word_of f.layout words (spot_of z)) (sym is) ∙ written-word in
      subst (λ (p : ℕ × ℕ). stamp_of (word_of f.layout words (OfSource p.0 p.1)) ≡ (block_of f.layout words p.0).generation)
      (λ k. (sym (eqb-true j y.block parts.0) k, sym (eqb-true m y.node parts.1) k))
      (ap stamp_of word ∙ says-y.1 ∙ l.generation ∙ ap (λ b. b.generation) (sym (block-kept y.block))))
      (λ apart.
      renewed-kept f.layout s.words words j m (said-kept Idle control_read OfControl j m (λ a b. (a, b)) (no-control source j m))
      (spot-kept (OfSource j m) (hj, hm)
      (λ e.
      let same : spot_of (Node y) ≡ OfSource j m = ap spot_of (sym is) ∙ e in
      let p : y.block ≡ j = cc in
      let q : y.node ≡ m = cc in
      both_ways (j == y.block && m == y.node) apart (and_from _ _ (eq-eqb j y.block (sym p)) (eq-eqb m y.node (sym q)))))
      (ap (λ b. b.generation) (block-kept j)) (r.stamped.renewed j m hj hm has))

  module _ (mine : View P E) (u : PureView) (shows : shown_view (block_of f.layout s.words) mine ≡ u) where
    abbrev views : ℕ → PureView
    views = (with_view now id u).view

    abbrev pub asked_state : State
    asked_state = asked now source bits (with_view now id u).view

    view-put : (h : ℕ) → view_at (block_of f.layout words) (set s.views id mine) h ≡ views h
    view-put h =
        let old = block_of f.layout s.words in
        views-same old (block_of f.layout words)
        (λ y k. not (is_retired (block-kept y.block k).state) && y.generation == (block-kept y.block k).generation)
        (set s.views id mine) h
        ∙ view-set old s.views id v mine at h
        ∙ ap (λ z. cond (h == id) z (view_at old s.views h)) shows

    abbrev after : Scene P E
    after = record here { state = asked_state }

    scene-put : scene f record { words = words; homes = s.homes; views = set s.views id mine } r.past ≡ after
    scene-put =
        λ k. record here {
          state = record now {
            block = λ j. block-kept j k;
            control = λ j m. said-kept Idle control_read OfControl j m (λ a b. (a, b)) (no-control source j m) k;
            callback = λ j m. said-kept Never callback_read OfCallback j m (λ a b. (a, b)) (no-callback source j m) k;
            source = λ j m. source-after source refl j m k;
            scope_source = scope-source-after source refl k;
            scope = scope_read (spot-kept TheScope tt (no-scope source) k);
            view = λ h. view-put h k;
          };
        }

    -- the rule is kept, where what is said of the scene is
    pub source-runs : HasBitsOfSource (bits_at now source) bits → Lists f.layout s.words (spot_of source) value v mine →
        Stands cargo f.over.value (record here { state = asked now source bits (with_view now id u).view }) (set s.views id mine) →
        Running cargo f record { words = set s.words (index f.layout (spot_of source)) value; homes = s.homes; views = set s.views id mine }
    source-runs more lists stands =
        record {
          frame = r.frame;
          sized = record {
            words = length-set s.words (index f.layout (spot_of source)) value ∙ r.sized.words;
            homes = r.sized.homes;
            seats = subst (λ n. n ≤ f.hands) (sym (length-set s.views id mine)) r.sized.seats;
          };
          stamped = record {
            control = λ j m hj hm. stamp-kept (OfControl j m) j (hj, hm) (no-control source j m) (r.stamped.control j m hj hm);
            callback = λ j m hj hm. stamp-kept (OfCallback j m) j (hj, hm) (no-callback source j m) (r.stamped.callback j m hj hm);
            source = stamp-source source refl;
            settled = settled-kept;
            quiet = quiet-kept;
            renewed = renewed-source source refl;
            rises = written-risen f.layout s.views id v mine at s.words value (spot_of source) r.sized.words spot (grows source refl more) lists r.stamped.rises;
            scope = subst (λ w. w < 2 ^ 36) (sym (spot-kept TheScope tt (no-scope source))) r.stamped.scope;
          };
          past = r.past;
          stands = subst (λ z. Stands cargo f.over.value z (set s.views id mine)) (sym scene-put) stands;
        }

    -- what is said of the scene is kept, where nothing is requested anew
    pub stands-calm : Sound (asked now source bits (with_view now id u).view) →
        ((t : SourceRef) → (bits_at (asked now source bits (with_view now id u).view) t).requested ≡ (bits_at now t).requested) →
        owning (now.view id) ≡ owning u → mine.number ≡ v.number → mine.splits ≡ v.splits → tally mine ≡ tally v →
        ((j : ℕ) (z : View P E) → (j ≡ id → ⊥) → get_elem? s.views j ≡ some z → IsKnown here z →
        IsKnown (record here { state = asked now source bits (with_view now id u).view }) z) →
        IsKnown (record here { state = asked now source bits (with_view now id u).view }) mine →
        Stands cargo f.over.value (record here { state = asked now source bits (with_view now id u).view }) (set s.views id mine)
    stands-calm sound same roles number splits tallied others own =
        let q = words_with now source bits in
        let z = scope_with now source bits in
        record {
          sound = sound;
          homes = homes-aside here now.callback q z now.scope views (related now id u (λ a b. owning a ≡ owning b) (λ _. refl) roles) r.stands.homes;
          starts = starts-aside here now.callback q z now.scope views cargo f.over.value r.stands.starts;
          items = items-aside here now.callback q z now.scope views cargo same r.stands.items;
          lots = lots-aside here now.callback q z now.scope views cargo r.stands.lots;
          views = views-moved here after s.views id v mine at others own number splits r.stands.views;
          counts = counts-moved now asked_state s.views id v mine at refl tallied r.stands.counts;
        }

-- A look at a stop source keeps the rule.
use Rattle.std.proofs.Common.{◌≡◌, ◌⊎◌, inl, inr, ℕ, ◌<◌, Bool, true, false, not, ◌&&◌, ◌||◌, ◌==◌, ◌∷◌, set, refl, sym, ap, ◌∙◌, subst, arith}
use Rattle.std.specs.Prelude.{Option, Some, None, slice_index}
use Rattle.std.proofs.lemmas.Bool.{and_parts, and_from, or_cases, or_left, or_right, both_ways, cond-true, cond-false, eqb-true, eq-eqb, lt-ltb}
use Rattle.std.proofs.lemmas.Option.{same_Some}
use mathlib.Core.Option.{some}
use lib.ListN.{get_elem?}
use Rattle.life_rules.specs.declared.event.Name.{Name}
use Rattle.life_rules.specs.declared.event.SourceRef.{SourceRef}
use Rattle.life_rules.specs.declared.event.SourceRef.TheVariants.{Scope, Node}
use Rattle.life_rules.specs.declared.words.BlockWord.{BlockWord}
use Rattle.life_rules.specs.Words.{is_open, is_never, is_armed, clear}
use Rattle.life_rules.specs.Views.{View as PureView, same, same_source}
use Rattle.life_rules.specs.States.{State, is_live, bits_at, phase_at, nearest_of}
use Rattle.life_rules.specs.Requests.{WasPassed, IsNoted}
use Rattle.life_rules.specs.Sound.{Sound}
use Rattle.common_lemmas.proofs.Bool.{either}
use Rattle.life_rules.proofs.Names.{same-refl, same-true, same_source-true}
use Rattle.life_rules.proofs.Readings.{lives, is_live-from}
use Rattle.stop_kept.proofs.Notes.{SameDoings, is_noted, passed-requested, sound-noted}
use Rattle.table_words.specs.Stamps.{stamp_of}
use Rattle.table_words.specs.Controls.{source_read}
use Rattle.table_words.specs.Layouts.{IsSpot, OfSource, index}
use Rattle.atomic_table.specs.Table as table
use Rattle.table_rules.specs.declared.cargo.Cargo.{Ghosts}
use Rattle.table_rules.specs.declared.frame.Frame.{Frame}
use Rattle.table_rules.specs.declared.view.View.{View}
use Rattle.table_rules.specs.ShownWords.{is_retired, is_said, is_there, is_present, is_present_source, block_of, said_at}
use Rattle.table_rules.specs.ShownViews.{view_at, shown_view, has_name, has_source_ref}
use Rattle.table_rules.specs.Scenes.{shown}
use Rattle.table_rules.specs.Running.{Running}
use Rattle.table_steps.specs.Claims.{logged}
use Rattle.table_steps.specs.Sights.{spot_of, says_requested, but_for, seen_after_now, unlooked_now, sees, MayLookAfter}
use Rattle.table_kept.proofs.ViewMoves.{view-here, view-set}
use Rattle.table_stop_kept.proofs.Look.Sights.{but-had, but-has}

module _ {P E O : Type 0} (cargo : Ghosts P E O) (f : Frame O) (s : table.State (Option P) (View P E)) (source : SourceRef) (r : Running cargo f s) (spot : IsSpot f.layout (spot_of source)) where
  abbrev now : State
  now = shown f s

  abbrev blocks : ℕ → BlockWord
  blocks = block_of f.layout s.words

  -- the word that the look reads
  abbrev word : ℕ
  word = slice_index s.words (index f.layout (spot_of source))

  -- what the word of a place's source shows
  shows : (x : Name) → source ≡ Node x →
      now.source x.block x.node ≡ said_at (blocks x.block) clear source_read word
  shows x is =
      let at : IsSpot f.layout (OfSource x.block x.node) = subst (λ t. IsSpot f.layout (spot_of t)) is spot in
      let there : is_there f.layout x.block x.node ≡ true =
      and_from _ _ (lt-ltb x.block f.layout.blocks at.0) (lt-ltb x.node f.layout.nodes at.1) in
      let own = slice_index s.words (index f.layout (OfSource x.block x.node)) in
      cond-true (is_there f.layout x.block x.node) (said_at (blocks x.block) clear source_read own) clear there
      ∙ ap (λ t. said_at (blocks x.block) clear source_read (slice_index s.words (index f.layout (spot_of t)))) (sym is)

  -- a request that the word says stands, where the name is of the present
  pub read-stands : is_present_source blocks source ≡ true → says_requested source word ≡ true →
      (bits_at now source).requested ≡ true
  read-stands present says = by_source source refl present says
    where
      by_source : (t : SourceRef) → source ≡ t → is_present_source blocks t ≡ true → says_requested t word ≡ true →
          (bits_at now t).requested ≡ true
      by_source Scope is p h =
          ap (λ t. (source_read (slice_index s.words (index f.layout (spot_of t)))).requested) (sym is) ∙ h
      by_source (Node x) is p h =
          let present_parts = and_parts (not (is_retired (blocks x.block).state)) (x.generation == (blocks x.block).generation) p in
          let says_parts = and_parts (stamp_of word == x.generation) (source_read word).requested h in
          let generation : x.generation ≡ (blocks x.block).generation = eqb-true _ _ present_parts.1 in
          let stamped : stamp_of word ≡ (blocks x.block).generation = eqb-true _ _ says_parts.0 ∙ generation in
          let said : is_said (blocks x.block) word ≡ true =
          and_from _ _ present_parts.0 (eq-eqb (stamp_of word) (blocks x.block).generation stamped) in
          let bits = shows x is ∙ cond-true (is_said (blocks x.block) word) (source_read word) clear said in
          let requested : (now.source x.block x.node).requested ≡ true = ap (λ b. b.requested) bits ∙ says_parts.1 in
          let at : IsSpot f.layout (OfSource x.block x.node) = subst (λ t. IsSpot f.layout (spot_of t)) is spot in
          let nodes = r.frame.nodes in
          let node = at.1 in
          either (is_open (blocks x.block).state)
          (λ opened.
          let live : is_live now x ≡ true = is_live-from now x (record {
            block = at.0;
            node = omega (arith, node, nodes);
            is_opened = opened;
            generation = generation;
          }) in
          ap (λ b. b.requested) (cond-true (is_live now x) (now.source x.block x.node) clear live) ∙ requested)
          (λ shut.
          let unused = (r.stands.sound.owned.unused x.block x.node shut).source in
          absurd (both_ways true (sym requested ∙ ap (λ b. b.requested) unused) refl))

  -- a request that stands the word says
  pub stands-read : (bits_at now source).requested ≡ true → says_requested source word ≡ true
  stands-read h = by_source source refl h
    where
      by_source : (t : SourceRef) → source ≡ t → (bits_at now t).requested ≡ true → says_requested t word ≡ true
      by_source Scope is q =
          ap (λ t. (source_read (slice_index s.words (index f.layout (spot_of t)))).requested) is ∙ q
      by_source (Node x) is q =
          either (is_live now x)
          (λ live.
          let l = lives now x live in
          let own : (now.source x.block x.node).requested ≡ true =
          ap (λ b. b.requested) (sym (cond-true (is_live now x) (now.source x.block x.node) clear live)) ∙ q in
          let block = blocks x.block in
          either (is_said block word)
          (λ said.
          let parts = and_parts (not (is_retired block.state)) (stamp_of word == block.generation) said in
          let read : (source_read word).requested ≡ true =
          ap (λ b. b.requested) (sym (cond-true (is_said block word) (source_read word) clear said)) ∙ ap (λ b. b.requested) (sym (shows x is)) ∙ own in
          and_from _ _ (eq-eqb (stamp_of word) x.generation (eqb-true _ _ parts.1 ∙ sym l.generation)) read)
          (λ unsaid.
          absurd (both_ways true
          (sym own ∙ ap (λ b. b.requested) (shows x is ∙ cond-false (is_said block word) (source_read word) clear unsaid)) refl)))
          (λ dead.
          absurd (both_ways true
          (sym q ∙ ap (λ b. b.requested) (cond-false (is_live now x) (now.source x.block x.node) clear dead)) refl))

  module _ (id : ℕ) (after : Option Name) (v : View P E) (at : get_elem? s.views id ≡ some v) (may : MayLookAfter f.tree v source after) where
    abbrev requested : Bool
    requested = says_requested source word

    abbrev pub mine : View P E
    mine = logged (index f.layout (spot_of source)) word (sees source after requested v)

    -- the views that the table shows after the look
    abbrev pub views : ℕ → PureView
    views = view_at blocks (set s.views id mine)

    -- what is so of the hand that looks, and of each that stays, is so of all
    by-hand : (R : PureView → PureView → Type 0) → R (shown_view blocks v) (shown_view blocks mine) →
        ((h : ℕ) → R (now.view h) (now.view h)) → (h : ℕ) → R (now.view h) (views h)
    by-hand R here other h =
        either (h == id)
        (λ t.
        let before : now.view h ≡ shown_view blocks v = ap now.view (eqb-true h id t) ∙ view-here blocks s.views id v at in
        let later : views h ≡ shown_view blocks mine =
        view-set blocks s.views id v mine at h ∙ cond-true (h == id) (shown_view blocks mine) (now.view h) t in
        subst (λ (z : PureView × PureView). R z.0 z.1) (λ k. (sym before k, sym later k)) here)
        (λ ne.
        let later : views h ≡ now.view h =
        view-set blocks s.views id v mine at h ∙ cond-false (h == id) (shown_view blocks mine) (now.view h) ne in
        subst (R (now.view h)) (sym later) (other h))

    pub same-doings : (h : ℕ) → SameDoings (now.view h) (views h)
    same-doings = by-hand SameDoings refl (λ _. refl)

    -- a request that a view has seen stands
    seen-stands : (h : ℕ) (t : SourceRef) → h < f.hands → (views h).seen t ≡ true → (bits_at now t).requested ≡ true
    seen-stands h t l e =
        elim (by-hand (λ a b. b.seen t ≡ true → (a.seen t ≡ true) ⊎ ((bits_at now t).requested ≡ true)) newly (λ _ k. inl k) h e) [
          | inl before ↦ r.stands.sound.requests.seen h t l before
          | inr stands ↦ stands
        ]
      where
        newly : (has_source_ref mine.seen t && is_present_source blocks t) ≡ true →
            ((has_source_ref v.seen t && is_present_source blocks t) ≡ true) ⊎ ((bits_at now t).requested ≡ true)
        newly e =
            let parts = and_parts (has_source_ref mine.seen t) (is_present_source blocks t) e in
            either requested
            (λ reads.
            elim (or_cases (same_source source t) (has_source_ref v.seen t)
            (ap (λ l. has_source_ref l t) (sym (cond-true requested (source ∷ v.seen) v.seen reads)) ∙ parts.0)) [
              | inl here ↦
                  let is = same_source-true source t here in
                  inr (subst (λ z. (bits_at now z).requested ≡ true) is
                  (read-stands (subst (λ z. is_present_source blocks z ≡ true) (sym is) parts.1) reads))
              | inr had ↦ inl (and_from (has_source_ref v.seen t) (is_present_source blocks t) had parts.1)
            ])
            (λ unread.
            inl (and_from (has_source_ref v.seen t) (is_present_source blocks t)
            (ap (λ l. has_source_ref l t) (sym (cond-false requested (source ∷ v.seen) v.seen unread)) ∙ parts.0) parts.1))

    -- what a view notes of a place it noted before
    noted-before : (y : Name) → is_noted (shown_view blocks mine) y ≡ true → is_noted (shown_view blocks v) y ≡ true
    noted-before y e = by_place after refl may e
      where
        by_place : (a : Option Name) → after ≡ a → MayLookAfter f.tree v source a →
            ((has_name (unlooked_now a v.unlooked) y && is_present blocks y) || (has_name (seen_after_now a requested v.seen_after) y && is_present blocks y)) ≡ true →
            is_noted (shown_view blocks v) y ≡ true
        by_place None is m h = h
        by_place (Some x) is m h =
            elim (or_cases _ _ h) [
              | inl unlooked ↦
                  let parts = and_parts _ _ unlooked in
                  or_left (has_name v.unlooked y && is_present blocks y) (has_name v.seen_after y && is_present blocks y)
                  (and_from _ _ (but-had x y v.unlooked parts.0) parts.1)
              | inr seen ↦
                  let parts = and_parts _ _ seen in
                  let kept : has_name v.seen_after y ≡ true → is_noted (shown_view blocks v) y ≡ true =
                  λ had. or_right (has_name v.unlooked y && is_present blocks y) (has_name v.seen_after y && is_present blocks y) (and_from _ _ had parts.1) in
                  either requested
                  (λ reads.
                  elim (or_cases (same x y) (has_name v.seen_after y)
                  (ap (λ l. has_name l y) (sym (cond-true requested (x ∷ v.seen_after) v.seen_after reads)) ∙ parts.0)) [
                    | inl here ↦
                        or_left (has_name v.unlooked y && is_present blocks y) (has_name v.seen_after y && is_present blocks y)
                        (and_from _ _ (subst (λ z. has_name v.unlooked z ≡ true) (same-true x y here) m.unlooked) parts.1)
                    | inr had ↦ kept had
                  ])
                  (λ unread. kept (ap (λ l. has_name l y) (sym (cond-false requested (x ∷ v.seen_after) v.seen_after unread)) ∙ parts.0))
            ]

    noted-stands : (h : ℕ) (y : Name) → h < f.hands → is_noted (views h) y ≡ true → is_never (phase_at now y) ≡ false
    noted-stands h y l e =
        r.stands.sound.requests.noted h y l
        (by-hand (λ a b. is_noted b y ≡ true → is_noted a y ≡ true) (noted-before y) (λ _ n. n) h e)

    -- a place that a scan has passed, and that a view noted, it still notes
    noted-still : (y : Name) (t : SourceRef) → nearest_of now y ≡ Some t → (bits_at now t).requested ≡ true →
        is_noted (shown_view blocks v) y ≡ true → is_noted (shown_view blocks mine) y ≡ true
    noted-still y t near stands e = by_place after refl may
      where
        by_place : (a : Option Name) → after ≡ a → MayLookAfter f.tree v source a →
            ((has_name (unlooked_now a v.unlooked) y && is_present blocks y) || (has_name (seen_after_now a requested v.seen_after) y && is_present blocks y)) ≡ true
        by_place None is m = e
        by_place (Some x) is m =
            let left = has_name (but_for x v.unlooked) y && is_present blocks y in
            let right = has_name (seen_after_now (Some x) requested v.seen_after) y && is_present blocks y in
            elim (or_cases _ _ e) [
              | inl unlooked ↦
                  let parts = and_parts (has_name v.unlooked y) (is_present blocks y) unlooked in
                  either (same x y)
                  (λ here.
                  let at_x : nearest_of now y ≡ Some source =
                  subst (λ z. nearest_of now z ≡ Some source) (same-true x y here) m.nearest_is in
                  let is : t ≡ source = same_Some t source (sym near ∙ at_x) in
                  let reads = stands-read (subst (λ z. (bits_at now z).requested ≡ true) is stands) in
                  or_right left right
                  (and_from _ _
                  (ap (λ l. has_name l y) (cond-true requested (x ∷ v.seen_after) v.seen_after reads)
                  ∙ or_left (same x y) (has_name v.seen_after y) here)
                  parts.1))
                  (λ other.
                  or_left left right
                  (and_from _ _
                  (but-has x y v.unlooked
                  (λ is. both_ways (same x y) other (subst (λ z. same x z ≡ true) (sym is) (same-refl x)))
                  parts.0)
                  parts.1))
              | inr seen ↦
                  let parts = and_parts (has_name v.seen_after y) (is_present blocks y) seen in
                  or_right left right
                  (and_from _ _
                  (either requested
                  (λ reads.
                  ap (λ l. has_name l y) (cond-true requested (x ∷ v.seen_after) v.seen_after reads)
                  ∙ or_right (same x y) (has_name v.seen_after y) parts.0)
                  (λ unread.
                  ap (λ l. has_name l y) (cond-false requested (x ∷ v.seen_after) v.seen_after unread) ∙ parts.0))
                  parts.1)
            ]

    missed-none : (y : Name) (t : SourceRef) → nearest_of now y ≡ Some t → is_armed (phase_at now y) ≡ true →
        WasPassed now t y → IsNoted (record now { view = views }) y
    missed-none y t near armed passed =
        let stands = passed-requested now t y r.stands.sound.scans passed in
        let n : IsNoted now y = r.stands.sound.missed y t near armed passed in (
          n.0,
          n.1,
          by-hand (λ a b. is_noted a y ≡ true → is_noted b y ≡ true) (noted-still y t near stands) (λ _ k. k) n.0 n.2,
        )

    -- the state that the table shows after the look is sound
    pub look-sound : Sound (record now { view = views })
    look-sound = sound-noted now views r.stands.sound same-doings seen-stands noted-stands missed-none

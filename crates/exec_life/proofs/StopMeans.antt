-- What the writes of a stop step mean: the state after the step.
use Rattle.std.proofs.Common.{◌≡◌, ℕ, Bool, true, false, not, ◌&&◌, ◌||◌, Option, Some, None, refl, sym, ap, ◌∙◌, subst, set}
use Rattle.std.specs.Option.{option_map_or}
use Rattle.std.specs.Prelude.{if◌then◌else◌}
use Rattle.std.proofs.lemmas.Bool.{and_parts, cond-true, cond-false}
use Rattle.std.proofs.Math.Bool.{or-true, or-false}
use Rattle.life_rules.specs.declared.event.Place.{Place}
use Rattle.life_rules.specs.declared.event.SourceAt.{SourceAt}
use Rattle.life_rules.specs.declared.event.SourceAt.TheVariants.{Scope as AtScope, At}
use Rattle.life_rules.specs.declared.event.SourceRef.{SourceRef}
use Rattle.life_rules.specs.declared.words.Bits.{Bits}
use Rattle.life_rules.specs.declared.words.CallbackPhase.{CallbackPhase}
use Rattle.life_rules.specs.declared.words.CallbackPhase.TheVariants.{Armed, Removed}
use Rattle.life_rules.specs.States.{State, is_place, name_at, phase_at, bits_at, nearest_of, with_view, with_callback}
use Rattle.life_rules.specs.StopSteps.{source_of, is_source, after_arm, after_look, after_request, after_withdraw, is_scope}
use Rattle.life_rules.specs.Views.{View, mark, note, scan_at}
use Rattle.life_rules.specs.Words.{is_armed}
use Rattle.exec_life.specs.Parts.{Means}
use Rattle.exec_life.specs.StateLists.{StateLists, machine, view_of, generations, IsState}
use Rattle.exec_life.specs.ViewLists.{ViewLists, KnowsSource, seen_in}
use Rattle.exec_life.specs.ViewWrites.{SetsUnlooked, LooksAfter, SetsSeen, BeginsScan}
use Rattle.exec_life.specs.WordLists.{WordLists}
use Rattle.exec_life.specs.WordWrites.{SetsCallback, SetsSource}
use Rattle.exec_life.proofs.Cases.{turned_source, turned-note}
use Rattle.exec_life.proofs.Puts.{HasView, SameBlocks, blocks-stay, after_put, put-means, view-means, words-means, knows-place, still-knows}
use Rattle.exec_life.proofs.SameCells.{SameCells}
use Rattle.exec_life.proofs.StateMeans.{view-is, means-callback, means-source}
use Rattle.exec_life.proofs.ViewMeans.{source_named, means-unlooked, means-look_after, means-seen, means-begin_scan, seen-here, source-rest, begin-rest}

pub callback-blocks : (old new : WordLists) (b n : ℕ) (phase : CallbackPhase) → SetsCallback old new b n phase →
    SameBlocks old new
callback-blocks old new b n phase set =
    blocks-stay old new (ap (λ (u : WordLists). u.blocks) set.rest) (ap (λ (u : WordLists). u.nodes) set.rest)

pub source-blocks : (old new : WordLists) (source : SourceAt) (bits : Bits) → SetsSource old new source bits →
    SameBlocks old new
source-blocks old new AtScope bits set =
    blocks-stay old new (ap (λ (u : WordLists). u.blocks) set) (ap (λ (u : WordLists). u.nodes) set)
source-blocks old new (At p) bits set =
    blocks-stay old new (ap (λ (u : WordLists). u.blocks) set.rest) (ap (λ (u : WordLists). u.nodes) set.rest)

-- a source by its place is the source at its block's generation
pub source-is : (d : StateLists) (source : SourceAt) →
    source_named (generations d.words) source ≡ source_of (machine d) source
source-is d AtScope = refl
source-is d (At p) = refl

pub knows-source : (d : StateLists) (h : ℕ) (v : ViewLists) (source : SourceAt) → HasView d h v →
    is_source (machine d) source ≡ true → KnowsSource v source
knows-source d h v AtScope has there = tt
knows-source d h v (At p) has there = knows-place d h v p has (and_parts (is_place (machine d) p) _ there).0

pub knows-still : (old new : ViewLists) (source : SourceAt) → SameCells old new → KnowsSource old source →
    KnowsSource new source
knows-still old new AtScope cells knows = tt
knows-still old new (At p) cells knows = still-knows old new p cells knows

-- the view that noted what was read on a source
abbrev pub noted : SourceRef → Bool → View → View
noted source read u = record u { seen = note source read u.seen }

pub note-means : (d : StateLists) (h : ℕ) (v new : ViewLists) (source : SourceAt) (read : Bool) → HasView d h v →
    SetsSeen v new source (seen_in v source || read) →
    view_of (generations d.words) new ≡ noted (source_of (machine d) source) read ((machine d).view h)
note-means d h v new source read has set =
    let present = generations d.words in
    let u = view_of present v in
    let t = source_named present source in
    let e : turned_source t (seen_in v source || read) u.seen ≡ note t read u.seen =
    ap (λ k. turned_source t (k || read) u.seen) (sym (seen-here present v source)) ∙ turned-note t read u.seen in
    means-seen present v new source (seen_in v source || read) set (note t read u.seen) e
    ∙ (λ i. noted (source-is d source i) read (sym (view-is d h v has.view_is) i))

pub see-means : (d : StateLists) (h : ℕ) (v new : ViewLists) (source : SourceAt) → HasView d h v →
    SetsSeen v new source true →
    view_of (generations d.words) new ≡ noted (source_of (machine d) source) true ((machine d).view h)
see-means d h v new source has set =
    note-means d h v new source true has
    (subst (λ b. SetsSeen v new source b) (sym (or-true (seen_in v source))) set)

module _ (d : StateLists) (h : ℕ) (v new : ViewLists) (has : HasView d h v) where
  pub arm-means : (w : WordLists) (p : Place) → SetsCallback d.words w p.block p.node Armed →
      SetsUnlooked v new p.block p.node true → Means (after_put d w h new) (after_arm (machine d) h p)
  arm-means w p set_word set_view =
      let s = machine d in
      let change : View → View = λ u. record u { unlooked = mark (name_at s p) true u.unlooked } in
      put-means d w h v new _ (change (s.view h)) has (callback-blocks d.words w p.block p.node Armed set_word)
      (record { blocks = ap (λ (u : ViewLists). u.blocks) set_view.rest; nodes = ap (λ (u : ViewLists). u.nodes) set_view.rest })
      (means-callback d w p.block p.node Armed set_word)
      (means-unlooked (generations d.words) v new p.block p.node true set_view
      ∙ ap change (sym (view-is d h v has.view_is)))

  pub look-means : (source : SourceAt) (read : Bool) →
      read ≡ (bits_at (machine d) (source_of (machine d) source)).requested →
      SetsSeen v new source (seen_in v source || read) →
      Means (record d { views = set d.views h new }) (after_look (machine d) h source None)
  look-means source read reads set_view =
      let s = machine d in
      view-means d h v new _ has (source-rest v new source _ set_view)
      (note-means d h v new source read has set_view ∙ ap (λ b. noted (source_of s source) b (s.view h)) reads)

  pub look_after-means : (last : ViewLists) (source : SourceAt) (p : Place) (read : Bool) →
      read ≡ (bits_at (machine d) (source_of (machine d) source)).requested →
      SetsSeen v new source (seen_in v source || read) → LooksAfter new last p read →
      Means (record d { views = set d.views h last }) (after_look (machine d) h source (Some p))
  look_after-means last source p read reads set_seen set_last =
      let s = machine d in
      let x = name_at s p in
      let change : Bool → View → View = λ b u. record u {
        unlooked = mark x false u.unlooked;
        seen_after = mark x (u.seen_after x || b) u.seen_after;
      } in
      let first = source-rest v new source _ set_seen in
      view-means d h v last _ has
      (record {
        blocks = ap (λ (u : ViewLists). u.blocks) set_last.rest ∙ first.blocks;
        nodes = ap (λ (u : ViewLists). u.nodes) set_last.rest ∙ first.nodes;
      })
      (means-look_after (generations d.words) new last p read set_last
      ∙ ap (change read) (note-means d h v new source read has set_seen)
      ∙ ap (λ b. change b (noted (source_of s source) b (s.view h))) reads)

  -- the view after a request, where the request was new or not
  abbrev requested_view : SourceRef → Bool → View → View
  requested_view t is_new u =
      record u {
        seen = note t true u.seen;
        scan = if is_new then scan_at t (Some 0) u.scan else u.scan;
        requested = u.requested || (is_new && is_scope t);
      }

  pub request_again-means : (w : WordLists) (source : SourceAt) (failure : Bool) →
      (bits_at (machine d) (source_of (machine d) source)).requested ≡ true → SetsSeen v new source true →
      SetsSource d.words w source
      (record (bits_at (machine d) (source_of (machine d) source)) {
        requested = true;
        failed = (bits_at (machine d) (source_of (machine d) source)).failed || failure;
      }) →
      Means (after_put d w h new) (after_request (machine d) h source failure)
  request_again-means w source failure was set_view set_word =
      let s = machine d in
      let t = source_of s source in
      let u = s.view h in
      let seen : View = noted t true u in
      let old : seen ≡ requested_view t (not (bits_at s t).requested) u =
      (λ i. record seen { requested = sym (or-false u.requested) i })
      ∙ ap (λ b. requested_view t (not b) u) (sym was) in
      put-means d w h v new _ _ has (source-blocks d.words w source _ set_word)
      (source-rest v new source true set_view) (means-source d w source _ set_word)
      (see-means d h v new source has set_view ∙ old)

  pub request-means : (w : WordLists) (last : ViewLists) (source : SourceAt) (failure : Bool) →
      (bits_at (machine d) (source_of (machine d) source)).requested ≡ false → SetsSeen v new source true →
      BeginsScan new last source →
      SetsSource d.words w source
      (record (bits_at (machine d) (source_of (machine d) source)) {
        requested = true;
        failed = (bits_at (machine d) (source_of (machine d) source)).failed || failure;
      }) →
      Means (after_put d w h last) (after_request (machine d) h source failure)
  request-means w last source failure was set_view set_scan set_word =
      let s = machine d in
      let t = source_of s source in
      let u = s.view h in
      let change : SourceRef → View → View = λ k z. record z {
        scan = scan_at k (Some 0) z.scan;
        requested = z.requested || is_scope k;
      } in
      let first = source-rest v new source true set_view in
      let second = begin-rest new last source set_scan in
      put-means d w h v last _ _ has (source-blocks d.words w source _ set_word)
      (record { blocks = second.blocks ∙ first.blocks; nodes = second.nodes ∙ first.nodes })
      (means-source d w source _ set_word)
      (means-begin_scan (generations d.words) new last source set_scan
      ∙ (λ i. change (source-is d source i) (see-means d h v new source has set_view i))
      ∙ ap (λ b. requested_view t (not b) u) (sym was))

  pub withdraw_seen-means : (source : SourceAt) (p : Place) → is_armed (phase_at (machine d) (name_at (machine d) p)) ≡ false →
      nearest_of (machine d) (name_at (machine d) p) ≡ Some (source_of (machine d) source) →
      SetsSeen v new source true →
      Means (record d { views = set d.views h new }) (after_withdraw (machine d) h p)
  withdraw_seen-means source p off near set_view =
      let s = machine d in
      let x = name_at s p in
      let u = s.view h in
      let past : Option SourceRef → State = λ o.
      with_view s h (record u { seen = option_map_or (λ t. note t true u.seen) o u.seen }) in
      let e : after_withdraw s h p ≡ past (Some (source_of s source)) =
      cond-false (is_armed (phase_at s x)) (with_callback s p.block p.node Removed) (past (nearest_of s x)) off
      ∙ ap past near in
      subst (λ t. Means (record d { views = set d.views h new }) t) (sym e)
      (view-means d h v new _ has (source-rest v new source true set_view) (see-means d h v new source has set_view))

-- an armed callback is removed
pub withdraw-means : (d : StateLists) (h : ℕ) (w : WordLists) (p : Place) → IsState d →
    is_armed (phase_at (machine d) (name_at (machine d) p)) ≡ true →
    SetsCallback d.words w p.block p.node Removed →
    Means (record d { words = w }) (after_withdraw (machine d) h p)
withdraw-means d h w p state on set_word =
    let s = machine d in
    let e : after_withdraw s h p ≡ with_callback s p.block p.node Removed =
    cond-true (is_armed (phase_at s (name_at s p))) (with_callback s p.block p.node Removed) _ on in
    subst (λ t. Means (record d { words = w }) t) (sym e)
    (words-means d w _ state (callback-blocks d.words w p.block p.node Removed set_word)
    (means-callback d w p.block p.node Removed set_word))

-- What the writes of a scan's step mean: the state after the step.
use Rattle.std.proofs.Common.{◌≡◌, ℕ, ◌+◌, ◌*◌, Bool, true, false, Option, Some, None, sym, ap, ◌∙◌, subst, set, arith}
use Rattle.std.specs.Option.{option_map_or}
use Rattle.std.proofs.lemmas.Bool.{cond-true, cond-false}
use Rattle.life_rules.specs.declared.event.Place.{Place}
use Rattle.life_rules.specs.declared.event.SourceAt.{SourceAt}
use Rattle.life_rules.specs.declared.event.SourceAt.TheVariants.{Scope as AtScope}
use Rattle.life_rules.specs.declared.event.SourceRef.{SourceRef}
use Rattle.life_rules.specs.declared.event.SourceRef.TheVariants.{Scope}
use Rattle.life_rules.specs.declared.words.CallbackPhase.{CallbackPhase}
use Rattle.life_rules.specs.declared.words.CallbackPhase.TheVariants.{Running}
use Rattle.life_rules.specs.Scans.{index}
use Rattle.life_rules.specs.States.{size, name_at, phase_at, bits_at, nearest_of, with_view, with_callback}
use Rattle.life_rules.specs.StopSteps.{source_of, after_run, passed, after_seal_scan, after_skip}
use Rattle.life_rules.specs.Views.{View, gain, lose, scan_at}
use Rattle.common_lemmas.specs.Sums.{one}
use Rattle.life_rules.specs.Words.{is_armed}
use Rattle.common_lemmas.proofs.Bool.{one-most}
use Rattle.exec_life.specs.Parts.{Means, after_run_over}
use Rattle.exec_life.specs.StateLists.{StateLists, machine, view_of, generations}
use Rattle.exec_life.specs.ViewLists.{ViewLists, runs_in}
use Rattle.exec_life.specs.ViewWrites.{SetsRuns, SetsScan}
use Rattle.exec_life.specs.WordLists.{WordLists}
use Rattle.exec_life.specs.WordWrites.{SetsCallback, SetsSource}
use Rattle.exec_life.proofs.Cases.{said-here, turned-gain, turned-lose}
use Rattle.exec_life.proofs.Puts.{HasView, after_put, put-means, view-means}
use Rattle.exec_life.proofs.SameCells.{SameCells}
use Rattle.exec_life.proofs.StateMeans.{view-is, means-callback, means-source}
use Rattle.exec_life.proofs.StopMeans.{callback-blocks, source-blocks, source-is}
use Rattle.exec_life.proofs.ViewMeans.{means-runs, means-scan, scan-rest}

pub runs-rest : (old new : ViewLists) (b n : ℕ) (runs : Bool) → SetsRuns old new b n runs → SameCells old new
runs-rest old new b n runs set =
    record { blocks = ap (λ (u : ViewLists). u.blocks) set.rest; nodes = ap (λ (u : ViewLists). u.nodes) set.rest }

-- the view whose scan of this source stands there
abbrev pub scanned : SourceRef → Option ℕ → View → View
scanned source i u = record u { scan = scan_at source i u.scan }

pub scan-means : (d : StateLists) (v new : ViewLists) (source : SourceAt) (i : Option ℕ) → SetsScan v new source i →
    view_of (generations d.words) new ≡ scanned (source_of (machine d) source) i (view_of (generations d.words) v)
scan-means d v new source i set =
    means-scan (generations d.words) v new source i set
    ∙ ap (λ t. scanned t i (view_of (generations d.words) v)) (source-is d source)

module _ (d : StateLists) (h : ℕ) (v new : ViewLists) (has : HasView d h v) where
  pub run-means : (w : WordLists) (source : SourceAt) (p : Place) →
      is_armed (phase_at (machine d) (name_at (machine d) p)) ≡ true →
      ((machine d).view h).runs (name_at (machine d) p) ≡ 0 →
      SetsCallback d.words w p.block p.node Running → SetsRuns v new p.block p.node true →
      Means (after_put d w h new) (after_run (machine d) h source p)
  run-means w source p on none set_word set_view =
      let s = machine d in
      let x = name_at s p in
      let present = generations d.words in
      let change : View → View = λ u. record u { runs = gain x u.runs } in
      let here = view-is d h v has.view_is in
      let first : (view_of present v).runs x ≡ 0 = ap (λ (u : View). u.runs x) (sym here) ∙ none in
      let e : after_run s h source p ≡ with_view (with_callback s p.block p.node Running) h (change (s.view h)) =
      cond-true (is_armed (phase_at s x)) _ _ on in
      subst (λ t. Means (after_put d w h new) t) (sym e)
      (put-means d w h v new _ _ has (callback-blocks d.words w p.block p.node Running set_word)
      (runs-rest v new p.block p.node true set_view) (means-callback d w p.block p.node Running set_word)
      (means-runs present v new p.block p.node true set_view (gain x (view_of present v).runs)
      (turned-gain x 1 (view_of present v).runs (omega (arith, first)))
      ∙ ap change (sym here)))

  pub pass-means : (source : SourceAt) (p : Place) (i : ℕ) →
      is_armed (phase_at (machine d) (name_at (machine d) p)) ≡ false →
      i ≡ index (machine d) (name_at (machine d) p) + 1 → SetsScan v new source (Some i) →
      Means (record d { views = set d.views h new }) (after_run (machine d) h source p)
  pass-means source p i off number set_view =
      let s = machine d in
      let x = name_at s p in
      let e : after_run s h source p ≡ with_view s h (passed s (source_of s source) x (s.view h)) =
      cond-false (is_armed (phase_at s x)) _ _ off in
      subst (λ t. Means (record d { views = set d.views h new }) t) (sym e)
      (view-means d h v new _ has (scan-rest v new source (Some i) set_view)
      (scan-means d v new source (Some i) set_view
      ∙ (λ t. scanned (source_of s source) (Some (number t)) (sym (view-is d h v has.view_is) t))))

  -- the view that no longer runs the place
  left-means : (p : Place) → SetsRuns v new p.block p.node false →
      view_of (generations d.words) new
      ≡ record ((machine d).view h) { runs = lose (name_at (machine d) p) ((machine d).view h).runs }
  left-means p set_view =
      let s = machine d in
      let x = name_at s p in
      let present = generations d.words in
      let change : View → View = λ u. record u { runs = lose x u.runs } in
      let runs : (view_of present v).runs x ≡ one (runs_in v p.block p.node) =
      said-here present 0 (λ i j. one (runs_in v i j)) p.block p.node in
      means-runs present v new p.block p.node false set_view (lose x (view_of present v).runs)
      (turned-lose x 0 (view_of present v).runs (omega (arith, runs, one-most (runs_in v p.block p.node))))
      ∙ ap change (sym (view-is d h v has.view_is))

  over : (p : Place) (phase : CallbackPhase) (near : Option SourceRef) →
      nearest_of (machine d) (name_at (machine d) p) ≡ near →
      after_run_over (machine d) h p phase
      ≡ with_view (with_callback (machine d) p.block p.node phase) h
      (option_map_or (λ t. passed (machine d) t (name_at (machine d) p)
      (record ((machine d).view h) { runs = lose (name_at (machine d) p) ((machine d).view h).runs })) near
      (record ((machine d).view h) { runs = lose (name_at (machine d) p) ((machine d).view h).runs }))
  over p phase near e =
      let s = machine d in
      let x = name_at s p in
      let left : View = record (s.view h) { runs = lose x (s.view h).runs } in
      ap (λ o. with_view (with_callback s p.block p.node phase) h (option_map_or (λ t. passed s t x left) o left)) e

  pub leave_alone-means : (w : WordLists) (p : Place) (phase : CallbackPhase) →
      nearest_of (machine d) (name_at (machine d) p) ≡ None → SetsCallback d.words w p.block p.node phase →
      SetsRuns v new p.block p.node false → Means (after_put d w h new) (after_run_over (machine d) h p phase)
  leave_alone-means w p phase near set_word set_view =
      subst (λ t. Means (after_put d w h new) t) (sym (over p phase None near))
      (put-means d w h v new _ _ has (callback-blocks d.words w p.block p.node phase set_word)
      (runs-rest v new p.block p.node false set_view) (means-callback d w p.block p.node phase set_word)
      (left-means p set_view))

  pub leave-means : (w : WordLists) (last : ViewLists) (source : SourceAt) (p : Place) (phase : CallbackPhase) (i : ℕ) →
      nearest_of (machine d) (name_at (machine d) p) ≡ Some (source_of (machine d) source) →
      i ≡ index (machine d) (name_at (machine d) p) + 1 → SetsCallback d.words w p.block p.node phase →
      SetsRuns v new p.block p.node false → SetsScan new last source (Some i) →
      Means (after_put d w h last) (after_run_over (machine d) h p phase)
  leave-means w last source p phase i near number set_word set_view set_scan =
      let s = machine d in
      let first = runs-rest v new p.block p.node false set_view in
      let second = scan-rest new last source (Some i) set_scan in
      subst (λ t. Means (after_put d w h last) t) (sym (over p phase (Some (source_of s source)) near))
      (put-means d w h v last _ _ has (callback-blocks d.words w p.block p.node phase set_word)
      (record { blocks = second.blocks ∙ first.blocks; nodes = second.nodes ∙ first.nodes })
      (means-callback d w p.block p.node phase set_word)
      (scan-means d new last source (Some i) set_scan
      ∙ (λ t. scanned (source_of s source) (Some (number t)) (left-means p set_view t))))

  pub seal_scan-means : (w : WordLists) (source : SourceAt) →
      SetsSource d.words w source
      (record (bits_at (machine d) (source_of (machine d) source)) { scanned = true }) →
      SetsScan v new source None → Means (after_put d w h new) (after_seal_scan (machine d) h source)
  seal_scan-means w source set_word set_view =
      let s = machine d in
      put-means d w h v new _ _ has (source-blocks d.words w source _ set_word)
      (scan-rest v new source None set_view) (means-source d w source _ set_word)
      (scan-means d v new source None set_view
      ∙ ap (scanned (source_of s source) None) (sym (view-is d h v has.view_is)))

  pub skip-means : (b i : ℕ) → i ≡ (b + 1) * size (machine d) → SetsScan v new AtScope (Some i) →
      Means (record d { views = set d.views h new }) (after_skip (machine d) h b)
  skip-means b i number set_view =
      view-means d h v new _ has (scan-rest v new AtScope (Some i) set_view)
      (scan-means d v new AtScope (Some i) set_view
      ∙ (λ t. scanned Scope (Some (number t)) (sym (view-is d h v has.view_is) t)))

-- A view's scans after one of them went on, began or ended.
use Rattle.std.proofs.Common.{◌≡◌, ℕ, true, false, List, [], ◌∷◌, sym, ap, ◌∙◌, subst}
use Rattle.std.specs.Prelude.{Some, None}
use Rattle.std.proofs.lemmas.Bool.{both_ways, cond-true, cond-false}
use Rattle.life_rules.specs.declared.event.SourceRef.{SourceRef}
use Rattle.life_rules.specs.Views.{same_source, scan_at}
use Rattle.common_lemmas.proofs.Bool.{either, both-same}
use Rattle.life_rules.proofs.Names.{same_source-refl, same_source-true}
use Rattle.table_rules.specs.declared.view.Scanning.{Scanning}
use Rattle.table_rules.specs.ShownViews.{scan_in}
use Rattle.table_steps.specs.RunEnds.{passes_to}
use Rattle.table_steps.specs.ScanSeals.{drops}

module _ (source : SourceRef) (next : ℕ) where
  -- the scan of the source goes on from there, the others as before
  pub scan-passed : (l : List Scanning) (i : ℕ) → scan_in l source ≡ Some i → (t : SourceRef) →
      scan_in (passes_to source next l) t ≡ scan_at source (Some next) (scan_in l) t
  scan-passed [] i at t = cc
  scan-passed (a ∷ l) i at t =
      either (same_source a.source source)
      (λ is.
      let same : a.source ≡ source = same_source-true a.source source is in
      ap (λ z. scan_in z t) (cond-true (same_source a.source source) (record { source = a.source; next = next } ∷ l) (a ∷ passes_to source next l) is)
      ∙ either (same_source a.source t)
      (λ hit.
      let here : same_source source t ≡ true = ap (λ z. same_source z t) (sym same) ∙ hit in
      cond-true (same_source a.source t) (Some next) (scan_in l t) hit
      ∙ sym (cond-true (same_source source t) (Some next) (scan_in (a ∷ l) t) here))
      (λ miss.
      let there : same_source source t ≡ false = ap (λ z. same_source z t) (sym same) ∙ miss in
      cond-false (same_source a.source t) (Some next) (scan_in l t) miss
      ∙ sym (cond-false (same_source source t) (Some next) (scan_in (a ∷ l) t) there
      ∙ cond-false (same_source a.source t) (Some a.next) (scan_in l t) miss)))
      (λ other.
      let more : scan_in l source ≡ Some i = sym (cond-false (same_source a.source source) (Some a.next) (scan_in l source) other) ∙ at in
      ap (λ z. scan_in z t) (cond-false (same_source a.source source) (record { source = a.source; next = next } ∷ l) (a ∷ passes_to source next l) other)
      ∙ either (same_source a.source t)
      (λ hit.
      let is : a.source ≡ t = same_source-true a.source t hit in
      let apart : same_source source t ≡ false =
      either (same_source source t)
      (λ e. absurd (both_ways (same_source a.source source) other
      (subst (λ z. same_source a.source z ≡ true) (is ∙ sym (same_source-true source t e)) (same_source-refl a.source))))
      (λ no. no) in
      cond-true (same_source a.source t) (Some a.next) (scan_in (passes_to source next l) t) hit
      ∙ sym (cond-false (same_source source t) (Some next) (scan_in (a ∷ l) t) apart
      ∙ cond-true (same_source a.source t) (Some a.next) (scan_in l t) hit))
      (λ miss.
      cond-false (same_source a.source t) (Some a.next) (scan_in (passes_to source next l) t) miss
      ∙ scan-passed l i more t
      ∙ ap (λ o. scan_at source (Some next) (λ _. o) t) (sym (cond-false (same_source a.source t) (Some a.next) (scan_in l t) miss))))

module _ (source : SourceRef) where
  -- the view no longer scans the source, and makes the other scans as before
  pub scan-dropped : (l : List Scanning) (t : SourceRef) → scan_in (drops source l) t ≡ scan_at source None (scan_in l) t
  scan-dropped [] t = sym (both-same (same_source source t) None)
  scan-dropped (a ∷ l) t =
      either (same_source a.source source)
      (λ is.
      let same : a.source ≡ source = same_source-true a.source source is in
      ap (λ z. scan_in z t) (cond-true (same_source a.source source) (drops source l) (a ∷ drops source l) is)
      ∙ scan-dropped l t
      ∙ either (same_source source t)
      (λ hit.
      cond-true (same_source source t) None (scan_in l t) hit
      ∙ sym (cond-true (same_source source t) None (scan_in (a ∷ l) t) hit))
      (λ miss.
      let other : same_source a.source t ≡ false = ap (λ z. same_source z t) same ∙ miss in
      cond-false (same_source source t) None (scan_in l t) miss
      ∙ sym (cond-false (same_source source t) None (scan_in (a ∷ l) t) miss
      ∙ cond-false (same_source a.source t) (Some a.next) (scan_in l t) other)))
      (λ apart.
      ap (λ z. scan_in z t) (cond-false (same_source a.source source) (drops source l) (a ∷ drops source l) apart)
      ∙ either (same_source a.source t)
      (λ hit.
      let is : a.source ≡ t = same_source-true a.source t hit in
      let other : same_source source t ≡ false =
      either (same_source source t)
      (λ e. absurd (both_ways (same_source a.source source) apart
      (subst (λ z. same_source a.source z ≡ true) (is ∙ sym (same_source-true source t e)) (same_source-refl a.source))))
      (λ no. no) in
      cond-true (same_source a.source t) (Some a.next) (scan_in (drops source l) t) hit
      ∙ sym (cond-false (same_source source t) None (scan_in (a ∷ l) t) other
      ∙ cond-true (same_source a.source t) (Some a.next) (scan_in l t) hit))
      (λ miss.
      cond-false (same_source a.source t) (Some a.next) (scan_in (drops source l) t) miss
      ∙ scan-dropped l t
      ∙ ap (λ o. scan_at source None (λ _. o) t) (sym (cond-false (same_source a.source t) (Some a.next) (scan_in l t) miss))))

-- What going on and a seal make of a hand's list of scans.
use Rattle.std.proofs.Common.{◌≡◌, ℕ, false, List, [], ◌∷◌, refl, sym, ap, ◌∙◌, arith}
use Rattle.std.specs.Prelude.{Some, None}
use Rattle.std.proofs.lemmas.Bool.{cond-true, cond-false}
use Rattle.life_rules.specs.declared.event.Name.{Name}
use Rattle.life_rules.specs.declared.event.SourceRef.{SourceRef}
use Rattle.life_rules.specs.declared.event.SourceRef.TheVariants.{Scope, Node}
use Rattle.life_rules.specs.Views.{same_source}
use Rattle.life_rules.proofs.Names.{same-other, same_source-refl}
use Rattle.common_lemmas.proofs.Bool.{either}
use Rattle.table_rules.specs.declared.view.Scanning.{Scanning}
use Rattle.table_rules.specs.ShownViews.{scan_in}
use Rattle.table_steps.specs.RunEnds.{passes_to}
use Rattle.table_steps.specs.ScanSeals.{drops}
use Rattle.stop_calls.specs.Nestings.{IsAbove, AreAbove, AreOuter, scan_at}

-- a scan that goes on from where it stands is as before
pub passes-same : (source : SourceRef) (at : ℕ) (l : List Scanning) → scan_in l source ≡ Some at → passes_to source at l ≡ l
passes-same source at [] is = refl
passes-same source at (a ∷ l) is =
    either (same_source a.source source)
    (λ t.
    let next : a.next ≡ at = let e = sym (cond-true (same_source a.source source) (Some a.next) (scan_in l source) t) ∙ is in cc in
    cond-true (same_source a.source source) (record { source = a.source; next = at } ∷ l) (a ∷ passes_to source at l) t
    ∙ ap (λ k. record { source = a.source; next = k } ∷ l) (sym next))
    (λ f.
    cond-false (same_source a.source source) (record { source = a.source; next = at } ∷ l) (a ∷ passes_to source at l) f
    ∙ ap (λ z. a ∷ z) (passes-same source at l (sym (cond-false (same_source a.source source) (Some a.next) (scan_in l source) f) ∙ is)))

-- a scan that went on stands there
pub scan-after : (source : SourceRef) (k i : ℕ) (l : List Scanning) → scan_in l source ≡ Some i →
    scan_in (passes_to source k l) source ≡ Some k
scan-after source k i [] at = cc
scan-after source k i (a ∷ l) at =
    either (same_source a.source source)
    (λ t.
    ap (λ z. scan_in z source) (cond-true (same_source a.source source) (record { source = a.source; next = k } ∷ l) (a ∷ passes_to source k l) t)
    ∙ cond-true (same_source a.source source) (Some k) (scan_in l source) t)
    (λ f.
    ap (λ z. scan_in z source) (cond-false (same_source a.source source) (record { source = a.source; next = k } ∷ l) (a ∷ passes_to source k l) f)
    ∙ cond-false (same_source a.source source) (Some a.next) (scan_in (passes_to source k l) source) f
    ∙ scan-after source k i l (sym (cond-false (same_source a.source source) (Some a.next) (scan_in l source) f) ∙ at))

-- where it went on twice the last counts
pub passes-twice : (source : SourceRef) (k at : ℕ) (l : List Scanning) → passes_to source k (passes_to source at l) ≡ passes_to source k l
passes-twice source k at [] = refl
passes-twice source k at (a ∷ l) =
    either (same_source a.source source)
    (λ t.
    ap (passes_to source k) (cond-true (same_source a.source source) (record { source = a.source; next = at } ∷ l) (a ∷ passes_to source at l) t)
    ∙ cond-true (same_source a.source source) (record { source = a.source; next = k } ∷ l) (record { source = a.source; next = at } ∷ passes_to source k l) t
    ∙ sym (cond-true (same_source a.source source) (record { source = a.source; next = k } ∷ l) (a ∷ passes_to source k l) t))
    (λ f.
    ap (passes_to source k) (cond-false (same_source a.source source) (record { source = a.source; next = at } ∷ l) (a ∷ passes_to source at l) f)
    ∙ cond-false (same_source a.source source) (record { source = a.source; next = k } ∷ passes_to source at l) (a ∷ passes_to source k (passes_to source at l)) f
    ∙ ap (λ z. a ∷ z) (passes-twice source k at l)
    ∙ sym (cond-false (same_source a.source source) (record { source = a.source; next = k } ∷ l) (a ∷ passes_to source k l) f))

-- and they are others
above-other : (x : Name) (s : SourceRef) → IsAbove x.node s → same_source s (Node x) ≡ false
above-other x Scope above = refl
above-other x (Node y) above =
    same-other y x (λ e. let is : y.node ≡ x.node = ap (λ (z : Name). z.node) e in absurd (omega (arith, is, above)))

-- so none of such scans is of the node's own source
pub above-none : (x : Name) (l : List Scanning) → AreAbove x.node l → scan_in l (Node x) ≡ None
above-none x [] above = refl
above-none x (s ∷ l) above =
    cond-false (same_source s.source (Node x)) (Some s.next) (scan_in l (Node x)) (above-other x s.source above.0) ∙ above-none x l above.1

pub above-drops : (x : Name) (l : List Scanning) → AreAbove x.node l → drops (Node x) l ≡ l
above-drops x [] above = refl
above-drops x (s ∷ l) above =
    cond-false (same_source s.source (Node x)) (drops (Node x) l) (s ∷ drops (Node x) l) (above-other x s.source above.0)
    ∙ ap (λ t. s ∷ t) (above-drops x l above.1)

-- the innermost scan
pub first-passes : (s : SourceRef) (j k : ℕ) (l : List Scanning) → passes_to s k (scan_at s j ∷ l) ≡ scan_at s k ∷ l
first-passes s j k l = cond-true (same_source s s) (scan_at s k ∷ l) (scan_at s j ∷ passes_to s k l) (same_source-refl s)

pub first-found : (s : SourceRef) (k : ℕ) (l : List Scanning) → scan_in (scan_at s k ∷ l) s ≡ Some k
first-found s k l = cond-true (same_source s s) (Some k) (scan_in l s) (same_source-refl s)

pub outer-drops : (s : SourceRef) (l : List Scanning) → AreOuter s l → drops s l ≡ l
outer-drops Scope l none = ap (drops Scope) none ∙ sym none
outer-drops (Node y) l above = above-drops y l above

pub first-drops : (s : SourceRef) (k : ℕ) (l : List Scanning) → AreOuter s l → drops s (scan_at s k ∷ l) ≡ l
first-drops s k l above =
    cond-true (same_source s s) (drops s l) (scan_at s k ∷ drops s l) (same_source-refl s) ∙ outer-drops s l above

-- What a view means that forgot a block: nothing of the block's names.
use Rattle.std.proofs.Common.{◌≡◌, ℕ, Bool, true, false, not, ◌&&◌, cond, Option, None, refl, sym, ap, ◌∙◌}
use Rattle.std.specs.Prelude.{◌==◌, if◌then◌else◌}
use Rattle.std.proofs.lemmas.Bool.{cond-true, cond-false, eqb-true}
use Rattle.std.proofs.Math.Bool.{and-true}
use Rattle.life_rules.specs.declared.event.Name.{Name}
use Rattle.life_rules.specs.declared.event.SourceRef.{SourceRef}
use Rattle.life_rules.specs.declared.event.SourceRef.TheVariants.{Scope, Node}
use Rattle.common_lemmas.specs.Sums.{one}
use Rattle.life_rules.specs.Views.{same, forget, is_in_block}
use Rattle.common_lemmas.proofs.Bool.{either, both-same}
use Rattle.exec_life.specs.declared.view.Role.{Role}
use Rattle.exec_life.specs.declared.view.Role.TheVariants.{Nothing}
use Rattle.exec_life.specs.Grids.{row_at}
use Rattle.exec_life.specs.StateLists.{view_of, said_of, said_of_source}
use Rattle.exec_life.specs.ViewLists.{ViewLists, role_in, runs_in, unlooked_in, seen_after_in, seen_at, scan_of, is_holder, is_starter, is_reporter, is_finisher}
use Rattle.exec_life.specs.ViewWrites.{Forgets}

-- what a cleared cell says of a name
said-cleared : {A B : Type 0} (G H : ℕ → ℕ) (b : ℕ) (nothing : B) (g : A → B) (f : ℕ → ℕ → A) (v : A) → g v ≡ nothing →
    ((j : ℕ) → (j == b) ≡ false → H j ≡ G j) → (y : Name) →
    said_of H nothing (λ i j. g (row_at f b v i j)) y
    ≡ (if y.block == b then nothing else said_of G nothing (λ i j. g (f i j)) y)
said-cleared G H b nothing g f v dull same y =
    let now = y.generation == H y.block in
    either (y.block == b)
    (λ here.
    ap (λ k. cond now (g k) nothing) (cond-true (y.block == b) v (f y.block y.node) here)
    ∙ ap (λ k. cond now k nothing) dull
    ∙ both-same now nothing
    ∙ sym (cond-true (y.block == b) nothing _ here))
    (λ apart.
    ap (λ k. cond now (g k) nothing) (cond-false (y.block == b) v (f y.block y.node) apart)
    ∙ ap (λ k. cond (y.generation == k) (g (f y.block y.node)) nothing) (same y.block apart)
    ∙ sym (cond-false (y.block == b) nothing _ apart))

unless : {B : Type 0} (t : Bool) (nothing x y : B) → (t ≡ true → y ≡ nothing) → (t ≡ false → x ≡ y) →
    (if t then nothing else x) ≡ y
unless true nothing x y here there = sym (here refl)
unless false nothing x y here there = there refl

and-not : (t x : Bool) → (if t then false else x) ≡ (x && not t)
and-not true true = refl
and-not true false = refl
and-not false true = refl
and-not false false = refl

-- the view that forgot the block, where nothing that it has is in the block
pub forgotten-view : (v u : ViewLists) (b : ℕ) (G H : ℕ → ℕ) (F : Name → ℕ) → Forgets v u b →
    ((j : ℕ) → (j == b) ≡ false → H j ≡ G j) →
    ((y : Name) → y.block ≡ b → (view_of G v).holds y ≡ 0) →
    ((y : Name) → y.block ≡ b → (view_of G v).starts y ≡ 0) →
    ((y : Name) → y.block ≡ b → (view_of G v).reports y ≡ 0) →
    ((y : Name) → y.block ≡ b → (view_of G v).runs y ≡ 0) →
    ((y : Name) → y.block ≡ b → F y ≡ 0) →
    ((y : Name) → (y.block == b) ≡ false → (view_of G v).finished y ≡ F y) →
    ((y : Name) → y.block ≡ b → (view_of G v).scan (Node y) ≡ None) →
    view_of H u ≡ forget b (record (view_of G v) { finished = F })
forgotten-view v u b G H F f same no_holds no_starts no_reports no_runs no_finished others no_scan =
    let old = view_of G v in
    let count : (Role → Bool) → (ℕ → ℕ → Role) → Name → ℕ = λ test c. said_of H 0 (λ i j. one (test (c i j))) in
    let role : (test : Role → Bool) → test Nothing ≡ false → (K : Name → ℕ) →
    ((y : Name) → y.block ≡ b → K y ≡ 0) →
    ((y : Name) → (y.block == b) ≡ false → said_of G 0 (λ i j. one (test (role_in v i j))) y ≡ K y) →
    count test (role_in u) ≡ K =
    λ test dull K zero rest.
    ap (count test) f.role_is
    ∙ (λ t y. (said-cleared G H b 0 (λ r. one (test r)) (role_in v) Nothing (ap one dull) same y
    ∙ unless (y.block == b) 0 _ (K y) (λ here. zero y (eqb-true y.block b here)) (rest y)) t) in
    let eh = role is_holder refl old.holds no_holds (λ y apart. refl) in
    let es = role is_starter refl old.starts no_starts (λ y apart. refl) in
    let er = role is_reporter refl old.reports no_reports (λ y apart. refl) in
    let ef = role is_finisher refl F no_finished others in
    let runs : said_of H 0 (λ i j. one (runs_in u i j)) ≡ old.runs =
    ap (λ (c : ℕ → ℕ → Bool). said_of H 0 (λ i j. one (c i j))) f.runs_is
    ∙ (λ t y. (said-cleared G H b 0 one (runs_in v) false refl same y
    ∙ unless (y.block == b) 0 _ (old.runs y) (λ here. no_runs y (eqb-true y.block b here)) (λ apart. refl)) t) in
    let unlooked : said_of H false (unlooked_in u) ≡ (λ y. old.unlooked y && not (y.block == b)) =
    ap (said_of H false) f.unlooked_is
    ∙ (λ t y. (said-cleared G H b false (λ (c : Bool). c) (unlooked_in v) false refl same y
    ∙ and-not (y.block == b) (old.unlooked y)) t) in
    let after : said_of H false (seen_after_in u) ≡ (λ y. old.seen_after y && not (y.block == b)) =
    ap (said_of H false) f.seen_after_is
    ∙ (λ t y. (said-cleared G H b false (λ (c : Bool). c) (seen_after_in v) false refl same y
    ∙ and-not (y.block == b) (old.seen_after y)) t) in
    let seen_each : (t : SourceRef) → said_of_source H false u.scope_seen (seen_at u) t ≡ (old.seen t && not (is_in_block b t)) =
    λ t. elim t as (λ z. said_of_source H false u.scope_seen (seen_at u) z ≡ (old.seen z && not (is_in_block b z))) [
      | Scope ↦ ap (λ (z : ViewLists). z.scope_seen) f.rest ∙ sym (and-true v.scope_seen)
      | Node y ↦
          ap (λ (c : ℕ → ℕ → Bool). said_of H false c y) f.seen_is
          ∙ said-cleared G H b false (λ (c : Bool). c) (seen_at v) false refl same y
          ∙ and-not (y.block == b) (old.seen (Node y))
    ] in
    let scan_each : (t : SourceRef) → said_of_source H None u.scope_scan (scan_of u) t ≡ old.scan t =
    λ t. elim t as (λ z. said_of_source H None u.scope_scan (scan_of u) z ≡ old.scan z) [
      | Scope ↦ ap (λ (z : ViewLists). z.scope_scan) f.rest
      | Node y ↦
          ap (λ (c : ℕ → ℕ → Option ℕ). said_of H None c y) f.scan_is
          ∙ said-cleared G H b None (λ (c : Option ℕ). c) (scan_of v) None refl same y
          ∙ unless (y.block == b) None _ (old.scan (Node y)) (λ here. no_scan y (eqb-true y.block b here)) (λ apart. refl)
    ] in
    λ t. record (view_of H (f.rest t)) {
      holds = eh t;
      starts = es t;
      reports = er t;
      finished = ef t;
      runs = runs t;
      scan = λ z. scan_each z t;
      unlooked = unlooked t;
      seen_after = after t;
      seen = λ z. seen_each z t;
    }

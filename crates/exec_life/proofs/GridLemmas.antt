-- What a grid reads after a write.
use Rattle.std.proofs.Common.{◌≡◌, ℕ, Bool, ◌+◌, ◌*◌, ◌<◌, true, false, ◌&&◌, eqb, ltb, cond, length, refl, sym, ap, ◌∙◌, subst, inl, inr, ◌||◌, get_or, set, arith}
use Rattle.std.proofs.lemmas.Bool.{and_parts, and_from, ltb-true, lt-ltb, eqb-true, eq-eqb, both_ways, cond-true, cond-false, cases_order, le-ltb, ne_eqb}
use Rattle.std.proofs.lemmas.Nat.{mul-add-lt, same_from_place}
use Rattle.std.proofs.lemmas.List.{get_or-set_same, get_or-set_other}
use Rattle.std.specs.Prelude.{if◌then◌else◌, ◌==◌, nat_lt}
use Rattle.life_rules.specs.States.{set_at}
use Rattle.common_lemmas.proofs.Bool.{either, both-same}
use Rattle.exec_life.specs.Grids.{Cells, at, row_at, SameSize, SetsCell, ClearsRow}

module _ {A : Type 0} (d : A) (g : Cells A) where
  -- behind the last node
  pub at-past : (b n : ℕ) → nat_lt n g.columns ≡ false → at d g b n ≡ d
  at-past b n past = cond-false (ltb n g.columns) _ d past

  pub at-within : (b n : ℕ) → nat_lt n g.columns ≡ true → at d g b n ≡ get_or g.cells (b * g.columns + n) d
  at-within b n within = cond-true (ltb n g.columns) _ d within

-- a write to one cell
pub at-set : {A : Type 0} (d : A) (g : Cells A) (b n : ℕ) (v : A) → length g.cells ≡ g.rows * g.columns →
    b < g.rows → n < g.columns →
    at d (record g { cells = set g.cells (b * g.columns + n) v }) ≡ set_at (at d g) b n v
at-set d g b n v long row column =
    let place : b * g.columns + n < length g.cells =
    omega (arith, mul-add-lt b g.columns n g.rows row column) in
    let after : Cells _ = record g { cells = set g.cells (b * g.columns + n) v } in
    let each : (i j : ℕ) → at d after i j ≡ set_at (at d g) b n v i j =
    λ i j. either (eqb i b && eqb j n)
    (λ here.
    let parts = and_parts (eqb i b) (eqb j n) here in
    let row_is : i ≡ b = eqb-true i b parts.0 in
    let column_is : j ≡ n = eqb-true j n parts.1 in
    at-within d after i j (lt-ltb j g.columns (omega arith))
    ∙ ap (λ k. get_or after.cells k d) (λ t. row_is t * g.columns + column_is t)
    ∙ get_or-set_same g.cells (b * g.columns + n) v d place
    ∙ sym (cond-true (eqb i b && eqb j n) v (at d g i j) here))
    (λ there.
    either (ltb j g.columns)
    (λ within.
    at-within d after i j within
    ∙ get_or-set_other g.cells (b * g.columns + n) (i * g.columns + j) v d
    (λ same.
    let places = same_from_place i j b n g.columns (ltb-true j g.columns within) column same in
    both_ways _ there (and_from _ _ (eq-eqb i b places.0) (eq-eqb j n places.1)))
    ∙ sym (at-within d g i j within))
    (λ past. at-past d after i j past ∙ sym (at-past d g i j past))
    ∙ sym (cond-false (eqb i b && eqb j n) v (at d g i j) there)) in
    λ t i j. each i j t

-- tests in a row
twice : {A : Type 0} (a b c : Bool) (v x : A) → cond (a && b) v (cond (a && c) v x) ≡ cond (a && (b || c)) v x
twice true true c v x = refl
twice true false c v x = refl
twice false b c v x = refl

with_true : {A : Type 0} (a : Bool) (v x : A) → cond (a && true) v x ≡ cond a v x
with_true true v x = refl
with_true false v x = refl

without : {A : Type 0} (a : Bool) (v x : A) → cond (a && false) v x ≡ x
without true v x = refl
without false v x = refl

-- f, but v at the first m nodes of b
abbrev pub begun_at : {A : Type 0} → (ℕ → ℕ → A) → ℕ → ℕ → A → ℕ → ℕ → A
begun_at f b m v i j = if i == b && nat_lt j m then v else f i j

pub SetsCell-set : {A : Type 0} (old g : Cells A) (b n : ℕ) (v : A) → g ≡ old →
    length g.cells ≡ g.rows * g.columns → b < old.rows → n < old.columns →
    SetsCell old (record g { cells = set g.cells (b * g.columns + n) v }) b n v
SetsCell-set {A} old g b n v e long =
    let P : Cells A → Type 0 = λ o. b < o.rows → n < o.columns →
    SetsCell o (record g { cells = set g.cells (b * g.columns + n) v }) b n v in
    subst P e
    (λ row column. record { size = record { rows = refl; columns = refl }; cell = λ d. at-set d g b n v long row column })

-- one node more
pub begun-more : {A : Type 0} (f : ℕ → ℕ → A) (b m : ℕ) (v : A) →
    set_at (begun_at f b m v) b m v ≡ begun_at f b (m + 1) v
begun-more f b m v =
    let test : (j : ℕ) → (eqb j m || ltb j m) ≡ ltb j (m + 1) =
    λ j. elim (cases_order j m) [
      | inl at ↦ ap (λ t. t || ltb j m) (eq-eqb j m at) ∙ sym (lt-ltb j (m + 1) (omega arith))
      | inr apart ↦ elim apart [
        | inl below ↦
            let left : eqb j m ≡ false = ne_eqb j m (λ e. absurd (omega (arith, below, e))) in
            ap (λ t. t || ltb j m) left ∙ lt-ltb j m below ∙ sym (lt-ltb j (m + 1) (omega arith))
        | inr above ↦
            let left : eqb j m ≡ false = ne_eqb j m (λ e. absurd (omega (arith, above, e))) in
            ap (λ t. t || ltb j m) left ∙ le-ltb j m (omega arith) ∙ sym (le-ltb j (m + 1) (omega arith))
      ]
    ] in
    let each : (i j : ℕ) → set_at (begun_at f b m v) b m v i j ≡ begun_at f b (m + 1) v i j =
    λ i j. twice (eqb i b) (eqb j m) (ltb j m) v (f i j) ∙ ap (λ t. cond (eqb i b && t) v (f i j)) (test j) in
    λ t i j. each i j t

-- all nodes
pub begun-all : {A : Type 0} (g : Cells A) (b : ℕ) (v : A) →
    begun_at (at v g) b g.columns v ≡ row_at (at v g) b v
begun-all g b v =
    let each : (i j : ℕ) → begun_at (at v g) b g.columns v i j ≡ row_at (at v g) b v i j =
    λ i j. either (ltb j g.columns)
    (λ within. ap (λ t. cond (eqb i b && t) v (at v g i j)) within ∙ with_true (eqb i b) v (at v g i j))
    (λ past.
    let dull : at v g i j ≡ v = at-past v g i j past in
    ap (λ w. cond (eqb i b && ltb j g.columns) v w) dull
    ∙ both-same (eqb i b && ltb j g.columns) v
    ∙ sym (ap (λ w. cond (eqb i b) v w) dull ∙ both-same (eqb i b) v)) in
    λ t i j. each i j t

-- no node
pub begun-none : {A : Type 0} (f : ℕ → ℕ → A) (b : ℕ) (v : A) → begun_at f b 0 v ≡ f
begun-none f b v =
    let each : (i j : ℕ) → begun_at f b 0 v i j ≡ f i j =
    λ i j. ap (λ t. cond (eqb i b && t) v (f i j)) (le-ltb j 0 (omega arith)) ∙ without (eqb i b) v (f i j) in
    λ t i j. each i j t

pub ClearsRow-done : {A : Type 0} (old new : Cells A) (b m : ℕ) (v : A) → SameSize old new → m ≡ old.columns →
    at v new ≡ begun_at (at v old) b m v → ClearsRow old new b v
ClearsRow-done old new b m v size all cells =
    record {
      size = size;
      row = cells ∙ ap (λ k. begun_at (at v old) b k v) all ∙ begun-all old b v;
    }

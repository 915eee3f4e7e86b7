use Rattle.std.proofs.Common.{◌≡◌, ℕ, ◌+◌, ◌*◌, ◌≤◌, ltb, cond, refl, ap, ◌∙◌, List, [], ◌∷◌, ◌++◌, length, get_or, arith}
use Rattle.std.specs.Prelude.{replicate}
use Rattle.std.proofs.lemmas.List.{length-replicate, replicate_more}
use Rattle.common_lemmas.proofs.Bool.{both-same}
use Rattle.common_lemmas.proofs.Lists.{get_or-replicate_same}
use Rattle.exec_life.specs.Grids.{Cells, at}
use Rattle.exec_life.proofs.grid.Grid.new.Goals as goal

push-filled : {A : Type 0} (old new : List A) (n : ℕ) (v : A) → new ≡ old ++ (v ∷ []) →
    old ≡ replicate n v → new ≡ replicate (n + 1) v
push-filled {A} old new n v pushed filled =
    pushed ∙ ap (λ (xs : List A). xs ++ (v ∷ [])) filled ∙ replicate_more n v

length-filled : {A : Type 0} (xs : List A) (n m : ℕ) (v : A) → xs ≡ replicate n v →
    n ≤ m → m ≤ n → length xs ≡ m
length-filled xs n m v filled below above =
    let all : n ≡ m = omega arith in
    ap length filled ∙ length-replicate n v ∙ all

-- all cells of a grid that was filled with v
at-filled : {A : Type 0} (g : Cells A) (m : ℕ) (v : A) → g.cells ≡ replicate m v →
    at v g ≡ (λ b n. v)
at-filled {A} g m v filled =
    let each : (b n : ℕ) → at v g b n ≡ v =
    λ b n.
    let place = b * g.columns + n in
    let cell : get_or g.cells place v ≡ v =
    ap (λ (xs : List A). get_or xs place v) filled
    ∙ get_or-replicate_same m place v in
    ap (λ w. cond (ltb n g.columns) w v) cell ∙ both-same (ltb n g.columns) v in
    λ t b n. each b n t

pub loop-filled-init : goal.loop-filled-init
loop-filled-init g c = c.in_ok-cells.ensures.items

pub loop-filled-preserved : goal.loop-filled-preserved
loop-filled-preserved g c =
    let kept = c.loop-filled in
    push-filled kept.cells.items c.push.new.self.items kept.filled c.args.value
    c.in_ok-push.ensures.items kept.invariant

pub invariant_of-result : goal.invariant_of-result
invariant_of-result g c =
    let kept = c.loop-filled in
    length-filled kept.cells.items kept.filled (c.args.rows * c.args.columns) c.args.value
    kept.invariant kept.auto.filled-end c.loop-filled-test.false

pub returns : goal.returns
returns g c =
    let kept = c.loop-filled in
    let grid : Cells g.row.T.Denot =
    record { rows = c.args.rows; columns = c.args.columns; cells = kept.cells.items } in
    record {
      rows_are = refl;
      columns_are = refl;
      cells_are = at-filled grid kept.filled c.args.value kept.invariant;
    }

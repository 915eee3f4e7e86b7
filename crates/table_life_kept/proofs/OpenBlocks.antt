-- A claim opens one block, and a release closes one.
use Rattle.std.proofs.Common.{◌≡◌, ℕ, ◌+◌, ◌<◌, true, false, ◌==◌, refl, ap, ◌∙◌, arith}
use Rattle.std.proofs.lemmas.Bool.{cond-true, cond-false, eq-eqb, ne_eqb}
use Rattle.life_rules.specs.declared.words.BlockWord.{BlockWord}
use Rattle.life_rules.specs.declared.words.BlockState.TheVariants.{Free, Open, Retired}
use Rattle.life_rules.specs.Words.{is_open}
use Rattle.common_lemmas.specs.Sums.{one}
use Rattle.life_rules.specs.States.{State}
use Rattle.life_rules.specs.LifeSteps.{after_release, next_word, last_generation}
use Rattle.common_lemmas.proofs.Bool.{either}
use Rattle.common_lemmas.proofs.Totals.{total-moved}
use Rattle.table_rules.specs.Counts.{open_blocks}
use Rattle.table_life_kept.proofs.Claim.State.{MayClaim, later, closed}

-- the block is open
abbrev pub open_at : State → ℕ → ℕ
open_at s b = one (is_open (s.block b).state)

pub one-opened : (s : State) (h b : ℕ) (may : MayClaim s h b) → open_blocks (later s h b may) ≡ open_blocks s + 1
one-opened s h b may =
    let now : BlockWord = record (s.block b) { state = Open } in
    let moved = total-moved (open_at s) (open_at (later s h b may)) s.blocks b may.within
    (λ i _ other. ap (λ w. one (is_open w.state)) (cond-false (i == b) now (s.block i) (ne_eqb i b other))) in
    let here : open_at (later s h b may) b ≡ 1 =
    ap (λ w. one (is_open w.state)) (cond-true (b == b) now (s.block b) (eq-eqb b b refl)) in
    let before : open_at s b ≡ 0 = ap one (closed s h b may) in
    omega (arith, moved, here, before)

-- a block that is given back isn't open
pub next-closed : (w : BlockWord) → is_open (next_word w).state ≡ false
next-closed w =
    let last : BlockWord = record { generation = w.generation; state = Retired } in
    let next : BlockWord = record { generation = w.generation + 1; state = Free } in
    either (w.generation == last_generation)
    (λ t. ap (λ z. is_open z.state) (cond-true (w.generation == last_generation) last next t))
    (λ f. ap (λ z. is_open z.state) (cond-false (w.generation == last_generation) last next f))

pub one-closed : (s : State) (h b : ℕ) → b < s.blocks → is_open (s.block b).state ≡ true →
    open_blocks (after_release s h b) + 1 ≡ open_blocks s
one-closed s h b within opened =
    let now : BlockWord = next_word (s.block b) in
    let moved = total-moved (open_at s) (open_at (after_release s h b)) s.blocks b within
    (λ i _ other. ap (λ w. one (is_open w.state)) (cond-false (i == b) now (s.block i) (ne_eqb i b other))) in
    let here : open_at (after_release s h b) b ≡ 0 =
    ap (λ w. one (is_open w.state)) (cond-true (b == b) now (s.block b) (eq-eqb b b refl)) ∙ ap one (next-closed (s.block b)) in
    let before : open_at s b ≡ 1 = ap one opened in
    omega (arith, moved, here, before)

-- The codes of callback words and of block words rise within a generation.
use Rattle.std.proofs.Common.{◌≡◌, ℕ, ◌<◌, ◌≤◌, true, false, ◌==◌, cond, refl, sym, ap, ◌∙◌, subst, arith}
use Rattle.std.proofs.lemmas.Bool.{cond-true, cond-false, both_ways, eqb-true, eq-eqb}
use Rattle.life_rules.specs.declared.words.CallbackPhase.{CallbackPhase}
use Rattle.life_rules.specs.declared.words.CallbackPhase.TheVariants.{Never, Armed, Running as Runs, Ran, Removed}
use Rattle.life_rules.specs.declared.words.BlockState.{BlockState}
use Rattle.life_rules.specs.declared.words.BlockState.TheVariants.{Free, Open, Retired}
use Rattle.life_rules.specs.Words.{is_free, is_open, is_armed}
use Rattle.common_lemmas.proofs.Bool.{either}
use Rattle.table_words.specs.Controls.{callback_code, callback_of_code}
use Rattle.table_words.specs.Blocks.{state_of_code}

other-code : (c k : ℕ) → (c == k) ≡ false → c ≡ k → ⊥
other-code c k ne e = both_ways (c == k) ne (eq-eqb c k e)

-- what holds of each code and its phase
by-phase : (Q : ℕ → CallbackPhase → Type 0) → Q 0 Never → Q 1 Armed → Q 2 Runs → Q 3 Ran → ((c : ℕ) → 4 ≤ c → Q c Removed) →
    (c : ℕ) → Q c (callback_of_code c)
by-phase Q never armed runs ran removed c =
    let last : CallbackPhase = cond (c == 3) Ran Removed in
    let third : CallbackPhase = cond (c == 2) Runs last in
    let second : CallbackPhase = cond (c == 1) Armed third in
    let of : (k : ℕ) (p : CallbackPhase) → c ≡ k → callback_of_code c ≡ p → Q k p → Q c (callback_of_code c) =
    λ k p code phase so. subst (λ (z : ℕ × CallbackPhase). Q z.0 z.1) (λ i. (sym code i, sym phase i)) so in
    either (c == 0)
    (λ t. of 0 Never (eqb-true c 0 t) (cond-true (c == 0) Never second t) never)
    (λ n0.
    let p0 : callback_of_code c ≡ second = cond-false (c == 0) Never second n0 in
    either (c == 1)
    (λ t. of 1 Armed (eqb-true c 1 t) (p0 ∙ cond-true (c == 1) Armed third t) armed)
    (λ n1.
    let p1 : callback_of_code c ≡ third = p0 ∙ cond-false (c == 1) Armed third n1 in
    either (c == 2)
    (λ t. of 2 Runs (eqb-true c 2 t) (p1 ∙ cond-true (c == 2) Runs last t) runs)
    (λ n2.
    let p2 : callback_of_code c ≡ last = p1 ∙ cond-false (c == 2) Runs last n2 in
    either (c == 3)
    (λ t. of 3 Ran (eqb-true c 3 t) (p2 ∙ cond-true (c == 3) Ran Removed t) ran)
    (λ n3.
    let e0 = other-code c 0 n0 in
    let e1 = other-code c 1 n1 in
    let e2 = other-code c 2 n2 in
    let e3 = other-code c 3 n3 in
    of c Removed refl (p2 ∙ cond-false (c == 3) Ran Removed n3) (removed c (omega (arith, e0, e1, e2, e3)))))))

pub armed-code : (c : ℕ) → is_armed (callback_of_code c) ≡ true → c ≡ 1
armed-code =
    by-phase (λ c p. is_armed p ≡ true → c ≡ 1) (λ e. cc) (λ e. refl) (λ e. cc) (λ e. cc) (λ c many e. cc)

code-least : (c : ℕ) → callback_code (callback_of_code c) ≤ c
code-least =
    by-phase (λ c p. callback_code p ≤ c) (omega arith) (omega arith) (omega arith) (omega arith) (λ c many. omega (arith, many))

code-exact : (c : ℕ) → callback_code (callback_of_code c) < 4 → callback_code (callback_of_code c) ≡ c
code-exact =
    by-phase (λ c p. callback_code p < 4 → callback_code p ≡ c) (λ _. refl) (λ _. refl) (λ _. refl) (λ _. refl)
    (λ c many few. absurd (omega (arith, few)))

code-most : (p : CallbackPhase) → callback_code p ≤ 4
code-most Never = omega arith
code-most Armed = omega arith
code-most Runs = omega arith
code-most Ran = omega arith
code-most Removed = omega arith

-- a later phase has a greater code
pub phase-rises : (c d : ℕ) → callback_code (callback_of_code c) < callback_code (callback_of_code d) → c < d
phase-rises c d less =
    let most = code-most (callback_of_code d) in
    let old = code-exact c (omega (arith, less, most)) in
    let new = code-least d in omega (arith, less, old, new)

module _ (c : ℕ) where
  abbrev rest : BlockState
  rest = cond (c == 1) Open Retired

  -- the codes of a free block, an open one and a retired one
  pub free-code : is_free (state_of_code c) ≡ true → c ≡ 0
  free-code free =
      either (c == 0) (λ t. eqb-true c 0 t)
      (λ n0.
      let e : is_free rest ≡ true = ap is_free (sym (cond-false (c == 0) Free rest n0)) ∙ free in
      either (c == 1)
      (λ t. let no : is_free Open ≡ true = ap is_free (sym (cond-true (c == 1) Open Retired t)) ∙ e in cc)
      (λ n1. let no : is_free Retired ≡ true = ap is_free (sym (cond-false (c == 1) Open Retired n1)) ∙ e in cc))

  pub open-code : is_open (state_of_code c) ≡ true → c ≡ 1
  open-code is =
      either (c == 0)
      (λ t. let no : is_open Free ≡ true = ap is_open (sym (cond-true (c == 0) Free rest t)) ∙ is in cc)
      (λ n0.
      let e : is_open rest ≡ true = ap is_open (sym (cond-false (c == 0) Free rest n0)) ∙ is in
      either (c == 1) (λ t. eqb-true c 1 t)
      (λ n1. let no : is_open Retired ≡ true = ap is_open (sym (cond-false (c == 1) Open Retired n1)) ∙ e in cc))

  pub retired-code : state_of_code c ≡ Retired → 2 ≤ c
  retired-code retired =
      either (c == 0)
      (λ t. let no : Free ≡ Retired = sym (cond-true (c == 0) Free rest t) ∙ retired in cc)
      (λ n0.
      either (c == 1)
      (λ t. let no : Open ≡ Retired = sym (cond-true (c == 1) Open Retired t) ∙ sym (cond-false (c == 0) Free rest n0) ∙ retired in cc)
      (λ n1. let e0 = other-code c 0 n0 in let e1 = other-code c 1 n1 in omega (arith, e0, e1)))

-- The word of a node that waits, after one was taken from it.
use Rattle.std.proofs.Common.{◌≡◌, ℕ, ◌+◌, ◌-◌, ◌<◌, ◌≤◌, ◌==◌, ap, ◌∙◌, arith}
use Rattle.std.proofs.lemmas.Bool.{cond-false, ne_eqb}
use Rattle.life_rules.specs.declared.words.ControlWord.TheVariants.{Idle, Busy, ReadyLoop, ReadyPool, Parked, Done}
use Rattle.table_words.specs.Stamps.{stamp_of, code_of}
use Rattle.table_steps.specs.Lefts.{less_one}
use Rattle.table_words.specs.Controls.{control_of_code, control_code, control_read, control_written}

-- to read a control word and to write it again changes nothing
abbrev pub IsExact : Type 0
IsExact = (w : ℕ) → control_written (stamp_of w) (control_read w) ≡ w

busy-read : (c j : ℕ) → c ≡ j + 5 → control_of_code c ≡ Busy j
busy-read c j e =
    cond-false (c == 0) Idle _ (ne_eqb c 0 (λ z. absurd (omega (arith, e, z))))
    ∙ cond-false (c == 1) Done _ (ne_eqb c 1 (λ z. absurd (omega (arith, e, z))))
    ∙ cond-false (c == 2) ReadyLoop _ (ne_eqb c 2 (λ z. absurd (omega (arith, e, z))))
    ∙ cond-false (c == 3) ReadyPool _ (ne_eqb c 3 (λ z. absurd (omega (arith, e, z))))
    ∙ cond-false (c == 4) Parked _ (ne_eqb c 4 (λ z. absurd (omega (arith, e, z))))
    ∙ ap Busy (omega (arith, e))

module _ (exact : IsExact) (n k : ℕ) (small : n < 18446744073709551616) (reads : control_read n ≡ Busy k) (some_one : 1 ≤ k) where
  code-is : code_of n ≡ k + 5
  code-is =
      let whole = exact n in
      let code : control_code (control_read n) ≡ 5 + k = ap control_code reads in
      omega (arith, whole, code)

  pub less-stamp : stamp_of (less_one n) ≡ stamp_of n
  less-stamp = let code = code-is in omega (arith, code, small, some_one)

  pub less-read : control_read (less_one n) ≡ Busy (k - 1)
  less-read =
      let code = code-is in
      busy-read (code_of (less_one n)) (k - 1) (omega (arith, code, small, some_one))

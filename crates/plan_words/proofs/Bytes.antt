-- Which byte is none of which.
use Rattle.std.proofs.Common.{◌≡◌, inl, inr, ℕ, ◌==◌, ◌||◌, true, subst, sym}
use Rattle.std.proofs.lemmas.Bool.{eqb-true, or_cases}
use Rattle.plan_words.specs.Bytes.{is_mark}

-- what holds of four bytes
pub one_of_four : (b w x y z : ℕ) (P : ℕ → Type 0) → P w → P x → P y → P z
    → ((b == w) || (b == x) || (b == y) || (b == z)) ≡ true → P b
one_of_four b w x y z P pw px py pz h =
    elim (or_cases ((b == w) || (b == x) || (b == y)) (b == z) h) [
      | inr e ↦ subst P (sym (eqb-true b z e)) pz
      | inl h1 ↦ elim (or_cases ((b == w) || (b == x)) (b == y) h1) [
        | inr e ↦ subst P (sym (eqb-true b y e)) py
        | inl h2 ↦ elim (or_cases (b == w) (b == x) h2) [
          | inl e ↦ subst P (sym (eqb-true b w e)) pw
          | inr e ↦ subst P (sym (eqb-true b x e)) px
        ]
      ]
    ]

pub of_mark : (b : ℕ) (P : ℕ → Type 0) → P 124 → P 40 → P 41 → P 44 → is_mark b ≡ true → P b
of_mark b P p q r s h = one_of_four b 124 40 41 44 P p q r s h

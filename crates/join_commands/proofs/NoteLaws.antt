-- Texts that are written with other names for what stands in them.
use Rattle.std.proofs.Common.{◌≡◌, ℕ, List, ◌++◌, Result, sym, subst, append_assoc}
use Rattle.std.specs.Borrow.{Bor}
use Rattle.exec_io.specs.declared.fault.Failed.{Failed}
use Rattle.exec_io.specs.Views.{SinkView}
use Rattle.exec_io.specs.Writing.{Puts}
use Rattle.join_commands.specs.declared.refusal.Cause.{Cause}
use Rattle.join_commands.specs.Notes.{part_cause_text}

five : (a b c x y : List ℕ) → (((a ++ x) ++ b) ++ y) ++ c ≡ a ++ (x ++ (b ++ (y ++ c)))
five a b c x y = simp append_assoc

seven : (a b c d x y z : List ℕ) → (((((a ++ x) ++ b) ++ y) ++ c) ++ z) ++ d ≡ a ++ (x ++ (b ++ (y ++ (c ++ (z ++ d)))))
seven a b c d x y z = simp append_assoc

module _ {s t : SinkView} {r : Result (Unit {0}) Failed} where
  pub one : (a b x y : List ℕ) → x ≡ y → Puts s t r (a ++ (x ++ b)) → Puts s t r (a ++ (y ++ b))
  one a b x y same puts = subst (λ (l : List ℕ). Puts s t r (a ++ (l ++ b))) same puts

  pub two : (a b c x y v w : List ℕ) → x ≡ y → v ≡ w → Puts s t r (a ++ (x ++ (b ++ (v ++ c)))) → Puts s t r ((((a ++ y) ++ b) ++ w) ++ c)
  two a b c x y v w first second puts =
      subst (λ (l : List ℕ). Puts s t r l) (sym (five a b c y w))
      (subst (λ (l : List ℕ). Puts s t r (a ++ (l ++ (b ++ (w ++ c))))) first
      (subst (λ (l : List ℕ). Puts s t r (a ++ (x ++ (b ++ (l ++ c))))) second puts))

  pub three : (a b c d x y v w m n : List ℕ) → x ≡ y → v ≡ w → m ≡ n → Puts s t r (a ++ (x ++ (b ++ (v ++ (c ++ (m ++ d)))))) → Puts s t r ((((((a ++ y) ++ b) ++ w) ++ c) ++ n) ++ d)
  three a b c d x y v w m n first second third puts =
      subst (λ (l : List ℕ). Puts s t r l) (sym (seven a b c d y w n))
      (subst (λ (l : List ℕ). Puts s t r (a ++ (l ++ (b ++ (w ++ (c ++ (n ++ d))))))) first
      (subst (λ (l : List ℕ). Puts s t r (a ++ (x ++ (b ++ (l ++ (c ++ (n ++ d))))))) second
      (subst (λ (l : List ℕ). Puts s t r (a ++ (x ++ (b ++ (v ++ (c ++ (l ++ d))))))) third puts)))

  -- what is written for a cause is its text
  pub of_cause : (names : List (Bor (List ℕ))) (name : List ℕ) (cause other : Cause) → cause ≡ other → Puts s t r (part_cause_text names name other) → Puts s t r (part_cause_text names name cause)
  of_cause names name cause other is puts = subst (λ (told : Cause). Puts s t r (part_cause_text names name told)) (sym is) puts

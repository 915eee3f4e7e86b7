-- What the views have of the names of a block that a hand gives back: nothing but the finished root.
use Rattle.std.proofs.Common.{◌≡◌, ℕ, ◌+◌, ◌-◌, ◌<◌, ◌≤◌, true, false, ◌&&◌, refl, sym, ap, ◌∙◌, subst, inl, inr, arith}
use Rattle.std.specs.Prelude.{◌==◌, if◌then◌else◌, nat_lt}
use Rattle.std.proofs.lemmas.Bool.{and_parts, and_right, cond-true, cond-false, eqb-true, eq-eqb, leb-true, both_ways, false_from_ne_true, cases_lt}
use Rattle.life_rules.specs.declared.event.Name.{Name}
use Rattle.life_rules.specs.declared.event.SourceRef.TheVariants.{Node}
use Rattle.life_rules.specs.declared.words.CallbackPhase.TheVariants.{Never}
use Rattle.life_rules.specs.declared.words.ControlWord.TheVariants.{Idle}
use Rattle.life_rules.specs.LifeSteps.{root_of, may_release}
use Rattle.life_rules.specs.Sound.{Sound}
use Rattle.life_rules.specs.States.{State, size, is_live, name_of, control_at, bits_at, stand}
use Rattle.node_tree.specs.Tree.{is_root}
use Rattle.common_lemmas.specs.Sums.{one}
use Rattle.life_rules.specs.Views.{same, lose, is_scanning}
use Rattle.life_rules.specs.Words.{clear, is_done, is_running}
use Rattle.life_rules.proofs.Readings.{stand-at, lives, name_of-live}
use Rattle.common_lemmas.proofs.Bool.{either, one-false, one-most}
use Rattle.life_rules.proofs.Names.{same-true, same-refl}
use Rattle.common_lemmas.proofs.Totals.{total-single}
use Rattle.life_kept.proofs.Fitting.{Fits-along}
use Rattle.life_kept.proofs.Quiet.{quiet-at_release}

-- a name of the block that a hand gives back, in a sound state
module _ (s : State) (h b : ℕ) (sound : Sound s) (below : h < s.hands) (may : may_release s h b ≡ true) where
  -- what holds of a live name of the block, and of a dead one, holds of each
  by_life : {P : Name → Type 0} → ((n : ℕ) → n < size s → P (name_of s b n)) →
      ((y : Name) → is_live s y ≡ false → P y) → (y : Name) → y.block ≡ b → P y
  by_life {P} alive dead y at =
      either (is_live s y)
      (λ l.
      let e : name_of s b y.node ≡ y = ap (λ k. name_of s k y.node) (sym at) ∙ name_of-live s y l in
      subst P e (alive y.node (lives s y l).node))
      (λ gone. dead y gone)

  pub no_holds : (y : Name) → y.block ≡ b → stand s (λ v. v.holds) y ≡ 0
  no_holds =
      by_life (λ n within. (quiet-at_release s h b sound below may n within).holds)
      (λ y gone.
      (Fits-along refl refl refl refl refl refl (sym (cond-false (is_live s y) _ Idle gone)) (sound.owned.names y)).held)

  pub no_starts : (y : Name) → y.block ≡ b → stand s (λ v. v.starts) y ≡ 0
  no_starts =
      by_life (λ n within. (quiet-at_release s h b sound below may n within).starts)
      (λ y gone.
      let fits = Fits-along refl refl refl refl (sym gone) refl refl (sound.owned.names y) in
      let most : stand s (λ v. v.starts) y ≤ 0 = fits.start in
      omega (arith, most))

  pub no_reports : (y : Name) → y.block ≡ b → stand s (λ v. v.reports) y ≡ 0
  no_reports =
      by_life (λ n within. (quiet-at_release s h b sound below may n within).reports)
      (λ y gone.
      let fits = Fits-along refl refl refl refl refl refl (sym (cond-false (is_live s y) _ Idle gone)) (sound.owned.names y) in
      let most : stand s (λ v. v.reports) y ≤ 0 = fits.report in
      omega (arith, most))

  pub no_runs : (y : Name) → y.block ≡ b → stand s (λ v. v.runs) y ≡ 0
  no_runs =
      by_life (λ n within. (quiet-at_release s h b sound below may n within).runs)
      (λ y gone. sound.runs.runs y ∙ ap (λ phase. one (is_running phase)) (cond-false (is_live s y) _ Never gone))

  pub no_scan : (i : ℕ) (y : Name) → i < s.hands → y.block ≡ b → is_scanning (s.view i) (Node y) ≡ false
  no_scan i y within at =
      by_life {P = λ z. is_scanning (s.view i) (Node z) ≡ false}
      (λ n inside. (quiet-at_release s h b sound below may n inside).scans i within)
      (λ z gone.
      false_from_ne_true (is_scanning (s.view i) (Node z)) (λ scans.
      let asked = (sound.scans.cause i (Node z) within scans).requested in
      let none : (bits_at s (Node z)).requested ≡ false = ap (λ bits. bits.requested) (cond-false (is_live s z) _ clear gone) in
      both_ways _ none asked)) y at

  -- the finished root is the hand's alone
  finished-most : (y : Name) → stand s (λ v. v.finished) y ≤ 1
  finished-most y = omega (arith, (sound.owned.names y).finish, one-most (is_done (control_at s y) && is_root s.tree y.node))

  holds_root : 1 ≤ (s.view h).finished (root_of s b)
  holds_root = leb-true 1 _ (and_parts (nat_lt b s.blocks) _ may).1

  finished-elsewhere : (y : Name) → y.block ≡ b → (y ≡ root_of s b → ⊥) → stand s (λ v. v.finished) y ≡ 0
  finished-elsewhere y at other =
      by_life {P = λ z. (z ≡ root_of s b → ⊥) → stand s (λ v. v.finished) z ≡ 0}
      (λ n within apart.
      let z = name_of s b n in
      let inner : is_root s.tree n ≡ false =
      false_from_ne_true (is_root s.tree n) (λ root.
      let last : n ≡ size s - 1 = omega (arith, eqb-true (n + 1) (size s) root) in
      apart (ap (name_of s b) last)) in
      (sound.owned.names z).finish
      ∙ one-false (ap (λ t. is_done (control_at s z) && t) inner ∙ and_right (is_done (control_at s z)) false refl))
      (λ z gone apart.
      (Fits-along refl refl refl refl refl refl (sym (cond-false (is_live s z) _ Idle gone)) (sound.owned.names z)).finish)
      y at other

  single : (i : ℕ) (y : Name) → i < s.hands → root_of s b ≡ y → (i == h) ≡ false → (s.view i).finished y ≡ 0
  single i y within e other =
      let f : ℕ → ℕ = λ k. (s.view k).finished y in
      let own : 1 ≤ f h = subst (λ z. 1 ≤ (s.view h).finished z) e holds_root in
      elim (cases_lt 0 (f i)) [
        | inl some ↦
            let at : i ≡ h = total-single f s.hands i h (finished-most y) within below (omega arith) own in
            absurd (both_ways _ other (eq-eqb i h at))
        | inr none ↦ omega (arith, none)
      ]

  -- after the release no view has a finished node of the block
  pub no_finished : (i : ℕ) (y : Name) → i < s.hands → y.block ≡ b →
      (if i == h then lose (root_of s b) (s.view i).finished else (s.view i).finished) y ≡ 0
  no_finished i y within at =
      let root = root_of s b in
      let f = (s.view i).finished in
      let mine : f y ≤ stand s (λ v. v.finished) y = stand-at s (λ v. v.finished) i y within in
      either (same root y)
      (λ here.
      let e : root ≡ y = same-true root y here in
      either (i == h)
      (λ own.
      let lost : lose root f y ≡ f y - 1 = ap (λ t. f y - one t) here in
      ap (λ (g : Name → ℕ). g y) (cond-true (i == h) (lose root f) f own)
      ∙ omega (arith, lost, mine, finished-most y))
      (λ other.
      ap (λ (g : Name → ℕ). g y) (cond-false (i == h) (lose root f) f other)
      ∙ single i y within e other))
      (λ apart.
      let none : f y ≡ 0 =
      omega (arith, mine, finished-elsewhere y at (λ e. both_ways _ apart (ap (same root) e ∙ same-refl root))) in
      let lost : lose root f y ≡ 0 = omega (arith, none) in
      either (i == h)
      (λ own. ap (λ (g : Name → ℕ). g y) (cond-true (i == h) (lose root f) f own) ∙ lost)
      (λ other. ap (λ (g : Name → ℕ). g y) (cond-false (i == h) (lose root f) f other) ∙ none))

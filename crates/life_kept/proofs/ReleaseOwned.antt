-- After a release nobody has a node of the block, and the words of all others count as before.
use Rattle.std.proofs.Common.{◌≡◌, ℕ, ◌+◌, ◌-◌, ◌*◌, ◌≤◌, Bool, true, false, ◌&&◌, ◌==◌, refl, sym, ap, ◌∙◌, subst, arith}
use Rattle.std.proofs.lemmas.Bool.{and_parts, and_right, both_ways, cond-true, cond-false, eqb-true, eq-eqb, false_from_ne_true}
use Rattle.life_rules.specs.declared.words.ControlWord.{ControlWord}
use Rattle.life_rules.specs.declared.words.ControlWord.TheVariants.{Idle}
use Rattle.life_rules.specs.declared.words.CallbackPhase.TheVariants.{Never}
use Rattle.life_rules.specs.declared.event.Name.{Name}
use Rattle.life_rules.specs.declared.event.SourceRef.TheVariants.{Node}
use Rattle.node_tree.specs.Tree.{is_root, is_child}
use Rattle.life_rules.specs.Words.{is_open, is_idle, is_done, is_under_way, pending, clear}
use Rattle.common_lemmas.specs.Sums.{one}
use Rattle.life_rules.specs.Views.{beside, lose}
use Rattle.life_rules.specs.States.{State, size, is_live, control_at, stand}
use Rattle.life_rules.specs.LifeSteps.{root_of}
use Rattle.life_rules.specs.Owned.{Fits, IsOwned, IsUnused, Counted, weight}
use Rattle.life_rules.specs.Callbacks.{BeginsInOrder}
use Rattle.common_lemmas.proofs.Bool.{either, one-false}
use Rattle.common_lemmas.proofs.Totals.{total-same, total-zero}
use Rattle.life_rules.proofs.Readings.{begun-live, live_unique, stand-with_view}
use Rattle.life_rules.proofs.Names.{by_name, lose-here, lose-other}
use Rattle.life_kept.proofs.Fitting.{Fits-along, done-word}
use Rattle.life_kept.proofs.Quiet.{MayRelease, root-finished, quiet-all}
use Rattle.life_kept.proofs.Released.{released, still-closed, live-other, dead-after, control-other, control-gone, phase-other, phase-gone, bits-other, bits-gone, stand-kept}

-- the counts of a name that isn't live and that nobody has
none-Fits : {a b c d : ℕ} {r : Bool} → a ≡ 0 → b ≡ 0 → c ≡ 0 → d ≡ 0 → Fits a b c d false r Idle
none-Fits {r} p q t u =
    let none : one (r && false) ≡ 0 = one-false (and_right r false refl) in
    record { held = p; start = omega (arith, q); root_start = omega (arith, none); report = omega (arith, t); finish = u }

done-begun : (w : ControlWord) → is_done w ≡ true → is_idle w ≡ false
done-begun w done = ap is_idle (done-word w done)

module _ (s : State) (h b : ℕ) (needs : MayRelease s h b) where
  abbrev t : State
  t = released s h b

  pub holds-kept : (x : Name) → stand t (λ v. v.holds) x ≡ stand s (λ v. v.holds) x
  holds-kept x = stand-kept s h b (λ v. v.holds) x (λ v u e k. (e k).holds x)

  pub starts-kept : (x : Name) → stand t (λ v. v.starts) x ≡ stand s (λ v. v.starts) x
  starts-kept x = stand-kept s h b (λ v. v.starts) x (λ v u e k. (e k).starts x)

  pub reports-kept : (x : Name) → stand t (λ v. v.reports) x ≡ stand s (λ v. v.reports) x
  reports-kept x = stand-kept s h b (λ v. v.reports) x (λ v u e k. (e k).reports x)

  pub runs-kept : (x : Name) → stand t (λ v. v.runs) x ≡ stand s (λ v. v.runs) x
  runs-kept x = stand-kept s h b (λ v. v.runs) x (λ v u e k. (e k).runs x)

  finished-moved : (x : Name) →
      stand t (λ v. v.finished) x + (s.view h).finished x
      ≡ stand s (λ v. v.finished) x + lose (root_of s b) (s.view h).finished x
  finished-moved x =
      stand-with_view s h (record (s.view h) { finished = lose (root_of s b) (s.view h).finished })
      (λ v. v.finished) x needs.below

  finished-other : (x : Name) → (root_of s b ≡ x → ⊥) → stand t (λ v. v.finished) x ≡ stand s (λ v. v.finished) x
  finished-other x ne =
      let m = finished-moved x in
      let e : lose (root_of s b) (s.view h).finished x ≡ (s.view h).finished x =
      lose-other (root_of s b) x (s.view h).finished ne in
      omega (arith, m, e)

  -- the released root is the one name of the block that is done and of a root
  root-alone : (x : Name) → (x.block == b) ≡ true → is_done (control_at s x) ≡ true → is_root s.tree x.node ≡ true →
      root_of s b ≡ x
  root-alone x at done root =
      let last : x.node + 1 ≡ size s = eqb-true (x.node + 1) (size s) root in
      let live : is_live s x ≡ true = begun-live s x (done-begun (control_at s x) done) in
      let root_live : is_live s (root_of s b) ≡ true =
      begun-live s (root_of s b) (ap is_idle (root-finished s h b needs).1) in
      live_unique s (root_of s b) x root_live live (sym (eqb-true x.block b at)) (omega (arith, last))

  -- nobody has a finished root of the block any more
  finished-gone : (x : Name) → (x.block == b) ≡ true → stand t (λ v. v.finished) x ≡ 0
  finished-gone x at =
      let r : Name = root_of s b in
      by_name r x
      (λ e. subst (λ y. stand t (λ v. v.finished) y ≡ 0) e
      (let m = finished-moved r in
      let less : lose r (s.view h).finished r ≡ (s.view h).finished r - 1 = lose-here r (s.view h).finished in
      let was : stand s (λ v. v.finished) r ≡ 1 = (root-finished s h b needs).0 in
      let had : 1 ≤ (s.view h).finished r = needs.finished in
      omega (arith, m, less, was, had)))
      (λ ne.
      let fit : stand s (λ v. v.finished) x ≡ one (is_done (control_at s x) && is_root s.tree x.node) =
      (needs.sound.owned.names x).finish in
      let none : (is_done (control_at s x) && is_root s.tree x.node) ≡ false =
      false_from_ne_true (is_done (control_at s x) && is_root s.tree x.node) (λ both.
      let parts = and_parts (is_done (control_at s x)) (is_root s.tree x.node) both in
      ne (root-alone x at parts.0 parts.1)) in
      finished-other x ne ∙ fit ∙ one-false none)

  pub release-owned : (x : Name) → IsOwned t x
  release-owned x =
      either (x.block == b)
      (λ at.
      let quiet = quiet-all s h b needs x (eqb-true x.block b at) in
      Fits-along (holds-kept x ∙ quiet.holds) (starts-kept x ∙ quiet.starts) (reports-kept x ∙ quiet.reports)
      (finished-gone x at) (dead-after s h b x at) refl (control-gone s h b x at) (none-Fits refl refl refl refl))
      (λ apart.
      let ne : root_of s b ≡ x → ⊥ = λ e.
      both_ways (x.block == b) apart ((λ k. (sym e k).block == b) ∙ eq-eqb b b refl) in
      Fits-along (holds-kept x) (starts-kept x) (reports-kept x) (finished-other x ne) (live-other s h b x apart) refl
      (control-other s h b x apart) (needs.sound.owned.names x))

  pub release-unused : (i n : ℕ) → is_open (t.block i).state ≡ false → IsUnused t i n
  release-unused i n shut =
      either (i == b)
      (λ at. record {
        control = cond-true (i == b) Idle (s.control i n) at;
        callback = cond-true (i == b) Never (s.callback i n) at;
        source = cond-true (i == b) clear (s.source i n) at;
      })
      (λ apart.
      let old = needs.sound.owned.unused i n (still-closed s h b i apart shut) in
      record {
        control = cond-false (i == b) Idle (s.control i n) apart ∙ old.control;
        callback = cond-false (i == b) Never (s.callback i n) apart ∙ old.callback;
        source = cond-false (i == b) clear (s.source i n) apart ∙ old.source;
      })

  weight-gone : (x : Name) → (x.block == b) ≡ true → weight t x ≡ 0
  weight-gone x at =
      let quiet = quiet-all s h b needs x (eqb-true x.block b at) in
      let way : one (is_under_way (control_at t x)) ≡ 0 = ap (λ w. one (is_under_way w)) (control-gone s h b x at) in
      let starts : stand t (λ v. v.starts) x ≡ 0 = starts-kept x ∙ quiet.starts in
      let reports : stand t (λ v. v.reports) x ≡ 0 = reports-kept x ∙ quiet.reports in
      omega (arith, way, starts, reports)

  weight-other : (x : Name) → (x.block == b) ≡ false → weight t x ≡ weight s x
  weight-other x apart =
      λ k. one (is_under_way (control-other s h b x apart k)) + starts-kept x k + reports-kept x k

  pub release-counted : Counted t
  release-counted x =
      either (x.block == b)
      (λ at. ap pending (control-gone s h b x at)
      ∙ sym (total-zero _ (size s) (λ n below.
      (λ k. one (is_child s.tree x.node n) * weight-gone (beside x n) at k) ∙ omega arith)))
      (λ apart. ap pending (control-other s h b x apart) ∙ needs.sound.counted x
      ∙ sym (total-same _ _ (size s) (λ n below k.
      one (is_child s.tree x.node n) * weight-other (beside x n) apart k)))

  pub release-begins : BeginsInOrder t
  release-begins x idle =
      either (x.block == b)
      (λ at. record {
        callback = phase-gone s h b x at;
        source = bits-gone s h b (Node x) at;
        children = λ n child. ap is_idle (control-gone s h b (beside x n) at);
      })
      (λ apart.
      let old = needs.sound.begins x (ap is_idle (sym (control-other s h b x apart)) ∙ idle) in
      record {
        callback = phase-other s h b x apart ∙ old.callback;
        source = bits-other s h b (Node x) apart ∙ old.source;
        children = λ n child. ap is_idle (control-other s h b (beside x n) apart) ∙ old.children n child;
      })

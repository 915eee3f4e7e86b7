-- When the root is done, nothing touches its block any more.
use Rattle.std.proofs.Common.{◌≡◌, ℕ, zero, suc, ◌+◌, ◌-◌, ◌*◌, ◌<◌, ◌≤◌, Bool, true, false, not, ◌&&◌, ◌||◌, nat_le, nat_lt, refl, sym, ap, ◌∙◌, subst, arith}
use Rattle.std.proofs.lemmas.Bool.{and_parts, or_parts, leb-true, ltb-true, eqb-true, both_ways, false_from_ne_true, not-false, cond-false, and_right}
use Rattle.life_rules.specs.declared.words.ControlWord.{ControlWord}
use Rattle.life_rules.specs.declared.words.ControlWord.TheVariants.{Idle, Busy, ReadyLoop, ReadyPool, Parked, Done}
use Rattle.life_rules.specs.declared.words.CallbackPhase.TheVariants.{Never}
use Rattle.life_rules.specs.declared.event.Name.{Name}
use Rattle.life_rules.specs.declared.event.SourceRef.TheVariants.{Node}
use Rattle.node_tree.specs.Tree.{is_root, is_child}
use Rattle.life_rules.specs.Words.{is_idle, is_held, is_done, is_under_way, is_armed, is_running, clear}
use Rattle.common_lemmas.specs.Sums.{one}
use Rattle.life_rules.specs.Views.{beside, is_scanning}
use Rattle.life_rules.specs.States.{State, size, is_live, control_at, phase_at, bits_at, name_of, stand}
use Rattle.common_lemmas.specs.Sums.{total}
use Rattle.life_rules.specs.LifeSteps.{root_of, may_release}
use Rattle.life_rules.specs.Requests.{may_scan}
use Rattle.life_rules.specs.Quiet.{IsQuietAt, Quiet}
use Rattle.life_rules.specs.Sound.{Sound}
use Rattle.common_lemmas.proofs.Bool.{either, one-is, one-true, one-false, one-none}
use Rattle.common_lemmas.proofs.Totals.{total-zero}
use Rattle.life_rules.proofs.Readings.{stand-at, name_of-live, lives}
use Rattle.life_kept.proofs.Trees.{parent-above}
use Rattle.life_kept.proofs.Fitting.{done-word, pending-none}
use Rattle.life_kept.proofs.Holding.{weight-most}

unheld : (w : ControlWord) → is_under_way w ≡ false → is_held w ≡ false
unheld Idle h = refl
unheld (Busy n) h = cc
unheld ReadyLoop h = cc
unheld ReadyPool h = cc
unheld Parked h = cc
unheld Done h = refl

-- what release needs
pub record MayRelease (s : State) (h b : ℕ) : Type 0 where
  pub sound : Sound s
  pub below : h < s.hands
  pub within : b < s.blocks
  pub finished : 1 ≤ (s.view h).finished (root_of s b)

pub release-needs : (s : State) (h b : ℕ) → Sound s → h < s.hands → may_release s h b ≡ true → MayRelease s h b
release-needs s h b sound below may =
    let parts = and_parts (nat_lt b s.blocks) (nat_le 1 ((s.view h).finished (root_of s b))) may in
    record {
      sound = sound;
      below = below;
      within = ltb-true b s.blocks parts.0;
      finished = leb-true 1 ((s.view h).finished (root_of s b)) parts.1;
    }

module _ (s : State) (h b : ℕ) (needs : MayRelease s h b) where
  pub root-finished : (stand s (λ v. v.finished) (root_of s b) ≡ 1) × (control_at s (root_of s b) ≡ Done)
      × (is_root s.tree (size s - 1) ≡ true)
  root-finished =
      let r : Name = root_of s b in
      let word : ControlWord = control_at s r in
      let root : Bool = is_root s.tree r.node in
      let all : (s.view h).finished r ≤ stand s (λ v. v.finished) r = stand-at s (λ v. v.finished) h r needs.below in
      let fit : stand s (λ v. v.finished) r ≡ one (is_done word && root) = (needs.sound.owned.names r).finish in
      let some : 1 ≤ (s.view h).finished r = needs.finished in
      let both : (is_done word && root) ≡ true = one-is (omega (arith, all, fit, some)) in
      let parts = and_parts (is_done word) root both in
      (fit ∙ one-true both, done-word word parts.0, parts.1)

  -- no node is under way: from the root down, so many steps at most
  none-under_way : (steps n : ℕ) → n < size s → size s ≤ n + suc steps →
      is_under_way (control_at s (name_of s b n)) ≡ false
  none-under_way zero n below last =
      let at : size s - 1 ≡ n = omega (arith, below, last) in
      subst (λ m. is_under_way (control_at s (name_of s b m)) ≡ false) at (ap is_under_way root-finished.1)
  none-under_way (suc steps) n below last =
      either (is_root s.tree n)
      (λ root.
      let end : n + 1 ≡ size s = eqb-true (n + 1) (size s) root in
      let at : size s - 1 ≡ n = omega (arith, end) in
      subst (λ m. is_under_way (control_at s (name_of s b m)) ≡ false) at (ap is_under_way root-finished.1))
      (λ inner.
      let up = parent-above s.tree needs.sound.tree n below inner in
      let rest : is_under_way (control_at s (name_of s b up.0)) ≡ false =
      none-under_way steps up.0 up.3 (omega (arith, up.2, last)) in
      let most = weight-most s (name_of s b up.0) n needs.sound below up.1 in
      let none = pending-none (control_at s (name_of s b up.0)) rest in
      one-none (omega (arith, most, none)))

  at-rest : (n : ℕ) → n < size s → is_under_way (control_at s (name_of s b n)) ≡ false
  at-rest n below = none-under_way (size s) n below (omega arith)

  -- so no view owes a node's start or report
  none-owed : (n : ℕ) → n < size s →
      (stand s (λ v. v.starts) (name_of s b n) ≡ 0) × (stand s (λ v. v.reports) (name_of s b n) ≡ 0)
  none-owed n below =
      let x : Name = name_of s b n in
      either (is_root s.tree n)
      (λ root.
      let end : n + 1 ≡ size s = eqb-true (n + 1) (size s) root in
      let at : size s - 1 ≡ n = omega (arith, end) in
      let word : control_at s x ≡ Done = subst (λ m. control_at s (name_of s b m) ≡ Done) at root-finished.1 in
      let start : stand s (λ v. v.starts) x ≤ one (is_live s x && is_idle (control_at s x)) = (needs.sound.owned.names x).start in
      let report : stand s (λ v. v.reports) x ≤ one (is_done (control_at s x) && not (is_root s.tree n)) =
      (needs.sound.owned.names x).report in
      let idle : one (is_live s x && is_idle (control_at s x)) ≡ 0 =
      one-false (and_right (is_live s x) (is_idle (control_at s x)) (ap is_idle word)) in
      let none : one (is_done (control_at s x) && not (is_root s.tree n)) ≡ 0 =
      one-false (and_right (is_done (control_at s x)) (not (is_root s.tree n)) (ap not root)) in
      (omega (arith, start, idle), omega (arith, report, none)))
      (λ inner.
      let up = parent-above s.tree needs.sound.tree n below inner in
      let most = weight-most s (name_of s b up.0) n needs.sound below up.1 in
      let none = pending-none (control_at s (name_of s b up.0)) (at-rest up.0 up.3) in
      (omega (arith, most, none), omega (arith, most, none)))

  quiet-here : (n : ℕ) → n < size s → IsQuietAt s (name_of s b n)
  quiet-here n below =
      let x : Name = name_of s b n in
      let rest = at-rest n below in
      let holds : stand s (λ v. v.holds) x ≡ 0 =
      (needs.sound.owned.names x).held ∙ one-false (unheld (control_at s x) rest) in
      let callback : (is_armed (phase_at s x) || is_running (phase_at s x)) ≡ false =
      false_from_ne_true (is_armed (phase_at s x) || is_running (phase_at s x))
      (λ on. both_ways (is_under_way (control_at s x)) rest (needs.sound.armed x on)) in
      let runs : stand s (λ v. v.runs) x ≡ 0 =
      needs.sound.runs.runs x
      ∙ one-false (or_parts (is_armed (phase_at s x)) (is_running (phase_at s x)) callback).1 in
      record {
        holds = holds;
        starts = (none-owed n below).0;
        reports = (none-owed n below).1;
        runs = runs;
        callback = callback;
        scans = λ i hand. false_from_ne_true (is_scanning (s.view i) (Node x)) (λ on.
            let some : 1 ≤ may_scan s (s.view i) x = needs.sound.scans.within i x hand on in
            let a : (s.view i).runs x ≤ stand s (λ v. v.runs) x = stand-at s (λ v. v.runs) i x hand in
            let c : (s.view i).holds x ≤ stand s (λ v. v.holds) x = stand-at s (λ v. v.holds) i x hand in
            let d : total (λ m. one (is_child s.tree x.node m) * (s.view i).reports (beside x m)) (size s) ≡ 0 =
            total-zero _ (size s) (λ m l.
            let e : (s.view i).reports (beside x m) ≤ stand s (λ v. v.reports) (beside x m) =
            stand-at s (λ v. v.reports) i (beside x m) hand in
            let f : stand s (λ v. v.reports) (beside x m) ≡ 0 = (none-owed m l).1 in
            let g : (s.view i).reports (beside x m) ≡ 0 = omega (arith, e, f) in
            (λ k. one (is_child s.tree x.node m) * g k) ∙ omega arith) in
            omega (arith, some, a, c, d, runs, holds));
        control = not-false (is_idle (control_at s x) || is_done (control_at s x)) rest;
      }

  -- and what isn't live is quiet too
  quiet-dead : (x : Name) → is_live s x ≡ false → IsQuietAt s x
  quiet-dead x dead =
      let word : control_at s x ≡ Idle = cond-false (is_live s x) (s.control x.block x.node) Idle dead in
      let phase : phase_at s x ≡ Never = cond-false (is_live s x) (s.callback x.block x.node) Never dead in
      let bits : bits_at s (Node x) ≡ clear = cond-false (is_live s x) (s.source x.block x.node) clear dead in
      let fits = needs.sound.owned.names x in
      let start : stand s (λ v. v.starts) x ≤ one (is_live s x && is_idle (control_at s x)) = fits.start in
      let report : stand s (λ v. v.reports) x ≤ one (is_done (control_at s x) && not (is_root s.tree x.node)) = fits.report in
      let gone : one (is_live s x && is_idle (control_at s x)) ≡ 0 = λ k. one (dead k && is_idle (control_at s x)) in
      let none : one (is_done (control_at s x) && not (is_root s.tree x.node)) ≡ 0 =
      λ k. one (is_done (word k) && not (is_root s.tree x.node)) in
      record {
        holds = fits.held ∙ (λ k. one (is_held (word k)));
        starts = omega (arith, start, gone);
        reports = omega (arith, report, none);
        runs = needs.sound.runs.runs x ∙ (λ k. one (is_running (phase k)));
        callback = λ k. is_armed (phase k) || is_running (phase k);
        scans = λ i hand. false_from_ne_true (is_scanning (s.view i) (Node x))
            (λ on. both_ways ((bits_at s (Node x)).requested) (λ k. (bits k).requested)
            (needs.sound.scans.cause i (Node x) hand on).requested);
        control = λ k. is_idle (word k) || is_done (word k);
      }

  -- so every name of the block is quiet
  pub quiet-all : (x : Name) → x.block ≡ b → IsQuietAt s x
  quiet-all x at =
      either (is_live s x)
      (λ live.
      let here : name_of s b x.node ≡ x =
      (λ k. name_of s (sym at k) x.node) ∙ name_of-live s x live in
      subst (IsQuietAt s) here (quiet-here x.node (lives s x live).node))
      (quiet-dead x)

pub quiet-at_release : (s : State) (h b : ℕ) → Sound s → h < s.hands → may_release s h b ≡ true → Quiet s b
quiet-at_release s h b sound below may n within =
    quiet-here s h b (release-needs s h b sound below may) n within

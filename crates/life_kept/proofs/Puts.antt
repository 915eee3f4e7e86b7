-- A step that writes one control word and changes what one view knows of the lives of nodes.
use Rattle.std.proofs.Common.{◌≡◌, ℕ, ◌+◌, ◌*◌, ◌<◌, ◌≤◌, Bool, true, false, ◌&&◌, ◌||◌, ◌==◌, if◌then◌else◌, eqb, refl, sym, ap, ◌∙◌, subst, arith}
use Rattle.std.proofs.lemmas.Bool.{and_parts, eqb-true, cond-true, cond-false, both_ways}
use Rattle.life_rules.specs.declared.words.ControlWord.{ControlWord}
use Rattle.life_rules.specs.declared.words.ControlWord.TheVariants.{Idle}
use Rattle.life_rules.specs.declared.event.Name.{Name}
use Rattle.life_rules.specs.declared.event.SourceRef.TheVariants.{Node}
use Rattle.node_tree.specs.Tree.{is_child}
use Rattle.life_rules.specs.Words.{is_open, is_idle, is_under_way, is_armed, is_running, pending}
use Rattle.life_rules.specs.Views.{View, beside, is_scanning}
use Rattle.common_lemmas.specs.Sums.{one}
use Rattle.life_rules.specs.States.{State, size, is_live, control_at, phase_at, stand, set_at, with_view, with_control}
use Rattle.common_lemmas.specs.Sums.{total}
use Rattle.life_rules.specs.Owned.{owed_below, IsOwned, IsUnused, Counted, weight}
use Rattle.life_rules.specs.Callbacks.{BeginsInOrder, ArmedLives}
use Rattle.life_rules.specs.Requests.{may_scan}
use Rattle.life_rules.specs.Sound.{Sound}
use Rattle.common_lemmas.proofs.Bool.{either}
use Rattle.common_lemmas.proofs.Totals.{total-same, total-most}
use Rattle.life_rules.proofs.Readings.{lives, read-here, read-other, stand-with_view}
use Rattle.life_kept.proofs.Frames.{rest, IsFramed, runs-framed, requests-framed, missed-framed, scans-framed}
use Rattle.life_kept.proofs.ScopeFrames.{of_scope, associations-framed, scope-framed}
use Rattle.life_rules.proofs.Names.{by_name}
use Rattle.life_kept.proofs.Fitting.{Fits-along}

abbrev pub put : State → ℕ → Name → ControlWord → View → State
put s h x w v = with_view (with_control s x.block x.node w) h v

-- a field that the changed view has as before is the same in all views
pub views-same : {A : Type 0} (s : State) (h : ℕ) (v : View) (f : View → A) → f v ≡ f (s.view h) →
    (i : ℕ) → f (if i == h then v else s.view i) ≡ f (s.view i)
views-same s h v f e i =
    either (eqb i h)
    (λ t. ap f (cond-true (eqb i h) v (s.view i) t) ∙ e ∙ ap (λ j. f (s.view j)) (sym (eqb-true i h t)))
    (λ n. ap f (cond-false (eqb i h) v (s.view i) n))

-- a relation between the views before and after holds where it holds of the changed view
pub views-each : (s : State) (h : ℕ) (v : View) (P : ℕ → View → Type 0) → P h v →
    ((i : ℕ) → P i (s.view i)) → (i : ℕ) → P i (if i == h then v else s.view i)
views-each s h v P here other i =
    either (eqb i h)
    (λ t. subst (P i) (sym (cond-true (eqb i h) v (s.view i) t))
    (subst (λ j. P j v) (sym (eqb-true i h t)) here))
    (λ n. subst (P i) (sym (cond-false (eqb i h) v (s.view i) n)) (other i))

pub times-same : (b : Bool) (m n : ℕ) → (b ≡ true → m ≡ n) → one b * m ≡ one b * n
times-same true m n e = ap (λ k. 1 * k) (e refl)
times-same false m n e = omega arith

times-most : (b : Bool) (m n : ℕ) → (b ≡ true → m ≤ n) → one b * m ≤ one b * n
times-most true m n e = let l : m ≤ n = e refl in omega (arith, l)
times-most false m n e = omega arith

-- where a view holds a node and owes its children's reports as before or more, a scan may go on
pub scan-more : (s : State) (v u : View) (x : Name) → rest u ≡ rest v → v.holds x ≤ u.holds x →
    ((n : ℕ) → is_child s.tree x.node n ≡ true → v.reports (beside x n) ≤ u.reports (beside x n)) →
    may_scan s v x ≤ may_scan s u x
scan-more s v u x same holds reports =
    let runs : u.runs x ≡ v.runs x = λ k. (same k).runs x in
    let sums : total (λ n. one (is_child s.tree x.node n) * v.reports (beside x n)) (size s)
    ≤ total (λ n. one (is_child s.tree x.node n) * u.reports (beside x n)) (size s) =
    total-most _ _ (size s) (λ n below. times-most (is_child s.tree x.node n) _ _ (reports n)) in
    omega (arith, runs, holds, sums)

-- The step, and what has to be shown of it.
pub record IsPut (s : State) (h : ℕ) (x : Name) (w : ControlWord) (v : View) : Type 0 where
  pub sound : Sound s
  pub hand : h < s.hands
  pub live : is_live s x ≡ true
  pub views : rest v ≡ rest (s.view h)

module _ (s : State) (h : ℕ) (x : Name) (w : ControlWord) (v : View) (p : IsPut s h x w v) where
  pub reads-here : control_at (put s h x w v) x ≡ w
  reads-here = read-here s s.control Idle w x p.live

  pub reads-other : (y : Name) → (x ≡ y → ⊥) → control_at (put s h x w v) y ≡ control_at s y
  reads-other y ne = read-other s s.control Idle w x y p.live (λ e. ne (sym e))

  -- how the sum over all views moved
  pub moves : (part : View → Name → ℕ) (y : Name) →
      stand (put s h x w v) part y + part (s.view h) y ≡ stand s part y + part v y
  moves part y = stand-with_view (with_control s x.block x.node w) h v part y p.hand

  pub stays : (part : View → Name → ℕ) (y : Name) → part v y ≡ part (s.view h) y →
      stand (put s h x w v) part y ≡ stand s part y
  stays part y e =
      let m : stand (put s h x w v) part y + part (s.view h) y ≡ stand s part y + part v y = moves part y in
      omega (arith, m, e)

  put-framed : IsFramed s s.block (set_at s.control x.block x.node w) (λ i. if i == h then v else s.view i)
  put-framed = record {
    phase = λ y. refl;
    bits = λ source. refl;
    generation = λ i. refl;
    views = views-same s h v rest p.views;
  }

  pub owned-other : (y : Name) → (x ≡ y → ⊥) → v.holds y ≡ (s.view h).holds y →
      v.starts y ≡ (s.view h).starts y → v.reports y ≡ (s.view h).reports y →
      v.finished y ≡ (s.view h).finished y → IsOwned (put s h x w v) y
  owned-other y ne a b c d =
      Fits-along (stays (λ u. u.holds) y a) (stays (λ u. u.starts) y b) (stays (λ u. u.reports) y c)
      (stays (λ u. u.finished) y d) refl refl (reads-other y ne) (p.sound.owned.names y)

  unused-put : (b n : ℕ) → is_open (s.block b).state ≡ false → IsUnused (put s h x w v) b n
  unused-put b n closed =
      let old = p.sound.owned.unused b n closed in
      let apart : (b == x.block && n == x.node) ≡ true → ⊥ =
      λ e. both_ways (is_open (s.block b).state) closed
      (subst (λ i. is_open (s.block i).state ≡ true) (sym (eqb-true b x.block (and_parts _ _ e).0)) (lives s x p.live).is_opened) in
      record {
        control = either (b == x.block && n == x.node) (λ e. absurd (apart e))
            (λ e. cond-false _ w (s.control b n) e ∙ old.control);
        callback = old.callback;
        source = old.source;
      }

  -- the word of a name whose children weigh as before counts as before
  pub counted-at : (y : Name) → pending (control_at (put s h x w v) y) ≡ pending (control_at s y) →
      ((n : ℕ) → is_child s.tree y.node n ≡ true → weight (put s h x w v) (beside y n) ≡ weight s (beside y n)) →
      pending (control_at (put s h x w v) y) ≡ owed_below (put s h x w v) y
  counted-at y counts weights =
      counts ∙ p.sound.counted y
      ∙ sym (total-same _ _ (size s) (λ n below. times-same (is_child s.tree y.node n) _ _ (weights n)))

  -- and so do all words where the written one does
  pub counted-put : pending w ≡ pending (control_at s x) →
      ((y : Name) (n : ℕ) → is_child s.tree y.node n ≡ true →
      weight (put s h x w v) (beside y n) ≡ weight s (beside y n)) →
      Counted (put s h x w v)
  counted-put counts weights y =
      counted-at y
      (by_name x y
      (λ e. subst (λ z. pending (control_at (put s h x w v) z) ≡ pending (control_at s z)) e (ap pending reads-here ∙ counts))
      (λ ne. ap pending (reads-other y ne)))
      (weights y)

  begins-put : is_idle w ≡ false →
      ((y : Name) (n : ℕ) → is_idle (control_at s y) ≡ true → is_child s.tree y.node n ≡ true → beside y n ≡ x → ⊥) →
      BeginsInOrder (put s h x w v)
  begins-put begun parent y idle =
      by_name x y
      (λ e. absurd (both_ways (is_idle w) begun
      (ap is_idle (sym reads-here) ∙ subst (λ z. is_idle (control_at (put s h x w v) z) ≡ true) (sym e) idle)))
      (λ ne.
      let was : is_idle (control_at s y) ≡ true = ap is_idle (sym (reads-other y ne)) ∙ idle in
      let old = p.sound.begins y was in
      record {
        callback = old.callback;
        source = old.source;
        children = λ n child.
            ap is_idle (reads-other (beside y n) (λ e. parent y n was child (sym e))) ∙ old.children n child;
      })

  armed-put : ((is_armed (phase_at s x) || is_running (phase_at s x)) ≡ true → is_under_way w ≡ true) →
      ArmedLives (put s h x w v)
  armed-put here y on =
      by_name x y
      (λ e. subst (λ z. is_under_way (control_at (put s h x w v) z) ≡ true) e
      (ap is_under_way reads-here
      ∙ here (subst (λ z. (is_armed (phase_at s z) || is_running (phase_at s z)) ≡ true) (sym e) on)))
      (λ ne. ap is_under_way (reads-other y ne) ∙ p.sound.armed y on)

  pub sound-put : ((y : Name) → IsOwned (put s h x w v) y) → Counted (put s h x w v) →
      is_idle w ≡ false →
      ((y : Name) (n : ℕ) → is_idle (control_at s y) ≡ true → is_child s.tree y.node n ≡ true → beside y n ≡ x → ⊥) →
      ((is_armed (phase_at s x) || is_running (phase_at s x)) ≡ true → is_under_way w ≡ true) →
      ((y : Name) → is_scanning (s.view h) (Node y) ≡ true → may_scan s (s.view h) y ≤ may_scan s v y) →
      Sound (put s h x w v)
  sound-put owned counted begun parent armed scans =
      let b = s.block in
      let c : ℕ → ℕ → ControlWord = set_at s.control x.block x.node w in
      let u : ℕ → View = λ i. if i == h then v else s.view i in
      let f = put-framed in
      let g : (i : ℕ) → of_scope (u i) ≡ of_scope (s.view i) = λ i k. of_scope (f.views i k) in
      record {
        tree = p.sound.tree;
        hands = p.sound.hands;
        owned = record { names = owned; unused = unused-put };
        counted = counted;
        begins = begins-put begun parent;
        armed = armed-put armed;
        runs = runs-framed s b c u f p.sound.runs;
        scans = scans-framed s b c u f p.sound.scans (λ i y below.
            views-each s h v
            (λ j q. is_scanning (s.view j) (Node y) ≡ true → may_scan s (s.view j) y ≤ may_scan s q y)
            (scans y) (λ j on. omega arith) i);
        requests = requests-framed s b c u f p.sound.requests;
        missed = missed-framed s b c u f p.sound.missed;
        associations = associations-framed s b c s.callback s.source u g p.sound.associations;
        scope = scope-framed s b c s.callback s.source u g p.sound.scope;
      }

-- A begin keeps what is said of starts, items and lots.
use Rattle.std.proofs.Common.{◌≡◌, ℕ, ◌≤◌, Bool, true, false, not, ◌||◌, ◌==◌, List, ◌∷◌, Some, refl, sym, ap, ◌∙◌, subst}
use Rattle.std.proofs.lemmas.Bool.{and_from, cond-true, cond-false, both_ways, eq-eqb, false_from_ne_true}
use Rattle.life_rules.specs.declared.words.ControlWord.{ControlWord}
use Rattle.life_rules.specs.declared.words.ControlWord.TheVariants.{Busy}
use Rattle.life_rules.specs.declared.event.Name.{Name}
use Rattle.node_tree.specs.Tree.{is_child, parent_of}
use Rattle.life_rules.specs.Words.{is_idle, is_done}
use Rattle.life_rules.specs.Views.{beside, same}
use Rattle.life_rules.specs.States.{State, control_at}
use Rattle.common_lemmas.proofs.Bool.{either}
use Rattle.life_rules.proofs.Names.{same-refl, same-other, by_name}
use Rattle.life_kept.proofs.Trees.{child-parent, parent-child}
use Rattle.table_rules.specs.declared.cargo.Cargo.{Ghosts}
use Rattle.table_rules.specs.Scenes.{Full, is_full, Past, Scene}
use Rattle.table_rules.specs.Homes.{is_waiting, is_resting, home_of, HomesStand}
use Rattle.table_rules.specs.Starts.{StartsStand}
use Rattle.table_rules.specs.Items.{HasFailedChild, ItemsStand}
use Rattle.table_rules.specs.Lots.{LotsStand}
use Rattle.table_life_kept.proofs.Begin.State.{MayBegin, x-idle, word-other, kid-idle}
use Rattle.table_life_kept.proofs.Begin.Homes as begin

module _ {P E : Type 0} (s : Scene P E) (h : ℕ) (x : Name) (may : MayBegin s.state h x) (homes : HomesStand s) (start : List E) where
  abbrev base : State
  base = s.state

  abbrev is_kid : ℕ → ℕ → Bool
  is_kid = begin.is_kid s h x may homes start

  abbrev begun_past : Past P E
  begun_past = begin.begun_past s h x may homes start

  abbrev begun_scene : Scene P E
  begun_scene = begin.begun_scene s h x may homes start

  full-before : (i n : ℕ) → is_full (begun_scene.home i n) ≡ true → is_full (s.home i n) ≡ true
  full-before = begin.full-before s h x may homes start

  item-before : (i n : ℕ) (item : P) → begun_scene.home i n ≡ Full item → s.home i n ≡ Full item
  item-before = begin.item-before s h x may homes start

  not-own : is_kid x.block x.node ≡ false
  not-own = begin.not-own s h x may homes start

  own-out : is_full (home_of s x) ≡ true → ⊥
  own-out = begin.own-out s h x may homes start

  still : {A : Type 0} (f : ControlWord → A) (y : Name) → (x ≡ y → ⊥) →
      f (control_at begun_scene.state y) ≡ f (control_at base y)
  still f y ne = ap f (word-other base h x may y ne)

  other-by : (test : ControlWord → Bool) → test (Busy 0) ≡ false → (y : Name) →
      test (control_at begun_scene.state y) ≡ true → x ≡ y → ⊥
  other-by = begin.other-by s h x may homes start

  -- what the rule remembers of other nodes
  pub start-other : (y : Name) → (x ≡ y → ⊥) → begun_past.start y ≡ s.past.start y
  start-other y ne = cond-false (same x y) start (s.past.start y) (same-other x y ne)

  pub start-here : begun_past.start x ≡ start
  start-here = cond-true (same x x) start (s.past.start x) (same-refl x)

  -- a node that had begun isn't this one, and isn't its child
  pub begun-other : (y : Name) → is_idle (control_at base y) ≡ false → x ≡ y → ⊥
  begun-other y begun e =
      both_ways (is_idle (control_at base y)) begun (ap (λ z. is_idle (control_at base z)) (sym e) ∙ ap is_idle (x-idle base h x may))

  begun-parent : (y : Name) (p : ℕ) → is_idle (control_at base y) ≡ false → parent_of base.tree y.node ≡ Some p →
      x ≡ beside y p → ⊥
  begun-parent y p begun is e =
      let node : p ≡ x.node = λ k. (sym e k).node in
      let child : is_child base.tree x.node y.node ≡ true =
      subst (λ q. is_child base.tree q y.node ≡ true) node (parent-child base.tree p y.node is) in
      let same_name : beside x y.node ≡ y = λ k. record { block = (e k).block; generation = (e k).generation; node = y.node } in
      both_ways (is_idle (control_at base y)) begun
      (subst (λ z. is_idle (control_at base z) ≡ true) same_name (kid-idle base h x may y.node child))

  -- the node isn't its own parent
  own-parent : (p : ℕ) → parent_of base.tree x.node ≡ Some p → x ≡ beside x p → ⊥
  own-parent p is e =
      let node : p ≡ x.node = λ k. (sym e k).node in
      both_ways (is_kid x.block x.node) not-own
      (and_from (x.block == x.block) (is_child base.tree x.node x.node) (eq-eqb x.block x.block refl)
      (subst (λ q. is_child base.tree q x.node ≡ true) node (parent-child base.tree p x.node is)))

  full-other : (y : Name) (item : P) → home_of s y ≡ Full item → x ≡ y → ⊥
  full-other y item e is = own-out (subst (λ z. is_full (home_of s z) ≡ true) (sym is) (ap is_full e))

  module _ {O : Type 0} (cargo : Ghosts P E O) (over : O) where
    -- the start goes on with that of the node's parent, and shares what the table was opened over
    pub record FitsAbove : Type 0 where
      pub above : (p : ℕ) → parent_of base.tree x.node ≡ Some p →
          (e : E) × (start ≡ e ∷ s.past.start (beside x p))
      pub key : cargo.key start ≡ over
      pub drawn : (p : ℕ) → parent_of base.tree x.node ≡ Some p →
          cargo.drawn start ≡ s.past.lot (beside x p)

    pub starts-begun : FitsAbove → StartsStand cargo over s → StartsStand cargo over begun_scene
    starts-begun fits old =
        record {
          shows = λ y item live e.
              let was = item-before y.block y.node item e in
              old.shows y item live was ∙ sym (start-other y (full-other y item was));
          descends = λ y p begun is.
              by_name x y
              (λ e. subst (λ z. parent_of base.tree z.node ≡ Some p → (a : E) × (begun_past.start z ≡ a ∷ begun_past.start (beside z p))) e
              (λ at.
              let up = fits.above p at in
              (up.0, start-here ∙ up.1 ∙ (λ k. up.0 ∷ sym (start-other (beside x p) (own-parent p at)) k))) is)
              (λ ne.
              let was : is_idle (control_at base y) ≡ false = sym (still is_idle y ne) ∙ begun in
              let up = old.descends y p was is in
              (up.0, start-other y ne ∙ up.1 ∙ (λ k. up.0 ∷ sym (start-other (beside y p) (begun-parent y p was is)) k)));
          key = λ y begun.
              by_name x y
              (λ e. subst (λ z. cargo.key (begun_past.start z) ≡ over) e (ap cargo.key start-here ∙ fits.key))
              (λ ne. ap cargo.key (start-other y ne) ∙ old.key y (sym (still is_idle y ne) ∙ begun));
        }

    failed-begun : (y : Name) → HasFailedChild cargo s y → HasFailedChild cargo begun_scene y
    failed-begun y f =
        let ne : x ≡ beside y f.0 → ⊥ =
        λ e. both_ways (is_done (control_at base (beside y f.0)))
        (ap (λ z. is_done (control_at base z)) (sym e) ∙ ap is_done (x-idle base h x may)) f.3 in
        (f.0, f.1, f.2, still is_done (beside y f.0) ne ∙ f.3, f.4, f.5)

    pub items-begun : ItemsStand cargo s → ItemsStand cargo begun_scene
    items-begun old =
        record {
          fit = λ y item live e. old.fit y item live (item-before y.block y.node item e);
          goes_on = λ y item live e d.
              let was = item-before y.block y.node item e in
              old.goes_on y item live was (sym (still is_done y (full-other y item was)) ∙ d);
          rests = λ y item live e rest.
              let was = item-before y.block y.node item e in
              old.rests y item live was (sym (still is_resting y (full-other y item was)) ∙ rest);
          bound = λ y item live e.
              let was = item-before y.block y.node item e in
              subst (λ n. cargo.least item ≤ n)
              (sym (cond-false (same x y) 0 (s.past.named y) (same-other x y (full-other y item was))))
              (old.bound y item live was);
          ended = λ y d r. old.ended y (sym (still is_done y (other-by is_done refl y d)) ∙ d) r;
          delivered = λ y item d r e.
              old.delivered y item (sym (still is_done y (other-by is_done refl y d)) ∙ d) r (item-before y.block y.node item e);
          enough = λ y item d r is.
              let ne = other-by is_done refl y d in
              subst (λ n. cargo.least item ≤ n) (sym (cond-false (same x y) 0 (s.past.named y) (same-other x y ne)))
              (old.enough y item (sym (still is_done y ne) ∙ d) r is);
          failures = λ y r n. failed-begun y (old.failures y r n);
        }

    pub lots-begun : FitsAbove → LotsStand cargo s → LotsStand cargo begun_scene
    lots-begun fits old =
        record {
          own = λ y item w e.
              old.own y item (sym (still is_waiting y (other-by is_waiting refl y w)) ∙ w) (item-before y.block y.node item e);
          below = λ y n w child begun d.
              let was = sym (still is_waiting y (other-by is_waiting refl y w)) ∙ w in
              by_name x (beside y n)
              (λ e.
              let node : x.node ≡ n = λ k. (e k).node in
              let up : parent_of base.tree x.node ≡ Some y.node =
              ap (parent_of base.tree) node ∙ child-parent base.tree y.node n child in
              let parent : beside x y.node ≡ y = λ k. record { block = (e k).block; generation = (e k).generation; node = y.node } in
              ap (λ z. cargo.drawn (begun_past.start z)) (sym e) ∙ ap cargo.drawn start-here ∙ fits.drawn y.node up
              ∙ ap s.past.lot parent)
              (λ ne.
              ap cargo.drawn (start-other (beside y n) ne)
              ∙ old.below y n was child (sym (still is_idle (beside y n) ne) ∙ begun)
              (either (is_full (s.home y.block n))
              (λ f. or-right (not (is_done (control_at base (beside y n)))) (is_full (s.home y.block n)) f)
              (λ f. lots-full y n ne f d)));
        }
      where
        or-right : (a b : Bool) → b ≡ true → (a || b) ≡ true
        or-right true b e = refl
        or-right false b e = e

        or-left : (a b : Bool) → b ≡ false → (a || b) ≡ true → (a || false) ≡ true
        or-left true b f e = refl
        or-left false b f e = absurd (both_ways b f e)

        lots-full : (y : Name) (n : ℕ) → (x ≡ beside y n → ⊥) → is_full (s.home y.block n) ≡ false →
            (not (is_done (control_at begun_scene.state (beside y n))) || is_full (begun_scene.home y.block n)) ≡ true →
            (not (is_done (control_at base (beside y n))) || is_full (s.home y.block n)) ≡ true
        lots-full y n ne none d =
            let gone : is_full (begun_scene.home y.block n) ≡ false =
            false_from_ne_true (is_full (begun_scene.home y.block n)) (λ full.
            both_ways (is_full (s.home y.block n)) none (full-before y.block n full)) in
            let a : (not (is_done (control_at begun_scene.state (beside y n))) || false) ≡ true =
            or-left (not (is_done (control_at begun_scene.state (beside y n)))) (is_full (begun_scene.home y.block n)) gone d in
            (λ k. not (is_done (sym (word-other base h x may (beside y n) ne) k)) || none k) ∙ a

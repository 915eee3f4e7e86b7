-- What is said of starts, items and lots is kept by a step on the control word of a node under way.
use Rattle.std.proofs.Common.{◌≡◌, ℕ, ◌≤◌, true, false, not, ◌||◌, ◌∷◌, Some, sym, ap, ◌∙◌, subst}
use Rattle.std.proofs.lemmas.Bool.{both_ways}
use Rattle.life_rules.specs.declared.event.Name.{Name}
use Rattle.node_tree.specs.Tree.{is_root, is_child}
use Rattle.life_rules.specs.Words.{is_idle, is_done}
use Rattle.life_rules.specs.Views.{beside}
use Rattle.life_rules.specs.States.{State, is_live, control_at}
use Rattle.life_rules.specs.Callbacks.{nearest_is_requested}
use Rattle.life_rules.proofs.Readings.{lives, is_live-from, begun-live}
use Rattle.life_kept.proofs.Trees.{child-within, parent-same}
use Rattle.life_rules.proofs.Names.{by_name}
use Rattle.life_kept.proofs.Fitting.{under_way-parts, done-word}
use Rattle.table_rules.specs.declared.cargo.Cargo.{Ghosts}
use Rattle.table_rules.specs.Scenes.{Full, is_full, Scene}
use Rattle.table_rules.specs.Homes.{is_waiting, is_resting}
use Rattle.table_rules.specs.Starts.{StartsStand}
use Rattle.table_rules.specs.Items.{HasFailedChild, ItemsStand}
use Rattle.table_rules.specs.Lots.{LotsStand}
use Rattle.table_life_kept.proofs.Move.Seats.{Move}
use Rattle.table_life_kept.proofs.Move.State as moving

module _ {P E O : Type 0} (cargo : Ghosts P E O) (over : O) (s : Scene P E) (task : Move s) where
  open task use {hand as h, name as x, word as w, view as u, put as p, home, past, moves as mv}

  abbrev base : State
  base = s.state

  abbrev put_state : State
  put_state = moving.put_state s h x w u p home past

  abbrev moved : Scene P E
  moved = moving.moved s h x w u p home past

  -- what the rule remembers of other nodes, and with which start each node began
  pub record Remembers : Type 0 where
    pub start : (y : Name) → past.start y ≡ s.past.start y
    pub lot : (y : Name) → (x ≡ y → ⊥) → past.lot y ≡ s.past.lot y
    pub delivered : (y : Name) → (x ≡ y → ⊥) → past.delivered y ≡ s.past.delivered y

  -- the item that lies in the node's home afterwards
  pub record Leaves : Type 0 where
    pub start : (item : P) → home x.block x.node ≡ Full item → cargo.start item ≡ s.past.start x
    pub fit : (item : P) → home x.block x.node ≡ Full item → cargo.fits item x.node (nearest_is_requested base x)
    pub goes_on : (item : P) → home x.block x.node ≡ Full item → is_done w ≡ false → ¬ cargo.ends item
    pub rests : (item : P) → home x.block x.node ≡ Full item → is_resting w ≡ true → cargo.rests item x.node
    pub bound : (item : P) → home x.block x.node ≡ Full item → cargo.least item ≤ past.named x
    pub ended : is_done w ≡ true → is_root base.tree x.node ≡ false →
        (item : P) × (past.delivered x ≡ Some item) × cargo.ends item × cargo.fits item x.node (nearest_is_requested base x)
    pub delivered : (item : P) → is_done w ≡ true → is_root base.tree x.node ≡ false → home x.block x.node ≡ Full item →
        past.delivered x ≡ Some item
    pub enough : (item : P) → is_done w ≡ true → is_root base.tree x.node ≡ false → past.delivered x ≡ Some item →
        cargo.least item ≤ past.named x
    pub lot : (item : P) → is_waiting w ≡ true → home x.block x.node ≡ Full item → cargo.lot item ≡ past.lot x
    pub drawn : (n : ℕ) → is_waiting w ≡ true → is_child base.tree x.node n ≡ true →
        is_idle (control_at base (beside x n)) ≡ false →
        (not (is_done (control_at base (beside x n))) || is_full (home x.block n)) ≡ true →
        cargo.drawn (s.past.start (beside x n)) ≡ past.lot x

  module _ (rem : Remembers) (lv : Leaves) where
    word-here : control_at put_state x ≡ w
    word-here = moving.word-here s h x w u p home past mv

    word-other : (y : Name) → (x ≡ y → ⊥) → control_at put_state y ≡ control_at base y
    word-other = moving.word-other s h x w u p home past mv

    item-before : (y : Name) → is_live base y ≡ true → (x ≡ y → ⊥) → (item : P) → home y.block y.node ≡ Full item →
        s.home y.block y.node ≡ Full item
    item-before = moving.item-before s h x w u p home past mv

    -- a node had begun where it has now
    begun-before : (y : Name) → is_idle (control_at put_state y) ≡ false → is_idle (control_at base y) ≡ false
    begun-before y begun =
        by_name x y
        (λ e. subst (λ z. is_idle (control_at base z) ≡ false) e (under_way-parts (control_at base x) mv.under_way).0)
        (λ ne. ap is_idle (sym (word-other y ne)) ∙ begun)

    -- a sentence on one name that is said of this node, and of any other
    by_own : (Q : Name → Type 0) (y : Name) → Q x → ((x ≡ y → ⊥) → Q y) → Q y
    by_own Q y own other = by_name x y (λ e. subst Q e own) other

    done-before : (y : Name) → (x ≡ y → ⊥) → is_done (control_at put_state y) ≡ true → is_done (control_at base y) ≡ true
    done-before y ne done = ap is_done (sym (word-other y ne)) ∙ done

    done-live : (y : Name) → is_done (control_at put_state y) ≡ true → is_live base y ≡ true
    done-live y done = begun-live base y (begun-before y (ap is_idle (done-word (control_at put_state y) done)))

    pub starts-moved : StartsStand cargo over s → StartsStand cargo over moved
    starts-moved old =
        record {
          shows = λ y item live e.
              by_own (λ z. home z.block z.node ≡ Full item → cargo.start item ≡ past.start z) y
              (λ own. lv.start item own ∙ sym (rem.start x))
              (λ ne full. old.shows y item live (item-before y live ne item full) ∙ sym (rem.start y)) e;
          descends = λ y q begun is.
              let up = old.descends y q (begun-before y begun) is in
              (up.0, rem.start y ∙ up.1 ∙ ap (λ l. up.0 ∷ l) (sym (rem.start (beside y q))));
          key = λ y begun. ap cargo.key (rem.start y) ∙ old.key y (begun-before y begun);
        }

    failed-moved : (y : Name) → HasFailedChild cargo s y → HasFailedChild cargo moved y
    failed-moved y f =
        let ne : x ≡ beside y f.0 → ⊥ =
        λ e. both_ways (is_done (control_at base (beside y f.0)))
        (subst (λ z. is_done (control_at base z) ≡ false) e (under_way-parts (control_at base x) mv.under_way).1) f.3 in
        (f.0, f.1, f.2, ap is_done (word-other (beside y f.0) ne) ∙ f.3, rem.delivered (beside y f.0) ne ∙ f.4, f.5)

    pub items-moved : ItemsStand cargo s → ItemsStand cargo moved
    items-moved old =
        record {
          fit = λ y item live e.
              by_own (λ z. home z.block z.node ≡ Full item → cargo.fits item z.node (nearest_is_requested base z)) y
              (lv.fit item)
              (λ ne full. old.fit y item live (item-before y live ne item full)) e;
          goes_on = λ y item live e d.
              by_own (λ z. home z.block z.node ≡ Full item → is_done (control_at put_state z) ≡ false → ¬ cargo.ends item) y
              (λ full going. lv.goes_on item full (ap is_done (sym word-here) ∙ going))
              (λ ne full going. old.goes_on y item live (item-before y live ne item full) (ap is_done (sym (word-other y ne)) ∙ going)) e d;
          rests = λ y item live e is.
              by_own (λ z. home z.block z.node ≡ Full item → is_resting (control_at put_state z) ≡ true → cargo.rests item z.node) y
              (λ full rest. lv.rests item full (ap is_resting (sym word-here) ∙ rest))
              (λ ne full rest. old.rests y item live (item-before y live ne item full) (ap is_resting (sym (word-other y ne)) ∙ rest)) e is;
          bound = λ y item live e.
              by_own (λ z. home z.block z.node ≡ Full item → cargo.least item ≤ past.named z) y
              (lv.bound item)
              (λ ne full. subst (λ n. cargo.least item ≤ n) (sym (mv.named_other y ne)) (old.bound y item live (item-before y live ne item full))) e;
          ended = λ y d root.
              by_own (λ z. is_done (control_at put_state z) ≡ true → is_root base.tree z.node ≡ false →
              (item : P) × (past.delivered z ≡ Some item) × cargo.ends item × cargo.fits item z.node (nearest_is_requested base z)) y
              (λ done other. lv.ended (ap is_done (sym word-here) ∙ done) other)
              (λ ne done other.
              let t = old.ended y (done-before y ne done) other in (t.0, rem.delivered y ne ∙ t.1, t.2, t.3)) d root;
          delivered = λ y item d root e.
              by_own (λ z. is_done (control_at put_state z) ≡ true → is_root base.tree z.node ≡ false → home z.block z.node ≡ Full item →
              past.delivered z ≡ Some item) y
              (λ done other full. lv.delivered item (ap is_done (sym word-here) ∙ done) other full)
              (λ ne done other full.
              rem.delivered y ne ∙ old.delivered y item (done-before y ne done) other (item-before y (done-live y done) ne item full)) d root e;
          enough = λ y item d root at.
              by_own (λ z. is_done (control_at put_state z) ≡ true → is_root base.tree z.node ≡ false → past.delivered z ≡ Some item →
              cargo.least item ≤ past.named z) y
              (λ done other is. lv.enough item (ap is_done (sym word-here) ∙ done) other is)
              (λ ne done other is.
              subst (λ n. cargo.least item ≤ n) (sym (mv.named_other y ne))
              (old.enough y item (done-before y ne done) other (sym (rem.delivered y ne) ∙ is))) d root at;
          failures = λ y r n. failed-moved y (old.failures y r n);
        }

    -- a child of another node that has begun, and isn't done with an empty home, was so before
    drawn-before : (y : Name) (n : ℕ) → (x ≡ y → ⊥) → is_live base y ≡ true → is_child base.tree y.node n ≡ true →
        (not (is_done (control_at put_state (beside y n))) || is_full (home y.block n)) ≡ true →
        (not (is_done (control_at base (beside y n))) || is_full (s.home y.block n)) ≡ true
    drawn-before y n ne live child so =
        let l = lives base y live in
        let there : is_live base (beside y n) ≡ true =
        is_live-from base (beside y n) (record {
          block = l.block;
          node = child-within base.tree y.node n child;
          is_opened = l.is_opened;
          generation = l.generation;
        }) in
        moving.by_place s h x w u p home past mv (beside y n) there
        (λ e. ap (λ b. not b || is_full (s.home y.block n))
        (subst (λ z. is_done (control_at base z) ≡ false) e (under_way-parts (control_at base x) mv.under_way).1))
        (λ m own e. absurd (ne (parent-same base.tree x y m n own child e)))
        (λ apart _ same. (λ k. not (is_done (sym (word-other (beside y n) apart) k)) || is_full (sym same k)) ∙ so)

    pub lots-moved : LotsStand cargo s → LotsStand cargo moved
    lots-moved old =
        record {
          own = λ y item wait e.
              by_own (λ z. is_waiting (control_at put_state z) ≡ true → home z.block z.node ≡ Full item → cargo.lot item ≡ past.lot z) y
              (λ is full. lv.lot item (ap is_waiting (sym word-here) ∙ is) full)
              (λ ne is full.
              let was = ap is_waiting (sym (word-other y ne)) ∙ is in
              old.own y item was (item-before y (moving.waiting-live base y was) ne item full) ∙ sym (rem.lot y ne)) wait e;
          below = λ y n wait child begun so.
              ap cargo.drawn (rem.start (beside y n))
              ∙ by_own (λ z. is_waiting (control_at put_state z) ≡ true → is_child base.tree z.node n ≡ true →
              is_idle (control_at put_state (beside z n)) ≡ false →
              (not (is_done (control_at put_state (beside z n))) || is_full (home z.block n)) ≡ true →
              cargo.drawn (s.past.start (beside z n)) ≡ past.lot z) y
              (λ is own awake draws.
              let same = word-other (beside x n) (moving.kid-other s h x w u p home past mv n own) in
              lv.drawn n (ap is_waiting (sym word-here) ∙ is) own (ap is_idle (sym same) ∙ awake)
              ((λ k. not (is_done (sym same k)) || is_full (home x.block n)) ∙ draws))
              (λ ne is own awake draws.
              let was = ap is_waiting (sym (word-other y ne)) ∙ is in
              old.below y n was own (begun-before (beside y n) awake)
              (drawn-before y n ne (moving.waiting-live base y was) own draws) ∙ sym (rem.lot y ne)) wait child begun so;
        }

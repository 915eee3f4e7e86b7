-- A step that writes the control word of a node under way, and moves the homes of the node and of its
-- children: what such a step has to say of these homes, and that what is said of all homes is then kept.
use Rattle.std.proofs.Common.{◌≡◌, ◌⊎◌, ℕ, ◌+◌, ◌<◌, ◌≤◌, Bool, true, false, not, ◌&&◌, ◌||◌, ◌==◌, List, refl, sym, ap, ◌∙◌, subst, ⊎_elim, arith}
use Rattle.std.specs.Prelude.{nat_le}
use Rattle.std.proofs.lemmas.Bool.{and_parts, both_ways, eqb-true, ne_eqb, false_from_ne_true}
use Rattle.std.proofs.lemmas.Bool.Decides.{nat_tests}
use Rattle.node_tree.specs.declared.node.TreeNode.{TreeNode}
use Rattle.life_rules.specs.declared.words.ControlWord.{ControlWord}
use Rattle.life_rules.specs.declared.words.ControlWord.TheVariants.{Idle, Busy, ReadyLoop, ReadyPool, Parked, Done}
use Rattle.life_rules.specs.declared.event.Name.{Name}
use Rattle.node_tree.specs.Tree.{is_root, is_child, IsTree}
use Rattle.life_rules.specs.Words.{is_idle, is_done, is_held, is_under_way, pending}
use Rattle.life_rules.specs.Views.{View, beside}
use Rattle.common_lemmas.specs.Sums.{one}
use Rattle.life_rules.specs.States.{State, size, is_live, control_at, stand}
use Rattle.life_rules.specs.Owned.{weight}
use Rattle.life_rules.specs.Sound.{Sound}
use Rattle.common_lemmas.proofs.Bool.{either}
use Rattle.life_rules.proofs.Readings.{lives, is_live-from, live_unique, begun-live}
use Rattle.life_kept.proofs.Trees.{child-one, child-within, root-orphan, parent-above}
use Rattle.life_rules.proofs.Names.{by_name}
use Rattle.life_kept.proofs.Puts.{put, IsPut, reads-here, reads-other}
use Rattle.life_kept.proofs.Holding.{weight-most}
use Rattle.table_rules.specs.Scenes.{Home, Full, is_out, is_full, Past, Scene}
use Rattle.table_rules.specs.Homes.{is_waiting, is_resting, named_below, done_below}

pub some-seat : (n : ℕ) → 1 ≤ n → nat_le 1 n ≡ true
some-seat n l = grind (arith, nat_tests)

pub no-seat : (n : ℕ) → n ≡ 0 → nat_le 1 n ≡ false
no-seat n e = ap (nat_le 1) e

-- a node that waits for children is neither held, done nor at rest
pub record IsWaiting (c : ControlWord) : Type 0 where
  pub held : is_held c ≡ false
  pub done : is_done c ≡ false
  pub rests : is_resting c ≡ false

pub pending-waits : (c : ControlWord) → 1 ≤ pending c → IsWaiting c
pending-waits Idle h = absurd (omega (arith, h))
pending-waits (Busy n) h = record { held = ne_eqb n 0 (λ e. absurd (omega (arith, h, e))); done = refl; rests = refl }
pending-waits ReadyLoop h = absurd (omega (arith, h))
pending-waits ReadyPool h = absurd (omega (arith, h))
pending-waits Parked h = absurd (omega (arith, h))
pending-waits Done h = absurd (omega (arith, h))

waiting-begun : (c : ControlWord) → is_waiting c ≡ true → is_idle c ≡ false
waiting-begun Idle h = cc
waiting-begun (Busy n) h = refl
waiting-begun ReadyLoop h = refl
waiting-begun ReadyPool h = refl
waiting-begun Parked h = refl
waiting-begun Done h = refl

pub waiting-live : (s : State) (y : Name) → is_waiting (control_at s y) ≡ true → is_live s y ≡ true
waiting-live s y w = begun-live s y (waiting-begun (control_at s y) w)

-- a parent is another node than its child
pub parent-differs : (tree : List TreeNode) → IsTree tree → (q n : ℕ) → is_child tree q n ≡ true → (q ≡ n → ⊥)
parent-differs tree is q n child e =
    let below = child-within tree q n child in
    either (is_root tree n)
    (λ root. both_ways (is_child tree q n) (root-orphan tree is q n below root) child)
    (λ other.
    let up = parent-above tree is n below other in
    let same = child-one tree q up.0 n child up.1 in
    let l = up.2 in absurd (omega (arith, same, l, e)))

module _ {P E : Type 0} (s : Scene P E) (h : ℕ) (x : Name) (w : ControlWord) (u : View) (p : IsPut s.state h x w u) (home : ℕ → ℕ → Home P) (past : Past P E) where
  abbrev base : State
  base = s.state

  abbrev pub put_state : State
  put_state = put base h x w u

  abbrev pub moved : Scene P E
  moved = record { state = put_state; home = home; past = past }

  abbrev pub is_kid : ℕ → ℕ → Bool
  is_kid i n = i == x.block && is_child base.tree x.node n

  -- the child's home didn't move, or isn't full now, and no child is there that is under way or owes a report
  abbrev pub KeepsKid : ℕ → Type 0
  KeepsKid n =
      (home x.block n ≡ s.home x.block n)
      ⊎ ((is_full (home x.block n) ≡ false) × (is_under_way (control_at base (beside x n)) ≡ false)
      × (stand put_state (λ v. v.reports) (beside x n) ≡ 0))

  pub record KidMoves (n : ℕ) : Type 0 where
    -- its home is out where a hand owes its start, holds it, or holds the node
    pub out : is_out (home x.block n)
        ≡ nat_le 1 (stand put_state (λ v. v.starts) (beside x n) + one (is_held (control_at base (beside x n))) + one (is_held w))
    pub keeps : KeepsKid n
    -- it isn't full where the node is done or rests
    pub shut : (is_done w || is_resting w) ≡ true → is_full (home x.block n) ≡ false

  pub record Moves : Type 0 where
    -- the pure machine's law of the step
    pub sound : Sound put_state
    pub under_way : is_under_way (control_at base x) ≡ true
    pub begun : is_idle w ≡ false
    -- nothing new is owed but starts of children and reports of the node
    pub owes : (y : Name) → is_kid y.block y.node ≡ false → u.starts y ≡ (base.view h).starts y
    pub reports : (y : Name) → (x ≡ y → ⊥) → u.reports y ≤ (base.view h).reports y
    -- of other nodes the rule remembers what it did
    pub named_other : (y : Name) → (x ≡ y → ⊥) → past.named y ≡ s.past.named y
    -- no other homes moved
    pub far : (i n : ℕ) → (i == x.block && n == x.node) ≡ false → is_kid i n ≡ false → home i n ≡ s.home i n
    -- the node's home is out where a hand holds it, or has it as a finished root
    pub own : is_out (home x.block x.node) ≡ (is_held w || (is_done w && is_root base.tree x.node))
    -- and full where it waits, rests, or is to report
    pub waits : (is_waiting w || is_resting w) ≡ true → is_full (home x.block x.node) ≡ true
    pub settled : (is_done w && not (is_root base.tree x.node)) ≡ true → is_full (home x.block x.node) ≡ true
    pub kids : (n : ℕ) → is_child base.tree x.node n ≡ true → KidMoves n
    -- where it waits, none of the children is forgotten that its last await named
    pub named : is_waiting w ≡ true → named_below moved x ≡ past.named x
    -- and where it doesn't, as many of them are done
    pub met : is_waiting w ≡ false → past.named x ≤ done_below base x
    -- no child has begun where its last await named none
    pub asked : (n : ℕ) → is_child base.tree x.node n ≡ true → is_idle (control_at base (beside x n)) ≡ false → 1 ≤ past.named x

  module _ (mv : Moves) where
    pub word-here : control_at put_state x ≡ w
    word-here = reads-here base h x w u p

    pub word-other : (y : Name) → (x ≡ y → ⊥) → control_at put_state y ≡ control_at base y
    word-other = reads-other base h x w u p

    x-within : x.node < size base
    x-within = (lives base x p.live).node

    -- a parent of the node waits for it
    pub parent-waits : (q : ℕ) → is_child base.tree q x.node ≡ true → IsWaiting (control_at base (beside x q))
    parent-waits q child =
        let most : weight base x ≤ pending (control_at base (beside x q)) =
        weight-most base (beside x q) x.node p.sound x-within child in
        let way : one (is_under_way (control_at base x)) ≡ 1 = ap one mv.under_way in
        pending-waits (control_at base (beside x q)) (omega (arith, most, way))

    pub parent-other : (q : ℕ) → is_child base.tree q x.node ≡ true → x ≡ beside x q → ⊥
    parent-other q child e = parent-differs base.tree p.sound.tree q x.node child (λ k. (sym e k).node)

    pub kid-other : (n : ℕ) → is_child base.tree x.node n ≡ true → x ≡ beside x n → ⊥
    kid-other n child e = parent-differs base.tree p.sound.tree x.node n child (λ k. (e k).node)

    pub kid-live : (n : ℕ) → is_child base.tree x.node n ≡ true → is_live base (beside x n) ≡ true
    kid-live n child =
        let l = lives base x p.live in
        is_live-from base (beside x n) (record {
          block = l.block;
          node = child-within base.tree x.node n child;
          is_opened = l.is_opened;
          generation = l.generation;
        })

    -- a live node is this one, a child of it, or one whose home didn't move
    pub by_place : {G : Type 0} (y : Name) → is_live base y ≡ true → (x ≡ y → G) →
        ((n : ℕ) → is_child base.tree x.node n ≡ true → beside x n ≡ y → G) →
        ((x ≡ y → ⊥) → is_kid y.block y.node ≡ false → home y.block y.node ≡ s.home y.block y.node → G) → G
    by_place y live own kid other =
        by_name x y own
        (λ ne.
        either (is_kid y.block y.node)
        (λ t.
        let parts = and_parts (y.block == x.block) (is_child base.tree x.node y.node) t in
        kid y.node parts.1
        (live_unique base (beside x y.node) y (kid-live y.node parts.1) live (sym (eqb-true y.block x.block parts.0)) refl))
        (λ apart.
        other ne apart
        (mv.far y.block y.node
        (false_from_ne_true (y.block == x.block && y.node == x.node) (λ t.
        let parts = and_parts (y.block == x.block) (y.node == x.node) t in
        ne (live_unique base x y p.live live (sym (eqb-true y.block x.block parts.0)) (sym (eqb-true y.node x.node parts.1)))))
        apart)))

    -- a full home of another node was full with that
    pub item-before : (y : Name) → is_live base y ≡ true → (x ≡ y → ⊥) → (item : P) → home y.block y.node ≡ Full item →
        s.home y.block y.node ≡ Full item
    item-before y live ne item e =
        by_place y live (λ is. absurd (ne is))
        (λ n child is.
        subst (λ z. home z.block z.node ≡ Full item → s.home z.block z.node ≡ Full item) is
        (λ full.
        ⊎_elim (λ (same : home x.block n ≡ s.home x.block n). sym same ∙ full)
        (λ gone. absurd (both_ways (is_full (home x.block n)) gone.0 (ap is_full full)))
        (mv.kids n child).keeps) e)
        (λ _ _ same. sym same ∙ e)

    pub full-before : (y : Name) → is_live base y ≡ true → (x ≡ y → ⊥) → is_full (home y.block y.node) ≡ true →
        is_full (s.home y.block y.node) ≡ true
    full-before y live ne full =
        by_place y live (λ is. absurd (ne is))
        (λ n child is.
        subst (λ z. is_full (home z.block z.node) ≡ true → is_full (s.home z.block z.node) ≡ true) is
        (λ is_now.
        ⊎_elim (λ (same : home x.block n ≡ s.home x.block n). ap is_full (sym same) ∙ is_now)
        (λ gone. absurd (both_ways (is_full (home x.block n)) gone.0 is_now))
        (mv.kids n child).keeps) full)
        (λ _ _ same. ap is_full (sym same) ∙ full)

    -- one that was full and had to be is still full
    pub full-still : (y : Name) → is_live base y ≡ true → (x ≡ y → ⊥) →
        ((is_under_way (control_at base y) ≡ true) ⊎ (1 ≤ stand put_state (λ v. v.reports) y)) →
        is_full (s.home y.block y.node) ≡ true → is_full (home y.block y.node) ≡ true
    full-still y live ne why full =
        by_place y live (λ is. absurd (ne is))
        (λ n child is.
        subst (λ z. ((is_under_way (control_at base z) ≡ true) ⊎ (1 ≤ stand put_state (λ v. v.reports) z)) →
        is_full (s.home z.block z.node) ≡ true → is_full (home z.block z.node) ≡ true) is
        (λ because was.
        ⊎_elim (λ (same : home x.block n ≡ s.home x.block n). ap is_full same ∙ was)
        (λ gone.
        ⊎_elim (λ (busy : is_under_way (control_at base (beside x n)) ≡ true). absurd (both_ways _ gone.1 busy))
        (λ (owed : 1 ≤ stand put_state (λ v. v.reports) (beside x n)). let none = gone.2 in absurd (omega (arith, owed, none))) because)
        (mv.kids n child).keeps) why full)
        (λ _ _ same. ap is_full same ∙ full)

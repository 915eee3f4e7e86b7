-- Whose homes are out after a step on the control word of a node under way.
use Rattle.std.proofs.Common.{◌≡◌, ℕ, ◌+◌, Bool, true, false, ◌&&◌, ◌||◌, ◌==◌, Option, Some, None, refl, sym, ap, ◌∙◌, subst, arith}
use Rattle.std.specs.Prelude.{nat_le}
use Rattle.std.specs.Option.{option_map_or}
use Rattle.std.proofs.lemmas.Bool.{and_parts, and_from, both_ways, eq-eqb, false_from_ne_true}
use Rattle.life_rules.specs.declared.words.ControlWord.{ControlWord}
use Rattle.life_rules.specs.declared.event.Name.{Name}
use Rattle.node_tree.specs.Tree.{is_root, is_child, parent_of}
use Rattle.life_rules.specs.Words.{is_done, is_held}
use Rattle.life_rules.specs.Views.{View, beside}
use Rattle.common_lemmas.specs.Sums.{one}
use Rattle.life_rules.specs.States.{State, is_live, control_at, stand}
use Rattle.common_lemmas.proofs.Bool.{one-false}
use Rattle.life_kept.proofs.Trees.{child-parent, parent-child, child-within, root-orphan}
use Rattle.life_kept.proofs.Fitting.{Fits-busy}
use Rattle.life_kept.proofs.Puts.{IsPut, stays}
use Rattle.table_rules.specs.Scenes.{Home, is_out, Past, Scene}
use Rattle.table_rules.specs.Homes.{seats_of, HomesStand}
use Rattle.table_life_kept.proofs.Move.State as moving
use Rattle.table_life_kept.proofs.Move.State.{Moves, some-seat, no-seat}

or-seat : (a b : Bool) (n : ℕ) → n ≡ one a + one b → (a || b) ≡ nat_le 1 n
or-seat true b n e = sym (some-seat n (omega (arith, e)))
or-seat false true n e = sym (some-seat n (omega (arith, e)))
or-seat false false n e = sym (no-seat n e)

-- a step of a hand on a node: the word and the view that it leaves, and the homes and the past after it
pub record Move {P E : Type 0} (s : Scene P E) : Type 0 where
  pub hand : ℕ
  pub name : Name
  pub word : ControlWord
  pub view : View
  pub put : IsPut s.state hand name word view
  pub home : ℕ → ℕ → Home P
  pub past : Past P E
  pub moves : Moves s hand name word view put home past

module _ {P E : Type 0} (s : Scene P E) (task : Move s) where
  open task use {hand as h, name as x, word as w, view as u, put as p, home, past, moves as mv}

  abbrev base : State
  base = s.state

  abbrev put_state : State
  put_state = moving.put_state s h x w u p home past

  abbrev moved : Scene P E
  moved = moving.moved s h x w u p home past

  abbrev is_kid : ℕ → ℕ → Bool
  is_kid = moving.is_kid s h x w u p home past

  word-here : control_at put_state x ≡ w
  word-here = moving.word-here s h x w u p home past mv

  word-other : (y : Name) → (x ≡ y → ⊥) → control_at put_state y ≡ control_at base y
  word-other = moving.word-other s h x w u p home past mv

  kid-other : (n : ℕ) → is_child base.tree x.node n ≡ true → x ≡ beside x n → ⊥
  kid-other = moving.kid-other s h x w u p home past mv

  pub starts-same : (y : Name) → is_kid y.block y.node ≡ false → stand put_state (λ v. v.starts) y ≡ stand base (λ v. v.starts) y
  starts-same y apart = stays base h x w u p (λ v. v.starts) y (mv.owes y apart)

  holds-now : (y : Name) → stand put_state (λ v. v.holds) y ≡ one (is_held (control_at put_state y))
  holds-now y = (mv.sound.owned.names y).held

  holds-same : (y : Name) → (x ≡ y → ⊥) → stand put_state (λ v. v.holds) y ≡ stand base (λ v. v.holds) y
  holds-same y ne =
      holds-now y ∙ ap (λ c. one (is_held c)) (word-other y ne) ∙ sym (p.sound.owned.names y).held

  finished-now : (y : Name) → stand put_state (λ v. v.finished) y ≡ one (is_done (control_at put_state y) && is_root base.tree y.node)
  finished-now y = (mv.sound.owned.names y).finish

  finished-same : (y : Name) → (x ≡ y → ⊥) → stand put_state (λ v. v.finished) y ≡ stand base (λ v. v.finished) y
  finished-same y ne =
      finished-now y ∙ ap (λ c. one (is_done c && is_root base.tree y.node)) (word-other y ne) ∙ sym (p.sound.owned.names y).finish

  not-kid : is_kid x.block x.node ≡ false
  not-kid =
      false_from_ne_true (is_kid x.block x.node) (λ t.
      kid-other x.node (and_parts (x.block == x.block) (is_child base.tree x.node x.node) t).1 refl)

  pub starts-none : stand put_state (λ v. v.starts) x ≡ 0
  starts-none =
      starts-same x not-kid ∙ (Fits-busy mv.under_way (p.sound.owned.names x)).starts

  -- the slot of a node's parent's holder, where nobody holds the parent
  above-none : (o : Option ℕ) → parent_of base.tree x.node ≡ o →
      option_map_or (λ q. stand put_state (λ v. v.holds) (beside x q)) o 0 ≡ 0
  above-none None is = refl
  above-none (Some q) is =
      let child = parent-child base.tree q x.node is in
      holds-now (beside x q) ∙ ap (λ c. one (is_held c)) (word-other (beside x q) (moving.parent-other s h x w u p home past mv q child))
      ∙ one-false (moving.parent-waits s h x w u p home past mv q child).held

  out-own : is_out (home x.block x.node) ≡ nat_le 1 (seats_of moved x)
  out-own =
      let a = starts-none in
      let b : stand put_state (λ v. v.holds) x ≡ one (is_held w) = holds-now x ∙ ap (λ c. one (is_held c)) word-here in
      let c : stand put_state (λ v. v.finished) x ≡ one (is_done w && is_root base.tree x.node) =
      finished-now x ∙ ap (λ c. one (is_done c && is_root base.tree x.node)) word-here in
      let d = above-none (parent_of base.tree x.node) refl in
      mv.own ∙ or-seat (is_held w) (is_done w && is_root base.tree x.node) (seats_of moved x) (omega (arith, a, b, c, d))

  out-kid : (n : ℕ) → is_child base.tree x.node n ≡ true → is_out (home x.block n) ≡ nat_le 1 (seats_of moved (beside x n))
  out-kid n child =
      let y = beside x n in
      let root : is_root base.tree n ≡ false =
      false_from_ne_true (is_root base.tree n) (λ t.
      both_ways (is_child base.tree x.node n)
      (root-orphan base.tree p.sound.tree x.node n (child-within base.tree x.node n child) t) child) in
      let b : stand put_state (λ v. v.holds) y ≡ one (is_held (control_at base y)) =
      holds-now y ∙ ap (λ c. one (is_held c)) (word-other y (kid-other n child)) in
      let c : stand put_state (λ v. v.finished) y ≡ 0 =
      finished-now y ∙ ap (λ r. one (is_done (control_at put_state y) && r)) root
      ∙ one-false (and-none (is_done (control_at put_state y))) in
      let d : option_map_or (λ q. stand put_state (λ v. v.holds) (beside y q)) (parent_of base.tree n) 0 ≡ one (is_held w) =
      ap (λ o. option_map_or (λ q. stand put_state (λ v. v.holds) (beside y q)) o 0) (child-parent base.tree x.node n child)
      ∙ holds-now x ∙ ap (λ c. one (is_held c)) word-here in
      let all : stand put_state (λ v. v.starts) y + one (is_held (control_at base y)) + one (is_held w) ≡ seats_of moved y =
      omega (arith, b, c, d) in
      (mv.kids n child).out ∙ ap (nat_le 1) all
    where
      and-none : (a : Bool) → (a && false) ≡ false
      and-none true = refl
      and-none false = refl

  seats-far : (y : Name) → (x ≡ y → ⊥) → is_kid y.block y.node ≡ false → is_live base y ≡ true → seats_of moved y ≡ seats_of s y
  seats-far y ne apart live =
      let above = above-same (parent_of base.tree y.node) refl in
      λ k. starts-same y apart k + holds-same y ne k + finished-same y ne k + above k
    where
      above-same : (o : Option ℕ) → parent_of base.tree y.node ≡ o →
          option_map_or (λ q. stand put_state (λ v. v.holds) (beside y q)) o 0
          ≡ option_map_or (λ q. stand base (λ v. v.holds) (beside y q)) o 0
      above-same None is = refl
      above-same (Some q) is =
          holds-same (beside y q) (λ e.
          let child : is_child base.tree x.node y.node ≡ true =
          subst (λ m. is_child base.tree m y.node ≡ true) (λ k. (sym e k).node) (parent-child base.tree q y.node is) in
          both_ways (is_kid y.block y.node) apart
          (and_from (y.block == x.block) (is_child base.tree x.node y.node) (eq-eqb y.block x.block (λ k. (sym e k).block)) child))

  pub out-moved : HomesStand s → (y : Name) → is_live base y ≡ true → is_out (home y.block y.node) ≡ nat_le 1 (seats_of moved y)
  out-moved homes y live =
      moving.by_place s h x w u p home past mv y live
      (λ e. subst (λ z. is_out (home z.block z.node) ≡ nat_le 1 (seats_of moved z)) e out-own)
      (λ n child e. subst (λ z. is_out (home z.block z.node) ≡ nat_le 1 (seats_of moved z)) e (out-kid n child))
      (λ ne apart same. ap is_out same ∙ homes.out y live ∙ sym (ap (nat_le 1) (seats-far y ne apart live)))

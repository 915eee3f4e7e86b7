-- A hand that takes the empty homes of a node's children carries each slot once, and as its view gives it.
use Rattle.std.proofs.Common.{◌≡◌, ◌≢◌, inl, inr, ℕ, zero, suc, ◌<◌, Bool, true, false, ◌||◌, ◌==◌, List, [], ◌∷◌, length, refl, sym, ap, ◌∙◌, subst, arith}
use Rattle.std.specs.Prelude.{Option, None}
use Rattle.std.specs.List.{list_any}
use Rattle.std.proofs.lemmas.Bool.{and_from, cond-true, cond-false, eq-eqb, eqb-true, lt-ltb}
use Rattle.std.proofs.lemmas.Nat.{same_from_place}
use mathlib.Core.Option.{some}
use lib.ListN.{get_elem?}
use Rattle.node_tree.specs.declared.node.TreeNode.{TreeNode}
use Rattle.life_rules.specs.declared.event.Name.{Name}
use Rattle.node_tree.specs.Tree.{is_child}
use Rattle.common_lemmas.proofs.Bool.{either}
use Rattle.life_kept.proofs.Trees.{child-within}
use Rattle.table_words.specs.declared.layout.Layout.{Layout}
use Rattle.table_words.specs.Layouts.{place_number}
use Rattle.table_rules.specs.declared.cargo.Cargo.{Ghosts}
use Rattle.table_rules.specs.declared.frame.Frame.{Frame}
use Rattle.table_rules.specs.declared.view.View.{View}
use Rattle.table_rules.specs.Named.{without, Each}
use Rattle.table_steps.specs.Claims.{with_step, logged, owes_root}
use Rattle.table_steps.specs.Kids.{children_below, empty_slots}
use Rattle.table_steps.specs.Slots.{slot_of, kids_of, is_of_family, has_slot, AreApart, IsSeated}
use Rattle.table_steps.specs.Begins.{begins}
use Rattle.table_kept.proofs.Standing.{Standing}
use Rattle.table_kept.proofs.Entries.{each-map, any-without}
use Rattle.table_kept.proofs.KidSlots.{Descends, has-kid}
use Rattle.table_kept.proofs.SlotsOut.{apart-home}

pub or-left : (a b : Bool) → a ≡ true → (a || b) ≡ true
or-left a b e = ap (λ t. t || b) e

pub or-right : (a b : Bool) → b ≡ true → (a || b) ≡ true
or-right true b e = refl
or-right false b e = e

pub or-cases : {G : Type 0} (a b : Bool) → (a || b) ≡ true → (a ≡ true → G) → (b ≡ true → G) → G
or-cases true b h left right = left refl
or-cases false b h left right = right h

pub any-imp : {A : Type 0} (t u : A → Bool) → ((a : A) → t a ≡ true → u a ≡ true) → (l : List A) →
    list_any t l ≡ true → list_any u l ≡ true
any-imp t u f [] h = h
any-imp t u f (a ∷ l) h =
    or-cases (t a) (list_any t l) h (λ here. or-left (u a) (list_any u l) (f a here))
    (λ there. or-right (u a) (list_any u l) (any-imp t u f l there))

-- the children of a node among the first so many
pub kids-are : (tree : List TreeNode) (p count : ℕ) → Each (λ n. is_child tree p n ≡ true) (children_below tree p count)
kids-are tree p zero = tt
kids-are tree p (suc n) =
    either (is_child tree p n)
    (λ t. subst (Each (λ m. is_child tree p m ≡ true))
    (sym (cond-true (is_child tree p n) (n ∷ children_below tree p n) (children_below tree p n) t)) (t, kids-are tree p n))
    (λ f. subst (Each (λ m. is_child tree p m ≡ true))
    (sym (cond-false (is_child tree p n) (n ∷ children_below tree p n) (children_below tree p n) f)) (kids-are tree p n))

-- the slot of a child is one of the children's, and so of the family's
pub kid-any-number : (tree : List TreeNode) (x : Name) (n : ℕ) → is_child tree x.node n ≡ true →
    list_any (λ q. n == q) (kids_of tree x.node) ≡ true
kid-any-number tree x n child =
    has-kid tree x.node (length tree) n ∙ and_from _ _ (lt-ltb n (length tree) (child-within tree x.node n child)) child

pub kid-any : (tree : List TreeNode) (l : Layout) (x : Name) (n : ℕ) → is_child tree x.node n ≡ true →
    list_any (λ q. place_number l x.block q == place_number l x.block n) (kids_of tree x.node) ≡ true
kid-any tree l x n child =
    any-imp (λ q. n == q) (λ q. place_number l x.block q == place_number l x.block n)
    (λ q e. eq-eqb _ _ (ap (place_number l x.block) (sym (eqb-true n q e)))) (kids_of tree x.node)
    (kid-any-number tree x n child)

pub kid-of-family : (tree : List TreeNode) (l : Layout) (x : Name) (n : ℕ) → is_child tree x.node n ≡ true →
    is_of_family tree l x (place_number l x.block n) ≡ true
kid-of-family tree l x n child =
    or-right (slot_of l x == place_number l x.block n) (list_any (λ q. place_number l x.block q == place_number l x.block n) (kids_of tree x.node))
    (kid-any tree l x n child)

pub each-slots : {P : Type 0} (Q : ℕ × Option P → Type 0) (l : Layout) (b : ℕ) (ns : List ℕ) (c : List (ℕ × Option P)) →
    Each (λ n. Q (place_number l b n, None)) ns → Each Q c → Each Q (empty_slots l b ns c)
each-slots Q l b [] c all rest = rest
each-slots Q l b (n ∷ ns) c all rest = (all.0, each-slots Q l b ns c all.1 rest)

-- homes of one block that are taken empty stand apart, and apart from those that the hand had
pub apart-slots : {P : Type 0} (l : Layout) (b : ℕ) (ns : List ℕ) (c : List (ℕ × Option P)) → Descends ns →
    Each (λ n. n < l.nodes) ns → Each (λ n. Each (λ d. d.0 ≢ place_number l b n) c) ns → AreApart c →
    AreApart (empty_slots l b ns c)
apart-slots l b [] c down within others apart = apart
apart-slots l b (n ∷ ns) c down within others apart = (
  each-slots (λ d. d.0 ≢ place_number l b n) l b ns c
      (below ns down.0 within.1) others.0,
  apart-slots l b ns c down.1 within.1 others.1 apart,
)
  where
    below : (ms : List ℕ) → Each (λ m. m < n) ms → Each (λ m. m < l.nodes) ms →
        Each (λ m. place_number l b m ≢ place_number l b n) ms
    below [] less near = tt
    below (m ∷ ms) less near = (
      (λ e.
          let same = (same_from_place b m b n l.nodes near.0 within.0 e).1 in
          let h = less.0 in absurd (omega (arith, same, h))),
      below ms less.1 near.1,
    )

-- a step that is listed changes nothing of it
pub seated-listed : {P E : Type 0} (tree : List TreeNode) (l : Layout) (i n left : ℕ) (m : View P E × List (ℕ × Option P)) →
    IsSeated tree l m → IsSeated tree l (with_step i n left m.0, m.1)
seated-listed tree l i n left m old = record { apart = old.apart; given = old.given; itself = old.itself }

pub seated-logged : {P E : Type 0} (tree : List TreeNode) (l : Layout) (i n : ℕ) (m : View P E × List (ℕ × Option P)) →
    IsSeated tree l m → IsSeated tree l (logged i n m.0, m.1)
seated-logged tree l i n m old = record { apart = old.apart; given = old.given; itself = old.itself }

-- what the view gave its hand it still gives it after it came to owe a root's start
pub given-owed : {P E : Type 0} (tree : List TreeNode) (l : Layout) (x : Name) (i n left : ℕ) (v : View P E) (slot : ℕ) →
    has_slot tree l v slot ≡ true → has_slot tree l (with_step i n left (owes_root x v)) slot ≡ true
given-owed tree l x i n left v slot h =
    let a = list_any (λ e. slot_of l e.name == slot) v.owed in
    let b = list_any (λ e. is_of_family tree l e.name slot) v.held in
    let c = list_any (λ y. slot_of l y == slot) v.finished in
    or-cases a (b || c) h
    (λ owed. or-left (slot_of l x == slot || a) (b || c) (or-right (slot_of l x == slot) a owed))
    (λ more. or-right (slot_of l x == slot || a) (b || c) more)

-- what the view gave its hand it still gives it after the node was begun
given-begun : {P E : Type 0} (tree : List TreeNode) (l : Layout) (x : Name) (start : List E) (told kids : Bool) (i n left : ℕ) (v : View P E) (slot : ℕ) →
    has_slot tree l v slot ≡ true → has_slot tree l (with_step i n left (begins tree x start told kids v)) slot ≡ true
given-begun tree l x start told kids i n left v slot h =
    let a = list_any (λ e. slot_of l e.name == slot) v.owed in
    let a2 = list_any (λ e. slot_of l e.name == slot) (without (λ e. e.name) v.owed x) in
    let own = is_of_family tree l x slot in
    let b = list_any (λ e. is_of_family tree l e.name slot) v.held in
    let c = list_any (λ y. slot_of l y == slot) v.finished in
    or-cases a (b || c) h
    (λ owed.
    elim (any-without (λ e. e.name) (λ e. slot_of l e.name == slot) v.owed x owed) [
      | inl still ↦ or-left a2 ((own || b) || c) still
      | inr here ↦
          or-right a2 ((own || b) || c)
          (or-left (own || b) c
          (or-left own b
          (or-left (slot_of l x == slot) _ (ap (λ y. slot_of l y == slot) (sym here.1) ∙ here.2))))
    ])
    (λ more.
    or-cases b c more
    (λ held. or-right a2 ((own || b) || c) (or-left (own || b) c (or-right own b held)))
    (λ finished. or-right a2 ((own || b) || c) (or-right (own || b) c finished)))

module _ {P E O : Type 0} (cargo : Ghosts P E O) (f : Frame O) (hand : Standing cargo f) (x : Name)
    (c : List (ℕ × Option P)) where
  open hand use {state as s, id, view as v, running as r, at}

  abbrev kids : List ℕ
  kids = kids_of f.tree x.node

  pub seated-begun : (start : List E) (told told_kids : Bool) (i n left : ℕ) → Descends kids → Each (λ m. m < f.layout.nodes) kids →
      Each (λ m. get_elem? s.homes (place_number f.layout x.block m) ≡ some (some None)) kids → IsSeated f.tree f.layout (v, c) →
      IsSeated f.tree f.layout (with_step i n left (begins f.tree x start told told_kids v), empty_slots f.layout x.block kids c)
  seated-begun start told told_kids i n left down within homes old =
      let mine = with_step i n left (begins f.tree x start told told_kids v) in
      record {
        apart = apart-slots f.layout x.block kids c down within
            (each-map (λ m. get_elem? s.homes (place_number f.layout x.block m) ≡ some (some None))
            (λ m. Each (λ d. d.0 ≢ place_number f.layout x.block m) c)
            (λ m home. apart-home cargo f hand (place_number f.layout x.block m) None c home old.given) kids homes)
            old.apart;
        given = each-slots (λ d. has_slot f.tree f.layout mine d.0 ≡ true) f.layout x.block kids c
            (each-map (λ m. is_child f.tree x.node m ≡ true)
            (λ m. has_slot f.tree f.layout mine (place_number f.layout x.block m) ≡ true)
            (λ m child. or-right _ _ (or-left _ _ (or-left _ _ (kid-of-family f.tree f.layout x m child))))
            kids (kids-are f.tree x.node (length f.tree)))
            (each-map (λ d. has_slot f.tree f.layout v d.0 ≡ true) (λ d. has_slot f.tree f.layout mine d.0 ≡ true)
            (λ d. given-begun f.tree f.layout x start told told_kids i n left v d.0) c old.given);
        itself = old.itself;
      }

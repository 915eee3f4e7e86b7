-- The slots of a node's children are taken one after another.
use Rattle.std.proofs.Common.{◌≡◌, ℕ, zero, suc, ◌+◌, ◌<◌, Bool, true, false, ◌&&◌, ◌||◌, ◌==◌, nat_lt, cond, List, [], ◌∷◌, length, refl, sym, ap, ◌∙◌, subst, arith, length-set}
use Rattle.std.specs.Prelude.{Option, None}
use Rattle.std.specs.List.{list_any}
use Rattle.std.proofs.lemmas.Bool.{cond-true, cond-false, and_from, eqb-true, ne_eqb, lt-ltb}
use Rattle.std.proofs.lemmas.Bool.Decides.{nat_tests}
use mathlib.Core.Option.{some}
use mathlib.Core.Option as maybe
use Rattle.node_tree.specs.declared.node.TreeNode.{TreeNode}
use Rattle.node_tree.specs.Tree.{is_child}
use Rattle.common_lemmas.proofs.Bool.{either}
use Rattle.table_words.specs.declared.layout.Layout.{Layout}
use Rattle.table_words.specs.Layouts.{place_number, places_in}
use Rattle.table_words.proofs.Spots.{place-within}
use Rattle.atomic_table.specs.Table.{Act, keeps, takes, chain, homes_after, carried_after, Valid}
use lib.ListN.{get_elem?}
use Rattle.table_rules.specs.Named.{Each}
use Rattle.table_rules.specs.ShownWords.{is_there}
use Rattle.table_rules.specs.Scenes.{Out, Empty, home_in}
use Rattle.table_steps.specs.Kids.{children_below, empty_slots}
use Rattle.table_kept.proofs.HomeMoves.{home_of_place, empty-home, taken}

-- the act that takes the homes of these nodes
pub take_each : {P : Type 0} → Layout → ℕ → List ℕ → Act (Option P)
take_each l b [] = keeps
take_each l b (n ∷ ns) = chain (take_each l b ns) (takes (place_number l b n) None)

pub both-out : {A : Type 0} (a x y : Bool) (out h : A) →
    cond (a && x) out (cond (a && y) out h) ≡ cond (a && (x || y)) out h
both-out true true y out h = refl
both-out true false y out h = refl
both-out false x y out h = refl

pub and-none : (a : Bool) → (a && false) ≡ false
and-none true = refl
and-none false = refl

module _ {P : Type 0} (l : Layout) (homes : List (maybe.Option (Option P))) (c : List (ℕ × Option P)) (deep : length homes ≡ places_in l) (b : ℕ) (hb : b < l.blocks) where
  abbrev after_them : List ℕ → List (maybe.Option (Option P))
  after_them ns = homes_after homes c (take_each l b ns)

  pub carries : (ns : List ℕ) → carried_after c (take_each l b ns) ≡ empty_slots l b ns c
  unfolding take_each
  carries [] = refl
  carries (n ∷ ns) = λ k. (place_number l b n, None) ∷ carries ns k

  pub deep-after : (ns : List ℕ) → length (after_them ns) ≡ places_in l
  unfolding take_each
  deep-after [] = deep
  deep-after (n ∷ ns) = length-set (after_them ns) (place_number l b n) maybe.none ∙ deep-after ns

  -- these homes are out, the others are as before
  pub each-out : (ns : List ℕ) → Each (λ n. n < l.nodes) ns → (i m : ℕ) →
      home_of_place l (after_them ns) i m
      ≡ cond (i == b && list_any (λ q. m == q) ns) Out (home_of_place l homes i m)
  unfolding take_each
  each-out [] all i m = sym (cond-false (i == b && false) Out (home_of_place l homes i m) (and-none (i == b)))
  each-out (n ∷ ns) all i m =
      taken l (after_them ns) (deep-after ns) b n hb all.0 i m
      ∙ ap (cond (i == b && m == n) Out) (each-out ns all.1 i m)
      ∙ both-out (i == b) (m == n) (list_any (λ q. m == q) ns) Out (home_of_place l homes i m)

module _ (tree : List TreeNode) (p : ℕ) where
  -- a child is in the list where it is among the first so many
  pub has-kid : (count m : ℕ) →
      list_any (λ q. m == q) (children_below tree p count) ≡ (nat_lt m count && is_child tree p m)
  has-kid zero m = grind (arith, nat_tests)
  has-kid (suc n) m =
      let old = has-kid n m in
      either (is_child tree p n)
      (λ t.
      ap (list_any (λ q. m == q)) (cond-true (is_child tree p n) (n ∷ children_below tree p n) (children_below tree p n) t)
      ∙ ap (λ b. m == n || b) old
      ∙ either (m == n)
      (λ e.
      let same : m ≡ n = eqb-true m n e in
      let below : nat_lt m (suc n) ≡ true = lt-ltb m (suc n) (omega arith) in
      ap (λ b. b || (nat_lt m n && is_child tree p m)) e ∙ sym (ap (λ b. b && is_child tree p m) below ∙ ap (is_child tree p) same ∙ t))
      (λ ne. ap (λ b. b || (nat_lt m n && is_child tree p m)) ne ∙ ap (λ b. b && is_child tree p m) (narrow m n ne)))
      (λ f.
      ap (list_any (λ q. m == q)) (cond-false (is_child tree p n) (n ∷ children_below tree p n) (children_below tree p n) f)
      ∙ old
      ∙ either (m == n)
      (λ e.
      let same : m ≡ n = eqb-true m n e in
      let child : is_child tree p m ≡ false = ap (is_child tree p) same ∙ f in
      ap (λ b. nat_lt m n && b) child ∙ and-none (nat_lt m n)
      ∙ sym (ap (λ b. nat_lt m (suc n) && b) child ∙ and-none (nat_lt m (suc n))))
      (λ ne. ap (λ b. b && is_child tree p m) (narrow m n ne)))
    where
      narrow : (m n : ℕ) → (m == n) ≡ false → nat_lt m n ≡ nat_lt m (suc n)
      narrow m n ne = grind (arith, nat_tests)

  pub kids-below : (count : ℕ) → Each (λ m. m < count) (children_below tree p count)
  kids-below zero = tt
  kids-below (suc n) =
      let old = wider (children_below tree p n) n (kids-below n) in
      either (is_child tree p n)
      (λ t. Rattle.std.proofs.Common.subst (Each (λ m. m < suc n))
      (sym (cond-true (is_child tree p n) (n ∷ children_below tree p n) (children_below tree p n) t)) (omega arith, old))
      (λ f. Rattle.std.proofs.Common.subst (Each (λ m. m < suc n))
      (sym (cond-false (is_child tree p n) (n ∷ children_below tree p n) (children_below tree p n) f)) old)
    where
      wider : (ns : List ℕ) (n : ℕ) → Each (λ m. m < n) ns → Each (λ m. m < suc n) ns
      wider [] n all = tt
      wider (m ∷ ms) n all = (let h = all.0 in omega (arith, h), wider ms n all.1)

-- each number of the list is above those after it
abbrev pub Descends : List ℕ → Type 0
Descends [] = Unit {0}
Descends (n ∷ ns) = Each (λ m. m < n) ns × Descends ns

not-any : (n : ℕ) (ns : List ℕ) → Each (λ m. m < n) ns → list_any (λ q. n == q) ns ≡ false
not-any n [] all = refl
not-any n (m ∷ ms) all =
    let h = all.0 in
    let ne : (n == m) ≡ false = ne_eqb n m (λ e. absurd (omega (arith, h, e))) in
    ap (λ b. b || list_any (λ q. n == q) ms) ne ∙ not-any n ms all.1

pub kids-descend : (tree : List TreeNode) (p count : ℕ) → Descends (children_below tree p count)
kids-descend tree p zero = tt
kids-descend tree p (suc n) =
    either (is_child tree p n)
    (λ t. subst Descends (sym (cond-true (is_child tree p n) (n ∷ children_below tree p n) (children_below tree p n) t))
    (kids-below tree p n, kids-descend tree p n))
    (λ f. subst Descends (sym (cond-false (is_child tree p n) (n ∷ children_below tree p n) (children_below tree p n) f))
    (kids-descend tree p n))

-- empty homes may be taken one after another
pub each-valid : {P : Type 0} (l : Layout) (homes : List (maybe.Option (Option P))) (c : List (ℕ × Option P)) → length homes ≡ places_in l →
    (b : ℕ) → b < l.blocks → (ns : List ℕ) → Each (λ n. n < l.nodes) ns → Descends ns →
    Each (λ n. home_of_place l homes b n ≡ Empty) ns → Valid homes c (take_each l b ns)
unfolding take_each
each-valid l homes c deep b hb [] all down empty = tt
each-valid l homes c deep b hb (n ∷ ns) all down empty =
    let hs = homes_after homes c (take_each l b ns) in
    let there : is_there l b n ≡ true = and_from _ _ (lt-ltb b l.blocks hb) (lt-ltb n l.nodes all.0) in
    let long = deep-after l homes c deep b hb ns in
    let w = place-within l b n hb all.0 in
    let out : (b == b && list_any (λ q. n == q) ns) ≡ false =
    ap (λ t. b == b && t) (not-any n ns down.0) ∙ and-none (b == b) in
    let home : home_in (get_elem? hs (place_number l b n)) ≡ Empty =
    sym (cond-true (is_there l b n) (home_in (get_elem? hs (place_number l b n))) Empty there)
    ∙ each-out l homes c deep b hb ns all.1 b n
    ∙ cond-false (b == b && list_any (λ q. n == q) ns) Out (home_of_place l homes b n) out
    ∙ empty.0 in (
      each-valid l homes c deep b hb ns all.1 down.1 empty.1,
      empty-home hs (place_number l b n) (omega (arith, long, w)) home,
    )

-- The lists of an await: the starts that it makes owed, and the slots that it gives back.
use Rattle.std.proofs.Common.{◌≡◌, inl, inr, ℕ, ℤ, ◌+◌, ◌<◌, Bool, true, false, not, ◌&&◌, ◌||◌, ◌==◌, List, [], ◌∷◌, length, refl, sym, ap, ◌∙◌, subst, arith}
use Rattle.std.specs.Prelude.{Option}
use Rattle.std.specs.List.{list_any, list_all}
use Rattle.std.proofs.lemmas.Bool.{and_parts, and_from, both_ways, not-true, eqb-true, eq-eqb, false_from_ne_true}
use Rattle.std.proofs.lemmas.Nat.{same_from_place}
use Rattle.node_tree.specs.declared.node.TreeNode.{TreeNode}
use Rattle.life_rules.specs.declared.event.Name.{Name}
use Rattle.node_tree.specs.Tree.{is_child}
use Rattle.common_lemmas.specs.Sums.{one}
use Rattle.life_rules.specs.Views.{same, beside}
use Rattle.common_lemmas.specs.Lists.{are_different}
use Rattle.common_lemmas.proofs.Bool.{either}
use Rattle.life_rules.proofs.Names.{same-true}
use Rattle.life_kept.proofs.Members.{any-beside}
use Rattle.life_kept.proofs.Trees.{child-within}
use Rattle.table_words.specs.declared.layout.Layout.{Layout}
use Rattle.table_words.specs.Layouts.{place_number}
use Rattle.table_rules.specs.declared.view.Held.{Held}
use Rattle.table_rules.specs.declared.view.View.{View}
use Rattle.table_rules.specs.declared.view.Owed.{Owed}
use Rattle.table_rules.specs.Named.{count_by, without, Each}
use Rattle.table_steps.specs.Claims.{with_step}
use Rattle.table_steps.specs.Slots.{slot_of, kids_of, knows_idle, is_of_family, has_slot, IsSeated}
use Rattle.table_steps.specs.Sheds.{shed}
use Rattle.table_steps.specs.Awaits.{owes_each, awaits, is_named, is_unnamed}
use Rattle.table_kept.proofs.Entries.{any-without}
use Rattle.table_kept.proofs.KidSlots.{has-kid}
use Rattle.table_kept.proofs.SlotsOut.{any-numbers}
use Rattle.table_kept.proofs.BeginSeats.{or-left, or-right, or-cases, any-imp}
use Rattle.table_kept.proofs.ShedSeats.{each-shed, apart-shed}

-- a child that stands in the list once
pub one-apart : (a b : Bool) → (a ≡ true → b ≡ false) → one b + one a ≡ one (a || b)
one-apart true b e = let none : one b ≡ 0 = ap one (e refl) in omega (arith, none)
one-apart false b e = omega arith

-- the starts that are owed count as the pure machine gains them
pub count-owes : {E : Type 0} (x : Name) (start : List E) (lot : List ℤ) (nodes : List ℕ) (owed : List (Owed E)) (y : Name) → are_different nodes ≡ true →
    count_by (λ e. e.name) (owes_each x start lot nodes owed) y ≡ count_by (λ e. e.name) owed y + one (list_any (λ n. same (beside x n) y) nodes)
count-owes x start lot [] owed y different = omega arith
count-owes x start lot (n ∷ ns) owed y different =
    let parts = and_parts (not (list_any (λ m. m == n) ns)) (are_different ns) different in
    let old = count-owes x start lot ns owed y parts.1 in
    let absent : list_any (λ m. m == n) ns ≡ false = not-true (list_any (λ m. m == n) ns) parts.0 in
    let sum = one-apart (same (beside x n) y) (list_any (λ m. same (beside x m) y) ns)
    (λ t. subst (λ z. list_any (λ m. same (beside x m) z) ns ≡ false) (same-true (beside x n) y t) (any-beside x n ns ∙ absent)) in
    omega (arith, old, sum)

pub each-owes : {E : Type 0} (Q : Owed E → Type 0) (x : Name) (start : List E) (lot : List ℤ) (nodes : List ℕ) (owed : List (Owed E)) →
    ((n : ℕ) → is_named nodes n ≡ true → Q (record { name = beside x n; above = start; lot = lot })) → Each Q owed →
    Each Q (owes_each x start lot nodes owed)
each-owes Q x start lot [] owed new old = old
each-owes Q x start lot (n ∷ ns) owed new old = (
  new n (or-left (n == n) (is_named ns n) (eq-eqb n n refl)),
  each-owes Q x start lot ns owed (λ m named. new m (or-right (n == m) (is_named ns m) named)) old,
)

-- one that is owed before is owed after
any-owed : {E : Type 0} (test : Owed E → Bool) (x : Name) (start : List E) (lot : List ℤ) (nodes : List ℕ) (owed : List (Owed E)) →
    list_any test owed ≡ true → list_any test (owes_each x start lot nodes owed) ≡ true
any-owed test x start lot [] owed h = h
any-owed test x start lot (n ∷ ns) owed h = or-right _ _ (any-owed test x start lot ns owed h)

-- and so is each that is named
any-named : {E : Type 0} (test : Owed E → Bool) (x : Name) (start : List E) (lot : List ℤ) (nodes : List ℕ) (owed : List (Owed E)) (n : ℕ) →
    is_named nodes n ≡ true → test (record { name = beside x n; above = start; lot = lot }) ≡ true →
    list_any test (owes_each x start lot nodes owed) ≡ true
any-named test x start lot [] owed n named passes = cc
any-named test x start lot (m ∷ ms) owed n named passes =
    or-cases (m == n) (is_named ms n) named
    (λ here. or-left _ _ (subst (λ k. test (record { name = beside x k; above = start; lot = lot }) ≡ true) (sym (eqb-true m n here)) passes))
    (λ later. or-right _ _ (any-named test x start lot ms owed n later passes))

-- what holds of each of a list holds of one that stands in it
pub each-any : (Q : ℕ → Type 0) (l : List ℕ) (n : ℕ) → Each Q l → list_any (λ q. q == n) l ≡ true → Q n
each-any Q [] n all h = cc
each-any Q (m ∷ ms) n all h =
    or-cases (m == n) (list_any (λ q. q == n) ms) h (λ here. subst Q (eqb-true m n here) all.0)
    (λ later. each-any Q ms n all.1 later)

pub all-imp : (t u : ℕ → Bool) → ((n : ℕ) → t n ≡ true → u n ≡ true) → (l : List ℕ) → list_all t l ≡ true → list_all u l ≡ true
all-imp t u f [] h = refl
all-imp t u f (n ∷ ns) h =
    let parts = and_parts (t n) (list_all t ns) h in and_from _ _ (f n parts.0) (all-imp t u f ns parts.1)

pub all-named : (t : ℕ → Bool) (l : List ℕ) (n : ℕ) → list_all t l ≡ true → is_named l n ≡ true → t n ≡ true
all-named t [] n all h = cc
all-named t (m ∷ ms) n all h =
    let parts = and_parts (t m) (list_all t ms) all in
    or-cases (m == n) (is_named ms n) h (λ here. subst (λ k. t k ≡ true) (eqb-true m n here) parts.0)
    (λ later. all-named t ms n parts.1 later)

-- each that is named is a child
pub named-child : {E : Type 0} (tree : List TreeNode) (x : Name) (nodes : List ℕ) (held : Held E) →
    list_all (λ n. is_child tree x.node n && knows_idle held n) nodes ≡ true → (n : ℕ) → is_named nodes n ≡ true →
    is_child tree x.node n ≡ true
named-child tree x nodes held all n named =
    (and_parts _ _ (all-named (λ n. is_child tree x.node n && knows_idle held n) nodes n all named)).0

module _ (tree : List TreeNode) (l : Layout) (x : Name) (nodes : List ℕ) where
  -- the slots that are given back are of the node's family
  pub unnamed-family : (slot : ℕ) → is_of_family tree l x slot ≡ false → is_unnamed tree l x nodes slot ≡ false
  unnamed-family slot none =
      false_from_ne_true (is_unnamed tree l x nodes slot) (λ t.
      both_ways (is_of_family tree l x slot) none
      (or-cases (slot_of l x == slot) (list_any (λ n. not (is_named nodes n) && place_number l x.block n == slot) (kids_of tree x.node)) t
      (λ own. or-left _ _ own)
      (λ kid. or-right _ _ (any-imp (λ n. not (is_named nodes n) && place_number l x.block n == slot) (λ n. place_number l x.block n == slot)
      (λ n both. (and_parts _ _ both).1) (kids_of tree x.node) kid))))

  -- a child that isn't named is given back
  pub unnamed-kid : (n : ℕ) → list_any (λ q. n == q) (kids_of tree x.node) ≡ true → is_named nodes n ≡ false →
      is_unnamed tree l x nodes (place_number l x.block n) ≡ true
  unnamed-kid n kid unnamed =
      or-right _ _ (any-imp (λ q. n == q) (λ q. not (is_named nodes q) && place_number l x.block q == place_number l x.block n)
      (λ q e. subst (λ k. (not (is_named nodes k) && place_number l x.block k == place_number l x.block n) ≡ true) (eqb-true n q e)
      (and_from _ _ (ap not unnamed) (eq-eqb _ _ refl))) (kids_of tree x.node) kid)

  -- one that is named stays out
  pub named-kid : (n : ℕ) → length tree ≡ l.nodes → x.node < l.nodes → n < l.nodes → (x.node ≡ n → ⊥) → is_named nodes n ≡ true →
      is_unnamed tree l x nodes (place_number l x.block n) ≡ false
  named-kid n same_size hx hn ne named =
      false_from_ne_true (is_unnamed tree l x nodes (place_number l x.block n)) (λ t.
      or-cases (slot_of l x == place_number l x.block n)
      (list_any (λ q. not (is_named nodes q) && place_number l x.block q == place_number l x.block n) (kids_of tree x.node)) t
      (λ own. ne (same_from_place x.block x.node x.block n l.nodes hx hn (eqb-true (slot_of l x) (place_number l x.block n) own)).1)
      (λ kid.
      let q = any-numbers (λ q. not (is_named nodes q) && place_number l x.block q == place_number l x.block n) (kids_of tree x.node) kid in
      let both = and_parts (not (is_named nodes q.0)) (place_number l x.block q.0 == place_number l x.block n) q.1 in
      let child : is_child tree x.node q.0 ≡ true = (and_parts _ _ (sym (has-kid tree x.node (length tree) q.0) ∙ q.2)).1 in
      let below = child-within tree x.node q.0 child in
      let is = same_from_place x.block q.0 x.block n l.nodes (omega (arith, below, same_size)) hn
      (eqb-true (place_number l x.block q.0) (place_number l x.block n) both.1) in
      both_ways (is_named nodes q.0) (not-true (is_named nodes q.0) both.0) (subst (λ k. is_named nodes k ≡ true) (sym is.1) named)))

  -- what isn't given back is still given to the hand that owes the starts
  given-awaited : {P E : Type 0} (start : List E) (lot : List ℤ) (i n left : ℕ) (v : View P E) (slot : ℕ) → is_unnamed tree l x nodes slot ≡ false →
      has_slot tree l v slot ≡ true → has_slot tree l (with_step i n left (awaits x start lot nodes v)) slot ≡ true
  given-awaited {P} {E} start lot i n left v slot stays h =
      let test : Owed E → Bool = λ e. slot_of l e.name == slot in
      let a = list_any test v.owed in
      let a2 = list_any test (owes_each x start lot nodes v.owed) in
      let b = list_any (λ e. is_of_family tree l e.name slot) v.held in
      let b2 = list_any (λ e. is_of_family tree l e.name slot) (without (λ e. e.name) v.held x) in
      let c = list_any (λ y. slot_of l y == slot) v.finished in
      or-cases a (b || c) h
      (λ owed. or-left a2 (b2 || c) (any-owed test x start lot nodes v.owed owed))
      (λ more.
      or-cases b c more
      (λ held.
      elim (any-without (λ e. e.name) (λ e. is_of_family tree l e.name slot) v.held x held) [
        | inl still ↦ or-right a2 (b2 || c) (or-left b2 c still)
        | inr here ↦
            or-cases (slot_of l x == slot) (list_any (λ n. place_number l x.block n == slot) (kids_of tree x.node))
            (ap (λ y. is_of_family tree l y slot) (sym here.1) ∙ here.2)
            (λ own. absurd (both_ways (is_unnamed tree l x nodes slot) stays (or-left _ _ own)))
            (λ kid.
            let q = any-numbers (λ n. place_number l x.block n == slot) (kids_of tree x.node) kid in
            either (is_named nodes q.0)
            (λ named. or-left a2 (b2 || c) (any-named test x start lot nodes v.owed q.0 named q.1))
            (λ unnamed.
            absurd (both_ways (is_unnamed tree l x nodes slot) stays
            (subst (λ k. is_unnamed tree l x nodes k ≡ true) (eqb-true (place_number l x.block q.0) slot q.1) (unnamed-kid q.0 q.2 unnamed)))))
      ])
      (λ finished. or-right a2 (b2 || c) (or-right b2 c finished)))

  pub seated-awaited : {P E : Type 0} (start : List E) (lot : List ℤ) (i n left : ℕ) (v : View P E) (c : List (ℕ × Option P)) → IsSeated tree l (v, c) →
      IsSeated tree l (with_step i n left (awaits x start lot nodes v), shed (is_unnamed tree l x nodes) c)
  seated-awaited start lot i n left v c old =
      record {
        apart = apart-shed (is_unnamed tree l x nodes) c old.apart;
        given = each-shed (λ d. has_slot tree l v d.0 ≡ true) (λ d. has_slot tree l (with_step i n left (awaits x start lot nodes v)) d.0 ≡ true)
            (is_unnamed tree l x nodes) c (λ d stays. given-awaited start lot i n left v d.0 stays) old.given;
        itself = old.itself;
      }

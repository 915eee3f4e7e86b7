-- The homes of a node and of its children are different ones.
use Rattle.std.proofs.Common.{◌≡◌, ℕ, zero, suc, ◌<◌, Bool, true, false, ◌||◌, ◌==◌, List, [], ◌∷◌, length, arith, refl, sym, ap, ◌∙◌, subst}
use Rattle.std.specs.List.{list_any}
use Rattle.std.proofs.lemmas.Bool.{both_ways, cond-true, cond-false, eqb-true, eq-eqb, ne_eqb, false_from_ne_true}
use Rattle.std.proofs.lemmas.Bool.Decides.{nat_tests}
use Rattle.std.proofs.lemmas.Nat.{same_from_place}
use Rattle.life_rules.specs.declared.event.Name.{Name}
use Rattle.node_tree.specs.declared.node.TreeNode.{TreeNode}
use Rattle.node_tree.specs.Tree.{is_child}
use Rattle.common_lemmas.proofs.Bool.{either}
use Rattle.life_kept.proofs.Trees.{child-within}
use Rattle.table_words.specs.Layouts.{place_number}
use Rattle.table_rules.specs.declared.frame.Frame.{Frame}
use Rattle.table_rules.specs.Named.{Each}
use Rattle.table_steps.specs.Finishes.{is_of_kids}
use Rattle.table_steps.specs.Kids.{children_below}
use Rattle.table_steps.specs.Slots.{slot_of, kids_of}
use Rattle.op_slot.specs.Tends.{HasPlaces}

module _ (tree : List TreeNode) (p : ℕ) where
  -- the list of a node's children has children alone
  pub all-kids : (count : ℕ) → Each (λ n. is_child tree p n ≡ true) (children_below tree p count)
  all-kids zero = tt
  all-kids (suc n) =
      let kids = children_below tree p n in
      either (is_child tree p n)
      (λ t. subst (Each (λ n. is_child tree p n ≡ true)) (sym (cond-true (is_child tree p n) (n ∷ kids) kids t)) (t, all-kids n))
      (λ no. subst (Each (λ n. is_child tree p n ≡ true)) (sym (cond-false (is_child tree p n) (n ∷ kids) kids no)) (all-kids n))

  -- and each child: one that passes a test is found by it
  pub kid-among : (test : ℕ → Bool) (count m : ℕ) → m < count → is_child tree p m ≡ true → test m ≡ true →
      list_any test (children_below tree p count) ≡ true
  kid-among test zero m below child passes = absurd (omega (arith, below))
  kid-among test (suc n) m below child passes =
      let kids = children_below tree p n in
      either (n == m)
      (λ t.
      let same : n ≡ m = eqb-true n m t in
      ap (list_any test) (cond-true (is_child tree p n) (n ∷ kids) kids (ap (is_child tree p) same ∙ child))
      ∙ ap (λ b. b || list_any test kids) (ap test same ∙ passes))
      (λ ne.
      let less : m < n = grind (arith, nat_tests) in
      let more = kid-among test n m less child passes in
      either (is_child tree p n)
      (λ t.
      ap (list_any test) (cond-true (is_child tree p n) (n ∷ kids) kids t) ∙ ap (λ b. test n || b) more ∙ or-true (test n))
      (λ no. ap (list_any test) (cond-false (is_child tree p n) (n ∷ kids) kids no) ∙ more))
    where
      or-true : (b : Bool) → (b || true) ≡ true
      or-true true = refl
      or-true false = refl

module _ {O : Type 0} (f : Frame O) (x : Name) (places : HasPlaces f x) where
  pub kid-within : (n : ℕ) → is_child f.tree x.node n ≡ true → n < f.layout.nodes
  kid-within n child =
      let before = places.kids n child in
      let own = places.node in omega (arith, before, own)

  -- a child's home is another than the node's
  pub kid-apart : (n : ℕ) → is_child f.tree x.node n ≡ true → (slot_of f.layout x == place_number f.layout x.block n) ≡ false
  kid-apart n child =
      ne_eqb (slot_of f.layout x) (place_number f.layout x.block n)
      (λ e.
      let same = (same_from_place x.block x.node x.block n f.layout.nodes places.node (kid-within n child) e).1 in
      let before = places.kids n child in absurd (omega (arith, same, before)))

  pub own-apart : (n : ℕ) → is_child f.tree x.node n ≡ true → (place_number f.layout x.block n == slot_of f.layout x) ≡ false
  own-apart n child =
      false_from_ne_true (place_number f.layout x.block n == slot_of f.layout x)
      (λ t.
      both_ways (slot_of f.layout x == place_number f.layout x.block n) (kid-apart n child)
      (eq-eqb (slot_of f.layout x) (place_number f.layout x.block n) (sym (eqb-true (place_number f.layout x.block n) (slot_of f.layout x) t))))

  pub kids-apart : (n k : ℕ) → is_child f.tree x.node n ≡ true → is_child f.tree x.node k ≡ true → (n == k) ≡ false →
      (place_number f.layout x.block n == place_number f.layout x.block k) ≡ false
  kids-apart n k child_n child_k ne =
      let a = place_number f.layout x.block n in
      let b = place_number f.layout x.block k in
      false_from_ne_true (a == b)
      (λ t.
      both_ways (n == k) ne
      (eq-eqb n k
      (same_from_place x.block n x.block k f.layout.nodes (kid-within n child_n) (kid-within k child_k) (eqb-true a b t)).1))

  -- the list of its children has children alone, and each
  pub kids-within : Each (λ n. n < f.layout.nodes) (kids_of f.tree x.node)
  kids-within = within (kids_of f.tree x.node) (all-kids f.tree x.node (length f.tree))
    where
      within : (ns : List ℕ) → Each (λ n. is_child f.tree x.node n ≡ true) ns → Each (λ n. n < f.layout.nodes) ns
      within [] all = tt
      within (n ∷ ns) all = (kid-within n all.0, within ns all.1)

  -- the slot of a child is one of those of the children, and the node's own isn't
  pub of-kids : (n : ℕ) → is_child f.tree x.node n ≡ true → is_of_kids f.tree f.layout x (place_number f.layout x.block n) ≡ true
  of-kids n child =
      let slot = place_number f.layout x.block n in
      kid-among f.tree x.node (λ q. place_number f.layout x.block q == slot) (length f.tree) n
      (child-within f.tree x.node n child) child (eq-eqb slot slot refl)

  pub not-of-kids : is_of_kids f.tree f.layout x (slot_of f.layout x) ≡ false
  not-of-kids = none (kids_of f.tree x.node) (all-kids f.tree x.node (length f.tree))
    where
      none : (ns : List ℕ) → Each (λ n. is_child f.tree x.node n ≡ true) ns →
          list_any (λ n. place_number f.layout x.block n == slot_of f.layout x) ns ≡ false
      none [] all = refl
      none (n ∷ ns) all =
          ap (λ t. t || list_any (λ k. place_number f.layout x.block k == slot_of f.layout x) ns) (own-apart n all.0) ∙ none ns all.1

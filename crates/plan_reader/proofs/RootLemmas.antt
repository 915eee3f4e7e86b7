-- Nodes that were made behind others, of which some alone have no parent.
use Rattle.std.proofs.Common.{◌≡◌, ◌<◌, ◌≤◌, ℕ, ◌-◌, Bool, true, false, not, List, [], ◌∷◌, ◌++◌, length, refl, sym, ap, ◌∙◌, inl, inr, arith}
use Rattle.std.specs.Prelude.{◌||◌, ◌&&◌, count_by, is_none, nat_eq}
use Rattle.std.specs.List.{list_any}
use Rattle.std.proofs.lemmas.Bool.{cases_lt, false_from_ne_true, false≢true, le-ltb}
use Rattle.std.proofs.lemmas.List.Folds.{list_any-append}
use Rattle.common_lemmas.proofs.Bool.{either}
use Rattle.plan_rules.specs.Children.{named_by}
use Rattle.plan_rules.specs.declared.node.Node.{Node}
use Rattle.plan_shape.specs.Added.{number_of, with_node}
use Rattle.plan_shape.specs.Finish.{is_of_version_2}
use Rattle.plan_shape.specs.Parents.{is_free, parent_of}
use Rattle.plan_builder.proofs.AddedLemmas.{length-with_node}
use Rattle.std.proofs.Math.Bool.{or-false, and-true, and-not_self}
use Rattle.plan_builder.proofs.RefusalLemmas.{free_within}
use Rattle.plan_reader.specs.Roots.{AreTidy}
use Rattle.plan_reader.proofs.FreeLemmas.{IsOf, count-append, count-none, count-one, free-new, free-old, is-one, not_one, tidy-more}

-- nodes that were made behind others: these numbers alone of them have no parent, each once, and of the
-- others the same have none as before
pub record Rooted (is_first : Bool) (old new : List Node) (roots : List ℕ) : Type 0 where
  pub tidy : AreTidy is_first new
  pub longer : length old ≤ length new
  pub kept : (n : ℕ) → n < length old → is_free new n ≡ is_free old n
  pub free : (n : ℕ) → length old ≤ n → is_free new n ≡ list_any (nat_eq n) roots
  pub behind : (n : ℕ) → IsOf roots n → length old ≤ n
  pub once : (n : ℕ) → count_by (nat_eq n) roots ≤ 1

-- none was made
pub rooted-none : (is_first : Bool) (nodes : List Node) → AreTidy is_first nodes
    → Rooted is_first nodes nodes []
rooted-none is_first nodes tidy = record {
  tidy = tidy;
  longer = omega arith;
  kept = λ n before. refl;
  free = λ n past. ap (λ b. b && is_none (parent_of nodes n)) (le-ltb n (length nodes) past);
  behind = λ n is. absurd (false≢true is);
  once = λ n. let none : count_by (nat_eq n) [] ≡ 0 = refl in omega (arith, none);
}

-- roots are free, and are nodes
pub roots_free : (is_first : Bool) (old new : List Node) (roots : List ℕ)
    → Rooted is_first old new roots → (n : ℕ) → IsOf roots n → is_free new n ≡ true
roots_free is_first old new roots r n is = r.free n (r.behind n is) ∙ is

roots_within : (is_first : Bool) (old new : List Node) (roots : List ℕ)
    → Rooted is_first old new roots → (n : ℕ) → IsOf roots n → n < length new
roots_within is_first old new roots r n is = free_within new n (roots_free is_first old new roots r n is)

-- nodes behind nodes
either_list : (n : ℕ) (ks js : List ℕ) → IsOf (ks ++ js) n → list_any (nat_eq n) ks ≡ false → IsOf js n
either_list n ks js is none =
    ap (λ b. b || list_any (nat_eq n) js) (sym none) ∙ sym (list_any-append (nat_eq n) ks js) ∙ is

pub rooted-append : (is_first : Bool) (old new newer : List Node) (ks js : List ℕ)
    → Rooted is_first old new ks → Rooted is_first new newer js → Rooted is_first old newer (ks ++ js)
rooted-append is_first old new newer ks js r s =
    let none_of_first : (n : ℕ) → length new ≤ n → list_any (nat_eq n) ks ≡ false =
    λ n past. false_from_ne_true (list_any (nat_eq n) ks) (λ t.
    absurd (omega (arith, past, roots_within is_first old new ks r n t))) in
    let none_of_second : (n : ℕ) → n < length new → list_any (nat_eq n) js ≡ false =
    λ n before. false_from_ne_true (list_any (nat_eq n) js) (λ t.
    absurd (omega (arith, before, s.behind n t))) in
    record {
      tidy = s.tidy;
      longer = omega (arith, r.longer, s.longer);
      kept = λ n before. s.kept n (omega (arith, before, r.longer)) ∙ r.kept n before;
      free = λ n past.
          elim (cases_lt n (length new)) [
            | inl before ↦
                s.kept n before ∙ r.free n past
                ∙ sym (list_any-append (nat_eq n) ks js
                ∙ ap (λ b. list_any (nat_eq n) ks || b) (none_of_second n before)
                ∙ or-false (list_any (nat_eq n) ks))
            | inr from ↦
                s.free n from
                ∙ sym (list_any-append (nat_eq n) ks js
                ∙ ap (λ b. b || list_any (nat_eq n) js) (none_of_first n from))
          ];
      behind = λ n is.
          either (list_any (nat_eq n) ks)
          (λ t. r.behind n t)
          (λ f. let behind = s.behind n (either_list n ks js is f) in omega (arith, behind, r.longer));
      once = λ n.
          elim (cases_lt n (length new)) [
            | inl before ↦
                omega (arith, count-append n ks js, count-none n js (none_of_second n before), r.once n)
            | inr from ↦
                omega (arith, count-append n ks js, count-none n ks (none_of_first n from), s.once n)
          ];
    }

-- a node over all of them
pub rooted-over : (is_first : Bool) (old new : List Node) (roots : List ℕ) (node : Node)
    → Rooted is_first old new roots → named_by node ≡ roots
    → (is_first ≡ true → is_of_version_2 node ≡ false)
    → Rooted is_first old (with_node new node) ((length (with_node new node) - 1) ∷ [])
rooted-over is_first old new roots node r named early =
    let whole : List Node = with_node new node in
    let long = length-with_node new node in
    let last : ℕ = length whole - 1 in
    let at : number_of new node ≡ last = omega (arith, long) in
    let same : (n : ℕ) → list_any (nat_eq n) (named_by node) ≡ list_any (nat_eq n) roots =
    λ n. ap (list_any (nat_eq n)) named in
    let within : (n : ℕ) → IsOf (named_by node) n → n < length new =
    λ n t. roots_within is_first old new roots r n (sym (same n) ∙ t) in
    record {
      tidy = tidy-more is_first new node r.tidy within early;
      longer = omega (arith, long, r.longer);
      kept = λ n before.
          let other : list_any (nat_eq n) (named_by node) ≡ false =
          false_from_ne_true (list_any (nat_eq n) (named_by node)) (λ t.
          absurd (omega (arith, before, r.behind n (sym (same n) ∙ t)))) in
          free-old new node n (omega (arith, before, r.longer))
          ∙ ap (λ b. is_free new n && not b) other
          ∙ and-true (is_free new n)
          ∙ r.kept n before;
      free = λ n past.
          elim (cases_lt n (length new)) [
            | inl before ↦
                free-old new node n before
                ∙ ap (λ b. b && not (list_any (nat_eq n) (named_by node))) (r.free n past ∙ sym (same n))
                ∙ and-not_self (list_any (nat_eq n) (named_by node))
                ∙ sym (not_one n last (λ e. absurd (omega (arith, before, e, long))))
            | inr from ↦
                free-new new node n r.tidy.ordered within from
                ∙ ap (λ k. list_any (nat_eq n) (k ∷ [])) at
          ];
      behind = λ n is. let is_last = is-one n last is in omega (arith, is_last, long, r.longer);
      once = λ n. count-one n last;
    }

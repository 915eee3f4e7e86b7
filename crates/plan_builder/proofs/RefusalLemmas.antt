-- What it tells that a node isn't refused.
use Rattle.std.proofs.Common.{◌≡◌, ℕ, ◌+◌, ◌<◌, ◌≤◌, max, Bool, true, false, not, List, [], ◌∷◌, ◌++◌, length, map, Option, Some, None, refl, ap, ◌∙◌, arith}
use Rattle.std.specs.Prelude.{nat_eq, nat_lt, All, fold, count_by, is_none}
use Rattle.std.specs.Option.{option_or, option_map}
use Rattle.std.specs.List.{list_any}
use Rattle.std.proofs.lemmas.List.{map-append}
use Rattle.std.proofs.lemmas.Bool.{and_parts, or_parts, or_left, or_right, not-false, ltb-true, ltb-false, lt-ltb, le-ltb, cond-true, cond-false}
use Rattle.std.proofs.lemmas.List.Sums.{fold-append}
use Rattle.std.proofs.lemmas.List.Folds.{list_any-append}
use Rattle.common_lemmas.proofs.Bool.{either}
use Rattle.plan_rules.specs.declared.node.Node.{Node}
use Rattle.plan_shape.specs.declared.fault.BuildFault.{BuildFault}
use Rattle.plan_shape.specs.declared.fault.BuildFault.TheVariants.{TooManyChildren, UsedChild, TooManyNodes, TooDeep}
use Rattle.plan_shape.specs.declared.limits.TheConstants.{MOST_PLAN_NODES, MOST_DEPTH}
use Rattle.plan_rules.specs.Children.{named_by}
use Rattle.plan_shape.specs.Children.{part_count}
use Rattle.plan_shape.specs.Parents.{parent_of, is_free}
use Rattle.plan_shape.specs.Depths.{depth_over, depth_of}
use Rattle.plan_shape.specs.Conditions.{has_lawful_count}
use Rattle.plan_shape.specs.Refusals.{fault_if, is_used, used_child, refusal, fault_of}
use Rattle.plan_shape.proofs.ListLemmas.{find-None, member_all, all_members}

is_none-true : {X : Type 0} (o : Option X) → is_none o ≡ true → o ≡ None
is_none-true None e = refl
is_none-true (Some x) e = absurd (cc)

pub free_within : (nodes : List Node) (c : ℕ) → is_free nodes c ≡ true → c < length nodes
free_within nodes c e = ltb-true c (length nodes) (and_parts (nat_lt c (length nodes)) (is_none (parent_of nodes c)) e).0

pub free_parent : (nodes : List Node) (c : ℕ) → is_free nodes c ≡ true → parent_of nodes c ≡ None
free_parent nodes c e =
    is_none-true (parent_of nodes c) (and_parts (nat_lt c (length nodes)) (is_none (parent_of nodes c)) e).1

-- the named children are free, and none is named twice
pub free_child : (nodes : List Node) (named : List ℕ) → used_child nodes named ≡ None →
    (c : ℕ) → list_any (nat_eq c) named ≡ true → is_free nodes c ≡ true
free_child nodes named e c h =
    let unused : is_used nodes named c ≡ false =
    member_all (λ k. is_used nodes named k ≡ false) named c (find-None (is_used nodes named) named e) h in
    not-false (is_free nodes c) (or_parts (not (is_free nodes c)) (nat_lt 1 (count_by (nat_eq c) named)) unused).0

pub named_once : (nodes : List Node) (named : List ℕ) → used_child nodes named ≡ None →
    (c : ℕ) → list_any (nat_eq c) named ≡ true → count_by (nat_eq c) named ≤ 1
named_once nodes named e c h =
    let unused : is_used nodes named c ≡ false =
    member_all (λ k. is_used nodes named k ≡ false) named c (find-None (is_used nodes named) named e) h in
    ltb-false 1 (count_by (nat_eq c) named)
    (or_parts (not (is_free nodes c)) (nat_lt 1 (count_by (nat_eq c) named)) unused).1

-- so they are nodes of the builder, in each of the two lists that they are named in
pub front_within : (nodes : List Node) (front back : List ℕ) → used_child nodes (front ++ back) ≡ None →
    All (λ c. c < length nodes) front
front_within nodes front back e =
    all_members (λ c. c < length nodes) front (λ c h.
    free_within nodes c (free_child nodes (front ++ back) e c
    (list_any-append (nat_eq c) front back ∙ or_left (list_any (nat_eq c) front) (list_any (nat_eq c) back) h)))

pub back_within : (nodes : List Node) (front back : List ℕ) → used_child nodes (front ++ back) ≡ None →
    All (λ c. c < length nodes) back
back_within nodes front back e =
    all_members (λ c. c < length nodes) back (λ c h.
    free_within nodes c (free_child nodes (front ++ back) e c
    (list_any-append (nat_eq c) front back ∙ or_right (list_any (nat_eq c) front) (list_any (nat_eq c) back) h)))

-- the most of a list and a number
pub fold-max : (a : ℕ) (xs : List ℕ) → fold max a xs ≡ max a (fold max 0 xs)
fold-max a [] = omega arith
fold-max a (x ∷ xs) = omega (arith, fold-max (max a x) xs, fold-max (max 0 x) xs)

pub depth_over-append : (f : ℕ → ℕ) (front back : List ℕ) →
    depth_over f (front ++ back) ≡ 1 + max (fold max 0 (map f front)) (fold max 0 (map f back))
depth_over-append f front back =
    ap (λ xs. 1 + fold max 0 xs) (map-append f front back)
    ∙ ap (λ n. 1 + n) (fold-append max 0 (map f front) (map f back) ∙ fold-max (fold max 0 (map f front)) (map f back))

fault_if-true : (b : Bool) (f : BuildFault) → b ≡ true → fault_if b f ≡ Some f
fault_if-true b f t = cond-true b (Some f) None t

fault_if-false : (b : Bool) (f : BuildFault) → b ≡ false → fault_if b f ≡ None
fault_if-false b f e = cond-false b (Some f) None e

-- a chain of causes
pub or_first : {X : Type 0} (a b : Option X) → option_or a b ≡ None → (a ≡ None) × (b ≡ None)
or_first None b e = (refl, e)
or_first (Some x) b e = absurd (cc)

or_none : {X : Type 0} (a b : Option X) → a ≡ None → option_or a b ≡ b
or_none a b e = ap (λ o. option_or o b) e

pub fault_if-None : (b : Bool) (f : BuildFault) → fault_if b f ≡ None → b ≡ false
fault_if-None b f e = either b (λ t. let some = fault_if-true b f t in absurd (cc)) (λ n. n)

pub map-None : {X Y : Type 0} (g : X → Y) (o : Option X) → option_map g o ≡ None → o ≡ None
map-None g None e = refl
map-None g (Some x) e = absurd (cc)

abbrev many : List Node → ℕ → Bool
many nodes parts = nat_lt MOST_PLAN_NODES (length nodes + parts + 1)

abbrev deep : List Node → List ℕ → Bool
deep nodes named = nat_lt MOST_DEPTH (depth_over (depth_of nodes) named)

-- the refusals by their tests
pub refusal-deep : (nodes : List Node) (named : List ℕ) (parts : ℕ) → used_child nodes named ≡ None →
    length nodes + parts + 1 ≤ MOST_PLAN_NODES → MOST_DEPTH < depth_over (depth_of nodes) named →
    refusal nodes named parts ≡ Some TooDeep
refusal-deep nodes named parts unused few below =
    or_none (option_map UsedChild (used_child nodes named)) _ (ap (option_map UsedChild) unused)
    ∙ or_none (fault_if (many nodes parts) TooManyNodes) _
    (fault_if-false (many nodes parts) TooManyNodes (le-ltb MOST_PLAN_NODES (length nodes + parts + 1) few))
    ∙ fault_if-true (deep nodes named) TooDeep (lt-ltb MOST_DEPTH (depth_over (depth_of nodes) named) below)

pub refusal-None : (nodes : List Node) (named : List ℕ) (parts : ℕ) → used_child nodes named ≡ None →
    length nodes + parts + 1 ≤ MOST_PLAN_NODES → depth_over (depth_of nodes) named ≤ MOST_DEPTH →
    refusal nodes named parts ≡ None
refusal-None nodes named parts unused few shallow =
    or_none (option_map UsedChild (used_child nodes named)) _ (ap (option_map UsedChild) unused)
    ∙ or_none (fault_if (many nodes parts) TooManyNodes) _
    (fault_if-false (many nodes parts) TooManyNodes (le-ltb MOST_PLAN_NODES (length nodes + parts + 1) few))
    ∙ fault_if-false (deep nodes named) TooDeep (le-ltb MOST_DEPTH (depth_over (depth_of nodes) named) shallow)

-- what no refusal tells
pub record IsAllowed (nodes : List Node) (named : List ℕ) (parts : ℕ) : Type 0 where
  pub unused : used_child nodes named ≡ None
  pub few : length nodes + parts + 1 ≤ MOST_PLAN_NODES
  pub shallow : depth_over (depth_of nodes) named ≤ MOST_DEPTH

pub allowed : (nodes : List Node) (named : List ℕ) (parts : ℕ) → refusal nodes named parts ≡ None →
    IsAllowed nodes named parts
allowed nodes named parts e =
    let first = or_first (option_map UsedChild (used_child nodes named)) _ e in
    let second = or_first (fault_if (many nodes parts) TooManyNodes) _ first.1 in
    record {
      unused = map-None UsedChild (used_child nodes named) first.0;
      few = ltb-false MOST_PLAN_NODES (length nodes + parts + 1) (fault_if-None (many nodes parts) TooManyNodes second.0);
      shallow = ltb-false MOST_DEPTH (depth_over (depth_of nodes) named) (fault_if-None (deep nodes named) TooDeep second.1);
    }

pub lawful : (nodes : List Node) (node : Node) → fault_of nodes node ≡ None →
    (has_lawful_count node ≡ true) × (refusal nodes (named_by node) (part_count node) ≡ None)
lawful nodes node e =
    let first = or_first (fault_if (not (has_lawful_count node)) TooManyChildren) _ e in
    (not-false (has_lawful_count node) (fault_if-None (not (has_lawful_count node)) TooManyChildren first.0), first.1)

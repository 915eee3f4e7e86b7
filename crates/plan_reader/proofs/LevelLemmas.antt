-- That a walk of as many levels as a value nests does the same as one of more.
use Rattle.std.proofs.Common.{◌≡◌, ◌<◌, ◌≤◌, ℕ, zero, suc, Bool, true, false, cond, List, [], ◌∷◌, ◌++◌, Option, Some, None, Ordering, Less, Equal, Greater, refl, ap, ◌∙◌, arith}
use Rattle.std.specs.Prelude.{IfSome, codes, option_and_then}
use Rattle.std.specs.Cmp.Lexicographic.{slice_cmp}
use Rattle.std.specs.Option.{option_map_or}
use Rattle.std.specs.Ordering.{match_ordering, nat_cmp}
use Rattle.std.specs.Str.{is_utf8}
use Rattle.serde_json.specs.Data.{Data, null, boolean, number, string, array, object, Items, no_items, item, Members, no_members, member, depth, items_depth, members_depth}
use Rattle.serde_json.specs.Find.{get, get_member, as_array}
use Rattle.serde_json.specs.Read.{read}
use Rattle.serde_json.proofs.Nesting.{depth-read}
use Rattle.plan_parts.specs.Jobs.{job_at}
use Rattle.plan_parts.specs.Objects.{text_at}
use Rattle.plan_parts.specs.declared.reading.TheConstants.{FORM_FAULT}
use Rattle.plan_reader.specs.NodeParts.{adaptor_node}
use Rattle.plan_reader.specs.NodeWords.{node_keys, node_named}
use Rattle.plan_reader.specs.Levels.{LevelsSuffice}
use Rattle.plan_reader.specs.Plans.{is_first_version, json_of, walked_of}
use Rattle.plan_reader.specs.Walked.{Below, Listed, Walked, ahead_over, all_over, at_start, blame, check_keys, child_at, each, last, let_over, list_at, named_node, none_listed, parts, take, take_bulk, walk, with_child}
use Rattle.plan_reader.specs.declared.node_word.NodeWord.{NodeWord}
use Rattle.plan_reader.specs.declared.node_word.NodeWord.TheVariants.{Leaf, Adaptor, Let, Bulk, WhenAll, Ahead}
use Rattle.plan_reader.specs.declared.plan.TheConstants.{MOST_LEVELS}

-- what stands in a value nests less deep
matched : (o : Ordering) (a b c : Option Data) (n : ℕ) → IfSome a (λ d. depth d < n)
    → IfSome b (λ d. depth d < n) → IfSome c (λ d. depth d < n)
    → IfSome (match_ordering o a b c) (λ d. depth d < n)
matched Less a b c n p q r = p
matched Equal a b c n p q r = q
matched Greater a b c n p q r = r

member-depth : (key : List ℕ) (ms : Members) (n : ℕ) → members_depth ms < n
    → IfSome (get_member key ms) (λ d. depth d < n)
member-depth key no_members n small = tt
member-depth key (member l e ms) n small =
    matched (slice_cmp nat_cmp key l) (get_member key ms) (Some e) (get_member key ms) n
    (member-depth key ms n (omega arith)) (omega arith) (member-depth key ms n (omega arith))

get-depth : (key : List ℕ) (d : Data) → IfSome (get key d) (λ c. depth c < depth d)
get-depth key null = tt
get-depth key (boolean b) = tt
get-depth key (number n) = tt
get-depth key (string s) = tt
get-depth key (array ds) = tt
get-depth key (object ms) = member-depth key ms (depth (object ms)) (omega arith)

array-depth : (o : Option Data) (n : ℕ) → IfSome o (λ c. depth c < n)
    → IfSome (option_and_then as_array o) (λ ds. items_depth ds < n)
array-depth None n small = tt
array-depth (Some (array ds)) n small = omega arith
array-depth (Some null) n small = tt
array-depth (Some (boolean b)) n small = tt
array-depth (Some (number m)) n small = tt
array-depth (Some (string s)) n small = tt
array-depth (Some (object ms)) n small = tt

-- two walks that do the same below a depth
abbrev Same : ℕ → Below → Below → Type 0
Same n f g = (d : Data) (w : Walked) → depth d < n → f d w ≡ g d w

child-case : (n : ℕ) (f g : Below) (o : Option Data) (w : Walked) → Same n f g → IfSome o (λ c. depth c < n)
    → option_map_or (λ c. f c w) o (blame FORM_FAULT w) ≡ option_map_or (λ c. g c w) o (blame FORM_FAULT w)
child-case n f g (Some c) w same small = same c w small
child-case n f g None w same small = refl

child-same : (f g : Below) (key : List ℕ) (d : Data) (w : Walked) → Same (depth d) f g
    → child_at f key d w ≡ child_at g key d w
unfolding child_at
child-same f g key d w same = child-case (depth d) f g (get key d) w same (get-depth key d)

each-same : (n : ℕ) (f g : Below) (ds : Items) (l : Listed) → Same n f g → items_depth ds < n
    → each f ds l ≡ each g ds l
each-same n f g no_items l same small = refl
each-same n f g (item d ds) l same small =
    let first : with_child f d l ≡ with_child g d l =
    ap (λ (v : Walked). record { walked = v; numbers = l.numbers ++ last v ∷ [] })
    (same d l.walked (omega arith)) in
    ap (each f ds) first ∙ each-same n f g ds (with_child g d l) same (omega arith)

list-case : (n : ℕ) (f g : Below) (o : Option Items) (w : Walked) → Same n f g
    → IfSome o (λ ds. items_depth ds < n)
    → option_map_or (λ ds. each f ds (none_listed w)) o (none_listed (blame FORM_FAULT w))
    ≡ option_map_or (λ ds. each g ds (none_listed w)) o (none_listed (blame FORM_FAULT w))
list-case n f g (Some ds) w same small = each-same n f g ds (none_listed w) same small
list-case n f g None w same small = refl

list-same : (f g : Below) (key : List ℕ) (d : Data) (w : Walked) → Same (depth d) f g
    → list_at f key d w ≡ list_at g key d w
unfolding list_at
list-same f g key d w same =
    list-case (depth d) f g (option_and_then as_array (get key d)) w same
    (array-depth (get key d) (depth d) (get-depth key d))

parts-same : (f g : Below) (word : NodeWord) (d : Data) (w : Walked) → Same (depth d) f g
    → parts f word d w ≡ parts g word d w
unfolding parts
parts-same f g (Leaf leaf) d w same = refl
parts-same f g (Adaptor adaptor) d w same =
    ap (λ v. take (adaptor_node adaptor d (last v)) v) (child-same f g (codes "child") d w same)
parts-same f g (Let binding) d w same =
    let v : Walked = child_at g (codes "child") d w in
    ap (λ u. let_over binding d (last u) (list_at f (codes "bodies") d u)) (child-same f g (codes "child") d w same)
    ∙ ap (let_over binding d (last v)) (list-same f g (codes "bodies") d v same)
parts-same f g Bulk d w same =
    ap (λ v. take_bulk (last v) (job_at (codes "job") d) v) (child-same f g (codes "child") d w same)
parts-same f g WhenAll d w same = ap all_over (list-same f g (codes "children") d w same)
parts-same f g Ahead d w same =
    let v : Walked = child_at g (codes "first") d w in
    ap (λ u. ahead_over (last u) (child_at f (codes "second") d u)) (child-same f g (codes "first") d w same)
    ∙ ap (ahead_over (last v)) (child-same f g (codes "second") d v same)

named-same : (f g : Below) (o : Option NodeWord) (d : Data) (w : Walked) → Same (depth d) f g
    → named_node f o d w ≡ named_node g o d w
named-same f g (Some word) d w same = parts-same f g word d (check_keys (node_keys word) d w) same
named-same f g None d w same = refl

name-case : (f g : Below) (o : Option (List ℕ)) (d : Data) (w : Walked) → Same (depth d) f g
    → option_map_or (λ name. named_node f (node_named w.is_first name) d w) o (blame FORM_FAULT w)
    ≡ option_map_or (λ name. named_node g (node_named w.is_first name) d w) o (blame FORM_FAULT w)
name-case f g (Some name) d w same = named-same f g (node_named w.is_first name) d w same
name-case f g None d w same = refl

walk-same : (m n : ℕ) (d : Data) (w : Walked) → depth d < m → depth d < n → walk m d w ≡ walk n d w
unfolding walk
walk-same zero n d w a b = absurd (omega arith)
walk-same (suc m) zero d w a b = absurd (omega arith)
walk-same (suc m) (suc n) d w a b =
    name-case (walk m) (walk n) (text_at (codes "do") d) d w
    (λ c v small. walk-same m n c v (omega (arith, small, a)) (omega (arith, small, b)))

-- a file that is JSON nests no deeper than its reader allows
read-if : (b : Bool) (o : Option Data) (d : Data) → cond b o None ≡ Some d → o ≡ Some d
read-if true o d is = is
read-if false o d is = cc

depth-json : (bytes : List ℕ) (d : Data) → json_of bytes ≡ Some d → depth d ≤ MOST_LEVELS
unfolding json_of
depth-json bytes d is = depth-read bytes d (read-if (is_utf8 bytes) (read bytes) d is)

pub levels-suffice : LevelsSuffice
unfolding walked_of
levels-suffice bytes d levels is enough =
    let small = depth-json bytes d is in
    child-same (walk levels) (walk MOST_LEVELS) (codes "root") d (at_start (is_first_version d))
    (λ c v less. walk-same levels MOST_LEVELS c v (omega (arith, less, small, enough)) (omega (arith, less, small)))

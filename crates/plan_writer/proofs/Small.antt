-- A node's object has no fractions, and is as deep as its part of the tree allows.
use Rattle.std.specs.Prelude.{codes, slice_get}
use Rattle.std.proofs.Common.{◌≡◌, ℕ, ℤ, pos, negsuc, ◌+◌, ◌*◌, ◌<◌, ◌≤◌, false, List, [], ◌∷◌, All, map, Some, Ordering, Less, Equal, Greater, nat_cmp, refl, sym, subst, arith}
use Rattle.std.specs.Cmp.Lexicographic.{slice_cmp}
use Rattle.std.specs.Ordering.{match_ordering}
use Rattle.std.proofs.lemmas.Bool.{or_from, or_parts}
use Rattle.std.proofs.lemmas.List.Elements.{All-head, All-tail, All-weaker, All-map}
use Rattle.std.proofs.lemmas.Option.{slice_get_within}
use Rattle.serde_json.specs.Data.{Data, number, unsigned, string, array, object, Members, no_members, member, put, depth, items_depth, members_depth}
use Rattle.serde_json.specs.Written.{has_float, items_have_float, members_have_float}
use Rattle.serde_json.specs.View.{items_of}
use Rattle.exec_value.specs.declared.data.Datum.{Datum}
use Rattle.exec_value.specs.declared.data.Datum.TheVariants.{Int, Text, Row}
use Rattle.exec_job.specs.declared.job.Job.{Job}
use Rattle.exec_job.specs.declared.job.Job.TheVariants.{Add, Sub, Mul, Div, Neg, Within, Index, Fail, Iota, Sum, Append, Join, Length, Parse, Show, Give, At, IntOr, TextOr, Pass}
use Rattle.plan_rules.specs.declared.node.Node.{Node}
use Rattle.plan_rules.specs.declared.node.Node.TheVariants.{Input, Just, JustError, JustStopped, Schedule, Delay, ReadEnv, Then, UponError, UponStopped, LetValue, LetError, LetStopped, StartsOn, ContinuesOn, StoppedAsOptional, StoppedAsError, Bulk, WhenAll, Part, Unstoppable, Ahead}
use Rattle.plan_rules.specs.Children.{named_by}
use Rattle.plan_shape.specs.Blueprint.{Blueprint, IsPlan}
use Rattle.plan_shape.specs.Depths.{depth_of}
use Rattle.plan_shape.proofs.DepthLemmas.{depth_of-positive}
use Rattle.plan_writer.specs.declared.below.Below.{Below}
use Rattle.plan_writer.specs.declared.below.Below.TheVariants as below
use Rattle.plan_writer.specs.Values.{constant_data, constants_data, integer_data, row_data, named}
use Rattle.plan_writer.specs.Jobs.{job_data, job_with, plain_data, within_data}
use Rattle.plan_writer.specs.Nodes.{below_of, children_named, list_data, listed, node_data, node_object, node_with, own_members, with_children}
use Rattle.plan_writer.specs.ReadBack.{IsReadBack}
use Rattle.plan_writer.proofs.Shapes.{IsBelow, named-below, named-written, node_data-at}
use Rattle.plan_writer.proofs.Prefixes.{depth-above}

-- a value without fractions, at most so deep; members; and items
pub record IsSmall (most : ℕ) (d : Data) : Type 0 where
  pub whole : has_float d ≡ false
  pub shallow : depth d ≤ most

pub record AreSmall (most : ℕ) (ms : Members) : Type 0 where
  pub whole : members_have_float ms ≡ false
  pub shallow : members_depth ms ≤ most

pub weaker : (a b : ℕ) (d : Data) → a ≤ b → IsSmall a d → IsSmall b d
weaker a b d less small = record { whole = small.whole; shallow = omega (arith, less, small.shallow) }

pub all-weaker : (a b : ℕ) (ms : Members) → a ≤ b → AreSmall a ms → AreSmall b ms
all-weaker a b ms less small = record { whole = small.whole; shallow = omega (arith, less, small.shallow) }

member-small : (most : ℕ) (k : List ℕ) (d : Data) (ms : Members) → IsSmall most d → AreSmall most ms
    → AreSmall most (member k d ms)
member-small most k d ms small are = record {
  whole = or_from (has_float d) (members_have_float ms) small.whole are.whole;
  shallow = omega (arith, small.shallow, are.shallow);
}

put-chosen : (most : ℕ) (k l : List ℕ) (d e : Data) (ms : Members) (o : Ordering) → IsSmall most d
    → AreSmall most (member l e ms) → IsSmall most e → AreSmall most ms → AreSmall most (put k d ms)
    → AreSmall most (match_ordering o (member k d (member l e ms)) (member l d ms) (member l e (put k d ms)))
put-chosen most k l d e ms Less small are here rest later = member-small most k d (member l e ms) small are
put-chosen most k l d e ms Equal small are here rest later = member-small most l d ms small rest
put-chosen most k l d e ms Greater small are here rest later = member-small most l e (put k d ms) here later

pub put-small : (most : ℕ) (k : List ℕ) (d : Data) (ms : Members) → IsSmall most d → AreSmall most ms
    → AreSmall most (put k d ms)
put-small most k d no_members small are = member-small most k d no_members small are
put-small most k d (member l e ms) small are =
    let parts = or_parts (has_float e) (members_have_float ms) are.whole in
    let deep = are.shallow in
    let here : IsSmall most e = record { whole = parts.0; shallow = omega (arith, deep) } in
    let rest : AreSmall most ms = record { whole = parts.1; shallow = omega (arith, deep) } in
    put-chosen most k l d e ms (slice_cmp nat_cmp k l) small are here rest (put-small most k d ms small rest)

pub object-small : (most : ℕ) (ms : Members) → AreSmall most ms → IsSmall (most + 1) (object ms)
object-small most ms are = record { whole = are.whole; shallow = omega (arith, are.shallow) }

items-whole : (most : ℕ) (ds : List Data) → All (IsSmall most) ds → items_have_float (items_of ds) ≡ false
items-whole most [] small = refl
items-whole most (d ∷ ds) small =
    or_from (has_float d) (items_have_float (items_of ds)) (All-head (IsSmall most) d ds small).whole
    (items-whole most ds (All-tail (IsSmall most) d ds small))

items-shallow : (most : ℕ) (ds : List Data) → All (IsSmall most) ds → items_depth (items_of ds) ≤ most
items-shallow most [] small = omega arith
items-shallow most (d ∷ ds) small =
    let here = (All-head (IsSmall most) d ds small).shallow in
    let rest = items-shallow most ds (All-tail (IsSmall most) d ds small) in
    omega (arith, here, rest)

pub array-small : (most : ℕ) (ds : List Data) → All (IsSmall most) ds → IsSmall (most + 1) (array (items_of ds))
array-small most ds small = record {
  whole = items-whole most ds small;
  shallow = let deep = items-shallow most ds small in omega (arith, deep);
}

string-small : (most : ℕ) (text : List ℕ) → IsSmall most (string text)
string-small most text = record { whole = refl; shallow = omega arith }

number-small : (most n : ℕ) → IsSmall most (number (unsigned n))
number-small most n = record { whole = refl; shallow = omega arith }

integer-small : (most : ℕ) (n : ℤ) → IsSmall most (integer_data n)
integer-small most (pos n) = record { whole = refl; shallow = omega arith }
integer-small most (negsuc n) = record { whole = refl; shallow = omega arith }

named-small : (most : ℕ) (key name : List ℕ) → AreSmall most (named key name)
named-small most key name = record { whole = refl; shallow = omega arith }

row-small : (ns : List ℤ) → IsSmall 1 (row_data ns)
row-small ns = array-small 0 (map integer_data ns) (All-map (IsSmall 0) integer_data ns (λ k d within. integer-small 0 _))

constant-small : (c : Datum) → IsSmall 1 (constant_data c)
constant-small (Int n) = integer-small 1 n
constant-small (Text text) = string-small 1 text
constant-small (Row ns) = row-small ns
constant-small c = record { whole = refl; shallow = omega arith }

constants-small : (cs : List Datum) → IsSmall 2 (constants_data cs)
constants-small cs = array-small 1 (map constant_data cs) (All-map (IsSmall 1) constant_data cs (λ k d within. constant-small _))

with-small : (name key : List ℕ) (d : Data) → IsSmall 2 d → IsSmall 3 (job_with name key d)
with-small name key d small =
    object-small 2 (put key d (named (codes "job") name)) (put-small 2 key d (named (codes "job") name) small (named-small 2 (codes "job") name))

plain-small : (name : List ℕ) → IsSmall 3 (plain_data name)
plain-small name = object-small 2 (named (codes "job") name) (named-small 2 (codes "job") name)

within-small : (lo hi : ℤ) → IsSmall 3 (within_data lo hi)
within-small lo hi =
    object-small 2 _ (put-small 2 (codes "hi") (integer_data hi) _ (integer-small 2 hi)
    (put-small 2 (codes "lo") (integer_data lo) (named (codes "job") (codes "within")) (integer-small 2 lo) (named-small 2 (codes "job") (codes "within"))))

pub job-small : (j : Job) → IsSmall 3 (job_data j)
job-small (Add n) = with-small (codes "add") (codes "n") (integer_data n) (integer-small 2 n)
job-small (Sub n) = with-small (codes "sub") (codes "n") (integer_data n) (integer-small 2 n)
job-small (Mul n) = with-small (codes "mul") (codes "n") (integer_data n) (integer-small 2 n)
job-small (Div n) = with-small (codes "div") (codes "n") (integer_data n) (integer-small 2 n)
job-small Neg = plain-small (codes "neg")
job-small (Within lo hi) = within-small lo hi
job-small Index = plain-small (codes "index")
job-small (Fail name) = with-small (codes "fail") (codes "error") (string name) (string-small 2 name)
job-small Iota = plain-small (codes "iota")
job-small Sum = plain-small (codes "sum")
job-small (Append text) = with-small (codes "append") (codes "text") (string text) (string-small 2 text)
job-small Join = plain-small (codes "join")
job-small Length = plain-small (codes "length")
job-small Parse = plain-small (codes "parse")
job-small Show = plain-small (codes "show")
job-small (Give values) = with-small (codes "give") (codes "values") (constants_data values) (constants-small values)
job-small (At place) = with-small (codes "at") (codes "i") (number (unsigned place)) (number-small 2 place)
job-small (IntOr n) = with-small (codes "value_or") (codes "else") (integer_data n) (integer-small 2 n)
job-small (TextOr text) = with-small (codes "value_or") (codes "else") (string text) (string-small 2 text)
job-small Pass = plain-small (codes "pass")

own-with : (name key : List ℕ) (d : Data) → IsSmall 3 d → AreSmall 3 (node_with name key d)
own-with name key d small = put-small 3 key d (named (codes "do") name) small (named-small 3 (codes "do") name)

own-small : (node : Node) → AreSmall 3 (own_members node)
own-small Input = named-small 3 (codes "do") (codes "input")
own-small (Just values) = own-with _ (codes "values") (constants_data values) (weaker 2 3 (constants_data values) (omega arith) (constants-small values))
own-small (JustError error) = own-with _ (codes "error") (string error) (string-small 3 error)
own-small JustStopped = named-small 3 (codes "do") (codes "just_stopped")
own-small (Schedule on) = own-with _ (codes "on") _ (string-small 3 _)
own-small (Delay turns) = own-with _ (codes "turns") (number (unsigned turns)) (number-small 3 turns)
own-small (ReadEnv query) = own-with _ (codes "query") _ (string-small 3 _)
own-small (Then child j) = own-with _ (codes "job") (job_data j) (job-small j)
own-small (UponError child j) = own-with _ (codes "job") (job_data j) (job-small j)
own-small (UponStopped child j) = own-with _ (codes "job") (job_data j) (job-small j)
own-small (LetValue child pick bodies) = own-with _ (codes "pick") (job_data pick) (job-small pick)
own-small (LetError child pick bodies) = own-with _ (codes "pick") (job_data pick) (job-small pick)
own-small (LetStopped child pick bodies) = own-with _ (codes "pick") (job_data pick) (job-small pick)
own-small (StartsOn on child) = own-with _ (codes "on") _ (string-small 3 _)
own-small (ContinuesOn child on) = own-with _ (codes "on") _ (string-small 3 _)
own-small (StoppedAsOptional child of) = own-with _ (codes "of") _ (string-small 3 _)
own-small (StoppedAsError child error) = own-with _ (codes "error") (string error) (string-small 3 error)
own-small (Bulk child j) = own-with _ (codes "job") (job_data j) (job-small j)
own-small (WhenAll children) = named-small 3 (codes "do") (codes "when_all")
own-small (Part bulk part) = record { whole = refl; shallow = omega arith }
own-small (Unstoppable child) = named-small 3 (codes "do") (codes "unstoppable")
own-small (Ahead first second) = named-small 3 (codes "do") (codes "ahead")

list-small : (most : ℕ) (f : ℕ → Data) (list : List ℕ) → All (λ c. IsSmall most (f c)) list
    → IsSmall (most + 1) (list_data f list)
list-small most f list small = array-small most (map f list) (All-map (IsSmall most) f list small)

children-small : (most : ℕ) (f : ℕ → Data) (b : Below) (list : List ℕ) (ms : Members)
    → All (λ c. IsSmall most (f c)) (children_named b list) → AreSmall (most + 1) ms
    → AreSmall (most + 1) (with_children f b list ms)
children-small most f below.Nothing list ms small are = are
children-small most f (below.Child c) list ms small are =
    put-small (most + 1) (codes "child") (f c) ms
    (weaker most (most + 1) (f c) (omega arith) (All-head (λ k. IsSmall most (f k)) c [] small)) are
children-small most f (below.ChildAndBodies c) list ms small are =
    put-small (most + 1) (codes "bodies") (list_data f list) (put (codes "child") (f c) ms)
    (list-small most f list (All-tail (λ k. IsSmall most (f k)) c list small))
    (put-small (most + 1) (codes "child") (f c) ms
    (weaker most (most + 1) (f c) (omega arith) (All-head (λ k. IsSmall most (f k)) c list small)) are)
children-small most f below.Children list ms small are =
    put-small (most + 1) (codes "children") (list_data f list) ms (list-small most f list small) are
children-small most f (below.Pair a b) list ms small are =
    put-small (most + 1) (codes "second") (f b) (put (codes "first") (f a) ms)
    (weaker most (most + 1) (f b) (omega arith)
    (All-head (λ k. IsSmall most (f k)) b [] (All-tail (λ k. IsSmall most (f k)) a (b ∷ []) small)))
    (put-small (most + 1) (codes "first") (f a) ms
    (weaker most (most + 1) (f a) (omega arith) (All-head (λ k. IsSmall most (f k)) a (b ∷ []) small)) are)

-- a node, by its children
pub node-small : (plan : Blueprint) → IsPlan plan → (n : ℕ) (node : Node) → slice_get plan.nodes n ≡ Some node
    → All (IsReadBack plan) (named_by node) → IsSmall (2 * depth_of plan.nodes n + 2) (node_data plan.nodes n)
node-small plan is_plan n node at back =
    let D : ℕ → Data = node_data plan.nodes in
    let deep : ℕ = depth_of plan.nodes n in
    let some = depth_of-positive plan.nodes n (slice_get_within plan.nodes n node at) in
    let above = depth-above plan.nodes is_plan.forest n node at in
    let small : All (λ c. IsSmall (2 * deep) (D c)) (named_by node) =
    (λ k d within.
    let here = back k d within in
    let one = above k d within in
    let shallow = here.shallow in
    record { whole = here.whole_numbers; shallow = omega (arith, shallow, one) }) in
    let P : List ℕ → Type 0 = λ cs. All (λ c. IsSmall (2 * deep) (D c)) cs in
    let members : AreSmall (2 * deep + 1) (with_children D (below_of node) (listed node) (own_members node)) =
    children-small (2 * deep) D (below_of node) (listed node) (own_members node) (subst P (named-below node) small)
    (all-weaker 3 (2 * deep + 1) (own_members node) (omega (arith, some)) (own-small node)) in
    let whole : IsSmall (2 * deep + 2) (node_object node D) =
    weaker (2 * deep + 1 + 1) (2 * deep + 2) (node_object node D) (omega arith)
    (object-small (2 * deep + 1) (with_children D (below_of node) (listed node) (own_members node)) members) in
    let less : All (λ c. c < n) (named_by node) =
    All-weaker (IsBelow plan.nodes n) (λ c. c < n) (λ c below. below.1) (named_by node) (named-written plan is_plan n node at) in
    subst (IsSmall (2 * deep + 2)) (sym (node_data-at plan.nodes n node at less)) whole

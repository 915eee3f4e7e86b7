-- What a walk may do next, by what it did.
use Rattle.std.proofs.Common.{◌≡◌, ℕ, Bool, false, List, [], ◌∷◌, ◌++◌, refl, sym, subst}
use Rattle.std.specs.Prelude.{codes}
use Rattle.serde_json.specs.Data.{Data}
use Rattle.plan_rules.specs.Children.{named_by}
use Rattle.plan_rules.specs.declared.node.Node.{Node}
use Rattle.plan_parts.specs.declared.reading.Reading.{Reading}
use Rattle.plan_parts.specs.declared.reading.Reading.TheVariants.{Good, Bad}
use Rattle.plan_parts.specs.Reading.{IfGood}
use Rattle.plan_reader.specs.NodeParts.{adaptor_node, leaf_node, let_node}
use Rattle.plan_reader.specs.Roots.{AreRoots, IsTidy}
use Rattle.plan_reader.specs.Walked.{Listed, Walked, child_at, last, list_at, walk}
use Rattle.plan_reader.specs.declared.node_word.Adaptor.{Adaptor as AdaptorWord}
use Rattle.plan_reader.specs.declared.node_word.Leaf.{Leaf as LeafWord}
use Rattle.plan_reader.specs.declared.node_word.Let.{Let as LetWord}
use Rattle.plan_reader.proofs.OverLemmas.{Reads, is_late_adaptor, reads-adaptor, reads-leaf, reads-let}
use Rattle.plan_reader.proofs.RootedWalk.{Leads, child-leads, leads-append, leads-roots, leads-tidy, list-leads, walk-gives_root}

-- the node that was read stands over roots
over-roots : (roots : List ℕ) (late : Bool) (r : Reading Node) (v : Walked) → Reads roots late r
    → AreRoots v roots → IfGood r (λ n. AreRoots v (named_by n))
over-roots roots late (Good n) v reads are = subst (AreRoots v) (sym reads.over.names) are
over-roots roots late (Bad faults) v reads are = tt

-- a leaf
pub leaf-roots : (leaf : LeafWord) (d : Data) (v : Walked) (r : Reading Node) → r ≡ leaf_node leaf d
    → IfGood r (λ n. AreRoots v (named_by n))
leaf-roots leaf d v r is =
    let P : Reading Node → Type 0 = λ x. IfGood x (λ n. AreRoots v (named_by n)) in
    subst P (sym is) (over-roots [] false (leaf_node leaf d) v (reads-leaf leaf d) (λ none. refl))

-- below a node at a key
pub child-goes : (levels : ℕ) (key : List ℕ) (d : Data) (w v : Walked) → IsTidy w
    → v ≡ child_at (walk levels) key d w → Leads w v (last v ∷ [])
child-goes levels key d w v tidy is =
    let P : Walked → Type 0 = λ x. Leads w x (last x ∷ []) in
    subst P (sym is) (child-leads (walk levels) key d w (walk-gives_root levels) tidy)

pub child-tidy : (levels : ℕ) (key : List ℕ) (d : Data) (w v : Walked) → IsTidy w
    → v ≡ child_at (walk levels) key d w → IsTidy v
child-tidy levels key d w v tidy is = leads-tidy w v (last v ∷ []) (child-goes levels key d w v tidy is)

-- below the nodes of an array
pub list-goes : (levels : ℕ) (key : List ℕ) (d : Data) (w v : Walked) (numbers : List ℕ) → IsTidy w
    → v ≡ (list_at (walk levels) key d w).walked → numbers ≡ (list_at (walk levels) key d w).numbers
    → Leads w v numbers
list-goes levels key d w v numbers tidy is are =
    let l : Listed = list_at (walk levels) key d w in
    let P : Walked → Type 0 = λ x. Leads w x l.numbers in
    let Q : List ℕ → Type 0 = λ ks. Leads w v ks in
    subst Q (sym are) (subst P (sym is) (list-leads (walk levels) key d w (walk-gives_root levels) tidy))

pub list-roots : (levels : ℕ) (key : List ℕ) (d : Data) (w v : Walked) (numbers : List ℕ) → IsTidy w
    → v ≡ (list_at (walk levels) key d w).walked → numbers ≡ (list_at (walk levels) key d w).numbers
    → AreRoots v numbers
list-roots levels key d w v numbers tidy is are =
    leads-roots w v numbers (list-goes levels key d w v numbers tidy is are)

-- a node over one child
pub one-root : (levels : ℕ) (key : List ℕ) (d : Data) (w v : Walked) (child : ℕ) → IsTidy w
    → v ≡ child_at (walk levels) key d w → child ≡ last v → AreRoots v (child ∷ [])
one-root levels key d w v child tidy is at =
    let P : ℕ → Type 0 = λ k. AreRoots v (k ∷ []) in
    subst P (sym at) (leads-roots w v (last v ∷ []) (child-goes levels key d w v tidy is))

pub adaptor-roots : (levels : ℕ) (adaptor : AdaptorWord) (d : Data) (w v : Walked) (child : ℕ)
    (r : Reading Node) → IsTidy w → v ≡ child_at (walk levels) (codes "child") d w → child ≡ last v
    → r ≡ adaptor_node adaptor d child → IfGood r (λ n. AreRoots v (named_by n))
adaptor-roots levels adaptor d w v child r tidy is at read =
    let P : Reading Node → Type 0 = λ x. IfGood x (λ n. AreRoots v (named_by n)) in
    subst P (sym read)
    (over-roots (child ∷ []) (is_late_adaptor adaptor) (adaptor_node adaptor d child) v
    (reads-adaptor adaptor d child) (one-root levels (codes "child") d w v child tidy is at))

-- a node over one child and bodies
pub let-roots : (levels : ℕ) (binding : LetWord) (d : Data) (w v u : Walked) (child : ℕ) (numbers : List ℕ)
    (r : Reading Node) → IsTidy w → v ≡ child_at (walk levels) (codes "child") d w → child ≡ last v
    → u ≡ (list_at (walk levels) (codes "bodies") d v).walked
    → numbers ≡ (list_at (walk levels) (codes "bodies") d v).numbers
    → r ≡ let_node binding d child numbers → IfGood r (λ n. AreRoots u (named_by n))
let-roots levels binding d w v u child numbers r tidy is at goes are read =
    let first = child-goes levels (codes "child") d w v tidy is in
    let second = list-goes levels (codes "bodies") d v u numbers
    (child-tidy levels (codes "child") d w v tidy is) goes are in
    let roots = leads-roots w u (last v ∷ numbers) (leads-append w v u (last v ∷ []) numbers first second) in
    let P : Reading Node → Type 0 = λ x. IfGood x (λ n. AreRoots u (named_by n)) in
    let Q : ℕ → Type 0 = λ k. AreRoots u (k ∷ numbers) in
    subst P (sym read)
    (over-roots (child ∷ numbers) false (let_node binding d child numbers) u
    (reads-let binding d child numbers) (subst Q (sym at) roots))

-- a node over two children
pub two-roots : (levels : ℕ) (d : Data) (w v u : Walked) (first second : ℕ) → IsTidy w
    → v ≡ child_at (walk levels) (codes "first") d w → first ≡ last v
    → u ≡ child_at (walk levels) (codes "second") d v → second ≡ last u
    → AreRoots u (first ∷ second ∷ [])
two-roots levels d w v u first second tidy is at goes ends =
    let tidy_first = child-tidy levels (codes "first") d w v tidy is in
    let P : ℕ → Type 0 = λ k. AreRoots u (k ∷ second ∷ []) in
    let Q : ℕ → Type 0 = λ k. AreRoots u (last v ∷ k ∷ []) in
    subst P (sym at) (subst Q (sym ends) (leads-roots w u (last v ∷ last u ∷ [])
    (leads-append w v u (last v ∷ []) (last u ∷ []) (child-goes levels (codes "first") d w v tidy is)
    (child-goes levels (codes "second") d v u tidy_first goes))))

-- one node more in a list
pub next-leads : (levels : ℕ) (d : Data) (w v u : Walked) (numbers more : List ℕ) (next : ℕ)
    → Leads w v numbers → u ≡ walk levels d v → next ≡ last u → more ≡ numbers ++ next ∷ []
    → Leads w u more
next-leads levels d w v u numbers more next leads is at pushed =
    let P : Walked → Type 0 = λ x. Leads v x (last x ∷ []) in
    let one : Leads v u (last u ∷ []) =
    subst P (sym is) (walk-gives_root levels d v (leads-tidy w v numbers leads)) in
    let Q : ℕ → Type 0 = λ k. Leads w u (numbers ++ k ∷ []) in
    let R : List ℕ → Type 0 = λ ks. Leads w u ks in
    subst R (sym pushed) (subst Q (sym at) (leads-append w v u numbers (last u ∷ []) leads one))

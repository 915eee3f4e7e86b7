-- How a walk makes a node, and how it goes down.
use Rattle.std.proofs.Common.{◌≡◌, ℕ, zero, suc, ◌-◌, ◌<◌, true, false, List, Option, Some, None, Result, Ok, Err, refl, sym, ap, ◌∙◌, subst, arith, sub-one}
use Rattle.std.specs.Option.{option_map, option_map_or, option_or}
use Rattle.std.specs.Prelude.{codes, nat_lt, not, ◌+◌, length}
use Rattle.serde_json.specs.Data.{Data}
use Rattle.plan_rules.specs.declared.node.Node.{Node}
use Rattle.plan_shape.specs.declared.fault.BuildFault.{BuildFault}
use Rattle.plan_shape.specs.declared.fault.BuildFault.TheVariants.{NoMemory, TooDeep, TooManyChildren, TooManyNodes, UsedChild}
use Rattle.plan_shape.specs.declared.limits.TheConstants.{MOST_DEPTH, MOST_PLAN_NODES}
use Rattle.plan_rules.specs.Children.{named_by}
use Rattle.plan_shape.specs.Children.{part_count}
use Rattle.plan_shape.specs.Conditions.{has_lawful_count}
use Rattle.plan_shape.specs.Depths.{depth_of, depth_over}
use Rattle.plan_shape.specs.Added.{with_node}
use Rattle.plan_shape.specs.Refusals.{Adds, Answers, fault_if, fault_of, used_child}
use Rattle.plan_parts.specs.declared.reading.Faults.{Faults}
use Rattle.plan_parts.specs.declared.reading.TheConstants.{FORM_FAULT, LIMIT_FAULT}
use Rattle.plan_parts.specs.Reading.{both, any_fault}
use Rattle.plan_parts.specs.Objects.{text_at}
use Rattle.plan_reader.specs.Limits.{node_limit}
use Rattle.plan_reader.specs.NodeWords.{node_named, node_keys}
use Rattle.plan_reader.specs.Roots.{AreRoots}
use Rattle.plan_reader.specs.declared.node_word.NodeWord.{NodeWord}
use Rattle.plan_reader.specs.Walked.{Walked, blame, check_keys, made, make, named_node, parts, walk}

made-added : (o : Option BuildFault) (n : Node) (w : Walked) (number : ℕ)
    → Answers o (Ok number) → record w { nodes = with_node w.nodes n } ≡ made o n w
made-added None n w number answer = refl
made-added (Some f) n w number answer = cc

made-refused : (o : Option BuildFault) (n : Node) (w : Walked) (f : BuildFault)
    → Answers {T = ℕ} o (Err f) → (f ≡ NoMemory → ⊥) → blame LIMIT_FAULT w ≡ made o n w
made-refused None n w f answer other = absurd (other answer)
made-refused (Some g) n w f answer other = refl

-- where something is wrong nothing is made
pub make-faulty : (n : Node) (w : Walked) → any_fault w.faults ≡ true → w ≡ make n w
unfolding make
make-faulty n w is = rw is refl

-- where the children are roots, what a builder refuses passes a limit
limit-of : (nodes : List Node) (n : Node) → used_child nodes (named_by n) ≡ None
    → fault_of nodes n ≡ node_limit nodes n
limit-of nodes n none =
    ap (λ (o : Option ℕ). option_or (fault_if (not (has_lawful_count n)) TooManyChildren)
    (option_or (option_map UsedChild o)
    (option_or (fault_if (nat_lt MOST_PLAN_NODES (length nodes + part_count n + 1)) TooManyNodes)
    (fault_if (nat_lt MOST_DEPTH (depth_over (depth_of nodes) (named_by n))) TooDeep)))) none

-- a node that the builder took is made
pub make-added : (n : Node) (w : Walked) (new : List Node) (r : Result ℕ BuildFault) (number : ℕ)
    → any_fault w.faults ≡ false → AreRoots w (named_by n) → Adds w.nodes new n r → r ≡ Ok number
    → record w { nodes = new } ≡ make n w
unfolding make
make-added n w new r number is roots adds ok =
    let R : Result ℕ BuildFault → Type 0 = λ x. Adds w.nodes new n x in
    let taken = subst R ok adds in
    let nodes : new ≡ with_node w.nodes n = taken.added in
    rw is (ap (λ (ns : List Node). record w { nodes = ns }) nodes
    ∙ made-added (node_limit w.nodes n) n w number
    (subst (λ (o : Option BuildFault). Answers o (Ok number)) (limit-of w.nodes n (roots is)) taken.answer))

-- one that it refused passes a limit
pub make-refused : (n : Node) (w : Walked) (new : List Node) (r : Result ℕ BuildFault) (f : BuildFault)
    (faults : Faults)
    → any_fault w.faults ≡ false → AreRoots w (named_by n) → Adds w.nodes new n r → r ≡ Err f
    → (f ≡ NoMemory → ⊥)
    → faults ≡ both w.faults LIMIT_FAULT
    → record w { nodes = new; faults = faults } ≡ make n w
unfolding make
make-refused n w new r f faults is roots adds err other more =
    let R : Result ℕ BuildFault → Type 0 = λ x. Adds w.nodes new n x in
    let refused = subst R err adds in
    let nodes : new ≡ w.nodes = refused.unchanged in
    let bad : record w { nodes = new; faults = faults } ≡ blame LIMIT_FAULT w =
    ap (λ (ns : List Node). record w { nodes = ns; faults = faults }) nodes
    ∙ ap (λ (fs : Faults). record w { faults = fs }) more in
    rw is (bad ∙ made-refused (node_limit w.nodes n) n w f
    (subst (λ (o : Option BuildFault). Answers {T = ℕ} o (Err f)) (limit-of w.nodes n (roots is)) refused.answer) other)

pub walk-zero : (levels : ℕ) (d : Data) (w : Walked) → levels ≡ 0 → blame LIMIT_FAULT w ≡ walk levels d w
unfolding walk
walk-zero levels d w is = rw is refl

-- one level down
pub walk-suc : (levels : ℕ) (d : Data) (w : Walked) → 0 < levels
    → walk levels d w
    ≡ option_map_or (λ name. named_node (walk (levels - 1)) (node_named w.is_first name) d w)
    (text_at (codes "do") d) (blame FORM_FAULT w)
unfolding walk
walk-suc zero d w some = absurd (omega arith)
walk-suc (suc levels) d w some = rw sub-one refl

-- a node without a name
pub walk-no_name : (levels : ℕ) (d : Data) (w : Walked) → 0 < levels
    → text_at (codes "do") d ≡ None → blame FORM_FAULT w ≡ walk levels d w
walk-no_name levels d w some none = rw (walk-suc levels d w some, none) refl

-- a node with one
pub walk-named : (levels : ℕ) (d : Data) (w : Walked) (name : List ℕ) (word : Option NodeWord)
    → 0 < levels → text_at (codes "do") d ≡ Some name → word ≡ node_named w.is_first name
    → named_node (walk (levels - 1)) word d w ≡ walk levels d w
walk-named levels d w name word some is named =
    ap (λ (o : Option NodeWord). named_node (walk (levels - 1)) o d w) named
    ∙ rw (walk-suc levels d w some, is) refl

-- a node whose keys were checked
pub walk-known : (levels : ℕ) (d : Data) (w v : Walked) (name : List ℕ) (word : NodeWord) (keys : List (List ℕ))
    → 0 < levels → Some name ≡ text_at (codes "do") d → Some word ≡ node_named w.is_first name
    → v ≡ check_keys keys d w → keys ≡ node_keys word
    → parts (walk (levels - 1)) word d v ≡ walk levels d w
walk-known levels d w v name word keys some is named checked known =
    ap (parts (walk (levels - 1)) word d) (checked ∙ ap (λ (ks : List (List ℕ)). check_keys ks d w) known)
    ∙ walk-named levels d w name (Some word) some (sym is) named

-- The children that run with the arguments of their parent may begin.
use Rattle.std.specs.Prelude.{Contains}
use Rattle.std.proofs.Common.{◌≡◌, ℕ, Bool, true, false, List, [], ◌∷◌, Some, None, inl, refl, sym, subst}
use Rattle.plan_rules.specs.declared.node.Node.{Node}
use Rattle.plan_rules.specs.declared.node.Node.TheVariants.{LetValue, LetError, LetStopped, Bulk}
use Rattle.home_items.specs.declared.entry.Entry.{Entry}
use Rattle.home_items.specs.Entries.{node_of, args_of, asked_of, child_of, plan_node, start_below}
use Rattle.home_items.specs.HasKinds.{HasKinds}
use Rattle.home_items.specs.Below.{asked_below, IsPlainChild, ByNode, GoesBelow}
use Rattle.home_items.specs.Starts.{IsReceiver, IsReceiverStart, BeginsBelow, NeedsNoRequest}
use Rattle.home_items.specs.Fits.{FitsChild}
use Rattle.home_items.proofs.Beginning.{goes-on, top-begins}
use Rattle.home_items.proofs.Collecting.{receiver-none}
use Rattle.home_items.proofs.Fitting.{below-names, start-fits}
use Rattle.home_items.proofs.KindsBelow.{option-in}
use Rattle.start_laws.specs.Nodes.{IsStartOf, plain_children}
use Rattle.start_laws.specs.Laws.{MayBegin, ChildrenMayBegin}
use Rattle.start_laws.proofs.Pairs.{none-some, start-kinds, below-plain}

-- the entry of a child
abbrev pub entry_below : Entry → ℕ → Bool → Entry
entry_below p child asked = record {
  plan = p.plan;
  node = child;
  args = p.args;
  number = p.number;
  asked = asked;
  whole = [];
  child = None;
}

-- a start that begins below another, and rests on no request unless one is known
pub may-begin : (start : List Entry) → BeginsBelow start → (requested : Bool) →
    (requested ≡ false → NeedsNoRequest start) → MayBegin start (node_of start) requested
may-begin start begins requested calm =
    record { begins = begins; fits = start-fits start (below-names start begins) requested calm }

-- a child that runs with its parent's arguments goes on below it
pub plain-by : (node : Node) (seen : Bool) (e p : Entry) → IsPlainChild (Some node) e p → ByNode (Some node) seen e p
plain-by (LetValue child pick bodies) seen e p run = inl run
plain-by (LetError child pick bodies) seen e p run = inl run
plain-by (LetStopped child pick bodies) seen e p run = inl run
plain-by (Bulk child job) seen e p run = inl run
plain-by node seen e p run = run

plain-goes : (p : Entry) (node : Node) → plan_node p ≡ Some node → (child : ℕ) → Contains (plain_children node) child →
    (seen : Bool) → GoesBelow seen (entry_below p child (asked_below (Some node) p.asked)) p
plain-goes p node at child among seen =
    let e : Entry = entry_below p child (asked_below (Some node) p.asked) in
    let run : IsPlainChild (Some node) e p =
    record { runs = below-plain node p child among; args = refl; asked = refl; whole = refl } in
    record {
      plan = refl;
      number = refl;
      child = refl;
      by = subst (λ o. ByNode o seen e p) (sym at) (plain-by node seen e p run);
    }

top-goes : (p : Entry) → IsReceiver p → (child : ℕ) → p.child ≡ Some child → (seen : Bool) →
    GoesBelow seen (entry_below p child p.asked) p
top-goes p is child names seen =
    let e : Entry = entry_below p child p.asked in
    let run : IsPlainChild None e p =
    record { runs = option-in p.child child names; args = refl; asked = refl; whole = refl } in
    record {
      plan = refl;
      number = refl;
      child = refl;
      by = subst (λ o. ByNode o seen e p) (sym (receiver-none p is)) run;
    }

below-begins : (start : List Entry) (node : Node) → IsStartOf start node → (child : ℕ) →
    Contains (plain_children node) child → (requested : Bool) →
    MayBegin (start_below child (args_of start) [] (asked_below (Some node) (asked_of start)) start) child requested
below-begins [] node at child among requested = none-some at.node_is
below-begins (p ∷ above) node at child among requested =
    let asked = asked_below (Some node) p.asked in
    let has : HasKinds p.plan p.node p.args = start-kinds (p ∷ above) node at.start_is at.node_is in
    let begins = goes-on (entry_below p child asked) p at.runnable has node at.node_is
    (plain-goes p node at.node_is child among true) in
    may-begin (start_below child p.args [] asked (p ∷ above)) begins requested
    (λ none. plain-goes p node at.node_is child among false)

top-may : (start : List Entry) → IsReceiverStart start → FitsChild start → (child : ℕ) → child_of start ≡ Some child →
    (requested : Bool) → MayBegin (start_below child (args_of start) [] (asked_of start) start) child requested
top-may [] is fits child names requested = absurd is
top-may (e ∷ p ∷ above) is fits child names requested = absurd is
top-may (p ∷ []) is fits child names requested =
    may-begin (start_below child p.args [] p.asked (p ∷ [])) (top-begins p is fits child names) requested
    (λ none. top-goes p is child names false)

pub children-begin : ChildrenMayBegin
children-begin = record { below = below-begins; top = top-may }

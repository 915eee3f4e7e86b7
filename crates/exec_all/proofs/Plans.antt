-- A `when_all` of a plan, in the table over it.
use Rattle.std.specs.Prelude.{Contains, slice_index}
use Rattle.std.proofs.Common.{◌≡◌, ℕ, ◌<◌, ◌≤◌, true, false, ◌&&◌, leb, eqb, List, [], ◌∷◌, length, Option, Some, None, arith, refl, sym, ap, ◌∙◌, subst}
use Rattle.std.proofs.lemmas.Bool.{and_parts, eq-eqb, leb-true}
use Rattle.std.proofs.lemmas.List.{append-nil, get_or_default}
use Rattle.std.proofs.lemmas.List.Elements.{Contains-get_or}
use Rattle.common_lemmas.specs.Lists.{are_different}
use Rattle.exec_value.specs.declared.outcome.Completion.{Completion}
use Rattle.exec_value.specs.declared.outcome.Completion.TheVariants.{Value, Error, Stopped, NoMemory}
use Rattle.life_rules.specs.declared.event.Name.{Name}
use Rattle.node_tree.specs.Tree.{is_child}
use Rattle.plan_rules.specs.declared.node.Node.{Node}
use Rattle.plan_rules.specs.declared.node.Node.TheVariants.{WhenAll}
use Rattle.plan_shape.specs.Blueprint.{Blueprint}
use Rattle.plan_shape.specs.Children.{children_of}
use Rattle.plan_shape.specs.declared.limits.TheConstants.{MOST_CHILDREN}
use Rattle.plan_kinds.specs.TreeLaws.{ShowsNode}
use Rattle.table_steps.specs.Awaits.{is_named}
use Rattle.table_steps.specs.Views.{Board}
use Rattle.home_items.specs.declared.entry.Entry.{Entry}
use Rattle.home_items.specs.Contents.{Rest, Done}
use Rattle.home_items.specs.Below.{run_below, asked_below}
use Rattle.home_items.specs.Bounds.{least_of, least_at_rest, least_when_done}
use Rattle.home_items.specs.Parcels.{Delivery}
use Rattle.exec_recv.specs.Sites.{plan_at, node_at, IsSite}
use Rattle.start_laws.specs.Nodes.{IsStartOf}
use Rattle.start_laws.proofs.Pairs.{none-some, below-plain}
use Rattle.step_parts.specs.Starts.{RunsBelow, asked_for_child}
use Rattle.step_parts.proofs.Places.{node-shown}
use Rattle.step_parts.specs.Kids.{AreKids}
use Rattle.step_parts.proofs.Lists.{any-at}

children-are : (children : List ℕ) (n : ℕ) → children_of n (WhenAll children) ≡ children
children-are children n = append-nil children

module _ (board : Board Blueprint) (x : Name) (children : List ℕ) (site : IsSite board) (at : node_at board x ≡ Some (WhenAll children)) where
  shown : ShowsNode board.frame.tree x.node (WhenAll children)
  shown = node-shown board (plan_at board) x (WhenAll children) site.over at

  -- these are its children, and no others
  pub all-kids : AreKids board x children
  all-kids =
      record {
        each = λ i within.
            (shown.children (slice_index children i)).1
            (subst (λ l. Contains l (slice_index children i)) (sym (children-are children x.node)) (Contains-get_or children i 0 within), refl);
        different = subst (λ l. are_different l ≡ true) (children-are children x.node)
            (site.over.is_plan.forest.each x.node (WhenAll children) at).distinct;
      }

  pub among-kids : (n : ℕ) → is_child board.frame.tree x.node n ≡ true → (i : ℕ) × (i < length children) × (slice_index children i ≡ n)
  among-kids n below =
      let there : Contains children n =
      subst (λ l. Contains l n) (children-are children x.node) ((shown.children n).0 below).0 in
      (there.0, there.1, get_or_default children there.0 0 n there.1 ∙ there.2)

  pub named-kids : (n : ℕ) → is_child board.frame.tree x.node n ≡ true → is_named children n ≡ true
  named-kids n below =
      let among = among-kids n below in
      any-at (λ m. eqb m n) children among.0 among.1 (eq-eqb (slice_index children among.0) n among.2)

  -- it has some
  pub some-kids : 1 ≤ length children
  some-kids =
      let count : (leb 2 (length children) && leb (length children) MOST_CHILDREN) ≡ true =
      (site.over.is_plan.forest.each x.node (WhenAll children) at).count in
      let most = leb-true 2 (length children) (and_parts (leb 2 (length children)) (leb (length children) MOST_CHILDREN) count).0 in
      omega (arith, most)

-- how many children it must have begun: all when it rests, and at most all when it is done
least-rest : (children : List ℕ) (kept : Option Delivery) → least_at_rest (Some (WhenAll children)) kept ≡ length children
least-rest children None = refl
least-rest children (Some parcel) = refl

pub rest-all : (start : List Entry) (children : List ℕ) (kept : Option Delivery) → IsStartOf start (WhenAll children) →
    least_of (Rest start kept) ≡ length children
rest-all start children kept of = ap (λ o. least_at_rest o kept) of.node_is ∙ least-rest children kept

least-done : (children : List ℕ) (c : Completion) → least_when_done (Some (WhenAll children)) c ≤ length children
least-done children (Value values) = omega arith
least-done children (Error name) = omega arith
least-done children Stopped = omega arith
least-done children NoMemory = omega arith

pub done-all : (parcel : Delivery) (children : List ℕ) → IsStartOf parcel.start (WhenAll children) → least_of (Done parcel) ≤ length children
done-all parcel children of =
    subst (λ o. least_when_done o parcel.completion ≤ length children) (sym of.node_is) (least-done children parcel.completion)

-- its children run with its arguments, and no request was made before they start
pub all-run : (start : List Entry) (children : List ℕ) → IsStartOf start (WhenAll children) → (i : ℕ) → i < length children →
    RunsBelow start (slice_index children i)
all-run [] children of i within = none-some of.node_is
all-run (p ∷ above) children of i within =
    subst (λ (o : Option Node). Contains (run_below o p) (slice_index children i)) (sym of.node_is)
    (below-plain (WhenAll children) p (slice_index children i) (Contains-get_or children i 0 within))

pub all-unasked : (start : List Entry) (children : List ℕ) → IsStartOf start (WhenAll children) → asked_for_child start ≡ false
all-unasked [] children of = none-some of.node_is
all-unasked (p ∷ above) children of = ap (λ (o : Option Node). asked_below o p.asked) of.node_is

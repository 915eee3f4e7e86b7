-- A child runs with arguments of its kinds, where its parent does and the plan's kinds match.
use Rattle.std.specs.Prelude.{Contains, slice_get, slice_index}
use Rattle.std.specs.Option.{option_to_list}
use Rattle.std.proofs.Common.{◌≡◌, ℕ, suc, ◌-◌, ◌<◌, Bool, List, [], ◌∷◌, length, min, ℤ, pos, negsuc, Option, Some, None, inl, inr, refl, sym, ap, subst, arith}
use Rattle.std.proofs.lemmas.Option.{same_Some, slice_get-get_or, get_or_from_slice_get}
use Rattle.std.proofs.lemmas.List.Elements.{All-contains, Contains-push_cases}
use Rattle.exec_value.specs.declared.kinds.Kind.TheVariants.{Int as IntKind, Row as RowKind}
use Rattle.exec_value.specs.declared.data.Datum.{Datum}
use Rattle.exec_value.specs.declared.data.Datum.TheVariants.{Text}
use Rattle.exec_value.specs.declared.outcome.Completion.{Completion}
use Rattle.exec_value.specs.declared.outcome.Completion.TheVariants.{Value, Error, Stopped, NoMemory}
use Rattle.exec_job.specs.declared.job.Job.{Job}
use Rattle.plan_rules.specs.declared.node.Node.{Node}
use Rattle.plan_rules.specs.declared.node.Node.TheVariants.{LetValue, LetError, LetStopped, Bulk, Part, Ahead}
use Rattle.plan_rules.specs.declared.stop.StopState.{StopState}
use Rattle.plan_rules.specs.Children.{named_by}
use Rattle.plan_rules.specs.Allowed.{Allowed, body_at}
use Rattle.plan_rules.specs.Images.{value_data, error_data, stopped_data}
use Rattle.plan_shape.specs.Blueprint.{Blueprint}
use Rattle.plan_kinds.specs.declared.sig.Sig.{Sig}
use Rattle.plan_kinds.specs.Shapes.{Shape, HasShape}
use Rattle.plan_kinds.specs.Gives.{text_alone}
use Rattle.plan_kinds.specs.Runs.{run_by, bodies_of}
use Rattle.plan_kinds.specs.Values.{body_arguments}
use Rattle.plan_kinds.specs.Signatures.{own_sigs, sig_of, Fits}
use Rattle.plan_kinds.specs.Reached.{Reaches}
use Rattle.plan_kinds.specs.Built.{IsBuilt, IsNoPart, AreArguments}
use Rattle.plan_kinds.proofs.Placing.{run-named, body-named, no-member}
use Rattle.plan_kinds.proofs.Kept.{plain-arguments, kinds-kept}
use Rattle.plan_kinds.proofs.Plans.{plans-built}
use Rattle.plan_kinds.specs.Runnable.{IsRunnable}
use Rattle.home_items.specs.declared.entry.Entry.{Entry}
use Rattle.home_items.specs.Entries.{plan_node}
use Rattle.home_items.specs.Shares.{first_index, share_of, part_args}
use Rattle.home_items.specs.HasKinds.{HasKinds}
use Rattle.plan_rules.specs.Seen.{seen_state}
use Rattle.home_items.specs.Below.{run_below, IsPlainChild, IsBody, ByNode, GoesBelow}
use Rattle.home_items.specs.Fits.{FitsChild}

-- a node that runs another with its own arguments is no part, so its arguments are of a shape
plain-shape : (node : Node) (k : ℕ) → Contains (run_by node) k → (a : Shape) (values : List Datum) →
    AreArguments (Some node) a values → HasShape values a
plain-shape (Part bulk part) k among a values have = no-member k among
plain-shape node k among a values have = have

-- what runs below a node with its arguments is among the children that it names
below-run : (node : Node) (p : Entry) (k : ℕ) → Contains (run_below (Some node) p) k → Contains (run_by node) k
below-run (Ahead first second) p k among =
    let i = among.0 in (suc i, omega (arith, among.1), among.2)
below-run node p k among = among

-- what stands in a list of at most one
pub in-option : (o : Option ℕ) (k : ℕ) → Contains (option_to_list o) k → o ≡ Some k
in-option None k among = no-member k among
in-option (Some j) k among =
    elim (Contains-push_cases [] j k among) [ inl none_there ↦ no-member k none_there | inr e ↦ ap Some e ]

pub option-in : (o : Option ℕ) (k : ℕ) → o ≡ Some k → Contains (option_to_list o) k
option-in None k e = cc
option-in (Some j) k e = (0, omega arith, same_Some j k e)

-- what stands at an index of a list is in it
at-index : (xs : List ℕ) (i : ℕ) → i < length xs → Contains xs (slice_index xs i)
at-index xs i within =
    (i, within, get_or_from_slice_get xs i (slice_index xs i) (slice_index xs i) (slice_get-get_or xs i 0 within))

-- the body that a number names is one of the bodies
pub body-among : (bodies : List ℕ) → 0 < length bodies → (k : ℤ) → Contains bodies (body_at bodies k)
body-among bodies some (pos k) = at-index bodies (min k (length bodies - 1)) (omega arith)
body-among bodies some (negsuc k) = at-index bodies 0 some

-- a completion on a channel has data of that channel's shape
on-value : (sig : Sig) (done : Completion) → Fits sig done → (values : List Datum) →
    value_data done ≡ Some values → HasShape values sig.value
on-value sig (Value own) fits values e = subst (λ data_. HasShape data_ sig.value) (same_Some own values e) fits
on-value sig (Error name) fits values e = cc
on-value sig Stopped fits values e = cc
on-value sig NoMemory fits values e = cc

on-error : (done : Completion) (values : List Datum) → error_data done ≡ Some values → HasShape values text_alone
on-error (Error name) values e =
    subst (λ data_. HasShape data_ text_alone) (same_Some (Text name ∷ []) values e) (tt, tt)
on-error (Value own) values e = cc
on-error Stopped values e = cc
on-error NoMemory values e = cc

on-stopped : (done : Completion) (values : List Datum) → stopped_data done ≡ Some values → HasShape values (Some [])
on-stopped Stopped values e = subst (λ data_. HasShape data_ (Some [])) (same_Some [] values e) tt
on-stopped (Value own) values e = cc
on-stopped (Error name) values e = cc
on-stopped NoMemory values e = cc

module _ (plan : Blueprint) (runnable : IsRunnable plan) (n : ℕ) (args : List Datum) (has : HasKinds plan n args)
    (node : Node) (at : slice_get plan.nodes n ≡ Some node) where
  abbrev built : IsBuilt plan.nodes
  built = plans-built plan runnable.plan_is

  plain-at : (k : ℕ) → Contains (named_by node) k → IsNoPart (slice_get plan.nodes k)
  plain-at k among =
      All-contains (λ i. IsNoPart (slice_get plan.nodes i)) (named_by node) k (built.no_parts n node at) among

  -- a child that runs with its parent's arguments
  pub run-kinds : (k : ℕ) → Contains (run_by node) k → HasKinds plan k args
  run-kinds k among = record {
    shape = has.shape;
    reached = Reaches.child has.reached at among;
    kinds = plain-arguments (slice_get plan.nodes k) (plain-at k (run-named node k among)) has.shape args
        (plain-shape node k among has.shape args
        (subst (λ o. AreArguments o has.shape args) at has.kinds));
  }

  -- completes as its signature says
  pub run-ends : (k : ℕ) → Contains (run_by node) k → (r : ℕ) (q : StopState) (done : Completion) →
      Allowed plan.nodes k args r q done → Fits (sig_of plan.nodes k has.shape) done
  unfolding run-kinds
  run-ends k among r q done allowed =
      let kinds = run-kinds k among in
      kinds-kept plan.nodes plan.settings.input built runnable.matching k has.shape kinds.reached args kinds.kinds
      r q done allowed

  -- a body runs with data of the shape that is its own
  pub body-kinds : (k : ℕ) → Contains (bodies_of node) k → (values : List Datum) →
      HasShape values (body_arguments node (own_sigs (sig_of plan.nodes) node has.shape)) → HasKinds plan k values
  body-kinds k among values have = record {
    shape = body_arguments node (own_sigs (sig_of plan.nodes) node has.shape);
    reached = Reaches.body has.reached at among;
    kinds = plain-arguments (slice_get plan.nodes k) (plain-at k (body-named node k among)) _ values have;
  }

-- a part runs with its share of a row
pub part-kinds : (plan : Blueprint) (n bulk part : ℕ) → slice_get plan.nodes n ≡ Some (Part bulk part) →
    (whole : List ℤ) (number : ℕ) → HasKinds plan n (part_args whole number)
part-kinds plan n bulk part at whole number = record {
  shape = Some (RowKind ∷ IntKind ∷ []);
  reached = Reaches.part at;
  kinds = subst (λ o. AreArguments o (Some (RowKind ∷ IntKind ∷ [])) (part_args whole number)) (sym at)
      (share_of whole number, first_index (length whole) number, refl);
}

-- the same of a child by the entry that goes on below its parent's
module _ (e p : Entry) (runnable : IsRunnable p.plan) (has : HasKinds p.plan p.node p.args) where
  child-kinds : (node : Node) → plan_node p ≡ Some node → IsPlainChild (Some node) e p → HasKinds p.plan e.node e.args
  child-kinds node at run =
      subst (HasKinds p.plan e.node) (sym run.args)
      (run-kinds p.plan runnable p.node p.args has node at e.node (below-run node p e.node run.runs))

  picked-kinds : (node : Node) → plan_node p ≡ Some node → (channel : Completion → Option (List Datum)) (child : ℕ)
      (pick : Job) (bodies : List ℕ) → bodies_of node ≡ bodies → 0 < length bodies → Contains (run_by node) child →
      ((done : Completion) → Fits (sig_of p.plan.nodes child has.shape) done → channel done ≡ Some e.args →
      HasShape e.args (body_arguments node (own_sigs (sig_of p.plan.nodes) node has.shape))) →
      (seen : Bool) → IsBody channel child pick bodies seen e p → HasKinds p.plan e.node e.args
  picked-kinds node at channel child pick bodies same some among shape seen body =
      body-kinds p.plan runnable p.node p.args has node at e.node
      (subst (λ ks. Contains ks e.node) (sym same)
      (subst (Contains bodies) (sym body.body) (body-among bodies some body.number)))
      e.args
      (shape body.done
      (run-ends p.plan runnable p.node p.args has node at child among p.number (seen_state p.asked seen) body.done body.allowed)
      body.args)

  node-kinds : (node : Node) → plan_node p ≡ Some node → (seen : Bool) → ByNode (Some node) seen e p →
      HasKinds p.plan e.node e.args
  node-kinds (LetValue child pick bodies) at seen (inl run) = child-kinds (LetValue child pick bodies) at run
  node-kinds (LetValue child pick bodies) at seen (inr body) =
      picked-kinds (LetValue child pick bodies) at value_data child pick bodies refl
      ((plans-built p.plan runnable.plan_is).whole p.node (LetValue child pick bodies) at) (0, omega arith, refl)
      (λ done fits on. on-value (sig_of p.plan.nodes child has.shape) done fits e.args on) seen body
  node-kinds (LetError child pick bodies) at seen (inl run) = child-kinds (LetError child pick bodies) at run
  node-kinds (LetError child pick bodies) at seen (inr body) =
      picked-kinds (LetError child pick bodies) at error_data child pick bodies refl
      ((plans-built p.plan runnable.plan_is).whole p.node (LetError child pick bodies) at) (0, omega arith, refl)
      (λ done fits on. on-error done e.args on) seen body
  node-kinds (LetStopped child pick bodies) at seen (inl run) = child-kinds (LetStopped child pick bodies) at run
  node-kinds (LetStopped child pick bodies) at seen (inr body) =
      picked-kinds (LetStopped child pick bodies) at stopped_data child pick bodies refl
      ((plans-built p.plan runnable.plan_is).whole p.node (LetStopped child pick bodies) at) (0, omega arith, refl)
      (λ done fits on. on-stopped done e.args on) seen body
  node-kinds (Bulk child job) at seen (inl run) = child-kinds (Bulk child job) at run
  node-kinds (Bulk child job) at seen (inr part) =
      subst (HasKinds p.plan e.node) (sym part.args)
      (part-kinds p.plan e.node p.node part.part part.node e.whole part.part)
  node-kinds node at seen run = child-kinds node at run

  pub kinds-below : (node : Node) → plan_node p ≡ Some node → (seen : Bool) → GoesBelow seen e p →
      HasKinds e.plan e.node e.args
  kinds-below node at seen under =
      subst (λ plan. HasKinds plan e.node e.args) (sym under.plan)
      (node-kinds node at seen (subst (λ o. ByNode o seen e p) at under.by))

-- the child that a start of the receiver node names
pub kinds-named : (e p : Entry) → plan_node p ≡ None → FitsChild (p ∷ []) → (seen : Bool) → GoesBelow seen e p →
    HasKinds e.plan e.node e.args
kinds-named e p at fits seen under =
    let run : IsPlainChild None e p = subst (λ o. ByNode o seen e p) at under.by in
    subst (λ plan. HasKinds plan e.node e.args) (sym under.plan)
    (subst (HasKinds p.plan e.node) (sym run.args) (fits e.node (in-option p.child e.node run.runs)))

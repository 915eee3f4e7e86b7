-- How the children of a `when_all` are joined one by one, and that there is room for joined data.
use Rattle.std.specs.Prelude.{Contains, IsTrue, IfSome, Some, None, map, slice_get}
use Rattle.std.proofs.Common.{◌≡◌, ℕ, ◌+◌, ◌<◌, ◌≤◌, Bool, true, List, [], ◌∷◌, ◌++◌, length, take, get_or, refl, sym, ap, ◌∙◌, subst, arith, length-append}
use Rattle.std.proofs.lemmas.Bool.{cond-true, leb-true}
use Rattle.std.proofs.lemmas.Option.{same_Some}
use Rattle.std.proofs.lemmas.List.{append_assoc, append-nil, map-append, take_more}
use Rattle.exec_value.specs.declared.limits.TheConstants.{DATA}
use Rattle.exec_value.specs.declared.data.Datum.{Datum}
use Rattle.exec_value.specs.declared.outcome.Completion.{Completion}
use Rattle.exec_value.specs.declared.outcome.Completion.TheVariants.{Value, Error, Stopped, NoMemory}
use Rattle.exec_job.proofs.OperandLemmas.{kinds-length}
use Rattle.plan_rules.specs.declared.node.Node.{Node}
use Rattle.plan_rules.specs.declared.node.Node.TheVariants.{WhenAll, Ahead}
use Rattle.plan_rules.specs.Images.{value_data}
use Rattle.plan_rules.specs.Settle.{and_then, all_of}
use Rattle.plan_laws.proofs.Memory.{HasMemory}
use Rattle.plan_kinds.specs.Shapes.{Shape, HasShape, joined, never_or, is_few}
use Rattle.plan_kinds.specs.Runs.{run_by}
use Rattle.plan_kinds.specs.Values.{shapes_of}
use Rattle.plan_kinds.specs.Signatures.{own_sigs, sig_of, matches, Fits}
use Rattle.plan_kinds.specs.declared.sig.Sig.{Sig}
use Rattle.plan_kinds.proofs.Signed.{signed-by-case}
use Rattle.plan_settle.specs.declared.evaluation.Evaluation.{Evaluation}
use Rattle.plan_kinds.specs.Runnable.{RunsWith, IsRunnable}
use Rattle.plan_settle.specs.Settles.{settled_by}
use Rattle.plan_kinds.proofs.Runnable.{first, second, built, matched, child-fits, settles-in_kind}

value-assoc : (f : List Datum) (y z : Completion) →
    and_then (and_then (Value f) y) z ≡ and_then (Value f) (and_then y z)
value-assoc f (Value g) (Value h) = ap Value (append_assoc f g h)
value-assoc f (Value g) z = refl
value-assoc f (Error e) z = refl
value-assoc f y (Value h) = refl
value-assoc f y z = refl

stopped-assoc : (y z : Completion) → and_then (and_then Stopped y) z ≡ and_then Stopped (and_then y z)
stopped-assoc (Value g) (Value h) = refl
stopped-assoc (Value g) z = refl
stopped-assoc (Error e) z = refl
stopped-assoc y (Value h) = refl
stopped-assoc y z = refl

memory-assoc : (y z : Completion) → and_then (and_then NoMemory y) z ≡ and_then NoMemory (and_then y z)
memory-assoc (Value g) (Value h) = refl
memory-assoc (Value g) z = refl
memory-assoc (Error e) z = refl
memory-assoc y (Value h) = refl
memory-assoc y z = refl

and_then-assoc : (x y z : Completion) → and_then (and_then x y) z ≡ and_then x (and_then y z)
and_then-assoc (Value f) y z = value-assoc f y z
and_then-assoc (Error e) y z = refl
and_then-assoc Stopped y z = stopped-assoc y z
and_then-assoc NoMemory y z = memory-assoc y z

alone : (c : Completion) → HasMemory c → all_of (c ∷ []) ≡ c
alone (Value values) memory = ap Value (append-nil values)
alone (Error e) memory = refl
alone Stopped memory = refl
alone NoMemory memory = absurd memory

last-of : (c : Completion) → and_then (Value []) c ≡ c
last-of (Value values) = refl
last-of c = refl

-- one completion more
all_of-more : (cs : List Completion) (c : Completion) → HasMemory c →
    all_of (cs ++ c ∷ []) ≡ and_then (all_of cs) c
all_of-more [] c memory = alone c memory ∙ sym (last-of c)
all_of-more (x ∷ cs) c memory =
    ap (and_then x) (all_of-more cs c memory) ∙ sym (and_then-assoc x (all_of cs) c)

-- one child more
pub all_of-take : (f : ℕ → Completion) (xs : List ℕ) (i d : ℕ) → i < length xs →
    HasMemory (f (get_or xs i d)) →
    all_of (map f (take (i + 1) xs)) ≡ and_then (all_of (map f (take i xs))) (f (get_or xs i d))
all_of-take f xs i d within memory =
    ap (λ l. all_of (map f l)) (take_more xs i d within)
    ∙ ap all_of (map-append f (take i xs) (get_or xs i d ∷ []))
    ∙ all_of-more (map f (take i xs)) (f (get_or xs i d)) memory

few-value : (shape : Shape) (values : List Datum) → IsTrue (never_or is_few shape) → HasShape values shape →
    length values ≤ DATA
few-value None values few have = absurd have
few-value (Some kinds) values few have =
    let most = leb-true (length kinds) DATA few in omega (arith, most, kinds-length values kinds have)

few-pair : (a b : Shape) (front values : List Datum) → IsTrue (never_or is_few (joined (a ∷ b ∷ []))) →
    HasShape front a → HasShape values b → length front + length values ≤ DATA
few-pair None b front values few have behind = absurd have
few-pair a None front values few have behind = absurd behind
few-pair (Some ks) (Some js) front values few have behind =
    let most = leb-true (length (ks ++ (js ++ []))) DATA few in
    omega (
      arith,
      most,
      length-append ks (js ++ []),
      length-append js [],
      kinds-length front ks have,
      kinds-length values js behind,
    )

-- a completion that has these data as its value
pub value-data : (c : Completion) (values : List Datum) → value_data c ≡ Some values → c ≡ Value values
value-data (Value front) values is = ap (λ (l : List Datum). Value l) (same_Some front values is)
value-data (Error name) values is = cc
value-data Stopped values is = cc
value-data NoMemory values is = cc

value-fits : (c : Completion) (values : List Datum) →
    ((front : List Datum) → c ≡ Value front → length front + length values ≤ DATA) →
    IfSome (value_data c) (λ front. length front + length values ≤ DATA)
value-fits (Value front) values each = each front refl
value-fits c values each = tt

module _ (run : Evaluation) {n : ℕ} {args : List Datum} (runnable : IsRunnable run.plan.now)
    (runs : RunsWith run.plan.now n args) where
  abbrev nodes : List Node
  nodes = run.plan.now.nodes

  child-shape : {node : Node} → slice_get run.plan.now.nodes n ≡ Some node → {k : ℕ} →
      Contains (run_by node) k → {values : List Datum} → settled_by run k args ≡ Value values →
      HasShape values (sig_of run.plan.now.nodes k runs.shape).value
  child-shape {node} at {k} among is =
      subst (Fits (sig_of nodes k runs.shape)) is
      (child-fits run.plan.now runnable n args runs node at k among run.number run.asked)

  -- an `ahead` has room for both values
  ahead-room : {k j : ℕ} → slice_get run.plan.now.nodes n ≡ Some (Ahead k j) →
      (front values : List Datum) → settled_by run k args ≡ Value front →
      value_data (settled_by run j args) ≡ Some values → length front + length values ≤ DATA
  ahead-room {k} {j} at front values one other =
      few-pair (sig_of nodes k runs.shape).value (sig_of nodes j runs.shape).value front values
      (matched run.plan.now runnable n args runs (Ahead k j) at)
      (child-shape at (first k (j ∷ [])) one)
      (child-shape at (second k j) (value-data (settled_by run j args) values other))

  pub ahead-fits : {k j : ℕ} → slice_get run.plan.now.nodes n ≡ Some (Ahead k j) → {done other : Completion}
      {values : List Datum} → done ≡ settled_by run k args → other ≡ settled_by run j args →
      value_data other ≡ Some values →
      IfSome (value_data done) (λ front. length front + length values ≤ DATA)
  ahead-fits {k} {j} at {done} {other} {values} one two is =
      value-fits done values (λ front value. ahead-room at front values (sym one ∙ value)
      (ap value_data (sym two) ∙ is))

  -- a `when_all` has room for all values
  pub all-room : {children : List ℕ} → slice_get run.plan.now.nodes n ≡ Some (WhenAll children) →
      (values : List Datum) → settled_by run n args ≡ Value values → length values ≤ DATA
  all-room {children} at values is =
      let node : Node = WhenAll children in
      let shape = joined (shapes_of (own_sigs (sig_of nodes) node runs.shape)) in
      let test : Bool = matches nodes node runs.shape in
      let match : test ≡ true = matched run.plan.now runnable n args runs node at in
      let ordered = (built run.plan.now runnable n args runs node at).ordered in
      let signed = signed-by-case nodes ordered n node at runs.shape in
      let value : (sig_of nodes n runs.shape).value ≡ shape =
      ap (λ (sig : Sig). sig.value) signed ∙ cond-true test shape None match in
      few-value shape values match
      (subst (HasShape values) value
      (subst (Fits (sig_of nodes n runs.shape)) is
      (settles-in_kind run.plan.now runnable n args runs run.number run.asked)))

-- No operand is wrong: a job takes what its node's child completes with.
use Rattle.std.specs.Prelude.{IsTrue, IfSome, Option, Some, None, Err, slice_get}
use Rattle.std.proofs.Common.{◌≡◌, ◌⊎◌, ℕ, ◌<◌, Bool, List, [], ◌∷◌, length, refl, sym, ap, ◌∙◌, subst, inl, inr}
use Rattle.std.proofs.lemmas.Bool.{and_parts}
use Rattle.exec_value.specs.Kinds.{HaveKinds}
use Rattle.exec_value.specs.declared.kinds.Kind.{Kind}
use Rattle.exec_value.specs.declared.kinds.Kind.TheVariants.{Text as TextKind}
use Rattle.exec_value.specs.declared.data.Datum.{Datum}
use Rattle.exec_value.specs.declared.data.Datum.TheVariants.{Text}
use Rattle.exec_value.specs.declared.outcome.Completion.{Completion}
use Rattle.exec_value.specs.declared.outcome.Completion.TheVariants.{Value, Error, Stopped}
use Rattle.exec_value.specs.Place.{AreInPlace}
use Rattle.exec_value.specs.declared.limits.TheConstants.{INLINE_BYTES}
use Rattle.exec_job.specs.Answer.{EndsInPlace}
use Rattle.exec_job.specs.Apply.{TakesData, apply_of}
use Rattle.exec_job.specs.Takes.{is_int, takes}
use Rattle.exec_job.specs.declared.job.Job.{Job}
use Rattle.plan_rules.specs.declared.node.Node.{Node}
use Rattle.plan_rules.specs.declared.node.Node.TheVariants.{Then, UponError, UponStopped, LetValue, LetError, LetStopped}
use Rattle.plan_rules.specs.Images.{value_data, error_data, stopped_data}
use Rattle.plan_rules.specs.Settle.{lets_of, picked_of}
use Rattle.plan_laws.proofs.Readings.{settled-by-case}
use Rattle.plan_kinds.specs.Shapes.{Shape, HasShape, never_or}
use Rattle.plan_kinds.specs.Gives.{gives, picks}
use Rattle.plan_kinds.specs.Signatures.{sig_of, Fits}
use Rattle.plan_shape.specs.Blueprint.{Blueprint}
use Rattle.plan_settle.specs.declared.evaluation.Evaluation.{Evaluation}
use Rattle.plan_kinds.proofs.Plans.{plans-built}
use Rattle.node_images.specs.Makes.{CompletesInPlace}
use Rattle.plan_kinds.specs.Runnable.{RunsWith, IsRunnable}
use Rattle.plan_settle.specs.Runs.{MayPick, SettlesLong}
use Rattle.plan_settle.specs.Settles.{settled_by, settled_case}
use Rattle.plan_kinds.proofs.Taken.{fits-value, value-taken, error-taken, stopped-taken}
use Rattle.plan_kinds.proofs.Runnable.{first, built, matched, child-fits, runs-child, before-body, bodies-run}
use Rattle.plan_settle.proofs.InPlace.{none-in_place, one-in_place, shape-in_place, settled-place, pick-place}

-- data of a shape have its kinds
have-kinds : (test : List Kind → Bool) (shape : Shape) (values : List Datum) → IsTrue (never_or test shape) →
    HasShape values shape → (kinds : List Kind) × HaveKinds values kinds × IsTrue (test kinds)
have-kinds test None values passes have = absurd have
have-kinds test (Some kinds) values passes have = (kinds, have, passes)

-- what holds of the data that a completion has on a channel
value-channel : (d : Completion) (P : List Datum → Type 0) →
    ((values : List Datum) → d ≡ Value values → P values) → IfSome (value_data d) P
value-channel (Value values) P each = each values refl
value-channel d P each = tt

error-channel : (d : Completion) (P : List Datum → Type 0) →
    ((name : List ℕ) → d ≡ Error name → P (Text name ∷ [])) → IfSome (error_data d) P
error-channel (Error name) P each = each name refl
error-channel d P each = tt

stopped-channel : (d : Completion) (P : List Datum → Type 0) → (d ≡ Stopped → P []) →
    IfSome (stopped_data d) P
stopped-channel Stopped P none = none refl
stopped-channel d P none = tt

-- what was taken from a channel is what the settled completion has there
taken-may : (channel : Completion → Option (List Datum)) (settled done : Completion)
    (taken : Option (List Datum)) (P : List Datum → Type 0) → done ≡ settled → taken ≡ channel done →
    IfSome (channel settled) P → IfSome taken P
taken-may channel settled done taken P same is may =
    subst (λ (x : Option (List Datum)). IfSome x P) (sym (is ∙ ap channel same)) may

module _ (run : Evaluation) {n : ℕ} {args : List Datum} (runnable : IsRunnable run.plan.now)
    (runs : RunsWith run.plan.now n args) where
  abbrev plan : Blueprint
  plan = run.plan.now

  pub then-taken : {k : ℕ} {job : Job} {done : Completion} →
      slice_get run.plan.now.nodes n ≡ Some (Then k job) → done ≡ settled_by run k args → IfSome (value_data done) (TakesData job)
  then-taken {k} {job} {done} at same =
      subst (λ d. IfSome (value_data d) (TakesData job)) (sym same)
      (value-taken job (sig_of plan.nodes k runs.shape).value (settled_by run k args)
      (matched plan runnable n args runs (Then k job) at)
      (fits-value (sig_of plan.nodes k runs.shape) (settled_by run k args)
      (child-fits plan runnable n args runs (Then k job) at k (first k []) run.number run.asked)))

  pub upon_error-taken : {k : ℕ} {job : Job} {done : Completion} →
      slice_get run.plan.now.nodes n ≡ Some (UponError k job) →
      done ≡ settled_by run k args → IfSome (error_data done) (TakesData job)
  upon_error-taken {k} {job} {done} at same =
      error-taken job done
      (and_parts (takes job (TextKind ∷ [])) _ (matched plan runnable n args runs (UponError k job) at)).0

  pub upon_stopped-taken : {k : ℕ} {job : Job} {done : Completion} →
      slice_get run.plan.now.nodes n ≡ Some (UponStopped k job) →
      done ≡ settled_by run k args → IfSome (stopped_data done) (TakesData job)
  upon_stopped-taken {k} {job} {done} at same =
      stopped-taken job done
      (and_parts (takes job []) _ (matched plan runnable n args runs (UponStopped k job) at)).0

  let_by-case : (node : Node) → slice_get run.plan.now.nodes n ≡ Some node →
      settled_by run n args ≡ settled_case run node args
  let_by-case node at =
      settled-by-case plan.nodes (plans-built plan runnable.plan_is).ordered n node at args run.number run.asked

  -- a pick's answer stands in place, or the let settles to the long error that it is
  picks-place : (pick : Job) (values : List Datum) → AreInPlace values →
      EndsInPlace (apply_of pick values)
      ⊎ ((name : List ℕ) × (apply_of pick values ≡ Err name) × (INLINE_BYTES < length name)) →
      ((name : List ℕ) → apply_of pick values ≡ Err name → settled_by run n args ≡ Error name) →
      (AreInPlace values × EndsInPlace (apply_of pick values)) ⊎ SettlesLong run.plan.now run.number
  picks-place pick values place (inl ends) fails = inl (place, ends)
  picks-place pick values place (inr e) fails = inr (record {
    node = n;
    args = args;
    asked = run.asked;
    name = e.0;
    runs = runs;
    settles = fails e.0 e.1;
    long = e.2;
  })

  let_value-picks : (k : ℕ) (pick : Job) (bodies : List ℕ) →
      slice_get run.plan.now.nodes n ≡ Some (LetValue k pick bodies) → (values : List Datum) →
      settled_by run k args ≡ Value values → MayPick run n pick bodies values
  let_value-picks k pick bodies at values is =
      let node : Node = LetValue k pick bodies in
      let shape = (sig_of plan.nodes k runs.shape).value in
      let fits = child-fits plan runnable n args runs node at k (first k []) run.number run.asked in
      let have : HasShape values shape = subst (Fits (sig_of plan.nodes k runs.shape)) is fits in
      let picking = and_parts (never_or (picks pick) shape) _ (matched plan runnable n args runs node at) in
      let found = have-kinds (picks pick) shape values picking.0 have in
      let taking = and_parts (takes pick found.0) (never_or is_int (gives pick found.0)) found.2 in
      record {
        takes = (found.0, found.1, taking.0);
        some = (built plan runnable n args runs node at).whole n node at;
        before = before-body plan runnable n args runs node at;
        bodies_run = bodies-run plan runnable n args runs node at values have;
        in_place = λ small.
            let place = shape-in_place shape
            (small.values k runs.shape (runs-child plan runnable n args runs node at k (first k [])).reached)
            values have in
            picks-place pick values place (pick-place pick found.0 found.2 values found.1)
            (λ name fails.
            let_by-case node at
            ∙ ap (λ d. lets_of value_data pick bodies (λ m b. settled_by run m b) d) is
            ∙ ap (λ answer. picked_of answer bodies (λ m. settled_by run m values)) fails);
      }

  let_error-picks : (k : ℕ) (pick : Job) (bodies : List ℕ) →
      slice_get run.plan.now.nodes n ≡ Some (LetError k pick bodies) → (name : List ℕ) →
      settled_by run k args ≡ Error name → MayPick run n pick bodies (Text name ∷ [])
  let_error-picks k pick bodies at name is =
      let node : Node = LetError k pick bodies in
      let kinds : List Kind = TextKind ∷ [] in
      let have : HaveKinds (Text name ∷ []) kinds = (tt, tt) in
      let picking = and_parts (picks pick kinds) _ (matched plan runnable n args runs node at) in
      let taking = and_parts (takes pick kinds) (never_or is_int (gives pick kinds)) picking.0 in
      record {
        takes = (kinds, have, taking.0);
        some = (built plan runnable n args runs node at).whole n node at;
        before = before-body plan runnable n args runs node at;
        bodies_run = bodies-run plan runnable n args runs node at (Text name ∷ []) have;
        in_place = λ small.
            elim (settled-place plan runnable small k args
            (runs-child plan runnable n args runs node at k (first k [])) run.number run.asked) [
              | inl place ↦
                  picks-place pick (Text name ∷ [])
                  (one-in_place (Text name) (subst CompletesInPlace is place))
                  (pick-place pick kinds picking.0 (Text name ∷ []) have)
                  (λ own fails.
                  let_by-case node at
                  ∙ ap (λ d. lets_of error_data pick bodies (λ m b. settled_by run m b) d) is
                  ∙ ap (λ answer. picked_of answer bodies (λ m. settled_by run m (Text name ∷ []))) fails)
              | inr long ↦ inr long
            ];
      }

  let_stopped-picks : (k : ℕ) (pick : Job) (bodies : List ℕ) →
      slice_get run.plan.now.nodes n ≡ Some (LetStopped k pick bodies) → settled_by run k args ≡ Stopped →
      MayPick run n pick bodies []
  let_stopped-picks k pick bodies at is =
      let node : Node = LetStopped k pick bodies in
      let kinds : List Kind = [] in
      let picking = and_parts (picks pick kinds) _ (matched plan runnable n args runs node at) in
      let taking = and_parts (takes pick kinds) (never_or is_int (gives pick kinds)) picking.0 in
      record {
        takes = (kinds, tt, taking.0);
        some = (built plan runnable n args runs node at).whole n node at;
        before = before-body plan runnable n args runs node at;
        bodies_run = bodies-run plan runnable n args runs node at [] tt;
        in_place = λ small.
            picks-place pick [] none-in_place (pick-place pick kinds picking.0 [] tt)
            (λ name fails.
            let_by-case node at
            ∙ ap (λ d. lets_of stopped_data pick bodies (λ m b. settled_by run m b) d) is
            ∙ ap (λ answer. picked_of answer bodies (λ m. settled_by run m [])) fails);
      }

  -- the pick of a let, where its child completes with done, takes what that has on the let's channel
  pub let_value-may : {k : ℕ} {pick : Job} {bodies : List ℕ} {done : Completion}
      {taken : Option (List Datum)} →
      slice_get run.plan.now.nodes n ≡ Some (LetValue k pick bodies) → done ≡ settled_by run k args →
      taken ≡ value_data done → IfSome taken (MayPick run n pick bodies)
  let_value-may {k} {pick} {bodies} {done} {taken} at same is =
      taken-may value_data (settled_by run k args) done taken (MayPick run n pick bodies) same is
      (value-channel (settled_by run k args) (MayPick run n pick bodies)
      (let_value-picks k pick bodies at))

  pub let_error-may : {k : ℕ} {pick : Job} {bodies : List ℕ} {done : Completion}
      {taken : Option (List Datum)} →
      slice_get run.plan.now.nodes n ≡ Some (LetError k pick bodies) → done ≡ settled_by run k args →
      taken ≡ error_data done → IfSome taken (MayPick run n pick bodies)
  let_error-may {k} {pick} {bodies} {done} {taken} at same is =
      taken-may error_data (settled_by run k args) done taken (MayPick run n pick bodies) same is
      (error-channel (settled_by run k args) (MayPick run n pick bodies)
      (let_error-picks k pick bodies at))

  pub let_stopped-may : {k : ℕ} {pick : Job} {bodies : List ℕ} {done : Completion}
      {taken : Option (List Datum)} →
      slice_get run.plan.now.nodes n ≡ Some (LetStopped k pick bodies) → done ≡ settled_by run k args →
      taken ≡ stopped_data done → IfSome taken (MayPick run n pick bodies)
  let_stopped-may {k} {pick} {bodies} {done} {taken} at same is =
      taken-may stopped_data (settled_by run k args) done taken (MayPick run n pick bodies) same is
      (stopped-channel (settled_by run k args) (MayPick run n pick bodies)
      (let_stopped-picks k pick bodies at))

-- How a `when_all` and an `ahead` settle once their children have.
use Rattle.std.specs.Prelude.{Some, Result, Ok, Err, OnOk, slice_get, map}
use Rattle.std.proofs.Common.{◌≡◌, ℕ, ◌+◌, ◌<◌, ◌≤◌, false, List, length, take, get_or, refl, sym, ap, ◌∙◌, subst, inl, inr, arith}
use Rattle.std.specs.declared.alloc.AllocError.{AllocError}
use Rattle.std.proofs.lemmas.List.{take_all}
use Rattle.exec_value.specs.declared.limits.TheConstants.{DATA, INLINE_DATA}
use Rattle.exec_value.specs.declared.data.Datum.{Datum}
use Rattle.exec_value.specs.declared.outcome.Completion.{Completion}
use Rattle.exec_value.specs.declared.outcome.Completion.TheVariants.{Value, Error, Stopped, NoMemory}
use Rattle.plan_rules.specs.declared.node.Node.TheVariants.{WhenAll, Ahead}
use Rattle.plan_rules.specs.Images.{value_data}
use Rattle.plan_rules.specs.Settle.{unless_asked, and_then, all_of, ahead_of, settle_of}
use Rattle.plan_laws.proofs.Memory.{HasMemory}
use Rattle.plan_laws.proofs.Evaluation.{settled-memory}
use Rattle.plan_laws.proofs.Readings.{settled-by-case}
use Rattle.plan_settle.specs.declared.evaluation.Evaluation.{Evaluation}
use Rattle.node_images.specs.declared.join.NoRoom.{NoRoom}
use Rattle.node_images.specs.declared.join.NoRoom.TheVariants.{Memory, Limit}
use Rattle.node_images.specs.Joined.{HasMoreThan, Tells}
use Rattle.node_images.specs.Makes.{CompletesInPlace}
use Rattle.plan_kinds.specs.Runnable.{RunsWith, IsRunnable}
use Rattle.plan_settle.specs.Settles.{Settles, settled_by, settled_case}
use Rattle.plan_kinds.proofs.Plans.{plans-built}
use Rattle.plan_settle.proofs.Arms.{case-place}
use Rattle.plan_settle.proofs.Together.{value-data, all_of-take, all-room}

has-memory : (c : Completion) → (c ≡ NoMemory → ⊥) → HasMemory c
has-memory (Value values) memory = tt
has-memory (Error name) memory = tt
has-memory Stopped memory = tt
has-memory NoMemory memory = memory refl

-- a value that has more data than some number, and no more
no-more : (most : ℕ) (c : Completion) → HasMoreThan most c →
    ((values : List Datum) → c ≡ Value values → length values ≤ most) → ⊥
no-more most (Value values) more few = let fits = few values refl in omega (arith, more, fits)
no-more most (Error name) more few = more
no-more most Stopped more few = more
no-more most NoMemory more few = more

few-in_place : (c : Completion) → CompletesInPlace c → (values : List Datum) → c ≡ Value values →
    length values ≤ INLINE_DATA
few-in_place c place values is = (subst CompletesInPlace is place).few

module _ (run : Evaluation) {n : ℕ} {args : List Datum} {children : List ℕ}
    (runnable : IsRunnable run.plan.now) (runs : RunsWith run.plan.now n args)
    (at : slice_get run.plan.now.nodes n ≡ Some (WhenAll children)) (plain : run.asked ≡ false) where
  abbrev each : ℕ → Completion
  each k = settle_of run.plan.now.nodes k args run.number false

  -- one child more
  pub all-more : (i : ℕ) → i < length children →
      (front result : Result Completion NoRoom) (done : Completion) →
      done ≡ settled_by run (get_or children i 0) args → Tells front (all_of (map each (take i children))) →
      ((c : Completion) → Tells front c → Tells result (and_then c done)) →
      Tells result (all_of (map each (take (i + 1) children)))
  all-more i within front result done exact told joins =
      let child = get_or children i 0 in
      let memory = has-memory (each child) (settled-memory run.plan.now.nodes child args run.number false) in
      let same : done ≡ each child =
      exact ∙ ap (settle_of run.plan.now.nodes child args run.number) plain in
      subst (Tells result)
      (ap (and_then (all_of (map each (take i children)))) same
      ∙ sym (all_of-take each children i 0 within memory))
      (joins (all_of (map each (take i children))) told)

  -- all children together are what the node settles to
  all-case : (i : ℕ) → length children ≤ i →
      all_of (map each (take i children)) ≡ settled_case run (WhenAll children) args
  all-case i past =
      ap (λ l. all_of (map each l)) (take_all i children past)
      ∙ ap (λ s. unless_asked s (all_of (map each children))) (sym plain)

  by-case : settled_by run n args ≡ settled_case run (WhenAll children) args
  by-case =
      settled-by-case run.plan.now.nodes (plans-built run.plan.now runnable.plan_is).ordered
      n (WhenAll children) at args run.number run.asked

  module _ (i : ℕ) (past : length children ≤ i) (front : Result Completion NoRoom)
      (told : Tells front (all_of (map each (take i children)))) where
    abbrev TellsCase : Result Completion NoRoom → Type 0
    TellsCase r = Tells r (settled_case run (WhenAll children) args)

    told-case : Tells front (settled_case run (WhenAll children) args)
    told-case = subst (Tells front) (all-case i past) told

    pub all-settles : (done : Completion) → front ≡ Ok done →
        Settles run (settled_case run (WhenAll children) args) done (Ok tt)
    all-settles done is = record { exact = subst TellsCase is told-case; small = λ small. tt }

    pub all-limit : (why : NoRoom) → front ≡ Err why → why ≡ Limit → ⊥
    all-limit why is limit =
        no-more DATA (settled_case run (WhenAll children) args)
        (subst TellsCase
        (is ∙ ap Err limit) told-case)
        (λ values value. all-room run runnable runs at values (by-case ∙ value))

    pub all-no_memory : (why : NoRoom) → front ≡ Err why → why ≡ Memory → (made : Completion)
        (e : AllocError) → Settles run (settled_case run (WhenAll children) args) made (Err e)
    all-no_memory why is memory made e = record {
      exact = tt;
      small = λ small. elim (case-place run runnable runs at refl small) [
        | inl place ↦ absurd (no-more INLINE_DATA (settled_case run (WhenAll children) args)
            (subst TellsCase (is ∙ ap Err memory) told-case)
            (few-in_place (settled_case run (WhenAll children) args) place))
        | inr long ↦ long
      ];
    }

-- an `ahead` whose second child has a value settles to its first's completion before it; no small plan has one
pub ahead-settles : (run : Evaluation) (n : ℕ) (args : List Datum) {k j : ℕ} →
    slice_get run.plan.now.nodes n ≡ Some (Ahead k j) → {front other made : Completion} {values : List Datum}
    {result : Result (Unit {0}) AllocError} → front ≡ settled_by run k args → other ≡ settled_by run j args →
    value_data other ≡ Some values → OnOk result (made ≡ ahead_of front (Value values)) →
    Settles run (settled_case run (Ahead k j) args) made result
ahead-settles run n args {k} {j} at {front} {other} {made} {values} {result} first second is exact =
    let same : ahead_of front (Value values) ≡ settled_case run (Ahead k j) args =
    ap (λ c. ahead_of c (Value values)) first
    ∙ ap (ahead_of (settled_by run k args)) (sym (value-data other values is) ∙ second) in
    record {
      exact = subst (λ c. OnOk result (made ≡ c)) same exact;
      small = λ small. absurd (small.nodes_are n (Ahead k j) at);
    }

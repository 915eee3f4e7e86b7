-- Lets keep kinds.
use Rattle.std.specs.Prelude.{slice_index, min}
use Rattle.std.proofs.Common.{◌≡◌, ℕ, ◌-◌, ◌<◌, ℤ, pos, negsuc, Bool, IsTrue, ◌&&◌, ◌||◌, List, [], ◌∷◌, length, Some, None, Ok, Err, refl, sym, subst, arith}
use Rattle.std.proofs.lemmas.Bool.{and_parts, or_left, or_right}
use Rattle.exec_value.specs.Kinds.{HaveKinds}
use Rattle.exec_value.specs.declared.kinds.Kind.{Kind}
use Rattle.exec_value.specs.declared.kinds.Kind.TheVariants.{Int as IntKind, Text as TextKind}
use Rattle.exec_value.specs.declared.data.Datum.{Datum}
use Rattle.exec_value.specs.declared.data.Datum.TheVariants.{Text}
use Rattle.exec_value.specs.declared.outcome.Completion.{Completion}
use Rattle.exec_value.specs.declared.outcome.Completion.TheVariants.{Value, Error, Stopped, NoMemory}
use Rattle.exec_job.specs.Answer.{Answer}
use Rattle.exec_job.specs.Apply.{apply_of}
use Rattle.exec_job.specs.Takes.{is_int, takes}
use Rattle.exec_job.specs.declared.job.Job.{Job}
use Rattle.plan_rules.specs.Images.{value_data, error_data, stopped_data}
use Rattle.plan_rules.specs.Allowed.{body_at, PickedBy, LetOf}
use Rattle.plan_kinds.specs.Shapes.{Shape, HasShape, common, all_agree, never_or}
use Rattle.plan_kinds.specs.Gives.{text_alone, gives, may_fail, picks}
use Rattle.plan_kinds.specs.Signatures.{Signatures, sigs_at, Fits}
use Rattle.plan_kinds.specs.Flags.{any_error, any_stop}
use Rattle.plan_kinds.specs.Laws.{AnswerFits}
use Rattle.plan_kinds.specs.declared.sig.Sig.{Sig}
use Rattle.plan_kinds.proofs.Jobs.{jobs-keep_kinds, one-int}
use Rattle.plan_kinds.proofs.Fitting.{FitsAs, same-fits, wider-fits}
use Rattle.plan_kinds.proofs.Agreeing.{values_at, front-common, common-at, behind-common, any-at}

-- the body that a number names is one of the bodies
body-place : (bodies : List ℕ) → 0 < length bodies → (k : ℤ) →
    (i : ℕ) × (i < length bodies) × (body_at bodies k ≡ slice_index bodies i)
body-place bodies some (pos k) = (min k (length bodies - 1), omega arith, refl)
body-place bodies some (negsuc k) = (0, some, refl)

int-shape : (kinds : List Kind) → IsTrue (is_int kinds) → kinds ≡ IntKind ∷ []
int-shape (IntKind ∷ []) int = refl
int-shape kinds int = cc

-- a pick that gives one int, or never a value, names a body or ends with an error
picked : (shape : Shape) (fails : Bool) (answer : Answer) → IsTrue (never_or is_int shape) →
    AnswerFits shape fails answer → (bodies : List ℕ) (Body : ℕ → Completion → Type 0)
    (Good : Completion → Type 0) → ((k : ℤ) (c : Completion) → Body (body_at bodies k) c → Good c) →
    ((e : List ℕ) → IsTrue fails → Good (Error e)) → (c : Completion) → PickedBy answer bodies Body c → Good c
picked (Some kinds) fails (Ok values) int fits bodies Body Good body err c h =
    let one = one-int values (subst (HaveKinds values) (int-shape kinds int) fits) in
    body one.0 c (subst (λ (l : List Datum). PickedBy (Ok l) bodies Body c) one.1 h)
picked None fails (Ok values) int fits bodies Body Good body err c h = absurd fits
picked shape fails (Err e) int fits bodies Body Good body err c h = subst Good (sym h) (err e fits)

-- the same for data of kinds that the job picks by
picks-fit : (pick : Job) (kinds : List Kind) (values : List Datum) → IsTrue (picks pick kinds) →
    HaveKinds values kinds → (bodies : List ℕ) (Body : ℕ → Completion → Type 0)
    (Good : Completion → Type 0) → ((k : ℤ) (c : Completion) → Body (body_at bodies k) c → Good c) →
    ((e : List ℕ) → IsTrue (may_fail pick) → Good (Error e)) → (c : Completion) →
    PickedBy (apply_of pick values) bodies Body c → Good c
picks-fit pick kinds values match have =
    let parts = and_parts (takes pick kinds) (never_or is_int (gives pick kinds)) match in
    picked (gives pick kinds) (may_fail pick) (apply_of pick values) parts.1
    (jobs-keep_kinds pick values kinds have parts.0)

module _ (below : Signatures) (bodies : List ℕ) (some : 0 < length bodies) where
  -- a body that is run, where all bodies agree
  place-fits : (b : Shape) → IsTrue (all_agree (values_at below bodies b)) →
      (i : ℕ) → i < length bodies → (c : Completion) → Fits (below (slice_index bodies i) b) c →
      FitsAs (common (values_at below bodies b)) (any_error (sigs_at below bodies b)) (any_stop (sigs_at below bodies b)) c
  place-fits b agree i within (Value values) fits = common-at below b bodies i within values agree fits
  place-fits b agree i within (Error e) fits =
      any-at below b (λ (sig : Sig). sig.may_error) bodies i within fits
  place-fits b agree i within Stopped fits =
      any-at below b (λ (sig : Sig). sig.may_stop) bodies i within fits
  place-fits b agree i within NoMemory fits = absurd fits

  body-fits : (b : Shape) → IsTrue (all_agree (values_at below bodies b)) → (k : ℤ) (c : Completion) →
      Fits (below (body_at bodies k) b) c →
      FitsAs (common (values_at below bodies b)) (any_error (sigs_at below bodies b)) (any_stop (sigs_at below bodies b)) c
  body-fits b agree k c fits =
      let at = body-place bodies some k in
      place-fits b agree at.0 at.1 c (subst (λ n. Fits (below n b) c) at.2 fits)

  -- the same where the bodies agree with the child too
  place-behind : (own b : Shape) → IsTrue (all_agree (own ∷ values_at below bodies b)) →
      (i : ℕ) → i < length bodies → (c : Completion) → Fits (below (slice_index bodies i) b) c →
      FitsAs (common (own ∷ values_at below bodies b)) (any_error (sigs_at below bodies b)) (any_stop (sigs_at below bodies b)) c
  place-behind own b agree i within (Value values) fits =
      behind-common below b own bodies i within values agree fits
  place-behind own b agree i within (Error e) fits =
      any-at below b (λ (sig : Sig). sig.may_error) bodies i within fits
  place-behind own b agree i within Stopped fits =
      any-at below b (λ (sig : Sig). sig.may_stop) bodies i within fits
  place-behind own b agree i within NoMemory fits = absurd fits

  body-behind : (own b : Shape) → IsTrue (all_agree (own ∷ values_at below bodies b)) →
      (k : ℤ) (c : Completion) → Fits (below (body_at bodies k) b) c →
      FitsAs (common (own ∷ values_at below bodies b)) (any_error (sigs_at below bodies b)) (any_stop (sigs_at below bodies b)) c
  body-behind own b agree k c fits =
      let at = body-place bodies some k in
      place-behind own b agree at.0 at.1 c (subst (λ n. Fits (below n b) c) at.2 fits)

  -- the bodies that a number names keep kinds, under data of this shape
  abbrev pub BodiesKeep : Shape → (ℕ → List Datum → Completion → Type 0) → Type 0
  BodiesKeep b Body =
      (k : ℤ) (values : List Datum) → HasShape values b → (c : Completion) → Body (body_at bodies k) values c →
      Fits (below (body_at bodies k) b) c

  pub let_value-fits : (pick : Job) (own : Shape) (errs stops : Bool)
      (Body : ℕ → List Datum → Completion → Type 0) → BodiesKeep own Body →
      IsTrue (never_or (picks pick) own && all_agree (values_at below bodies own)) →
      (d : Completion) → FitsAs own errs stops d → (c : Completion) → LetOf (value_data d) pick bodies Body d c →
      FitsAs (common (values_at below bodies own)) (errs || may_fail pick || any_error (sigs_at below bodies own))
      (stops || any_stop (sigs_at below bodies own)) c
  let_value-fits pick (Some kinds) errs stops Body body match (Value values) fits c h =
      let b : Shape = Some kinds in
      let shape : Shape = common (values_at below bodies b) in
      let more : Bool = any_error (sigs_at below bodies b) in
      let halts : Bool = any_stop (sigs_at below bodies b) in
      let parts = and_parts (picks pick kinds) (all_agree (values_at below bodies b)) match in
      picks-fit pick kinds values parts.0 fits bodies (λ n. Body n values)
      (FitsAs shape (errs || may_fail pick || more) (stops || halts))
      (λ k e at. wider-fits shape more (errs || may_fail pick || more) halts (stops || halts)
      (or_right (errs || may_fail pick) more) (or_right stops halts) e
      (body-fits b parts.1 k e (body k values fits e at)))
      (λ e fails. or_left (errs || may_fail pick) more (or_right errs (may_fail pick) fails)) c h
  let_value-fits pick None errs stops Body body match (Value values) fits c h = absurd fits
  let_value-fits pick own errs stops Body body match (Error e) fits c h =
      let more : Bool = any_error (sigs_at below bodies own) in
      same-fits (common (values_at below bodies own)) (errs || may_fail pick || more)
      (stops || any_stop (sigs_at below bodies own)) (Error e) c
      (or_left (errs || may_fail pick) more (or_left errs (may_fail pick) fits)) h
  let_value-fits pick own errs stops Body body match Stopped fits c h =
      same-fits (common (values_at below bodies own)) (errs || may_fail pick || any_error (sigs_at below bodies own))
      (stops || any_stop (sigs_at below bodies own)) Stopped c (or_left stops (any_stop (sigs_at below bodies own)) fits) h
  let_value-fits pick own errs stops Body body match NoMemory fits c h = absurd fits

  pub let_error-fits : (pick : Job) (own : Shape) (errs stops : Bool)
      (Body : ℕ → List Datum → Completion → Type 0) → BodiesKeep text_alone Body →
      IsTrue (picks pick (TextKind ∷ []) && all_agree (own ∷ values_at below bodies text_alone)) →
      (d : Completion) → FitsAs own errs stops d → (c : Completion) → LetOf (error_data d) pick bodies Body d c →
      FitsAs (common (own ∷ values_at below bodies text_alone)) (may_fail pick || any_error (sigs_at below bodies text_alone))
      (stops || any_stop (sigs_at below bodies text_alone)) c
  let_error-fits pick own errs stops Body body match (Error e) fits c h =
      let shape : Shape = common (own ∷ values_at below bodies text_alone) in
      let more : Bool = any_error (sigs_at below bodies text_alone) in
      let halts : Bool = any_stop (sigs_at below bodies text_alone) in
      let parts = and_parts (picks pick (TextKind ∷ [])) (all_agree (own ∷ values_at below bodies text_alone)) match in
      picks-fit pick (TextKind ∷ []) (Text e ∷ []) parts.0 (tt, tt) bodies (λ n. Body n (Text e ∷ []))
      (FitsAs shape (may_fail pick || more) (stops || halts))
      (λ k d at. wider-fits shape more (may_fail pick || more) halts (stops || halts)
      (or_right (may_fail pick) more) (or_right stops halts) d
      (body-behind own text_alone parts.1 k d (body k (Text e ∷ []) (tt, tt) d at)))
      (λ name fails. or_left (may_fail pick) more fails) c h
  let_error-fits pick own errs stops Body body match (Value values) fits c h =
      same-fits (common (own ∷ values_at below bodies text_alone)) (may_fail pick || any_error (sigs_at below bodies text_alone))
      (stops || any_stop (sigs_at below bodies text_alone)) (Value values) c
      (front-common own (values_at below bodies text_alone) values fits) h
  let_error-fits pick own errs stops Body body match Stopped fits c h =
      same-fits (common (own ∷ values_at below bodies text_alone)) (may_fail pick || any_error (sigs_at below bodies text_alone))
      (stops || any_stop (sigs_at below bodies text_alone)) Stopped c
      (or_left stops (any_stop (sigs_at below bodies text_alone)) fits) h
  let_error-fits pick own errs stops Body body match NoMemory fits c h = absurd fits

  pub let_stopped-fits : (pick : Job) (own : Shape) (errs stops : Bool)
      (Body : ℕ → List Datum → Completion → Type 0) → BodiesKeep (Some []) Body →
      IsTrue (picks pick [] && all_agree (own ∷ values_at below bodies (Some []))) →
      (d : Completion) → FitsAs own errs stops d → (c : Completion) → LetOf (stopped_data d) pick bodies Body d c →
      FitsAs (common (own ∷ values_at below bodies (Some [])))
      (errs || may_fail pick || any_error (sigs_at below bodies (Some []))) (any_stop (sigs_at below bodies (Some []))) c
  let_stopped-fits pick own errs stops Body body match Stopped fits c h =
      let b : Shape = Some [] in
      let shape : Shape = common (own ∷ values_at below bodies b) in
      let more : Bool = any_error (sigs_at below bodies b) in
      let halts : Bool = any_stop (sigs_at below bodies b) in
      let parts = and_parts (picks pick []) (all_agree (own ∷ values_at below bodies b)) match in
      picks-fit pick [] [] parts.0 tt bodies (λ n. Body n [])
      (FitsAs shape (errs || may_fail pick || more) halts)
      (λ k d at. wider-fits shape more (errs || may_fail pick || more) halts halts
      (or_right (errs || may_fail pick) more) (λ x. x) d
      (body-behind own b parts.1 k d (body k [] tt d at)))
      (λ name fails. or_left (errs || may_fail pick) more (or_right errs (may_fail pick) fails)) c h
  let_stopped-fits pick own errs stops Body body match (Value values) fits c h =
      same-fits (common (own ∷ values_at below bodies (Some [])))
      (errs || may_fail pick || any_error (sigs_at below bodies (Some []))) (any_stop (sigs_at below bodies (Some []))) (Value values) c
      (front-common own (values_at below bodies (Some [])) values fits) h
  let_stopped-fits pick own errs stops Body body match (Error e) fits c h =
      let more : Bool = any_error (sigs_at below bodies (Some [])) in
      same-fits (common (own ∷ values_at below bodies (Some [])))
      (errs || may_fail pick || more) (any_stop (sigs_at below bodies (Some []))) (Error e) c
      (or_left (errs || may_fail pick) more (or_left errs (may_fail pick) fits)) h
  let_stopped-fits pick own errs stops Body body match NoMemory fits c h = absurd fits

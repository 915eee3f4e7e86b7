-- What is read of bytes, and that the facts that say it exclude each other.
use Rattle.std.proofs.Common.{◌≡◌, ◌<◌, ◌≤◌, ℕ, Bool, true, false, List, length, nat_lt, ◌⊎◌, Option, Some, None, Result, Ok, Err, cond, refl, sym, ap, ◌∙◌, subst, inl, inr, arith}
use Rattle.std.specs.Prelude.{⊤, IsFalse, IfOk, IfErr, ◌↔◌}
use Rattle.std.specs.Option.{option_map_or}
use Rattle.std.specs.Result.{IsErrOf}
use Rattle.std.proofs.lemmas.Bool.{false≢true, ltb-true, ltb-false, lt-ltb}
use Rattle.serde_json.specs.Data.{Data}
use Rattle.plan_rules.specs.declared.settings.Settings.{Settings}
use Rattle.plan_rules.specs.Exclusion.{exclude_each_other}
use Rattle.plan_shape.specs.declared.fault.BuildFault.{BuildFault}
use Rattle.plan_shape.specs.Blueprint.{Blueprint}
use Rattle.plan_parts.specs.declared.reading.Faults.{Faults}
use Rattle.plan_parts.specs.declared.reading.Reading.{Reading}
use Rattle.plan_parts.specs.declared.reading.Reading.TheVariants.{Good, Bad}
use Rattle.plan_parts.specs.Reading.{any_fault, both}
use Rattle.plan_reader.specs.declared.found.Found.{Found}
use Rattle.plan_reader.specs.declared.fault.PlanFault.{PlanFault}
use Rattle.plan_reader.specs.declared.fault.PlanFault.TheVariants.{TooLong, NotJson, Form, UnknownName, Limit, Kinds, Excluded, NoMemory}
use Rattle.plan_reader.specs.declared.read.TheConstants.{MOST_PLAN_BYTES}
use Rattle.plan_reader.specs.Limits.{plan_limit}
use Rattle.plan_reader.specs.Walked.{Walked}
use Rattle.plan_reader.specs.Plans.{first_fault, found_in, found_unless, joined, json_of, known_settings, plan_of, walked_of}
use Rattle.plan_kinds.specs.Reached.{IsFirstMismatch}
use Rattle.sig_check.specs.declared.fault.SigFault.{SigFault}
use Rattle.sig_check.specs.declared.fault.SigFault.TheVariants as sig
use Rattle.sig_check.specs.Checked.{IsFaultOf as IsCheckFault}
use Rattle.plan_reader.specs.PlanFile.{IsAccepted, IsFaultOf, IsPlanOf, IsRefused, Matches, kinds_fault}

-- what a walk finds wrong
abbrev IsOfWalk : PlanFault → Type 0
IsOfWalk Form = ⊤
IsOfWalk UnknownName = ⊤
IsOfWalk Limit = ⊤
IsOfWalk fault = ⊥

first_fault-of : (form name : Bool) → IsOfWalk (cond form Form (cond name UnknownName Limit))
first_fault-of true name = tt
first_fault-of false true = tt
first_fault-of false false = tt

found_unless-of : (o : Option BuildFault) (settings : Settings) (w : Walked)
    → IfErr (found_unless o settings w) IsOfWalk
found_unless-of None settings w = tt
found_unless-of (Some fault) settings w = tt

if_any : (b : Bool) (faults : Faults) (r : Result Found PlanFault) → IfErr r IsOfWalk
    → IfErr (cond b (Err (first_fault faults)) r) IsOfWalk
if_any true faults r of = first_fault-of faults.form faults.name
if_any false faults r of = of

joined-of : (r : Reading Settings) (w : Walked) → IfErr (joined r w) IsOfWalk
joined-of (Bad faults) w = first_fault-of (both faults w.faults).form (both faults w.faults).name
joined-of (Good settings) w =
    if_any (any_fault w.faults) w.faults (found_unless (plan_limit w.nodes settings) settings w)
    (found_unless-of (plan_limit w.nodes settings) settings w)

plan_of-of : (d : Data) → IfErr (plan_of d) IsOfWalk
unfolding plan_of
plan_of-of d = joined-of (known_settings d) (walked_of d)

-- the fault of bytes whose kinds aren't asked yet
abbrev IsEarly : List ℕ → PlanFault → Type 0
IsEarly bytes TooLong = MOST_PLAN_BYTES < length bytes
IsEarly bytes NotJson = ⊤
IsEarly bytes fault = IsOfWalk fault

walk-early : (bytes : List ℕ) (r : Result Found PlanFault) → IfErr r IsOfWalk → IfErr r (IsEarly bytes)
walk-early bytes (Ok found) of = tt
walk-early bytes (Err Form) of = tt
walk-early bytes (Err UnknownName) of = tt
walk-early bytes (Err Limit) of = tt
walk-early bytes (Err fault) of = absurd of

json-early : (bytes : List ℕ) (o : Option Data) → IfErr (option_map_or plan_of o (Err NotJson)) (IsEarly bytes)
json-early bytes (Some d) = walk-early bytes (plan_of d) (plan_of-of d)
json-early bytes None = tt

length-early : (b : Bool) (bytes : List ℕ) (r : Result Found PlanFault)
    → nat_lt MOST_PLAN_BYTES (length bytes) ≡ b → IfErr r (IsEarly bytes)
    → IfErr (cond b (Err TooLong) r) (IsEarly bytes)
length-early true bytes r is early = ltb-true MOST_PLAN_BYTES (length bytes) is
length-early false bytes r is early = early

found_in-early : (bytes : List ℕ) → IfErr (found_in bytes) (IsEarly bytes)
unfolding found_in
found_in-early bytes =
    length-early (nat_lt MOST_PLAN_BYTES (length bytes)) bytes (option_map_or plan_of (json_of bytes) (Err NotJson))
    refl (json-early bytes (json_of bytes))

-- bytes that are too many
pub found_in-long : (bytes : List ℕ) → MOST_PLAN_BYTES < length bytes → found_in bytes ≡ Err TooLong
unfolding found_in
found_in-long bytes long =
    let is : nat_lt MOST_PLAN_BYTES (length bytes) ≡ true = lt-ltb MOST_PLAN_BYTES (length bytes) long in
    rw is refl

-- bytes of which a plan was read aren't
by_test : (b : Bool) (bytes : List ℕ) (found : Found) → nat_lt MOST_PLAN_BYTES (length bytes) ≡ b
    → found_in bytes ≡ Ok found → length bytes ≤ MOST_PLAN_BYTES
by_test true bytes found is read =
    let other = found_in-long bytes (ltb-true MOST_PLAN_BYTES (length bytes) is) in cc
by_test false bytes found is read = ltb-false MOST_PLAN_BYTES (length bytes) is

found_in-short : (bytes : List ℕ) (found : Found) → found_in bytes ≡ Ok found
    → length bytes ≤ MOST_PLAN_BYTES
found_in-short bytes found is = by_test (nat_lt MOST_PLAN_BYTES (length bytes)) bytes found refl is

-- what was found, as a fact of the bytes
pub IsFaultOf-early : (bytes : List ℕ) (fault : PlanFault)
    → ((fault ≡ NoMemory → ⊥) → found_in bytes ≡ Err fault)
    → (fault ≡ NoMemory → length bytes ≤ MOST_PLAN_BYTES) → IsFaultOf bytes fault
IsFaultOf-early bytes TooLong is memory = is (λ e. cc)
IsFaultOf-early bytes NotJson is memory = is (λ e. cc)
IsFaultOf-early bytes Form is memory = is (λ e. cc)
IsFaultOf-early bytes UnknownName is memory = is (λ e. cc)
IsFaultOf-early bytes Limit is memory = is (λ e. cc)
IsFaultOf-early bytes Kinds is memory =
    let R : Result Found PlanFault → Type 0 = λ r. IfErr r (IsEarly bytes) in
    absurd (subst R (is (λ e. cc)) (found_in-early bytes))
IsFaultOf-early bytes Excluded is memory =
    let R : Result Found PlanFault → Type 0 = λ r. IfErr r (IsEarly bytes) in
    absurd (subst R (is (λ e. cc)) (found_in-early bytes))
IsFaultOf-early bytes NoMemory is memory = memory refl

-- what was judged, as a fact of the bytes
pub IsPlanOf-judged : (bytes : List ℕ) (found : Found) (r : Result Blueprint PlanFault)
    → found_in bytes ≡ Ok found → IfOk r (IsAccepted found) → IfOk r (IsPlanOf bytes)
IsPlanOf-judged bytes found (Ok plan) is accepted = (found, is, accepted)
IsPlanOf-judged bytes found (Err fault) is accepted = tt

pub IsFaultOf-judged : (bytes : List ℕ) (found : Found) (r : Result Blueprint PlanFault)
    → found_in bytes ≡ Ok found → IfErr r (IsRefused found) → IfErr r (IsFaultOf bytes)
IsFaultOf-judged bytes found (Ok plan) is refused = tt
IsFaultOf-judged bytes found (Err Kinds) is refused = (found, is, refused)
IsFaultOf-judged bytes found (Err Excluded) is refused = (found, is, refused)
IsFaultOf-judged bytes found (Err NoMemory) is refused = found_in-short bytes found is
IsFaultOf-judged bytes found (Err fault) is refused = absurd refused

-- a fault is that of the reading, or that of a plan that was read
abbrev IsSeen : List ℕ → PlanFault → Type 0
IsSeen bytes f = (found_in bytes ≡ Err f) ⊎ ((found : Found) × (found_in bytes ≡ Ok found) × IsRefused found f)

seen : (bytes : List ℕ) (f : PlanFault) → (f ≡ NoMemory → ⊥) → IsFaultOf bytes f → IsSeen bytes f
seen bytes TooLong other is = inl is
seen bytes NotJson other is = inl is
seen bytes Form other is = inl is
seen bytes UnknownName other is = inl is
seen bytes Limit other is = inl is
seen bytes Kinds other is = inr is
seen bytes Excluded other is = inr is
seen bytes NoMemory other is = absurd (other refl)

one_refusal : (found : Found) (f g : PlanFault) → (f ≡ NoMemory → ⊥) → (g ≡ NoMemory → ⊥)
    → IsRefused found f → IsRefused found g → f ≡ g
one_refusal found Kinds Kinds a b h k = refl
one_refusal found Kinds Excluded a b h k = absurd (h k.0)
one_refusal found Kinds NoMemory a b h k = absurd (b refl)
one_refusal found Kinds g a b h k = absurd k
one_refusal found Excluded Kinds a b h k = absurd (k h.0)
one_refusal found Excluded Excluded a b h k = refl
one_refusal found Excluded NoMemory a b h k = absurd (b refl)
one_refusal found Excluded g a b h k = absurd k
one_refusal found NoMemory g a b h k = absurd (a refl)
one_refusal found f g a b h k = absurd h

-- one fault at most holds of bytes
one_fault : (bytes : List ℕ) (f g : PlanFault) → (f ≡ NoMemory → ⊥) → (g ≡ NoMemory → ⊥)
    → IsSeen bytes f → IsSeen bytes g → f ≡ g
one_fault bytes f g a b (inl is) (inl has) = cc
one_fault bytes f g a b (inl is) (inr has) = let h = has.1 in cc
one_fault bytes f g a b (inr is) (inl has) = let h = is.1 in cc
one_fault bytes f g a b (inr is) (inr has) =
    let h = is.1 in
    let k = has.1 in
    let same : has.0 ≡ is.0 = cc in
    let P : Found → Type 0 = λ found. IsRefused found g in
    one_refusal is.0 f g a b is.2 (subst P same has.2)

no_refusal : (found : Found) (plan : Blueprint) (f : PlanFault) → (f ≡ NoMemory → ⊥)
    → IsAccepted found plan → IsRefused found f → ⊥
no_refusal found plan Kinds other accepted refused = refused accepted.matches
no_refusal found plan Excluded other accepted refused =
    let rules = accepted.rules in
    let excluded = refused.1 in
    let same = accepted.same in
    let P : Blueprint → Type 0 = λ p. IsFalse (exclude_each_other p.settings) in
    let kept = subst P same rules in
    false≢true (sym kept ∙ excluded)
no_refusal found plan NoMemory other accepted refused = other refl
no_refusal found plan f other accepted refused = refused

no_fault : (bytes : List ℕ) (plan : Blueprint) (f : PlanFault) → (f ≡ NoMemory → ⊥)
    → IsPlanOf bytes plan → IsSeen bytes f → ⊥
no_fault bytes plan f other is (inl has) = let h = is.1 in cc
no_fault bytes plan f other is (inr has) =
    let h = is.1 in
    let k = has.1 in
    let same : has.0 ≡ is.0 = cc in
    let P : Found → Type 0 = λ found. IsRefused found f in
    no_refusal is.0 plan f other is.2 (subst P same has.2)

one_plan : (bytes : List ℕ) (p q : Blueprint) → IsPlanOf bytes p → IsPlanOf bytes q → p ≡ q
one_plan bytes p q is has =
    let h = is.1 in
    let k = has.1 in
    let same : is.0 ≡ has.0 = cc in
    is.2.same ∙ ap (λ (found : Found). found.plan) same ∙ sym has.2.same

-- an answer that comes only where its fact holds comes wherever it does, unless memory runs out
pub fault_is_exact : (bytes : List ℕ) (r : Result Blueprint PlanFault)
    → IfOk r (IsPlanOf bytes) → IfErr r (IsFaultOf bytes)
    → (f : PlanFault) → (f ≡ NoMemory → ⊥)
    → IsErrOf r f ↔ (IsFaultOf bytes f × (IsErrOf r NoMemory → ⊥))
fault_is_exact bytes (Ok plan) ok err f other =
    (λ e. cc, λ h. absurd (no_fault bytes plan f other ok (seen bytes f other h.0)))
fault_is_exact bytes (Err g) ok err f other = (
  λ e. let same : g ≡ f = cc in (subst (IsFaultOf bytes) same err, λ m. other cc),
  λ h. ap Err (one_fault bytes g f (λ m. h.1 (ap Err m)) other
      (seen bytes g (λ m. h.1 (ap Err m)) err) (seen bytes f other h.0)),
)

pub plan_is_exact : (bytes : List ℕ) (r : Result Blueprint PlanFault)
    → IfOk r (IsPlanOf bytes) → IfErr r (IsFaultOf bytes) → (plan : Blueprint)
    → (r ≡ Ok plan) ↔ (IsPlanOf bytes plan × (IsErrOf r NoMemory → ⊥))
plan_is_exact bytes (Ok found) ok err plan = (
  λ e. let same : found ≡ plan = cc in (subst (IsPlanOf bytes) same ok, λ m. cc),
  λ h. ap Ok (one_plan bytes found plan ok h.0),
)
plan_is_exact bytes (Err g) ok err plan = (
  λ e. cc,
  λ h. absurd (no_fault bytes plan g (λ m. h.1 (ap Err m)) h.0 (seen bytes g (λ m. h.1 (ap Err m)) err)),
)

-- bytes that are too many are refused for it whether or not memory suffices
pub too_long : (bytes : List ℕ) (r : Result Blueprint PlanFault)
    → IfOk r (IsPlanOf bytes) → IfErr r (IsFaultOf bytes)
    → IsErrOf r TooLong ↔ (MOST_PLAN_BYTES < length bytes)
too_long bytes r ok err = (
  λ e.
      let is = ((fault_is_exact bytes r ok err TooLong (λ m. cc)).0 e).0 in
      let R : Result Found PlanFault → Type 0 = λ x. IfErr x (IsEarly bytes) in
      subst R is (found_in-early bytes),
  λ long.
      let Q : Result Blueprint PlanFault → Type 0 = λ x. IfErr x (IsFaultOf bytes) in
      (fault_is_exact bytes r ok err TooLong (λ m. cc)).1
      (found_in-long bytes long, λ m. let few : length bytes ≤ MOST_PLAN_BYTES = subst Q m err in absurd (omega arith)),
)

-- a bulk's job that is no element job, or a node's kinds, don't match
pub no_elements : (found : Found) → found.elements ≡ false → Matches found → ⊥
no_elements found is matches = false≢true (sym is ∙ matches.elements)

no_match : (found : Found) (n : ℕ)
    → IsFirstMismatch found.plan.nodes found.plan.settings.input n → Matches found → ⊥
no_match found n first matches =
    let here = first.here in
    let fits = matches.kinds n here.0 here.1 in
    false≢true (sym here.2 ∙ fits)

pub IsRefused-checked : (found : Found) (fault : SigFault) → IsCheckFault found.plan fault
    → IsRefused found (kinds_fault fault)
IsRefused-checked found (sig.Kinds n) first = no_match found n first
IsRefused-checked found sig.NoMemory first = tt

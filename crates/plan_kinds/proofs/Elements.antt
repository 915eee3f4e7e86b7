-- Bulks and their parts keep kinds.
use Rattle.std.proofs.Common.{◌≡◌, ℕ, ◌+◌, ℤ, Bool, true, false, IsTrue, ◌&&◌, ◌||◌, List, [], ◌∷◌, Option, Some, None, Result, Ok, Err, refl, sym, ap, ◌∙◌, subst}
use Rattle.std.specs.Prelude.{slice_get}
use Rattle.std.specs.Option.{option_map_or}
use Rattle.std.proofs.lemmas.Bool.{and_parts, or_left, or_right}
use Rattle.exec_value.specs.Kinds.{HaveKinds}
use Rattle.exec_value.specs.declared.kinds.Kind.{Kind}
use Rattle.exec_value.specs.declared.kinds.Kind.TheVariants.{Row as RowKind}
use Rattle.exec_value.specs.declared.data.Datum.{Datum}
use Rattle.exec_value.specs.declared.outcome.Completion.{Completion}
use Rattle.exec_value.specs.declared.outcome.Completion.TheVariants.{Value, Error, Stopped, NoMemory}
use Rattle.exec_job.specs.Element.{at_index}
use Rattle.exec_job.specs.Takes.{is_row, is_element}
use Rattle.exec_job.specs.declared.job.Job.{Job}
use Rattle.exec_job.specs.declared.job.Job.TheVariants.{Length, Show, Give, At, IntOr, TextOr, Pass}
use Rattle.plan_rules.specs.Bulks.{in_front, each_of, row_ending, bulk_of, job_of_bulk, part_ending}
use Rattle.plan_rules.specs.declared.node.Node.{Node}
use Rattle.plan_kinds.specs.Shapes.{Shape, never_or}
use Rattle.plan_kinds.specs.Gives.{row_alone, may_fail}
use Rattle.plan_kinds.specs.Built.{IsBulk, IsShare}
use Rattle.plan_kinds.proofs.Jobs.{one-row}
use Rattle.plan_kinds.proofs.Fitting.{FitsAs, same-fits, wider-fits}

any-row : (result : Result (List ℤ) (List ℕ)) (stops : Bool) → FitsAs row_alone true stops (row_ending result)
any-row (Ok numbers) stops = (tt, tt)
any-row (Err name) stops = refl

-- a job that never fails leaves each element as it is
each-kept : (job : Job) → ((index : ℕ) (x : ℤ) → at_index job index x ≡ Ok x) → (index : ℕ) (xs : List ℤ) →
    each_of job index xs ≡ Ok xs
each-kept job keeps index [] = refl
each-kept job keeps index (x ∷ xs) =
    ap (λ first. in_front index first (each_of job (index + 1) xs)) (keeps index x)
    ∙ ap (in_front index (Ok x)) (each-kept job keeps (index + 1) xs)

kept-row : (job : Job) → ((index : ℕ) (x : ℤ) → at_index job index x ≡ Ok x) → (index : ℕ) (xs : List ℤ)
    (errs stops : Bool) → FitsAs row_alone errs stops (row_ending (each_of job index xs))
kept-row job keeps index xs errs stops =
    subst (λ (result : Result (List ℤ) (List ℕ)). FitsAs row_alone errs stops (row_ending result))
    (sym (each-kept job keeps index xs)) (tt, tt)

-- the elements' results are a row, or an error where the job may fail
pub row-fits : (job : Job) (index : ℕ) (xs : List ℤ) (stops : Bool) →
    FitsAs row_alone (may_fail job) stops (row_ending (each_of job index xs))
row-fits Length index xs stops = kept-row Length (λ i x. refl) index xs false stops
row-fits Show index xs stops = kept-row Show (λ i x. refl) index xs false stops
row-fits (Give values) index xs stops = kept-row (Give values) (λ i x. refl) index xs false stops
row-fits (At place) index xs stops = kept-row (At place) (λ i x. refl) index xs false stops
row-fits (IntOr n) index xs stops = kept-row (IntOr n) (λ i x. refl) index xs false stops
row-fits (TextOr text) index xs stops = kept-row (TextOr text) (λ i x. refl) index xs false stops
row-fits Pass index xs stops = kept-row Pass (λ i x. refl) index xs false stops
row-fits job index xs stops = any-row (each_of job index xs) stops

row-shape : (kinds : List Kind) → IsTrue (is_row kinds) → kinds ≡ RowKind ∷ []
row-shape (RowKind ∷ []) row = refl
row-shape kinds row = cc

bulk-value : (job : Job) (kinds : List Kind) (values : List Datum) (errs stops : Bool) →
    IsTrue (is_row kinds) → HaveKinds values kinds →
    FitsAs (Some kinds) (errs || may_fail job) stops (bulk_of job (Value values))
bulk-value job kinds values errs stops row have =
    let same = row-shape kinds row in
    let one = one-row values (subst (HaveKinds values) same have) in
    subst (λ (l : List Kind). FitsAs (Some l) (errs || may_fail job) stops (bulk_of job (Value values))) (sym same)
    (subst (λ (l : List Datum). FitsAs row_alone (errs || may_fail job) stops (bulk_of job (Value l))) (sym one.1)
    (wider-fits row_alone (may_fail job) (errs || may_fail job) stops stops (or_right errs (may_fail job)) (λ x. x)
    (row_ending (each_of job 0 one.0)) (row-fits job 0 one.0 stops)))

pub bulk-fits : (job : Job) (shape : Shape) (errs stops : Bool) →
    IsTrue (is_element job && never_or is_row shape) → (d : Completion) → FitsAs shape errs stops d →
    FitsAs shape (errs || may_fail job) stops (bulk_of job d)
bulk-fits job (Some kinds) errs stops match (Value values) fits =
    bulk-value job kinds values errs stops (and_parts (is_element job) (is_row kinds) match).1 fits
bulk-fits job None errs stops match (Value values) fits = absurd fits
bulk-fits job shape errs stops match (Error e) fits = or_left errs (may_fail job) fits
bulk-fits job shape errs stops match Stopped fits = fits
bulk-fits job shape errs stops match NoMemory fits = absurd fits

part-share : (job : Option Job) → (one : Job) → job ≡ Some one → (values : List Datum) → IsShare values →
    FitsAs row_alone (option_map_or may_fail job false) false (part_ending job values)
part-share job one is values share =
    subst (λ (o : Option Job). FitsAs row_alone (option_map_or may_fail o false) false (part_ending o values))
    (sym is)
    (subst (λ (l : List Datum). FitsAs row_alone (may_fail one) false (part_ending (Some one) l)) (sym share.2)
    (row-fits one share.1 share.0 false))

pub part-fits : (nodes : List Node) (bulk : ℕ) → IsBulk nodes bulk → (values : List Datum) → IsShare values →
    (c : Completion) → c ≡ part_ending (job_of_bulk nodes bulk) values →
    FitsAs row_alone (option_map_or may_fail (job_of_bulk nodes bulk) false) false c
part-fits nodes bulk is_bulk values share c e =
    let at : slice_get nodes bulk ≡ Some _ = is_bulk.2 in
    let job : job_of_bulk nodes bulk ≡ Some (is_bulk.1) = rw at refl in
    same-fits row_alone (option_map_or may_fail (job_of_bulk nodes bulk) false) false
    (part_ending (job_of_bulk nodes bulk) values) c
    (part-share (job_of_bulk nodes bulk) is_bulk.1 job values share) e

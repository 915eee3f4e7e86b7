-- What is made of a row, share by share.
use Rattle.std.proofs.Common.{◌≡◌, inl, inr, Bool, true, false, ◌==◌, ℕ, suc, ◌+◌, ◌*◌, ◌<◌, ◌≤◌, min, ℤ, List, [], ◌∷◌, ◌++◌, length, take, take_all, Some, None, Result, Ok, Err, refl, sym, ap, ap₂, ◌∙◌, subst, arith}
use Rattle.std.specs.Prelude.{◌/◌, ◌%◌, ◌⊎◌, ⊤, IsOk, Vec}
use Rattle.std.specs.declared.alloc.Global.{Global}
use Rattle.std.proofs.lemmas.Bool.{cases_lt, both_ways, eq-eqb, eqb-true}
use Rattle.std.proofs.lemmas.List.Elements.{All-head}
use Rattle.exec_value.specs.Place.{IsInPlace}
use Rattle.exec_value.specs.declared.data.Datum.{Datum}
use Rattle.exec_value.specs.declared.data.Datum.TheVariants.{Row}
use Rattle.exec_value.specs.declared.outcome.Completion.{Completion}
use Rattle.exec_value.specs.declared.outcome.Completion.TheVariants.{Value, Error, Stopped, NoMemory}
use Rattle.exec_job.specs.Element.{at_index}
use Rattle.exec_job.specs.declared.fault.JobFault.{JobFault}
use Rattle.exec_job.specs.declared.job.Job.{Job}
use Rattle.node_images.specs.Makes.{CompletesInPlace}
use Rattle.plan_rules.specs.Bulks.{in_front, each_of, row_ending, bulk_of}
use Rattle.plan_rules.specs.declared.node.Node.TheVariants.{Bulk}
use Rattle.plan_shape.specs.declared.limits.TheConstants.{BULK_PARTS}
use Rattle.home_items.specs.Bounds.{least_when_done}
use Rattle.home_items.specs.Entries.{no_row, row_lot}
use Rattle.home_items.specs.Items.{lot_for}
use Rattle.home_items.specs.Shares.{first_index}
use Rattle.start_laws.specs.BulkLaws.{share_made, front_made, made_behind}
use Rattle.start_laws.proofs.Rows.{shares-made}
use Rattle.exec_bulk.specs.declared.joining.Made.{Made}
use Rattle.exec_bulk.specs.declared.joining.Made.TheVariants.{Numbers, Failed, Want}
use Rattle.exec_bulk.specs.Made.{AddsShare, IsFrontMade, IsOfShare, one_missing, without_numbers}
use Rattle.exec_bulk.specs.Rows.{numbers_in, parts_for}

-- the name of an error
name_in : Completion → List ℕ
name_in (Error name) = name
name_in done = []

pub ok-of : (made : Result (List ℤ) (List ℕ)) (ys : List ℤ) → row_ending made ≡ Value (Row ys ∷ []) → made ≡ Ok ys
ok-of (Ok zs) ys e = ap Ok (ap numbers_in e)
ok-of (Err name) ys e = cc

pub err-of : (made : Result (List ℤ) (List ℕ)) (name : List ℕ) → row_ending made ≡ Error name → made ≡ Err name
unfolding name_in
err-of (Ok zs) name e = cc
err-of (Err other) name e = ap Err (ap name_in e)

-- behind what was made without a fault
ok-behind : (front : Result (List ℤ) (List ℕ)) (ys : List ℤ) → IsOk front → IsOk (made_behind front (Ok ys))
ok-behind (Ok xs) ys ok = refl
ok-behind (Err name) ys ok = cc

fault-behind : (front : Result (List ℤ) (List ℕ)) (name : List ℕ) → IsOk front → made_behind front (Err name) ≡ Err name
fault-behind (Ok xs) name ok = refl
fault-behind (Err other) name ok = cc

-- a completion that is neither an error nor want of memory, as the end of a share, is the row of its numbers
pub row-of : (done : Completion) (made : Result (List ℤ) (List ℕ)) → ((name : List ℕ) → done ≡ Error name → ⊥) → done ≡ row_ending made →
    row_ending made ≡ Value (Row (numbers_in done) ∷ [])
row-of done (Ok ys) other e = ap (λ (l : List ℤ). Value (Row l ∷ [])) (sym (ap numbers_in e))
row-of done (Err name) other e = absurd (other name e)

-- no share ends so
pub stopped-none : (made : Result (List ℤ) (List ℕ)) → Stopped ≡ row_ending made → ⊥
stopped-none (Ok ys) e = cc
stopped-none (Err name) e = cc

-- a row doesn't stand in place
pub row-large : (made : Result (List ℤ) (List ℕ)) → IsOk made → CompletesInPlace (row_ending made) → ⊥
row-large (Ok ys) ok stands = All-head IsInPlace (Row ys) [] stands.each
row-large (Err name) ok stands = cc

-- no part failed
abbrev pub HasNumbers : Made → Type 0
HasNumbers (Numbers numbers) = ⊤
HasNumbers made = ⊥

pub front-ok : (made : Made) (job : Job) (whole : List ℤ) (part : ℕ) → HasNumbers made → IsFrontMade made job whole part →
    IsOk (front_made job whole part)
front-ok (Numbers (Some numbers)) job whole part has is = subst (λ (r : Result (List ℤ) (List ℕ)). IsOk r) (sym is) refl
front-ok (Numbers None) job whole part has is = is
front-ok (Failed name) job whole part has is = absurd has
front-ok Want job whole part has is = absurd has

-- one share more
module _ (job : Job) (whole : List ℤ) (part : ℕ) (within : part < BULK_PARTS) where
  pub numbers-more : (front ys : List ℤ) → front_made job whole part ≡ Ok front →
      row_ending (share_made job whole part) ≡ Value (Row ys ∷ []) → front_made job whole (part + 1) ≡ Ok (front ++ ys)
  numbers-more front ys before share =
      shares-made.goes_on job whole part within ∙ ap₂ made_behind before (ok-of (share_made job whole part) ys share)

  pub ok-more : (ys : List ℤ) → IsOk (front_made job whole part) → row_ending (share_made job whole part) ≡ Value (Row ys ∷ []) →
      IsOk (front_made job whole (part + 1))
  ok-more ys before share =
      subst (λ (r : Result (List ℤ) (List ℕ)). IsOk r)
      (sym (shares-made.goes_on job whole part within ∙ ap (made_behind (front_made job whole part)) (ok-of (share_made job whole part) ys share)))
      (ok-behind (front_made job whole part) ys before)

  pub fault-more : (name : List ℕ) → IsOk (front_made job whole part) → row_ending (share_made job whole part) ≡ Error name →
      front_made job whole (part + 1) ≡ Err name
  fault-more name before share =
      shares-made.goes_on job whole part within ∙ ap (made_behind (front_made job whole part)) (err-of (share_made job whole part) name share)
      ∙ fault-behind (front_made job whole part) name before

  pub fault-stays : (name : List ℕ) → front_made job whole part ≡ Err name → front_made job whole (part + 1) ≡ Err name
  fault-stays name before =
      shares-made.goes_on job whole part within ∙ ap (λ front. made_behind front (share_made job whole part)) before

-- what is made of one share more: its numbers are appended
pub more-adds : (joined more : Vec ℤ Global) (values : List Datum) → more.items ≡ joined.items ++ numbers_in (Value values) →
    AddsShare (Numbers (Some joined)) (Value values) (Numbers (Some more))
more-adds joined more values pushed =
    record {
      made = λ job whole part within share is.
          numbers-more job whole part within joined.items (numbers_in (Value values)) is
          (row-of (Value values) (share_made job whole part) (λ name e. cc) (share (λ e. cc)))
          ∙ ap (λ (l : List ℤ). Ok l) (sym pushed);
      wants = λ e. cc;
    }

-- or they can't be
none-made : (before : Made) (done : Completion) (job : Job) (whole : List ℤ) (part : ℕ) → part < BULK_PARTS → IsOfShare job whole part done →
    IsFrontMade before job whole part → IsFrontMade (without_numbers before done) job whole (part + 1)
none-made (Numbers made) (Value values) job whole part within share is =
    ok-more job whole part within (numbers_in (Value values)) (front-ok (Numbers made) job whole part tt is)
    (row-of (Value values) (share_made job whole part) (λ name e. cc) (share (λ e. cc)))
none-made (Numbers made) (Error name) job whole part within share is =
    fault-more job whole part within name (front-ok (Numbers made) job whole part tt is) (sym (share (λ e. cc)))
none-made (Numbers made) Stopped job whole part within share is = absurd (stopped-none (share_made job whole part) (share (λ e. cc)))
none-made (Numbers made) NoMemory job whole part within share is = tt
none-made (Failed name) done job whole part within share is = fault-stays job whole part within name is
none-made Want done job whole part within share is = tt

none-wants : (before : Made) (done : Completion) → without_numbers before done ≡ Want → (before ≡ Want) ⊎ (done ≡ NoMemory)
none-wants (Numbers made) (Value values) is = cc
none-wants (Numbers made) (Error name) is = cc
none-wants (Numbers made) Stopped is = cc
none-wants (Numbers made) NoMemory is = inr refl
none-wants (Failed name) done is = cc
none-wants Want done is = inl refl

pub none-adds : (before : Made) (done : Completion) → AddsShare before done (without_numbers before done)
none-adds before done = record { made = none-made before done; wants = none-wants before done }

-- or the part isn't done
pub missing-made : (before : Made) (job : Job) (whole : List ℤ) (part : ℕ) → part < BULK_PARTS → IsFrontMade before job whole part →
    IsFrontMade (one_missing before) job whole (part + 1)
missing-made (Numbers made) job whole part within is = tt
missing-made (Failed name) job whole part within is = fault-stays job whole part within name is
missing-made Want job whole part within is = tt

-- a row shorter than eight has shares of one number each
first-few : (n : ℕ) → n < BULK_PARTS → first_index n n ≡ n
first-few n few =
    let none : n / BULK_PARTS ≡ 0 = omega (arith, few) in
    let all : n % BULK_PARTS ≡ n = omega (arith, few) in
    ap₂ (λ a b. n * a + min n b) none all ∙ omega arith

-- the shares of the parts that are begun make the row
pub whole-made : (job : Job) (whole : List ℤ) → front_made job whole (parts_for whole) ≡ each_of job 0 whole
whole-made job whole =
    elim (cases_lt (length whole) BULK_PARTS) [
      | inl few ↦
          let count : parts_for whole ≡ length whole = omega (arith, few) in
          ap (front_made job whole) count
          ∙ ap (λ i. each_of job 0 (take i whole)) (first-few (length whole) few)
          ∙ ap (each_of job 0) (take_all (length whole) whole (omega arith))
      | inr many ↦
          let count : parts_for whole ≡ BULK_PARTS = omega (arith, many) in
          ap (front_made job whole) count ∙ shares-made.ends job whole
    ]

-- so many numbers were made
ok_length : Result (List ℤ) (List ℕ) → ℕ
ok_length (Ok ys) = length ys
ok_length (Err name) = 0

front-length : (index : ℕ) (answer : Result ℤ JobFault) (behind : Result (List ℤ) (List ℕ)) (n : ℕ) →
    ((zs : List ℤ) → behind ≡ Ok zs → length zs ≡ n) → (ys : List ℤ) → in_front index answer behind ≡ Ok ys → length ys ≡ suc n
unfolding ok_length
front-length index (Err fault) behind n all ys e = cc
front-length index (Ok y) (Err name) n all ys e = cc
front-length index (Ok y) (Ok zs) n all ys e =
    let same : suc (length zs) ≡ length ys = ap ok_length e in
    let rest = all zs refl in
    omega (arith, same, rest)

each-length : (job : Job) (index : ℕ) (xs ys : List ℤ) → each_of job index xs ≡ Ok ys → length ys ≡ length xs
unfolding ok_length
each-length job index [] ys e = sym (ap ok_length e)
each-length job index (x ∷ xs) ys e =
    front-length index (at_index job index x) (each_of job (index + 1) xs) (length xs) (λ zs is. each-length job (index + 1) xs zs is) ys e

-- a bulk that is done with what was made of a row has begun as many parts as the row asks for
least-made : (job : Job) (child n : ℕ) (made : Result (List ℤ) (List ℕ)) → 1 ≤ n → ((ys : List ℤ) → made ≡ Ok ys → length ys ≡ n) →
    least_when_done (Some (Bulk child job)) (row_ending made) ≤ min BULK_PARTS n
least-made job child n (Ok ys) some all = let size = all ys refl in omega (arith, size, some)
least-made job child n (Err name) some all = omega (arith, some)

pub least-row : (job : Job) (child : ℕ) (whole : List ℤ) → 1 ≤ length whole →
    least_when_done (Some (Bulk child job)) (row_ending (each_of job 0 whole)) ≤ parts_for whole
least-row job child whole some = least-made job child (length whole) (each_of job 0 whole) some (λ ys e. each-length job 0 whole ys e)

-- what is no row with numbers passes
pub passes-none : (job : Job) (done : Completion) → numbers_in done ≡ [] → bulk_of job done ≡ done
passes-none job (Value []) none = refl
passes-none job (Value (Row [] ∷ [])) none = refl
passes-none job (Value (Row (x ∷ xs) ∷ [])) none = cc
passes-none job (Value (datum ∷ values)) none = refl
passes-none job (Error name) none = refl
passes-none job Stopped none = refl
passes-none job NoMemory none = refl

pub least-none : (job : Job) (child : ℕ) (done : Completion) → numbers_in done ≡ [] → least_when_done (Some (Bulk child job)) done ≤ 1
least-none job child (Value []) none = omega arith
least-none job child (Value (Row [] ∷ [])) none = omega arith
least-none job child (Value (Row (x ∷ xs) ∷ [])) none = cc
least-none job child (Value (datum ∷ values)) none = omega arith
least-none job child (Error name) none = omega arith
least-none job child Stopped none = omega arith
least-none job child NoMemory none = omega arith

-- a completion with numbers is the row of them
pub row-is : (done : Completion) → 1 ≤ length (numbers_in done) → done ≡ Value (Row (numbers_in done) ∷ [])
row-is (Value []) some = absurd (omega (arith, some))
row-is (Value (Row xs ∷ [])) some = refl
row-is (Value (datum ∷ values)) some = absurd (omega (arith, some))
row-is (Error name) some = absurd (omega (arith, some))
row-is Stopped some = absurd (omega (arith, some))
row-is NoMemory some = absurd (omega (arith, some))

-- what a bulk keeps fixes the row of its numbers, where it has some; and else no part's
pub lot-row : (child : ℕ) (job : Job) (done : Completion) → 1 ≤ length (numbers_in done) →
    lot_for (Some (Bulk child job)) done ≡ row_lot (numbers_in done)
lot-row child job done some = ap (lot_for (Some (Bulk child job))) (row-is done some)

pub lot-none : (child : ℕ) (job : Job) (done : Completion) → numbers_in done ≡ [] →
    (lot_for (Some (Bulk child job)) done ≡ no_row) ⊎ (lot_for (Some (Bulk child job)) done ≡ row_lot [])
lot-none child job (Value []) none = inl refl
lot-none child job (Value (Row [] ∷ [])) none = inr refl
lot-none child job (Value (Row (x ∷ xs) ∷ [])) none = cc
lot-none child job (Value (datum ∷ values)) none = inl refl
lot-none child job (Error name) none = inl refl
lot-none child job Stopped none = inl refl
lot-none child job NoMemory none = inl refl

-- no numbers are none
pub numbers-none : (numbers : List ℤ) → length numbers ≡ 0 → numbers ≡ []
numbers-none [] none = refl
numbers-none (x ∷ xs) none = absurd (omega (arith, none))

-- whether there are some, by the answer that there are none
module _ (shown : List ℤ) (done at : Completion) (answer : Bool) (shown_is : shown ≡ numbers_in at) (at_is : at ≡ done)
    (answer_is : answer ≡ (length shown == 0)) where
  numbers-are : shown ≡ numbers_in done
  numbers-are = shown_is ∙ ap numbers_in at_is

  pub numbers-empty : answer ≡ true → numbers_in done ≡ []
  numbers-empty is = sym numbers-are ∙ numbers-none shown (eqb-true (length shown) 0 (sym answer_is ∙ is))

  pub numbers-some : answer ≡ false → 1 ≤ length (numbers_in done)
  numbers-some is =
      let same : length shown ≡ length (numbers_in done) = ap length numbers-are in
      elim (cases_lt 0 (length shown)) [
        | inl some ↦ omega (arith, some, same)
        | inr none ↦ absurd (both_ways (length shown == 0) (sym answer_is ∙ is) (eq-eqb (length shown) 0 (omega (arith, none))))
      ]

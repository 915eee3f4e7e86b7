-- The two walks of a `when_all` over what its children delivered: what each tells.
use Rattle.std.proofs.Common.{◌≡◌, ◌⊎◌, ℕ, zero, suc, ◌<◌, ◌≤◌, Bool, true, false, ◌&&◌, ◌||◌, not, List, [], ◌++◌, inl, inr, refl, sym, ap, ap₂, ◌∙◌, subst, arith}
use Rattle.std.proofs.lemmas.Bool.{cases_eq, false≢true, or_left, or_right}
use Rattle.common_lemmas.proofs.Bool.{either}
use Rattle.exec_value.specs.declared.data.Datum.{Datum}
use Rattle.exec_value.specs.declared.outcome.Completion.{Completion}
use Rattle.exec_value.specs.declared.outcome.Completion.TheVariants.{Value, Error, Stopped, NoMemory}
use Rattle.plan_rules.specs.Allowed.{joined}
use Rattle.plan_rules.specs.Settle.{and_then}
use Rattle.home_items.specs.Parcels.{Delivery}
use Rattle.start_laws.specs.AllEnds.{is_failure, fails_late, fails_first, joins_where, first_ends, late_ends, some_saw, some_first}

-- the data of a value
abbrev pub data_of : Completion → List Datum
data_of (Value values) = values
data_of done = []

value-is : (c : Completion) (values : List Datum) → c ≡ Value values → c ≡ Value (data_of c)
value-is (Value own) values is = refl
value-is (Error e) values is = cc
value-is Stopped values is = cc
value-is NoMemory values is = cc

value-error : {G : Type 0} (c : Completion) (values : List Datum) (e : List ℕ) → c ≡ Value values → c ≡ Error e → G
value-error c values e one other = cc

stopped-error : {G : Type 0} (c : Completion) (e : List ℕ) → c ≡ Stopped → c ≡ Error e → G
stopped-error c e one other = cc

-- the tests of a parcel, by its parts
unseen-failure : (saw : Bool) (c : Completion) → (saw && is_failure c) ≡ false → is_failure c ≡ true → saw ≡ false
unseen-failure false c other fails = refl
unseen-failure true c other fails = absurd (false≢true (sym other ∙ fails))

late-failure : (saw : Bool) (c : Completion) → (saw && is_failure c) ≡ true → is_failure c ≡ true
late-failure true c late = late
late-failure false c late = absurd (false≢true late)

late-first : (saw : Bool) (c : Completion) → (saw && is_failure c) ≡ true → (not saw && is_failure c) ≡ false
late-first true c late = refl
late-first false c late = absurd (false≢true late)

value-first : (saw : Bool) (c : Completion) → is_failure c ≡ false → (not saw && is_failure c) ≡ false
value-first true c fine = refl
value-first false c fine = fine

pub first-is : (saw : Bool) (c : Completion) → saw ≡ false → is_failure c ≡ true → (not saw && is_failure c) ≡ true
first-is true c unseen fails = absurd (false≢true (sym unseen))
first-is false c unseen fails = fails

-- what holds of the first n, and of the next
pub each-next : (P : ℕ → Type 0) (n : ℕ) → ((i : ℕ) → i < n → P i) → P n → (i : ℕ) → i < suc n → P i
each-next P n before here i within = elim (cases_eq i n) [
  | inl same ↦ subst P (sym same) here
  | inr other ↦ before i (omega (arith, within, other))
]

module _ (ends : ℕ → Delivery) (count : ℕ) (memory : (i : ℕ) → i < count → (ends i).completion ≡ NoMemory → ⊥) where
  abbrev pub done : ℕ → Completion
  done i = (ends i).completion

  abbrev pub data_at : ℕ → List Datum
  data_at i = data_of (done i)

  abbrev pub IsLate : ℕ → Type 0
  IsLate i = fails_late (ends i) ≡ true

  abbrev pub NotLate : ℕ → Type 0
  NotLate i = fails_late (ends i) ≡ false

  -- what the first walk tells: values, unless a child failed without having seen a request
  abbrev pub FirstTells : ℕ → Completion → Type 0
  FirstTells n (Value values) =
      ((i : ℕ) → i < n → NotLate i → done i ≡ Value (data_at i))
      × (((i : ℕ) → i < n → NotLate i) → values ≡ joined data_at n)
  FirstTells n (Error e) = (j : ℕ) × (j < n) × (done j ≡ Error e) × ((ends j).saw ≡ false)
  FirstTells n Stopped =
      ((j : ℕ) × (j < n) × (done j ≡ Stopped) × ((ends j).saw ≡ false))
      × ((i : ℕ) → i < n → NotLate i → (e : List ℕ) → done i ≡ Error e → ⊥)
  FirstTells n NoMemory = ⊥

  unseen : (n : ℕ) → NotLate n → (c : Completion) → done n ≡ c → is_failure c ≡ true → (ends n).saw ≡ false
  unseen n other c at fails = unseen-failure (ends n).saw (done n) other (ap is_failure at ∙ fails)

  first-joins : (n : ℕ) → n < count → NotLate n → (x c : Completion) → done n ≡ c → FirstTells n x →
      FirstTells (suc n) (and_then x c)
  first-joins n within other (Value vs) (Value ws) at told = (
    each-next (λ i. NotLate i → done i ≡ Value (data_at i)) n told.0 (λ here. value-is (done n) ws at),
    λ all. ap₂ ◌++◌ (told.1 (λ i inside. all i (omega (arith, inside)))) (sym (ap data_of at)),
  )
  first-joins n within other (Value vs) (Error e) at told = (n, omega arith, at, unseen n other (Error e) at refl)
  first-joins n within other (Value vs) Stopped at told = (
    (n, omega arith, at, unseen n other Stopped at refl),
    each-next (λ i. NotLate i → (e : List ℕ) → done i ≡ Error e → ⊥) n
        (λ i inside here e is. value-error (done i) (data_at i) e (told.0 i inside here) is)
        (λ here e is. stopped-error (done n) e at is),
  )
  first-joins n within other (Error e) c at told = let inside = told.1 in (told.0, omega (arith, inside), told.2, told.3)
  first-joins n within other Stopped (Error e) at told = (n, omega arith, at, unseen n other (Error e) at refl)
  first-joins n within other Stopped Stopped at told = let inside = told.0.1 in (
    (told.0.0, omega (arith, inside), told.0.2, told.0.3),
    each-next (λ i. NotLate i → (e : List ℕ) → done i ≡ Error e → ⊥) n told.1
        (λ here e is. stopped-error (done n) e at is),
  )
  first-joins n within other Stopped (Value ws) at told = let inside = told.0.1 in (
    (told.0.0, omega (arith, inside), told.0.2, told.0.3),
    each-next (λ i. NotLate i → (e : List ℕ) → done i ≡ Error e → ⊥) n told.1
        (λ here e is. value-error (done n) ws e at is),
  )
  first-joins n within other (Value vs) NoMemory at told = absurd (memory n within at)
  first-joins n within other Stopped NoMemory at told = absurd (memory n within at)
  first-joins n within other NoMemory c at told = absurd told

  late-not : {G : Type 0} (i : ℕ) → IsLate i → NotLate i → G
  late-not i late other = absurd (false≢true (sym other ∙ late))

  first-skips : (n : ℕ) → IsLate n → (x : Completion) → FirstTells n x → FirstTells (suc n) x
  first-skips n late (Value vs) told = (
    each-next (λ i. NotLate i → done i ≡ Value (data_at i)) n told.0 (λ here. late-not n late here),
    λ all. late-not n late (all n (omega arith)),
  )
  first-skips n late (Error e) told = let inside = told.1 in (told.0, omega (arith, inside), told.2, told.3)
  first-skips n late Stopped told = let inside = told.0.1 in (
    (told.0.0, omega (arith, inside), told.0.2, told.0.3),
    each-next (λ i. NotLate i → (e : List ℕ) → done i ≡ Error e → ⊥) n told.1 (λ here. late-not n late here),
  )
  first-skips n late NoMemory told = absurd told

  pub first-tells : (n : ℕ) → n ≤ count → FirstTells n (first_ends ends n)
  first-tells zero within = ((λ i inside. absurd (omega (arith, inside))), λ all. refl)
  first-tells (suc n) within =
      let before : FirstTells n (first_ends ends n) = first-tells n (omega (arith, within)) in
      either (fails_late (ends n))
      (λ t. subst (λ b. FirstTells (suc n) (joins_where (not b) (first_ends ends n) (done n))) (sym t)
      (first-skips n t (first_ends ends n) before))
      (λ f. subst (λ b. FirstTells (suc n) (joins_where (not b) (first_ends ends n) (done n))) (sym f)
      (first-joins n (omega (arith, within)) f (first_ends ends n) (done n) refl before))

  -- no child failed without having seen a request; one stopped without
  abbrev pub NoFirst : Type 0
  NoFirst = (i : ℕ) → i < count → fails_first (ends i) ≡ false

  abbrev pub StoppedFirst : Type 0
  StoppedFirst = (k : ℕ) × (k < count) × (done k ≡ Stopped) × ((ends k).saw ≡ false)

  -- what the second walk tells, which begins with x
  abbrev pub LateTells : ℕ → Completion → Completion → Type 0
  LateTells n x (Value values) = (x ≡ Value values) × ((i : ℕ) → i < n → NotLate i)
  LateTells n x (Error e) =
      (j : ℕ) × (j < count) × (done j ≡ Error e) × (((ends j).saw ≡ false) ⊎ (StoppedFirst ⊎ NoFirst))
  LateTells n x Stopped =
      ((j : ℕ) × (j < count) × (done j ≡ Stopped) × (((ends j).saw ≡ false) ⊎ NoFirst))
      × ((i : ℕ) → i < count → NotLate i ⊎ (i < n) → (e : List ℕ) → done i ≡ Error e → ⊥)
  LateTells n x NoMemory = ⊥

  late-begins : (x : Completion) → FirstTells count x → LateTells 0 x x
  late-begins (Value vs) told = (refl, λ i inside. absurd (omega (arith, inside)))
  late-begins (Error e) told = (told.0, told.1, told.2, inl told.3)
  late-begins Stopped told = (
    (told.0.0, told.0.1, told.0.2, inl told.0.3),
    λ i inside which e is. elim which [
      | inl other ↦ told.1 i inside other e is
      | inr none ↦ absurd (omega (arith, none))
    ],
  )
  late-begins NoMemory told = absurd told

  -- where the first walk gave values, none failed without having seen a request
  pub values-first : (vs : List Datum) → FirstTells count (Value vs) → NoFirst
  values-first vs told i inside =
      either (fails_late (ends i))
      (λ t. late-first (ends i).saw (done i) t)
      (λ f. value-first (ends i).saw (done i) (ap is_failure (told.0 i inside f)))

  -- no error among those up to n, where there was none before, and the next is none
  no-error : (n : ℕ) (x : Completion) → ((i : ℕ) → i < count → NotLate i ⊎ (i < n) → (e : List ℕ) → done i ≡ Error e → ⊥) →
      ((e : List ℕ) → done n ≡ Error e → ⊥) →
      (i : ℕ) → i < count → NotLate i ⊎ (i < suc n) → (e : List ℕ) → done i ≡ Error e → ⊥
  no-error n x before here i inside which e is = elim which [
    | inl other ↦ before i inside (inl other) e is
    | inr below ↦ elim (cases_eq i n) [
      | inl same ↦ here e (subst (λ k. done k ≡ Error e) same is)
      | inr apart ↦ before i inside (inr (omega (arith, below, apart))) e is
    ]
  ]

  value-late : {G : Type 0} (n : ℕ) (ws : List Datum) → IsLate n → done n ≡ Value ws → G
  value-late n ws late at =
      absurd (false≢true (sym (ap is_failure at) ∙ late-failure (ends n).saw (done n) late))

  late-joins : (x : Completion) → FirstTells count x → (n : ℕ) → n < count → IsLate n → (y c : Completion) → done n ≡ c →
      LateTells n x y → LateTells (suc n) x (and_then y c)
  late-joins x told n within late y (Value ws) at tells = value-late n ws late at
  late-joins x told n within late y NoMemory at tells = absurd (memory n within at)
  late-joins x told n within late (Value vs) (Error e) at tells =
      (n, within, at, inr (inr (values-first vs (subst (FirstTells count) tells.0 told))))
  late-joins x told n within late (Value vs) Stopped at tells =
      let first : FirstTells count (Value vs) = subst (FirstTells count) tells.0 told in (
        (n, within, at, inr (values-first vs first)),
        no-error n x
            (λ i inside which e is. elim which [
              | inl other ↦ value-error (done i) (data_at i) e (first.0 i inside other) is
              | inr below ↦ value-error (done i) (data_at i) e (first.0 i inside (tells.1 i below)) is
            ])
            (λ e is. stopped-error (done n) e at is),
      )
  late-joins x told n within late (Error e) c at tells = tells
  late-joins x told n within late Stopped (Error e) at tells = (
    n,
    within,
    at,
    elim (tells.0.3) [
      | inl unseen ↦ inr (inl (tells.0.0, tells.0.1, tells.0.2, unseen))
      | inr none ↦ inr (inr none)
    ],
  )
  late-joins x told n within late Stopped Stopped at tells =
      (tells.0, no-error n x tells.1 (λ e is. stopped-error (done n) e at is))
  late-joins x told n within late NoMemory c at tells = absurd tells

  late-skips : (x : Completion) (n : ℕ) → NotLate n → (y : Completion) → LateTells n x y → LateTells (suc n) x y
  late-skips x n other (Value vs) tells = (tells.0, each-next NotLate n tells.1 other)
  late-skips x n other (Error e) tells = tells
  late-skips x n other Stopped tells = (
    tells.0,
    λ i inside which e is. elim which [
      | inl not_late ↦ tells.1 i inside (inl not_late) e is
      | inr below ↦ elim (cases_eq i n) [
        | inl same ↦ tells.1 i inside (inl (subst NotLate (sym same) other)) e is
        | inr apart ↦ tells.1 i inside (inr (omega (arith, below, apart))) e is
      ]
    ],
  )
  late-skips x n other NoMemory tells = absurd tells

  pub late-tells : (x : Completion) → FirstTells count x → (n : ℕ) → n ≤ count → LateTells n x (late_ends ends n x)
  late-tells x told zero within = late-begins x told
  late-tells x told (suc n) within =
      let before : LateTells n x (late_ends ends n x) = late-tells x told n (omega (arith, within)) in
      either (fails_late (ends n))
      (λ t. subst (λ b. LateTells (suc n) x (joins_where b (late_ends ends n x) (done n))) (sym t)
      (late-joins x told n (omega (arith, within)) t (late_ends ends n x) (done n) refl before))
      (λ f. subst (λ b. LateTells (suc n) x (joins_where b (late_ends ends n x) (done n))) (sym f)
      (late-skips x n f (late_ends ends n x) before))

-- what none or some of the first n children saw
or-none : (a b : Bool) → (a || b) ≡ false → (a ≡ false) × (b ≡ false)
or-none true b none = absurd (false≢true (sym none))
or-none false b none = (refl, none)

both-none : (a b : Bool) → a ≡ false → b ≡ false → (a || b) ≡ false
both-none true b one other = one
both-none false b one other = other

pub none-saw : (ends : ℕ → Delivery) (n : ℕ) → some_saw ends n ≡ false → (i : ℕ) → i < n → (ends i).saw ≡ false
none-saw ends zero none = λ i inside. absurd (omega (arith, inside))
none-saw ends (suc n) none =
    let parts = or-none (some_saw ends n) (ends n).saw none in
    each-next (λ i. (ends i).saw ≡ false) n (none-saw ends n parts.0) parts.1

pub saw-none : (ends : ℕ → Delivery) (n : ℕ) → ((i : ℕ) → i < n → (ends i).saw ≡ false) → some_saw ends n ≡ false
saw-none ends zero each = refl
saw-none ends (suc n) each =
    both-none (some_saw ends n) (ends n).saw (saw-none ends n (λ i inside. each i (omega (arith, inside))))
    (each n (omega arith))

pub first-none : (ends : ℕ → Delivery) (n : ℕ) → ((i : ℕ) → i < n → fails_first (ends i) ≡ false) → some_first ends n ≡ false
first-none ends zero each = refl
first-none ends (suc n) each =
    both-none (some_first ends n) (fails_first (ends n)) (first-none ends n (λ i inside. each i (omega (arith, inside))))
    (each n (omega arith))

pub first-some : (ends : ℕ → Delivery) (n j : ℕ) → j < n → fails_first (ends j) ≡ true → some_first ends n ≡ true
first-some ends zero j inside fails = absurd (omega (arith, inside))
first-some ends (suc n) j inside fails = elim (cases_eq j n) [
  | inl same ↦ or_right (some_first ends n) (fails_first (ends n)) (subst (λ k. fails_first (ends k) ≡ true) same fails)
  | inr apart ↦
      or_left (some_first ends n) (fails_first (ends n)) (first-some ends n j (omega (arith, inside, apart)) fails)
]

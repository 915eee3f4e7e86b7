-- How a list of candidates grows.
use Rattle.std.proofs.Common.{◌≡◌, Bool, true, false, cond, ℕ, ◌+◌, ◌<◌, ◌≤◌, List, [], ◌∷◌, ◌++◌, length, take, get_or, sym, ap, subst, ◌∙◌, append_assoc, arith}
use Rattle.std.specs.Prelude.{Result, Ok, Err, IfOk}
use Rattle.std.specs.List.{filter, flat_map, range_with_len}
use Rattle.std.proofs.lemmas.List.{append-nil, flat_map_more, take_more, take_all}
use Rattle.std.proofs.lemmas.List.Elements.{filter-append, filter_more}
use Rattle.std.proofs.lemmas.List.FromFn.{length-range_with_len, get_or-range_with_len}
use Rattle.std.proofs.lemmas.Bool.{cond-true, cond-false}
use Rattle.life_rules.specs.declared.event.Event.{Event}
use Rattle.life_rules.specs.States.{State}
use Rattle.life_rules.specs.Steps.{may_happen}
use Rattle.replay_core.specs.Listings.{Keeps}

-- of no events none were added
pub keeps_none : {s : State} {h : ℕ} {old : List Event} → Keeps s h old old []
keeps_none {s} {h} {old} = record { added = sym (append-nil old) }

-- an event that is a step was added
pub keeps_step : (s : State) (h : ℕ) (old new : List Event) (event : Event) → may_happen s h event ≡ true → new ≡ old ++ event ∷ [] → Keeps s h old new (event ∷ [])
keeps_step s h old new event step is =
    record { added = is ∙ ap (λ (l : List Event). old ++ l) (sym (cond-true (may_happen s h event) (event ∷ []) [] step)) }

-- and one that is none wasn't
pub keeps_no_step : (s : State) (h : ℕ) (old : List Event) (event : Event) → may_happen s h event ≡ false → Keeps s h old old (event ∷ [])
keeps_no_step s h old event none =
    record { added = sym (append-nil old) ∙ ap (λ (l : List Event). old ++ l) (sym (cond-false (may_happen s h event) (event ∷ []) [] none)) }

-- of some events, and then of others
pub keeps_join : {s : State} {h : ℕ} {old mid new a b : List Event} → Keeps s h old mid a → Keeps s h mid new b → Keeps s h old new (a ++ b)
keeps_join {s} {h} {old} {mid} {new} {a} {b} p q =
    record {
      added =
          q.added
          ∙ ap (λ (l : List Event). l ++ filter (may_happen s h) b) p.added
          ∙ append_assoc old (filter (may_happen s h) a) (filter (may_happen s h) b)
          ∙ ap (λ (l : List Event). old ++ l) (sym (filter-append (may_happen s h) a b));
    }

-- what an element gives, after what those before it gave
pub flat_map_next : {X A : Type 0} (g : X → List A) (xs : List X) (i : ℕ) (x d : X) → i < length xs → x ≡ get_or xs i d → flat_map g (take (i + 1) xs) ≡ flat_map g (take i xs) ++ g x
flat_map_next g xs i x d here is =
    ap (flat_map g) (take_more xs i d here)
    ∙ sym (flat_map_more g [] (take i xs) (get_or xs i d))
    ∙ ap (λ y. flat_map g (take i xs) ++ g y) (sym is)

-- the events of one element more
pub keeps_more : {X : Type 0} (g : X → List Event) (ps xs : List X) (i : ℕ) (x d : X) {s : State} {h : ℕ} {old mid new : List Event} → ps ≡ xs → Keeps s h old mid (flat_map g (take i xs)) → Keeps s h mid new (g x) → i < length ps → x ≡ get_or ps i d → Keeps s h old new (flat_map g (take (i + 1) xs))
keeps_more g ps xs i x d {s} {h} {old} {mid} {new} same p q here is =
    subst (Keeps s h old new)
    (sym (flat_map_next g xs i x d (subst (λ l. i < length l) same here) (is ∙ ap (λ l. get_or l i d) same)))
    (keeps_join p q)

-- those of all elements
pub keeps_each : {X : Type 0} (g : X → List Event) (ps xs : List X) (i : ℕ) {s : State} {h : ℕ} {old new : List Event} → ps ≡ xs → Keeps s h old new (flat_map g (take i xs)) → length ps ≤ i → Keeps s h old new (flat_map g xs)
keeps_each g ps xs i {s} {h} {old} {new} same p all =
    subst (λ l. Keeps s h old new (flat_map g l)) (take_all i xs (subst (λ l. length l ≤ i) same all)) p

-- what the numbers below n give, and one number more
pub numbers_next : {A : Type 0} (g : ℕ → List A) (n i : ℕ) → i < n → flat_map g (take (i + 1) (range_with_len 0 n)) ≡ flat_map g (take i (range_with_len 0 n)) ++ g i
numbers_next g n i here =
    flat_map_next g (range_with_len 0 n) i i 0 (omega (arith, length-range_with_len 0 n))
    (omega (arith, get_or-range_with_len 0 n i 0 here))

-- the events of the numbers below n, and of one number more
pub keeps_number : (g : ℕ → List Event) (n i : ℕ) {s : State} {h : ℕ} {old mid new : List Event} → Keeps s h old mid (flat_map g (take i (range_with_len 0 n))) → Keeps s h mid new (g i) → i < n → Keeps s h old new (flat_map g (take (i + 1) (range_with_len 0 n)))
keeps_number g n i {s} {h} {old} {mid} {new} p q here =
    subst (Keeps s h old new) (sym (numbers_next g n i here)) (keeps_join p q)

-- those of all numbers below n
pub keeps_numbers : (g : ℕ → List Event) (n i : ℕ) {s : State} {h : ℕ} {old new : List Event} → Keeps s h old new (flat_map g (take i (range_with_len 0 n))) → n ≤ i → Keeps s h old new (flat_map g (range_with_len 0 n))
keeps_numbers g n i {s} {h} {old} {new} p all =
    subst (λ (l : List ℕ). Keeps s h old new (flat_map g l)) (take_all i (range_with_len 0 n) (omega (arith, length-range_with_len 0 n))) p

-- the first of the numbers below n are those below it
pub numbers_all : {A : Type 0} (g : ℕ → List A) (n i : ℕ) → n ≤ i → flat_map g (take i (range_with_len 0 n)) ≡ flat_map g (range_with_len 0 n)
numbers_all g n i all = ap (flat_map g) (take_all i (range_with_len 0 n) (omega (arith, length-range_with_len 0 n)))

-- a list that grew by what one element more gives
pub grown : {A : Type 0} (old mid new front more whole : List A) → mid ≡ old ++ front → new ≡ mid ++ more → whole ≡ front ++ more → new ≡ old ++ whole
grown old mid new front more whole p q e =
    q
    ∙ ap (λ (l : List _). l ++ more) p
    ∙ append_assoc old front more
    ∙ ap (λ (l : List _). old ++ l) (sym e)

-- a list of the numbers below n that pass a test, and one number more
pub passed_next : (test : ℕ → Bool) (n i : ℕ) → i < n → filter test (take (i + 1) (range_with_len 0 n)) ≡ filter test (take i (range_with_len 0 n)) ++ cond (test i) (i ∷ []) []
passed_next test n i here =
    let at : get_or (range_with_len 0 n) i 0 ≡ i = omega (arith, get_or-range_with_len 0 n i 0 here) in
    filter_more test (range_with_len 0 n) i 0 (omega (arith, length-range_with_len 0 n))
    ∙ ap (λ (m : ℕ). filter test (take i (range_with_len 0 n)) ++ cond (test m) (m ∷ []) []) at

pub passed_all : (test : ℕ → Bool) (n i : ℕ) → n ≤ i → filter test (take i (range_with_len 0 n)) ≡ filter test (range_with_len 0 n)
passed_all test n i all = ap (filter test) (take_all i (range_with_len 0 n) (omega (arith, length-range_with_len 0 n)))

-- one number more that passes the test, or doesn't
pub passed_yes : (test : ℕ → Bool) (n i : ℕ) (old new : List ℕ) → i < n → test i ≡ true → old ≡ filter test (take i (range_with_len 0 n)) → new ≡ old ++ i ∷ [] → new ≡ filter test (take (i + 1) (range_with_len 0 n))
passed_yes test n i old new here passes so_far is =
    is
    ∙ ap (λ (l : List ℕ). l ++ i ∷ []) so_far
    ∙ ap (λ (l : List ℕ). filter test (take i (range_with_len 0 n)) ++ l) (sym (cond-true (test i) (i ∷ []) [] passes))
    ∙ sym (passed_next test n i here)

pub passed_no : (test : ℕ → Bool) (n i : ℕ) (old : List ℕ) → i < n → test i ≡ false → old ≡ filter test (take i (range_with_len 0 n)) → old ≡ filter test (take (i + 1) (range_with_len 0 n))
passed_no test n i old here fails so_far =
    so_far
    ∙ sym (append-nil (filter test (take i (range_with_len 0 n))))
    ∙ ap (λ (l : List ℕ). filter test (take i (range_with_len 0 n)) ++ l) (sym (cond-false (test i) (i ∷ []) [] fails))
    ∙ sym (passed_next test n i here)

-- what holds of a value holds of it in other words
pub if_ok : {T E : Type 0} (r : Result T E) (P Q : T → Type 0) → ((x : T) → P x → Q x) → IfOk r P → IfOk r Q
if_ok (Ok x) P Q f h = f x h
if_ok (Err e) P Q f h = h

-- the same event under another name
pub keeps_same : {s : State} {h : ℕ} {old new : List Event} {a b : Event} → a ≡ b → Keeps s h old new (a ∷ []) → Keeps s h old new (b ∷ [])
keeps_same {s} {h} {old} {new} same p = subst (λ (event : Event). Keeps s h old new (event ∷ [])) same p

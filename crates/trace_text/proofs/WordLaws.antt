-- What is written is read back.
use Rattle.std.proofs.Common.{◌≡◌, ℕ, suc, ◌+◌, ◌-◌, ◌*◌, ◌/◌, ◌%◌, ◌^◌, ◌<◌, ◌≤◌, true, false, eqb, List, [], ◌∷◌, ◌++◌, length, Option, Some, None, refl, sym, ap, ◌∙◌, zero-add, drop, drop-cons, get_or, take, arith}
use Rattle.std.specs.Prelude.{nat_lt}
use Rattle.std.specs.Char.{is_ascii_digit}
use Rattle.std.specs.Fmt.{decimal}
use Rattle.std.specs.Option.{option_map, option_and_then}
use Rattle.std.specs.Str.Parse.{AllDigits}
use Rattle.std.proofs.lemmas.Bool.{and_from, cond-true, cond-false, ne_eqb, lt-ltb, eq-eqb}
use Rattle.std.proofs.lemmas.Bool.Decides.{nat_tests}
use Rattle.std.proofs.lemmas.Fmt.{decimal_by_steps, decimal_is_IsNumeral}
use Rattle.std.proofs.lemmas.List.{drop_all, take-append-drop}
use Rattle.std.proofs.lemmas.Str.Parse.{digit_from_value}
use Rattle.life_rules.specs.declared.event.Place.{Place}
use Rattle.trace_text.specs.Texts.{dot, place_text}
use Rattle.trace_text.specs.Words.{Halves, cut_at, both, in_halves, with_digit, number_from, number_in, numbers_in, place_at, place_in}

-- no byte of this kind is among the bytes
abbrev pub Lacks : ℕ → List ℕ → Type 0
Lacks c [] = Unit {0}
Lacks c (b ∷ bs) = (eqb b c ≡ false) × Lacks c bs

pub lacks-append : (c : ℕ) (xs ys : List ℕ) → Lacks c xs → Lacks c ys → Lacks c (xs ++ ys)
lacks-append c [] ys none more = more
lacks-append c (x ∷ xs) ys none more = (none.0, lacks-append c xs ys none.1 more)

-- bytes are cut at the first such byte
pub cut_at-front : (c : ℕ) (front rest : List ℕ) → Lacks c front → cut_at c (front ++ c ∷ rest) ≡ Some (record { front = front; rest = rest })
cut_at-front c [] rest none = cond-true (eqb c c) _ _ (eq-eqb c c refl)
cut_at-front c (b ∷ bs) rest none =
    cond-false (eqb b c) _ _ none.0
    ∙ ap (option_map (λ (h : Halves). record { front = b ∷ h.front; rest = h.rest })) (cut_at-front c bs rest none.1)

-- and nowhere where there is none
pub cut_at-none : (c : ℕ) (bytes : List ℕ) → Lacks c bytes → cut_at c bytes ≡ None
cut_at-none c [] none = refl
cut_at-none c (b ∷ bs) none =
    cond-false (eqb b c) _ _ none.0
    ∙ ap (option_map (λ (h : Halves). record { front = b ∷ h.front; rest = h.rest })) (cut_at-none c bs none.1)

-- what two halves say is read back
pub in_halves-text : {A B C : Type 0} (f : A → B → C) (first : List ℕ → Option A) (second : List ℕ → Option B) (c : ℕ) (front rest : List ℕ) (x : A) (y : B) →
    Lacks c front → first front ≡ Some x → second rest ≡ Some y → in_halves f first second c (front ++ c ∷ rest) ≡ Some (f x y)
in_halves-text f first second c front rest x y none one two =
    ap (option_and_then (λ (h : Halves). both f (first h.front) (second h.rest))) (cut_at-front c front rest none)
    ∙ ap (λ (o : Option _). both f o (second rest)) one
    ∙ ap (λ (o : Option _). both f (Some x) o) two

-- digits are no other bytes
digits-lack : (c : ℕ) (ds : List ℕ) → AllDigits 10 ds → ¬ ((48 ≤ c) × (c ≤ 57)) → Lacks c ds
digits-lack c [] digits other = tt
digits-lack c (d ∷ ds) digits other =
    let is = digit_from_value d digits.0 in
    (ne_eqb d c (λ same. other (omega (arith, is.0, same), omega (arith, is.1, same))), digits-lack c ds digits.1 other)

pub decimal-lacks : (c n : ℕ) → n < 2 ^ 32 → ¬ ((48 ≤ c) × (c ≤ 57)) → Lacks c (decimal n)
decimal-lacks c n small other = digits-lack c (decimal n) (decimal_is_IsNumeral n (omega (arith, small))).0.1 other

-- a number that was written is read back
number_from-append : (n : ℕ) (xs ys : List ℕ) → number_from n (xs ++ ys) ≡ option_and_then (λ m. number_from m ys) (number_from n xs)
number_from-append n [] ys = refl
number_from-append n (x ∷ xs) ys =
    elim (with_digit n x) as (λ o. option_and_then (λ m. number_from m (xs ++ ys)) o ≡ option_and_then (λ m. number_from m ys) (option_and_then (λ m. number_from m xs) o)) [
      | None ↦ refl
      | Some m ↦ number_from-append m xs ys
    ]

digit-step : (m n : ℕ) → m * 10 + n < 2 ^ 32 → n < 10 → with_digit m (48 + n) ≡ Some (m * 10 + n)
digit-step m n small digit =
    let value : m * 10 + (48 + n - 48) ≡ m * 10 + n = omega arith in
    let is : is_ascii_digit (48 + n) ≡ true = grind (arith, nat_tests) in
    cond-true _ (Some (m * 10 + (48 + n - 48))) None
    (and_from (is_ascii_digit (48 + n)) (nat_lt (m * 10 + (48 + n - 48)) (2 ^ 32)) is (lt-ltb (m * 10 + (48 + n - 48)) (2 ^ 32) (omega (arith, value, small))))
    ∙ ap (λ (k : ℕ). Some k) value

number-steps : (n : ℕ) → n < 2 ^ 64 → n < 2 ^ 32 → number_from 0 (decimal n) ≡ Some n
number-steps =
    decimal_by_steps (λ n ds. n < 2 ^ 32 → number_from 0 ds ≡ Some n)
    (λ n digit small. ap (option_and_then (λ m. number_from m [])) (digit-step 0 n (omega (arith, small)) digit) ∙ ap (λ (k : ℕ). Some k) (zero-add n))
    (λ n ds large front small.
    let whole : n / 10 * 10 + n % 10 ≡ n = omega arith in
    number_from-append 0 ds ((48 + n % 10) ∷ [])
    ∙ ap (option_and_then (λ m. number_from m ((48 + n % 10) ∷ []))) (front (omega (arith, small)))
    ∙ ap (option_and_then (λ m. number_from m [])) (digit-step (n / 10) (n % 10) (omega (arith, whole, small)) (omega arith))
    ∙ ap (λ (k : ℕ). Some k) whole)

pub number_in-decimal : (n : ℕ) → n < 2 ^ 32 → number_in (decimal n) ≡ Some n
unfolding number_in
number_in-decimal n small = number-steps n (omega (arith, small)) small

-- a place
abbrev pub IsSmall : Place → Type 0
IsSmall p = (p.block < 2 ^ 32) × (p.node < 2 ^ 32)

pub place_in-text : (p : Place) → IsSmall p → place_in (place_text p) ≡ Some p
unfolding place_in
place_in-text p small =
    in_halves-text place_at number_in number_in dot (decimal p.block) (decimal p.node) p.block p.node
    (decimal-lacks dot p.block small.0 (λ digit. absurd (omega (arith, digit.0))))
    (number_in-decimal p.block small.0) (number_in-decimal p.node small.1)

pub place-lacks : (c : ℕ) (p : Place) → IsSmall p → ¬ ((48 ≤ c) × (c ≤ 57)) → eqb dot c ≡ false → Lacks c (place_text p)
place-lacks c p small other apart =
    lacks-append c (decimal p.block) (dot ∷ decimal p.node) (decimal-lacks c p.block small.0 other)
    (apart, decimal-lacks c p.node small.1 other)

-- a number is read digit by digit
pub number_from-next : (n : ℕ) (bytes : List ℕ) (i : ℕ) → i < length bytes → number_from n (drop i bytes) ≡ option_and_then (λ m. number_from m (drop (i + 1) bytes)) (with_digit n (get_or bytes i 0))
number_from-next n bytes i here =
    let next : suc i ≡ i + 1 = omega arith in
    ap (number_from n) (drop-cons bytes i 0 here)
    ∙ ap (λ (k : ℕ). option_and_then (λ m. number_from m (drop k bytes)) (with_digit n (get_or bytes i 0))) next

pub number_in-stop : (n : ℕ) (bytes : List ℕ) (i : ℕ) → i < length bytes → number_from n (drop i bytes) ≡ number_from 0 bytes → with_digit n (get_or bytes i 0) ≡ None → None ≡ number_in bytes
unfolding number_in
number_in-stop n bytes i here so_far stop =
    sym (sym so_far ∙ number_from-next n bytes i here ∙ ap (option_and_then (λ m. number_from m (drop (i + 1) bytes))) stop)

pub number_in-all : (n : ℕ) (bytes : List ℕ) (i : ℕ) → length bytes ≤ i → number_from n (drop i bytes) ≡ number_from 0 bytes → Some n ≡ number_in bytes
unfolding number_in
number_in-all n bytes i done so_far = ap (number_from n) (sym (drop_all i bytes done)) ∙ so_far

-- numbers are read part by part
abbrev cons : ℕ → List ℕ → List ℕ
cons n ns = n ∷ ns

numbers_in-append : (xs ys : List (List ℕ)) → numbers_in (xs ++ ys) ≡ both (λ a b. a ++ b) (numbers_in xs) (numbers_in ys)
numbers_in-append [] ys = first (numbers_in ys)
  where
    first : (o : Option (List ℕ)) → o ≡ both (λ a b. a ++ b) (Some []) o
    first None = refl
    first (Some b) = refl
numbers_in-append (x ∷ xs) ys =
    ap (λ (o : Option (List ℕ)). both cons (number_in x) o) (numbers_in-append xs ys)
    ∙ cons-both (number_in x) (numbers_in xs) (numbers_in ys)
  where
    cons-both : (o : Option ℕ) (a b : Option (List ℕ)) → both cons o (both (λ u v. u ++ v) a b) ≡ both (λ u v. u ++ v) (both cons o a) b
    cons-both None a b = refl
    cons-both (Some n) None b = refl
    cons-both (Some n) (Some a) None = refl
    cons-both (Some n) (Some a) (Some b) = refl

pub numbers_in-push : (xs : List (List ℕ)) (part ns : List ℕ) (n : ℕ) → numbers_in xs ≡ Some ns → number_in part ≡ Some n → numbers_in (xs ++ part ∷ []) ≡ Some (ns ++ n ∷ [])
numbers_in-push xs part ns n so_far is =
    numbers_in-append xs (part ∷ [])
    ∙ ap (λ (o : Option (List ℕ)). both (λ a b. a ++ b) o (numbers_in (part ∷ []))) so_far
    ∙ ap (λ (o : Option ℕ). both (λ a b. a ++ b) (Some ns) (both cons o (Some []))) is

pub numbers_in-stop : (parts : List (List ℕ)) (k : ℕ) (part : List ℕ) → k < length parts → part ≡ get_or parts k part → number_in part ≡ None → numbers_in parts ≡ None
numbers_in-stop parts k part here is stop =
    let later = drop (suc k) parts in
    let whole : take k parts ++ part ∷ later ≡ parts =
    ap (λ (p : List ℕ). take k parts ++ p ∷ later) is
    ∙ ap (λ (l : List (List ℕ)). take k parts ++ l) (sym (drop-cons parts k part here))
    ∙ take-append-drop k parts in
    ap numbers_in (sym whole)
    ∙ numbers_in-append (take k parts) (part ∷ later)
    ∙ ap (λ (o : Option ℕ). both (λ a b. a ++ b) (numbers_in (take k parts)) (both cons o (numbers_in later))) stop
    ∙ none (numbers_in (take k parts))
  where
    none : (o : Option (List ℕ)) → both (λ a b. a ++ b) o None ≡ None
    none None = refl
    none (Some a) = refl

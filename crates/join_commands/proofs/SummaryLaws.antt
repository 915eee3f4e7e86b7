-- Summaries are summed one after another.
use Rattle.std.proofs.Common.{◌≡◌, ℕ, ℤ, pos, ◌+◌, ◌<◌, ◌≤◌, List, [], ◌∷◌, ◌++◌, map, length, get_or, take, codes, Option, Some, None, Result, Ok, Err, refl, sym, ap, ◌∙◌, subst, append_assoc, arith, length-take}
use Rattle.std.specs.Prelude.{◌+ℤ◌, IfNone, IfOk, OnOk, is_ok, if◌then◌else◌}
use Rattle.std.specs.Borrow.{Bor}
use Rattle.std.proofs.lemmas.List.{take_more, take_all, map-append, get_or_default}
use Rattle.std.proofs.lemmas.Int.{ints}
use Rattle.std.proofs.lemmas.List.Sums.{sum_by_push}
use Rattle.std.proofs.lemmas.Slice.Zip.{all_zipped_more}
use Rattle.exec_io.specs.Shelves.{Texts}
use Rattle.exec_value.specs.Sum.{total}
use Rattle.exec_value.proofs.SumLemmas.{total-append}
use Rattle.join_commands.specs.declared.fault.LookFault.{LookFault}
use Rattle.join_commands.specs.declared.summary.Numbers.{Numbers}
use Rattle.std.specs.Fmt.{signed_decimal}
use Rattle.join_commands.specs.Summaries.{AreSummaries, AreSummed, IsBoth, IsSummary, IsTooLarge, HasSum, named_count, summary_text}
use Rattle.join_commands.specs.Unsummed.{IsBeyondSummary}

zero_left : (number : ℤ) → pos 0 +ℤ number ≡ number
zero_left number = omega (arith, ints)

total_push : (parts : List Numbers) (one : Numbers) → total (map (λ (n : Numbers). n.sum) (parts ++ one ∷ [])) ≡ total (map (λ (n : Numbers). n.sum) parts) +ℤ one.sum
total_push parts one =
    ap total (map-append (λ (n : Numbers). n.sum) parts (one ∷ []))
    ∙ (total-append (map (λ (n : Numbers). n.sum) parts) (one.sum ∷ []) ∙ ap (λ (z : ℤ). total (map (λ (n : Numbers). n.sum) parts) +ℤ z) (zero_left one.sum))

-- one summary more is added
pub summed_more : (parts : List Numbers) (sum one both : Numbers) → AreSummed parts sum → IsBoth sum one both → AreSummed (parts ++ one ∷ []) both
summed_more parts sum one both before adds = record {
  records = omega (arith, adds.records, before.records, sum_by_push (λ (n : Numbers). n.records) parts one);
  values = omega (arith, adds.values, before.values, sum_by_push (λ (n : Numbers). n.values) parts one);
  errors = omega (arith, adds.errors, before.errors, sum_by_push (λ (n : Numbers). n.errors) parts one);
  stopped = omega (arith, adds.stopped, before.stopped, sum_by_push (λ (n : Numbers). n.stopped) parts one);
  no_memory = omega (arith, adds.no_memory, before.no_memory, sum_by_push (λ (n : Numbers). n.no_memory) parts one);
  bad = omega (arith, adds.bad, before.bad, sum_by_push (λ (n : Numbers). n.bad) parts one);
  sum = adds.sum ∙ (ap (λ (z : ℤ). z +ℤ one.sum) before.sum ∙ sym (total_push parts one));
}

-- and what the sums are with it are the sums without it and its own
summed_both : (parts : List Numbers) (sum one both : Numbers) → AreSummed parts sum → AreSummed (parts ++ one ∷ []) both → IsBoth sum one both
summed_both parts sum one both before after = record {
  records = omega (arith, after.records, before.records, sum_by_push (λ (n : Numbers). n.records) parts one);
  values = omega (arith, after.values, before.values, sum_by_push (λ (n : Numbers). n.values) parts one);
  errors = omega (arith, after.errors, before.errors, sum_by_push (λ (n : Numbers). n.errors) parts one);
  stopped = omega (arith, after.stopped, before.stopped, sum_by_push (λ (n : Numbers). n.stopped) parts one);
  no_memory = omega (arith, after.no_memory, before.no_memory, sum_by_push (λ (n : Numbers). n.no_memory) parts one);
  bad = omega (arith, after.bad, before.bad, sum_by_push (λ (n : Numbers). n.bad) parts one);
  sum = after.sum ∙ (total_push parts one ∙ ap (λ (z : ℤ). z +ℤ one.sum) (sym before.sum));
}

-- one part more has a summary
pub whole_more : (all : Texts) (names : List (Bor (List ℕ))) (i : ℕ) (name : Bor (List ℕ)) (parts : List Numbers) (one : Numbers) → i < length names → name ≡ get_or names i name
    → AreSummaries all (take i names) parts → IsSummary all name.now one → AreSummaries all (take (i + 1) names) (parts ++ one ∷ [])
whole_more all names i name parts one below is before summary =
    subst (λ (l : List (Bor (List ℕ))). AreSummaries all l (parts ++ one ∷ []))
    (ap (λ (n : Bor (List ℕ)). take i names ++ n ∷ []) is ∙ sym (take_more names i name below))
    (all_zipped_more (λ (n : Bor (List ℕ)) p. IsSummary all n.now p) (take i names) parts name one before summary)

-- a part more
pub has_more : (all : Texts) (names : List (Bor (List ℕ))) (i : ℕ) (name : Bor (List ℕ)) (sum one both : Numbers) → i < length names → name ≡ get_or names i name
    → HasSum all (take i names) sum → IsSummary all name.now one → IsBoth sum one both → HasSum all (take (i + 1) names) both
has_more all names i name sum one both below is has summary adds = record {
  parts = has.parts ++ one ∷ [];
  whole = whole_more all names i name has.parts one below is has.whole summary;
  summed = summed_more has.parts sum one both has.summed adds;
}

-- a file that is read to its end
pub read_whole : (text buf : List ℕ) (count most : ℕ) → take count buf ≡ take most text → count ≤ length buf → count < most → take count buf ≡ text
read_whole text buf count most same within short =
    same ∙ take_all most text (omega (arith, ap length same, length-take most text, length-take count buf))

-- what nine writes append one after another
pub nine : (a b c d e f g h i x0 x1 x2 x3 x4 x5 x6 x7 x8 x9 : List ℕ) → x0 ≡ [] → x1 ≡ x0 ++ a → x2 ≡ x1 ++ b → x3 ≡ x2 ++ c → x4 ≡ x3 ++ d → x5 ≡ x4 ++ e → x6 ≡ x5 ++ f → x7 ≡ x6 ++ g
    → x8 ≡ x7 ++ h → x9 ≡ x8 ++ i → x9 ≡ (((((((a ++ b) ++ c) ++ d) ++ e) ++ f) ++ g) ++ h) ++ i
nine a b c d e f g h i x0 x1 x2 x3 x4 x5 x6 x7 x8 x9 e0 e1 e2 e3 e4 e5 e6 e7 e8 e9 =
    let y1 : x1 ≡ a = e1 ∙ ap (λ (l : List ℕ). l ++ a) e0 in
    let y2 : x2 ≡ a ++ b = e2 ∙ ap (λ (l : List ℕ). l ++ b) y1 in
    let y3 : x3 ≡ (a ++ b) ++ c = e3 ∙ ap (λ (l : List ℕ). l ++ c) y2 in
    let y4 : x4 ≡ ((a ++ b) ++ c) ++ d = e4 ∙ ap (λ (l : List ℕ). l ++ d) y3 in
    let y5 : x5 ≡ (((a ++ b) ++ c) ++ d) ++ e = e5 ∙ ap (λ (l : List ℕ). l ++ e) y4 in
    let y6 : x6 ≡ ((((a ++ b) ++ c) ++ d) ++ e) ++ f = e6 ∙ ap (λ (l : List ℕ). l ++ f) y5 in
    let y7 : x7 ≡ (((((a ++ b) ++ c) ++ d) ++ e) ++ f) ++ g = e7 ∙ ap (λ (l : List ℕ). l ++ g) y6 in
    let y8 : x8 ≡ ((((((a ++ b) ++ c) ++ d) ++ e) ++ f) ++ g) ++ h = e8 ∙ ap (λ (l : List ℕ). l ++ h) y7 in
    e9 ∙ ap (λ (l : List ℕ). l ++ i) y8

-- what is read of the front is read of the file
pub read_or : (front text : List ℕ) (result : Result Numbers LookFault) → front ≡ text → IfOk result (λ numbers. front ≡ summary_text numbers) → IfOk result (λ numbers. text ≡ summary_text numbers)
read_or front text (Ok numbers) same is = sym same ∙ is
read_or front text (Err fault) same is = tt

pub has_at : (all : Texts) (names : List (Bor (List ℕ))) (i : ℕ) (d : Bor (List ℕ)) (sum one both : Numbers) → i < length names
    → HasSum all (take i names) sum → IsSummary all (get_or names i d).now one → IsBoth sum one both → HasSum all (take (i + 1) names) both
has_at all names i d sum one both below has summary adds =
    has_more all names i (get_or names i d) sum one both below (get_or_default names i d (get_or names i d) below) has summary adds

-- the text of a summary is that of its pieces
pub pieces_of : (n : Numbers)
    → summary_text n ≡ (((((((named_count (codes "records ") n.records ++ named_count (codes " values ") n.values) ++ named_count (codes " errors ") n.errors) ++ named_count (codes " stopped ") n.stopped) ++ named_count (codes " out-of-memory ") n.no_memory) ++ named_count (codes " bad ") n.bad) ++ codes " sum ") ++ signed_decimal n.sum) ++ codes "\n"
unfolding summary_text
pieces_of n = refl

-- the sums that a summary can't hold with one part more
pub beyond_at : (all : Texts) (names : List (Bor (List ℕ))) (i : ℕ) (d : Bor (List ℕ)) (sum one : Numbers) → i < length names
    → HasSum all (take i names) sum → IsSummary all (get_or names i d).now one → IsTooLarge sum one → IsBeyondSummary all names i
beyond_at all names i d sum one below has summary large = record {
  parts = has.parts ++ one ∷ [];
  whole = whole_more all names i (get_or names i d) has.parts one below (get_or_default names i d (get_or names i d) below) has.whole summary;
  large = λ both after fits. large both (summed_both has.parts sum one both has.summed after) fits;
}

-- what is said of None
pub of_none : {A : Type 0} (o : Option A) (P : Type 0) → IfNone o P → ((x : A) → o ≡ Some x → ⊥) → P
of_none None P holds none = holds
of_none (Some x) P holds none = absurd (none x refl)

-- a name is written, and then a count behind it
pub counted : {E : Type 0} (r : Result (Unit {0}) E) (old mid new name shown digits : List ℕ) → mid ≡ old ++ name → new ≡ (if is_ok r then mid ++ shown else mid) → shown ≡ digits
    → OnOk r (new ≡ old ++ (name ++ digits))
counted (Ok done) old mid new name shown digits first second same =
    second ∙ (ap (λ (l : List ℕ). l ++ shown) first ∙ (append_assoc old name shown ∙ ap (λ (l : List ℕ). old ++ (name ++ l)) same))
counted (Err fault) old mid new name shown digits first second same = tt

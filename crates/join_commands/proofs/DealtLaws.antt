-- Lines that were dealt in turn, made of the parts that they were dealt to.
use Rattle.std.proofs.Common.{◌≡◌, ℕ, zero, suc, ◌+◌, ◌*◌, ◌<◌, ◌≤◌, List, [], ◌∷◌, ◌++◌, length, Some, refl, sym, ap, ◌∙◌, subst, arith, length-append}
use Rattle.std.specs.Prelude.{slice_get, count_by, cond, Bool}
use Rattle.std.specs.List.{AllZip}
use Rattle.std.proofs.Math.Nat.{suc-mul}
use Rattle.std.proofs.lemmas.List.Sums.{sum_by-append}
use Rattle.std.proofs.lemmas.Option.{slice_get_past, slice_get_within}
use Rattle.part_lines.specs.declared.tally.Tally.{Tally}
use Rattle.part_lines.specs.Tallies.{Tallies, says_value, says_no_memory}
use Rattle.part_lines.specs.Streams.{AreDealt, in_order}

abbrev pub Lines : Type 0
Lines = List (List ℕ)

-- the first lines of parts, and what is left behind them
abbrev heads : List Lines → Lines
heads [] = []
heads ([] ∷ parts) = heads parts
heads ((line ∷ said) ∷ parts) = line ∷ heads parts

abbrev tails : List Lines → List Lines
tails [] = []
tails ([] ∷ parts) = [] ∷ tails parts
tails ((line ∷ said) ∷ parts) = said ∷ tails parts

-- lines dealt in so many full rounds, and one more
abbrev pub dealt : ℕ → List Lines → Lines
dealt zero parts = heads parts
dealt (suc rounds) parts = heads parts ++ dealt rounds (tails parts)

-- each part has so many lines, and the first ones one more
abbrev pub Level : ℕ → ℕ → List Lines → Type 0
Level rounds more [] = Unit {0}
Level rounds zero (part ∷ parts) = (length part ≡ rounds) × Level rounds zero parts
Level rounds (suc more) (part ∷ parts) = (length part ≡ rounds + 1) × Level rounds more parts

pub level_of : (rounds more : ℕ) (tallies : List Tally) (parts : List Lines)
    → ((at : ℕ) (tally : Tally) → slice_get tallies at ≡ Some tally → (at < more → tally.lines ≡ rounds + 1) × (more ≤ at → tally.lines ≡ rounds))
    → AllZip Tallies tallies parts → Level rounds more parts
level_of rounds more [] [] each zip = tt
level_of rounds more [] (part ∷ parts) each zip = absurd zip
level_of rounds more (tally ∷ tallies) [] each zip = absurd zip
level_of rounds zero (tally ∷ tallies) (part ∷ parts) each zip =
    let first : tally.lines ≡ rounds = (each 0 tally refl).1 (omega arith) in
    (sym zip.0.lines ∙ first, level_of rounds zero tallies parts (λ at one is. (λ below. absurd (omega (arith, below)), λ past. (each (suc at) one is).1 (omega arith))) zip.1)
level_of rounds (suc more) (tally ∷ tallies) (part ∷ parts) each zip =
    let first : tally.lines ≡ rounds + 1 = (each 0 tally refl).0 (omega arith) in
    (sym zip.0.lines ∙ first, level_of rounds more tallies parts (λ at one is. (λ below. (each (suc at) one is).0 (omega (arith, below)), λ past. (each (suc at) one is).1 (omega (arith, past)))) zip.1)

-- what is got of two lists one behind the other
got_left : (xs ys : Lines) (i : ℕ) → i < length xs → slice_get (xs ++ ys) i ≡ slice_get xs i
got_left [] ys i below = absurd (omega (arith, below))
got_left (x ∷ xs) ys zero below = refl
got_left (x ∷ xs) ys (suc i) below = got_left xs ys i (omega (arith, below))

got_right : (xs ys : Lines) (i k : ℕ) → i ≡ length xs + k → slice_get (xs ++ ys) i ≡ slice_get ys k
got_right [] ys i k is = ap (slice_get ys) (let e : i ≡ k = omega (arith, is) in e)
got_right (x ∷ xs) ys zero k is = absurd (omega (arith, is))
got_right (x ∷ xs) ys (suc i) k is = got_right xs ys i k (omega (arith, is))

-- no part has lines
no_heads : (parts : List Lines) → Level 0 0 parts → heads parts ≡ []
no_heads [] level = refl
no_heads ([] ∷ parts) level = no_heads parts level.1
no_heads ((line ∷ said) ∷ parts) level = absurd (omega (arith, level.0))

-- how many lines a part has at most
longest : (rounds more : ℕ) (parts : List Lines) → Level rounds more parts → (at : ℕ) (said : Lines) → slice_get parts at ≡ Some said → length said ≤ rounds + 1
longest rounds more [] level at said is = cc
longest rounds zero (part ∷ parts) level zero said is = let same : part ≡ said = cc in omega (arith, level.0, ap length same)
longest rounds zero (part ∷ parts) level (suc at) said is = longest rounds zero parts level.1 at said is
longest rounds (suc more) (part ∷ parts) level zero said is = let same : part ≡ said = cc in omega (arith, level.0, ap length same)
longest rounds (suc more) (part ∷ parts) level (suc at) said is = longest rounds more parts level.1 at said is

none_longer : (rounds : ℕ) (parts : List Lines) → Level rounds 0 parts → (at : ℕ) (said : Lines) → slice_get parts at ≡ Some said → length said ≡ rounds
none_longer rounds [] level at said is = cc
none_longer rounds (part ∷ parts) level zero said is = let same : part ≡ said = cc in sym (ap length same) ∙ level.0
none_longer rounds (part ∷ parts) level (suc at) said is = none_longer rounds parts level.1 at said is

-- the first line of each part stands at its place among the first lines
head_at : (rounds more : ℕ) (parts : List Lines) → Level rounds more parts → (at : ℕ) (said : Lines) → slice_get parts at ≡ Some said → slice_get (heads parts) at ≡ slice_get said 0
head_at rounds more [] level at said is = cc
head_at rounds zero ((line ∷ rest) ∷ parts) level zero said is = let same : line ∷ rest ≡ said = cc in ap (λ (l : Lines). slice_get l 0) same
head_at rounds zero ((line ∷ rest) ∷ parts) level (suc at) said is = head_at rounds zero parts level.1 at said is
head_at rounds (suc more) ((line ∷ rest) ∷ parts) level zero said is = let same : line ∷ rest ≡ said = cc in ap (λ (l : Lines). slice_get l 0) same
head_at rounds (suc more) ((line ∷ rest) ∷ parts) level (suc at) said is = head_at rounds more parts level.1 at said is
head_at rounds (suc more) ([] ∷ parts) level at said is = absurd (omega (arith, level.0))
head_at rounds zero ([] ∷ parts) level at said is =
    let none : 0 ≡ rounds = level.0 in
    let all : Level 0 0 ([] ∷ parts) = subst (λ n. Level n 0 ([] ∷ parts)) (sym none) level in
    ap (λ (l : Lines). slice_get l at) (no_heads ([] ∷ parts) all)
    ∙ sym (slice_get_past said 0 (omega (arith, none_longer 0 ([] ∷ parts) all at said is)))

heads_few : (parts : List Lines) → length (heads parts) ≤ length parts
heads_few [] = omega arith
heads_few ([] ∷ parts) = omega (arith, heads_few parts)
heads_few ((line ∷ said) ∷ parts) = omega (arith, heads_few parts)

heads_all : (rounds more : ℕ) (parts : List Lines) → Level (suc rounds) more parts → length (heads parts) ≡ length parts
heads_all rounds more [] level = refl
heads_all rounds zero ([] ∷ parts) level = absurd (omega (arith, level.0))
heads_all rounds (suc more) ([] ∷ parts) level = absurd (omega (arith, level.0))
heads_all rounds zero ((line ∷ said) ∷ parts) level = omega (arith, heads_all rounds zero parts level.1)
heads_all rounds (suc more) ((line ∷ said) ∷ parts) level = omega (arith, heads_all rounds more parts level.1)

tails_level : (rounds more : ℕ) (parts : List Lines) → Level (suc rounds) more parts → Level rounds more (tails parts)
tails_level rounds more [] level = tt
tails_level rounds zero ([] ∷ parts) level = absurd (omega (arith, level.0))
tails_level rounds (suc more) ([] ∷ parts) level = absurd (omega (arith, level.0))
tails_level rounds zero ((line ∷ said) ∷ parts) level = (omega (arith, level.0), tails_level rounds zero parts level.1)
tails_level rounds (suc more) ((line ∷ said) ∷ parts) level = (omega (arith, level.0), tails_level rounds more parts level.1)

tails_long : (parts : List Lines) → length (tails parts) ≡ length parts
tails_long [] = refl
tails_long ([] ∷ parts) = omega (arith, tails_long parts)
tails_long ((line ∷ said) ∷ parts) = omega (arith, tails_long parts)

abbrev tail_of : Lines → Lines
tail_of [] = []
tail_of (line ∷ said) = said

tail_at : (parts : List Lines) (at : ℕ) (said : Lines) → slice_get parts at ≡ Some said → slice_get (tails parts) at ≡ Some (tail_of said)
tail_at [] at said is = cc
tail_at ([] ∷ parts) zero said is = let same : [] ≡ said = cc in ap (λ (l : Lines). Some (tail_of l)) same
tail_at ([] ∷ parts) (suc at) said is = tail_at parts at said is
tail_at ((line ∷ rest) ∷ parts) zero said is = let same : line ∷ rest ≡ said = cc in ap (λ (l : Lines). Some (tail_of l)) same
tail_at ((line ∷ rest) ∷ parts) (suc at) said is = tail_at parts at said is

later_line : (said : Lines) (round : ℕ) → slice_get said (suc round) ≡ slice_get (tail_of said) round
later_line [] round = refl
later_line (line ∷ said) round = refl

-- each line stands at its place
line_at : (rounds more : ℕ) (parts : List Lines) → Level rounds more parts → (at round : ℕ) (said : Lines) → slice_get parts at ≡ Some said
    → slice_get said round ≡ slice_get (dealt rounds parts) (round * length parts + at)
line_at zero more parts level at zero said is =
    let place : at ≡ 0 * length parts + at = omega arith in
    sym (head_at 0 more parts level at said is) ∙ ap (slice_get (heads parts)) place
line_at zero more parts level at (suc round) said is =
    slice_get_past said (suc round) (omega (arith, longest 0 more parts level at said is))
    ∙ sym (slice_get_past (heads parts) (suc round * length parts + at) (omega (arith, heads_few parts, suc-mul round (length parts))))
line_at (suc rounds) more parts level at zero said is =
    let place : at ≡ 0 * length parts + at = omega arith in
    let within : at < length (heads parts) = omega (arith, slice_get_within parts at said is, heads_all rounds more parts level) in
    sym (head_at (suc rounds) more parts level at said is) ∙ (sym (got_left (heads parts) (dealt rounds (tails parts)) at within)
    ∙ ap (slice_get (heads parts ++ dealt rounds (tails parts))) place)
line_at (suc rounds) more parts level at (suc round) said is =
    let place : suc round * length parts + at ≡ length (heads parts) + (round * length parts + at) = omega (arith, heads_all rounds more parts level, suc-mul round (length parts)) in
    later_line said round ∙ (line_at rounds more (tails parts) (tails_level rounds more parts level) at round (tail_of said) (tail_at parts at said is)
    ∙ (ap (λ n. slice_get (dealt rounds (tails parts)) (round * n + at)) (tails_long parts)
    ∙ sym (got_right (heads parts) (dealt rounds (tails parts)) (suc round * length parts + at) (round * length parts + at) place)))

pub are_dealt : (rounds more : ℕ) (parts : List Lines) → Level rounds more parts → AreDealt parts (dealt rounds parts)
are_dealt rounds more parts level = record { each = λ at round said is. line_at rounds more parts level at round said is }

-- what is counted of lines is counted of them in any order
module _ (count : Lines → ℕ) (adds : (xs ys : Lines) → count (xs ++ ys) ≡ count xs + count ys) where
  none : count [] ≡ 0
  none = omega (arith, adds [] [])

  split : (parts : List Lines) → count (heads parts) + count (in_order (tails parts)) ≡ count (in_order parts)
  split [] = omega (arith, none)
  split ([] ∷ parts) = split parts
  split ((line ∷ said) ∷ parts) =
      omega (arith, adds (line ∷ []) (heads parts), adds said (in_order (tails parts)), adds (line ∷ said) (in_order parts), adds (line ∷ []) said, split parts)

  one_round : (more : ℕ) (parts : List Lines) → Level 0 more parts → heads parts ≡ in_order parts
  one_round more [] level = refl
  one_round zero ([] ∷ parts) level = one_round zero parts level.1
  one_round (suc more) ([] ∷ parts) level = one_round more parts level.1
  one_round zero ((line ∷ said) ∷ parts) level = absurd (omega (arith, level.0))
  one_round (suc more) ((line ∷ []) ∷ parts) level = ap (λ (l : Lines). line ∷ l) (one_round more parts level.1)
  one_round (suc more) ((line ∷ next ∷ said) ∷ parts) level = absurd (omega (arith, level.0))

  counted : (rounds more : ℕ) (parts : List Lines) → Level rounds more parts → count (dealt rounds parts) ≡ count (in_order parts)
  counted zero more parts level = ap count (one_round more parts level)
  counted (suc rounds) more parts level =
      omega (arith, adds (heads parts) (dealt rounds (tails parts)), counted rounds more (tails parts) (tails_level rounds more parts level), split parts)

count_append : (p : List ℕ → Bool) (xs ys : Lines) → count_by p (xs ++ ys) ≡ count_by p xs + count_by p ys
count_append p xs ys = sum_by-append (λ x. cond (p x) 1 0) xs ys

-- a tally of lines is one of them as they were dealt
pub tallies_dealt : (tally : Tally) (rounds more : ℕ) (parts : List Lines) → Level rounds more parts → Tallies tally (in_order parts) → Tallies tally (dealt rounds parts)
tallies_dealt tally rounds more parts level tallied = record {
  lines = tallied.lines ∙ sym (counted length length-append rounds more parts level);
  values = tallied.values ∙ sym (counted (count_by says_value) (count_append says_value) rounds more parts level);
  no_memory = tallied.no_memory ∙ sym (counted (count_by says_no_memory) (count_append says_no_memory) rounds more parts level);
}

-- The laws of the records of a byte list, as it grows, and of the bytes that pass a limit.
use Rattle.std.proofs.Common.{◌≡◌, ◌≢◌, ℕ, ◌+◌, ◌<◌, ◌≤◌, ◌⊎◌, List, [], ◌∷◌, ◌++◌, length, map, refl, sym, ap, ◌∙◌, subst, inl, inr, arith, append_assoc, length-append}
use Rattle.std.proofs.lemmas.Bool.{cases_eq}
use Rattle.record_lines.specs.declared.ending.End.TheVariants.{Ended, Limit}
use Rattle.record_lines.specs.declared.limits.TheConstants.{LINE_FEED, MOST_RECORDS, MOST_BYTES}
use Rattle.record_lines.specs.Lines.{Cut, cut, line_feed_before, byte_before, whole_lines, rest_of, without_cr}
use Rattle.record_lines.specs.Records.{last_line, records_of, HasByteAfterMost, IsBeyond}
use Rattle.record_lines.proofs.CutLaws.{cut-line_feed, cut-byte}
use Rattle.record_lines.proofs.LineLaws.{whole_lines-append, rest_of-append}
use Rattle.record_lines.proofs.LimitLaws.{limited_lines-within, limited_lines-full}

-- a rest of no byte is no line, and any other is one
pub last_line-none : (rest : List ℕ) → rest ≡ [] → last_line rest ≡ []
unfolding last_line
last_line-none rest h = ap last_line h

pub last_line-some : (rest : List ℕ) → rest ≢ [] → last_line rest ≡ without_cr rest ∷ []
unfolding last_line
last_line-some [] h = absurd (h refl)
last_line-some (b ∷ rest) h = refl

-- the records of a stream that ended begin with the whole lines of its front
pub records_of-append : (a b : List ℕ) → records_of (a ++ b) Ended ≡ whole_lines a ++ records_of (rest_of a ++ b) Ended
records_of-append a b =
    ap (λ lines. lines ++ last_line (rest_of (a ++ b))) (whole_lines-append a b)
    ∙ append_assoc (whole_lines a) (whole_lines (rest_of a ++ b)) (last_line (rest_of (a ++ b)))
    ∙ ap (λ rest. whole_lines a ++ (whole_lines (rest_of a ++ b) ++ last_line rest)) (rest_of-append a b)

-- how many records a stream has that ends with this cut
records_count : Cut → ℕ
records_count c = length (map without_cr c.ended ++ last_line c.rest)

records_count-line_feed : (c : Cut) → 0 < records_count (line_feed_before c)
unfolding records_count line_feed_before
records_count-line_feed c = omega arith

records_count-byte : (b : ℕ) (ended : List (List ℕ)) (rest : List ℕ) → 0 < records_count (byte_before b ended rest)
unfolding records_count byte_before last_line
records_count-byte b [] rest = omega arith
records_count-byte b (line ∷ lines) rest = omega arith

records_count-some : (b : ℕ) (bytes : List ℕ) → 0 < records_count (cut (b ∷ bytes))
records_count-some b bytes =
    let P : Cut → Type 0 = λ c. 0 < records_count c in
    elim (cases_eq b LINE_FEED) [
      | inl e ↦
          let Q : ℕ → Type 0 = λ y. 0 < records_count (cut (y ∷ bytes)) in
          subst Q (sym e) (subst P (sym (cut-line_feed bytes)) (records_count-line_feed (cut bytes)))
      | inr h ↦ subst P (sym (cut-byte b bytes h)) (records_count-byte b (cut bytes).ended (cut bytes).rest)
    ]

-- a stream of at least one byte has a record where it ends
records_of-some : (b : ℕ) (bytes : List ℕ) → 0 < length (records_of (b ∷ bytes) Ended)
unfolding records_count whole_lines rest_of
records_of-some b bytes = records_count-some b bytes

-- so it has more records than a front of it has lines
records_of-longer : (front : List ℕ) (b : ℕ) (more : List ℕ) → length (whole_lines front) < length (records_of (front ++ b ∷ more) Ended)
records_of-longer front b more =
    let split = ap length (records_of-append front (b ∷ more)) in
    let some = records_of-some' (rest_of front) b more in
    omega (arith, split, some, length-append (whole_lines front) (records_of (rest_of front ++ b ∷ more) Ended))
  where
    records_of-some' : (rest : List ℕ) (b : ℕ) (more : List ℕ) → 0 < length (records_of (rest ++ b ∷ more) Ended)
    records_of-some' [] b more = records_of-some b more
    records_of-some' (x ∷ rest) b more = records_of-some x (rest ++ b ∷ more)

-- the last line is one at most
last_line-count : (rest : List ℕ) → length (last_line rest) ≤ 1
unfolding last_line
last_line-count [] = omega arith
last_line-count (b ∷ rest) = omega arith

records_of-count : (bytes : List ℕ) → length (records_of bytes Ended) ≤ length (whole_lines bytes) + 1
records_of-count bytes =
    omega (arith, length-append (whole_lines bytes) (last_line (rest_of bytes)), last_line-count (rest_of bytes))

-- a list of at least one element, by its last
last_of : (x : ℕ) (xs : List ℕ) → (front : List ℕ) × (last : ℕ) × (x ∷ xs ≡ front ++ last ∷ [])
last_of x [] = ([], x, refl)
last_of x (y ∷ ys) = let found = last_of y ys in (x ∷ found.0, found.1, ap (λ zs. x ∷ zs) found.2)

pub count_from_HasByteAfterMost : (bytes : List ℕ) → HasByteAfterMost bytes → MOST_RECORDS < length (records_of bytes Ended)
count_from_HasByteAfterMost bytes h =
    omega (arith, h.full, ap (λ bytes. length (records_of bytes Ended)) h.split, records_of-longer h.front h.byte h.more)

-- bytes pass a limit where one stands after the most whole lines
pub IsBeyond-byte_after : (front : List ℕ) (b : ℕ) (more : List ℕ) → MOST_RECORDS ≤ length (whole_lines front) → IsBeyond (front ++ b ∷ more)
IsBeyond-byte_after front b more count = inr (record { front = front; byte = b; more = more; split = refl; full = count })

-- a limit that is passed stays so
pub IsBeyond-append : (a b : List ℕ) → IsBeyond a → IsBeyond (a ++ b)
IsBeyond-append a b (inl size) = inl (omega (arith, length-append a b))
IsBeyond-append a b (inr h) = inr (record {
  front = h.front;
  byte = h.byte;
  more = h.more ++ b;
  split = ap (λ bytes. bytes ++ b) h.split ∙ append_assoc h.front (h.byte ∷ h.more) b;
  full = h.full;
})

-- no limit is passed where the bytes and the lines are within them, and no byte stands after the most lines
pub IsBeyond-none : (bytes : List ℕ) → length bytes ≤ MOST_BYTES
    → (length (whole_lines bytes) < MOST_RECORDS) ⊎ ((length (whole_lines bytes) ≤ MOST_RECORDS) × (rest_of bytes ≡ []))
    → IsBeyond bytes → ⊥
IsBeyond-none bytes size lines (inl over) = omega arith
IsBeyond-none bytes size (inl fewer) (inr h) = omega (arith, count_from_HasByteAfterMost bytes h, records_of-count bytes)
IsBeyond-none bytes size (inr full) (inr h) =
    let none = ap length (last_line-none (rest_of bytes) full.1) in
    omega (
      arith,
      full.0,
      none,
      count_from_HasByteAfterMost bytes h,
      length-append (whole_lines bytes) (last_line (rest_of bytes)),
    )

-- a limit that is passed was reached
pub full_from_IsBeyond : (bytes : List ℕ) → IsBeyond bytes → (MOST_BYTES ≤ length bytes) ⊎ (MOST_RECORDS ≤ length (whole_lines bytes))
full_from_IsBeyond bytes (inl size) = inl (omega arith)
full_from_IsBeyond bytes (inr h) = inr (omega (arith, count_from_HasByteAfterMost bytes h, records_of-count bytes))

-- a byte after bytes that reach a limit passes it, and the records are the lines until then
pub limit_passed : (a : List ℕ) (b : ℕ) (more : List ℕ) → length a ≤ MOST_BYTES → length (whole_lines a) ≤ MOST_RECORDS
    → (MOST_BYTES ≤ length a) ⊎ (MOST_RECORDS ≤ length (whole_lines a))
    → IsBeyond (a ++ b ∷ more) × (records_of (a ++ b ∷ more) Limit ≡ whole_lines a)
limit_passed a b more size count full = (
  (elim full as (λ _. IsBeyond (a ++ b ∷ more)) [
    | inl bytes ↦ inl (omega (arith, length-append a (b ∷ more)))
    | inr lines ↦ IsBeyond-byte_after a b more lines
  ]),
  limited_lines-full a (b ∷ more) full ∙ limited_lines-within a size count,
)

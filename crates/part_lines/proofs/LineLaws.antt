-- The line that bytes begin with is one, and its words are.
use Rattle.std.proofs.Common.{◌≡◌, ◌≢◌, ℕ, ◌+◌, ◌-◌, ◌^◌, ◌≤◌, ◌<◌, List, [], ◌∷◌, ◌++◌, length, take, drop, decimal, Option, Some, None, IsSome, refl, sym, ap, ◌∙◌, subst, append_assoc, append-nil, zero-le, arith, length-append, length-take}
use Rattle.std.specs.Str.Parse.{AllDigits}
use Rattle.std.proofs.lemmas.Fmt.{decimal_is_IsNumeral, length-decimal-le}
use Rattle.std.proofs.lemmas.List.Elements.{All-head, All-tail, All-nil, All-cons, All-append}
use Rattle.std.proofs.lemmas.Str.Parse.{digit_from_value}
use Rattle.exec_value.specs.Bytes.{blank, line_feed}
use Rattle.record_lines.specs.declared.limits.TheConstants.{LINE_FEED}
use Rattle.record_lines.specs.Lines.{HasNoLineFeed}
use Rattle.part_lines.specs.declared.limits.TheConstants.{MOST_WORDS, MOST_LINES, MOST_HELD}
use Rattle.part_lines.specs.declared.line.Said.{Said}
use Rattle.part_lines.specs.declared.sort.Sort.{Sort}
use Rattle.part_lines.specs.Lines.{numbered_line, BeginsLine, LineEndsAt, Shows}
use Rattle.part_lines.specs.Sorts.{sort_of}

abbrev pub NoFeed : ℕ → Type 0
NoFeed b = b ≢ LINE_FEED

-- bytes are cut at their first line feed in one way
pub cut_once : (a b u v : List ℕ) → HasNoLineFeed a → HasNoLineFeed b → a ++ line_feed ∷ u ≡ b ++ line_feed ∷ v → a ≡ b
cut_once [] [] u v fa fb e = refl
cut_once [] (y ∷ b) u v fa fb e = let same : y ≡ line_feed = cc in absurd (All-head NoFeed y b fb same)
cut_once (x ∷ a) [] u v fa fb e = let same : x ≡ line_feed = cc in absurd (All-head NoFeed x a fa same)
cut_once (x ∷ a) (y ∷ b) u v fa fb e =
    let head : x ≡ y = cc in
    let tail : a ++ line_feed ∷ u ≡ b ++ line_feed ∷ v = cc in
    let rest : a ≡ b = cut_once a b u v (All-tail NoFeed x a fa) (All-tail NoFeed y b fb) tail in
    cc

-- bytes without a line feed end before the first one
pub long_before : (a w b v : List ℕ) → HasNoLineFeed a → a ++ w ≡ b ++ line_feed ∷ v → length a ≤ length b
long_before [] w b v free e = zero-le
long_before (x ∷ a) w [] v free e = let same : x ≡ line_feed = cc in absurd (All-head NoFeed x a free same)
long_before (x ∷ a) w (y ∷ b) v free e =
    let tail : a ++ w ≡ b ++ line_feed ∷ v = cc in
    let rest : length a ≤ length b = long_before a w b v (All-tail NoFeed x a free) tail in
    omega arith

-- bytes with a line feed aren't without one
pub has_line_feed : (a b v : List ℕ) → HasNoLineFeed a → a ≡ b ++ line_feed ∷ v → ⊥
has_line_feed a b v free e =
    let before : length a ≤ length b = long_before a [] b v free (append-nil a ∙ e) in
    omega (arith, ap length e, length-append b (line_feed ∷ v))

pub digits_free : (ds : List ℕ) → AllDigits 10 ds → HasNoLineFeed ds
digits_free [] digits = All-nil NoFeed
digits_free (d ∷ ds) digits =
    let high : 48 ≤ d = (digit_from_value d digits.0).0 in
    All-cons NoFeed d ds (λ e. absurd (omega (arith, high, e))) (digits_free ds digits.1)

-- what stands behind bytes has no line feed where they have none together
free_behind : (a b : List ℕ) → HasNoLineFeed (a ++ b) → HasNoLineFeed b
free_behind [] b free = free
free_behind (x ∷ a) b free = free_behind a b (All-tail NoFeed x (a ++ b) free)

-- a number, a blank and words have none
pub head_free : (number : ℕ) (words : List ℕ) → number ≤ MOST_LINES → HasNoLineFeed words → HasNoLineFeed (decimal number ++ blank ∷ words)
head_free number words few free =
    let small : number < 2 ^ 64 = omega arith in
    let other : blank ≢ LINE_FEED = (λ e. absurd (omega (arith, e))) in
    All-append NoFeed (decimal number) (blank ∷ words) (digits_free (decimal number) (decimal_is_IsNumeral number small).0.1) (All-cons NoFeed blank words other free)

pub line_is : (number : ℕ) (words more : List ℕ) → numbered_line number words ++ more ≡ (decimal number ++ blank ∷ words) ++ line_feed ∷ more
line_is number words more = append_assoc (decimal number ++ blank ∷ words) (line_feed ∷ []) more

pub cancel : (p u v : List ℕ) → p ++ u ≡ p ++ v → u ≡ v
cancel [] u v e = e
cancel (x ∷ p) u v e = cancel p u v cc

pub same_words : (number : ℕ) (a b : List ℕ) → decimal number ++ blank ∷ a ≡ decimal number ++ blank ∷ b → a ≡ b
same_words number a b e = let tail : blank ∷ a ≡ blank ∷ b = cancel (decimal number) (blank ∷ a) (blank ∷ b) e in cc

module _ (number : ℕ) (line digits : List ℕ) (digits_are : digits ≡ decimal number) where
  of_digits : (words : List ℕ) → line ≡ decimal number ++ blank ∷ words → line ≡ digits ++ blank ∷ words
  of_digits words e = e ∙ ap (λ (l : List ℕ). l ++ blank ∷ words) (sym digits_are)

  -- a line that doesn't begin with the digits of a number
  pub other_digits : ((rest : List ℕ) → line ≢ digits ++ rest) → (words : List ℕ) → line ≢ decimal number ++ blank ∷ words
  other_digits none words e = none (blank ∷ words) (of_digits words e)

  module _ (rest : List ℕ) (begun : line ≡ digits ++ rest) where
    -- a line in which no blank stands behind them
    pub no_blank : ((words : List ℕ) → rest ≢ blank ∷ words) → (words : List ℕ) → line ≢ decimal number ++ blank ∷ words
    no_blank none words e = none words (cancel digits rest (blank ∷ words) (sym begun ∙ of_digits words e))

    -- a line in which one does
    pub blank_behind : (words : List ℕ) → rest ≡ blank ∷ words → line ≡ decimal number ++ blank ∷ words
    blank_behind words e =
        begun ∙ ap (λ (l : List ℕ). digits ++ l) e ∙ ap (λ (l : List ℕ). l ++ blank ∷ words) digits_are

module _ (bytes : List ℕ) (end number : ℕ) (ends : LineEndsAt bytes end) (few : number ≤ MOST_LINES) where
  -- the bytes before the first line feed are those of the line that they begin with
  line_begun : (begins : BeginsLine number bytes) → take end bytes ≡ decimal number ++ blank ∷ begins.words
  line_begun begins =
      cut_once (take end bytes) (decimal number ++ blank ∷ begins.words) (drop (end + 1) bytes) begins.more ends.free
      (head_free number begins.words few begins.are.free)
      (sym ends.whole ∙ begins.bytes_are ∙ line_is number begins.words begins.more)

  -- they have no words
  pub no_words : ((words : List ℕ) → take end bytes ≢ decimal number ++ blank ∷ words) → ¬ BeginsLine number bytes
  no_words none = λ begins. none begins.words (line_begun begins)

  -- they have these words
  module _ (words : List ℕ) (line : take end bytes ≡ decimal number ++ blank ∷ words) where
    same : (begins : BeginsLine number bytes) → begins.words ≡ words
    same begins = same_words number begins.words words (sym (line_begun begins) ∙ line)

    -- which are too many
    pub too_long : MOST_WORDS < length words → ¬ BeginsLine number bytes
    too_long long = λ begins. omega (arith, long, begins.are.short, ap length (same begins))

    -- which are of no sort
    pub no_sort : sort_of words ≡ None → ¬ BeginsLine number bytes
    no_sort none = λ begins. of_sort (sort_of begins.words) begins.are.sort (ap sort_of (same begins) ∙ none)
      where
        of_sort : (sort : Option Sort) → IsSome sort → sort ≡ None → ⊥
        of_sort None some e = cc
        of_sort (Some s) some e = cc

    lengths : end ≡ length (decimal number) + (length words + 1)
    lengths =
        omega (arith, ends.within, length-take end bytes, ap length line, length-append (decimal number) (blank ∷ words))

    -- which are of this sort
    pub shows : (said : Said) → length words ≤ MOST_WORDS → sort_of words ≡ Some said.sort
        → said.head ≡ end - length words - 1 → said.length ≡ end + 1 → Shows bytes number said words
    shows said short sort_is head_is length_is = record {
      more = drop (end + 1) bytes;
      are = record {
        sort = subst IsSome (sym sort_is) refl;
        free = free_behind (blank ∷ []) words (free_behind (decimal number) (blank ∷ words) (subst HasNoLineFeed line ends.free));
        short = short;
      };
      bytes_are =
          ends.whole ∙ ap (λ l. l ++ line_feed ∷ drop (end + 1) bytes) line
          ∙ sym (line_is number words (drop (end + 1) bytes));
      head = omega (arith, head_is, lengths);
      length_is = omega (arith, length_is, lengths, length-append (decimal number ++ blank ∷ words) (line_feed ∷ []), length-append (decimal number) (blank ∷ words));
      sort_is = sort_is;
      few = few;
    }

-- bytes without a line feed that are as many as are held are the front of no line
pub too_long_held : (number : ℕ) (held left : List ℕ) → HasNoLineFeed held → MOST_HELD ≤ length held → ¬ BeginsLine number (held ++ left)
too_long_held number held left free long = λ begins.
    let small : number < 2 ^ 64 = omega (arith, begins.few) in
    let before = long_before held left (decimal number ++ blank ∷ begins.words) begins.more free (begins.bytes_are ∙ line_is number begins.words begins.more) in
    let short : number < 10 ^ 20 = omega (arith, begins.few) in
    omega (arith, before, begins.are.short, length-append (decimal number) (blank ∷ begins.words), length-decimal-le 20 number (omega arith) short small)

-- bytes without a line feed begin with no line
pub no_line_feed : (number : ℕ) (bytes : List ℕ) → HasNoLineFeed bytes → ¬ BeginsLine number bytes
no_line_feed number bytes free = λ begins.
    has_line_feed bytes (decimal number ++ blank ∷ begins.words) begins.more free (begins.bytes_are ∙ line_is number begins.words begins.more)

-- there is no line of a number that is too large
pub too_many : (number : ℕ) (bytes : List ℕ) → MOST_LINES < number → ¬ BeginsLine number bytes
too_many number bytes many = λ begins. omega (arith, many, begins.few)

-- what begins with a line, and more behind it, begins with it without that
pub begins_before : (at_hand more : List ℕ) (end number : ℕ) → LineEndsAt at_hand end → BeginsLine number (at_hand ++ more) → BeginsLine number at_hand
begins_before at_hand more end number ends begins =
    let front : List ℕ = take end at_hand in
    let rest : List ℕ = drop (end + 1) at_hand in
    let whole : at_hand ++ more ≡ front ++ line_feed ∷ (rest ++ more) = ap (λ (l : List ℕ). l ++ more) ends.whole ∙ append_assoc front (line_feed ∷ rest) more in
    let line : front ≡ decimal number ++ blank ∷ begins.words =
    cut_once front (decimal number ++ blank ∷ begins.words) (rest ++ more) begins.more ends.free
    (head_free number begins.words begins.few begins.are.free)
    (sym whole ∙ begins.bytes_are ∙ line_is number begins.words begins.more) in
    record {
      words = begins.words;
      more = rest;
      are = begins.are;
      bytes_are = ends.whole ∙ ap (λ (l : List ℕ). l ++ line_feed ∷ rest) line ∙ sym (line_is number begins.words rest);
      few = begins.few;
    }

-- Generated records: their lines, their bytes, and what is left of them.
use Rattle.std.proofs.Common.{◌≡◌, ◌≢◌, ℕ, zero, suc, ◌+◌, ◌-◌, ◌*◌, ◌%◌, ◌^◌, ◌<◌, ◌≤◌, ◌==◌, min, Bool, true, false, if◌then◌else◌, List, [], ◌∷◌, ◌++◌, length, take, drop, get_or, slice_index, decimal, codes, All, refl, sym, ap, ◌∙◌, inl, inr, add-one, append_assoc, append-nil, length-append, length-take, take-append-drop, arith}
use borrow.Rule.Slice.PartMut.{put_mid}
use Rattle.std.proofs.Math.Seq.{take-append-add}
use Rattle.std.proofs.lemmas.Bool.{eqb-true, cases_lt}
use Rattle.std.proofs.lemmas.Fmt.{decimal_by_steps, decimal_nonempty, length-decimal-le}
use Rattle.std.proofs.lemmas.Grind.{flat_map-append}
use Rattle.std.proofs.lemmas.List.{get_or_push, get_or_append_left, drop_more, drop_all, nil_from_length, take-append-le, length-take-le, take_at}
use Rattle.std.proofs.lemmas.List.Elements.{All-nil, All-cons, All-append, All-get_or, All-weaker}
use Rattle.exec_value.specs.declared.kinds.Kind.{Kind}
use Rattle.exec_value.specs.declared.kinds.Kind.TheVariants.{Int, Text, Row, MaybeInt, MaybeText}
use Rattle.record_lines.specs.declared.ending.End.TheVariants.{Ended}
use Rattle.record_lines.specs.declared.limits.TheConstants.{LINE_FEED, CARRIAGE_RETURN, MOST_RECORDS}
use Rattle.record_lines.specs.Lines.{whole_lines, rest_of, without_cr, HasNoLineFeed}
use Rattle.record_lines.specs.Records.{records_of, IsBeyond}
use Rattle.record_lines.proofs.LineLaws.{whole_lines-nil, rest_of-nil, whole_lines-line, rest_of-line}
use Rattle.record_lines.proofs.RecordLaws.{last_line-none, IsBeyond-none}
use Rattle.record_loop.specs.Generated.{generated, shown_as, generated_lines, ended_lines, generated_text, text_after}

-- a byte that ends no line and is no carriage return
abbrev IsPlain : ℕ → Type 0
IsPlain b = 13 < b

digits-plain : (n : ℕ) → n < 2 ^ 64 → All IsPlain (decimal n)
digits-plain = decimal_by_steps (λ m ds. All IsPlain ds)
    (λ m less. All-cons IsPlain (48 + m) [] (omega arith) (All-nil IsPlain))
    (λ m ds more all. All-append IsPlain ds ((48 + m % 10) ∷ []) all (All-cons IsPlain (48 + m % 10) [] (omega arith) (All-nil IsPlain)))

-- a line that shows a number
record Shown (line : List ℕ) : Type 0 where
  plain : All IsPlain line
  some : 0 < length line
  short : length line ≤ 12

decimal-shown : (n : ℕ) → n < 100003 → Shown (decimal n)
decimal-shown n less = record {
  plain = digits-plain n (omega arith);
  some = decimal_nonempty n (omega arith);
  short = omega (arith, length-decimal-le 6 n (omega arith) (omega arith) (omega arith));
}

row-shown : (n : ℕ) → n < 100003 → Shown (codes "[" ++ decimal n ++ codes "]")
row-shown n less =
    let digits = decimal-shown n less in
    let size = length-append (codes "[") (decimal n ++ codes "]") in
    let tail = length-append (decimal n) (codes "]") in
    let few = length-decimal-le 6 n (omega arith) (omega arith) (omega arith) in
    record {
      plain = All-append IsPlain (codes "[") (decimal n ++ codes "]") (All-cons IsPlain 91 [] (omega arith) (All-nil IsPlain))
          (All-append IsPlain (decimal n) (codes "]") digits.plain (All-cons IsPlain 93 [] (omega arith) (All-nil IsPlain)));
      some = omega (arith, size);
      short = omega (arith, size, tail, few);
    }

number-shown : (kind : Kind) (n : ℕ) → n < 100003 → Shown (shown_as kind n)
number-shown Row n less = row-shown n less
number-shown Int n less = decimal-shown n less
number-shown Text n less = decimal-shown n less
number-shown MaybeInt n less = decimal-shown n less
number-shown MaybeText n less = decimal-shown n less

line-shown : (kind : Kind) (i : ℕ) → Shown (shown_as kind (generated i))
line-shown kind i = number-shown kind (generated i) (omega arith)

-- it has no line feed, and no carriage return at its end
no-feed : {line : List ℕ} → Shown line → HasNoLineFeed line
no-feed {line = line} is = All-weaker IsPlain (λ b. b ≢ LINE_FEED) (λ b plain e. omega (arith, plain, e)) line is.plain

no-return : {line : List ℕ} → Shown line → without_cr line ≡ line
unfolding without_cr
no-return {line = line} is = by (slice_index line (length line - 1) == CARRIAGE_RETURN) refl
  where
    last : 13 < slice_index line (length line - 1)
    last = All-get_or IsPlain line (length line - 1) 0 (omega (arith, is.some)) is.plain

    by : (b : Bool) → (slice_index line (length line - 1) == CARRIAGE_RETURN) ≡ b → (if b then take (length line - 1) line else line) ≡ line
    by true e = absurd (omega (arith, last, eqb-true (slice_index line (length line - 1)) CARRIAGE_RETURN e))
    by false e = refl

-- one more is generated
text-more : (kind : Kind) (n : ℕ) → generated_text kind (suc n) ≡ generated_text kind n ++ (shown_as kind (generated (suc n)) ++ LINE_FEED ∷ [])
text-more kind n =
    let line = shown_as kind (generated (suc n)) in
    flat_map-append (λ (l : List ℕ). l ++ LINE_FEED ∷ []) (generated_lines kind n) (line ∷ [])
    ∙ ap (λ (bytes : List ℕ). generated_text kind n ++ bytes) (append-nil (line ++ LINE_FEED ∷ []))

-- the whole lines of the bytes are the lines, and nothing comes after them
record Cut (kind : Kind) (n : ℕ) : Type 0 where
  lines : whole_lines (generated_text kind n) ≡ generated_lines kind n
  rest : rest_of (generated_text kind n) ≡ []
  count : length (generated_lines kind n) ≡ n
  size : length (generated_text kind n) ≤ n * 13

cut-text : (kind : Kind) (n : ℕ) → Cut kind n
cut-text kind zero = record { lines = whole_lines-nil; rest = rest_of-nil; count = refl; size = omega arith }
cut-text kind (suc n) =
    let before = cut-text kind n in
    let text = generated_text kind n in
    let line = shown_as kind (generated (suc n)) in
    let is = line-shown kind (suc n) in
    record {
      lines =
          ap whole_lines (text-more kind n) ∙ whole_lines-line text line (no-feed is)
          ∙ ap (λ (ls : List (List ℕ)). ls ++ without_cr (rest_of text ++ line) ∷ []) before.lines
          ∙ ap (λ (r : List ℕ). generated_lines kind n ++ without_cr (r ++ line) ∷ []) before.rest
          ∙ ap (λ (l : List ℕ). generated_lines kind n ++ l ∷ []) (no-return is);
      rest = ap rest_of (text-more kind n) ∙ rest_of-line text line (no-feed is);
      count = omega (arith, before.count, length-append (generated_lines kind n) (line ∷ []));
      size = omega (arith, before.size, ap length (text-more kind n), length-append text (line ++ LINE_FEED ∷ []), length-append line (LINE_FEED ∷ []), is.short);
    }

-- the records of the bytes are the generated ones
pub text-lines : (kind : Kind) (count : ℕ) → records_of (generated_text kind count) Ended ≡ generated_lines kind count
text-lines kind count =
    let is = cut-text kind count in
    ap (λ (ls : List (List ℕ)). whole_lines (generated_text kind count) ++ ls) (last_line-none (rest_of (generated_text kind count)) is.rest)
    ∙ append-nil (whole_lines (generated_text kind count)) ∙ is.lines

-- and pass no limit
pub text-within : (kind : Kind) (count : ℕ) → count ≤ MOST_RECORDS → ¬ IsBeyond (generated_text kind count)
text-within kind count few =
    let is = cut-text kind count in
    IsBeyond-none (generated_text kind count) (omega (arith, is.size, few))
    (inr (omega (arith, ap length is.lines, is.count, few), is.rest))

-- the line of a record
line-at : (kind : Kind) (count i : ℕ) → i < count → get_or (generated_lines kind count) i [] ≡ shown_as kind (generated (i + 1))
line-at kind zero i less = absurd (omega (arith, less))
line-at kind (suc n) i less = elim (cases_lt i n) [
  | inl earlier ↦ get_or_append_left (generated_lines kind n) (shown_as kind (generated (suc n)) ∷ []) [] i (omega (arith, earlier, (cut-text kind n).count)) ∙ line-at kind n i earlier
  | inr last ↦
      let is : i ≡ n = omega (arith, less, last) in
      get_or_push (generated_lines kind n) (shown_as kind (generated (suc n))) [] i (omega (arith, is, (cut-text kind n).count))
      ∙ ap (λ (k : ℕ). shown_as kind (generated k)) (ap suc (sym is) ∙ sym (add-one i))
]

-- the next record is shown
pub text-next : (kind : Kind) (count first : ℕ) → first < count → text_after first kind count ≡ (shown_as kind (generated (first + 1)) ++ LINE_FEED ∷ []) ++ text_after (first + 1) kind count
text-next kind count first less =
    ap ended_lines (drop_more (generated_lines kind count) first [] (omega (arith, less, (cut-text kind count).count)))
    ∙ ap (λ (line : List ℕ). (line ++ LINE_FEED ∷ []) ++ text_after (first + 1) kind count) (line-at kind count first less)

-- no record is left
pub text-none : (kind : Kind) (count : ℕ) → text_after count kind count ≡ []
text-none kind count = ap ended_lines (drop_all count (generated_lines kind count) (omega (arith, (cut-text kind count).count)))

-- no byte is left
pub nothing-left : (line : List ℕ) (shown count : ℕ) (kind : Kind) → (length line == 0) ≡ true → shown ≡ count → line ++ text_after shown kind count ≡ []
nothing-left line shown count kind empty all =
    ap (λ (l : List ℕ). l ++ text_after shown kind count) (nil_from_length line (eqb-true (length line) 0 empty)) ∙ ap (λ (n : ℕ). text_after n kind count) all ∙ text-none kind count

-- the next record is shown in place of an empty line
pub shows-next : (line next : List ℕ) (shown count : ℕ) (kind : Kind) → (length line == 0) ≡ true → shown < count → next ≡ shown_as kind (generated (shown + 1)) ++ LINE_FEED ∷ [] → line ++ text_after shown kind count ≡ next ++ text_after (shown + 1) kind count
shows-next line next shown count kind empty less is =
    ap (λ (l : List ℕ). l ++ text_after shown kind count) (nil_from_length line (eqb-true (length line) 0 empty))
    ∙ text-next kind count shown less
    ∙ ap (λ (l : List ℕ). l ++ text_after (shown + 1) kind count) (sym is)

-- the front of a buffer is the next bytes
reads_next : (left buf after : List ℕ) (n : ℕ) → n ≡ min (length left) (length buf) → after ≡ take n left ++ drop n buf → left ≡ take n after ++ drop n left
reads_next left buf after n count is =
    let part : length (take n left) ≡ n = omega (arith, length-take n left, count) in
    sym (take-append-drop n left) ∙ ap (λ l. l ++ drop n left) (sym (ap (take n) is ∙ take_at (take n left) (drop n buf) n part))

-- bytes of the line are given
pub gives : (line left buf after rest : List ℕ) {n : ℕ} → n ≡ min (length line) (length buf) → after ≡ take n line ++ drop n buf → rest ≡ drop n line → line ++ left ≡ take n after ++ (rest ++ left)
gives line left buf after rest {n = n} count bytes is =
    ap (λ (l : List ℕ). l ++ left) (reads_next line buf after n count bytes) ∙ append_assoc (take n after) (drop n line) left
    ∙ ap (λ (l : List ℕ). take n after ++ (l ++ left)) (sym is)

-- a read fills the buffer on
pub fills-on : {whole before : List ℕ} (left buf after : List ℕ) {filled n : ℕ} → filled ≤ length buf → n ≤ length after → whole ≡ take filled buf ++ before → before ≡ take n after ++ left → whole ≡ take (filled + n) (put_mid filled (length buf - filled) buf after) ++ left
fills-on left buf after {filled = filled} {n = n} within few is given =
    is ∙ ap (λ (l : List ℕ). take filled buf ++ l) given ∙ sym (append_assoc (take filled buf) (take n after) left)
    ∙ ap (λ (l : List ℕ). l ++ left) (sym front)
  where
    post : List ℕ
    post = drop (length buf - filled) (drop filled buf)

    size : length (take filled buf) ≡ filled
    size = length-take-le filled buf within

    front : take (filled + n) (take filled buf ++ (after ++ post)) ≡ take filled buf ++ take n after
    front =
        ap (λ (k : ℕ). take (k + n) (take filled buf ++ (after ++ post))) (sym size) ∙ take-append-add (take filled buf) (after ++ post) n
        ∙ ap (λ (l : List ℕ). take filled buf ++ l) (take-append-le n after post few)

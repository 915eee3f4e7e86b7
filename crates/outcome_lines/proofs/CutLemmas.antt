-- What stands in front of a line's rest is read back from the bytes: numbers, texts and rows.
use Rattle.std.proofs.Common.{◌≡◌, ◌≢◌, ℕ, suc, ◌/◌, ◌%◌, ◌^◌, ◌<◌, true, false, ◌||◌, eqb, List, [], ◌∷◌, ◌++◌, drop, get_or, codes, ℤ, pos, negsuc, inl, inr, refl, sym, ap, subst, ◌∙◌, append_assoc, arith}
use Rattle.std.specs.Char.{is_ascii_control}
use Rattle.std.specs.Fmt.{decimal, signed_decimal, digit_glyph}
use Rattle.std.specs.Int.{IsInRange}
use Rattle.std.specs.List.{flat_map}
use Rattle.std.specs.Str.Parse.{AllDigits, IsNumeral}
use Rattle.std.proofs.lemmas.Bool.{cond-true, cond-false, cases_Bool, or_cases, not-false, false≢true, eqb-true}
use Rattle.std.proofs.lemmas.Bool.Decides.{nat_tests}
use Rattle.std.proofs.lemmas.Fmt.{decimal_is_IsNumeral, decimal_injective}
use Rattle.std.proofs.lemmas.List.Elements.{All-head, All-tail}
use Rattle.std.proofs.lemmas.Str.Parse.{digit_from_value}
use Rattle.std.specs.Prelude.{◌⊎◌, All}
use Rattle.exec_value.specs.Bytes.{quote, comma, backslash}
use Rattle.outcome_lines.specs.Line.{is_plain, escape_of, escaped, hex_digits, quoted, row_text}
use Rattle.outcome_lines.specs.OneToOne.{IsI64}
use Rattle.outcome_lines.proofs.LineLemmas.{row_text-cons}
use Rattle.exec_value.proofs.NumberLemmas.{Decides-is_i64}

-- no digit stands first
abbrev pub NoDigit : List ℕ → Type 0
NoDigit [] = Unit {0}
NoDigit (b ∷ bs) = ¬ (IsInRange 48 57 b)

-- digits end where no digit follows
pub digits_cut : (a b r s : List ℕ) → AllDigits 10 a → AllDigits 10 b → NoDigit r → NoDigit s → a ++ r ≡ b ++ s → (a ≡ b) × (r ≡ s)
digits_cut [] [] r s da db nr ns e = (refl, e)
digits_cut [] (y ∷ b) r s da db nr ns e = absurd (subst NoDigit e nr (digit_from_value y db.0))
digits_cut (x ∷ a) [] r s da db nr ns e = absurd (subst NoDigit (sym e) ns (digit_from_value x da.0))
digits_cut (x ∷ a) (y ∷ b) r s da db nr ns e =
    let head : x ≡ y = cc in
    let tail : a ++ r ≡ b ++ s = cc in
    let p = digits_cut a b r s da.1 db.1 nr ns tail in
    (ap (λ (n : ℕ). n ∷ a) head ∙ ap (λ (l : List ℕ). y ∷ l) p.0, p.1)

-- the first byte of a numeral is a digit
numeral_first : (ds r : List ℕ) → IsNumeral 10 ds → IsInRange 48 57 (get_or (ds ++ r) 0 0)
numeral_first [] r n = absurd (omega (arith, n.0))
numeral_first (d ∷ ds) r n = digit_from_value d n.1.0

numeral : (n : ℕ) → n < 2 ^ 64 → IsNumeral 10 (decimal n)
numeral n small = (decimal_is_IsNumeral n small).0

small_pos : (n : ℕ) → IsI64 (pos n) → n < 2 ^ 63
small_pos n h = ((Decides-is_i64 (pos n)).0 h).sfits

small_neg : (n : ℕ) → IsI64 (negsuc n) → n < 2 ^ 63
small_neg n h = ((Decides-is_i64 (negsuc n)).0 h).sfits

-- a number begins with a digit or a minus sign
pub number_first : (n : ℤ) (r : List ℕ) → IsI64 n → IsInRange 45 57 (get_or (signed_decimal n ++ r) 0 0)
number_first (pos n) r h =
    let first = numeral_first (decimal n) r (numeral n (omega (arith, small_pos n h))) in
    (omega (arith, first.0), first.1)
number_first (negsuc n) r h = (omega arith, omega arith)

-- and ends where no digit follows
pub number_cut : (m n : ℤ) (r s : List ℕ) → IsI64 m → IsI64 n → NoDigit r → NoDigit s → signed_decimal m ++ r ≡ signed_decimal n ++ s → (m ≡ n) × (r ≡ s)
number_cut (pos m) (pos n) r s hm hn nr ns e =
    let sm : m < 2 ^ 64 = omega (arith, small_pos m hm) in
    let sn : n < 2 ^ 64 = omega (arith, small_pos n hn) in
    let p = digits_cut (decimal m) (decimal n) r s (numeral m sm).1 (numeral n sn).1 nr ns e in
    (ap (λ (k : ℕ). pos k) (decimal_injective m n sm sn p.0), p.1)
number_cut (pos m) (negsuc n) r s hm hn nr ns e =
    let first = numeral_first (decimal m) r (numeral m (omega (arith, small_pos m hm))) in
    absurd (omega (arith, first.0, ap (λ (l : List ℕ). get_or l 0 0) e))
number_cut (negsuc m) (pos n) r s hm hn nr ns e =
    let first = numeral_first (decimal n) s (numeral n (omega (arith, small_pos n hn))) in
    absurd (omega (arith, first.0, ap (λ (l : List ℕ). get_or l 0 0) e))
number_cut (negsuc m) (negsuc n) r s hm hn nr ns e =
    let sm : suc m < 2 ^ 64 = omega (arith, small_neg m hm) in
    let sn : suc n < 2 ^ 64 = omega (arith, small_neg n hn) in
    let tail : decimal (suc m) ++ r ≡ decimal (suc n) ++ s = cc in
    let p = digits_cut (decimal (suc m)) (decimal (suc n)) r s (numeral (suc m) sm).1 (numeral (suc n) sn).1 nr ns tail in
    let same : m ≡ n = omega (arith, decimal_injective (suc m) (suc n) sm sn p.0) in
    (ap (λ (k : ℕ). negsuc k) same, p.1)

-- a hexadecimal digit is read back
glyph_same : (a b : ℕ) → a < 16 → b < 16 → digit_glyph false a ≡ digit_glyph false b → a ≡ b
glyph_same a b ha hb e = grind (arith, nat_tests)

control_small : (x : ℕ) → is_ascii_control x ≡ true → x < 128
control_small x c = grind (arith, nat_tests)

-- a byte that isn't plain is a control, a quote or a backslash
mark : (x : ℕ) → is_plain x ≡ false → is_ascii_control x ≡ false → (x ≡ quote) ⊎ (x ≡ backslash)
mark x p c =
    elim (or_cases (is_ascii_control x || eqb x quote) (eqb x backslash) (not-false _ p)) [
      | inl first ↦ elim (or_cases (is_ascii_control x) (eqb x quote) first) [
        | inl control ↦ absurd (false≢true (sym c ∙ control))
        | inr is_quote ↦ inl (eqb-true x quote is_quote)
      ]
      | inr is_backslash ↦ inr (eqb-true x backslash is_backslash)
    ]

-- how a byte is shown: as it is, behind a backslash, or by its number
abbrev Plain : ℕ → Type 0
Plain x = (x ≢ quote) × (x ≢ backslash) × (escaped x ≡ x ∷ [])

abbrev Marked : ℕ → Type 0
Marked x = ((x ≡ quote) ⊎ (x ≡ backslash)) × (escaped x ≡ backslash ∷ x ∷ [])

abbrev Numbered : ℕ → Type 0
Numbered x = (x < 128) × (escaped x ≡ codes "\\u00" ++ hex_digits x)

shown : (x : ℕ) → Plain x ⊎ (Marked x ⊎ Numbered x)
shown x =
    elim (cases_Bool (is_plain x)) [
      | inl plain ↦ inl (
        λ e. false≢true (ap is_plain (sym e) ∙ plain),
        λ e. false≢true (ap is_plain (sym e) ∙ plain),
        cond-true (is_plain x) (x ∷ []) (escape_of x) plain,
      )
      | inr special ↦
          let escape = cond-false (is_plain x) (x ∷ []) (escape_of x) special in
          elim (cases_Bool (is_ascii_control x)) [
            | inl control ↦ inr (inr (control_small x control, escape ∙ cond-true (is_ascii_control x) (codes "\\u00" ++ hex_digits x) (backslash ∷ x ∷ []) control))
            | inr other ↦ inr (inl (mark x special other, escape ∙ cond-false (is_ascii_control x) (codes "\\u00" ++ hex_digits x) (backslash ∷ x ∷ []) other))
          ]
    ]

plain_plain : (x y : ℕ) (u v : List ℕ) → Plain x → Plain y → escaped x ++ u ≡ escaped y ++ v → (x ≡ y) × (u ≡ v)
plain_plain x y u v p q e =
    let f : x ∷ u ≡ y ∷ v = ap (λ (l : List ℕ). l ++ u) (sym p.2) ∙ e ∙ ap (λ (l : List ℕ). l ++ v) q.2 in
    (cc, cc)

marked_marked : (x y : ℕ) (u v : List ℕ) → Marked x → Marked y → escaped x ++ u ≡ escaped y ++ v → (x ≡ y) × (u ≡ v)
marked_marked x y u v p q e =
    let f : backslash ∷ x ∷ u ≡ backslash ∷ y ∷ v = ap (λ (l : List ℕ). l ++ u) (sym p.1) ∙ e ∙ ap (λ (l : List ℕ). l ++ v) q.1 in
    (cc, cc)

numbered_numbered : (x y : ℕ) (u v : List ℕ) → Numbered x → Numbered y → escaped x ++ u ≡ escaped y ++ v → (x ≡ y) × (u ≡ v)
numbered_numbered x y u v p q e =
    let f : codes "\\u00" ++ hex_digits x ++ u ≡ codes "\\u00" ++ hex_digits y ++ v = ap (λ (l : List ℕ). l ++ u) (sym p.1) ∙ e ∙ ap (λ (l : List ℕ). l ++ v) q.1 in
    let high : digit_glyph false (x / 16) ≡ digit_glyph false (y / 16) = ap (λ (l : List ℕ). get_or l 4 0) f in
    let low : digit_glyph false (x % 16) ≡ digit_glyph false (y % 16) = ap (λ (l : List ℕ). get_or l 5 0) f in
    let rest : u ≡ v = ap (λ (l : List ℕ). drop 6 l) f in
    let h = glyph_same (x / 16) (y / 16) (omega (arith, p.0)) (omega (arith, q.0)) high in
    let l = glyph_same (x % 16) (y % 16) (omega arith) (omega arith) low in
    (omega (arith, h, l), rest)

-- a byte that stands as it is begins with itself, and any other with a backslash
plain_first : (x : ℕ) (u : List ℕ) → Plain x → get_or (escaped x ++ u) 0 0 ≡ x
plain_first x u p = ap (λ (l : List ℕ). get_or (l ++ u) 0 0) p.2

marked_first : (x : ℕ) (u : List ℕ) → Marked x → get_or (escaped x ++ u) 0 0 ≡ backslash
marked_first x u p = ap (λ (l : List ℕ). get_or (l ++ u) 0 0) p.1

marked_second : (x : ℕ) (u : List ℕ) → Marked x → get_or (escaped x ++ u) 1 0 ≡ x
marked_second x u p = ap (λ (l : List ℕ). get_or (l ++ u) 1 0) p.1

numbered_first : (x : ℕ) (u : List ℕ) → Numbered x → get_or (escaped x ++ u) 0 0 ≡ backslash
numbered_first x u p = ap (λ (l : List ℕ). get_or (l ++ u) 0 0) p.1

numbered_second : (x : ℕ) (u : List ℕ) → Numbered x → get_or (escaped x ++ u) 1 0 ≡ 117
numbered_second x u p = ap (λ (l : List ℕ). get_or (l ++ u) 1 0) p.1

marked_numbered : (x y : ℕ) (u v : List ℕ) → Marked x → Numbered y → escaped x ++ u ≡ escaped y ++ v → ⊥
marked_numbered x y u v p q e =
    let same : x ≡ 117 = sym (marked_second x u p) ∙ ap (λ (l : List ℕ). get_or l 1 0) e ∙ numbered_second y v q in
    elim p.0 [ inl is_quote ↦ omega (arith, same, is_quote) | inr is_backslash ↦ omega (arith, same, is_backslash) ]

-- a byte of a text is read back
pub escaped_cut : (x y : ℕ) (u v : List ℕ) → escaped x ++ u ≡ escaped y ++ v → (x ≡ y) × (u ≡ v)
escaped_cut x y u v e =
    let heads : get_or (escaped x ++ u) 0 0 ≡ get_or (escaped y ++ v) 0 0 = ap (λ (l : List ℕ). get_or l 0 0) e in
    elim (shown x) [
      | inl px ↦ elim (shown y) [
        | inl py ↦ plain_plain x y u v px py e
        | inr sy ↦ elim sy [
          | inl my ↦ absurd (px.1 (sym (plain_first x u px) ∙ heads ∙ marked_first y v my))
          | inr ny ↦ absurd (px.1 (sym (plain_first x u px) ∙ heads ∙ numbered_first y v ny))
        ]
      ]
      | inr sx ↦ elim sx [
        | inl mx ↦ elim (shown y) [
          | inl py ↦ absurd (py.1 (sym (plain_first y v py) ∙ sym heads ∙ marked_first x u mx))
          | inr sy ↦ elim sy [
            | inl my ↦ marked_marked x y u v mx my e
            | inr ny ↦ absurd (marked_numbered x y u v mx ny e)
          ]
        ]
        | inr nx ↦ elim (shown y) [
          | inl py ↦ absurd (py.1 (sym (plain_first y v py) ∙ sym heads ∙ numbered_first x u nx))
          | inr sy ↦ elim sy [
            | inl my ↦ absurd (marked_numbered y x v u my nx (sym e))
            | inr ny ↦ numbered_numbered x y u v nx ny e
          ]
        ]
      ]
    ]

-- and no byte is shown as the quote at the end
pub escaped-quote : (x : ℕ) (u v : List ℕ) → escaped x ++ u ≡ quote ∷ v → ⊥
escaped-quote x u v e =
    let head : get_or (escaped x ++ u) 0 0 ≡ quote = ap (λ (l : List ℕ). get_or l 0 0) e in
    elim (shown x) [
      | inl p ↦ p.0 (sym (plain_first x u p) ∙ head)
      | inr s ↦ elim s [
        | inl m ↦ omega (arith, marked_first x u m, head)
        | inr n ↦ omega (arith, numbered_first x u n, head)
      ]
    ]

-- a text ends at its quote
pub text_cut : (a b r s : List ℕ) → flat_map escaped a ++ quote ∷ r ≡ flat_map escaped b ++ quote ∷ s → (a ≡ b) × (r ≡ s)
text_cut [] [] r s e = (refl, cc)
text_cut [] (y ∷ b) r s e = absurd (escaped-quote y (flat_map escaped b ++ quote ∷ s) r (sym (append_assoc (escaped y) (flat_map escaped b) (quote ∷ s)) ∙ sym e))
text_cut (x ∷ a) [] r s e = absurd (escaped-quote x (flat_map escaped a ++ quote ∷ r) s (sym (append_assoc (escaped x) (flat_map escaped a) (quote ∷ r)) ∙ e))
text_cut (x ∷ a) (y ∷ b) r s e =
    let f = sym (append_assoc (escaped x) (flat_map escaped a) (quote ∷ r)) ∙ e ∙ append_assoc (escaped y) (flat_map escaped b) (quote ∷ s) in
    let p = escaped_cut x y (flat_map escaped a ++ quote ∷ r) (flat_map escaped b ++ quote ∷ s) f in
    let q = text_cut a b r s p.1 in
    (ap (λ (n : ℕ). n ∷ a) p.0 ∙ ap (λ (l : List ℕ). y ∷ l) q.0, q.1)

-- a text between quotes ends at the second
pub quoted_cut : (a b r s : List ℕ) → quoted a ++ r ≡ quoted b ++ s → (a ≡ b) × (r ≡ s)
quoted_cut a b r s e =
    let tail : (flat_map escaped a ++ quote ∷ []) ++ r ≡ (flat_map escaped b ++ quote ∷ []) ++ s = ap (λ (l : List ℕ). drop 1 l) e in
    text_cut a b r s (sym (append_assoc (flat_map escaped a) (quote ∷ []) r) ∙ tail ∙ append_assoc (flat_map escaped b) (quote ∷ []) s)

-- the numbers of a row behind its first, each behind a comma
abbrev later : List ℤ → List ℕ
later numbers = flat_map (λ n. comma ∷ signed_decimal n) numbers

later_tail : (numbers : List ℤ) (r : List ℕ) → NoDigit (later numbers ++ 93 ∷ r)
later_tail [] r = λ d. omega (arith, d.1)
later_tail (n ∷ numbers) r = λ d. omega (arith, d.0)

later_cut : (xs ys : List ℤ) (r s : List ℕ) → All IsI64 xs → All IsI64 ys → later xs ++ 93 ∷ r ≡ later ys ++ 93 ∷ s → (xs ≡ ys) × (r ≡ s)
later_cut [] [] r s hx hy e = (refl, cc)
later_cut [] (y ∷ ys) r s hx hy e = absurd (omega (arith, ap (λ (l : List ℕ). get_or l 0 0) e))
later_cut (x ∷ xs) [] r s hx hy e = absurd (omega (arith, ap (λ (l : List ℕ). get_or l 0 0) e))
later_cut (x ∷ xs) (y ∷ ys) r s hx hy e =
    let tail : (signed_decimal x ++ later xs) ++ 93 ∷ r ≡ (signed_decimal y ++ later ys) ++ 93 ∷ s = ap (λ (l : List ℕ). drop 1 l) e in
    let f = sym (append_assoc (signed_decimal x) (later xs) (93 ∷ r)) ∙ tail ∙ append_assoc (signed_decimal y) (later ys) (93 ∷ s) in
    let p = number_cut x y (later xs ++ 93 ∷ r) (later ys ++ 93 ∷ s) (All-head IsI64 x xs hx) (All-head IsI64 y ys hy) (later_tail xs r) (later_tail ys s) f in
    let q = later_cut xs ys r s (All-tail IsI64 x xs hx) (All-tail IsI64 y ys hy) p.1 in
    (ap (λ (n : ℤ). n ∷ xs) p.0 ∙ ap (λ (l : List ℤ). y ∷ l) q.0, q.1)

-- a row of one number or more, behind its bracket
row_shape : (n : ℤ) (ns : List ℤ) (r : List ℕ) → row_text (n ∷ ns) ++ r ≡ 91 ∷ (signed_decimal n ++ (later ns ++ 93 ∷ r))
row_shape n ns r =
    ap (λ (l : List ℕ). l ++ r) (row_text-cons (n ∷ ns) (omega arith))
    ∙ ap (λ (l : List ℕ). 91 ∷ l) (append_assoc (signed_decimal n) (later ns ++ 93 ∷ []) r ∙ ap (λ (l : List ℕ). signed_decimal n ++ l) (append_assoc (later ns) (93 ∷ []) r))

row_empty : (n : ℤ) (ns : List ℤ) (r s : List ℕ) → IsI64 n → row_text [] ++ r ≡ row_text (n ∷ ns) ++ s → ⊥
row_empty n ns r s h e =
    let f : 91 ∷ 93 ∷ r ≡ 91 ∷ (signed_decimal n ++ (later ns ++ 93 ∷ s)) = e ∙ row_shape n ns s in
    let first = number_first n (later ns ++ 93 ∷ s) h in
    let second : 93 ≡ get_or (signed_decimal n ++ (later ns ++ 93 ∷ s)) 0 0 = ap (λ (l : List ℕ). get_or l 1 0) f in
    omega (arith, first.1, second)

-- a row ends at its bracket
pub row_cut : (xs ys : List ℤ) (r s : List ℕ) → All IsI64 xs → All IsI64 ys → row_text xs ++ r ≡ row_text ys ++ s → (xs ≡ ys) × (r ≡ s)
row_cut [] [] r s hx hy e = (refl, ap (λ (l : List ℕ). drop 2 l) e)
row_cut [] (y ∷ ys) r s hx hy e = absurd (row_empty y ys r s (All-head IsI64 y ys hy) e)
row_cut (x ∷ xs) [] r s hx hy e = absurd (row_empty x xs s r (All-head IsI64 x xs hx) (sym e))
row_cut (x ∷ xs) (y ∷ ys) r s hx hy e =
    let f = sym (row_shape x xs r) ∙ e ∙ row_shape y ys s in
    let tail : signed_decimal x ++ (later xs ++ 93 ∷ r) ≡ signed_decimal y ++ (later ys ++ 93 ∷ s) = ap (λ (l : List ℕ). drop 1 l) f in
    let p = number_cut x y (later xs ++ 93 ∷ r) (later ys ++ 93 ∷ s) (All-head IsI64 x xs hx) (All-head IsI64 y ys hy) (later_tail xs r) (later_tail ys s) tail in
    let q = later_cut xs ys r s (All-tail IsI64 x xs hx) (All-tail IsI64 y ys hy) p.1 in
    (ap (λ (n : ℤ). n ∷ xs) p.0 ∙ ap (λ (l : List ℤ). y ∷ l) q.0, q.1)

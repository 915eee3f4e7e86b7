-- The bytes of lines name the outcomes.
use Rattle.std.proofs.Common.{◌≡◌, ℕ, ◌+◌, ◌≤◌, true, eqb, cond, List, [], ◌∷◌, ◌++◌, length, drop, get_or, ℤ, refl, sym, ap, ◌∙◌, append_assoc, length-append, arith}
use Rattle.std.specs.Prelude.{All}
use Rattle.std.specs.Fmt.{decimal, signed_decimal}
use Rattle.std.specs.List.{flat_map, list_all}
use Rattle.std.proofs.lemmas.Bool.{false≢true, and_parts}
use Rattle.std.proofs.lemmas.Bool.Decides.{nat_tests}
use Rattle.std.proofs.lemmas.List.{append_cancel_left}
use Rattle.std.proofs.lemmas.List.Elements.{All-head, All-tail}
use Rattle.exec_value.specs.Bytes.{line_feed, blank}
use Rattle.exec_value.specs.ErrorName.{is_error_name, is_name_byte}
use Rattle.outcome_lines.specs.Line.{text_of, outcome_words, line_of, text_from}
use Rattle.outcome_lines.specs.OneToOne.{CanBeHeld, IsNamed, TextNamesOutcomes}
use Rattle.exec_value.specs.declared.data.Datum.{Datum}
use Rattle.exec_value.specs.declared.data.Datum.TheVariants.{Int, Text, Row, SomeInt, SomeText, Nothing}
use Rattle.exec_value.specs.declared.outcome.Completion.{Completion}
use Rattle.exec_value.specs.declared.outcome.Completion.TheVariants.{Value, Error, Stopped, NoMemory}
use Rattle.exec_value.specs.declared.outcome.Outcome.{Outcome}
use Rattle.exec_value.specs.declared.outcome.Outcome.TheVariants.{Done, BadRecord}
use Rattle.outcome_lines.proofs.CutLemmas.{NoDigit, number_first, number_cut, quoted_cut, row_cut}

-- which variant the bytes of a datum are of, by its first and sixth byte
mark_of : ℕ → ℕ → ℕ
mark_of first sixth = cond (eqb first 34) 1 (cond (eqb first 91) 2 (cond (eqb first 110) 5 (cond (eqb first 115) (cond (eqb sixth 34) 4 3) 0)))

mark_bytes : List ℕ → ℕ
unfolding mark_of
mark_bytes bytes = mark_of (get_or bytes 0 0) (get_or bytes 5 0)

abbrev variant_of : Datum → ℕ
variant_of (Int n) = 0
variant_of (Text bytes) = 1
variant_of (Row numbers) = 2
variant_of (SomeInt n) = 3
variant_of (SomeText bytes) = 4
variant_of Nothing = 5

number_mark : (first sixth : ℕ) → 45 ≤ first → first ≤ 57 → mark_of first sixth ≡ 0
unfolding mark_of
number_mark first sixth low high = grind (arith, nat_tests)

some_mark : (sixth : ℕ) → 45 ≤ sixth → mark_of 115 sixth ≡ 3
unfolding mark_of
some_mark sixth low = grind (arith, nat_tests)

datum_mark : (datum : Datum) (r : List ℕ) → CanBeHeld datum → mark_bytes (text_of datum ++ r) ≡ variant_of datum
unfolding mark_bytes mark_of text_of
datum_mark (Int n) r h = let p = number_first n r h in number_mark (get_or (signed_decimal n ++ r) 0 0) (get_or (signed_decimal n ++ r) 5 0) p.0 p.1
datum_mark (Text bytes) r h = refl
datum_mark (Row numbers) r h = refl
datum_mark (SomeInt n) r h = some_mark (get_or (signed_decimal n ++ r) 0 0) (number_first n r h).0
datum_mark (SomeText bytes) r h = refl
datum_mark Nothing r h = refl

-- a datum ends where no digit follows
datum_cut : (x y : Datum) (r s : List ℕ) → CanBeHeld x → CanBeHeld y → NoDigit r → NoDigit s → text_of x ++ r ≡ text_of y ++ s → (x ≡ y) × (r ≡ s)
unfolding text_of
datum_cut (Int m) (Int n) r s hx hy nr ns e =
    let p = number_cut m n r s hx hy nr ns e in (ap (λ (z : ℤ). Int z) p.0, p.1)
datum_cut (Text a) (Text b) r s hx hy nr ns e =
    let p = quoted_cut a b r s e in (ap (λ (l : List ℕ). Text l) p.0, p.1)
datum_cut (Row a) (Row b) r s hx hy nr ns e =
    let p = row_cut a b r s hx hy e in (ap (λ (l : List ℤ). Row l) p.0, p.1)
datum_cut (SomeInt m) (SomeInt n) r s hx hy nr ns e =
    let p = number_cut m n r s hx hy nr ns (ap (λ (l : List ℕ). drop 5 l) e) in (ap (λ (z : ℤ). SomeInt z) p.0, p.1)
datum_cut (SomeText a) (SomeText b) r s hx hy nr ns e =
    let p = quoted_cut a b r s (ap (λ (l : List ℕ). drop 5 l) e) in (ap (λ (l : List ℕ). SomeText l) p.0, p.1)
datum_cut Nothing Nothing r s hx hy nr ns e = (refl, ap (λ (l : List ℕ). drop 4 l) e)
datum_cut x y r s hx hy nr ns e = absurd (omega (arith, sym (datum_mark x r hx) ∙ ap mark_bytes e ∙ datum_mark y s hy))

-- the data of a value line
abbrev shown : List Datum → List ℕ
shown values = flat_map (λ datum. blank ∷ text_of datum) values

shown_tail : (values : List Datum) (r : List ℕ) → NoDigit (shown values ++ line_feed ∷ r)
shown_tail [] r = λ d. omega (arith, d.0)
shown_tail (datum ∷ values) r = λ d. omega (arith, d.0)

values_cut : (xs ys : List Datum) (r s : List ℕ) → All CanBeHeld xs → All CanBeHeld ys → shown xs ++ line_feed ∷ r ≡ shown ys ++ line_feed ∷ s → (xs ≡ ys) × (r ≡ s)
values_cut [] [] r s hx hy e = (refl, ap (λ (l : List ℕ). drop 1 l) e)
values_cut [] (y ∷ ys) r s hx hy e = absurd (omega (arith, ap (λ (l : List ℕ). get_or l 0 0) e))
values_cut (x ∷ xs) [] r s hx hy e = absurd (omega (arith, ap (λ (l : List ℕ). get_or l 0 0) e))
values_cut (x ∷ xs) (y ∷ ys) r s hx hy e =
    let tail : (text_of x ++ shown xs) ++ line_feed ∷ r ≡ (text_of y ++ shown ys) ++ line_feed ∷ s = ap (λ (l : List ℕ). drop 1 l) e in
    let f = sym (append_assoc (text_of x) (shown xs) (line_feed ∷ r)) ∙ tail ∙ append_assoc (text_of y) (shown ys) (line_feed ∷ s) in
    let p = datum_cut x y (shown xs ++ line_feed ∷ r) (shown ys ++ line_feed ∷ s) (All-head CanBeHeld x xs hx) (All-head CanBeHeld y ys hy) (shown_tail xs r) (shown_tail ys s) f in
    let q = values_cut xs ys r s (All-tail CanBeHeld x xs hx) (All-tail CanBeHeld y ys hy) p.1 in
    (ap (λ (d : Datum). d ∷ xs) p.0 ∙ ap (λ (l : List Datum). y ∷ l) q.0, q.1)

-- an error name has no line feed
name_byte-feed : (b : ℕ) → is_name_byte b ≡ true → b ≡ line_feed → ⊥
name_byte-feed b h e = false≢true (ap is_name_byte (sym e) ∙ h)

name_cut : (a b r s : List ℕ) → list_all is_name_byte a ≡ true → list_all is_name_byte b ≡ true → a ++ line_feed ∷ r ≡ b ++ line_feed ∷ s → (a ≡ b) × (r ≡ s)
name_cut [] [] r s ha hb e = (refl, ap (λ (l : List ℕ). drop 1 l) e)
name_cut [] (y ∷ b) r s ha hb e = absurd (name_byte-feed y (and_parts (is_name_byte y) (list_all is_name_byte b) hb).0 (ap (λ (l : List ℕ). get_or l 0 0) (sym e)))
name_cut (x ∷ a) [] r s ha hb e = absurd (name_byte-feed x (and_parts (is_name_byte x) (list_all is_name_byte a) ha).0 (ap (λ (l : List ℕ). get_or l 0 0) e))
name_cut (x ∷ a) (y ∷ b) r s ha hb e =
    let head : x ≡ y = ap (λ (l : List ℕ). get_or l 0 0) e in
    let tail : a ++ line_feed ∷ r ≡ b ++ line_feed ∷ s = ap (λ (l : List ℕ). drop 1 l) e in
    let p = name_cut a b r s (and_parts (is_name_byte x) (list_all is_name_byte a) ha).1 (and_parts (is_name_byte y) (list_all is_name_byte b) hb).1 tail in
    (ap (λ (n : ℕ). n ∷ a) head ∙ ap (λ (l : List ℕ). y ∷ l) p.0, p.1)

name_bytes : (name : List ℕ) → is_error_name name ≡ true → list_all is_name_byte name ≡ true
name_bytes name h = (and_parts _ (list_all is_name_byte name) h).1

-- the first letter of what a line says
abbrev letter_of : Outcome → ℕ
letter_of (Done (Value values)) = 118
letter_of (Done (Error name)) = 101
letter_of (Done Stopped) = 115
letter_of (Done NoMemory) = 111
letter_of BadRecord = 98

outcome_letter : (outcome : Outcome) (t : List ℕ) → get_or (outcome_words outcome ++ t) 0 0 ≡ letter_of outcome
outcome_letter (Done (Value values)) t = refl
outcome_letter (Done (Error name)) t = refl
outcome_letter (Done Stopped) t = refl
outcome_letter (Done NoMemory) t = refl
outcome_letter BadRecord t = refl

not_bad : (c : Completion) → letter_of (Done c) ≡ 98 → ⊥
not_bad (Value values) e = omega (arith, e)
not_bad (Error name) e = omega (arith, e)
not_bad Stopped e = omega (arith, e)
not_bad NoMemory e = omega (arith, e)

-- what a line says ends at its line feed
outcome_cut : (x y : Outcome) (r s : List ℕ) → IsNamed x → IsNamed y → outcome_words x ++ line_feed ∷ r ≡ outcome_words y ++ line_feed ∷ s → (x ≡ y) × (r ≡ s)
outcome_cut (Done (Value xs)) (Done (Value ys)) r s hx hy e =
    let p = values_cut xs ys r s hx hy (ap (λ (l : List ℕ). drop 5 l) e) in (ap (λ (l : List Datum). Done (Value l)) p.0, p.1)
outcome_cut (Done (Error a)) (Done (Error b)) r s hx hy e =
    let p = name_cut a b r s (name_bytes a hx) (name_bytes b hy) (ap (λ (l : List ℕ). drop 6 l) e) in (ap (λ (l : List ℕ). Done (Error l)) p.0, p.1)
outcome_cut (Done Stopped) (Done Stopped) r s hx hy e = (refl, ap (λ (l : List ℕ). drop 8 l) e)
outcome_cut (Done NoMemory) (Done NoMemory) r s hx hy e = (refl, ap (λ (l : List ℕ). drop 14 l) e)
outcome_cut BadRecord BadRecord r s hx hy e = (refl, ap (λ (l : List ℕ). drop 11 l) e)
outcome_cut BadRecord (Done c) r s hx hy e =
    absurd (not_bad c (sym (outcome_letter (Done c) (line_feed ∷ s)) ∙ ap (λ (l : List ℕ). get_or l 0 0) (sym e)))
outcome_cut (Done c) BadRecord r s hx hy e =
    absurd (not_bad c (sym (outcome_letter (Done c) (line_feed ∷ r)) ∙ ap (λ (l : List ℕ). get_or l 0 0) e))
outcome_cut x y r s hx hy e =
    absurd (omega (arith, sym (outcome_letter x (line_feed ∷ r)) ∙ ap (λ (l : List ℕ). get_or l 0 0) e ∙ outcome_letter y (line_feed ∷ s)))

-- a line is its number, a blank, what it says, and a line feed
line_shape : (number : ℕ) (outcome : Outcome) (t : List ℕ) → line_of number outcome ++ t ≡ decimal number ++ blank ∷ (outcome_words outcome ++ line_feed ∷ t)
unfolding line_of
line_shape number outcome t =
    append_assoc (decimal number ++ blank ∷ outcome_words outcome) (line_feed ∷ []) t
    ∙ append_assoc (decimal number) (blank ∷ outcome_words outcome) (line_feed ∷ t)

no_line : (number : ℕ) (outcome : Outcome) (t : List ℕ) → [] ≡ line_of number outcome ++ t → ⊥
no_line number outcome t e =
    omega (arith, ap length (e ∙ line_shape number outcome t), length-append (decimal number) (blank ∷ (outcome_words outcome ++ line_feed ∷ t)))

-- so the text names the outcomes
pub text_names : TextNamesOutcomes
text_names number [] [] hx hy e = refl
text_names number [] (y ∷ ys) hx hy e = absurd (no_line number y (text_from (number + 1) ys) e)
text_names number (x ∷ xs) [] hx hy e = absurd (no_line number x (text_from (number + 1) xs) (sym e))
text_names number (x ∷ xs) (y ∷ ys) hx hy e =
    let f = sym (line_shape number x (text_from (number + 1) xs)) ∙ e ∙ line_shape number y (text_from (number + 1) ys) in
    let behind = append_cancel_left (decimal number) _ _ f in
    let p = outcome_cut x y (text_from (number + 1) xs) (text_from (number + 1) ys) (All-head IsNamed x xs hx) (All-head IsNamed y ys hy) (ap (λ (l : List ℕ). drop 1 l) behind) in
    let q = text_names (number + 1) xs ys (All-tail IsNamed x xs hx) (All-tail IsNamed y ys hy) p.1 in
    ap (λ (o : Outcome). o ∷ xs) p.0 ∙ ap (λ (l : List Outcome). y ∷ l) q

-- What a plan is written in are tokens.
use Rattle.std.proofs.Common.{◌≡◌, inl, inr, ℕ, ℤ, pos, negsuc, ◌<◌, ◌/◌, ◌%◌, ◌==◌, ◌&&◌, Bool, true, false, List, [], ◌∷◌, ◌++◌, Option, Some, None, map, cond, nat_eq, nat_lt, codes, refl, sym, ap, append_assoc, ◌∙◌, arith, decimal}
use Rattle.std.specs.Fmt.{signed_decimal}
use Rattle.std.specs.List.{list_all}
use Rattle.std.specs.Char.{digit_char}
use Rattle.std.proofs.lemmas.Bool.{agree_below, agree_below_at, and_from, and_parts, cases_Bool, cond-false, cond-true, eqb-true, ltb-true, true≢false}
use Rattle.json.specs.Print.{escape, escape_byte, escape_letter, quoted}
use Rattle.serde_json.specs.View.{items_of}
use Rattle.serde_json.specs.Written.{comma_if, compact_text, items_text}
use Rattle.node_tree.specs.declared.scope_kind.ScopeKind.{ScopeKind}
use Rattle.node_tree.specs.declared.scope_kind.ScopeKind.TheVariants.{Simple, Counting}
use Rattle.node_tree.specs.declared.context.Context.{Context}
use Rattle.node_tree.specs.declared.context.Context.TheVariants.{Loop, Pool}
use Rattle.exec_value.specs.declared.data.Datum.{Datum}
use Rattle.exec_value.specs.declared.data.Datum.TheVariants as datum
use Rattle.exec_value.specs.declared.kinds.Kind.{Kind}
use Rattle.exec_value.specs.declared.kinds.Kind.TheVariants as kind
use Rattle.exec_job.specs.declared.job.Job.{Job}
use Rattle.exec_job.specs.declared.job.Job.TheVariants.{Add, Sub, Mul, Div, Neg, Within, Index, Fail, Iota, Sum, Append, Join, Length, Parse, Show, Give, At, IntOr, TextOr, Pass}
use Rattle.plan_rules.specs.declared.node.Query.{Query}
use Rattle.plan_rules.specs.declared.node.Query.TheVariants.{Stop, Record}
use Rattle.plan_rules.specs.declared.settings.Settings.{Settings}
use Rattle.plan_writer.specs.Nodes.{context_name, kind_name, query_name}
use Rattle.plan_writer.specs.Values.{integer_data}
use Rattle.plan_words.specs.Wholes.{nothing_follows, is_whole, row_ends, text_ends}
use Rattle.plan_words.proofs.Numerals.{decimal_in_number, decimal_whole, number_in_row, signed_in_number, signed_whole}
use Rattle.plan_notation.specs.Tokens.{constant_word, count_word, job_words, number_word, on_error_words, scope_words, settings_words, stop_words, text_word, version_words, word_pair}

-- ---- constants

escaped_letter : (x : ℕ) → nat_lt 0 (escape_letter x) ≡ false → (y : ℕ) → nat_lt 0 (escape_letter y) ≡ true → (x == y) ≡ false
escaped_letter x h y k =
    elim (cases_Bool (x == y)) [
      | inl e ↦ absurd (true≢false (sym k ∙ ap (λ (z : ℕ). nat_lt 0 (escape_letter z)) (sym (eqb-true x y e)) ∙ h))
      | inr e ↦ e
    ]

hex_is : (f : ℕ → Bool) → agree_below (λ d. f (digit_char d)) (λ d. false) 16 ≡ true → (d : ℕ) → d < 16 → f (digit_char d) ≡ false
hex_is f agree d h = agree_below_at (λ (x : ℕ). f (digit_char x)) (λ x. false) 16 d agree h

-- one byte more of a text that is neither a quote nor a backslash
plain_text : (b : ℕ) (rest : List ℕ) → (b == 92) ≡ false → (b == 34) ≡ false → text_ends (b ∷ rest) false ≡ text_ends rest false
plain_text b rest e f = cond-false (b == 92) _ _ e ∙ cond-false (b == 34) (nothing_follows rest) (text_ends rest false) f

hex_text : (d : ℕ) (rest : List ℕ) → d < 16 → text_ends (digit_char d ∷ rest) false ≡ text_ends rest false
hex_text d rest h =
    plain_text (digit_char d) rest (hex_is (λ (x : ℕ). x == 92) refl d h) (hex_is (λ (x : ℕ). x == 34) refl d h)

control_text : (x : ℕ) (rest : List ℕ) → x < 32
    → text_ends (92 ∷ 117 ∷ 48 ∷ 48 ∷ digit_char (x / 16) ∷ digit_char (x % 16) ∷ rest) false ≡ text_ends rest false
control_text x rest h =
    hex_text (x / 16) (digit_char (x % 16) ∷ rest) (omega arith) ∙ hex_text (x % 16) rest (omega arith)

escaped_text : (x : ℕ) (rest : List ℕ) → text_ends (escape_byte x ++ rest) false ≡ text_ends rest false
unfolding escape_byte
escaped_text x rest =
    elim (cases_Bool (nat_lt 0 (escape_letter x))) [
      | inl e ↦
          ap (λ (bs : List ℕ). text_ends (bs ++ rest) false) (cond-true (nat_lt 0 (escape_letter x)) (92 ∷ escape_letter x ∷ []) _ e)
      | inr e ↦
          ap (λ (bs : List ℕ). text_ends (bs ++ rest) false) (cond-false (nat_lt 0 (escape_letter x)) (92 ∷ escape_letter x ∷ []) _ e)
          ∙ elim (cases_Bool (nat_lt x 32)) [
            | inl f ↦
                ap (λ (bs : List ℕ). text_ends (bs ++ rest) false)
                (cond-true (nat_lt x 32) (92 ∷ 117 ∷ 48 ∷ 48 ∷ digit_char (x / 16) ∷ digit_char (x % 16) ∷ []) (x ∷ []) f)
                ∙ control_text x rest (ltb-true x 32 f)
            | inr f ↦
                ap (λ (bs : List ℕ). text_ends (bs ++ rest) false)
                (cond-false (nat_lt x 32) (92 ∷ 117 ∷ 48 ∷ 48 ∷ digit_char (x / 16) ∷ digit_char (x % 16) ∷ []) (x ∷ []) f)
                ∙ plain_text x rest (escaped_letter x e 92 refl) (escaped_letter x e 34 refl)
          ]
    ]

text_closes : (s : List ℕ) → text_ends (escape s ++ 34 ∷ []) false ≡ true
text_closes [] = refl
text_closes (x ∷ xs) =
    ap (λ (bs : List ℕ). text_ends bs false) (append_assoc (escape_byte x) (escape xs) (34 ∷ []))
    ∙ escaped_text x (escape xs ++ 34 ∷ []) ∙ text_closes xs

pub quoted_whole : (s : List ℕ) → is_whole (quoted s) ≡ true
quoted_whole s = text_closes s

integer_in_row : (n : ℤ) (rest : List ℕ) → row_ends (compact_text (integer_data n) ++ rest) ≡ row_ends rest
integer_in_row (pos n) rest = number_in_row (decimal n) rest (decimal_in_number n)
integer_in_row (negsuc n) rest = number_in_row (signed_decimal (negsuc n)) rest (signed_in_number (negsuc n))

comma_in_row : (later : Bool) (rest : List ℕ) → row_ends (comma_if later ++ rest) ≡ row_ends rest
comma_in_row true rest = refl
comma_in_row false rest = refl

row_closes : (later : Bool) (ns : List ℤ) → row_ends (items_text later (items_of (map integer_data ns))) ≡ true
row_closes later [] = refl
row_closes later (n ∷ ns) =
    comma_in_row later (compact_text (integer_data n) ++ items_text true (items_of (map integer_data ns)))
    ∙ integer_in_row n (items_text true (items_of (map integer_data ns)))
    ∙ row_closes true ns

number_whole : (n : ℤ) → is_whole (number_word n) ≡ true
number_whole (pos n) = decimal_whole n
number_whole (negsuc n) = signed_whole (negsuc n)

pub constant_whole : (d : Datum) → is_whole (constant_word d) ≡ true
constant_whole (datum.Int n) = number_whole n
constant_whole (datum.Text text) = quoted_whole text
constant_whole (datum.Row ns) = row_closes false ns
constant_whole d = refl

-- ---- jobs and settings

pub both_all : {X : Type 0} (test : X → Bool) (xs ys : List X) → list_all test xs ≡ true → list_all test ys ≡ true → list_all test (xs ++ ys) ≡ true
both_all test [] ys h k = k
both_all test (x ∷ xs) ys h k =
    let is = and_parts (test x) (list_all test xs) h in
    and_from (test x) (list_all test (xs ++ ys)) is.0 (both_all test xs ys is.1 k)

pub one_whole : (name word : List ℕ) → is_whole name ≡ true → is_whole word ≡ true → list_all is_whole (word_pair name word) ≡ true
one_whole name word h k =
    and_from (is_whole name) (is_whole word && true) h (and_from (is_whole word) true k refl)

pub constants_whole : (values : List Datum) → list_all is_whole (map constant_word values) ≡ true
constants_whole [] = refl
constants_whole (d ∷ values) =
    and_from (is_whole (constant_word d)) (list_all is_whole (map constant_word values)) (constant_whole d) (constants_whole values)

pub job_whole : (job : Job) → list_all is_whole (job_words job) ≡ true
job_whole (Add n) = one_whole (codes "add") (number_word n) refl (number_whole n)
job_whole (Sub n) = one_whole (codes "sub") (number_word n) refl (number_whole n)
job_whole (Mul n) = one_whole (codes "mul") (number_word n) refl (number_whole n)
job_whole (Div n) = one_whole (codes "div") (number_word n) refl (number_whole n)
job_whole Neg = refl
job_whole (Within lo hi) =
    and_from (is_whole (codes "within")) (list_all is_whole (word_pair (number_word lo) (number_word hi))) refl
    (one_whole (number_word lo) (number_word hi) (number_whole lo) (number_whole hi))
job_whole Index = refl
job_whole (Fail name) = one_whole (codes "fail") (text_word name) refl (quoted_whole name)
job_whole Iota = refl
job_whole Sum = refl
job_whole (Append text) = one_whole (codes "append") (text_word text) refl (quoted_whole text)
job_whole Join = refl
job_whole Length = refl
job_whole Parse = refl
job_whole Show = refl
job_whole (Give values) = constants_whole values
job_whole (At place) = one_whole (codes "at") (count_word place) refl (decimal_whole place)
job_whole (IntOr n) = one_whole (codes "value_or") (number_word n) refl (number_whole n)
job_whole (TextOr text) = one_whole (codes "value_or") (text_word text) refl (quoted_whole text)
job_whole Pass = refl

pub kind_whole : (k : Kind) → is_whole (kind_name k) ≡ true
kind_whole kind.Int = refl
kind_whole kind.Text = refl
kind_whole kind.Row = refl
kind_whole kind.MaybeInt = refl
kind_whole kind.MaybeText = refl

pub context_whole : (c : Context) → is_whole (context_name c) ≡ true
context_whole Loop = refl
context_whole Pool = refl

pub query_whole : (q : Query) → is_whole (query_name q) ≡ true
query_whole Stop = refl
query_whole Record = refl

version_whole : (q : Bool) → list_all is_whole (cond q (word_pair (codes "version") (codes "2")) []) ≡ true
version_whole true = refl
version_whole false = refl

scope_whole : (scope : ScopeKind) → list_all is_whole (scope_words scope) ≡ true
scope_whole Simple = refl
scope_whole Counting = refl

on_error_whole : (stop : Bool) → list_all is_whole (on_error_words stop) ≡ true
on_error_whole true = refl
on_error_whole false = refl

stop_whole : (count : Option ℕ) → list_all is_whole (stop_words count) ≡ true
stop_whole (Some count) = one_whole (codes "stop_after") (count_word count) refl (decimal_whole count)
stop_whole None = refl

pub settings_whole : (s : Settings) → list_all is_whole (settings_words s) ≡ true
settings_whole s =
    let last = on_error_words s.on_error_stop ++ stop_words s.stop_after in
    let input = word_pair (codes "input") (kind_name s.input) in
    both_all is_whole (version_words s.version) (input ++ (scope_words s.scope ++ last)) (version_whole (nat_eq s.version 2))
    (both_all is_whole input (scope_words s.scope ++ last) (one_whole (codes "input") (kind_name s.input) refl (kind_whole s.input))
    (both_all is_whole (scope_words s.scope) last (scope_whole s.scope)
    (both_all is_whole (on_error_words s.on_error_stop) (stop_words s.stop_after) (on_error_whole s.on_error_stop)
    (stop_whole s.stop_after))))

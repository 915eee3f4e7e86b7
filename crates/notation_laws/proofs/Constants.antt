-- Constants are read as constants.
use Rattle.std.proofs.Common.{◌≡◌, ℕ, ℤ, pos, negsuc, ◌<◌, ◌≤◌, ◌^◌, max, true, List, [], ◌∷◌, All, map, Some, None, is_some, option_and_then, option_map, cond, append-nil, refl, sym, ap, ◌∙◌, arith}
use Rattle.std.specs.Str.{IsUtf8, is_utf8}
use Rattle.std.proofs.lemmas.Bool.{cond-true}
use Rattle.std.proofs.lemmas.List.Elements.{All-head, All-tail}
use Rattle.std.proofs.lemmas.Str.{is_utf8-from_IsUtf8}
use Rattle.json.specs.Json as json
use Rattle.json.specs.Tree.{HasNumbers, ItemsHaveNumbers, depth, items_depth, json_tokens}
use Rattle.json.proofs.Printed.Decimals.{IsNumber-decimal, IsNumber-signed_decimal}
use Rattle.json.proofs.Printed.Tokens.{tokens-print}
use Rattle.json.proofs.Printed.Trees.{ArePrintable-json_tokens, value-json_tokens}
use Rattle.json.proofs.Printed.Utf8.{IsUtf8-quoted}
use Rattle.serde_json.specs.Data.{Data, array, item, number, string}
use Rattle.serde_json.specs.Read.{max_depth, of_items, of_json, read}
use Rattle.serde_json.specs.View.{items_of}
use Rattle.serde_json.specs.Written.{compact_text, items_outline, items_text, outline}
use Rattle.serde_json.proofs.Numbers.{number_of-decimal, number_of-negative}
use Rattle.serde_json.proofs.Texts.{print-outline}
use Rattle.exec_value.specs.Kinds.{IsConstant}
use Rattle.exec_value.specs.declared.data.Datum.{Datum}
use Rattle.exec_value.specs.declared.data.Datum.TheVariants as datum
use Rattle.plan_words.specs.declared.kind.TokenKind.TheVariants as kind
use Rattle.plan_words.specs.Kinds.{token_kind}
use Rattle.plan_reader.specs.Plans.{json_of}
use Rattle.plan_writer.specs.Held.{IsHeldDatum, IsLong}
use Rattle.plan_writer.specs.Values.{integer_data, row_data}
use Rattle.plan_writer.proofs.JobsBack.{number-back}
use Rattle.plan_notation.specs.declared.constant.ConstantKind.{ConstantKind}
use Rattle.plan_notation.specs.declared.constant.ConstantKind.TheVariants as constant
use Rattle.plan_notation.specs.Constants.{kind_of_value}
use Rattle.plan_notation.specs.Tokens.{constant_word, count_word, number_word, text_word}
use Rattle.notation_laws.proofs.Digits.{number_ascii, number_kind}
use Rattle.notation_laws.proofs.JobRuns.{AllRead}
use Rattle.notation_laws.proofs.JobSteps.{IsConstantToken}
use Rattle.notation_laws.proofs.NamesRead.{ascii_utf8, both_ascii, is_ascii}

-- a value's own text is read as the value
read_back : (d : Data) → HasNumbers (outline d) → depth (outline d) ≤ max_depth → of_json (outline d) ≡ Some d
    → IsUtf8 (compact_text d) → json_of (compact_text d) ≡ Some d
unfolding json_of
read_back d numbers shallow is utf8 =
    cond-true (is_utf8 (compact_text d)) (read (compact_text d)) None (is_utf8-from_IsUtf8 (compact_text d) utf8)
    ∙ ap read (sym (print-outline d))
    ∙ ap (λ o. option_and_then of_json (option_and_then (λ p. json.if_last p.0 p.1) o))
    (ap (json.value max_depth) (tokens-print (json_tokens (outline d)) (ArePrintable-json_tokens (outline d) numbers)
    ∙ sym (append-nil (json_tokens (outline d)))) ∙ value-json_tokens (outline d) max_depth [] shallow)
    ∙ is

-- ---- numbers

number_has : (n : ℤ) → IsLong n → HasNumbers (outline (integer_data n))
number_has (pos n) long = let small : n < 2 ^ 63 = long.sfits in IsNumber-decimal n (omega (arith, small))
number_has (negsuc n) long = IsNumber-signed_decimal (negsuc n) long.sfits

number_is : (n : ℤ) → IsLong n → of_json (outline (integer_data n)) ≡ Some (integer_data n)
number_is (pos n) long =
    let small : n < 2 ^ 63 = long.sfits in
    ap (option_map number) (number_of-decimal n (omega (arith, small)))
number_is (negsuc n) long = ap (option_map number) (number_of-negative n long.sfits)

text_ascii : (n : ℤ) → is_ascii (number_word n) ≡ true
text_ascii (pos n) = number_ascii (pos n)
text_ascii (negsuc n) = number_ascii (negsuc n)

word_kind : (n : ℤ) → token_kind (number_word n) ≡ kind.Constant
word_kind (pos n) = number_kind (pos n)
word_kind (negsuc n) = number_kind (negsuc n)

pub number_token : (n : ℤ) → IsLong n → IsConstantToken (number_word n) constant.Number
number_token n long = record {
  kind_is = word_kind n;
  parsed = ap (option_and_then kind_of_value)
      (read_back (integer_data n) (number_has n long) (omega arith) (number_is n long) (ascii_utf8 (number_word n) (text_ascii n)))
      ∙ ap (λ o. cond (is_some o) (Some constant.Number) None) (number-back n long);
}

pub count_token : (n : ℕ) → n < 2 ^ 63 → IsConstantToken (count_word n) constant.Number
count_token n small = number_token (pos n) (record { sfits = small })

-- ---- texts

pub text_token : (text : List ℕ) → IsUtf8 text → IsConstantToken (text_word text) constant.Text
text_token text utf8 = record {
  kind_is = refl;
  parsed = ap (option_and_then kind_of_value)
      (read_back (string text) tt (omega arith) refl (IsUtf8-quoted text utf8));
}

-- ---- rows

row_has : (ns : List ℤ) → All IsLong ns → ItemsHaveNumbers (items_outline (items_of (map integer_data ns)))
row_has [] long = tt
row_has (n ∷ ns) long =
    (number_has n (All-head IsLong n ns long), row_has ns (All-tail IsLong n ns long))

row_is : (ns : List ℤ) → All IsLong ns
    → of_items (items_outline (items_of (map integer_data ns))) ≡ Some (items_of (map integer_data ns))
row_is [] long = refl
row_is (n ∷ ns) long =
    ap (option_and_then (λ d. option_map (item d) (of_items (items_outline (items_of (map integer_data ns))))))
    (number_is n (All-head IsLong n ns long))
    ∙ ap (option_map (item (integer_data n))) (row_is ns (All-tail IsLong n ns long))

row_flat : (ns : List ℤ) → items_depth (items_outline (items_of (map integer_data ns))) ≡ 0
row_flat [] = refl
row_flat (n ∷ ns) = ap (max 0) (row_flat ns)

items_ascii : (ns : List ℤ) → is_ascii (items_text true (items_of (map integer_data ns))) ≡ true
items_ascii [] = refl
items_ascii (n ∷ ns) =
    both_ascii (number_word n) (items_text true (items_of (map integer_data ns))) (text_ascii n) (items_ascii ns)

row_ascii : (ns : List ℤ) → is_ascii (compact_text (row_data ns)) ≡ true
row_ascii [] = refl
row_ascii (n ∷ ns) =
    both_ascii (number_word n) (items_text true (items_of (map integer_data ns))) (text_ascii n) (items_ascii ns)

row_token : (ns : List ℤ) → All IsLong ns → IsConstantToken (compact_text (row_data ns)) constant.Row
row_token ns long = record {
  kind_is = refl;
  parsed = let flat = row_flat ns in
      ap (option_and_then kind_of_value)
      (read_back (row_data ns) (row_has ns long) (omega (arith, flat)) (ap (option_map array) (row_is ns long))
      (ascii_utf8 (compact_text (row_data ns)) (row_ascii ns)));
}

-- ---- any

pub constant_token : (d : Datum) → IsConstant d → IsHeldDatum d
    → (k : ConstantKind) × IsConstantToken (constant_word d) k
constant_token (datum.Int n) is held = (constant.Number, number_token n held)
constant_token (datum.Text text) is held = (constant.Text, text_token text held.utf8)
constant_token (datum.Row ns) is held = (constant.Row, row_token ns held.each)
constant_token d is held = absurd is

pub all_read : (values : List Datum) → All IsConstant values → All IsHeldDatum values → AllRead values
all_read [] are held = tt
all_read (d ∷ values) are held = (
  constant_token d (All-head IsConstant d values are) (All-head IsHeldDatum d values held),
  all_read values (All-tail IsConstant d values are) (All-tail IsHeldDatum d values held),
)

-- Arguments that are one token.
use Rattle.std.specs.Prelude.{◌≡◌, ⊤, ℕ, Bool, true, false, List, [], Option, Some, None, Result, Ok, Err, if◌then◌else◌}
use Rattle.std.specs.Str.{is_utf8}
use Rattle.plan_words.specs.declared.kind.TokenKind.{TokenKind}
use Rattle.plan_words.specs.declared.kind.TokenKind.TheVariants as kind
use Rattle.plan_words.specs.Kinds.{token_kind}
use Rattle.plan_words.specs.Lexemes.{Lexeme}
use Rattle.plan_notation.specs.declared.constant.ConstantKind.{ConstantKind}
use Rattle.plan_notation.specs.declared.wanted.Fault.{Fault}
use Rattle.plan_notation.specs.declared.wanted.Fault.TheVariants.{Refused, NoMemory}
use Rattle.plan_notation.specs.declared.wanted.Refusal.{Refusal}
use Rattle.plan_notation.specs.declared.wanted.Wanted.{Wanted}
use Rattle.plan_notation.specs.declared.wanted.Wanted.TheVariants as wanted
use Rattle.plan_notation.specs.Assembled.{quoted_word}
use Rattle.plan_notation.specs.Constants.{constant_kind, fits}
use Rattle.plan_notation.specs.Grammar.{is_one_of, wanted_words}

-- the refusal that was wanted, or want of memory
abbrev pub IsTokenFault : {A : Type 0} → Result A Refusal → Fault → Type 0
IsTokenFault read (Refused refusal) = read ≡ Err refusal
IsTokenFault read NoMemory = ⊤

-- something else is wanted at a token
abbrev pub refuse : {A : Type 0} → Lexeme → Wanted → Result A Refusal
refuse t w = Err (record { at = t.at; wanted = w })

abbrev pub same_kind : TokenKind → TokenKind → Bool
same_kind kind.Word kind.Word = true
same_kind kind.Constant kind.Constant = true
same_kind kind.Bar kind.Bar = true
same_kind kind.Open kind.Open = true
same_kind kind.Close kind.Close = true
same_kind kind.Comma kind.Comma = true
same_kind k other = false

abbrev pub is_kind : Lexeme → TokenKind → Bool
is_kind t k = same_kind (token_kind t.text) k

-- the name that a token is; one that is no UTF-8 is the empty name, which nothing has
abbrev pub token_name : List ℕ → List ℕ
token_name text = if is_utf8 text then text else []

-- a constant as it stands
abbrev pub constant_read : Option ConstantKind → Wanted → Lexeme → Result (List ℕ) Refusal
constant_read (Some k) w t = if fits w k then Ok t.text else refuse t w
constant_read None w t = refuse t w

abbrev pub constant_text : Wanted → Lexeme → Result (List ℕ) Refusal
constant_text w t = constant_read (constant_kind t.text) w t

-- a word in quotes, but a version as it stands
abbrev pub word_json : Wanted → List ℕ → List ℕ
word_json wanted.Version text = text
word_json w text = quoted_word text

abbrev pub word_text : Wanted → Lexeme → Result (List ℕ) Refusal
word_text w t =
    if is_one_of (wanted_words w) (token_name t.text) then Ok (word_json w t.text) else refuse t w

-- the JSON of a token where this is wanted
abbrev pub argument_text : Wanted → Lexeme → Result (List ℕ) Refusal
argument_text wanted.Number t = constant_text wanted.Number t
argument_text wanted.Text t = constant_text wanted.Text t
argument_text wanted.Scalar t = constant_text wanted.Scalar t
argument_text wanted.Constant t = constant_text wanted.Constant t
argument_text w t = word_text w t

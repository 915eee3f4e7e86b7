-- Arguments that are one token.
use Rattle.std.proofs.Common.{codes, ◌≡◌, ℕ, true, false, List, Ok, cond, refl, ap, ◌∙◌}
use Rattle.std.proofs.lemmas.Bool.{cond-true, false≢true}
use Rattle.json.specs.Print.{escape_byte}
use Rattle.serde_json.specs.Data.{string}
use Rattle.serde_json.specs.Written.{compact_text}
use Rattle.exec_value.specs.declared.kinds.Kind.{Kind}
use Rattle.exec_value.specs.declared.kinds.Kind.TheVariants as k
use Rattle.node_tree.specs.declared.context.Context.{Context}
use Rattle.node_tree.specs.declared.context.Context.TheVariants as context
use Rattle.plan_rules.specs.Images.{has_maybe}
use Rattle.plan_rules.specs.declared.node.Query.{Query}
use Rattle.plan_rules.specs.declared.node.Query.TheVariants as query
use Rattle.plan_words.specs.declared.kind.TokenKind.TheVariants as kind
use Rattle.plan_writer.specs.Nodes.{context_name, kind_name, query_name}
use Rattle.plan_notation.specs.declared.constant.ConstantKind.{ConstantKind}
use Rattle.plan_notation.specs.declared.wanted.Wanted.{Wanted}
use Rattle.plan_notation.specs.declared.wanted.Wanted.TheVariants as wanted
use Rattle.plan_notation.specs.Arguments.{argument_text, is_kind, refuse, same_kind, word_json, word_text}
use Rattle.plan_notation.specs.Constants.{fits}
use Rattle.plan_notation.specs.Grammar.{is_one_of, wanted_words}
use Rattle.notation_laws.proofs.JobSteps.{IsConstantToken, constant_argument, takes_constant}
use Rattle.notation_laws.proofs.NamesRead.{is_ascii, name_as}
use Rattle.notation_laws.proofs.Runs.{token}

-- such a token closes nothing, and is read as this JSON where this is wanted
pub record IsArgumentToken (want : Wanted) (w text : List ℕ) : Type 0 where
  pub no_close : is_kind (token w 0) kind.Close ≡ false
  pub read : (at : ℕ) → argument_text want (token w at) ≡ Ok text

pub constant_read : (want : Wanted) (w : List ℕ) (c : ConstantKind) → takes_constant want ≡ true → IsConstantToken w c
    → fits want c ≡ true → IsArgumentToken want w w
constant_read want w c takes is fit = record {
  no_close = ap (λ q. same_kind q kind.Close) is.kind_is;
  read = λ at. constant_argument want w c at takes is fit;
}

pub word_read : (want : Wanted) (w : List ℕ) (at : ℕ) → is_ascii w ≡ true → is_one_of (wanted_words want) w ≡ true
    → word_text want (token w at) ≡ Ok (word_json want w)
word_read want w at ascii one =
    ap (λ (name : List ℕ). cond (is_one_of (wanted_words want) name) (Ok (word_json want w)) (refuse (token w at) want)) (name_as w ascii)
    ∙ cond-true (is_one_of (wanted_words want) w) (Ok (word_json want w)) _ one

pub context_read : (on : Context) → IsArgumentToken wanted.Context (context_name on) (compact_text (string (context_name on)))
unfolding escape_byte
context_read context.Loop = record { no_close = refl; read = λ at. word_read wanted.Context (context_name context.Loop) at refl refl }
context_read context.Pool = record { no_close = refl; read = λ at. word_read wanted.Context (context_name context.Pool) at refl refl }

pub query_read : (q : Query) → IsArgumentToken wanted.Query (query_name q) (compact_text (string (query_name q)))
unfolding escape_byte
query_read query.Stop = record { no_close = refl; read = λ at. word_read wanted.Query (query_name query.Stop) at refl refl }
query_read query.Record = record { no_close = refl; read = λ at. word_read wanted.Query (query_name query.Record) at refl refl }

pub kind_read : (of : Kind) → has_maybe of ≡ true → IsArgumentToken wanted.Kind (kind_name of) (compact_text (string (kind_name of)))
unfolding escape_byte
kind_read k.Int is = record { no_close = refl; read = λ at. word_read wanted.Kind (kind_name k.Int) at refl refl }
kind_read k.Text is = record { no_close = refl; read = λ at. word_read wanted.Kind (kind_name k.Text) at refl refl }
kind_read of is = absurd (false≢true is)

-- ---- the values of settings

abbrev pub quoted_kind : Kind → List ℕ
quoted_kind of = compact_text (string (kind_name of))

pub record IsInputToken (of : Kind) : Type 0 where
  pub word : is_kind (token (kind_name of) 0) kind.Word ≡ true
  pub read : IsArgumentToken wanted.Input (kind_name of) (quoted_kind of)

pub input_token : (of : Kind) → IsInputToken of
unfolding escape_byte
input_token k.Int = record { word = refl; read = record { no_close = refl; read = λ at. word_read wanted.Input (kind_name k.Int) at refl refl } }
input_token k.Text = record { word = refl; read = record { no_close = refl; read = λ at. word_read wanted.Input (kind_name k.Text) at refl refl } }
input_token k.Row = record { word = refl; read = record { no_close = refl; read = λ at. word_read wanted.Input (kind_name k.Row) at refl refl } }
input_token k.MaybeInt = record { word = refl; read = record { no_close = refl; read = λ at. word_read wanted.Input (kind_name k.MaybeInt) at refl refl } }
input_token k.MaybeText = record { word = refl; read = record { no_close = refl; read = λ at. word_read wanted.Input (kind_name k.MaybeText) at refl refl } }

pub simple_token : IsArgumentToken wanted.Scope (codes "simple") (compact_text (string (codes "simple")))
unfolding escape_byte
simple_token = record { no_close = refl; read = λ at. word_read wanted.Scope (codes "simple") at refl refl }

pub stop_token : IsArgumentToken wanted.OnError (codes "stop") (compact_text (string (codes "stop")))
unfolding escape_byte
stop_token = record { no_close = refl; read = λ at. word_read wanted.OnError (codes "stop") at refl refl }

pub version_token : IsArgumentToken wanted.Version (codes "2") (codes "2")
version_token = record { no_close = refl; read = λ at. word_read wanted.Version (codes "2") at refl refl }

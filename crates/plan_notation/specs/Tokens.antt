-- Constants, jobs and settings as tokens.
use Rattle.std.specs.Prelude.{ℕ, ℤ, Bool, true, false, List, [], ◌∷◌, ◌++◌, Option, Some, None, map, codes, nat_eq, if◌then◌else◌}
use Rattle.std.specs.List.{flat_map}
use Rattle.serde_json.specs.Data.{number, unsigned, string}
use Rattle.serde_json.specs.Written.{compact_text}
use Rattle.exec_value.specs.declared.data.Datum.{Datum}
use Rattle.exec_job.specs.declared.job.Job.{Job}
use Rattle.exec_job.specs.declared.job.Job.TheVariants.{Add, Sub, Mul, Div, Neg, Within, Index, Fail, Iota, Sum, Append, Join, Length, Parse, Show, Give, At, IntOr, TextOr, Pass}
use Rattle.node_tree.specs.declared.scope_kind.ScopeKind.{ScopeKind}
use Rattle.node_tree.specs.declared.scope_kind.ScopeKind.TheVariants.{Simple, Counting}
use Rattle.plan_rules.specs.declared.settings.Settings.{Settings}
use Rattle.plan_writer.specs.Values.{constant_data, integer_data}
use Rattle.plan_writer.specs.Nodes.{kind_name}

-- numbers, texts and constants, as JSON has them
abbrev pub count_word : ℕ → List ℕ
count_word n = compact_text (number (unsigned n))

abbrev pub number_word : ℤ → List ℕ
number_word n = compact_text (integer_data n)

abbrev pub text_word : List ℕ → List ℕ
text_word text = compact_text (string text)

abbrev pub constant_word : Datum → List ℕ
constant_word datum = compact_text (constant_data datum)

-- constants with commas between them
abbrev pub later_constants : List Datum → List (List ℕ)
later_constants = flat_map (λ datum. codes "," ∷ constant_word datum ∷ [])

abbrev pub constants_words : List Datum → List (List ℕ)
constants_words [] = []
constants_words (datum ∷ values) = constant_word datum ∷ later_constants values

-- a job: its name, and then its constants without commas
abbrev pub word_pair : List ℕ → List ℕ → List (List ℕ)
word_pair name word = name ∷ word ∷ []

abbrev pub job_words : Job → List (List ℕ)
job_words (Add n) = word_pair (codes "add") (number_word n)
job_words (Sub n) = word_pair (codes "sub") (number_word n)
job_words (Mul n) = word_pair (codes "mul") (number_word n)
job_words (Div n) = word_pair (codes "div") (number_word n)
job_words Neg = codes "neg" ∷ []
job_words (Within lo hi) = codes "within" ∷ number_word lo ∷ number_word hi ∷ []
job_words Index = codes "index" ∷ []
job_words (Fail name) = word_pair (codes "fail") (text_word name)
job_words Iota = codes "iota" ∷ []
job_words Sum = codes "sum" ∷ []
job_words (Append text) = word_pair (codes "append") (text_word text)
job_words Join = codes "join" ∷ []
job_words Length = codes "length" ∷ []
job_words Parse = codes "parse" ∷ []
job_words Show = codes "show" ∷ []
job_words (Give values) = codes "give" ∷ map constant_word values
job_words (At place) = word_pair (codes "at") (count_word place)
job_words (IntOr n) = word_pair (codes "value_or") (number_word n)
job_words (TextOr text) = word_pair (codes "value_or") (text_word text)
job_words Pass = codes "pass" ∷ []

-- the settings: each but the kind of the records only where it isn't what stands without it
abbrev pub version_words : ℕ → List (List ℕ)
version_words n = if nat_eq n 2 then word_pair (codes "version") (codes "2") else []

abbrev pub scope_words : ScopeKind → List (List ℕ)
scope_words Simple = word_pair (codes "scope") (codes "simple")
scope_words Counting = []

abbrev pub on_error_words : Bool → List (List ℕ)
on_error_words true = word_pair (codes "on_error") (codes "stop")
on_error_words false = []

abbrev pub stop_words : Option ℕ → List (List ℕ)
stop_words (Some count) = word_pair (codes "stop_after") (count_word count)
stop_words None = []

abbrev pub settings_words : Settings → List (List ℕ)
settings_words s =
    version_words s.version
    ++ (word_pair (codes "input") (kind_name s.input)
    ++ (scope_words s.scope ++ (on_error_words s.on_error_stop ++ stop_words s.stop_after)))

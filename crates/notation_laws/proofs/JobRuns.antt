-- The tokens of a job lead to its JSON.
use Rattle.std.proofs.Common.{◌≡◌, ℕ, ℤ, Bool, true, false, List, [], ◌∷◌, ◌++◌, length, Some, codes, nat_lt, refl, sym, ap, ◌∙◌, map, append-nil, append_assoc, arith}
use Rattle.std.proofs.lemmas.Bool.{le-ltb}
use Rattle.json.specs.Print.{escape_byte}
use Rattle.serde_json.specs.Written.{compact_text}
use Rattle.exec_job.specs.declared.job.Job.{Job}
use Rattle.exec_job.specs.declared.job.Job.TheVariants as j
use Rattle.plan_words.specs.declared.kind.TokenKind.TheVariants as kind
use Rattle.plan_parts.specs.declared.job_word.JobWord.{JobWord}
use Rattle.plan_parts.specs.declared.job_word.JobWord.TheVariants as job
use Rattle.plan_parts.specs.declared.job_word.PlainJob.TheVariants as plain
use Rattle.plan_parts.specs.declared.job_word.Arithmetic.TheVariants as arithmetic
use Rattle.plan_parts.specs.JobWords.{job_named}
use Rattle.exec_value.specs.declared.data.Datum.{Datum}
use Rattle.plan_writer.specs.Jobs.{job_data}
use Rattle.plan_writer.specs.Values.{constant_data}
use Rattle.plan_notation.specs.declared.constant.ConstantKind.{ConstantKind}
use Rattle.plan_notation.specs.declared.constant.ConstantKind.TheVariants as constant
use Rattle.plan_notation.specs.declared.machine.Expect.TheVariants as expect
use Rattle.plan_notation.specs.declared.wanted.Wanted.{Wanted}
use Rattle.plan_notation.specs.declared.wanted.Wanted.TheVariants as wanted
use Rattle.plan_notation.specs.Arguments.{is_kind}
use Rattle.plan_notation.specs.Assembled.{array_text, job_json, three}
use Rattle.plan_notation.specs.Constants.{fits}
use Rattle.plan_notation.specs.Frames.{DoneSender, FrameSeen, SpotSeen}
use Rattle.plan_notation.specs.Grammar.{fewest_of_job, wanted_by_node, wanted_by_job}
use Rattle.plan_notation.specs.Machine.{allows}
use Rattle.plan_notation.specs.Settings.{Settings}
use Rattle.plan_notation.specs.States.{MachineState}
use Rattle.plan_notation.specs.Tokens.{constant_word, count_word, job_words, number_word, text_word}
use Rattle.notation_laws.proofs.Arrays.{array_json, map_map}
use Rattle.notation_laws.proofs.NamesRead.{is_ascii}
use Rattle.notation_laws.proofs.Runs.{Leads, leads_from, leads_more, leads_none, leads_one, leads_weaker, st, steps_to, token}
use Rattle.notation_laws.proofs.JobSteps.{IsConstantToken, at_argument, constant_next, job_begins, job_wanted, takes_constant}

-- constants that are read as such
abbrev pub AllRead : List Datum → Type 0
AllRead [] = Unit {0}
AllRead (d ∷ values) = ((k : ConstantKind) × IsConstantToken (constant_word d) k) × AllRead values

-- what a job's tokens lead to
pub record JobRead (job : Job) (said : Settings) (sender : DoneSender) (frames : List FrameSeen) (spots : List SpotSeen) (new : MachineState) : Type 0 where
  pub word : JobWord
  pub cs : List (List ℕ)
  pub is : new ≡ st said (expect.Job word) sender frames cs spots
  pub enough : nat_lt (length cs) (fewest_of_job word) ≡ false
  pub text : job_json word cs ≡ compact_text (job_data job)

module _ (said : Settings) (sender : DoneSender) (f : FrameSeen) (fs : List FrameSeen) (spots : List SpotSeen)
    (elements first : Bool) (cs : List (List ℕ)) (is : wanted_by_node f.word (length f.arguments) ≡ Some (job_wanted elements)) where
  abbrev start : MachineState
  start = st said (at_argument first) sender (f ∷ fs) cs spots

  abbrev Reads : Job → MachineState → Type 0
  Reads job new = JobRead job said sender (f ∷ fs) spots new

  -- a job without constants
  plain_run : (w : List ℕ) (word : JobWord) (job : Job) → is_ascii w ≡ true → is_kind (token w 0) kind.Close ≡ false
      → job_named w ≡ Some word → allows (job_wanted elements) word ≡ true
      → nat_lt 0 (fewest_of_job word) ≡ false → job_json word [] ≡ compact_text (job_data job)
      → Leads (w ∷ []) start (Reads job)
  plain_run w word job ascii begins named allowed enough text =
      leads_one w start (Reads job)
      (steps_to w start (λ at. st said (expect.Job word) sender (f ∷ fs) [] spots)
      (λ at. job_begins said sender f fs spots elements first cs w word at ascii begins named allowed is) (Reads job)
      (λ at. record { word = word; cs = []; is = refl; enough = enough; text = text }))

  -- a job with one constant
  one_run : (w : List ℕ) (word : JobWord) (c : List ℕ) (k : ConstantKind) (want : Wanted) (job : Job)
      → is_ascii w ≡ true → is_kind (token w 0) kind.Close ≡ false → job_named w ≡ Some word → allows (job_wanted elements) word ≡ true
      → wanted_by_job word 0 ≡ Some want → takes_constant want ≡ true → IsConstantToken c k → fits want k ≡ true
      → nat_lt 1 (fewest_of_job word) ≡ false → job_json word (c ∷ []) ≡ compact_text (job_data job)
      → Leads (w ∷ c ∷ []) start (Reads job)
  one_run w word c k want job ascii begins named allowed wants takes token_is fit enough text =
      leads_more w (c ∷ []) start (λ m. m ≡ st said (expect.Job word) sender (f ∷ fs) [] spots) (Reads job)
      (steps_to w start (λ at. st said (expect.Job word) sender (f ∷ fs) [] spots)
      (λ at. job_begins said sender f fs spots elements first cs w word at ascii begins named allowed is)
      (λ m. m ≡ st said (expect.Job word) sender (f ∷ fs) [] spots) (λ at. refl))
      (λ m e. leads_from (c ∷ []) m (st said (expect.Job word) sender (f ∷ fs) [] spots) (Reads job) e
      (leads_one c (st said (expect.Job word) sender (f ∷ fs) [] spots) (Reads job)
      (steps_to c (st said (expect.Job word) sender (f ∷ fs) [] spots) (λ at. st said (expect.Job word) sender (f ∷ fs) (c ∷ []) spots)
      (λ at. constant_next said sender (f ∷ fs) spots word [] want c k at takes token_is fit wants) (Reads job)
      (λ at. record { word = word; cs = c ∷ []; is = refl; enough = enough; text = text }))))

  pub neg_run : allows (job_wanted elements) (job.Plain plain.Neg) ≡ true → Leads (job_words j.Neg) start (Reads j.Neg)
  unfolding escape_byte
  neg_run allowed = plain_run (codes "neg") (job.Plain plain.Neg) j.Neg refl refl refl allowed refl refl

  pub index_run : allows (job_wanted elements) (job.Plain plain.Index) ≡ true → Leads (job_words j.Index) start (Reads j.Index)
  unfolding escape_byte
  index_run allowed = plain_run (codes "index") (job.Plain plain.Index) j.Index refl refl refl allowed refl refl

  pub iota_run : allows (job_wanted elements) (job.Plain plain.Iota) ≡ true → Leads (job_words j.Iota) start (Reads j.Iota)
  unfolding escape_byte
  iota_run allowed = plain_run (codes "iota") (job.Plain plain.Iota) j.Iota refl refl refl allowed refl refl

  pub sum_run : allows (job_wanted elements) (job.Plain plain.Sum) ≡ true → Leads (job_words j.Sum) start (Reads j.Sum)
  unfolding escape_byte
  sum_run allowed = plain_run (codes "sum") (job.Plain plain.Sum) j.Sum refl refl refl allowed refl refl

  pub join_run : allows (job_wanted elements) (job.Plain plain.Join) ≡ true → Leads (job_words j.Join) start (Reads j.Join)
  unfolding escape_byte
  join_run allowed = plain_run (codes "join") (job.Plain plain.Join) j.Join refl refl refl allowed refl refl

  pub length_run : allows (job_wanted elements) (job.Plain plain.Length) ≡ true → Leads (job_words j.Length) start (Reads j.Length)
  unfolding escape_byte
  length_run allowed = plain_run (codes "length") (job.Plain plain.Length) j.Length refl refl refl allowed refl refl

  pub parse_run : allows (job_wanted elements) (job.Plain plain.Parse) ≡ true → Leads (job_words j.Parse) start (Reads j.Parse)
  unfolding escape_byte
  parse_run allowed = plain_run (codes "parse") (job.Plain plain.Parse) j.Parse refl refl refl allowed refl refl

  pub show_run : allows (job_wanted elements) (job.Plain plain.Show) ≡ true → Leads (job_words j.Show) start (Reads j.Show)
  unfolding escape_byte
  show_run allowed = plain_run (codes "show") (job.Plain plain.Show) j.Show refl refl refl allowed refl refl

  pub pass_run : allows (job_wanted elements) (job.Plain plain.Pass) ≡ true → Leads (job_words j.Pass) start (Reads j.Pass)
  unfolding escape_byte
  pass_run allowed = plain_run (codes "pass") (job.Plain plain.Pass) j.Pass refl refl refl allowed refl refl

  pub add_run : (n : ℤ) → IsConstantToken (number_word n) constant.Number
      → allows (job_wanted elements) (job.Arithmetic arithmetic.Add) ≡ true → Leads (job_words (j.Add n)) start (Reads (j.Add n))
  unfolding escape_byte
  add_run n token_is allowed =
      one_run (codes "add") (job.Arithmetic arithmetic.Add) (number_word n) constant.Number wanted.Number (j.Add n) refl refl refl allowed
      refl refl token_is refl refl refl

  pub sub_run : (n : ℤ) → IsConstantToken (number_word n) constant.Number
      → allows (job_wanted elements) (job.Arithmetic arithmetic.Sub) ≡ true → Leads (job_words (j.Sub n)) start (Reads (j.Sub n))
  unfolding escape_byte
  sub_run n token_is allowed =
      one_run (codes "sub") (job.Arithmetic arithmetic.Sub) (number_word n) constant.Number wanted.Number (j.Sub n) refl refl refl allowed
      refl refl token_is refl refl refl

  pub mul_run : (n : ℤ) → IsConstantToken (number_word n) constant.Number
      → allows (job_wanted elements) (job.Arithmetic arithmetic.Mul) ≡ true → Leads (job_words (j.Mul n)) start (Reads (j.Mul n))
  unfolding escape_byte
  mul_run n token_is allowed =
      one_run (codes "mul") (job.Arithmetic arithmetic.Mul) (number_word n) constant.Number wanted.Number (j.Mul n) refl refl refl allowed
      refl refl token_is refl refl refl

  pub div_run : (n : ℤ) → IsConstantToken (number_word n) constant.Number
      → allows (job_wanted elements) (job.Arithmetic arithmetic.Div) ≡ true → Leads (job_words (j.Div n)) start (Reads (j.Div n))
  unfolding escape_byte
  div_run n token_is allowed =
      one_run (codes "div") (job.Arithmetic arithmetic.Div) (number_word n) constant.Number wanted.Number (j.Div n) refl refl refl allowed
      refl refl token_is refl refl refl

  pub fail_run : (name : List ℕ) → IsConstantToken (text_word name) constant.Text
      → allows (job_wanted elements) job.Fail ≡ true → Leads (job_words (j.Fail name)) start (Reads (j.Fail name))
  unfolding escape_byte
  fail_run name token_is allowed =
      one_run (codes "fail") job.Fail (text_word name) constant.Text wanted.Text (j.Fail name) refl refl refl allowed
      refl refl token_is refl refl refl

  pub append_run : (text : List ℕ) → IsConstantToken (text_word text) constant.Text
      → allows (job_wanted elements) job.Append ≡ true → Leads (job_words (j.Append text)) start (Reads (j.Append text))
  unfolding escape_byte
  append_run text token_is allowed =
      one_run (codes "append") job.Append (text_word text) constant.Text wanted.Text (j.Append text) refl refl refl allowed
      refl refl token_is refl refl refl

  pub at_run : (place : ℕ) → IsConstantToken (count_word place) constant.Number
      → allows (job_wanted elements) job.At ≡ true → Leads (job_words (j.At place)) start (Reads (j.At place))
  unfolding escape_byte
  at_run place token_is allowed =
      one_run (codes "at") job.At (count_word place) constant.Number wanted.Number (j.At place) refl refl refl allowed
      refl refl token_is refl refl refl

  pub int_or_run : (n : ℤ) → IsConstantToken (number_word n) constant.Number
      → allows (job_wanted elements) job.ValueOr ≡ true → Leads (job_words (j.IntOr n)) start (Reads (j.IntOr n))
  unfolding escape_byte
  int_or_run n token_is allowed =
      one_run (codes "value_or") job.ValueOr (number_word n) constant.Number wanted.Scalar (j.IntOr n) refl refl refl allowed
      refl refl token_is refl refl refl

  pub text_or_run : (text : List ℕ) → IsConstantToken (text_word text) constant.Text
      → allows (job_wanted elements) job.ValueOr ≡ true → Leads (job_words (j.TextOr text)) start (Reads (j.TextOr text))
  unfolding escape_byte
  text_or_run text token_is allowed =
      one_run (codes "value_or") job.ValueOr (text_word text) constant.Text wanted.Scalar (j.TextOr text) refl refl refl allowed
      refl refl token_is refl refl refl

  -- a token more of a job
  more_run : (word : JobWord) (cs : List (List ℕ)) (want : Wanted) (w : List ℕ) (k : ConstantKind) (words : List (List ℕ)) (P : MachineState → Type 0)
      → takes_constant want ≡ true → IsConstantToken w k → fits want k ≡ true → wanted_by_job word (length cs) ≡ Some want
      → Leads words (st said (expect.Job word) sender (f ∷ fs) (cs ++ w ∷ []) spots) P
      → Leads (w ∷ words) (st said (expect.Job word) sender (f ∷ fs) cs spots) P
  more_run word cs want w k words P takes token_is fit wants later =
      let to = st said (expect.Job word) sender (f ∷ fs) (cs ++ w ∷ []) spots in
      leads_more w words (st said (expect.Job word) sender (f ∷ fs) cs spots) (λ m. m ≡ to) P
      (steps_to w (st said (expect.Job word) sender (f ∷ fs) cs spots) (λ at. to)
      (λ at. constant_next said sender (f ∷ fs) spots word cs want w k at takes token_is fit wants) (λ m. m ≡ to) (λ at. refl))
      (λ m e. leads_from words m to P e later)

  name_run : (w : List ℕ) (word : JobWord) (words : List (List ℕ)) (P : MachineState → Type 0) → is_ascii w ≡ true → is_kind (token w 0) kind.Close ≡ false
      → job_named w ≡ Some word → allows (job_wanted elements) word ≡ true
      → Leads words (st said (expect.Job word) sender (f ∷ fs) [] spots) P → Leads (w ∷ words) start P
  name_run w word words P ascii begins named allowed later =
      let to = st said (expect.Job word) sender (f ∷ fs) [] spots in
      leads_more w words start (λ m. m ≡ to) P
      (steps_to w start (λ at. to)
      (λ at. job_begins said sender f fs spots elements first cs w word at ascii begins named allowed is) (λ m. m ≡ to) (λ at. refl))
      (λ m e. leads_from words m to P e later)

  pub within_run : (lo hi : ℤ) → IsConstantToken (number_word lo) constant.Number → IsConstantToken (number_word hi) constant.Number
      → allows (job_wanted elements) job.Within ≡ true → Leads (job_words (j.Within lo hi)) start (Reads (j.Within lo hi))
  unfolding escape_byte
  within_run lo hi lo_is hi_is allowed =
      name_run (codes "within") job.Within (number_word lo ∷ number_word hi ∷ []) (Reads (j.Within lo hi)) refl refl refl allowed
      (more_run job.Within [] wanted.Number (number_word lo) constant.Number (number_word hi ∷ []) (Reads (j.Within lo hi)) refl lo_is refl refl
      (more_run job.Within (number_word lo ∷ []) wanted.Number (number_word hi) constant.Number [] (Reads (j.Within lo hi)) refl hi_is refl refl
      (leads_none (st said (expect.Job job.Within) sender (f ∷ fs) (number_word lo ∷ number_word hi ∷ []) spots) (Reads (j.Within lo hi))
      (record { word = job.Within; cs = number_word lo ∷ number_word hi ∷ []; is = refl; enough = refl; text = refl }))))

  -- constants, without commas
  give_more : (values : List Datum) (cs : List (List ℕ)) → AllRead values
      → Leads (map constant_word values) (st said (expect.Job job.Give) sender (f ∷ fs) cs spots)
      (λ m. m ≡ st said (expect.Job job.Give) sender (f ∷ fs) (cs ++ map constant_word values) spots)
  give_more [] cs all =
      leads_none (st said (expect.Job job.Give) sender (f ∷ fs) cs spots)
      (λ m. m ≡ st said (expect.Job job.Give) sender (f ∷ fs) (cs ++ []) spots)
      (ap (λ (l : List (List ℕ)). st said (expect.Job job.Give) sender (f ∷ fs) l spots) (sym (append-nil cs)))
  give_more (d ∷ values) cs all =
      more_run job.Give cs wanted.Constant (constant_word d) all.0.0 (map constant_word values)
      (λ m. m ≡ st said (expect.Job job.Give) sender (f ∷ fs) (cs ++ constant_word d ∷ map constant_word values) spots)
      refl all.0.1 refl refl
      (leads_weaker (map constant_word values) (st said (expect.Job job.Give) sender (f ∷ fs) (cs ++ constant_word d ∷ []) spots)
      (λ m. m ≡ st said (expect.Job job.Give) sender (f ∷ fs) ((cs ++ constant_word d ∷ []) ++ map constant_word values) spots)
      (λ m. m ≡ st said (expect.Job job.Give) sender (f ∷ fs) (cs ++ constant_word d ∷ map constant_word values) spots)
      (λ m e. e ∙ ap (λ (l : List (List ℕ)). st said (expect.Job job.Give) sender (f ∷ fs) l spots)
      (append_assoc cs (constant_word d ∷ []) (map constant_word values)))
      (give_more values (cs ++ constant_word d ∷ []) all.1))

  give_text : (values : List Datum) → job_json job.Give (map constant_word values) ≡ compact_text (job_data (j.Give values))
  unfolding escape_byte
  give_text values =
      ap (λ (a : List ℕ). three (codes "{\"job\":\"give\",\"values\":") a (codes "}"))
      (ap array_text (sym (map_map compact_text constant_data values)) ∙ array_json (map constant_data values))

  pub give_run : (values : List Datum) → AllRead values → allows (job_wanted elements) job.Give ≡ true
      → Leads (job_words (j.Give values)) start (Reads (j.Give values))
  give_run values all allowed =
      name_run (codes "give") job.Give (map constant_word values) (Reads (j.Give values)) refl refl refl allowed
      (leads_weaker (map constant_word values) (st said (expect.Job job.Give) sender (f ∷ fs) [] spots)
      (λ m. m ≡ st said (expect.Job job.Give) sender (f ∷ fs) (map constant_word values) spots) (Reads (j.Give values))
      (λ m e. record {
        word = job.Give;
        cs = map constant_word values;
        is = e;
        enough = le-ltb (length (map constant_word values)) 0 (omega arith);
        text = give_text values;
      })
      (give_more values [] all))

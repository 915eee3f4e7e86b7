-- The tokens of any job lead to its JSON.
use Rattle.std.proofs.Common.{◌≡◌, ◌∷◌, ℕ, Bool, true, List, length, Some}
use Rattle.exec_job.specs.declared.job.Job.{Job}
use Rattle.exec_job.specs.declared.job.Job.TheVariants as j
use Rattle.plan_parts.specs.declared.job_word.JobWord.{JobWord}
use Rattle.plan_parts.specs.declared.job_word.JobWord.TheVariants as job
use Rattle.plan_parts.specs.declared.job_word.PlainJob.TheVariants as plain
use Rattle.plan_parts.specs.declared.job_word.Arithmetic.TheVariants as arithmetic
use Rattle.plan_notation.specs.declared.constant.ConstantKind.TheVariants as constant
use Rattle.plan_notation.specs.Frames.{DoneSender, FrameSeen, SpotSeen}
use Rattle.plan_notation.specs.Grammar.{wanted_by_node}
use Rattle.plan_notation.specs.Machine.{allows}
use Rattle.plan_notation.specs.Settings.{Settings}
use Rattle.plan_notation.specs.Tokens.{count_word, job_words, number_word, text_word}
use Rattle.notation_laws.proofs.JobRuns.{AllRead, JobRead, add_run, append_run, at_run, div_run, fail_run, give_run, index_run, int_or_run, iota_run, join_run, length_run, mul_run, neg_run, parse_run, pass_run, show_run, sub_run, sum_run, text_or_run, within_run}
use Rattle.notation_laws.proofs.JobSteps.{IsConstantToken, at_argument, job_wanted}
use Rattle.notation_laws.proofs.Runs.{Leads, st}

abbrev pub word_of : Job → JobWord
word_of (j.Add n) = job.Arithmetic arithmetic.Add
word_of (j.Sub n) = job.Arithmetic arithmetic.Sub
word_of (j.Mul n) = job.Arithmetic arithmetic.Mul
word_of (j.Div n) = job.Arithmetic arithmetic.Div
word_of j.Neg = job.Plain plain.Neg
word_of (j.Within lo hi) = job.Within
word_of j.Index = job.Plain plain.Index
word_of (j.Fail name) = job.Fail
word_of j.Iota = job.Plain plain.Iota
word_of j.Sum = job.Plain plain.Sum
word_of (j.Append text) = job.Append
word_of j.Join = job.Plain plain.Join
word_of j.Length = job.Plain plain.Length
word_of j.Parse = job.Plain plain.Parse
word_of j.Show = job.Plain plain.Show
word_of (j.Give values) = job.Give
word_of (j.At place) = job.At
word_of (j.IntOr n) = job.ValueOr
word_of (j.TextOr text) = job.ValueOr
word_of j.Pass = job.Plain plain.Pass

-- its constants are read as constants
abbrev pub HasTokens : Job → Type 0
HasTokens (j.Add n) = IsConstantToken (number_word n) constant.Number
HasTokens (j.Sub n) = IsConstantToken (number_word n) constant.Number
HasTokens (j.Mul n) = IsConstantToken (number_word n) constant.Number
HasTokens (j.Div n) = IsConstantToken (number_word n) constant.Number
HasTokens (j.Within lo hi) =
    IsConstantToken (number_word lo) constant.Number × IsConstantToken (number_word hi) constant.Number
HasTokens (j.Fail name) = IsConstantToken (text_word name) constant.Text
HasTokens (j.Append text) = IsConstantToken (text_word text) constant.Text
HasTokens (j.Give values) = AllRead values
HasTokens (j.At place) = IsConstantToken (count_word place) constant.Number
HasTokens (j.IntOr n) = IsConstantToken (number_word n) constant.Number
HasTokens (j.TextOr text) = IsConstantToken (text_word text) constant.Text
HasTokens job = Unit {0}

module _ (said : Settings) (sender : DoneSender) (f : FrameSeen) (fs : List FrameSeen) (spots : List SpotSeen)
    (elements first : Bool) (cs : List (List ℕ)) (is : wanted_by_node f.word (length f.arguments) ≡ Some (job_wanted elements)) where
  pub job_run : (job : Job) → HasTokens job → allows (job_wanted elements) (word_of job) ≡ true
      → Leads (job_words job) (st said (at_argument first) sender (f ∷ fs) cs spots) (JobRead job said sender (f ∷ fs) spots)
  job_run (j.Add n) has = add_run said sender f fs spots elements first cs is n has
  job_run (j.Sub n) has = sub_run said sender f fs spots elements first cs is n has
  job_run (j.Mul n) has = mul_run said sender f fs spots elements first cs is n has
  job_run (j.Div n) has = div_run said sender f fs spots elements first cs is n has
  job_run j.Neg has = neg_run said sender f fs spots elements first cs is
  job_run (j.Within lo hi) has = within_run said sender f fs spots elements first cs is lo hi has.0 has.1
  job_run j.Index has = index_run said sender f fs spots elements first cs is
  job_run (j.Fail name) has = fail_run said sender f fs spots elements first cs is name has
  job_run j.Iota has = iota_run said sender f fs spots elements first cs is
  job_run j.Sum has = sum_run said sender f fs spots elements first cs is
  job_run (j.Append text) has = append_run said sender f fs spots elements first cs is text has
  job_run j.Join has = join_run said sender f fs spots elements first cs is
  job_run j.Length has = length_run said sender f fs spots elements first cs is
  job_run j.Parse has = parse_run said sender f fs spots elements first cs is
  job_run j.Show has = show_run said sender f fs spots elements first cs is
  job_run (j.Give values) has = give_run said sender f fs spots elements first cs is values has
  job_run (j.At place) has = at_run said sender f fs spots elements first cs is place has
  job_run (j.IntOr n) has = int_or_run said sender f fs spots elements first cs is n has
  job_run (j.TextOr text) has = text_or_run said sender f fs spots elements first cs is text has
  job_run j.Pass has = pass_run said sender f fs spots elements first cs is

-- The constants of a job of a plan are read as constants.
use Rattle.std.proofs.Common.{◌≡◌, true, arith, refl}
use Rattle.std.proofs.lemmas.Bool.{false≢true}
use Rattle.exec_job.specs.Takes.{is_element}
use Rattle.exec_job.specs.declared.job.Job.{Job}
use Rattle.exec_job.specs.declared.job.Job.TheVariants as j
use Rattle.plan_shape.specs.Conditions.{IsLawfulJob}
use Rattle.plan_writer.specs.Held.{IsHeldJob}
use Rattle.plan_notation.specs.Grammar.{is_element_word}
use Rattle.notation_laws.proofs.Constants.{all_read, count_token, number_token, text_token}
use Rattle.notation_laws.proofs.JobRun.{HasTokens, word_of}
use Rattle.notation_laws.proofs.Names.{error_name_utf8}

pub has_tokens : (job : Job) → IsLawfulJob job → IsHeldJob job → HasTokens job
has_tokens (j.Add n) lawful held = number_token n held
has_tokens (j.Sub n) lawful held = number_token n held
has_tokens (j.Mul n) lawful held = number_token n held
has_tokens (j.Div n) lawful held = number_token n held
has_tokens j.Neg lawful held = tt
has_tokens (j.Within lo hi) lawful held = (number_token lo held.0, number_token hi held.1)
has_tokens j.Index lawful held = tt
has_tokens (j.Fail name) lawful held = text_token name (error_name_utf8 name lawful)
has_tokens j.Iota lawful held = tt
has_tokens j.Sum lawful held = tt
has_tokens (j.Append text) lawful held = text_token text held.utf8
has_tokens j.Join lawful held = tt
has_tokens j.Length lawful held = tt
has_tokens j.Parse lawful held = tt
has_tokens j.Show lawful held = tt
has_tokens (j.Give values) lawful held = all_read values lawful held.each
has_tokens (j.At place) lawful held = count_token place (omega (arith, lawful))
has_tokens (j.IntOr n) lawful held = number_token n held
has_tokens (j.TextOr text) lawful held = text_token text held.utf8
has_tokens j.Pass lawful held = tt

-- an element job is one by its name
pub element_named : (job : Job) → is_element job ≡ true → is_element_word (word_of job) ≡ true
element_named (j.Add n) is = refl
element_named (j.Sub n) is = refl
element_named (j.Mul n) is = refl
element_named (j.Div n) is = refl
element_named j.Neg is = refl
element_named (j.Within lo hi) is = refl
element_named j.Index is = refl
element_named job is = absurd (false≢true is)

pub element_lawful : (job : Job) → is_element job ≡ true → IsLawfulJob job
element_lawful (j.Add n) is = tt
element_lawful (j.Sub n) is = tt
element_lawful (j.Mul n) is = tt
element_lawful (j.Div n) is = tt
element_lawful j.Neg is = tt
element_lawful (j.Within lo hi) is = tt
element_lawful j.Index is = tt
element_lawful job is = absurd (false≢true is)

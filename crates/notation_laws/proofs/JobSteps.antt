-- How a job's name and a constant of it are read.
use Rattle.std.proofs.Common.{◌≡◌, ℕ, ◌||◌, Bool, true, false, List, [], ◌∷◌, ◌++◌, length, Option, Some, Ok, cond, refl, ap, ◌∙◌}
use Rattle.std.proofs.lemmas.Bool.{cond-false, cond-true, false≢true}
use Rattle.plan_words.specs.declared.kind.TokenKind.TheVariants as kind
use Rattle.plan_words.specs.Kinds.{token_kind}
use Rattle.plan_parts.specs.declared.job_word.JobWord.{JobWord}
use Rattle.plan_parts.specs.JobWords.{job_named}
use Rattle.plan_notation.specs.declared.constant.ConstantKind.{ConstantKind}
use Rattle.plan_notation.specs.declared.machine.Expect.{Expect}
use Rattle.plan_notation.specs.declared.machine.Expect.TheVariants as expect
use Rattle.plan_notation.specs.declared.wanted.Wanted.{Wanted}
use Rattle.plan_notation.specs.declared.wanted.Wanted.TheVariants as wanted
use Rattle.plan_notation.specs.Arguments.{argument_text, constant_read, is_kind, same_kind}
use Rattle.plan_notation.specs.Constants.{constant_kind, fits}
use Rattle.plan_notation.specs.Frames.{DoneSender, FrameSeen, SpotSeen}
use Rattle.plan_notation.specs.Grammar.{wanted_by_node, wanted_by_job}
use Rattle.plan_notation.specs.Machine.{allows, argued, argument, end_job, named_job, next_constant, token_step, with_read}
use Rattle.plan_notation.specs.Settings.{Settings}
use Rattle.notation_laws.proofs.NamesRead.{is_ascii, name_as}
use Rattle.notation_laws.proofs.Runs.{st, token}

-- an argument may come next: the first, or a later one
abbrev pub at_argument : Bool → Expect
at_argument true = expect.First
at_argument false = expect.Argument

-- a job is wanted, over elements or any
abbrev pub job_wanted : Bool → Wanted
job_wanted true = wanted.ElementJob
job_wanted false = wanted.Job

module _ (said : Settings) (sender : DoneSender) (f : FrameSeen) (fs : List FrameSeen) (spots : List SpotSeen) where
  -- a token that closes nothing is an argument
  pub argument_next : (first : Bool) (cs : List (List ℕ)) (w : List ℕ) (at : ℕ) → is_kind (token w at) kind.Close ≡ false
      → token_step (token w at) (st said (at_argument first) sender (f ∷ fs) cs spots)
      ≡ argued (wanted_by_node f.word (length f.arguments)) f (token w at) (st said (at_argument first) sender fs cs spots)
  argument_next true cs w at h = cond-false (is_kind (token w at) kind.Close) _ (argument (token w at) (st said expect.First sender (f ∷ fs) cs spots)) h
  argument_next false cs w at h = refl

  -- a job's name
  begun : (elements first : Bool) (cs : List (List ℕ)) (w : List ℕ) (word : JobWord) (at : ℕ)
      → is_ascii w ≡ true → job_named w ≡ Some word → allows (job_wanted elements) word ≡ true
      → argued (Some (job_wanted elements)) f (token w at) (st said (at_argument first) sender fs cs spots)
      ≡ Ok (st said (expect.Job word) sender (f ∷ fs) [] spots)
  begun true first cs w word at ascii named allowed =
      ap (λ (o : Option JobWord). named_job o wanted.ElementJob (token w at) (st said (at_argument first) sender (f ∷ fs) cs spots))
      (ap job_named (name_as w ascii) ∙ named)
      ∙ cond-true (allows wanted.ElementJob word) _ _ allowed
  begun false first cs w word at ascii named allowed =
      ap (λ (o : Option JobWord). named_job o wanted.Job (token w at) (st said (at_argument first) sender (f ∷ fs) cs spots))
      (ap job_named (name_as w ascii) ∙ named)

  pub job_begins : (elements first : Bool) (cs : List (List ℕ)) (w : List ℕ) (word : JobWord) (at : ℕ)
      → is_ascii w ≡ true → is_kind (token w at) kind.Close ≡ false → job_named w ≡ Some word
      → allows (job_wanted elements) word ≡ true
      → wanted_by_node f.word (length f.arguments) ≡ Some (job_wanted elements)
      → token_step (token w at) (st said (at_argument first) sender (f ∷ fs) cs spots) ≡ Ok (st said (expect.Job word) sender (f ∷ fs) [] spots)
  job_begins elements first cs w word at ascii begins named allowed is =
      argument_next first cs w at begins
      ∙ ap (λ (o : Option Wanted). argued o f (token w at) (st said (at_argument first) sender fs cs spots)) is
      ∙ begun elements first cs w word at ascii named allowed

-- a constant of a job
abbrev pub takes_constant : Wanted → Bool
takes_constant wanted.Number = true
takes_constant wanted.Text = true
takes_constant wanted.Scalar = true
takes_constant wanted.Constant = true
takes_constant w = false

pub record IsConstantToken (w : List ℕ) (k : ConstantKind) : Type 0 where
  pub kind_is : token_kind w ≡ kind.Constant
  pub parsed : constant_kind w ≡ Some k

pub constant_argument : (want : Wanted) (w : List ℕ) (k : ConstantKind) (at : ℕ) → takes_constant want ≡ true
    → IsConstantToken w k → fits want k ≡ true → argument_text want (token w at) ≡ Ok w
constant_argument wanted.Number w k at h is fit =
    ap (λ (o : Option ConstantKind). constant_read o wanted.Number (token w at)) is.parsed ∙ cond-true (fits wanted.Number k) _ _ fit
constant_argument wanted.Text w k at h is fit =
    ap (λ (o : Option ConstantKind). constant_read o wanted.Text (token w at)) is.parsed ∙ cond-true (fits wanted.Text k) _ _ fit
constant_argument wanted.Scalar w k at h is fit =
    ap (λ (o : Option ConstantKind). constant_read o wanted.Scalar (token w at)) is.parsed ∙ cond-true (fits wanted.Scalar k) _ _ fit
constant_argument wanted.Constant w k at h is fit =
    ap (λ (o : Option ConstantKind). constant_read o wanted.Constant (token w at)) is.parsed
constant_argument want w k at h is fit = absurd (false≢true h)

pub constant_next : (said : Settings) (sender : DoneSender) (frames : List FrameSeen) (spots : List SpotSeen) (word : JobWord)
    (cs : List (List ℕ)) (want : Wanted) (w : List ℕ) (k : ConstantKind) (at : ℕ)
    → takes_constant want ≡ true → IsConstantToken w k → fits want k ≡ true → wanted_by_job word (length cs) ≡ Some want
    → token_step (token w at) (st said (expect.Job word) sender frames cs spots) ≡ Ok (st said (expect.Job word) sender frames (cs ++ w ∷ []) spots)
constant_next said sender frames spots word cs want w k at takes is fit next =
    let s = st said (expect.Job word) sender frames cs spots in
    ap (λ q. cond (same_kind q kind.Comma || same_kind q kind.Close) (end_job word (token w at) s)
    (next_constant (wanted_by_job word (length cs)) (token w at) s)) is.kind_is
    ∙ ap (λ (o : Option Wanted). next_constant o (token w at) s) next
    ∙ ap (λ r. with_read r s) (constant_argument want w k at takes is fit)

-- What the bytes of a file have is had by the file of the name.
use Rattle.std.proofs.Common.{ℕ, List, Option, Result, Ok, Err}
use Rattle.std.specs.Prelude.{IfOk, IfErr}
use Rattle.exec_io.specs.Shelves.{Texts, Gives}
use Rattle.exec_status.specs.declared.file.FileFault.{FileFault}
use Rattle.exec_status.specs.declared.status.Status.{Status}
use Rattle.exec_status.specs.Files.{IsFaultOf, Misses}
use Rattle.exec_status.proofs.Missing.{bytes-miss}
use Rattle.trace_text.specs.declared.limits.TheConstants.{FILE_BYTES}
use Rattle.trace_commands.specs.declared.file.Refusal.{Refusal}
use Rattle.trace_commands.specs.Answers.{Question, HasAnswer}
use Rattle.trace_commands.specs.Refusals.{HasRefusal}

module _ {T : Type 0} (question : Question) (texts : Option Texts) (name bytes : List ℕ) (given : Gives FILE_BYTES texts name bytes) where
  -- an answer to the bytes
  pub answer-of : (status : T → Status) (text : T → List ℕ) (r : Result T (FileFault Refusal)) → IfOk r (λ x. question.answers bytes (status x) (text x)) → IfOk r (λ x. HasAnswer question texts name (status x) (text x))
  answer-of status text (Ok x) is = record { bytes = bytes; given = given; answer = is }
  answer-of status text (Err fault) is = tt

  -- a fault of the bytes
  pub miss-of : (r : Result T (FileFault Refusal)) → IfErr r (IsFaultOf (question.refuses bytes)) → IfErr r (Misses (HasRefusal question texts name))
  miss-of r = bytes-miss (question.refuses bytes) (HasRefusal question texts name) r (λ cause is. record { bytes = bytes; given = given; is = is })

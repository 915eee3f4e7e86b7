use Rattle.std.proofs.Common.{true, false, refl}
use Rattle.std.proofs.lemmas.Bool.{both_ways}
use Rattle.run_loop.proofs.loop_mail.LoopMail.fetch_one.Goals as goal

pub returns-then-is_err-clause-one : goal.returns-then-is_err-clause-one
returns-then-is_err-clause-one g c found = absurd (both_ways false refl found)

pub returns-in_default-clause-one : goal.returns-in_default-clause-one
returns-in_default-clause-one g c found = absurd (both_ways false refl found)

pub returns-clause-none : goal.returns-clause-none
returns-clause-none g c none = absurd (both_ways true none refl)

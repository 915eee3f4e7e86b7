-- Words ask for a run by no more workers than there may be, of at least one record at once, and of
-- no more records than there may be.
use Rattle.std.proofs.Common.{◌≡◌, ℕ, Bool, List, Some, arith}
use Rattle.std.specs.Borrow.{Bor}
use Rattle.exec_words.specs.declared.command.Command.TheVariants.{Run, Gen}
use Rattle.exec_words.specs.declared.command.Options.{Options}
use Rattle.exec_words.specs.Command.{command_of}
use Rattle.exec_words.proofs.Bounds.{run-within, gen-within}
use Rattle.exec_engine.specs.Tasks.{IsBounded, run_task, gen_task}

pub run-bounded : (words : List (Bor (List ℕ))) (plan : Bor (List ℕ)) (options : Options) (summary : Bool) → command_of words ≡ Some (Run plan options summary) → IsBounded (run_task plan options summary)
run-bounded words plan options summary is =
    let good = run-within words plan options summary is in
    record { workers = good.1; some = omega (arith, good.0.0); most = good.0.1; few = tt }

pub gen-bounded : (words : List (Bor (List ℕ))) (plan : Bor (List ℕ)) (count : ℕ) (options : Options) → command_of words ≡ Some (Gen plan count options) → IsBounded (gen_task plan count options)
gen-bounded words plan count options is =
    let good = gen-within words plan count options is in
    record { workers = good.0.1; some = omega (arith, good.0.0.0); most = good.0.0.1; few = good.1 }

use Rattle.plain_runs.proofs.evaluate.evaluate.Goals as goal

pub returns-in-Err-clause-completes : goal.returns-in-Err-clause-completes
returns-in-Err-clause-completes c = tt

use Rattle.plan_places.proofs.kinds.mismatch_refusal.Goals as goal

pub returns-in_ok-refusal-in-Ok : goal.returns-in_ok-refusal-in-Ok
returns-in_ok-refusal-in-Ok c = λ refused. absurd (refused (record { elements = c.requires; kinds = c.in-Ok.ensures.ok }))

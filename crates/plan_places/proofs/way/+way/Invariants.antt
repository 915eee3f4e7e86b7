use Rattle.plan_places.proofs.way.+way.Given as goal

abbrev pub decreases-way : goal.decreases-way
decreases-way l = l.levels

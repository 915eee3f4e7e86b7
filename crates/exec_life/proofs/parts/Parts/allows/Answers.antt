use Rattle.exec_life.proofs.parts.Parts.allows.Goals as goal

pub returns-in-Claim : goal.returns-in-Claim
returns-in-Claim c = rw c.in-Claim.is (c.may_claim.ensures c.args.hand)

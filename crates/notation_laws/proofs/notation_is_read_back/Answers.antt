use Rattle.notation_laws.proofs.Law.{read_back}
use Rattle.notation_laws.proofs.notation_is_read_back.Goals as goal

pub returns : goal.returns
returns c = read_back

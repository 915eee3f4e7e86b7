use Rattle.start_laws.proofs.Rows.{parts-make, shares-made}
use Rattle.start_laws.proofs.bulks.parts_make_the_row.Goals as goal

pub returns : goal.returns
returns c = record { shares = parts-make; row = shares-made }

use Rattle.part_lines.proofs.OneReading.{one_reading}
use Rattle.part_lines.proofs.law.parts_have_one_reading.Goals as goal

pub returns : goal.returns
returns c = one_reading

use Rattle.std.proofs.Common.{ℕ, ◌+◌, length, Option, sym, ap, ◌∙◌}
use Rattle.std.specs.Option.{option_map_or}
use Rattle.pictures.proofs.traces.bar.rows_of_bar.Goals as goal

pub returns-in-Some-clause-rows : goal.returns-in-Some-clause-rows
returns-in-Some-clause-rows c =
    let rows = λ (o : Option ℕ). option_map_or (λ before. before + 2) o (length c.args.later.now + 1) in
    ap rows (sym c.in-Some.is ∙ c.end_in.ensures.place)

pub returns-in-None-clause-rows : goal.returns-in-None-clause-rows
returns-in-None-clause-rows c =
    let rows = λ (o : Option ℕ). option_map_or (λ before. before + 2) o (length c.args.later.now + 1) in
    ap rows (sym c.in-None.is ∙ c.end_in.ensures.place)

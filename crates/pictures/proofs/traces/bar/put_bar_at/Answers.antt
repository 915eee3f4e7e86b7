use Rattle.std.proofs.Common.{◌+◌, ◌-◌, [], Option, length, drop, refl, sym, ap, ◌∙◌, arith, length-drop}
use Rattle.std.specs.Option.{option_map_or}
use Rattle.std.proofs.lemmas.List.{take_all}
use Rattle.std.proofs.lemmas.Option.{slice_get_read}
use Rattle.pictures.proofs.Joining.{Adds-same}
use Rattle.pictures.specs.declared.traces.bar.Bar.{Bar}
use Rattle.pictures.specs.Traces.Bars.{bar_in, rows_of_bar, shown_bar}
use Rattle.pictures.proofs.TraceLaws.Rows.{bar-here, on_ok}
use Rattle.pictures.proofs.traces.bar.put_bar_at.Goals as goal

pub returns-in-Some : goal.returns-in-Some
returns-in-Some c =
    let frame = c.args.frame in
    let entries = c.args.entries.now in
    let n = c.args.number in
    let entry = c.index-entries-number.result in
    let at = slice_get_read entries (length entries) n entry refl c.requires.within c.index-entries-number.is in
    let bar = c.in-Some.bar in
    let later = drop (n + 1) entries in
    let rows = c.rows_of_bar-rows.ensures.rows ∙ ap (rows_of_bar bar) (take_all (length entries - (n + 1)) later (omega (arith, length-drop (n + 1) entries))) in
    let begins = sym c.begun.ensures ∙ c.in-Some.is in
    let here = bar-here frame entries n entry at ∙ ap (λ (o : Option Bar). option_map_or (bar_in frame entries n) o []) begins in
    on_ok c.put_shown_bar.result (λ more. Adds-same (ap (shown_bar frame bar n) rows ∙ sym here) more) c.put_shown_bar.ensures

pub returns-in-None : goal.returns-in-None
returns-in-None c =
    let frame = c.args.frame in
    let entries = c.args.entries.now in
    let n = c.args.number in
    let entry = c.index-entries-number.result in
    let at = slice_get_read entries (length entries) n entry refl c.requires.within c.index-entries-number.is in
    let begins = sym c.begun.ensures ∙ c.in-None.is in
    let here = bar-here frame entries n entry at ∙ ap (λ (o : Option Bar). option_map_or (bar_in frame entries n) o []) begins in
    on_ok c.put_all.result (λ more. Adds-same (sym here) more) c.put_all.ensures

use Rattle.std.proofs.Common.{◌≡◌, ◌+◌, [], length, codes, ap, ◌∙◌}
use Rattle.pictures.proofs.Joining.{Adds-then, Adds-same}
use Rattle.trace_reasons.specs.Explaining.{entry_line}
use Rattle.trace_reasons.specs.Sentences.{between, fact_text}
use Rattle.trace_text.specs.Setups.{Setup}
use Rattle.trace_reasons.proofs.telling.told.Goals as goal

pub returns : goal.returns
returns c =
    let t = c.args.trace.now in
    let nodes = ap (λ (o : Setup). o.nodes) c.opening-opening.ensures.opening in
    let size : c.size.result ≡ length t.opening.nodes = c.size.ensures.size ∙ ap length (c.tree.ensures.tree ∙ nodes) in
    let line : c.size.result + 1 + c.args.number ≡ entry_line t c.args.number = ap (λ n. n + 1 + c.args.number) size in
    let at = Adds-same (ap (λ n. between [] n (codes ": ")) line) c.in_ok-put_between-2.ensures in
    let fact = Adds-same (ap (λ own. fact_text own c.args.fact.now) c.own_place.ensures) c.in_ok-put_fact.ensures in
    let whole =
    Adds-then c.in_ok-put_between.ensures
    (Adds-then at
    (Adds-then c.in_ok-put_entry_text.ensures
    (Adds-then c.in_ok-put.ensures (Adds-then fact (Adds-then c.in_ok-put_since.ensures c.in_ok-put-2.ensures))))) in
    rw c.new-text.ensures.items at whole.added

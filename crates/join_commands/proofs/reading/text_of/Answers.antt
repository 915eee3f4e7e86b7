use Rattle.std.proofs.Common.{◌≡◌, List, ℕ, codes, FitsSigned, rules, sym, ap, ◌++◌, ◌∙◌}
use Rattle.std.proofs.lemmas.Int.{to_z-of_z}
use Rattle.std.specs.Fmt.{signed_decimal}
use Rattle.std.specs.Int.{w128}
use Rattle.join_commands.specs.declared.summary.Numbers.{Numbers}
use Rattle.join_commands.specs.Summaries.{named_count}
use Rattle.join_commands.proofs.SummaryLaws.{nine, pieces_of}
use Rattle.join_commands.proofs.reading.text_of.Goals as goal

pub returns : goal.returns
returns c =
    let n : Numbers = c.args.numbers.now in
    let x7 : List ℕ = c.extend_from_slice.new.self.items in
    let fits : FitsSigned w128 c.args.numbers.now.sum = search rules in
    let digits : c.format.result.now ≡ signed_decimal c.args.numbers.now.sum = simp to_z-of_z at c.format.ensures.text in
    nine (named_count (codes "records ") n.records) (named_count (codes " values ") n.values) (named_count (codes " errors ") n.errors) (named_count (codes " stopped ") n.stopped) (named_count (codes " out-of-memory ") n.no_memory) (named_count (codes " bad ") n.bad)
    (codes " sum ") (signed_decimal n.sum) (codes "\n") _ _ _ _ _ _ _ x7 _ _ c.new-text.ensures.items
    c.in_ok-push_count.ensures c.in_ok-push_count-2.ensures c.in_ok-push_count-3.ensures c.in_ok-push_count-4.ensures c.in_ok-push_count-5.ensures c.in_ok-push_count-6.ensures
    c.in_ok-extend_from_slice.ensures.items
    (c.in_ok-extend_from_slice-2.ensures.items ∙ ap (λ (l : List ℕ). x7 ++ l) (c.as_bytes.ensures.value ∙ digits))
    c.in_ok-extend_from_slice-3.ensures.items
    ∙ sym (pieces_of n)

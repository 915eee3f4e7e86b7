use Rattle.std.proofs.Common.{◌≡◌, ◌<◌, List, ℤ, pos, [], ◌∷◌, ◌++◌, All, FitsSigned, w64, length, get_or, map, take, sym, ap, ◌∙◌, subst, rules, arith}
use Rattle.std.proofs.lemmas.Int.{to_z-of_z}
use Rattle.std.proofs.lemmas.List.{map_push, map_more, take_all}
use Rattle.std.proofs.lemmas.List.Elements.{All-more}
use Rattle.serde_json.specs.Data.{Data, array}
use Rattle.serde_json.specs.View.{view, items_of}
use Rattle.serde_json.proofs.Views.{view-Array}
use Rattle.plan_writer.specs.Held.{IsLong}
use Rattle.plan_writer.specs.Values.{integer_data}
use Rattle.plan_notation.proofs.written.row_value.Goals as goal

pub loop-number-preserved : goal.loop-number-preserved
loop-number-preserved c =
    let numbers = c.as_slice-number-items.result.now in
    let index = c.loop-number.number-index in
    let within : index < length numbers = omega arith in
    let fits : FitsSigned w64 (get_or numbers index (pos 0)) = search rules in
    let seen : view c.from.result ≡ integer_data (get_or numbers index (pos 0)) =
    first_of (search rules, grind (arith, to_z-of_z)) in
    record {
      each = All-more IsLong numbers index (pos 0) within c.loop-number.invariant.each fits;
      so_far = ap (map view) c.in_ok-push.ensures.items
          ∙ map_push view c.loop-number.items.items c.from.result
          ∙ ap (λ (ds : List Data). ds ++ view c.from.result ∷ []) c.loop-number.invariant.so_far
          ∙ ap (λ (d : Data). map integer_data (take index numbers) ++ d ∷ []) seen
          ∙ sym (map_more integer_data numbers index (pos 0) within);
    }

pub returns-clause-value : goal.returns-clause-value
returns-clause-value c =
    let numbers = c.as_slice-number-items.result.now in
    let all = take_all c.loop-number.number-index numbers (omega arith) in
    view-Array c.loop-number.items
    ∙ ap (λ (ds : List Data). array (items_of ds)) (c.loop-number.invariant.so_far
    ∙ ap (map integer_data) (all ∙ c.as_slice-number-items.ensures.numbers))

pub returns-clause-held : goal.returns-clause-held
returns-clause-held c =
    let numbers = c.as_slice-number-items.result.now in
    let all = take_all c.loop-number.number-index numbers (omega arith) in
    let P : List ℤ → Type 0 = All IsLong in
    record {
      few = c.as_slice-number-items.ensures.few;
      each = subst P (all ∙ c.as_slice-number-items.ensures.numbers) c.loop-number.invariant.each;
    }

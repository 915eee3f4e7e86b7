use Rattle.std.proofs.Common.{◌≡◌, true, false, List, ℕ, string_bytes, sym, ap, ◌∙◌}
use Rattle.serde_json.specs.View.{view}
use Rattle.plan_reader.specs.NodeWords.{node_keys}
use Rattle.plan_reasons.specs.Nodes.{parts_wrong}
use Rattle.plan_reasons.specs.Own.{has, key_faults}
use Rattle.plan_reasons.specs.Sentences.{unknown_key}
use Rattle.plan_reasons.proofs.Chosen.{said_as, first_chosen, second_chosen}
use Rattle.plan_reasons.proofs.node.known_wrong.Goals as goal

pub returns-then-is_in : goal.returns-then-is_in
returns-then-is_in c =
    let fault = c.args.fault in
    let who = c.args.who.now in
    let d = view c.args.value.now in
    let keys = node_keys c.args.word in
    let test : has fault (key_faults keys d) ≡ true =
    ap (λ (ks : List (List ℕ)). has fault (key_faults ks d)) (sym c.node_keys.ensures)
    ∙ ap (has fault) (sym c.key_faults.ensures) ∙ sym c.is_in.ensures ∙ c.if-is_in.true in
    said_as string_bytes c.unknown_key.result
    (ap (λ (ks : List (List ℕ)). unknown_key who ks d) c.node_keys-then-is_in.ensures
    ∙ first_chosen (has fault (key_faults keys d)) (unknown_key who keys d) (parts_wrong fault who c.args.word d) test)
    c.unknown_key.ensures

pub returns-else-is_in : goal.returns-else-is_in
returns-else-is_in c =
    let fault = c.args.fault in
    let who = c.args.who.now in
    let d = view c.args.value.now in
    let keys = node_keys c.args.word in
    let test : has fault (key_faults keys d) ≡ false =
    ap (λ (ks : List (List ℕ)). has fault (key_faults ks d)) (sym c.node_keys.ensures)
    ∙ ap (has fault) (sym c.key_faults.ensures) ∙ sym c.is_in.ensures ∙ c.if-is_in.false in
    said_as string_bytes c.parts_wrong.result
    (second_chosen (has fault (key_faults keys d)) (unknown_key who keys d) (parts_wrong fault who c.args.word d) test)
    c.parts_wrong.ensures

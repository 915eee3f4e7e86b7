use Rattle.std.proofs.Common.{◌≡◌, [], ◌∷◌, ◌++◌, replicate, length, List, take, drop, arith, ap, subst, ◌∙◌}
use Rattle.std.proofs.lemmas.List.{take_at}
use Rattle.plan_builder.specs.declared.position.Position.{Position}
use Rattle.plan_builder.specs.Positions.{part_position, free_position, Adopts}
use Rattle.plan_builder.proofs.PositionLemmas.{gains_all}
use Rattle.plan_builder.proofs.position.append_positions.Goals as goal

pub returns : goal.returns
returns c =
    let old : List Position = c.args.positions.now.items in
    let len = c.args.positions.now.len in
    let node = c.args.node in
    let once : List Position = c.adopt.new.positions in
    let twice : List Position = c.adopt-2.new.positions in
    let long_once : length once ≡ len = omega (arith, c.adopt.ensures.as_long, c.deref_mut.ensures.len) in
    let long_twice : length twice ≡ len = omega (arith, c.adopt-2.ensures.as_long, c.deref_mut-2.ensures.len) in
    let between : List Position = take len (once ++ drop (length once) old) in
    let back_once : c.deref_mut-2.result.now ≡ once =
    c.deref_mut-2.ensures.value ∙ take_at once (drop (length once) old) len long_once in
    let back_twice : take len (twice ++ drop (length twice) between) ≡ twice =
    take_at twice (drop (length twice) between) len long_twice in
    let first : Adopts old once c.args.front.now node =
    subst (λ ps. Adopts ps once c.args.front.now node) c.deref_mut.ensures.value c.adopt.ensures in
    let second : Adopts once twice c.args.back.now node =
    subst (λ ps. Adopts ps twice c.args.back.now node) back_once c.adopt-2.ensures in
    let is : c.append.new.items.items ≡ (twice ++ replicate c.args.parts (part_position node)) ++ free_position c.args.depth ∷ [] =
    c.append.ensures.items
    ∙ ap (λ ps. ps ++ free_position c.args.depth ∷ [])
    (c.append_copies.ensures.items ∙ ap (λ ps. ps ++ replicate c.args.parts (part_position node)) back_twice) in
    gains_all old once twice c.append.new.items.items c.args.front.now c.args.back.now node c.args.parts c.args.depth first second is

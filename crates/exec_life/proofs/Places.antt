-- What a step's needs say of its place.
use Rattle.std.proofs.Common.{◌≡◌, ℕ, ◌<◌, true, length, get_or, arith}
use Rattle.std.specs.Prelude.{nat_lt, All}
use Rattle.std.proofs.lemmas.Bool.{and_parts, ltb-true}
use Rattle.std.proofs.lemmas.Option.{slice_get-get_or}
use Rattle.life_rules.specs.declared.event.Place.{Place}
use Rattle.life_rules.specs.LifeSteps.{may_release}
use Rattle.life_rules.specs.States.{is_place}
use Rattle.exec_life.specs.StateLists.{StateLists, machine, IsState}
use Rattle.exec_life.specs.WordLists.{HasPlace}

pub node-within : (d : StateLists) (p : Place) → is_place (machine d) p ≡ true →
    p.node < length d.tree
node-within d p there =
    ltb-true p.node (length d.tree) (and_parts (nat_lt p.block (length d.words.blocks)) _ there).1

pub has-place : (d : StateLists) (p : Place) → IsState d → is_place (machine d) p ≡ true →
    HasPlace d.words p
has-place d p state there =
    let block = (and_parts (nat_lt p.block (length d.words.blocks)) _ there).0 in
    let node = node-within d p there in
    record {
      block = ltb-true p.block (length d.words.blocks) block;
      node = omega (arith, node, state.fitted.nodes_are);
    }

pub block-within : (d : StateLists) (h b : ℕ) → may_release (machine d) h b ≡ true →
    b < length d.words.blocks
block-within d h b needs =
    ltb-true b (length d.words.blocks) (and_parts (nat_lt b (length d.words.blocks)) _ needs).0

-- each view has cells for the block
pub each-has : (d : StateLists) (b : ℕ) → IsState d → b < length d.words.blocks →
    All (λ v. b < v.blocks) d.views
each-has d b state within k e there =
    let v = get_or d.views k e in
    let over = state.fitted.each_view k v (slice_get-get_or d.views k e there) in
    omega (arith, within, over.blocks_are)

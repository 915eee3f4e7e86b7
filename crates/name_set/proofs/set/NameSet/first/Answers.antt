use Rattle.std.proofs.Common.{◌/◌, ◌%◌, ◌<◌, sym, subst, arith}
use Rattle.std.proofs.lemmas.List.{get_or_read}
use Rattle.table_words.specs.Layouts.{places_in}
use Rattle.name_set.specs.Sets.{Marks, IsEmpty, IsLowest, IsFirst}
use Rattle.name_set.proofs.Places.{place-at}
use Rattle.name_set.proofs.Empties.{empty-below, first-name}
use Rattle.name_set.proofs.set.NameSet.first.Goals as goal

-- the first mark lies past the last place
pub returns-then-place-places : goal.returns-then-place-places
returns-then-place-places c =
    let m : Marks = record {
      layout = c.self.inside.layout;
      bits = c.self.inside.bits.items;
      generations = c.self.inside.generations.items;
    } in
    let first = subst (λ b. IsFirst b c.in_ok-place.place) c.as_slice.ensures.value c.in_ok-place.ensures in
    let past = c.if-place-places.true in
    let places = c.places.ensures in
    subst IsEmpty c.self.view_is
    (empty-below m c.self.invariant.sized c.in_ok-place.place first.before (omega (arith, past, places)))

pub returns : goal.returns
returns c =
    let m : Marks = record {
      layout = c.self.inside.layout;
      bits = c.self.inside.bits.items;
      generations = c.self.inside.generations.items;
    } in
    let nodes = c.self.inside.layout.nodes in
    let place = c.in_ok-place.place in
    let first = subst (λ b. IsFirst b place) c.as_slice.ensures.value c.in_ok-place.ensures in
    let within = c.if-place-places.false in
    let places = c.places.ensures in
    let below : place < places_in c.self.inside.layout = omega (arith, within, places) in
    let at = place-at c.self.inside.layout place c.self.invariant.sized.nodes.0 below in
    let block = at.block in
    let many = c.self.invariant.sized.generations in
    let generation = get_or_read m.generations (place / nodes) c.index.result.now (omega (arith, block, many)) c.index.ensures 0 in
    subst (λ n. IsLowest n (record { block = place / nodes; generation = c.index.result.now; node = place % nodes }))
    c.self.view_is
    (subst (λ g. IsLowest m (record { block = place / nodes; generation = g; node = place % nodes })) (sym generation)
    (first-name m place c.self.invariant.sized first below))

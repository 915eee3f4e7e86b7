use Rattle.std.proofs.Common.{◌≡◌, ◌<◌, ◌&&◌, not, true, length, sym, ap, ◌∙◌, subst, arith}
use Rattle.std.proofs.lemmas.List.{with_items_is}
use Rattle.life_rules.specs.Views.{same}
use Rattle.name_set.specs.Sets.{Marks, is_marked, has, IsWithin}
use Rattle.name_set.proofs.Places.{had, bit-within}
use Rattle.name_set.proofs.Changes.{removed}
use Rattle.name_set.proofs.Windows.{still-within, from-first, from-none}
use Rattle.name_set.proofs.set.NameSet.remove.Goals as goal
use Rattle.name_set.proofs.set.NameSet.remove.Goals.{in-Some, in-None}

pub place-place-requires-clause-block : goal.place-place-requires-clause-block
place-place-requires-clause-block c =
    subst (λ m. c.args.name.block < m.layout.blocks) (sym c.self.view_is)
    (had c.args.self.now c.args.name c.requires.has).place.block

pub place-place-requires-clause-node : goal.place-place-requires-clause-node
place-place-requires-clause-node c =
    subst (λ m. c.args.name.node < m.layout.nodes) (sym c.self.view_is)
    (had c.args.self.now c.args.name c.requires.has).place.node

pub unmark-requires : goal.unmark-requires
unmark-requires c =
    let m : Marks = record {
      layout = c.self.inside.layout;
      bits = c.self.inside.bits.items;
      generations = c.self.inside.generations.items;
    } in
    let it = subst (λ n. has n c.args.name ≡ true) (sym c.self.view_is) c.requires.has in
    let within = bit-within c.self.inside.layout c.args.name (length c.self.inside.bits.items)
    (had m c.args.name it).place c.self.invariant.sized.bits in
    let at = c.place-place.ensures.value in
    let wide = ap length c.as_mut_slice.ensures.value in
    omega (arith, within, at, wide)

pub first_within-requires-clause-within : goal.first_within-requires-clause-within
first_within-requires-clause-within c =
    still-within c.self.inside.bits.items c.self.inside.low c.self.inside.high c.self.invariant.within c.as_mut_slice.result.now
    c.unmark.new.bits c.as_slice.result.now c.place-place.result c.as_mut_slice.ensures.value
    (c.as_slice.ensures.value
    ∙ with_items_is c.self.inside.bits c.unmark.new.bits (c.unmark.ensures.length ∙ c.as_mut_slice.ensures.len))
    c.unmark.ensures.length c.unmark.ensures.unmarked c.unmark.ensures.others

pub invariant_of-self : goal.invariant_of-self
invariant_of-self c =
    let words = c.as_slice.result.now in
    let low = c.self.inside.low in
    let high = c.self.inside.high in
    let items = with_items_is c.self.inside.bits c.unmark.new.bits (c.unmark.ensures.length ∙ c.as_mut_slice.ensures.len) in
    let still : IsWithin words low high =
    still-within c.self.inside.bits.items low high c.self.invariant.within c.as_mut_slice.result.now c.unmark.new.bits words
    c.place-place.result c.as_mut_slice.ensures.value (c.as_slice.ensures.value ∙ items) c.unmark.ensures.length
    c.unmark.ensures.unmarked c.unmark.ensures.others in
    record {
      sized = record {
        blocks = c.self.invariant.sized.blocks;
        nodes = c.self.invariant.sized.nodes;
        bits = ap length items ∙ c.unmark.ensures.length ∙ ap length c.as_mut_slice.ensures.value ∙ c.self.invariant.sized.bits;
        generations = c.self.invariant.sized.generations;
      };
      within = subst (λ b. IsWithin b c.match-first_within.self high) c.as_slice.ensures.value
          (elim c.match-first_within.branch [
            | in-Some w ↦
                subst (λ n. IsWithin words n high) (sym w.self-is)
                (from-first words low high still w.in-Some.first w.in-Some.ensures)
            | in-None w ↦
                subst (λ n. IsWithin words n high) (sym w.self-is) (from-none words low high still w.in-None.ensures)
          ]);
    }

pub returns-clause-has : goal.returns-clause-has
returns-clause-has c x =
    let l = c.self.inside.layout in
    let name = c.args.name in
    let generations = c.self.inside.generations.items in
    let m : Marks = record { layout = l; bits = c.self.inside.bits.items; generations = generations } in
    let it = subst (λ n. has n name ≡ true) (sym c.self.view_is) c.requires.has in
    let at = c.place-place.ensures.value in
    ap (λ b. has (record { layout = l; bits = b; generations = generations }) x)
    (with_items_is c.self.inside.bits c.unmark.new.bits (c.unmark.ensures.length ∙ c.as_mut_slice.ensures.len))
    ∙ removed l c.self.inside.bits.items c.unmark.new.bits generations name (had m name it).place
    (λ k ne. c.unmark.ensures.others k (λ e. ne (e ∙ at)) ∙ ap (λ b. is_marked b k) c.as_mut_slice.ensures.value)
    (ap (is_marked c.unmark.new.bits) (sym at) ∙ c.unmark.ensures.unmarked) it x
    ∙ ap (λ n. not (same name x) && has n x) c.self.view_is

use Rattle.std.proofs.Common.{◌||◌, length, set, length-set, sym, ap, ◌∙◌, subst, arith}
use Rattle.std.proofs.lemmas.List.{with_items_is}
use Rattle.life_rules.specs.Views.{same}
use Rattle.name_set.specs.Sets.{is_marked, has, IsPlaceOf, IsOfItsBlock, IsWithin}
use Rattle.name_set.proofs.Places.{bit-within}
use Rattle.name_set.proofs.Changes.{inserted}
use Rattle.name_set.proofs.Windows.{wider-within}
use Rattle.name_set.proofs.set.NameSet.insert.Goals as goal

pub mark-requires : goal.mark-requires
mark-requires c =
    let p = subst (λ m. IsPlaceOf m.layout c.args.name) (sym c.self.view_is) c.requires.place in
    let within = bit-within c.self.inside.layout c.args.name (length c.self.inside.bits.items) p c.self.invariant.sized.bits in
    let at = c.place-place.ensures.value in
    let wide = ap length c.as_mut_slice.ensures.value in
    omega (arith, within, at, wide)

pub invariant_of-self : goal.invariant_of-self
invariant_of-self c =
    let bits = c.self.inside.bits.items in
    let at = c.place-place.ensures.value in
    let items = with_items_is c.self.inside.bits c.mark.new.bits (c.mark.ensures.length ∙ c.as_mut_slice.ensures.len) in
    let as_long = c.mark.ensures.length ∙ ap length c.as_mut_slice.ensures.value in
    let p = subst (λ m. IsPlaceOf m.layout c.args.name) (sym c.self.view_is) c.requires.place in
    let room = bit-within c.self.inside.layout c.args.name (length bits) p c.self.invariant.sized.bits in
    record {
      sized = record {
        blocks = c.self.invariant.sized.blocks;
        nodes = c.self.invariant.sized.nodes;
        bits = ap length items ∙ as_long ∙ c.self.invariant.sized.bits;
        generations = length-set c.self.inside.generations.items c.args.name.block c.args.name.generation
            ∙ c.self.invariant.sized.generations;
      };
      within = subst (λ b. IsWithin b c.widened-low.result.0 c.widened-low.result.1) (sym items)
          (wider-within bits c.self.inside.low c.self.inside.high c.self.invariant.within c.mark.new.bits
          c.place-place.result c.widened-low.result.0 c.widened-low.result.1 as_long (omega (arith, room, at))
          (λ k ne. c.mark.ensures.others k ne ∙ ap (λ b. is_marked b k) c.as_mut_slice.ensures.value)
          c.widened-low.ensures.has c.widened-low.ensures.keeps c.widened-low.ensures.most);
    }

pub returns-clause-has : goal.returns-clause-has
returns-clause-has c x =
    let l = c.self.inside.layout in
    let name = c.args.name in
    let generations = c.self.inside.generations.items in
    let p = subst (λ m. IsPlaceOf m.layout name) (sym c.self.view_is) c.requires.place in
    let at = c.place-place.ensures.value in
    let block = p.block in
    let many = c.self.invariant.sized.generations in
    ap (λ b. has (record { layout = l; bits = b; generations = set generations name.block name.generation }) x)
    (with_items_is c.self.inside.bits c.mark.new.bits (c.mark.ensures.length ∙ c.as_mut_slice.ensures.len))
    ∙ inserted l c.self.inside.bits.items c.mark.new.bits generations name p
    (λ k ne. c.mark.ensures.others k (λ e. ne (e ∙ at)) ∙ ap (λ b. is_marked b k) c.as_mut_slice.ensures.value)
    (omega (arith, block, many)) (ap (is_marked c.mark.new.bits) (sym at) ∙ c.mark.ensures.marked)
    (subst (λ m. IsOfItsBlock m name) (sym c.self.view_is) c.requires.generation) x
    ∙ ap (λ m. same name x || has m x) c.self.view_is

use Rattle.std.proofs.Common.{◌≡◌, true, false, Some, None, ap, sym, refl, ◌∙◌, subst}
use Rattle.std.specs.Prelude.{is_some}
use Rattle.std.specs.Option.{option_copied_mut}
use Rattle.table_steps.specs.Swaps.{IsSwapped}
use Rattle.home_items.specs.Items.{parcel_in}
use Rattle.op_slot.proofs.Loans.{if-there}
use Rattle.step_parts.proofs.Emptied.{kid-home, kid-done, takes-child, done-parcel, done-some}
use Rattle.step_parts.proofs.gathering.gather_child.Goals as goal

pub home_mut-requires-clause-home : goal.home_mut-requires-clause-home
home_mut-requires-clause-home g c κs =
    kid-home c.site.inside.table.now _ c.args.child (rw (← c.site.view_is, ← c.taken.view_is) at c.requires.child) c.args.hand.now
    (rw (← c.site.view_is, ← c.taken.view_is) at c.requires.opened)

pub give_to-requires : goal.give_to-requires
give_to-requires g c =
    kid-done c.site.inside.table.now _ c.args.child (rw (← c.site.view_is, ← c.taken.view_is) at c.requires.child) c.args.hand.now
    (rw (← c.site.view_is, ← c.taken.view_is) at c.requires.opened) c.in-Some-home.item
    (c.home_mut.ensures.value ∙ ap (λ z. option_copied_mut z) c.in-Some.is ∙ ap (λ z. Some z) c.in-Some-home.is)

pub returns-in-Some-home : goal.returns-in-Some-home
returns-in-Some-home g c =
    let left = if-there _ (c.home_mut.follows.holds None) c.in-Some.is in
    let hand = c.home_mut.follows.lender None in
    let item = c.in-Some-home.item in
    let ends = kid-done c.site.inside.table.now _ c.args.child (rw (← c.site.view_is, ← c.taken.view_is) at c.requires.child) c.args.hand.now
    (rw (← c.site.view_is, ← c.taken.view_is) at c.requires.opened) item
    (c.home_mut.ensures.value ∙ ap (λ z. option_copied_mut z) c.in-Some.is ∙ ap (λ z. Some z) c.in-Some-home.is) in
    record {
      answer = parcel_in item;
      takes = rw (c.empty.ensures, ← c.site.view_is, ← c.taken.view_is)
          (takes-child c.site.inside.table.now _ c.args.child (rw (← c.site.view_is, ← c.taken.view_is) at c.requires.child)
          (parcel_in item) c.args.hand.now hand left.stays
          (subst (λ z. IsSwapped c.site.inside.table.now.frame (record c.taken.inside.name { node = c.args.child }) None z c.args.hand.now.me hand.me)
          (c.in-Some-home.is ∙ sym (done-parcel item ends)) left.swapped)
          c.give_to.ensures.lawful);
      found_is = done-some item ends;
      gathered = c.give_to.ensures.added;
      stays = λ none. absurd (some-none (done-some item ends ∙ ap is_some none));
    }
  where
    some-none : true ≡ false → ⊥
    some-none e = cc

pub returns-in-None-home : goal.returns-in-None-home
returns-in-None-home g c =
    let left = if-there _ (c.home_mut.follows.holds c.in-Some.home.now) c.in-Some.is in
    let hand = c.home_mut.follows.lender c.in-Some.home.now in
    record {
      answer = None;
      takes = rw (← c.site.view_is, ← c.taken.view_is)
          (takes-child c.site.inside.table.now _ c.args.child (rw (← c.site.view_is, ← c.taken.view_is) at c.requires.child) None c.args.hand.now hand
          left.stays
          (subst (λ z. IsSwapped c.site.inside.table.now.frame (record c.taken.inside.name { node = c.args.child }) z z c.args.hand.now.me hand.me)
          c.in-None-home.is left.swapped)
          tt);
      found_is = refl;
      gathered = tt;
      stays = λ none. refl;
    }

pub home_mut-requires-clause-table : goal.home_mut-requires-clause-table
home_mut-requires-clause-table g c κs = (rw (← c.site.view_is) at c.requires.opened.is.stays).hand

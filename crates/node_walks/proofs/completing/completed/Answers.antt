use Rattle.std.proofs.Common.{◌≡◌, inl, false, sym, ap, ◌∙◌, subst}
use Rattle.std.specs.Prelude.{Option, Some, None}
use Rattle.exec_value.specs.declared.outcome.Completion.TheVariants.{NoMemory}
use Rattle.home_items.specs.declared.item.Item.{Item}
use Rattle.home_items.specs.Contents.{Rest, Start, Done}
use Rattle.home_items.specs.Entries.{record_number}
use Rattle.home_items.specs.Fits.{KeepsParcel}
use Rattle.home_items.specs.Items.{start_in, parcel_in, HasCompleted}
use Rattle.home_items.specs.Parcels.{Delivery}
use Rattle.node_walks.specs.declared.completing.Collected.{Collected}
use Rattle.node_walks.specs.Completes.{IsOfRoot, CompletesAs}
use Rattle.node_walks.proofs.Completed.{small-keeps}
use Rattle.node_walks.proofs.completing.completed.Goals as goal

-- an item that goes on with a parcel rests with it
rests-with : (item : Item) (parcel : Delivery) → ¬ HasCompleted item → parcel_in item ≡ Some parcel →
    item ≡ Rest (start_in item) (Some parcel)
rests-with (Start start) parcel goes is = absurd (let none = is in cc)
rests-with (Rest start kept) parcel goes is = ap (λ (p : Option Delivery). Rest start p) is
rests-with (Done done) parcel goes is = absurd (goes tt)

-- one that keeps a parcel has it
keeps-some : (item : Item) → ¬ HasCompleted item → parcel_in item ≡ None → ¬ KeepsParcel item
keeps-some (Start start) goes none keeps = keeps
keeps-some (Rest start (Some parcel)) goes none keeps = absurd (let some = none in cc)
keeps-some (Rest start None) goes none keeps = keeps
keeps-some (Done done) goes none keeps = keeps

-- one that keeps none completes for want of memory
wants : (item : Item) → IsOfRoot item → parcel_in item ≡ None → (c : Collected) → c.number ≡ record_number (start_in item) →
    c.completion ≡ NoMemory → c.saw ≡ false → CompletesAs item c
wants item is none c number completion saw =
    record {
      number = number;
      may = inl completion;
      small = λ small. absurd (keeps-some item is.goes_on none (small-keeps item is small));
      saw = λ seen. absurd (let e = sym saw ∙ seen in cc);
    }

pub as_child-collected-requires : goal.as_child-collected-requires
as_child-collected-requires c =
    let item = c.args.item in
    let rest = rests-with item c.in-Some.parcel c.requires.root.goes_on (sym c.open-env.ensures.kept ∙ c.in-Some.is) in
    record {
      root = subst (λ start. IsOfRoot (Rest start (Some c.in-Some.parcel))) (sym {b = start_in item} c.open-env.ensures.env)
          (subst IsOfRoot rest c.requires.root);
    }

pub returns-in-Some-clause-completes : goal.returns-in-Some-clause-completes
returns-in-Some-clause-completes c =
    let item = c.args.item in
    let collected = c.as_child-collected.result in
    let rest = rests-with item c.in-Some.parcel c.requires.root.goes_on (sym c.open-env.ensures.kept ∙ c.in-Some.is) in
    subst (λ (i : Item). CompletesAs i collected) (sym rest)
    (subst (λ start. CompletesAs (Rest start (Some c.in-Some.parcel)) collected) {y = start_in item} c.open-env.ensures.env
    c.as_child-collected.ensures)

pub returns-in-None-clause-completes : goal.returns-in-None-clause-completes
returns-in-None-clause-completes c =
    let wanted = c.want_of_memory-collected.ensures in
    wants c.args.item c.requires.root (sym c.open-env.ensures.kept ∙ c.in-None.is) c.want_of_memory-collected.result
    (wanted.number ∙ c.number.ensures ∙ ap record_number c.open-env.ensures.env) wanted.completion wanted.saw

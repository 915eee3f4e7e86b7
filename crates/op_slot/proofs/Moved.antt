-- What a hand carries after it moved what is in one of its homes.
use Rattle.std.proofs.Common.{sym, subst}
use Rattle.std.specs.Prelude.{Some}
use Rattle.life_rules.specs.declared.event.Name.{Name}
use Rattle.table_rules.specs.declared.cargo.Cargo.{Ghosts}
use Rattle.table_rules.specs.declared.frame.Frame.{Frame}
use Rattle.table_steps.specs.Seats.{Seated}
use Rattle.table_steps.specs.Begins.{CanBegin}
use Rattle.table_steps.specs.Slots.{slot_of}
use Rattle.table_steps.specs.Sheds.{shed}
use Rattle.table_steps.specs.Releases.{is_own_slot}
use Rattle.op_slot.specs.Puts.{IsPut, BeginsThen}
use Rattle.op_slot.proofs.Kept.{kept-first}

module _ {P E O : Type 0} (f : Frame O) (x : Name) where
  -- the hand can begin the node with the item
  pub begins-then : (cargo : Ghosts P E O) (item : P) (m m' : Seated P E) → IsPut f x item m m' → BeginsThen cargo f x item m m'
  begins-then cargo item m m' put fits =
      let home = kept-first (slot_of f.layout x) (Some item) (shed (is_own_slot f.layout x) m.1) in
      subst (λ z. CanBegin cargo f z x) (sym put.me_is)
      (record {
        owed = fits.owed;
        owes = fits.owes;
        item = item;
        home = home;
        entry = fits.entry;
        start = fits.start;
        key = fits.key;
        drawn = fits.drawn;
        goes_on = fits.goes_on;
      })

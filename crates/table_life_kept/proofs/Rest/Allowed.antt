-- What the store of a rest owes.
use Rattle.std.proofs.Common.{◌≡◌, ℕ}
use Rattle.life_rules.specs.declared.words.ControlWord.TheVariants.{Busy}
use Rattle.life_rules.specs.declared.event.Name.{Name}
use Rattle.life_rules.specs.declared.event.Resting.{Resting}
use Rattle.life_rules.specs.Words.{resting_at}
use Rattle.table_words.specs.Stamps.{stamp_of}
use Rattle.table_words.specs.Controls.{control_read}
use Rattle.table_words.specs.Layouts.{OfControl, index}
use Rattle.atomic_table.specs.Table.{Allows}
use Rattle.table_rules.specs.declared.cargo.Cargo.{Ghosts}
use Rattle.table_rules.specs.declared.frame.Frame.{Frame}
use Rattle.table_rules.specs.Running.{Running}
use Rattle.table_steps.specs.Views.{aimed}
use Rattle.table_steps.specs.Seats.{Seated}
use Rattle.table_steps.specs.Lefts.{FindsControl}
use Rattle.table_steps.specs.Slots.{IsSeated}
use Rattle.table_steps.specs.Rests.{CanRest, RestsAt}
use Rattle.table_kept.proofs.Standing.{Standing}
use Rattle.table_life_kept.proofs.Rest.Runs.{ToRest, rests-now}

-- what the store owes
pub rests_allowed : {P E O : Type 0} (cargo : Ghosts P E O) (f : Frame O) (slots id value : ℕ) (x : Name) (to : Resting) (m : Seated P E) →
    IsSeated f.tree f.layout m → CanRest cargo f m x → stamp_of value ≡ x.generation → control_read value ≡ resting_at to →
    Allows (Running cargo f) slots id m (index f.layout (OfControl x.block x.node)) (λ _. value)
    (λ n. FindsControl (aimed f x) (Busy 0) (RestsAt (aimed f x)) (index f.layout (OfControl x.block x.node)) n value m)
rests_allowed cargo f slots id value x to m seated can stamped reads s r deep at small =
    let hand : Standing cargo f = record { state = s; id = id; view = m.0; running = r; at = at } in
    let resting : ToRest hand = record {
      value = value;
      name = x;
      to = to;
      carried = m.1;
      seated = seated;
      can = can;
      stamped = stamped;
      reads = reads;
    } in
    rests-now cargo f hand resting

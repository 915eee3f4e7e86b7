-- What the store by which a node awaits children owes, and what it tells.
use Rattle.std.proofs.Common.{◌≡◌, ℕ, List, length, refl, sym, ap, subst}
use Rattle.std.specs.Prelude.{slice_index}
use Rattle.life_rules.specs.declared.words.ControlWord.TheVariants.{Busy}
use Rattle.life_rules.specs.declared.event.Name.{Name}
use Rattle.life_rules.specs.Views.{beside}
use Rattle.table_words.specs.Stamps.{stamp_of}
use Rattle.table_words.specs.Controls.{control_read}
use Rattle.table_words.specs.Layouts.{OfControl, index}
use Rattle.atomic_table.specs.Table.{Allows}
use Rattle.table_rules.specs.declared.cargo.Cargo.{Ghosts}
use Rattle.table_rules.specs.declared.frame.Frame.{Frame}
use Rattle.table_rules.specs.declared.view.View.{View}
use Rattle.table_rules.specs.Running.{Running}
use Rattle.table_steps.specs.Views.{aimed}
use Rattle.table_steps.specs.Claims.{with_step}
use Rattle.table_steps.specs.Seats.{Seated}
use Rattle.table_steps.specs.Lefts.{FoundControl, FindsControl, LeavesControl}
use Rattle.table_steps.specs.Slots.{Aim, IsSeated}
use Rattle.table_steps.specs.Awaits.{awaits, CanAwait, AwaitsAt}
use Rattle.table_kept.proofs.Standing.{Standing}
use Rattle.table_kept.proofs.Listing.{AllowsListed, allows-listed, lists-one}
use Rattle.table_kept.proofs.FoundNow.{found-control}
use Rattle.table_life_kept.proofs.Shedding.{sheds, carries-shed}
use Rattle.table_life_kept.proofs.ShedHomes.{ToShed, valid-shed}
use Rattle.table_life_kept.proofs.Leaving.{ToLeave, is-held, quiet}
use Rattle.table_kept.proofs.OwedLive.{owes-not, owes-beside}
use Rattle.table_kept.proofs.Awaiting.{named-child, seated-awaited}
use Rattle.table_life_kept.proofs.Await.Runs.{ToAwait, gone}
use Rattle.table_life_kept.proofs.Await.Writes.{ToWriteAwait, await-runs}

-- what the store owes
pub awaits_allowed : {P E O : Type 0} (cargo : Ghosts P E O) (f : Frame O) (slots id value : ℕ) (x : Name) (nodes : List ℕ) (m : Seated P E) →
    IsSeated f.tree f.layout m → CanAwait cargo f m x nodes → stamp_of value ≡ x.generation → control_read value ≡ Busy (length nodes) →
    Allows (Running cargo f) slots id m (index f.layout (OfControl x.block x.node)) (λ _. value)
    (λ n. FindsControl (aimed f x) (Busy 0) (AwaitsAt cargo (aimed f x) nodes) (index f.layout (OfControl x.block x.node)) n value m)
awaits_allowed {P} {E} cargo f slots id value x nodes m seated can stamped reads s r deep at small =
    let hand : Standing cargo f = record { state = s; id = id; view = m.0; running = r; at = at } in
    let i = index f.layout (OfControl x.block x.node) in
    let n = slice_index s.words i in
    let c = m.1 in
    let leaving : ToLeave hand = record {
      name = x;
      carried = c;
      seated = seated;
      leave = can.leave;
    } in
    let awaiting : ToAwait hand = record {
      name = x;
      nodes = nodes;
      carried = c;
      seated = seated;
      can = can;
    } in
    let task : ToWriteAwait hand = record {
      awaiting = awaiting;
      value = value;
      stamped = stamped;
      reads = reads;
    } in
    let away = gone cargo f hand awaiting in
    let shedding : ToShed hand = record { carried = c; seated = seated; gone = away } in
    let own = is-held cargo f hand leaving in
    let mine : View P E = with_step i n value (awaits x (cargo.start can.item) (cargo.lot can.item) nodes m.0) in
    let is = carries-shed away c in (
      mine,
      sheds away c,
      valid-shed cargo f hand shedding,
      await-runs cargo f hand task n refl,
      record {
        found = found-control cargo f s r x own.live (Busy 0) own.word;
        did = record {
          item = can.item;
          home = can.home;
          me_is = λ k. (mine, is k);
          seated = subst (λ d. IsSeated f.tree f.layout (mine, d)) (sym is)
              (seated-awaited f.tree f.layout x nodes (cargo.start can.item) (cargo.lot can.item) i n value m.0 c seated);
          unowed = λ k named.
              let child = named-child f.tree x nodes can.leave.held can.idle k named in
              owes-not cargo f hand (beside x k) (quiet cargo f hand leaving k child).starts;
          beside_it = owes-beside cargo f hand x own.live;
        };
      },
    )

module _ {P E O : Type 0} (cargo : Ghosts P E O) where
  -- the store, by the frame that the table shows
  pub awaits-at : (board f : Frame O) (slots id i value : ℕ) (x : Name) (nodes names : List ℕ) (aim : Aim) (m : Seated P E) → board ≡ f →
      i ≡ index board.layout (OfControl x.block x.node) → aim ≡ aimed board x → names ≡ nodes → IsSeated board.tree board.layout m →
      CanAwait cargo board m x nodes → stamp_of value ≡ x.generation → control_read value ≡ Busy (length nodes) →
      AllowsListed cargo f slots id m i (λ _. value) (λ n. FindsControl aim (Busy 0) (AwaitsAt cargo aim names) i n value m)
  awaits-at board f slots id i value x nodes names aim m same i_is aim_is names_are seated can stamped reads =
      allows-listed cargo f slots id m i (λ _. value) (λ n. FindsControl aim (Busy 0) (AwaitsAt cargo aim names) i n value m)
      (λ n m' told. lists-one i n value m m' _ (ap (λ z. z.0) told.did.me_is) refl refl refl refl)
      (subst (λ z. Allows (Running cargo z) slots id m i (λ _. value) (λ n. FindsControl aim (Busy 0) (AwaitsAt cargo aim names) i n value m)) same
      (subst (λ (z : List ℕ × (ℕ × Aim)). Allows (Running cargo board) slots id m z.1.0 (λ _. value)
      (λ n. FindsControl z.1.1 (Busy 0) (AwaitsAt cargo z.1.1 z.0) z.1.0 n value m))
      (λ k. (sym names_are k, (sym i_is k, sym aim_is k)))
      (awaits_allowed cargo board slots id value x nodes m seated can stamped reads)))

  pub awaits-told : (board : Frame O) (i read value : ℕ) (x : Name) (nodes names : List ℕ) (aim : Aim) (m m' : Seated P E) →
      i ≡ index board.layout (OfControl x.block x.node) → aim ≡ aimed board x → names ≡ nodes → stamp_of value ≡ x.generation →
      control_read value ≡ Busy (length nodes) → FindsControl aim (Busy 0) (AwaitsAt cargo aim names) i read value m m' →
      LeavesControl (aimed board x) (Busy 0) (Busy (length nodes)) (AwaitsAt cargo (aimed board x) nodes) m m'
  awaits-told board i read value x nodes names aim m m' i_is aim_is names_are stamped reads told =
      record {
        read = read;
        left = value;
        found = subst (λ (a : Aim). FoundControl a.name (Busy 0) read) aim_is told.found;
        says = record { stamp_is = stamped; reads = reads };
        did = subst (λ (z : List ℕ × (ℕ × Aim)). AwaitsAt cargo z.1.1 z.0 z.1.0 read value m m') (λ k. (names_are k, (i_is k, aim_is k))) told.did;
      }

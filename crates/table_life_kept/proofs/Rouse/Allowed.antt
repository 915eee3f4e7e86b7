-- What the exchange of a rouse owes.
use Rattle.std.proofs.Common.{◌≡◌, ℕ, ◌<◌, ◌==◌, refl, sym, ap, ◌∙◌, subst, eq-eqb, ne_eqb}
use Rattle.std.specs.Prelude.{slice_index}
use mathlib.Core.Option as maybe
use mathlib.Core.Logic.{dite}
use native.Mathlib.Decide.{ℕ_discrete}
use prog.Atomic.{either}
use Rattle.life_rules.specs.declared.words.ControlWord.TheVariants.{ReadyLoop, Parked}
use Rattle.life_rules.specs.declared.event.Name.{Name}
use Rattle.table_words.specs.Stamps.{stamp_of}
use Rattle.table_words.specs.Controls.{control_read}
use Rattle.table_words.specs.Layouts.{OfControl, index}
use Rattle.atomic_table.specs.Table.{Allows, step, keeps, stepped}
use Rattle.table_rules.specs.declared.cargo.Cargo.{Ghosts}
use Rattle.table_rules.specs.declared.frame.Frame.{Frame}
use Rattle.table_rules.specs.Scenes.{shown}
use Rattle.table_rules.specs.Running.{Running}
use Rattle.table_steps.specs.Claims.{with_step}
use Rattle.table_steps.specs.Seats.{Seated}
use Rattle.table_steps.specs.Rouses.{MayRouse, rouses}
use Rattle.table_kept.proofs.Standing.{Standing}
use Rattle.table_kept.proofs.Listing.{AllowsListed, allows-listed, lists-one}
use Rattle.table_kept.proofs.Loads.{looks_keep}
use Rattle.table_life_kept.proofs.WordsLive.{LiveWord, SaysLive, says-live}
use Rattle.table_life_kept.proofs.Rouse.Runs.{ToRouse, rouse-runs}

-- what the exchange owes
pub rouses_allowed : {P E O : Type 0} (cargo : Ghosts P E O) (f : Frame O) (slots id old new : ℕ) (x : Name) (m : Seated P E) →
    x.block < f.layout.blocks → x.node < f.layout.nodes → MayRouse m.0 x →
    stamp_of old ≡ x.generation → control_read old ≡ Parked → stamp_of new ≡ x.generation → control_read new ≡ ReadyLoop →
    Allows (Running cargo f) slots id m (index f.layout (OfControl x.block x.node)) (λ n. either (n == old) new n)
    (rouses (step slots (index f.layout (OfControl x.block x.node)) old new maybe.none) m)
rouses_allowed {P} {E} cargo f slots id old new x m hb hn may stamp_old reads_old stamp_new reads_new s r deep at small =
    let hand : Standing cargo f = record { state = s; id = id; view = m.0; running = r; at = at } in
    let i = index f.layout (OfControl x.block x.node) in
    let n = slice_index s.words i in
    dite (ℕ_discrete n old)
    (λ hit.
    let live_word : LiveWord cargo f = record {
      state = s;
      name = x;
      word = Parked;
      running = r;
      within = hb;
      node_within = hn;
      stamped = ap stamp_of hit ∙ stamp_old;
      reads = ap control_read hit ∙ reads_old;
      under_way = refl;
    } in
    let says : SaysLive (shown f s) x Parked = says-live cargo f live_word in
    let rousing : ToRouse hand = record {
      value = new;
      name = x;
      live = says.live;
      parked = says.word;
      may = may;
      stamped = stamp_new;
      reads = reads_new;
    } in
    let left : new ≡ either (n == old) new n = sym (ap (λ t. either t new n) (eq-eqb n old hit)) in (
      with_step i n (either (n == old) new n) m.0,
      keeps,
      tt,
      subst (λ (k : ℕ). Running cargo f (stepped s i k id m.1 (with_step i n k m.0) keeps)) left
          (rouse-runs cargo f hand rousing n refl),
      refl,
    ))
    (λ miss. (
      with_step i n (either (n == old) new n) m.0,
      keeps,
      tt,
      subst (λ (k : ℕ). Running cargo f (stepped s i k id m.1 (with_step i n k m.0) keeps)) (sym (ap (λ t. either t new n) (ne_eqb n old miss)))
          (looks_keep cargo f s id i m.0 r at),
      refl,
    ))

-- the same by the frame that the table shows
pub rouses-at : {P E O : Type 0} (cargo : Ghosts P E O) (board f : Frame O) (slots id i old new : ℕ) (x : Name) (m : Seated P E) → board ≡ f →
    i ≡ index board.layout (OfControl x.block x.node) → x.block < board.layout.blocks → x.node < board.layout.nodes → MayRouse m.0 x →
    stamp_of old ≡ x.generation → control_read old ≡ Parked → stamp_of new ≡ x.generation → control_read new ≡ ReadyLoop →
    AllowsListed cargo f slots id m i (λ n. either (n == old) new n) (rouses (step slots i old new maybe.none) m)
rouses-at cargo board f slots id i old new x m same i_is hb hn may stamp_old reads_old stamp_new reads_new =
    allows-listed cargo f slots id m i (λ n. either (n == old) new n) (rouses (step slots i old new maybe.none) m)
    (λ n m' told. lists-one i n (either (n == old) new n) m m' m.0 (ap (λ z. z.0) told) refl refl refl refl)
    (subst (λ z. Allows (Running cargo z) slots id m i (λ n. either (n == old) new n) (rouses (step slots i old new maybe.none) m)) same
    (subst (λ j. Allows (Running cargo board) slots id m j (λ n. either (n == old) new n) (rouses (step slots j old new maybe.none) m))
    (sym i_is)
    (rouses_allowed cargo board slots id old new x m hb hn may stamp_old reads_old stamp_new reads_new)))

-- What the exchange by which a node is taken owes, and what it tells.
use Rattle.std.proofs.Common.{◌≡◌, ℕ, ◌<◌, true, ◌==◌, List, [], ◌∷◌, length, Option, Some, refl, sym, ap, ◌∙◌, subst, eq-eqb, ne_eqb, arith}
use Rattle.std.specs.Prelude.{nat_le, slice_index}
use mathlib.Core.Option as maybe
use mathlib.Core.Logic.{dite}
use native.Mathlib.Decide.{ℕ_discrete}
use prog.Atomic.{either}
use Rattle.life_rules.specs.declared.words.ControlWord.{ControlWord}
use Rattle.life_rules.specs.declared.words.ControlWord.TheVariants.{Busy}
use Rattle.life_rules.specs.declared.event.Name.{Name}
use Rattle.life_rules.specs.declared.event.Resting.{Resting}
use Rattle.life_rules.specs.declared.event.Resting.TheVariants.{Loop, Pool, Parked}
use Rattle.life_rules.specs.Words.{is_done, is_under_way, may_be_taken, resting_at}
use Rattle.life_rules.specs.Views.{beside}
use Rattle.life_rules.specs.States.{State, control_at}
use Rattle.life_rules.specs.Callbacks.{nearest_is_requested}
use Rattle.table_words.specs.Stamps.{stamp_of}
use Rattle.table_words.specs.Controls.{control_read}
use Rattle.table_words.specs.Layouts.{OfControl, index, place_number}
use Rattle.atomic_table.specs.Table.{Allows, step, takes, chain, keeps, stepped}
use Rattle.atomic_table.specs.Table as table
use Rattle.table_rules.specs.declared.cargo.Cargo.{Ghosts}
use Rattle.table_rules.specs.declared.frame.Frame.{Frame}
use Rattle.table_rules.specs.declared.view.View.{View}
use Rattle.table_rules.specs.Scenes.{Full, shown, scene}
use Rattle.table_rules.specs.Notes.{children_are_requested}
use Rattle.table_rules.specs.Running.{Running}
use Rattle.table_steps.specs.Claims.{with_step, logged}
use Rattle.table_steps.specs.Seats.{Seated}
use Rattle.table_steps.specs.Slots.{kids_of, IsSeated}
use Rattle.table_steps.specs.Takes.{takes_node, TakenAt, TakesAt}
use Rattle.table_kept.proofs.Standing.{Standing}
use Rattle.table_life_kept.proofs.DoneBelow.{below-most}
use Rattle.table_kept.proofs.Loads.{looks_keep}
use Rattle.table_kept.proofs.SeenStands.{noted-start}
use Rattle.table_life_kept.proofs.Hearing.{hears-as}
use Rattle.table_kept.proofs.KidSlots.{take_each, carries}
use Rattle.table_life_kept.proofs.WordsLive.{LiveWord, SaysLive, says-live}
use Rattle.table_life_kept.proofs.Take.Seats.{seated-taken, take-valid}
use Rattle.table_life_kept.proofs.Take.Runs.{take-runs}
use Rattle.table_life_kept.proofs.Take.Homes.{ToTake, lies, place-b}
use Rattle.table_life_kept.proofs.Take.Words.{IsTakeable, takeable}

-- which node is taken, what its word says, and the word that says it is taken
pub record ToTakeFrom {P E O : Type 0} {cargo : Ghosts P E O} {f : Frame O}
    (hand : Standing cargo f) : Type 0 where
  pub value : ℕ
  pub name : Name
  pub carried : List (ℕ × Option P)
  pub word : ControlWord
  pub says : SaysLive (shown f hand.state) name word
  pub may : may_be_taken word hand.id ≡ true
  pub stamped : stamp_of value ≡ name.generation
  pub reads : control_read value ≡ Busy 0

module _ {P E O : Type 0} (cargo : Ghosts P E O) (f : Frame O) (hand : Standing cargo f)
    (task : ToTakeFrom hand) where
  open hand use {state as s, id, view as v, running as r, at}
  open task use {value, name as x, carried as c, word as w, says, may, stamped, reads}

  abbrev now : State
  now = shown f s

  may-now : may_be_taken (control_at now x) id ≡ true
  may-now = ap (λ c. may_be_taken c id) says.word ∙ may

  rests : IsTakeable (control_at now x)
  rests = takeable (control_at now x) id may-now

  abbrev taking : ToTake hand
  taking = record {
    value = value;
    name = x;
    carried = c;
    live = says.live;
    may = may-now;
    stamped = stamped;
    reads = reads;
  }

  lying : (item : P) × ((scene f s r.past).home x.block x.node ≡ Full item)
  lying = lies cargo f hand taking

  abbrev i : ℕ
  i = index f.layout (OfControl x.block x.node)

  pub taken-now : (n : ℕ) → n ≡ slice_index s.words i → (w : View P E) × (a : table.Act (Option P)) × table.Valid s.homes c a
      × Running cargo f (stepped s i value id c w a)
      × TakenAt cargo (record { tree = f.tree; layout = f.layout; name = x }) (f.over.value ∷ []) i n value (v, c) (w, table.carried_after c a)
  taken-now n was =
      let told = nearest_is_requested now x in
      let told_kids = children_are_requested now x in
      let slot = place_number f.layout x.block x.node in
      let kids = kids_of f.tree x.node in
      let mine : View P E = with_step i n value (takes_node x (r.past.start x) (r.past.named x) told told_kids v) in
      let is = carries f.layout s.homes c r.sized.homes x.block (place-b cargo f hand taking) kids in (
        mine,
        chain (take_each f.layout x.block kids) (takes slot (Some lying.0)),
        take-valid cargo f hand taking lying.0 lying.1,
        take-runs cargo f hand taking n was,
        record {
          start = r.past.start x;
          named = r.past.named x;
          told = told;
          told_children = told_kids;
          item = lying.0;
          me_is = λ k. (mine, (slot, Some lying.0) ∷ is k);
          shows = r.stands.starts.shows x lying.0 says.live lying.1;
          fit = r.stands.items.fit x lying.0 says.live lying.1;
          goes_on = r.stands.items.goes_on x lying.0 says.live lying.1 rests.done;
          bound = r.stands.items.bound x lying.0 says.live lying.1;
          most = (let met = r.stands.homes.met x rests.begun (ap (nat_le 1) rests.none) in
              let all = below-most f.tree x.node (λ n. is_done (control_at now (beside x n))) (length f.tree) in
              omega (arith, met, all));
          key = (r.stands.starts.key x rests.begun, tt);
          noted = noted-start cargo f hand x says.live;
          hears = hears-as cargo f hand x;
          seated = λ old. subst (λ d. IsSeated f.tree f.layout (mine, (slot, Some lying.0) ∷ d)) (sym is)
              (seated-taken cargo f hand taking lying.0 lying.1
              (r.past.start x) (r.past.named x) told told_kids i n value old);
          rests = r.stands.items.rests x lying.0 says.live lying.1 rests.rests;
        },
      )

-- the word of a node at rest says that it is under way
resting-busy : (to : Resting) → is_under_way (resting_at to) ≡ true
resting-busy Loop = refl
resting-busy Pool = refl
resting-busy Parked = refl

-- what the exchange owes
pub takes_allowed : {P E O : Type 0} (cargo : Ghosts P E O) (f : Frame O) (slots id old new : ℕ) (x : Name) (from : Resting) (m : Seated P E) →
    x.block < f.layout.blocks → x.node < f.layout.nodes → may_be_taken (resting_at from) m.0.number ≡ true →
    stamp_of old ≡ x.generation → control_read old ≡ resting_at from → stamp_of new ≡ x.generation → control_read new ≡ Busy 0 →
    Allows (Running cargo f) slots id m (index f.layout (OfControl x.block x.node)) (λ n. either (n == old) new n)
    (TakesAt cargo (record { tree = f.tree; layout = f.layout; name = x }) (f.over.value ∷ [])
    (step slots (index f.layout (OfControl x.block x.node)) old new maybe.none) m)
takes_allowed {P} {E} cargo f slots id old new x from m hb hn may stamp_old reads_old stamp_new reads_new s r deep at small =
    let hand : Standing cargo f = record { state = s; id = id; view = m.0; running = r; at = at } in
    let i = index f.layout (OfControl x.block x.node) in
    let n = slice_index s.words i in
    dite (ℕ_discrete n old)
    (λ hit.
    let live_word : LiveWord cargo f = record {
      state = s;
      name = x;
      word = resting_at from;
      running = r;
      within = hb;
      node_within = hn;
      stamped = ap stamp_of hit ∙ stamp_old;
      reads = ap control_read hit ∙ reads_old;
      under_way = resting-busy from;
    } in
    let says = says-live cargo f live_word in
    let mine : may_be_taken (resting_at from) id ≡ true = subst (λ h. may_be_taken (resting_at from) h ≡ true) (r.stands.views.number id m.0 at) may in
    let taking : ToTakeFrom hand = record {
      value = new;
      name = x;
      carried = m.1;
      word = resting_at from;
      says = says;
      may = mine;
      stamped = stamp_new;
      reads = reads_new;
    } in
    let won = taken-now cargo f hand taking n refl in (
      won.0,
      won.1,
      won.2,
      subst (λ (k : ℕ). Running cargo f (stepped s i k id m.1 won.0 won.1)) (sym (ap (λ t. either t new n) (eq-eqb n old hit))) won.3,
      ((λ _. won.4), (λ miss. absurd (miss hit))),
    ))
    (λ miss.
    let w : View P E = logged i n m.0 in (
      w,
      keeps,
      tt,
      subst (λ (k : ℕ). Running cargo f (stepped s i k id m.1 w keeps))
          (sym (ap (λ t. either t new n) (ne_eqb n old miss))) (looks_keep cargo f s id i m.0 r at),
      ((λ hit. absurd (miss hit)), (λ _. refl)),
    ))

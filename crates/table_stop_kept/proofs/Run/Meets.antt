-- What is met at the place at which a scan goes on: its word, and the rule after its exchange.
use Rattle.std.proofs.Common.{◌≡◌, ℕ, ◌<◌, ◌≤◌, true, false, List, refl, sym, ap, ◌∙◌, subst, arith}
use Rattle.std.specs.Prelude.{Option, Some, None, slice_index}
use Rattle.std.specs.Option.{option_map_or}
use Rattle.std.proofs.lemmas.Bool.{and_parts, cond-true, cond-false}
use Rattle.listed_words.specs.Lists.{entry}
use Rattle.life_rules.specs.declared.words.CallbackPhase.TheVariants.{Running as Runs}
use Rattle.life_rules.specs.declared.event.Name.{Name}
use Rattle.life_rules.specs.declared.event.SourceRef.{SourceRef}
use Rattle.life_rules.specs.Views.{same_source}
use Rattle.life_rules.specs.States.{State, is_live, name_of, nearest_of}
use Rattle.common_lemmas.proofs.Bool.{either as test}
use Rattle.life_rules.proofs.Names.{same_source-true}
use Rattle.table_words.specs.Stamps.{stamp_of}
use Rattle.table_words.specs.Controls.{callback_read}
use Rattle.table_words.specs.Layouts.{OfCallback, index}
use Rattle.atomic_table.specs.Table.{keeps, stepped}
use Rattle.table_rules.specs.declared.cargo.Cargo.{Ghosts}
use Rattle.table_rules.specs.declared.frame.Frame.{Frame}
use Rattle.table_rules.specs.declared.view.View.{View}
use Rattle.table_rules.specs.Scenes.{shown}
use Rattle.table_rules.specs.Running.{Running}
use Rattle.table_steps.specs.Views.{aimed}
use Rattle.table_steps.specs.Claims.{with_step, logged}
use Rattle.table_steps.specs.Seats.{Seated}
use Rattle.table_steps.specs.ScanOrders.{hears}
use Rattle.table_steps.specs.Runs.{says_armed, place_named, node_named, runs_place, passes_place, meets_at, CanRun, IsOfScan, IsNewest}
use Rattle.table_kept.proofs.Standing.{Standing}
use Rattle.table_kept.proofs.Stamping.{newest-risen}
use Rattle.table_kept.proofs.Loads.{looks_keep}
use Rattle.table_stop_kept.proofs.Scan.Orders.{heard}
use Rattle.table_stop_kept.proofs.ArmedWords.{PlaceNow, armed-live, armed-phase, armed-stamp, unarmed-phase}
use Rattle.table_stop_kept.proofs.Run.Live.{runs-beside}
use Rattle.table_stop_kept.proofs.Run.Runs.{ToRun, present, scannable, run-runs, pass-runs}

some-same : (source : SourceRef) (o : Option SourceRef) → option_map_or (same_source source) o false ≡ true → o ≡ Some source
some-same source None h = cc
some-same source (Some t) h = ap Some (sym (same_source-true source t h))

-- at which place a scan of a source goes on, and what the hand carries
pub record ToMeet {P E O : Type 0} {cargo : Ghosts P E O} {f : Frame O}
    (hand : Standing cargo f) : Type 0 where
  pub slots : ℕ
  pub source : SourceRef
  pub block : ℕ
  pub place : ℕ
  pub carried : List (ℕ × Option P)
  pub can : CanRun f.tree hand.view source block place
  pub within : block < f.layout.blocks

module _ {P E O : Type 0} (cargo : Ghosts P E O) (f : Frame O) (hand : Standing cargo f)
    (task : ToMeet hand) where
  open hand use {state as s, id, view as v, running as r, at}
  open task use {slots, source, block as b, place as m, carried as c, can, within as hb}

  abbrev me : Seated P E
  me = (v, c)

  abbrev now : State
  now = shown f s

  abbrev x : Name
  x = name_of now b m

  abbrev i : ℕ
  i = index f.layout (OfCallback b m)

  abbrev n : ℕ
  n = slice_index s.words i

  hm : m < f.layout.nodes
  hm = let l = can.within in let e = r.frame.nodes in omega (arith, l, e)

  abbrev spot : PlaceNow cargo f
  spot = record { state = s; running = r; block = b; node = m; in_blocks = hb; in_nodes = hm }

  -- no word that the hand read there is greater
  pub entry-rises : (word : ℕ) → IsNewest i word me.0 → word ≤ n
  entry-rises word newest =
      (newest-risen f.layout s.words s.views id me.0 (entry i word word) newest.earlier at newest.steps_are r.stamped.rises
      (OfCallback b m) (hb, hm) refl).1

  abbrev running_next : ToRun hand
  running_next = record {
    source = source;
    block = b;
    place = m;
    can = can;
    within = hb;
    cell = i;
    number = n;
  }

  -- a word that isn't armed passes the place
  pub met-runs : Running cargo f (stepped s i n id me.1 (meets_at (aimed f (place_named b m)) source i n me).0 keeps)
  met-runs =
      let to : View P E → View P E = λ z. logged i n z in
      let passed : View P E = passes_place f.tree source b m me.0 in
      test (says_armed n)
      (λ armed.
      subst (λ (z : View P E). Running cargo f (stepped s i n id me.1 (to z) keeps)) (sym (cond-true (says_armed n) me.0 passed armed))
      (looks_keep cargo f s id i me.0 r at))
      (λ unarmed.
      subst (λ (z : View P E). Running cargo f (stepped s i n id me.1 (to z) keeps)) (sym (cond-false (says_armed n) me.0 passed unarmed))
      (pass-runs cargo f hand running_next (unarmed-phase cargo f spot unarmed) refl))

  -- it is armed
  module _ (armed : says_armed n ≡ true) where
    live : is_live now x ≡ true
    live = armed-live cargo f spot armed

    named : x ≡ node_named b m n
    named = let e = armed-stamp cargo f spot armed in λ k. record { block = b; generation = sym e k; node = m }

    registered : nearest_of now x ≡ Some source
    registered =
        let there = present cargo f hand running_next source
        (scannable cargo f hand running_next).requested in
        some-same source (nearest_of now x) (heard now source there b m ∙ (and_parts (hears f.tree source b m) _ can.next).0)

    pub of-scan : IsOfScan f.tree me.0 source (node_named b m n)
    of-scan =
        subst (IsOfScan f.tree me.0 source) named
        (record { nearest_is = registered; beside_it = runs-beside cargo f hand x live })

    pub won-runs : (new : ℕ) → stamp_of new ≡ stamp_of n → callback_read new ≡ Runs →
        Running cargo f (stepped s i new id me.1 (with_step i n new (runs_place (node_named b m n) me.0)) keeps)
    won-runs new stamped reads =
        subst (λ y. Running cargo f (stepped s i new id me.1 (with_step i n new (runs_place y me.0)) keeps)) named
        (run-runs cargo f hand running_next new live (armed-phase cargo f spot armed)
        (stamped ∙ armed-stamp cargo f spot armed) reads refl refl)

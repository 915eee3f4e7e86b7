-- The table after the report of a child, whether it is the last or not.
use Rattle.std.proofs.Common.{◌≡◌, ◌≢◌, ℕ, ◌-◌, ◌<◌, Bool, true, false, ◌||◌, ◌==◌, cond, List, [], ◌∷◌, length, Option, Some, refl, sym, ap, ◌∙◌, subst, arith}
use Rattle.std.specs.Prelude.{slice_index}
use Rattle.std.specs.List.{list_any}
use Rattle.std.proofs.lemmas.Bool.{and_from, and_parts, eqb-true, cond-true, eq-eqb, lt-ltb}
use Rattle.std.proofs.lemmas.Nat.{same_from_place}
use mathlib.Core.Option.{some}
use lib.ListN.{get_elem?}
use Rattle.life_rules.specs.declared.words.ControlWord.TheVariants.{Idle, Busy}
use Rattle.life_rules.specs.declared.event.Name.{Name}
use Rattle.node_tree.specs.Tree.{is_child}
use Rattle.life_rules.specs.Words.{is_idle, is_done, pending}
use Rattle.life_rules.specs.States.{State, is_live, control_at}
use Rattle.life_rules.specs.Callbacks.{nearest_is_requested}
use Rattle.life_rules.proofs.Readings.{lives}
use Rattle.table_words.specs.Stamps.{stamp_of}
use Rattle.table_words.specs.Controls.{control_read}
use Rattle.table_words.specs.Layouts.{OfControl, index, place_number}
use Rattle.atomic_table.specs.Table.{takes, chain, keeps, stepped}
use Rattle.atomic_table.specs.Table as table
use Rattle.table_rules.specs.declared.cargo.Cargo.{Ghosts}
use Rattle.table_rules.specs.declared.frame.Frame.{Frame}
use Rattle.table_rules.specs.declared.view.View.{View}
use Rattle.table_rules.specs.Named.{Each}
use Rattle.table_rules.specs.ShownWords.{is_there, is_said, said_at}
use Rattle.table_rules.specs.Scenes.{Empty, Full, home_in, shown, scene}
use Rattle.table_rules.specs.Notes.{children_are_requested}
use Rattle.table_rules.specs.Running.{Running}
use Rattle.table_steps.specs.Views.{aimed}
use Rattle.table_steps.specs.Lefts.{less_one}
use Rattle.table_steps.specs.Claims.{with_step}
use Rattle.table_steps.specs.Slots.{slot_of, kids_of, is_of_family, has_slot, IsSeated}
use Rattle.table_steps.specs.Reports.{CanReport, reports_off, holds_last, laid, LastAt, CountsDown}
use Rattle.table_kept.proofs.Standing.{Standing}
use Rattle.table_kept.proofs.Entries.{each-map, each-both}
use Rattle.table_kept.proofs.KidSlots.{kids-descend}
use Rattle.table_kept.proofs.SlotsOut.{apart-home}
use Rattle.table_kept.proofs.BeginSeats.{or-left, or-right, or-cases, kids-are, kid-of-family}
use Rattle.table_kept.proofs.SeenStands.{noted-start}
use Rattle.table_life_kept.proofs.Take.Seats.{full-home}
use Rattle.table_life_kept.proofs.Hearing.{hears-as}
use Rattle.table_life_kept.proofs.LaidSlots.{take_with, carries-laid, each-laid, apart-laid}
use Rattle.table_life_kept.proofs.Report.Words.{IsExact, less-stamp, less-read}
use Rattle.table_life_kept.proofs.Report.State.{above, waits, word-is, above-live}
use Rattle.table_life_kept.proofs.Report.On.{ToReportOn, report-runs}
use Rattle.table_life_kept.proofs.Report.LastKids.{LastReport, waits-before, counts-named, kid-ends, kid-fits, kid-below, kid-draws, kid-failed}
use Rattle.table_life_kept.proofs.Report.LastReported.{last-keeps, last-descends}
use Rattle.table_life_kept.proofs.Report.Last.{last-runs}
use Rattle.table_life_kept.proofs.Report.LastHomes.{ToReportLast, place-b, place-n, lies, inside, kids-within, kids-lie, last-valid}
use Rattle.table_life_kept.proofs.Move.State.{parent-differs}

-- which child is reported, and what the hand carries
pub record ToReport {P E O : Type 0} {cargo : Ghosts P E O} {f : Frame O}
    (hand : Standing cargo f) : Type 0 where
  pub child : Name
  pub carried : List (ℕ × Option P)
  pub can : CanReport f.tree hand.view child
  pub exact : IsExact

module _ {P E O : Type 0} (cargo : Ghosts P E O) (f : Frame O) (hand : Standing cargo f)
    (task : ToReport hand) where
  open hand use {state as s, id, view as v, running as r, at}
  open task use {child as c, carried, can, exact}

  abbrev now : State
  now = shown f s

  abbrev x : Name
  x = above cargo f hand c can

  abbrev k : ℕ
  k = pending (control_at now x)

  abbrev i : ℕ
  i = index f.layout (OfControl x.block x.node)

  abbrev n : ℕ
  n = slice_index s.words i

  not-idle : (b : Bool) → cond b (control_read n) Idle ≡ Busy k → b ≡ true
  not-idle true e = refl
  not-idle false e = cc

  live-now : is_live now x ≡ true
  live-now = above-live cargo f hand c can

  said-now : cond (is_said (now.block x.block) n) (control_read n) Idle ≡ Busy k
  said-now =
      let l = lives now x live-now in
      let node = l.node in
      let e = r.frame.nodes in
      sym (cond-true (is_there f.layout x.block x.node) (said_at (now.block x.block) Idle control_read n) Idle
      (and_from _ _ (lt-ltb x.block f.layout.blocks l.block) (lt-ltb x.node f.layout.nodes (omega (arith, node, e)))))
      ∙ sym (cond-true (is_live now x) (now.control x.block x.node) Idle live-now) ∙ word-is cargo f hand c can

  is-said : is_said (now.block x.block) n ≡ true
  is-said = not-idle (is_said (now.block x.block) n) said-now

  -- the word that is read is the parent's
  pub reads-now : control_read n ≡ Busy k
  reads-now = sym (cond-true (is_said (now.block x.block) n) (control_read n) Idle is-said) ∙ said-now

  stamp-now : stamp_of n ≡ c.generation
  stamp-now =
      eqb-true _ _ (and_parts _ _ is-said).1
      ∙ sym (lives now x live-now).generation

  module _ (small : n < 18446744073709551616) where
    stamp-less : stamp_of (less_one n) ≡ c.generation
    stamp-less = less-stamp exact n k small reads-now (waits cargo f hand c can) ∙ stamp-now

    read-less : control_read (less_one n) ≡ Busy (k - 1)
    read-less = less-read exact n k small reads-now (waits cargo f hand c can)

    -- it says one less then
    pub counts-now : CountsDown x n (less_one n)
    counts-now =
        let waits = waits cargo f hand c can in
        record {
          fewer = k - 1;
          was = record { stamp_is = stamp-now; reads = reads-now ∙ ap Busy (omega (arith, waits)) };
          now = record { stamp_is = stamp-less; reads = read-less };
        }

    pub on-now : k ≢ 1 → Running cargo f (stepped s i (less_one n) id carried (with_step i n (less_one n) (reports_off c v)) keeps)
    on-now more =
        let reporting : ToReportOn hand = record {
          value = less_one n;
          child = c;
          can = can;
          more = more;
          stamped = stamp-less;
          reads = read-less;
        } in
        report-runs cargo f hand reporting n refl

    module _ (last : k ≡ 1) where
      read-last : control_read (less_one n) ≡ Busy 0
      read-last = read-less ∙ ap (λ j. Busy (j - 1)) last

      abbrev told : Bool
      told = nearest_is_requested now x

      abbrev told_kids : Bool
      told_kids = children_are_requested now x

      abbrev mine : View P E
      mine = with_step i n (less_one n) (holds_last x (r.past.start x) (r.past.named x) told told_kids (r.past.lot x) (reports_off c v))

      abbrev kids : List ℕ
      kids = kids_of f.tree x.node

      abbrev slot : ℕ
      slot = place_number f.layout x.block x.node

      abbrev last_report : LastReport hand
      last_report = record { child = c; can = can; last = last }

      abbrev reporting : ToReportLast hand
      reporting = record {
        report = last_report;
        value = less_one n;
        carried = carried;
        stamped = stamp-less;
        reads = read-last;
      }

      abbrev lying : (item : P) × ((scene f s r.past).home x.block x.node ≡ Full item)
      lying = lies cargo f hand reporting

      abbrev content : ℕ → Option P
      content = inside cargo f hand reporting

      hb : x.block < f.layout.blocks
      hb = place-b cargo f hand reporting

      hn : x.node < f.layout.nodes
      hn = place-n cargo f hand reporting

      within : Each (λ n. n < f.layout.nodes) kids
      within = kids-within cargo f hand reporting

      lie : Each (λ n. get_elem? s.homes (place_number f.layout x.block n) ≡ some (some (content n))) kids
      lie = kids-lie cargo f hand reporting

      own-home : get_elem? s.homes slot ≡ some (some (Some lying.0))
      own-home =
          full-home s.homes slot lying.0
          (sym (cond-true (is_there f.layout x.block x.node) (home_in (get_elem? s.homes slot)) Empty
          (and_from _ _ (lt-ltb x.block f.layout.blocks hb) (lt-ltb x.node f.layout.nodes hn))) ∙ lying.1)

      given-still : (d : ℕ) → has_slot f.tree f.layout v d ≡ true → has_slot f.tree f.layout mine d ≡ true
      given-still d h =
          let a = list_any (λ e. slot_of f.layout e.name == d) v.owed in
          let b = list_any (λ e. is_of_family f.tree f.layout e.name d) v.held in
          let z = list_any (λ y. slot_of f.layout y == d) v.finished in
          let own = is_of_family f.tree f.layout x d in
          or-cases a (b || z) h
          (λ owed. or-left a ((own || b) || z) owed)
          (λ more.
          or-right a ((own || b) || z)
          (or-cases b z more (λ held. or-left (own || b) z (or-right own b held)) (λ finished. or-right (own || b) z finished)))

      family : (d : ℕ) → is_of_family f.tree f.layout x d ≡ true → has_slot f.tree f.layout mine d ≡ true
      family d own = or-right _ _ (or-left _ _ (or-left _ _ own))

      seated-last : IsSeated f.tree f.layout (v, carried) →
          IsSeated f.tree f.layout (mine, (slot, Some lying.0) ∷ laid f.layout x.block kids content carried)
      seated-last old =
          record {
            apart = (
              each-laid (λ d. d.0 ≢ slot) f.layout x.block kids content carried
                  (each-map (λ m. (m < f.layout.nodes) × (is_child f.tree x.node m ≡ true)) (λ m. place_number f.layout x.block m ≢ slot)
                  (λ m both e.
                  parent-differs f.tree r.stands.sound.tree x.node m both.1
                  (sym (same_from_place x.block m x.block x.node f.layout.nodes both.0 hn e).1)) kids
                  (each-both (λ m. m < f.layout.nodes) (λ m. is_child f.tree x.node m ≡ true) kids within (kids-are f.tree x.node (length f.tree))))
                  (apart-home cargo f hand slot (Some lying.0) carried own-home old.given),
              apart-laid f.layout x.block kids content carried (kids-descend f.tree x.node (length f.tree)) within
                  (each-map (λ m. get_elem? s.homes (place_number f.layout x.block m) ≡ some (some (content m)))
                  (λ m. Each (λ d. d.0 ≢ place_number f.layout x.block m) carried)
                  (λ m home. apart-home cargo f hand (place_number f.layout x.block m) (content m) carried home old.given) kids lie)
                  old.apart,
            );
            given = (
              family slot (or-left (slot_of f.layout x == slot) _ (eq-eqb slot slot refl)),
              each-laid (λ d. has_slot f.tree f.layout mine d.0 ≡ true) f.layout x.block kids content carried
                  (each-map (λ m. is_child f.tree x.node m ≡ true)
                  (λ m. has_slot f.tree f.layout mine (place_number f.layout x.block m) ≡ true)
                  (λ m child. family (place_number f.layout x.block m) (kid-of-family f.tree f.layout x m child))
                  kids (kids-are f.tree x.node (length f.tree)))
                  (each-map (λ d. has_slot f.tree f.layout v d.0 ≡ true) (λ d. has_slot f.tree f.layout mine d.0 ≡ true)
                  (λ d. given-still d.0) carried old.given),
            );
            itself = old.itself;
          }

      pub last-now : (w : View P E) × (a : table.Act (Option P)) × table.Valid s.homes carried a
          × Running cargo f (stepped s i (less_one n) id carried w a)
          × LastAt cargo (aimed f x) c (f.over.value ∷ []) i n (less_one n) (v, carried) (w, table.carried_after carried a)
      last-now =
          let is = carries-laid f.layout s.homes carried r.sized.homes x.block hb content kids in
          let waiting = waits-before cargo f hand last_report in (
            mine,
            chain (take_with f.layout x.block content kids) (takes slot (Some lying.0)),
            last-valid cargo f hand reporting,
            last-runs cargo f hand reporting n refl,
            record {
              start = r.past.start x;
              named = r.past.named x;
              told = told;
              told_children = told_kids;
              lot = r.past.lot x;
              item = lying.0;
              content = content;
              me_is = λ j. (mine, (slot, Some lying.0) ∷ is j);
              shows = r.stands.starts.shows x lying.0 live-now lying.1;
              fit = r.stands.items.fit x lying.0 live-now lying.1;
              goes_on = r.stands.items.goes_on x lying.0 live-now lying.1 (ap is_done (word-is cargo f hand c can));
              bound = r.stands.items.bound x lying.0 live-now lying.1;
              lot_is = r.stands.lots.own x lying.0 waiting lying.1;
              key = (r.stands.starts.key x (ap is_idle (word-is cargo f hand c can)), tt);
              noted = noted-start cargo f hand x live-now;
              count = counts-named cargo f hand last_report;
              ends = kid-ends cargo f hand last_report;
              fits_child = kid-fits cargo f hand last_report;
              below = kid-below cargo f hand last_report;
              draws = kid-draws cargo f hand last_report;
              keeps = last-keeps cargo f hand last_report;
              descends = last-descends cargo f hand last_report;
              failure = kid-failed cargo f hand last_report;
              hears = hears-as cargo f hand x;
              seated = λ old. subst (λ d. IsSeated f.tree f.layout (mine, (slot, Some lying.0) ∷ d)) (sym is) (seated-last old);
            },
          )

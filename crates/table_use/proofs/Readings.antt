-- What a hand read last, or in a part of a call, and the causes of faults that its reads tell.
use Rattle.std.proofs.Common.{◌≡◌, ℕ, ◌<◌, Bool, true, List, [], ◌∷◌, refl, sym, ap, ◌∙◌, subst}
use Rattle.std.specs.Prelude.{◌≢◌, Option, if◌then◌else◌}
use Rattle.std.proofs.lemmas.Bool.{and_from, eq-eqb}
use Rattle.life_rules.specs.declared.words.CallbackPhase.{CallbackPhase}
use Rattle.life_rules.specs.declared.words.CallbackPhase.TheVariants.{Never}
use Rattle.life_rules.specs.declared.event.Name.{Name}
use Rattle.life_rules.specs.declared.event.SourceRef.{SourceRef}
use Rattle.life_rules.specs.declared.event.SourceRef.TheVariants.{Node}
use Rattle.node_tree.specs.Tree.{has_source}
use Rattle.life_rules.specs.Views.{beside}
use Rattle.life_rules.specs.Words.{pending}
use Rattle.table_words.specs.Controls.{control_read, source_read}
use Rattle.table_words.specs.Layouts.{Spot, OfControl, OfCallback, OfSource, index}
use Rattle.table_words.specs.Stamps.{stamp_of}
use Rattle.atomic_table.specs.declared.shared.Seat.{Seat}
use Rattle.table_rules.specs.declared.view.View.{View}
use Rattle.table_rules.specs.declared.view.Held.{Held}
use Rattle.listed_words.specs.declared.seen.Seen.{Seen}
use Rattle.listed_words.specs.Lists.{entry}
use Rattle.table_rules.specs.Named.{find_by}
use Rattle.table_steps.specs.declared.block.Block.{Block}
use Rattle.table_steps.specs.declared.report.Report.TheVariants.{Last}
use Rattle.table_steps.specs.Views.{Board}
use Rattle.table_steps.specs.Claims.{root_name, word_index}
use Rattle.table_steps.specs.Seats.{Seated}
use Rattle.table_steps.specs.Readings.{above_it, Holds, HoldsAbove, IsBegunAs, IsPhaseAs, notes_idle, says_begun, says_phase}
use Rattle.table_steps.specs.Reports.{IsReportedAs}
use Rattle.table_steps.specs.Requests.{IsWordOf, asks_at}
use Rattle.table_steps.specs.Runs.{AreTries, HasRun, last_of, listed, run_index, says_armed}
use Rattle.table_steps.specs.Sights.{says_requested, spot_of}
use Rattle.op_slot.specs.Searches.{IsFound}
use Rattle.stop_calls.specs.declared.arming.Armed.TheVariants.{Asked as IsAsked}
use Rattle.stop_calls.specs.Armings.{IsArmedSo}
use Rattle.table_use.specs.declared.cargo.Item.{Item}
use Rattle.table_use.specs.declared.cargo.Entry.{Entry}
use Rattle.table_use.specs.declared.node.Fault.TheVariants.{Begun, Asked}
use Rattle.table_use.specs.Uses.{use_tree, IsNode, IsRoot}
use Rattle.table_use.specs.Causes.{GoesOn, HasJustRead, HasRead, WasFree, AwaitsOne, WasArmed, WasRegistered, IsStartCause, IsStopCause}
use Rattle.table_use.specs.contracts.cargo.ItemCargo.TheImpl.{ghosts}
use Rattle.table_use.proofs.Nodes.{kid-above, kid-of, source-above}
use Rattle.table_use.proofs.Steps.{same-longer, one-longer, longer-on, listed-longer, on, stays, steps_of, searched-on, phase-steps, child-steps}

-- what was read in a part of a call
module _ (board : Board ℕ) (spot : Spot) (says : ℕ → Type 0) where
  pub just-read : (m m1 : Seated Item Entry) (word left : ℕ) → says word →
      m1.0.steps ≡ entry (index board.frame.layout spot) word left ∷ m.0.steps → HasJustRead board spot says m m1
  just-read m m1 word left said is =
      record { word = word; left = left; said = said; earlier = m.0.steps; began = same-longer m.0.steps m.0.steps refl; newest = is }

  pub just-within : (m m1 m2 : Seated Item Entry) → GoesOn m m1 → HasJustRead board spot says m1 m2 → HasJustRead board spot says m m2
  just-within m m1 m2 first r =
      record {
        word = r.word;
        left = r.left;
        said = r.said;
        earlier = r.earlier;
        began = longer-on m.0.steps m1.0.steps r.earlier first r.began;
        newest = r.newest;
      }

  pub just-on : (m m1 : Seated Item Entry) → HasJustRead board spot says m m1 → GoesOn m m1
  just-on m m1 r = longer-on m.0.steps r.earlier m1.0.steps r.began (one-longer _ r.earlier m1.0.steps r.newest)

  pub read-now : (m m1 : Seated Item Entry) → HasJustRead board spot says m m1 → HasRead board spot says m m1
  read-now m m1 r = record { middle = m1; read = r; went_on = stays m1 }

  pub read-within : (m m1 m2 m3 : Seated Item Entry) → GoesOn m m1 → HasRead board spot says m1 m2 → GoesOn m2 m3 → HasRead board spot says m m3
  read-within m m1 m2 m3 first r more =
      record {
        middle = r.middle;
        read = just-within m m1 r.middle first r.read;
        went_on = on r.middle m2 m3 r.went_on more;
      }

  pub read-on : (m m1 : Seated Item Entry) → HasRead board spot says m m1 → GoesOn m m1
  read-on m m1 r = on m r.middle m1 (just-on m r.middle r.read) r.went_on

-- the words of the tries are armed
last-armed : (word : ℕ) (tries : List ℕ) → says_armed word ≡ true → AreTries word tries → says_armed (last_of word tries) ≡ true
last-armed word [] armed later = armed
last-armed word (next ∷ tries) armed later = last-armed next tries later.0 later.2

module _ (board : Board ℕ) where
  still-above : (x y : Name) (m m1 : Seated Item Entry) (begun : Bool) → begun ≡ true → IsBegunAs board.frame x begun m m1 →
      HoldsAbove board.frame.tree m.0 y → HoldsAbove board.frame.tree m1.0 y
  still-above x y m m1 begun so read has =
      record {
        parent = has.parent;
        parent_is = has.parent_is;
        held = has.held;
        holds =
            ap (λ (z : Seated Item Entry). find_by (λ (e : Held Entry). e.name) z.0.held (beside y has.parent)) read.2
            ∙ ap (λ (b : Bool).
            find_by (λ (e : Held Entry). e.name) (if b then m.0 else notes_idle (above_it board.frame.tree x) x.node m.0).held (beside y has.parent))
            (sym read.1 ∙ so) ∙ has.holds;
      }

  module _ (x : Name) (m m1 : Seated Item Entry) where
    pub begun-cause : (begun : Bool) → begun ≡ true → IsBegunAs board.frame x begun m m1 → HoldsAbove board.frame.tree m.0 x → x.node < 3 →
        IsStartCause board m m1 x Begun
    begun-cause begun so read has low = (
      x.node,
      low,
      (
        just-read board (OfControl x.block x.node) (λ word. says_begun x.generation word ≡ true) m m1 read.0 read.0 (sym read.1 ∙ so)
            (child-steps board x m m1 begun read),
        still-above x x m m1 begun so read has,
      ),
    )

    pub registered-cause : (phase : CallbackPhase) → phase ≢ Never → IsPhaseAs board.frame x phase m m1 → Holds m1.0 x →
        WasRegistered board m m1 x
    registered-cause phase some read holds = (
      just-read board (OfCallback x.block x.node) (λ word. says_phase x.generation word ≢ Never) m m1 read.0 read.0 (λ never. some (read.1 ∙ never))
          (phase-steps board x m m1 phase read),
      holds,
    )

    -- a request that was made before, on the source of x
    pub requested-cause : has_source use_tree x.node ≡ true → (word left : ℕ) → IsWordOf (Node x) word → (source_read word).requested ≡ true →
        m1 ≡ asks_at (Node x) (index board.frame.layout (spot_of (Node x))) word left m → IsStopCause board m m1 x Asked
    requested-cause has word left of_it asked is = (
      x.node,
      has,
      read-now board (OfSource x.block x.node) (λ word. says_requested (Node x) word ≡ true) m m1
          (just-read board (OfSource x.block x.node) (λ word. says_requested (Node x) word ≡ true) m m1 word left
          (and_from _ _ (eq-eqb (stamp_of word) x.generation of_it) asked) (ap steps_of is)),
    )

  -- and on the source that x hears
  pub heard-cause : (x : Name) (is : IsNode board x) → x.node < 3 → (old new : Seat (Option Item) (View Item Entry)) → IsArmedSo board x IsAsked old new →
      IsStartCause board old.me new.me x Asked
  heard-cause x is low old new did =
      let above = source-above board x is low did.source did.nearest_is in
      let y : Name = beside x above.0 in
      let asked : says_requested (Node y) did.looked.0 ≡ true = subst (λ s. says_requested s did.looked.0 ≡ true) above.2 (sym did.looked.1) in
      let is_step : new.me.0.steps ≡ entry (index board.frame.layout (OfSource y.block y.node)) did.looked.0 did.looked.0 ∷ did.middle.me.0.steps =
      ap steps_of did.looked.2 ∙ ap (λ s. entry (index board.frame.layout (spot_of s)) did.looked.0 did.looked.0 ∷ did.middle.me.0.steps) above.2 in
      let armed : GoesOn old.me did.middle.me = one-longer _ old.me.0.steps did.middle.me.0.steps (ap steps_of did.armed.me_is) in (
        above.0,
        above.1,
        read-now board (OfSource y.block y.node) (λ word. says_requested (Node y) word ≡ true) old.me new.me
            (just-within board (OfSource y.block y.node) (λ word. says_requested (Node y) word ≡ true) old.me did.middle.me new.me armed
            (just-read board (OfSource y.block y.node) (λ word. says_requested (Node y) word ≡ true) did.middle.me new.me did.looked.0 did.looked.0 asked is_step)),
      )

  -- the block that was claimed
  pub claimed-free : (b : Block) (old new : Seat (Option Item) (View Item Entry)) → IsFound board b old new → (x : Name) → x ≡ root_name board b.index b.generation →
      (m : Seated Item Entry) → GoesOn new.me m → WasFree board old.me m x
  claimed-free b old new found x name m more =
      let claimed = found.claimed in
      let s : Seen = entry (word_index board b.index) claimed.word claimed.word in
      let l : List Seen = found.middle.me.0.steps in
      subst (λ (y : Name). WasFree board old.me m y) (sym name)
      (record {
        middle = new.me;
        read = record {
          word = claimed.word;
          left = claimed.left;
          said = claimed.free;
          earlier = s ∷ l;
          began = longer-on old.me.0.steps l (s ∷ l) (searched-on board b.index old found.middle found.missed) (one-longer s l (s ∷ l) refl);
          newest = ap steps_of claimed.me_is;
        };
        went_on = more;
      })

  -- a place that runs was read as armed, at the generation of the run
  pub run-armed : (source : SourceRef) (old new : Seat (Option Item) (View Item Entry)) (x : Name) → HasRun board source x.block x.node x old new →
      WasArmed board old.me new.me x
  run-armed source old new x told =
      let words : List ℕ = told.word ∷ told.tries in
      record {
        middle = new.me;
        read = record {
          word = last_of told.word told.tries;
          left = told.left;
          said = (sym (ap (λ (y : Name). y.generation) told.name_is), last-armed told.word told.tries told.armed told.later);
          earlier = listed (run_index board x.block x.node) words old.me.0.steps;
          began = listed-longer (run_index board x.block x.node) words old.me.0.steps;
          newest = ap steps_of told.me_is;
        };
        went_on = stays new.me;
      }

  -- the report of the leaf found that no other was pending
  pub order-cause : (root : Name) → IsRoot board root → (leaf : Name) → leaf ≡ beside root 0 → (m m1 : Seated Item Entry) →
      IsReportedAs ghosts board.frame leaf Last m m1 → AwaitsOne board m m1 (beside root 3)
  order-cause root is leaf name m m1 told =
      let above : above_it board.frame.tree leaf ≡ beside root 3 =
      ap (above_it board.frame.tree) name
      ∙ kid-above board root is.is_node 0 (kid-of board root is.is_node 3 0 is.three refl)
      ∙ ap (beside root) is.three in
      just-read board (OfControl root.block 3) (λ word. pending (control_read word) ≡ 1) m m1 told.0 told.1 told.3
      (ap steps_of told.4.me_is
      ∙ ap (λ (z : Name). entry (index board.frame.layout (OfControl z.block z.node)) told.0 told.1 ∷ m.0.steps) above)

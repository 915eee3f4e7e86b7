-- A root hears the scope's source: its callback is registered, the scope's source is scanned, and the callback is
-- removed.
use Rattle.std.proofs.Common.{◌≡◌, ℕ, zero, suc, ◌≤◌, true, not, List, ◌∷◌, refl, sym, ap, ◌∙◌, subst, arith}
use Rattle.std.specs.Prelude.{Option, Some, None}
use Rattle.std.proofs.lemmas.Bool.{cond-false}
use Rattle.life_rules.specs.declared.words.CallbackPhase.{CallbackPhase}
use Rattle.life_rules.specs.declared.words.CallbackPhase.TheVariants.{Armed, Running as Runs, Ran as HasRun, Removed}
use Rattle.life_rules.specs.declared.event.Name.{Name}
use Rattle.life_rules.specs.declared.event.SourceRef.TheVariants.{Scope, Node}
use Rattle.node_tree.specs.Tree.{nearest}
use Rattle.life_rules.specs.States.{source_for}
use Rattle.table_words.specs.Controls.{source_read}
use Rattle.table_words.specs.Layouts.{place_number}
use Rattle.atomic_table.specs.declared.shared.Seat.{Seat}
use Rattle.table_rules.specs.declared.view.View.{View}
use Rattle.table_rules.specs.declared.view.Held.{Held}
use Rattle.table_rules.specs.Named.{find_by, count_by}
use Rattle.table_rules.specs.ShownViews.{scan_in}
use Rattle.table_steps.specs.Views.{Board}
use Rattle.table_steps.specs.Seats.{Seated}
use Rattle.table_steps.specs.Callbacks.{is_registered}
use Rattle.table_steps.specs.Finishes.{is_settled, CanFinish}
use Rattle.table_steps.specs.Readings.{at_entry, IsPhaseAs}
use Rattle.table_steps.specs.Remembers.{running}
use Rattle.table_steps.specs.Slots.{slot_of, kept}
use Rattle.op_slot.specs.Puts.{IsTakenOut}
use Rattle.op_slot.specs.Tends.{IsCalm}
use Rattle.op_slot.proofs.Kept.{find-noted}
use Rattle.op_slot.proofs.Tending.{swapped-calm, swapped-own}
use Rattle.op_slot.proofs.Leaving.{root-finishes}
use Rattle.stop_calls.specs.declared.arming.Armed.{Armed as Answer}
use Rattle.stop_calls.specs.declared.requesting.Request.TheVariants.{Already}
use Rattle.stop_calls.specs.declared.removing.Settled.{Settled}
use Rattle.stop_calls.specs.declared.removing.Settled.TheVariants.{NeverRan as Unrun, Ran as Over, OwnHand as Inside}
use Rattle.stop_calls.specs.declared.removing.Withdrawn.{Withdrawn}
use Rattle.stop_calls.specs.declared.removing.Withdrawn.TheVariants.{NeverRan, Ran, OwnHand, Running}
use Rattle.stop_calls.specs.Armings.{IsArmedSo}
use Rattle.stop_calls.specs.Removals.{MayWithdraw, IsReadAs, IsLastTry, IsTried, Waits, IsSettled}
use Rattle.stop_calls.specs.Requests.{IsRequested}
use Rattle.table_use.specs.declared.cargo.Item.{Item}
use Rattle.table_use.specs.declared.cargo.Entry.{Entry}
use Rattle.table_use.specs.Uses.{use_tree, IsRoot, HoldsGoing, IsIdle, KeepsHoldings}
use Rattle.table_use.specs.Hearing.{HoldsRoot, tried_as, settled_as}
use Rattle.table_use.specs.contracts.cargo.ItemCargo.TheImpl.{ghosts}
use Rattle.table_use.proofs.Nodes.{use-scope, node-places, node-root}
use Rattle.table_use.proofs.Opening.{armed-holds}

module _ (board : Board ℕ) (x : Name) (is : IsRoot board x) where
  pub root-hears : source_for x (nearest board.frame.tree x.node) ≡ Some Scope
  root-hears =
      ap (λ t. source_for x (nearest t x.node)) is.is_node.tree ∙ ap (λ n. source_for x (nearest use_tree n)) is.three
      ∙ ap (source_for x) (use-scope 3 (omega arith))

  -- the root's callback is registered
  pub armed-root : (m : Seated Item Entry) (going : HoldsGoing board.frame x m) (phase : CallbackPhase) (old new : Seat (Option Item) (View Item Entry)) →
      IsPhaseAs board.frame x phase m old.me → (answer : Answer) → IsArmedSo board x answer old new → HoldsRoot board.frame x Armed new.me
  unfolding armed-holds
  armed-root m going phase old new read answer did =
      record {
        env = going.0;
        has = armed-holds board x is.is_node going.0 m phase old new read answer did going.1;
        phase_is = refl;
      }

module _ (board : Board ℕ) (x : Name) where
  -- another phase was read of the callback
  rephased : (old new : Seated Item Entry) (phase now : CallbackPhase) → HoldsRoot board.frame x phase old →
      find_by (λ (e : Held Entry). e.name) new.0.held x
      ≡ find_by (λ (e : Held Entry). e.name) (at_entry (λ (e : Held Entry). e.name) (λ (e : Held Entry). record e { phase = Some now }) x old.0.held) x →
      new.1 ≡ old.1 → HoldsRoot board.frame x now new
  rephased old new phase now root read slots =
      let was = root.has in
      record {
        env = root.env;
        has = record {
          is = was.is;
          held = record (was.held) { phase = Some now };
          start = was.start;
          tends = record {
            holds = read
                ∙ find-noted (λ (e : Held Entry). e.name) (λ (e : Held Entry). record e { phase = Some now }) (λ e. refl) x old.0.held was.held was.tends.holds;
            own = ap (kept (slot_of board.frame.layout x)) slots ∙ was.tends.own;
            kids = λ n child. ap (kept (place_number board.frame.layout x.block n)) slots ∙ was.tends.kids n child;
          };
        };
        phase_is = refl;
      }

  -- a call that keeps what the hand holds
  pub still-root : (old new : Seated Item Entry) (phase : CallbackPhase) → KeepsHoldings old new → HoldsRoot board.frame x phase old →
      HoldsRoot board.frame x phase new
  still-root old new phase keeps root =
      let was = root.has in
      record {
        env = root.env;
        has = record {
          is = was.is;
          held = was.held;
          start = was.start;
          tends = record {
            holds = ap (λ (l : List (Held Entry)). find_by (λ (e : Held Entry). e.name) l x) keeps.held ∙ was.tends.holds;
            own = ap (kept (slot_of board.frame.layout x)) keeps.slots ∙ was.tends.own;
            kids = λ n child. ap (kept (place_number board.frame.layout x.block n)) keeps.slots ∙ was.tends.kids n child;
          };
        };
        phase_is = root.phase_is;
      }

  pub can-withdraw : (phase : CallbackPhase) (m : Seated Item Entry) → HoldsRoot board.frame x phase m → is_registered phase ≡ true →
      scan_in m.0.scans (Node x) ≡ None → MayWithdraw m.0 x
  can-withdraw phase m root registered unscanned =
      record {
        held = root.has.held;
        holds = root.has.tends.holds;
        known = phase;
        known_is = root.phase_is;
        registered = registered;
        unscanned = λ runs. unscanned;
      }

  module _ (old new : Seat (Option Item) (View Item Entry)) where
    tried-idle : (v : View Item Entry) → new.me ≡ (v, old.me.1) → v.runs ≡ old.me.0.runs → v.scans ≡ old.me.0.scans → IsIdle old.me → IsIdle new.me
    tried-idle v is runs scans idle =
        record {
          runs = ap (λ (z : Seated Item Entry). z.0.runs) is ∙ runs ∙ idle.runs;
          scans = ap (λ (z : Seated Item Entry). z.0.scans) is ∙ scans ∙ idle.scans;
        }

    module _ (phase : CallbackPhase) (root : HoldsRoot board.frame x phase old.me) (idle : IsIdle old.me) where
      read-root : (now read : CallbackPhase) (r : IsReadAs board x old new read) →
          find_by (λ (e : Held Entry). e.name) new.me.0.held x
          ≡ find_by (λ (e : Held Entry). e.name) (at_entry (λ (e : Held Entry). e.name) (λ (e : Held Entry). record e { phase = Some now }) x old.me.0.held) x →
          HoldsRoot board.frame x now new.me
      read-root now read r held = rephased old.me new.me phase now root held (ap (λ (z : Seated Item Entry). z.1) r.told.me_is)

      no-run : 1 ≤ running old.me.0 x → ⊥
      no-run some =
          let none : running old.me.0 x ≡ 0 = ap (λ (l : List Name). count_by (λ (y : Name). y) l x) idle.runs in
          omega (arith, some, none)

      -- what a try leaves
      pub tried-root : (answer : Withdrawn) → IsTried board x old new answer → HoldsRoot board.frame x (tried_as answer) new.me × IsIdle new.me
      tried-root NeverRan r = (
        read-root Removed Armed r (ap (λ (z : Seated Item Entry). find_by (λ (e : Held Entry). e.name) z.0.held x) r.told.me_is),
        tried-idle _ r.told.me_is refl refl idle,
      )
      tried-root Ran r = (
        read-root HasRun HasRun r (ap (λ (z : Seated Item Entry). find_by (λ (e : Held Entry). e.name) z.0.held x) r.told.me_is),
        tried-idle _ r.told.me_is refl refl idle,
      )
      tried-root Running r = (
        read-root Runs Runs r (ap (λ (z : Seated Item Entry). find_by (λ (e : Held Entry). e.name) z.0.held x) r.told.me_is),
        tried-idle _ r.told.me_is refl refl idle,
      )
      tried-root OwnHand r = absurd (no-run r.runs)

      -- and the last try of a removal
      last-root : (answer : Settled) → IsLastTry board x old new answer → HoldsRoot board.frame x (settled_as answer) new.me × IsIdle new.me
      last-root Unrun r = tried-root NeverRan r
      last-root Over r = tried-root Ran r
      last-root Inside r = absurd (no-run r.runs)

  waited-root : (count : ℕ) (old new : Seat (Option Item) (View Item Entry)) (phase : CallbackPhase) → HoldsRoot board.frame x phase old.me → IsIdle old.me →
      Waits board x count old new → (now : CallbackPhase) × HoldsRoot board.frame x now new.me × IsIdle new.me
  waited-root zero old new phase root idle w = (
    phase,
    subst (HoldsRoot board.frame x phase) (sym w) root,
    subst IsIdle (sym w) idle,
  )
  waited-root (suc count) old new phase root idle w =
      let before = waited-root count old w.0 phase root idle w.1 in
      let after = tried-root w.0 new before.0 before.1 before.2 Running w.2 in (Runs, after.0, after.1)

  -- what a removal leaves
  pub settled-root : (answer : Settled) (old new : Seat (Option Item) (View Item Entry)) (phase : CallbackPhase) → HoldsRoot board.frame x phase old.me →
      IsIdle old.me → IsSettled board x old new answer → HoldsRoot board.frame x (settled_as answer) new.me × IsIdle new.me
  settled-root answer old new phase root idle s =
      let before = waited-root s.count old s.middle phase root idle s.waited in
      last-root s.middle new before.0 before.1 before.2 answer s.last

-- a root whose callback was removed can be finished, once its home is empty
pub root-ends : (board : Board ℕ) (x : Name) → IsRoot board x → (settled : Settled) (m m1 : Seated Item Entry) → HoldsRoot board.frame x (settled_as settled) m →
    IsCalm m → (out : Option Item) → IsTakenOut board.frame x out m m1 → CanFinish ghosts board.frame m1 x
root-ends board x is settled m m1 root calm out took =
    root-finishes ghosts board.frame x m1 root.has.held (λ _. None) (swapped-calm board.frame x None out m m1 took calm) (λ n child. refl)
    (settled_as settled)
    (swapped-own board.frame x None out m m1 took root.has.held (Some _) (λ _. None) (node-places board x is.is_node) root.has.tends)
    root.phase_is (is-settled settled) (node-root board x is.is_node is.three)
  where
    is-settled : (s : Settled) → is_settled (settled_as s) ≡ true
    is-settled Unrun = refl
    is-settled Over = refl
    is-settled Inside = refl

-- a request that was made before changes neither runs nor scans
pub asked-again : (board : Board ℕ) (old new : Seat (Option Item) (View Item Entry)) → IsIdle old.me → IsRequested board Scope Already old new → IsIdle new.me
asked-again board old new idle r =
    record {
      runs = ap (λ (z : Seated Item Entry). z.0.runs) r.me_is ∙ idle.runs;
      scans =
          ap (λ (z : Seated Item Entry). z.0.scans) r.me_is
          ∙ cond-false (not (source_read r.word).requested) (record { source = Scope; next = 0 } ∷ old.me.0.scans) old.me.0.scans (ap not r.answer_is)
          ∙ idle.scans;
    }

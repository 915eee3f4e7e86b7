-- How a step begins one child of its node, which the hand goes on with.
use Rattle.std.proofs.Common.{◌≡◌, ℕ, zero, suc, ◌<◌, Bool, true, false, List, [], ◌∷◌, arith, refl, sym, ap, ◌∙◌, subst}
use Rattle.std.specs.Prelude.{Some, None, slice_index}
use Rattle.std.proofs.lemmas.Option.{same_Some}
use Rattle.exec_value.specs.declared.data.Datum.{Datum}
use Rattle.exec_value.specs.declared.outcome.Completion.TheVariants.{NoMemory}
use Rattle.life_rules.specs.declared.event.Name.{Name}
use Rattle.life_rules.specs.Views.{beside}
use Rattle.node_tree.specs.Tree.{is_child, is_root}
use Rattle.op_table.specs.OnlyChild.{CanBeginChild, BeginsChild}
use Rattle.plan_shape.specs.Blueprint.{Blueprint}
use Rattle.table_rules.specs.declared.view.Held.{Held}
use Rattle.table_steps.specs.Awaits.{CanAwait}
use Rattle.table_steps.specs.Begins.{begun_as}
use Rattle.table_steps.specs.Seats.{Seated}
use Rattle.table_steps.specs.Slots.{has_seen, knows_idle}
use Rattle.table_steps.specs.Steps.{control_index}
use Rattle.table_steps.specs.Views.{Board, IsPlaceIn, Stays}
use Rattle.op_slot.specs.Tends.{HasPlaces}
use Rattle.op_slot.proofs.Leaving.{GoesOn as GoesOnHeld}
use Rattle.op_slot.proofs.Tending.{swapped-home}
use Rattle.home_items.specs.contracts.item.ItemCargo.TheImpl.{ghosts}
use Rattle.home_items.specs.declared.entry.Entry.{Entry}
use Rattle.home_items.specs.declared.item.Item.{Item}
use Rattle.home_items.specs.Contents.{Start, Rest}
use Rattle.home_items.specs.Entries.{drawn_of, start_with, plan_of}
use Rattle.home_items.specs.Items.{start_in, lot_of}
use Rattle.exec_recv.specs.declared.next.Next.{Next}
use Rattle.exec_recv.specs.declared.next.Next.TheVariants.{Go}
use Rattle.exec_recv.specs.Asides.{Aside}
use Rattle.exec_recv.specs.Beginnings.{AllCanStart}
use Rattle.exec_recv.specs.Nexts.{IsStepped}
use Rattle.exec_recv.specs.Seats.{HandSeat}
use Rattle.exec_recv.proofs.Asiding.{aside-on}
use Rattle.exec_recv.proofs.Begun.{begun-held, begun-starts, begun-steps, owed-still}
use Rattle.exec_recv.proofs.BegunAside.{begun-aside, begun-moves}
use Rattle.exec_recv.proofs.Moves.{moves-beside, moves-look, moves-on}
use Rattle.exec_recv.proofs.Places.{over-places}
use Rattle.exec_recv.proofs.Starts.{child-inner, owes-as}
use Rattle.step_parts.specs.Changes.{LiesAt, ChangesTo}
use Rattle.step_parts.specs.Kids.{AreKids, KnowsAllIdle}
use Rattle.step_parts.specs.Midway.{IsMidway}
use Rattle.step_parts.specs.Puts.{MayPutStart, PutsStart}
use Rattle.step_parts.specs.Starting.{IsStarting, owed_below}
use Rattle.step_parts.specs.Starts.{MayBegin, AwaitsChild, Begins}
use Rattle.step_parts.specs.Stepping.{Stepping}
use Rattle.step_parts.proofs.Awaited.{can-await, await-aside, await-moves, await-lets, await-starting, await-owes}
use Rattle.step_parts.proofs.Below.{IsBelow, with-below, with-draws}
use Rattle.step_parts.proofs.Changing.{changes-taken}
use Rattle.step_parts.proofs.Ended.{steps-on}
use Rattle.step_parts.proofs.Left.{rest-on}
use Rattle.step_parts.proofs.Puts.{puts-start, none-left}
use Rattle.step_parts.proofs.Swapping.{swap-held}

none-known : None ≡ Some NoMemory → ⊥
none-known e = cc

inside-same : (a b : Item) → Some (Some a) ≡ Some (Some b) → a ≡ b
inside-same a b e = cc

-- The node's start lies in its home alone, and the node can await this child.
module _ (board : Board Blueprint) (t : Stepping) (n : ℕ) (args : List Datum) (asked : Bool) (full : HandSeat)
    (may : MayBegin board t n args asked full) (lies : LiesAt board t (Rest t.start None) full.me) where
  abbrev x : Name
  x = t.name

  abbrev y : Name
  y = beside t.name n

  abbrev item : Item
  item = Rest t.start None

  abbrev below : List Entry
  below = start_with n args asked t.start

  goes-below : IsBelow n args asked t.start below
  goes-below = with-below n args asked t.start

  here : IsMidway board x t.start item 0 (λ _. None) full.me
  here =
      let is = may.taken.ready.is in
      subst (λ i. IsMidway board x t.start i 0 (λ _. None) full.me) (inside-same may.taken.ready.inside item (sym is.tends.own ∙ lies)) is

  pub begin-place : IsPlaceIn board x
  begin-place = here.place

  goes-on : GoesOnHeld ghosts board.frame x full.me here.held item
  goes-on = rest-on board x t.start None 0 full.me here tt (λ e. refl) (λ s. none-known)

  kids : AreKids board x (n ∷ [])
  kids = record { each = each; different = refl }
    where
      each : (i : ℕ) → i < 1 → is_child board.frame.tree x.node (slice_index (n ∷ []) i) ≡ true
      each zero within = may.child
      each (suc i) within = absurd (omega (arith, within))

  idle : KnowsAllIdle x (n ∷ []) 1 full.me
  idle = record { held = may.idle.held; holds = may.idle.holds; idle = each }
    where
      each : (i : ℕ) → i < 1 → knows_idle may.idle.held (slice_index (n ∷ []) i) ≡ true
      each zero within = may.idle.idle
      each (suc i) within = absurd (omega (arith, within))

  await : CanAwait ghosts board.frame full.me x (n ∷ [])
  await = can-await board x t.start None (n ∷ []) full.me here goes-on kids may.few (omega arith) idle

  key : plan_of below ≡ board.frame.over.value
  key = goes-below.plan ∙ here.key

  draws : drawn_of below ≡ lot_of item
  draws = with-draws n args asked t.start may.taken.start_is may.plain

  -- so it can begin it
  pub can-begin : CanBeginChild ghosts board.frame x n (Start below) full.me
  can-begin =
      let leave = await.leave in
      let held : leave.held ≡ here.held = same_Some leave.held here.held (sym leave.holds ∙ here.tends.holds) in
      record {
        await = await;
        entry = goes-below.entry;
        start = goes-below.is ∙ ap (λ (s : List Entry). goes-below.entry ∷ s) (here.shows ∙ ap (λ (h : Held Entry). h.start) (sym held));
        key = key;
        drawn = draws ∙ ap (λ (i : Item). lot_of i) (sym (inside-same await.item item (sym await.home ∙ here.tends.own)));
        goes_on = λ e. e;
      }

  -- It was awaited, its start was put into its home, and it began.
  module _ (new : HandSeat) (stays : Stays board full new) (begins : BeginsChild ghosts board.frame x n (Start below) full.me new.me) where
    abbrev m2 : Seated Item Entry
    m2 = begins.waiting

    abbrev m3 : Seated Item Entry
    m3 = begins.full

    starting : IsStarting board x t.start (lot_of item) (n ∷ []) 1 m2
    starting = await-starting board x t.start None (n ∷ []) full.me here goes-on kids m2 begins.awaits

    -- what the hand has seen of requests is as before
    seen-so : has_seen board.frame.tree m2.0 y ≡ has_seen board.frame.tree full.me.0 y
    seen-so = ap (λ (z : Seated Item Entry). has_seen board.frame.tree z.0 y) begins.awaits.did.me_is

    may-put : MayPutStart board y below m2
    may-put = record {
      owed = owed_below x t.start (lot_of item) n;
      bare = starting.bare 0 (omega arith);
      entry = goes-below.entry;
      below_is = goes-below.is;
      key = key;
      node = goes-below.node;
      draws = draws;
      begins = may.begins;
      calmly = λ none. may.calmly (sym seen-so ∙ none);
    }

    puts : PutsStart board y below m2 m3
    puts = puts-start board y below m2 may-put m3 begins.put

    starts : AllCanStart board m3
    starts =
        none-left board x t.start (lot_of item) (n ∷ []) m3
        (puts.less x t.start (lot_of item) (n ∷ []) 0 here.places kids (omega arith) refl starting)

    places : HasPlaces board.frame y
    places = over-places board board.frame.over.value y may.taken.site.over puts.starts.place

    inner : is_root board.frame.tree n ≡ false
    inner = child-inner board.frame.tree x.node n may.taken.site.over.is_tree may.child

    abbrev begun : Held Entry
    begun =
        let did = begins.begins.began.did in
        begun_as board.frame.tree y (start_in puts.starts.begin.item) did.told did.told_children

    stepped : IsStepped board x full.me new.me (Go n)
    stepped =
        let apart = stays.hand.seated.apart in
        record {
          aside = aside-on full.me m2 new.me (await-aside board x t.start None (n ∷ []) full.me here goes-on kids m2 begins.awaits)
              (aside-on m2 m3 new.me puts.aside (begun-aside board y m3 new.me begins.begins inner));
          moves = moves-on board x full.me m2 new.me (await-moves board x t.start None (n ∷ []) full.me here goes-on kids m2 begins.awaits)
              (moves-on board x m2 m3 new.me
              (moves-look board x (control_index board y) begins.put.word m2 m3 (ap (λ (z : Seated Item Entry). z.0.steps) begins.put.me_is))
              (moves-beside board x y puts.starts.place refl m3 new.me (begun-moves board y m3 new.me begins.begins)));
          starts = begun-starts board y places m3 new.me puts.starts starts begins.begins apart;
          owes = λ z owes.
              await-owes board x t.start None (n ∷ []) full.me here goes-on kids m2 begins.awaits z
              (owes-as m2 m3 z puts.owed (owed-still board y places m3 new.me puts.starts starts begins.begins apart z owes));
          goes = record {
            held = begun;
            holds = begun-held board y places m3 new.me puts.starts starts begins.begins apart
                ∙ ap (λ (l : List (Held Entry)). begun ∷ l)
                (puts.held ∙ await-lets board x t.start None (n ∷ []) full.me here goes-on kids m2 begins.awaits);
            can = begun-steps board y places m3 new.me puts.starts starts begins.begins apart
                (ap (λ (a : Aside). a.scans) puts.aside.same
                ∙ ap (λ (z : Seated Item Entry). z.0.scans) begins.awaits.did.me_is ∙ here.calm)
                (ap (λ (a : Aside). a.runs) puts.aside.same
                ∙ ap (λ (z : Seated Item Entry). z.0.runs) begins.awaits.did.me_is ∙ here.unrun);
          };
        }

    pub awaits-child : (next : Next) → next ≡ Go n → AwaitsChild board t n args asked next full new
    awaits-child next is =
        record {
          steps = steps-on board t full new stays may.taken next (subst (λ o. IsStepped board x full.me new.me o) (sym is) stepped);
          next_is = is;
          begins = begins;
        }

-- The node's start was left in its home.
module _ (board : Board Blueprint) (t : Stepping) (n : ℕ) (args : List Datum) (asked : Bool) (old full : HandSeat)
    (puts : ChangesTo board t (Rest t.start None) old full) where
  pub rest-lies : LiesAt board t (Rest t.start None) full.me
  rest-lies = swapped-home board.frame t.name (Some (Rest t.start None)) (Some puts.was) old.me full.me puts.put

  pub begin-still : MayBegin board t n args asked old → MayBegin board t n args asked full
  begin-still may =
      record {
        taken = changes-taken board t (Rest t.start None) old full may.taken puts (λ e. e) refl;
        few = may.few;
        child = may.child;
        plain = may.plain;
        begins = may.begins;
        calmly = λ none.
            may.calmly (sym (ap (λ (z : Seated Item Entry). has_seen board.frame.tree z.0 (beside t.name n)) puts.put.me_is) ∙ none);
        idle = record {
          held = may.idle.held;
          holds = swap-held board t.name t.name _ _ old.me full.me puts.put ∙ may.idle.holds;
          idle = may.idle.idle;
        };
      }

  -- and then it awaits the child, which began
  pub begins-on : (next : Next) (new : HandSeat) → AwaitsChild board t n args asked next full new → Begins board t n args asked next old new
  begins-on next new awaits =
      record {
        steps = awaits.steps;
        next_is = awaits.next_is;
        full = full.me;
        was = puts.was;
        put = puts.put;
        begins = awaits.begins;
      }

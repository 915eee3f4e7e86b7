-- Delays that are due are taken out of the list; and a whole turn.
use Rattle.std.proofs.Common.{◌≡◌, ◌≢◌, ◌⊎◌, inl, inr, ℕ, ◌<◌, ◌≤◌, ◌/◌, ◌%◌, List, length, refl, sym, ap, ◌∙◌, subst, arith}
use Rattle.std.specs.Prelude.{Some, None, slice_get}
use Rattle.std.proofs.lemmas.Bool.{cases_eq}
use Rattle.std.proofs.lemmas.List.{length-set}
use Rattle.std.proofs.lemmas.Option.{none-some, same_Some, slice_get_within}
use Rattle.life_rules.specs.declared.event.Name.{Name}
use Rattle.life_rules.specs.declared.event.Resting.{Resting}
use Rattle.timer_wheel.specs.declared.waiting.Waiting.{Waiting}
use Rattle.timer_wheel.specs.Delays.{DelayList, delay_at, forgotten, at_next_turn, IsDue}
use Rattle.plan_rules.specs.declared.node.Node.TheVariants.{Delay}
use Rattle.plan_shape.specs.Blueprint.{Blueprint}
use Rattle.table_steps.specs.Views.{Board}
use Rattle.table_steps.specs.Seats.{Seated}
use Rattle.home_items.specs.declared.entry.Entry.{Entry}
use Rattle.home_items.specs.declared.item.Item.{Item}
use Rattle.exec_recv.specs.Asides.{KeepsAside}
use Rattle.exec_recv.specs.Over.{IsOver}
use Rattle.run_loop.specs.declared.delay_node.DelayNode.{DelayNode}
use Rattle.run_loop.specs.DelayNodes.{AreDelaysOf, nodes_of, place_of, name_at}
use Rattle.run_loop.specs.Delayed.{Becomes, IsLookedAt, IsSeenNow, MayTakeDelay, MayTakeDue, MayTakeOf, WasDueNow, WasTried, WasTriedAt, WasTakenOut, LooksBelow, TakesOut, TakesDue, PassesTurn}
use Rattle.run_loop.proofs.Becoming.{becomes-on, becomes-after, seen-before, seen-after, looked-before, looked-after, looked-out, tried-before, tried-after}
use Rattle.run_loop.proofs.DelayLists.{forgotten-here, forgotten-other}
use Rattle.run_loop.proofs.Looking.{delay-within}

-- a name by another number of nodes is the same
pub tried-as : (board : Board Blueprint) (m m' : Seated Item Entry) (count place generation n : ℕ) → n ≡ board.frame.layout.nodes →
    WasTried board m m' count (record { block = place / n; generation = generation; node = place % n }) →
    WasTried board m m' count (name_at board place generation)
tried-as board m m' count place generation n is tried =
    subst (λ k. WasTried board m m' count (record { block = place / k; generation = generation; node = place % k })) is tried

pub name-as : (board : Board Blueprint) (place generation n : ℕ) → n ≡ board.frame.layout.nodes →
    record { block = place / n; generation = generation; node = place % n } ≡ name_at board place generation
name-as board place generation n is = ap (λ k. let x : Name = record { block = place / k; generation = generation; node = place % k } in x) is

-- a delay that is due in what is left of a list waited in the whole list
pub delay-of : (board : Board Blueprint) (count : ℕ) (m m' : Seated Item Entry) (before middle : DelayList) (place generation : ℕ) →
    TakesOut board count m m' before middle → IsDue middle place generation → (from : Resting) (name : Name) →
    MayTakeDelay board place generation from name → MayTakeOf board before from name
delay-of board count m m' before middle place generation takes due from name may = (
  may.0,
  record {
    place = place;
    waiting = due.waiting;
    there = there (takes.each place);
    due = let come = due.come in let turn = takes.turn in omega (arith, come, turn);
    name_is = may.1 ∙ ap (name_at board place) (sym due.generation_is);
  },
)
  where
    there : (delay_at middle place ≡ delay_at before place) ⊎ ((delay_at middle place ≡ None)
        × WasTakenOut board middle.turn count place m m' (delay_at before place)) → delay_at before place ≡ Some due.waiting
    there (inl same) = sym same ∙ due.there
    there (inr out) = absurd (none-some due.waiting (sym out.0 ∙ due.there))

-- a delay that is due after the looks of a turn waited before, or was seen in the turn
pub due-now : (board : Board Blueprint) (delays : List DelayNode) (m between m' : Seated Item Entry) (before middle : DelayList) (turn : ℕ) →
    LooksBelow board delays board.frame.layout.blocks m between (at_next_turn before) middle → turn ≡ middle.turn → KeepsAside between m' →
    (from : Resting) (name : Name) → MayTakeOf board middle from name → MayTakeDue board m m' turn before from name
due-now board delays m between m' before middle turn looks is next from name may = (
  may.0,
  record {
    place = may.1.place;
    waiting = may.1.waiting;
    came = came (looks.each may.1.place);
    due = let due = may.1.due in omega (arith, due, is);
    name_is = may.1.name_is;
  },
)
  where
    came : Becomes board m between middle.turn 0 may.1.place (delay_at before may.1.place) (delay_at middle may.1.place) →
        (delay_at before may.1.place ≡ Some may.1.waiting) ⊎ IsSeenNow board m m' turn may.1.place may.1.waiting
    came (inl same) = inl (sym same ∙ may.1.there)
    came (inr (inl new)) =
        inr
        (subst (λ (w : Waiting). IsSeenNow board m m' turn may.1.place w) (same_Some new.0 may.1.waiting (sym new.1 ∙ may.1.there))
        (subst (λ t. IsSeenNow board m m' t may.1.place new.0) (sym is)
        (seen-after board m between m' middle.turn may.1.place new.0 new.2 next)))
    came (inr (inr out)) = absurd (none-some may.1.waiting (sym out.0 ∙ may.1.there))

-- what was due is so, seen from earlier and later
pub due-before : (board : Board Blueprint) (m between m' : Seated Item Entry) (turn : ℕ) (before : DelayList) (name : Name) →
    KeepsAside m between → WasDueNow board between m' turn before name → WasDueNow board m m' turn before name
due-before board m between m' turn before name aside was =
    record {
      place = was.place;
      waiting = was.waiting;
      came = elim was.came [
        | inl there ↦ inl there
        | inr seen ↦ inr (seen-before board m between m' turn was.place was.waiting aside seen)
      ];
      due = was.due;
      name_is = was.name_is;
    }

pub due-after : (board : Board Blueprint) (m between m' : Seated Item Entry) (turn : ℕ) (before : DelayList) (name : Name) →
    WasDueNow board m between turn before name → KeepsAside between m' → WasDueNow board m m' turn before name
due-after board m between m' turn before name was aside =
    record {
      place = was.place;
      waiting = was.waiting;
      came = elim was.came [
        | inl there ↦ inl there
        | inr seen ↦ inr (seen-after board m between m' turn was.place was.waiting seen aside)
      ];
      due = was.due;
      name_is = was.name_is;
    }

-- none is taken out
pub takes-none : (board : Board Blueprint) (count : ℕ) (m : Seated Item Entry) (list : DelayList) → TakesOut board count m m list list
takes-none board count m list = record { turn = refl; places_are = refl; each = λ place. inl refl }

-- one more is
module _ (board : Board Blueprint) (count more : ℕ) (m between m' : Seated Item Entry) (before middle after : DelayList) (place generation : ℕ)
    (le : count ≤ more) (first : TakesOut board count m between before middle) (due : IsDue middle place generation)
    (is : after ≡ forgotten middle place) (tried : WasTriedAt board between m' more place generation) (aside : KeepsAside m between)
    (next : KeepsAside between m') where
  turn-is : after.turn ≡ middle.turn
  turn-is = ap (λ (d : DelayList). d.turn) is

  -- it waited there before
  there : (delay_at middle place ≡ delay_at before place) ⊎ ((delay_at middle place ≡ None)
      × WasTakenOut board middle.turn count place m between (delay_at before place)) → delay_at before place ≡ Some due.waiting
  there (inl same) = sym same ∙ due.there
  there (inr out) = absurd (none-some due.waiting (sym out.0 ∙ due.there))

  here : WasTakenOut board after.turn more place m m' (delay_at before place)
  here =
      record {
        waiting = due.waiting;
        there = there (first.each place);
        due = let come = due.come in let turn = turn-is in omega (arith, come, turn);
        tried = λ within.
            tried-before board m between m' more _ aside
            (subst (λ g. WasTriedAt board between m' more place g) (sym due.generation_is) tried within);
      }

  other : (p : ℕ) → p ≢ place → delay_at after p ≡ delay_at middle p
  other p apart = ap (λ (d : DelayList). delay_at d p) is ∙ forgotten-other middle place p apart

  out-after : (p : ℕ) → WasTakenOut board middle.turn count p m between (delay_at before p) →
      WasTakenOut board after.turn more p m m' (delay_at before p)
  out-after p out =
      record {
        waiting = out.waiting;
        there = out.there;
        due = let come = out.due in let turn = turn-is in omega (arith, come, turn);
        tried = λ within. tried-after board m between m' count more _ le (out.tried within) next;
      }

  each : (p : ℕ) → (delay_at after p ≡ delay_at before p)
      ⊎ ((delay_at after p ≡ None) × WasTakenOut board after.turn more p m m' (delay_at before p))
  each p = elim (cases_eq p place) [
    | inl same ↦
        subst
        (λ k. (delay_at after k ≡ delay_at before k)
        ⊎ ((delay_at after k ≡ None) × WasTakenOut board after.turn more k m m' (delay_at before k)))
        (sym same)
        (inr (ap (λ (d : DelayList). delay_at d place) is ∙ forgotten-here middle place due.waiting due.there, here))
    | inr apart ↦ elim (first.each p) [
      | inl kept ↦ inl (other p apart ∙ kept)
      | inr out ↦ inr (other p apart ∙ out.0, out-after p out.1)
    ]
  ]

  pub takes-more : TakesOut board more m m' before after
  takes-more =
      record {
        turn = turn-is ∙ first.turn;
        places_are = ap (λ (d : DelayList). length d.waiting) is ∙ length-set middle.waiting place None ∙ first.places_are;
        each = each;
      }

-- a turn: all delays are looked at, and those that are due are taken out
module _ (board : Board Blueprint) (over : IsOver board board.frame.over.value) (delays : List DelayNode) (are : AreDelaysOf (nodes_of board) delays)
    (count : ℕ) (m between m' : Seated Item Entry) (before middle after : DelayList)
    (looks : LooksBelow board delays board.frame.layout.blocks m between (at_next_turn before) middle)
    (takes : TakesDue board count between m' middle after) (aside : KeepsAside m between) (next : KeepsAside between m') where
  out-becomes : (place : ℕ) → (delay_at after place ≡ delay_at middle place)
      ⊎ ((delay_at after place ≡ None) × WasTakenOut board after.turn count place between m' (delay_at middle place)) →
      Becomes board between m' after.turn count place (delay_at middle place) (delay_at after place)
  out-becomes place (inl same) = inl same
  out-becomes place (inr out) =
      inr
      (inr (
        out.0,
        record { waiting = out.1.waiting; came = inl out.1.there; due = out.1.due; tried = out.1.tried },
      ))

  look : (block node : ℕ) → block < board.frame.layout.blocks → node < board.frame.layout.nodes →
      IsLookedAt board m between middle 0 block node →
      (delay_at after (place_of board block node) ≡ delay_at middle (place_of board block node))
      ⊎ ((delay_at after (place_of board block node) ≡ None)
      × WasTakenOut board after.turn count (place_of board block node) between m' (delay_at middle (place_of board block node))) →
      IsLookedAt board m m' after count block node
  look block node in_blocks in_nodes looked (inl same) =
      looked-after board m between m' middle after 0 count block node (omega arith) looked next same
  look block node in_blocks in_nodes looked (inr out) =
      looked-out board m between m' middle after after.turn 0 count block node in_blocks in_nodes (omega arith) looked aside next out.1

  pub passes : PassesTurn board m m' count before after
  passes =
      record {
        turn = takes.takes.turn ∙ looks.turn;
        each = λ place.
            becomes-on board m between m' after.turn 0 count place (delay_at before place) (delay_at middle place) (delay_at after place)
            (omega arith)
            (subst (λ t. Becomes board m between t 0 place (delay_at before place) (delay_at middle place)) (sym takes.takes.turn)
            (looks.each place))
            (out-becomes place (takes.takes.each place)) aside next;
        looked = λ block node turns in_blocks at.
            let found = are.named node turns (slice-within node turns at) at in
            look block node in_blocks (delay-within board over (record { node = node; turns = turns }) at)
            (looks.looked block found.0 (record { node = node; turns = turns }) in_blocks found.1)
            (takes.takes.each (place_of board block node));
        none = takes.none;
      }
    where
      slice-within : (node turns : ℕ) → slice_get (nodes_of board) node ≡ Some (Delay turns) → node < length (nodes_of board)
      slice-within node turns at = slice_get_within (nodes_of board) node (Delay turns) at

-- and something else after it
pub passes-after : (board : Board Blueprint) (count more : ℕ) (m between m' : Seated Item Entry) (before after : DelayList) → count ≤ more →
    PassesTurn board m between count before after → KeepsAside between m' → PassesTurn board m m' more before after
passes-after board count more m between m' before after le passes next =
    record {
      turn = passes.turn;
      each = λ place. becomes-after board m between m' after.turn count more place (delay_at before place) (delay_at after place) le
          (passes.each place) next;
      looked = λ block node turns within at.
          looked-after board m between m' after after count more block node le (passes.looked block node turns within at) next refl;
      none = passes.none;
    }

-- and something else before it
pub passes-before : (board : Board Blueprint) (count : ℕ) (m between m' : Seated Item Entry) (before after : DelayList) → KeepsAside m between →
    PassesTurn board between m' count before after → KeepsAside between m' → PassesTurn board m m' count before after
passes-before board count m between m' before after aside passes next =
    record {
      turn = passes.turn;
      each = λ place.
          becomes-on board m between m' after.turn count count place (delay_at before place) (delay_at before place) (delay_at after place)
          (omega arith) (inl refl) (passes.each place) aside next;
      looked = λ block node turns within at.
          looked-before board m between m' after count block node aside (passes.looked block node turns within at);
      none = passes.none;
    }

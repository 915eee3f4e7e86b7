-- How a step takes up its node, in whose home it only looks.
use Rattle.std.proofs.Common.{◌≡◌, inl, inr, ℕ, ◌*◌, ◌≤◌, true, List, length, arith, refl, sym, ap, ◌∙◌, subst}
use Rattle.std.specs.Prelude.{Option, Some, None, is_some}
use Rattle.std.proofs.lemmas.Option.{same_Some}
use Rattle.common_lemmas.specs.Sums.{one, total}
use Rattle.common_lemmas.proofs.Totals.{total-at}
use Rattle.life_rules.specs.declared.event.Name.{Name}
use Rattle.life_kept.proofs.Trees.{child-within}
use Rattle.node_tree.specs.Tree.{is_child}
use Rattle.plan_shape.specs.Blueprint.{Blueprint}
use Rattle.table_steps.specs.Views.{Board, Stays}
use Rattle.table_steps.specs.Seats.{Seated}
use Rattle.table_steps.specs.Swaps.{HasHome, IsSwapped}
use Rattle.op_slot.specs.Tends.{Tends}
use Rattle.op_slot.proofs.Leaving.{tends-home}
use Rattle.op_slot.proofs.Tending.{swapped-old, swapped-calm, swapped-own}
use Rattle.home_items.specs.declared.entry.Entry.{Entry}
use Rattle.home_items.specs.declared.item.Item.{Item}
use Rattle.home_items.specs.declared.item.State.{State}
use Rattle.home_items.specs.Bounds.{least_of}
use Rattle.home_items.specs.Entries.{plan_of}
use Rattle.home_items.specs.Fits.{IsItemOf}
use Rattle.home_items.specs.Items.{start_in, saw_in, state_of, is_start}
use Rattle.home_items.specs.Starts.{IsStart}
use Rattle.home_items.proofs.Reading.{held-fits}
use Rattle.exec_recv.specs.Seats.{HandSeat}
use Rattle.exec_recv.specs.Sites.{plan_at, MayStep}
use Rattle.exec_recv.specs.Steppable.{CanStep, HasBegun}
use Rattle.exec_recv.proofs.Fitting.{hears-still}
use Rattle.exec_recv.proofs.Places.{over-places}
use Rattle.exec_recv.proofs.Starts.{all-still}
use Rattle.exec_recv.proofs.Unbegun.{start-begun}
use Rattle.step_parts.specs.Heard.{MaySee}
use Rattle.step_parts.specs.Midway.{IsMidway, ChangesHomes}
use Rattle.step_parts.specs.Stepping.{Stepping}
use Rattle.step_parts.specs.Takes.{IsOpenWith, HasJustBegun, TakesState}
use Rattle.step_parts.proofs.Ended.{open-none, open-taken}
use Rattle.step_parts.proofs.Frames.{elsewhere-still}
use Rattle.step_parts.proofs.Swapping.{own-family, swap-changes, swap-homes}
use Rattle.step_parts.proofs.Telling.{told-none}

none-full : (i : Item) → None ≡ Some i → ⊥
none-full i e = cc

-- Where a completion lies in the home of a child, the node's last await named one.
pub full-named : (board : Board Blueprint) (x : Name) (m : Seated Item Entry) (can : CanStep board x m) (n : ℕ) (done : Item) →
    is_child board.frame.tree x.node n ≡ true → can.kid n ≡ Some done → 1 ≤ can.held.named
full-named board x m can n done child full =
    elim can.came [
      | inl begun ↦ absurd (none-full done (sym (begun.empty n child) ∙ full))
      | inr later ↦ elim later [
        | inl was ↦ absurd (none-full done (sym (was.empty n child) ∙ full))
        | inr back ↦
            let f : ℕ → ℕ = λ k. one (is_child board.frame.tree x.node k) * one (is_some (can.kid k)) in
            let here : f n ≡ 1 = ap (λ b. one b * one (is_some (can.kid n))) child ∙ ap (λ (o : Option Item). 1 * one (is_some o)) full in
            let most : f n ≤ total f (length board.frame.tree) =
            total-at f (length board.frame.tree) n (child-within board.frame.tree x.node n child) in
            let count : total f (length board.frame.tree) ≡ can.held.named = back.count in
            omega (arith, here, most, count)
      ]
    ]

-- the own home can be turned to
pub own-home : (board : Board Blueprint) (x : Name) (hand : HandSeat) → MayStep board x hand → HasHome board.frame.layout hand.me x
own-home board x hand may =
    tends-home board.frame x hand.me may.can.held (Some may.can.item) may.can.kid may.can.tends

module _ (board : Board Blueprint) (x : Name) (old new : HandSeat) (item : Item) (may : MayStep board x old) (stays : Stays board old new)
    (put : IsSwapped board.frame x (Some item) (Some item) old.me new.me) where
  up-changes : ChangesHomes board x old new
  up-changes = swap-changes board x x (Some item) (Some item) old new stays put

  module _ (can : CanStep board x old.me) where
    up-item : item ≡ can.item
    up-item = same_Some item can.item (swapped-old board.frame x (Some item) (Some item) old.me new.me put (Some can.item) can.tends.own)

    up-tends : Tends board.frame x can.held (Some can.item) can.kid new.me
    up-tends =
        subst (λ (i : Item). Tends board.frame x can.held (Some i) can.kid new.me) up-item
        (swapped-own board.frame x (Some item) (Some item) old.me new.me put can.held (Some can.item) can.kid
        (over-places board (plan_at board) x may.site.over can.place) can.tends)

    up-of : IsItemOf can.item x.node
    up-of = held-fits can.item x.node can.held.told can.fit can.goes_on

    up-midway : IsMidway board x (start_in can.item) can.item (least_of can.item) can.kid new.me
    up-midway =
        let aside = up-changes.beside.aside in
        record {
          place = can.place;
          places = over-places board (plan_at board) x may.site.over can.place;
          calm = swapped-calm board.frame x (Some item) (Some item) old.me new.me put can.calm;
          unrun = ap (λ a. a.runs) aside.same ∙ can.unrun;
          held = can.held;
          tends = up-tends;
          goes_on = can.goes_on;
          inside_is = refl;
          shows = can.shows;
          node = up-of.node;
          kinds = up-of.kinds;
          calmly = λ told. (can.fit.1 told).start;
          key = ap plan_of can.shows ∙ can.key;
          hears = hears-still board.frame.tree old.me.0 new.me.0 x can.held.told can.held.told_children
              (ap (λ a. a.number) aside.same) (ap (λ a. a.requested) aside.same) can.hears;
          named = can.bound;
          kids = can.kids;
          awaited = λ n done child full. full-named board x old.me can n done child full;
          starts = all-still board old.me new.me up-changes.beside.owed
              (swap-homes board x x (Some item) (Some item) old.me new.me put (own-family board x) can.elsewhere) aside.sees may.starts;
          elsewhere = elsewhere-still board x old.me new.me up-changes.beside.owed can.elsewhere;
        }

    up-begun : is_start can.item ≡ true → HasBegun board x can.held can.item can.kid
    up-begun is = start-begun board (plan_at board) x old.me may.site.over can is

    up-just : is_start can.item ≡ true → HasJustBegun board x new.me
    up-just is =
        let begun = up-begun is in
        record { held = can.held; holds = up-tends.holds; named = begun.named; phase = begun.phase; idle = begun.idle }

    up-saw : MaySee board x (saw_in can.item) new.me
    up-saw none = (can.fit.1 (told-none board x new.me can.held up-tends.holds none)).saw

  -- its start is that of the item
  abbrev taken : Stepping
  taken = record { name = x; start = start_in item; from = old }

  module _ (known : IsStart (start_in item)) where
    up-open : (can : CanStep board x old.me) → IsOpenWith board taken can.item can.kid new
    up-open can =
        record {
          site = may.site;
          stays = stays;
          start_is = known;
          beside = up-changes.beside;
          midway = subst (λ (i : Item). IsMidway board x (start_in i) can.item (least_of can.item) can.kid new.me) (sym (up-item can))
              (up-midway can);
        }

    at_item : (state : State) → state ≡ state_of item → TakesState board x taken state old new
    at_item state state_is =
        record {
          name_is = refl;
          from_is = refl;
          keeps = up-changes;
          opened = up-open;
          state_is = λ can. state_is ∙ ap state_of (up-item can);
          of = up-of;
          saw = up-saw;
          fresh = λ can is.
              open-taken board taken can.item new
              (open-none board taken can.item can.kid new (up-open can) (up-begun can is).empty);
          begun = up-just;
        }

    pub takes-up : (state : State) → state ≡ state_of item → (start : List Entry) → start ≡ start_in item → (from : HandSeat) → from ≡ old →
        TakesState board x (record { name = x; start = start; from = from }) state old new
    takes-up state state_is start start_is from from_is =
        subst (λ (h : HandSeat). TakesState board x (record { name = x; start = start; from = h }) state old new) (sym from_is)
        (subst (λ (s : List Entry). TakesState board x (record { name = x; start = s; from = old }) state old new) (sym start_is)
        (at_item state state_is))

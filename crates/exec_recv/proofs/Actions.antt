-- What the callback of each kind of node does.
use Rattle.std.proofs.Common.{◌≡◌, ℕ, ◌≤◌, Bool, List, [], ◌∷◌, ◌++◌, append_assoc, refl, sym, ap, ◌∙◌, arith}
use Rattle.std.specs.Prelude.{slice_get, length, Option, Some, None}
use Rattle.std.proofs.lemmas.Bool.{eq-eqb}
use Rattle.std.proofs.lemmas.Option.{slice_get_past}
use Rattle.std.proofs.lemmas.List.Elements.{Contains-append_right}
use Rattle.life_rules.specs.declared.event.Name.{Name}
use Rattle.life_rules.specs.declared.event.Resting.TheVariants.{Parked}
use Rattle.life_rules.specs.declared.event.SourceRef.{SourceRef}
use Rattle.life_rules.specs.declared.event.SourceRef.TheVariants.{Node}
use Rattle.atomic_table.specs.declared.shared.Seat.{Seat}
use Rattle.listed_words.specs.declared.seen.Seen.{Seen}
use Rattle.listed_words.specs.Lists.{entry}
use Rattle.node_tree.specs.declared.node_list.NodeList.{NodeList}
use Rattle.plan_rules.specs.declared.node.Node.{Node as PlanNode}
use Rattle.plan_rules.specs.declared.node.Node.TheVariants.{Delay, WhenAll}
use Rattle.plan_shape.specs.Blueprint.{Blueprint}
use Rattle.table_words.specs.Layouts.{OfControl, OfSource, index}
use Rattle.table_rules.specs.declared.view.View.{View}
use Rattle.table_steps.specs.Views.{Board, IsPlaceIn}
use Rattle.table_steps.specs.Seats.{Seated}
use Rattle.table_steps.specs.Rouses.{IsRoused}
use Rattle.table_steps.specs.Sights.{spot_of, IsSourceIn}
use Rattle.table_steps.specs.Steps.{control_index}
use Rattle.table_steps.specs.Takes.{rest_word}
use Rattle.stop_calls.specs.declared.requesting.Request.{Request}
use Rattle.stop_calls.specs.Requests.{IsAskedFor}
use Rattle.home_items.specs.declared.entry.Entry.{Entry}
use Rattle.home_items.specs.declared.item.Item.{Item}
use Rattle.exec_recv.specs.Actions.{ListsActions, Acts}
use Rattle.exec_recv.specs.Areas.{IsWithin}
use Rattle.exec_recv.proofs.Acting.{each-both, others-act, others-here, act-on, place-within, lists-others, lists-on}
use Rattle.exec_recv.proofs.Running.{control-none, source-none, source-within}

-- one node isn't of two kinds
two-kinds : (found : Option PlanNode) (turns : ℕ) (children : NodeList) → found ≡ Some (Delay turns) → found ≡ Some (WhenAll children) → ⊥
two-kinds found turns children delay all = cc

none-some : (found : Option PlanNode) (n : PlanNode) → found ≡ None → found ≡ Some n → ⊥
none-some found n none some = cc

module _ (board : Board Blueprint) (plan : Blueprint) where
  -- nothing is new
  pub lists-here : (source : SourceRef) (m : Seated Item Entry) → ListsActions board plan source m m
  lists-here source m = lists-others board plan source m m (others-here board source m.0.steps m.0.steps refl)

  module _ (x : Name) where
    -- the callback of a node that is neither a delay nor a `when_all` does nothing
    pub other-acts : (m : Seated Item Entry) → ((turns : ℕ) → slice_get plan.nodes x.node ≡ Some (Delay turns) → ⊥) →
        ((children : NodeList) → slice_get plan.nodes x.node ≡ Some (WhenAll children) → ⊥) → Acts board plan x m m
    other-acts m no_delay no_all =
        record {
          lists = lists-here (Node x) m;
          acted = record {
            wakes = λ turns at. absurd (no_delay turns at);
            passes_on = λ children at. absurd (no_all children at);
          };
        }

    -- and so does that of a node behind all of the plan's
    pub past-acts : (m : Seated Item Entry) → length plan.nodes ≤ x.node → Acts board plan x m m
    past-acts m past =
        let none = slice_get_past plan.nodes x.node past in
        other-acts m (λ turns at. none-some (slice_get plan.nodes x.node) (Delay turns) none at)
        (λ children at. none-some (slice_get plan.nodes x.node) (WhenAll children) none at)

    module _ (old new : Seat (Option Item) (View Item Entry)) where
      -- that of a delay rouses it
      pub delay-acts : IsPlaceIn board x → (turns : ℕ) → slice_get plan.nodes x.node ≡ Some (Delay turns) → (answer : Bool) →
          IsRoused board x answer old new → Acts board plan x old.me new.me
      delay-acts place turns at answer roused =
          let step : Seen = entry (control_index board x) roused.word roused.left in
          record {
            lists = record {
              steps = record { made = step ∷ []; is = ap (λ (z : Seated Item Entry). z.0.steps) roused.me_is };
              within = (place-within board x (OfControl x.block x.node) (place.block, place.node) refl roused.word roused.left, tt);
              act = others-act board plan (step ∷ []) (control-none board x place roused.word roused.left, tt);
            };
            acted = record {
              wakes = λ turns same. (
                step,
                (0, omega arith, refl),
                record {
                  index_is = refl;
                  readies = λ parked. roused.roused (roused.answer_is ∙ eq-eqb roused.word (rest_word x Parked) parked);
                },
              );
              passes_on = λ children other. absurd (two-kinds (slice_get plan.nodes x.node) turns children at other);
            };
          }

      -- that of a `when_all` requests a stop of the node's source, and does what comes of it
      pub all-acts : IsSourceIn board (Node x) → (children : NodeList) → slice_get plan.nodes x.node ≡ Some (WhenAll children) →
          (failure : Bool) (answer : Request) → IsAskedFor board (Node x) failure answer old new → (m : Seated Item Entry) →
          ListsActions board plan (Node x) new.me m → Acts board plan x old.me m
      all-acts is_one children at failure answer asked m more =
          let step : Seen = entry (index board.frame.layout (OfSource x.block x.node)) asked.word asked.left in
          let made = more.steps.made in
          record {
            lists = record {
              steps = record {
                made = made ++ step ∷ [];
                is =
                    more.steps.is
                    ∙ ap (λ (l : List Seen). made ++ l) (ap (λ (z : Seated Item Entry). z.0.steps) asked.me_is)
                    ∙ sym (append_assoc made (step ∷ []) old.me.0.steps);
              };
              within = each-both (IsWithin board (Node x)) made (step ∷ []) more.within
                  (source-within board (Node x) is_one asked.word asked.left, tt);
              act =
                  act-on board plan (step ∷ []) made
                  (others-act board plan (step ∷ []) (source-none board (Node x) is_one asked.word asked.left, tt)) more.act;
            };
            acted = record {
              wakes = λ turns other. absurd (two-kinds (slice_get plan.nodes x.node) turns children other at);
              passes_on = λ children same. (
                step,
                Contains-append_right made (step ∷ []) step (0, omega arith, refl),
                record {
                  index_is = refl;
                  stamp_is = asked.stamp_is ∙ asked.is_of;
                  requested = ap (λ b. b.requested) asked.left_is;
                },
              );
            };
          }

-- a request of a source, and what came of it
pub asked-acts : (board : Board Blueprint) (plan : Blueprint) (source : SourceRef) (old new : Seat (Option Item) (View Item Entry)) →
    IsSourceIn board source → (failure : Bool) (answer : Request) → IsAskedFor board source failure answer old new → (m : Seated Item Entry) →
    ListsActions board plan source new.me m → ListsActions board plan source old.me m
asked-acts board plan source old new is_one failure answer asked m more =
    let step : Seen = entry (index board.frame.layout (spot_of source)) asked.word asked.left in
    lists-on board plan source old.me new.me m
    (record {
      steps = record { made = step ∷ []; is = ap (λ (z : Seated Item Entry). z.0.steps) asked.me_is };
      within = (source-within board source is_one asked.word asked.left, tt);
      act = others-act board plan (step ∷ []) (source-none board source is_one asked.word asked.left, tt);
    }) more

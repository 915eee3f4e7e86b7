-- Looks at the delays of a plan, one block after another.
use Rattle.std.proofs.Common.{◌≡◌, ◌≢◌, inl, inr, ℕ, ◌+◌, ◌<◌, ◌≤◌, List, length, refl, sym, ap, ◌∙◌, subst, arith}
use Rattle.std.specs.Prelude.{Some, slice_get}
use Rattle.std.proofs.lemmas.Bool.{cases_lt, cases_eq}
use Rattle.std.proofs.lemmas.Nat.{row_fits, same_from_place}
use Rattle.std.proofs.lemmas.Option.{same_Some, slice_get_within}
use Rattle.timer_wheel.specs.Delays.{DelayList, places, delay_at}
use Rattle.plan_rules.specs.declared.node.Node.TheVariants.{Delay}
use Rattle.plan_shape.specs.Blueprint.{Blueprint}
use Rattle.plan_shape.specs.declared.limits.TheConstants.{MOST_TURNS}
use Rattle.plan_shape.proofs.TreeLemmas.{length-tree_of}
use Rattle.table_steps.specs.Views.{Board}
use Rattle.table_steps.specs.Seats.{Seated}
use Rattle.home_items.specs.declared.entry.Entry.{Entry}
use Rattle.home_items.specs.declared.item.Item.{Item}
use Rattle.exec_recv.specs.Asides.{KeepsAside}
use Rattle.exec_recv.specs.Over.{IsOver}
use Rattle.run_loop.specs.declared.delay_node.DelayNode.{DelayNode}
use Rattle.run_loop.specs.DelayNodes.{IsDelayNode, AreDelaysOf, nodes_of, place_of, place_count}
use Rattle.run_loop.specs.Delayed.{Becomes, IsLookedAt, LooksAtDelay, LooksThrough, LooksBelow}
use Rattle.run_loop.proofs.Becoming.{becomes-on, looked-before, looked-after}
use Rattle.run_loop.proofs.PlaceLooks.{look-turn, look-places, look-other, look-here, look-becomes}

module _ (board : Board Blueprint) (over : IsOver board board.frame.over.value) where
  -- a delay of the plan has a place in each block, and waits few turns
  pub delay-within : (delay : DelayNode) → IsDelayNode (nodes_of board) delay → delay.node < board.frame.layout.nodes
  delay-within delay is =
      let within = slice_get_within (nodes_of board) delay.node _ is in
      let size = over.nodes ∙ ap length over.tree ∙ length-tree_of (nodes_of board) in
      omega (arith, within, size)

  pub delay-few : (delay : DelayNode) → IsDelayNode (nodes_of board) delay → delay.turns ≤ MOST_TURNS
  delay-few delay is = (over.is_plan.forest.each delay.node (Delay delay.turns) is).made

  pub place-within : (block node : ℕ) → block < board.frame.layout.blocks → node < board.frame.layout.nodes →
      place_of board block node < place_count board
  place-within block node in_blocks in_nodes =
      let nodes = board.frame.layout.nodes in
      let fits = row_fits block nodes board.frame.layout.blocks nodes in_blocks (omega arith) in
      omega (arith, fits, in_nodes)

  module _ (delays : List DelayNode) (are : AreDelaysOf (nodes_of board) delays) where
    in_nodes : (k : ℕ) (delay : DelayNode) → slice_get delays k ≡ Some delay → delay.node < board.frame.layout.nodes
    in_nodes k delay at = delay-within delay (are.each k delay at)

    -- no look
    pub through-none : (block : ℕ) (m : Seated Item Entry) (before : DelayList) → LooksThrough board block delays 0 m m before before
    through-none block m before =
        record {
          turn = refl;
          places_are = refl;
          each = λ place. inl refl;
          looked = λ k delay below. absurd (omega (arith, below));
          others = λ b n apart within. refl;
        }

    -- one more
    module _ (block count : ℕ) (m between m' : Seated Item Entry) (before middle after : DelayList) (delay : DelayNode)
        (at : slice_get delays count ≡ Some delay) (in_blocks : block < board.frame.layout.blocks)
        (room : place_count board ≤ places middle) (first : LooksThrough board block delays count m between before middle)
        (looks : LooksAtDelay board block delay between m' middle after) (aside : KeepsAside m between) (next : KeepsAside between m') where
      within : place_of board block delay.node < places middle
      within = let place = place-within block delay.node in_blocks (in_nodes count delay at) in omega (arith, place, room)

      here : IsLookedAt board m m' after 0 block delay.node
      here = looked-before board m between m' after 0 block delay.node aside (look-here board block delay between m' middle after looks within)

      apart-place : (k : ℕ) (d : DelayNode) → slice_get delays k ≡ Some d → d.node ≢ delay.node →
          place_of board block d.node ≢ place_of board block delay.node
      apart-place k d at_k apart same =
          apart (same_from_place block d.node block delay.node board.frame.layout.nodes (in_nodes k d at_k) (in_nodes count delay at) same).1

      earlier : (k : ℕ) (d : DelayNode) → k < count → slice_get delays k ≡ Some d → IsLookedAt board m m' after 0 block d.node
      earlier k d less at_k = elim (cases_eq d.node delay.node) [
        | inl same ↦ subst (λ n. IsLookedAt board m m' after 0 block n) (sym same) here
        | inr apart ↦
            looked-after board m between m' middle after 0 0 block d.node (omega arith) (first.looked k d less at_k) next
            (look-other board block delay between m' middle after looks (place_of board block d.node) (apart-place k d at_k apart))
      ]

      pub through-more : LooksThrough board block delays (count + 1) m m' before after
      through-more =
          record {
            turn = look-turn board block delay between m' middle after looks ∙ first.turn;
            places_are = look-places board block delay between m' middle after looks ∙ first.places_are;
            each = λ place.
                becomes-on board m between m' after.turn 0 0 place (delay_at before place) (delay_at middle place) (delay_at after place)
                (omega arith)
                (subst (λ t. Becomes board m between t 0 place (delay_at before place) (delay_at middle place))
                (sym (look-turn board block delay between m' middle after looks)) (first.each place))
                (look-becomes board block delay between m' middle after looks within in_blocks (are.each count delay at) place) aside next;
            looked = λ k d below at_k. elim (cases_lt k count) [
              | inl less ↦ earlier k d less at_k
              | inr past ↦
                  let is : count ≡ k = omega (arith, below, past) in
                  let same : delay ≡ d = same_Some delay d (sym at ∙ ap (slice_get delays) is ∙ at_k) in
                  subst (λ (x : DelayNode). IsLookedAt board m m' after 0 block x.node) same here
            ];
            others = λ b n apart in_n.
                look-other board block delay between m' middle after looks (place_of board b n)
                (λ same. apart (same_from_place b n block delay.node board.frame.layout.nodes in_n (in_nodes count delay at) same).0)
                ∙ first.others b n apart in_n;
          }

    -- no block
    pub below-none : (m : Seated Item Entry) (before : DelayList) → LooksBelow board delays 0 m m before before
    below-none m before =
        record {
          turn = refl;
          places_are = refl;
          each = λ place. inl refl;
          looked = λ b k delay below. absurd (omega (arith, below));
        }

    -- where the plan has no delay
    pub below-empty : (blocks : ℕ) (m : Seated Item Entry) (before : DelayList) → length delays ≡ 0 →
        LooksBelow board delays blocks m m before before
    below-empty blocks m before empty =
        record {
          turn = refl;
          places_are = refl;
          each = λ place. inl refl;
          looked = λ b k delay below at. let within = slice_get_within delays k delay at in absurd (omega (arith, within, empty));
        }

    -- one more
    pub below-more : (block : ℕ) (m between m' : Seated Item Entry) (before middle after : DelayList) →
        LooksBelow board delays block m between before middle →
        LooksThrough board block delays (length delays) between m' middle after → KeepsAside m between → KeepsAside between m' →
        LooksBelow board delays (block + 1) m m' before after
    below-more block m between m' before middle after first looks aside next =
        record {
          turn = looks.turn ∙ first.turn;
          places_are = looks.places_are ∙ first.places_are;
          each = λ place.
              becomes-on board m between m' after.turn 0 0 place (delay_at before place) (delay_at middle place) (delay_at after place)
              (omega arith)
              (subst (λ t. Becomes board m between t 0 place (delay_at before place) (delay_at middle place)) (sym looks.turn)
              (first.each place))
              (looks.each place) aside next;
          looked = λ b k delay below at. elim (cases_lt b block) [
            | inl less ↦
                looked-after board m between m' middle after 0 0 b delay.node (omega arith) (first.looked b k delay less at) next
                (looks.others b delay.node (λ same. absurd (omega (arith, less, same))) (in_nodes k delay at))
            | inr past ↦
                let is : block ≡ b = omega (arith, below, past) in
                subst (λ x. IsLookedAt board m m' after 0 x delay.node) is
                (looked-before board m between m' after 0 block delay.node aside
                (looks.looked k delay (slice_get_within delays k delay at) at))
          ];
        }

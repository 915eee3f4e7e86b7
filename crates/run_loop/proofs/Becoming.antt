-- What became of the parked delays of a loop, call by call.
use Rattle.std.proofs.Common.{◌≡◌, ◌≢◌, ◌⊎◌, inl, inr, ℕ, ◌<◌, ◌≤◌, ◌/◌, ◌%◌, false, sym, ap, ◌∙◌, subst, arith}
use Rattle.std.specs.Prelude.{Option, Some}
use Rattle.std.proofs.lemmas.Bool.{both_ways, eq-eqb}
use Rattle.std.proofs.lemmas.Nat.{div-mul-add, mod-mul-add}
use Rattle.std.proofs.lemmas.Option.{none-some, same_Some}
use Rattle.life_rules.specs.declared.event.Name.{Name}
use Rattle.life_rules.specs.declared.event.Resting.TheVariants as rest
use Rattle.timer_wheel.specs.declared.waiting.Waiting.{Waiting}
use Rattle.timer_wheel.specs.Delays.{DelayList, delay_at, is_of}
use Rattle.plan_shape.specs.Blueprint.{Blueprint}
use Rattle.table_words.specs.Stamps.{stamp_of}
use Rattle.table_steps.specs.Views.{Board}
use Rattle.table_steps.specs.Seats.{Seated}
use Rattle.table_steps.specs.Steps.{control_index}
use Rattle.table_steps.specs.Takes.{rest_word}
use Rattle.home_items.specs.declared.entry.Entry.{Entry}
use Rattle.home_items.specs.declared.item.Item.{Item}
use Rattle.exec_recv.specs.Asides.{KeepsAside}
use Rattle.node_walks.specs.Serving.{TakesWord}
use Rattle.exec_recv.proofs.Since.{moved-before, moved-after, since-before, since-after}
use Rattle.run_loop.specs.DelayNodes.{place_of, name_at}
use Rattle.run_loop.specs.Delayed.{SaysParked, word_at, IsSeenNow, IsNewIn, WasTried, WasDue, Becomes, IsLookedAt, WasTakenOut}
use Rattle.run_loop.proofs.DelayLists.{known-waits}

abbrev as_name : ℕ → ℕ → ℕ → Name
as_name block node generation = record { block = block; generation = generation; node = node }

-- what is known of an earlier moment is known later, and the other way
module _ (board : Board Blueprint) (m between m' : Seated Item Entry) where
  pub tried-before : (count : ℕ) (x : Name) → KeepsAside m between → WasTried board between m' count x → WasTried board m m' count x
  tried-before count x aside tried = elim tried [
    | inl missed ↦ inl (since-before (control_index board x) (λ word. word ≢ rest_word x rest.Parked) m between m' aside missed)
    | inr won ↦ inr (won.0, moved-before (control_index board x) (TakesWord rest.Parked x) m between m' aside won.1)
  ]

  pub tried-after : (count more : ℕ) (x : Name) → count ≤ more → WasTried board m between count x → KeepsAside between m' →
      WasTried board m m' more x
  tried-after count more x le tried aside = elim tried [
    | inl missed ↦ inl (since-after (control_index board x) (λ word. word ≢ rest_word x rest.Parked) m between m' missed aside)
    | inr won ↦
        let some = won.0 in
        inr (omega (arith, some, le), moved-after (control_index board x) (TakesWord rest.Parked x) m between m' won.1 aside)
  ]

  pub seen-before : (turn place : ℕ) (waiting : Waiting) → KeepsAside m between → IsSeenNow board between m' turn place waiting →
      IsSeenNow board m m' turn place waiting
  seen-before turn place waiting aside seen =
      record {
        block = seen.block;
        node = seen.node;
        within = seen.within;
        place_is = seen.place_is;
        delay = seen.delay;
        since = seen.since;
        read = since-before (word_at board seen.block seen.node) (SaysParked waiting.generation) m between m' aside seen.read;
      }

  pub seen-after : (turn place : ℕ) (waiting : Waiting) → IsSeenNow board m between turn place waiting → KeepsAside between m' →
      IsSeenNow board m m' turn place waiting
  seen-after turn place waiting seen aside =
      record {
        block = seen.block;
        node = seen.node;
        within = seen.within;
        place_is = seen.place_is;
        delay = seen.delay;
        since = seen.since;
        read = since-after (word_at board seen.block seen.node) (SaysParked waiting.generation) m between m' seen.read aside;
      }

  pub looked-before : (list : DelayList) (count block node : ℕ) → KeepsAside m between → IsLookedAt board between m' list count block node →
      IsLookedAt board m m' list count block node
  looked-before list count block node aside looked =
      record {
        word = looked.word;
        read = since-before (word_at board block node) (λ w. w ≡ looked.word) m between m' aside looked.read;
        known = λ parked. elim (looked.known parked) [
          | inl known ↦ inl known
          | inr tried ↦ inr (tried-before count _ aside tried)
        ];
      }

  -- a look at a place whose delay stays
  pub looked-after : (list next : DelayList) (count more block node : ℕ) → count ≤ more → IsLookedAt board m between list count block node →
      KeepsAside between m' → delay_at next (place_of board block node) ≡ delay_at list (place_of board block node) →
      IsLookedAt board m m' next more block node
  looked-after list next count more block node le looked aside same =
      record {
        word = looked.word;
        read = since-after (word_at board block node) (λ w. w ≡ looked.word) m between m' looked.read aside;
        known = λ parked. elim (looked.known parked) [
          | inl known ↦ inl (ap (is_of (stamp_of looked.word)) same ∙ known)
          | inr tried ↦ inr (tried-after count more _ le tried aside)
        ];
      }

  -- and at one whose delay was taken out
  pub looked-out : (list next : DelayList) (turn count more block node : ℕ) → block < board.frame.layout.blocks →
      node < board.frame.layout.nodes → count ≤ more → IsLookedAt board m between list count block node → KeepsAside m between →
      KeepsAside between m' →
      WasTakenOut board turn more (place_of board block node) between m' (delay_at list (place_of board block node)) →
      IsLookedAt board m m' next more block node
  looked-out list next turn count more block node in_blocks in_nodes le looked first aside out =
      record {
        word = looked.word;
        read = since-after (word_at board block node) (λ w. w ≡ looked.word) m between m' looked.read aside;
        known = λ parked. elim (looked.known parked) [
          | inl known ↦
              let place = place_of board block node in
              let generation = stamp_of looked.word in
              let of : out.waiting.generation ≡ generation = known-waits generation (delay_at list place) known out.waiting out.there in
              let block_is : place / board.frame.layout.nodes ≡ block = div-mul-add block board.frame.layout.nodes node in_nodes in
              let node_is : place % board.frame.layout.nodes ≡ node = mod-mul-add block board.frame.layout.nodes node in_nodes in
              inr
              (subst (λ (x : Name). WasTried board m m' more x) (named block node generation block_is node_is of)
              (tried-before more _ first (out.tried (subst (λ b. b < board.frame.layout.blocks) (sym block_is) in_blocks))))
          | inr tried ↦ inr (tried-after count more _ le tried aside)
        ];
      }
    where
      named : (b n g : ℕ) → place_of board block node / board.frame.layout.nodes ≡ b → place_of board block node % board.frame.layout.nodes ≡ n →
          out.waiting.generation ≡ g →
          name_at board (place_of board block node) out.waiting.generation ≡ record { block = b; generation = g; node = n }
      named b n g e f h =
          ap (λ (k : ℕ). as_name k (place_of board block node % board.frame.layout.nodes) out.waiting.generation) e
          ∙ ap (λ (k : ℕ). as_name b k out.waiting.generation) f ∙ ap (λ (k : ℕ). as_name b n k) h

  due-after : (turn count more place : ℕ) (before : Option Waiting) → count ≤ more → WasDue board m between turn count place before →
      KeepsAside between m' → WasDue board m m' turn more place before
  due-after turn count more place before le was aside =
      record {
        waiting = was.waiting;
        came = elim was.came [
          | inl there ↦ inl there
          | inr seen ↦ inr (seen-after turn place was.waiting seen aside)
        ];
        due = was.due;
        tried = λ within. tried-after count more _ le (was.tried within) aside;
      }

  new-after : (turn count more place : ℕ) (before : Option Waiting) (generation : ℕ) → count ≤ more →
      IsNewIn board m between turn count place before generation → KeepsAside between m' → IsNewIn board m m' turn more place before generation
  new-after turn count more place before generation le is aside = elim is [
    | inl unknown ↦ inl unknown
    | inr lost ↦ inr (elim lost [
      | inl other ↦ inl (other.0, other.1, seen-after turn place other.0 other.2 aside)
      | inr was ↦ inr (due-after turn count more place before le was aside)
    ])
  ]

  pub becomes-after : (turn count more place : ℕ) (before after : Option Waiting) → count ≤ more →
      Becomes board m between turn count place before after → KeepsAside between m' → Becomes board m m' turn more place before after
  becomes-after turn count more place before after le first aside = elim first [
    | inl same ↦ inl same
    | inr changes ↦ inr (elim changes [
      | inl new ↦
          inl (
            new.0,
            new.1,
            seen-after turn place new.0 new.2 aside,
            new-after turn count more place before new.0.generation le new.3 aside,
          )
      | inr out ↦ inr (out.0, due-after turn count more place before le out.1 aside)
    ])
  ]

  -- a delay that was due in what an earlier call left
  due-on : (turn count more place : ℕ) (before middle : Option Waiting) → Becomes board m between turn count place before middle →
      WasDue board between m' turn more place middle → KeepsAside m between → KeepsAside between m' →
      WasDue board m m' turn more place before
  due-on turn count more place before middle first was aside next =
      record {
        waiting = was.waiting;
        came = elim was.came [
          | inl there ↦ came first there
          | inr seen ↦ inr (seen-before turn place was.waiting aside seen)
        ];
        due = was.due;
        tried = λ within. tried-before more _ aside (was.tried within);
      }
    where
      came : Becomes board m between turn count place before middle → middle ≡ Some was.waiting →
          (before ≡ Some was.waiting) ⊎ IsSeenNow board m m' turn place was.waiting
      came (inl same) there = inl (sym same ∙ there)
      came (inr (inl new)) there =
          inr
          (subst (λ (w : Waiting). IsSeenNow board m m' turn place w) (same_Some new.0 was.waiting (sym new.1 ∙ there))
          (seen-after turn place new.0 new.2 next))
      came (inr (inr out)) there = absurd (none-some was.waiting (sym out.0 ∙ there))

  -- a delay that is new in what an earlier call left
  new-on : (turn count more place : ℕ) (before middle : Option Waiting) (generation : ℕ) → count ≤ more →
      Becomes board m between turn count place before middle → IsNewIn board between m' turn more place middle generation →
      KeepsAside m between → KeepsAside between m' → IsNewIn board m m' turn more place before generation
  new-on turn count more place before middle generation le first is aside next = elim is [
    | inl unknown ↦ unknown-on first unknown
    | inr lost ↦ inr (elim lost [
      | inl other ↦ inl (other.0, other.1, seen-before turn place other.0 aside other.2)
      | inr was ↦ inr (due-on turn count more place before middle first was aside next)
    ])
  ]
    where
      unknown-on : Becomes board m between turn count place before middle → is_of generation middle ≡ false →
          IsNewIn board m m' turn more place before generation
      unknown-on (inl same) unknown = inl (ap (is_of generation) (sym same) ∙ unknown)
      unknown-on (inr (inl new)) unknown =
          inr
          (inl (
            new.0,
            λ same. both_ways (is_of generation middle) unknown (ap (is_of generation) new.1 ∙ eq-eqb new.0.generation generation same),
            seen-after turn place new.0 new.2 next,
          ))
      unknown-on (inr (inr out)) unknown = inr (inr (due-after turn count more place before le out.1 next))

  -- one call after another
  pub becomes-on : (turn count more place : ℕ) (before middle after : Option Waiting) → count ≤ more →
      Becomes board m between turn count place before middle → Becomes board between m' turn more place middle after →
      KeepsAside m between → KeepsAside between m' → Becomes board m m' turn more place before after
  becomes-on turn count more place before middle after le first second aside next = on second
    where
      on : Becomes board between m' turn more place middle after → Becomes board m m' turn more place before after
      on (inl same) =
          subst (λ (o : Option Waiting). Becomes board m m' turn more place before o) (sym same)
          (becomes-after turn count more place before middle le first next)
      on (inr (inl new)) =
          inr
          (inl (
            new.0,
            new.1,
            seen-before turn place new.0 aside new.2,
            new-on turn count more place before middle new.0.generation le first new.3 aside next,
          ))
      on (inr (inr out)) = inr (inr (out.0, due-on turn count more place before middle first out.1 aside next))

-- What a list of delays says of its places, after a look and after a delay was taken out.
use Rattle.std.proofs.Common.{◌≡◌, ◌≢◌, ℕ, ◌+◌, ◌<◌, ◌≤◌, Bool, true, false, List, [], ◌∷◌, ◌++◌, length, inl, inr, refl, sym, ap, ◌∙◌, subst, arith}
use Rattle.std.specs.Prelude.{Option, Some, None, slice_get, if◌then◌else◌}
use Rattle.std.proofs.lemmas.Bool.{cases_lt, cond-true, cond-false, eq-eqb, eqb-true}
use Rattle.std.proofs.lemmas.List.{get_or-set_same, get_or-set_other, get_or_past, length-set, length_push}
use Rattle.std.proofs.lemmas.Option.{none-some, same_Some, slice_get_within}
use Rattle.common_lemmas.proofs.Lists.{slice_get-append_left, slice_get-append_middle}
use Rattle.timer_wheel.specs.declared.waiting.Waiting.{Waiting}
use Rattle.timer_wheel.specs.Delays.{DelayList, places, delay_at, is_of, is_known, first_seen, seen_parked, forgotten}
use Rattle.plan_rules.specs.declared.node.Node.{Node as PlanNode}
use Rattle.plan_rules.specs.declared.node.Node.TheVariants.{Delay}
use Rattle.run_loop.specs.declared.delay_node.DelayNode.{DelayNode}
use Rattle.run_loop.specs.DelayNodes.{AreDelaysBelow}

-- a delay that is parked
module _ (delays : DelayList) (place generation turns : ℕ) where
  abbrev seen : DelayList
  seen = seen_parked delays place generation turns

  abbrev pub seen_one : Waiting
  seen_one = record { generation = generation; since = delays.turn; turns = turns }

  pub seen-turn : seen.turn ≡ delays.turn
  seen-turn = at (is_known delays place generation)
    where
      at : (b : Bool) → (if b then delays else first_seen delays place generation turns).turn ≡ delays.turn
      at true = refl
      at false = refl

  pub seen-places : places seen ≡ places delays
  seen-places = at (is_known delays place generation)
    where
      at : (b : Bool) → places (if b then delays else first_seen delays place generation turns) ≡ places delays
      at true = refl
      at false = length-set delays.waiting place (Some seen_one)

  pub seen-other : (other : ℕ) → other ≢ place → delay_at seen other ≡ delay_at delays other
  seen-other other apart = at (is_known delays place generation)
    where
      at : (b : Bool) → delay_at (if b then delays else first_seen delays place generation turns) other ≡ delay_at delays other
      at true = refl
      at false = get_or-set_other delays.waiting place other (Some seen_one) None apart

  -- one that is known stays
  pub seen-known : is_known delays place generation ≡ true → delay_at seen place ≡ delay_at delays place
  seen-known known = ap (λ (d : DelayList). delay_at d place) (cond-true (is_known delays place generation) delays (first_seen delays place generation turns) known)

  -- another is first seen now
  pub seen-new : place < places delays → is_known delays place generation ≡ false → delay_at seen place ≡ Some seen_one
  seen-new within unknown =
      ap (λ (d : DelayList). delay_at d place) (cond-false (is_known delays place generation) delays (first_seen delays place generation turns) unknown)
      ∙ get_or-set_same delays.waiting place (Some seen_one) None within

  -- either is known afterwards
  pub seen-is-known : place < places delays → is_known seen place generation ≡ true
  seen-is-known within = at (is_known delays place generation) refl
    where
      at : (b : Bool) → is_known delays place generation ≡ b → is_known seen place generation ≡ true
      at true known = ap (is_of generation) (seen-known known) ∙ known
      at false unknown = ap (is_of generation) (seen-new within unknown) ∙ eq-eqb generation generation refl

-- a delay that is known at a generation waits there
pub known-waits : (generation : ℕ) (found : Option Waiting) → is_of generation found ≡ true → (waiting : Waiting) → found ≡ Some waiting →
    waiting.generation ≡ generation
known-waits generation found known waiting is =
    eqb-true waiting.generation generation (sym (ap (is_of generation) is) ∙ known)

-- a delay that was taken out
pub forgotten-here : (delays : DelayList) (place : ℕ) (waiting : Waiting) → delay_at delays place ≡ Some waiting →
    delay_at (forgotten delays place) place ≡ None
forgotten-here delays place waiting there = elim (cases_lt place (length delays.waiting)) [
  | inl within ↦ get_or-set_same delays.waiting place None None within
  | inr past ↦ absurd (none-some waiting (sym (get_or_past delays.waiting place None past) ∙ there))
]

pub forgotten-other : (delays : DelayList) (place other : ℕ) → other ≢ place → delay_at (forgotten delays place) other ≡ delay_at delays other
forgotten-other delays place other apart = get_or-set_other delays.waiting place other None None apart

abbrev delay_one : ℕ → ℕ → DelayNode
delay_one node turns = record { node = node; turns = turns }

-- the delays of a plan
module _ (nodes : List PlanNode) where
  pub delays-none : AreDelaysBelow nodes 0 []
  delays-none =
      record {
        named = λ n turns below is. absurd (omega (arith, below));
        each = λ k delay at. absurd (none-some delay at);
      }

  -- one more, which is no delay
  pub delays-other : (count : ℕ) (list : List DelayNode) → AreDelaysBelow nodes count list →
      ((turns : ℕ) → slice_get nodes count ≡ Some (Delay turns) → ⊥) → AreDelaysBelow nodes (count + 1) list
  delays-other count list are no_delay =
      record {
        named = λ n turns below is. elim (cases_lt n count) [
          | inl less ↦ are.named n turns less is
          | inr past ↦
              let here : n ≡ count = omega (arith, below, past) in
              absurd (no_delay turns (ap (slice_get nodes) (sym here) ∙ is))
        ];
        each = are.each;
      }

  -- and one more, which is
  pub delays-more : (count turns : ℕ) (list : List DelayNode) → AreDelaysBelow nodes count list →
      slice_get nodes count ≡ Some (Delay turns) → AreDelaysBelow nodes (count + 1) (list ++ record { node = count; turns = turns } ∷ [])
  delays-more count turns list are at =
      record {
        named = λ n t below is. elim (cases_lt n count) [
          | inl less ↦
              let found = are.named n t less is in
              (found.0, slice_get-append_left list (delay_one count turns ∷ []) found.0 (slice_get_within list found.0 _ found.1) ∙ found.1)
          | inr past ↦
              let here : n ≡ count = omega (arith, below, past) in
              let same : turns ≡ t = same_turns turns t (sym at ∙ ap (slice_get nodes) (sym here) ∙ is) in
              (length list, slice_get-append_middle list (delay_one count turns) [] ∙ ap (λ (d : DelayNode). Some d) (node-is n t (sym here) same))
        ];
        each = λ k delay found. elim (cases_lt k (length list)) [
          | inl less ↦ are.each k delay (sym (slice_get-append_left list (delay_one count turns ∷ []) k less) ∙ found)
          | inr past ↦ last k delay past found
        ];
      }
    where
      same_turns : (a b : ℕ) → Some (Delay a) ≡ Some (Delay b) → a ≡ b
      same_turns a b e = cc

      node-is : (n t : ℕ) → count ≡ n → turns ≡ t → delay_one count turns ≡ record { node = n; turns = t }
      node-is n t e f = ap (λ (k : ℕ). record { node = k; turns = turns }) e ∙ ap (λ (k : ℕ). record { node = n; turns = k }) f

      last : (k : ℕ) (delay : DelayNode) → length list ≤ k → slice_get (list ++ delay_one count turns ∷ []) k ≡ Some delay →
          slice_get nodes delay.node ≡ Some (Delay delay.turns)
      last k delay past found =
          let within = slice_get_within (list ++ delay_one count turns ∷ []) k delay found in
          let long = length_push list (delay_one count turns) in
          let end : length list ≡ k = omega (arith, past, within, long) in
          let is : delay_one count turns ≡ delay =
          same_Some (delay_one count turns) delay (sym (slice_get-append_middle list (delay_one count turns) []) ∙ ap (slice_get (list ++ delay_one count turns ∷ [])) end ∙ found) in
          subst (λ (d : DelayNode). slice_get nodes d.node ≡ Some (Delay d.turns)) is at

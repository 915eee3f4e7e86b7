-- What is read after a write.
use Rattle.std.proofs.Common.{◌≡◌, ℕ, ◌+◌, ◌<◌, ◌≤◌, true, false, cond, ◌&&◌, eqb, refl, sym, ap, ◌∙◌, arith}
use Rattle.std.proofs.lemmas.Bool.{and_parts, and_from, eqb-true, eq-eqb, ne_eqb, ltb-true, lt-ltb, false_from_ne_true, cond-true, cond-false, both_ways}
use Rattle.life_rules.specs.declared.event.Name.{Name}
use Rattle.life_rules.specs.declared.event.Place.{Place}
use Rattle.life_rules.specs.Views.{View}
use Rattle.life_rules.specs.States.{State, size, is_live, control_at, is_place, name_of, name_at, stand, set_at, with_view}
use Rattle.common_lemmas.specs.Sums.{total}
use Rattle.life_rules.specs.Words.{is_open, is_idle}
use Rattle.common_lemmas.proofs.Bool.{either}
use Rattle.common_lemmas.proofs.Totals.{total-moved, total-at}

-- the sum over all views, after one of them changed
pub stand-with_view : (s : State) (h : ℕ) (v : View) (part : View → Name → ℕ) (x : Name) → h < s.hands →
    stand (with_view s h v) part x + part (s.view h) x ≡ stand s part x + part v x
stand-with_view s h v part x l =
    let f : ℕ → ℕ = λ i. part (s.view i) x in
    let g : ℕ → ℕ = λ i. part ((with_view s h v).view i) x in
    let here : g h ≡ part v x =
    ap (λ w. part w x) (cond-true (eqb h h) v (s.view h) (eq-eqb h h refl)) in
    let there : (i : ℕ) → i < s.hands → (i ≡ h → ⊥) → g i ≡ f i =
    λ i below other. ap (λ w. part w x) (cond-false (eqb i h) v (s.view i) (ne_eqb i h other)) in
    let moved : total g s.hands + f h ≡ total f s.hands + g h = total-moved f g s.hands h l there in
    omega (arith, moved, here)

-- one view's part is at most the sum
pub stand-at : (s : State) (part : View → Name → ℕ) (h : ℕ) (x : Name) → h < s.hands →
    part (s.view h) x ≤ stand s part x
stand-at s part h x l = total-at (λ i. part (s.view i) x) s.hands h l

-- what a live name tells
pub record Lives (s : State) (x : Name) : Type 0 where
  pub block : x.block < s.blocks
  pub node : x.node < size s
  pub is_opened : is_open (s.block x.block).state ≡ true
  pub generation : x.generation ≡ (s.block x.block).generation

pub lives : (s : State) (x : Name) → is_live s x ≡ true → Lives s x
lives s x h =
    let a = and_parts _ _ h in
    let b = and_parts _ _ a.1 in
    let c = and_parts _ _ b.1 in
    record {
      block = ltb-true _ _ a.0;
      node = ltb-true _ _ b.0;
      is_opened = c.0;
      generation = eqb-true _ _ c.1;
    }

pub is_live-from : (s : State) (x : Name) → Lives s x → is_live s x ≡ true
is_live-from s x h =
    and_from _ _ (lt-ltb _ _ h.block)
    (and_from _ _ (lt-ltb _ _ h.node) (and_from _ _ h.is_opened (eq-eqb _ _ h.generation)))

-- two live names of one place are one
pub live_unique : (s : State) (x y : Name) → is_live s x ≡ true → is_live s y ≡ true →
    x.block ≡ y.block → x.node ≡ y.node → x ≡ y
live_unique s x y lx ly block node =
    let a = lives s x lx in
    let b = lives s y ly in
    let generation : x.generation ≡ y.generation =
    a.generation ∙ ap (λ i. (s.block i).generation) block ∙ sym b.generation in
    λ i. record { block = block i; generation = generation i; node = node i }

-- a live name is what its place has now
pub name_of-live : (s : State) (x : Name) → is_live s x ≡ true → name_of s x.block x.node ≡ x
name_of-live s x l =
    let a = lives s x l in
    λ i. record { block = x.block; generation = (sym a.generation) i; node = x.node }

-- a place of an open block is live
pub name_at-live : (s : State) (p : Place) → is_place s p ≡ true → is_open (s.block p.block).state ≡ true →
    is_live s (name_at s p) ≡ true
name_at-live s p there o =
    let a = and_parts _ _ there in
    is_live-from s (name_at s p)
    (record { block = ltb-true _ _ a.0; node = ltb-true _ _ a.1; is_opened = o; generation = refl })

-- what a live place reads after a write to it
pub read-here : {A : Type 0} (s : State) (f : ℕ → ℕ → A) (dull w : A) (x : Name) → is_live s x ≡ true →
    cond (is_live s x) (set_at f x.block x.node w x.block x.node) dull ≡ w
read-here s f dull w x l =
    cond-true _ _ _ l ∙ cond-true _ _ _ (and_from _ _ (eq-eqb x.block x.block refl) (eq-eqb x.node x.node refl))

-- what any other name reads after a write to a live place
pub read-other : {A : Type 0} (s : State) (f : ℕ → ℕ → A) (dull w : A) (x y : Name) → is_live s x ≡ true →
    (y ≡ x → ⊥) →
    cond (is_live s y) (set_at f x.block x.node w y.block y.node) dull
    ≡ cond (is_live s y) (f y.block y.node) dull
read-other s f dull w x y l ne =
    either (is_live s y)
    (λ ly.
    let apart : (eqb y.block x.block && eqb y.node x.node) ≡ false =
    false_from_ne_true _ (λ t.
    let parts = and_parts _ _ t in
    ne (live_unique s y x ly l (eqb-true _ _ parts.0) (eqb-true _ _ parts.1))) in
    ap (λ v. cond (is_live s y) v dull) (cond-false _ _ _ apart))
    (λ dead. cond-false _ _ _ dead ∙ sym (cond-false _ _ _ dead))

-- a number of all views together, after one of them changed
pub total-with_view : (s : State) (h : ℕ) (v : View) (number : View → ℕ) → h < s.hands →
    total (λ i. number ((with_view s h v).view i)) s.hands + number (s.view h)
    ≡ total (λ i. number (s.view i)) s.hands + number v
total-with_view s h v number l =
    let anyone : Name = record { block = 0; generation = 0; node = 0 } in
    stand-with_view s h v (λ u _. number u) anyone l

-- a node that has begun is live
pub begun-live : (s : State) (x : Name) → is_idle (control_at s x) ≡ false → is_live s x ≡ true
begun-live s x begun =
    either (is_live s x) (λ live. live)
    (λ dead. absurd (both_ways _ begun (ap is_idle (cond-false (is_live s x) _ _ dead))))

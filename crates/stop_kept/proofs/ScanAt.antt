-- Where a view's scan stands, and what it has passed.
use Rattle.std.specs.Option.{option_map_or}
use Rattle.std.specs.Prelude.{MatchOption}
use Rattle.std.proofs.Common.{◌≡◌, ℕ, ◌<◌, ◌≤◌, true, false, Option, Some, None, inl, inr, sym, ap, ◌∙◌, subst, arith, ◌+◌, ◌-◌}
use Rattle.std.proofs.lemmas.Bool.{and_parts, both_ways, leb-true, ltb-true, cases_lt}
use Rattle.std.proofs.lemmas.Nat.{same_from_place}
use Rattle.life_rules.specs.declared.event.Name.{Name}
use Rattle.life_rules.specs.declared.event.Place.{Place}
use Rattle.life_rules.specs.declared.event.SourceRef.{SourceRef}
use Rattle.life_rules.specs.Words.{is_never, is_armed, is_running}
use Rattle.life_rules.specs.Views.{View, same_source}
use Rattle.life_rules.specs.States.{State, phase_at, nearest_of, size, is_live, name_of, is_place}
use Rattle.life_rules.specs.Scans.{index, HasPassed, is_next_in, is_nearest, is_next, place_at, has_none}
use Rattle.life_rules.specs.StopSteps.{passed}
use Rattle.life_rules.specs.Callbacks.{is_next_of_nearest}
use Rattle.life_rules.specs.Sound.{Sound}
use Rattle.life_rules.proofs.Names.{same_source-true, same_source-refl}
use Rattle.life_rules.proofs.Readings.{lives, name_of-live}
use Rattle.life_rules.proofs.ScanOrder.{has_none-at, place_at-index, next-first}
use Rattle.stop_kept.proofs.Standing.{phase-live, runs-running}
use Rattle.stop_kept.proofs.Phases.{armed-is, running-is}
pub use Rattle.common_lemmas.proofs.Options.{map_or-some}

pub armed-live : (s : State) (x : Name) → is_armed (phase_at s x) ≡ true → is_live s x ≡ true
armed-live s x e = phase-live s x (ap is_never (armed-is (phase_at s x) e))

pub running-live : (s : State) (x : Name) → is_running (phase_at s x) ≡ true → is_live s x ≡ true
running-live s x e = phase-live s x (ap is_never (running-is (phase_at s x) e))

-- a callback of x is registered on its nearest source
pub nearest-for : (s : State) (x : Name) (source : SourceRef) → nearest_of s x ≡ Some source →
    is_nearest s source x ≡ true
nearest-for s x source near =
    subst (λ o. option_map_or (same_source source) o false ≡ true) (sym near) (same_source-refl source)

-- the next of a scan, by the number where the scan stands
pub next_in-at : (s : State) (v : View) (source : SourceRef) (x : Name) (i : ℕ) →
    v.scan source ≡ Some i →
    is_next_in s v source x ≡ true → is_next s source i x ≡ true
next_in-at s v source x i at next =
    subst (λ o. option_map_or (λ j. is_next s source j x) o false ≡ true) at next

pub next-at : (s : State) (v : View) (source : SourceRef) (x : Name) (i : ℕ) →
    nearest_of s x ≡ Some source →
    v.scan source ≡ Some i → is_next_of_nearest s v x ≡ true → is_next s source i x ≡ true
next-at s v source x i near at next =
    next_in-at s v source x i at
    (subst (λ o. option_map_or (λ t. is_next_in s v t x) o false ≡ true) near next)

-- the scan stands at or before its next place
pub next-from : (s : State) (source : SourceRef) (i : ℕ) (x : Name) → is_next s source i x ≡ true →
    i ≤ index s x
next-from s source i x next = leb-true _ _ (and_parts _ _ (and_parts _ _ next).1).0

next-none : (s : State) (source : SourceRef) (i : ℕ) (x : Name) → is_next s source i x ≡ true →
    has_none s source i (index s x - i) ≡ true
next-none s source i x next = (and_parts _ _ (and_parts _ _ next).1).1

pub passed-from : (s : State) (v : View) (source : SourceRef) (x : Name) (i : ℕ) →
    v.scan source ≡ Some i →
    index s x < i → HasPassed s v source x
passed-from s v source x i at less =
    subst (λ o. MatchOption o ⊥ (λ j. index s x < j)) (sym at) less

pub passed-to : (s : State) (v : View) (source : SourceRef) (x : Name) (i : ℕ) →
    v.scan source ≡ Some i →
    HasPassed s v source x → index s x < i
passed-to s v source x i at passed =
    subst (λ o. MatchOption o ⊥ (λ j. index s x < j)) at passed

-- the live place with the number of a node of a block is that node
pub same-number : (s : State) (b n : ℕ) (y : Name) → n < size s → is_live s y ≡ true →
    index s (name_of s b n) ≡ index s y → y ≡ name_of s b n
same-number s b n y l live at =
    let parts = same_from_place b n y.block y.node (size s) l (lives s y live).node at in
    sym (name_of-live s y live) ∙ (λ k. name_of s (sym parts.0 k) (sym parts.1 k))

-- a live place that is next is the node that is next
pub next-one : (s : State) (source : SourceRef) (i b n : ℕ) (y : Name) → n < size s →
    is_live s y ≡ true →
    is_next s source i (name_of s b n) ≡ true → is_next s source i y ≡ true → y ≡ name_of s b n
next-one s source i b n y l live next_x next_y =
    let x : Name = name_of s b n in
    let for_x : is_nearest s source x ≡ true = (and_parts _ _ next_x).0 in
    let for_y : is_nearest s source y ≡ true = (and_parts _ _ next_y).0 in
    let from_x : i ≤ index s x = next-from s source i x next_x in
    let from_y : i ≤ index s y = next-from s source i y next_y in
    let up : index s x ≤ index s y = next-first s source i x y next_x live for_y from_y in
    elim (cases_lt (index s x) (index s y)) [
      | inl before ↦
          let apart : is_nearest s source (place_at s (index s x)) ≡ false =
          has_none-at s source i (index s y - i) (index s x) (next-none s source i y next_y) from_x (omega (arith, before, from_y)) in
          absurd (both_ways _ (subst (λ z. is_nearest s source z ≡ false) (place_at-index s b n l) apart) for_x)
      | inr behind ↦ same-number s b n y l live (omega (arith, up, behind))
    ]

-- the scan goes on behind its next place: of the live places of the source it passed that one alone
pub passed-but : (s : State) (source : SourceRef) (i b n : ℕ) (y : Name) → n < size s →
    is_live s y ≡ true →
    is_next s source i (name_of s b n) ≡ true → nearest_of s y ≡ Some source →
    (y ≡ name_of s b n → ⊥) → index s y < index s (name_of s b n) + 1 → index s y < i
passed-but s source i b n y l live next near other behind =
    elim (cases_lt (index s y) i) [
      | inl before ↦ before
      | inr ahead ↦
          let x : Name = name_of s b n in
          let up : index s x ≤ index s y =
          next-first s source i x y next live (nearest-for s y source near) ahead in
          absurd (other (same-number s b n y l live (omega (arith, up, behind))))
    ]

-- the source on which a callback of x is registered
pub for_nearest : (source : SourceRef) (o : Option SourceRef) →
    option_map_or (same_source source) o false ≡ true →
    o ≡ Some source
for_nearest source None e = cc
for_nearest source (Some t) e = ap Some (sym (same_source-true source t e))

-- the node of this block is the next of the view's scan of its nearest source, which stands at i
pub record Next (s : State) (v : View) (source : SourceRef) (b n : ℕ) : Type 0 where
  pub i : ℕ
  pub at : v.scan source ≡ Some i
  pub near : nearest_of s (name_of s b n) ≡ Some source
  pub next : is_next s source i (name_of s b n) ≡ true
  pub node : n < size s

pub next_of : (s : State) (v : View) (source : SourceRef) (b n : ℕ) → n < size s →
    is_next_in s v source (name_of s b n) ≡ true → Next s v source b n
next_of s v source b n l next =
    let x : Name = name_of s b n in
    let at = map_or-some (λ i. is_next s source i x) (v.scan source) next in
    let for_x : is_nearest s source x ≡ true = (and_parts _ _ at.2).0 in
    record {
      i = at.0;
      at = at.1;
      next = at.2;
      node = l;
      near = for_nearest source (nearest_of s x) for_x;
    }

pub place-node : (s : State) (p : Place) → is_place s p ≡ true → p.node < size s
place-node s p e = ltb-true _ _ (and_parts _ _ e).1

-- a place that the hand runs, and whose source it scans with another place as the next, is not the source's
pub runs-other : (s : State) (h : ℕ) (source : SourceRef) (b n : ℕ) → Sound s → h < s.hands →
    Next s (s.view h) source b n → (y : Name) → 1 ≤ (s.view h).runs y →
    nearest_of s y ≡ Some source →
    y ≡ name_of s b n
runs-other s h source b n sound l g y run near =
    next-one s source g.i b n y g.node (running-live s y (runs-running s h y sound.runs l run)) g.next
    (next-at s (s.view h) source y g.i near g.at (sound.runs.next h y l run))

pub next-of : (s : State) (v : View) (source : SourceRef) (b n : ℕ) → Next s v source b n →
    is_next_of_nearest s v (name_of s b n) ≡ true
next-of s v source b n g =
    let x : Name = name_of s b n in
    subst (λ o. option_map_or (λ t. is_next_in s v t x) o false ≡ true) (sym g.near)
    (subst (λ o. option_map_or (λ i. is_next s source i x) o false ≡ true) (sym g.at) g.next)

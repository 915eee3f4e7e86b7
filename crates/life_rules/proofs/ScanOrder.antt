-- The order of a scan: numbers of places, the next place, and what lies behind.
use Rattle.std.specs.Prelude.{nat_le, length}
use Rattle.std.specs.Option.{option_map_or}
use Rattle.std.proofs.Math.Path.{fun_ext}
use Rattle.std.proofs.Common.{◌≡◌, ℕ, zero, suc, ◌+◌, ◌-◌, ◌*◌, ◌/◌, ◌%◌, ◌<◌, ◌≤◌, true, false, not, ◌&&◌, refl, sym, ap, ap₂, ◌∙◌, subst, inl, inr, arith}
use Rattle.std.proofs.lemmas.Nat.{div-mul-add, mod-mul-add, mul-add-lt, same_from_place}
use Rattle.std.proofs.lemmas.Bool.{and_parts, not-true, leb-true, cases_lt, cases_eq, both_ways}
use Rattle.life_rules.specs.declared.event.Name.{Name}
use Rattle.life_rules.specs.declared.event.SourceRef.{SourceRef}
use Rattle.node_tree.specs.Tree.{nearest}
use Rattle.life_rules.specs.Views.{View, same_source}
use Rattle.life_rules.specs.States.{State, size, name_of, is_live, source_for}
use Rattle.life_rules.specs.Scans.{index, end, place_at, is_nearest, has_none, is_next, is_next_in, is_past_all}
use Rattle.life_rules.specs.Callbacks.{is_next_of_nearest}
use Rattle.life_rules.proofs.Readings.{lives, name_of-live, live_unique}

pub has_none-at : (s : State) (source : SourceRef) (i count j : ℕ) → has_none s source i count ≡ true →
    i ≤ j → j < i + count → is_nearest s source (place_at s j) ≡ false
unfolding has_none
has_none-at s source i zero j h l m = absurd (omega (arith, l, m))
has_none-at s source i (suc count) j h l m =
    let parts = and_parts _ _ h in
    elim (cases_eq i j) [
      | inl at ↦ subst (λ k. is_nearest s source (place_at s k) ≡ false) at (not-true _ parts.0)
      | inr past ↦ has_none-at s source (suc i) count j parts.1 (omega arith) (omega arith)
    ]

-- a place's number leads back to it
pub place_at-index : (s : State) (b n : ℕ) → n < size s →
    place_at s (index s (name_of s b n)) ≡ name_of s b n
place_at-index s b n l =
    let row : (b * size s + n) / size s ≡ b = div-mul-add b (size s) n l in
    let column : (b * size s + n) % size s ≡ n = mod-mul-add b (size s) n l in
    λ i. name_of s (row i) (column i)

pub place_at-live : (s : State) (x : Name) → is_live s x ≡ true → place_at s (index s x) ≡ x
place_at-live s x l =
    let now : name_of s x.block x.node ≡ x = name_of-live s x l in
    ap (λ y. place_at s (index s y)) (sym now)
    ∙ place_at-index s x.block x.node (lives s x l).node
    ∙ now

pub index-end : (s : State) (x : Name) → is_live s x ≡ true → index s x < end s
index-end s x l =
    let a = lives s x l in
    mul-add-lt x.block (size s) x.node s.blocks a.block a.node

-- no place of the source lies between a number and the next place from there on
pub next-first : (s : State) (source : SourceRef) (i : ℕ) (x y : Name) → is_next s source i x ≡ true →
    is_live s y ≡ true → is_nearest s source y ≡ true → i ≤ index s y → index s x ≤ index s y
next-first s source i x y next l for_y from =
    let a = and_parts (is_nearest s source x) _ next in
    let b = and_parts (nat_le i (index s x)) _ a.1 in
    let start : i ≤ index s x = leb-true _ _ b.0 in
    elim (cases_lt (index s y) (index s x)) [
      | inl before ↦
          let within : index s y < i + (index s x - i) = omega (arith, before, start) in
          let none : is_nearest s source (place_at s (index s y)) ≡ false =
          has_none-at s source i (index s x - i) (index s y) b.1 from within in
          let same : is_nearest s source y ≡ false =
          subst (λ z. is_nearest s source z ≡ false) (place_at-live s y l) none in
          absurd (both_ways _ same for_y)
      | inr behind ↦ behind
    ]

-- two live places that are next are one
pub next-same : (s : State) (source : SourceRef) (i : ℕ) (x y : Name) → is_live s x ≡ true →
    is_live s y ≡ true → is_next s source i x ≡ true → is_next s source i y ≡ true → x ≡ y
next-same s source i x y lx ly nx ny =
    let ax = and_parts _ _ nx in
    let ay = and_parts _ _ ny in
    let from_x : i ≤ index s x = leb-true _ _ (and_parts _ _ ax.1).0 in
    let from_y : i ≤ index s y = leb-true _ _ (and_parts _ _ ay.1).0 in
    let up : index s x ≤ index s y = next-first s source i x y nx ly ay.0 from_y in
    let down : index s y ≤ index s x = next-first s source i y x ny lx ax.0 from_x in
    let at : index s x ≡ index s y = omega arith in
    let place = same_from_place x.block x.node y.block y.node (size s) (lives s x lx).node (lives s y ly).node at in
    live_unique s x y lx ly place.0 place.1

-- where no place of the source is left, each live one lies behind
pub past_all-behind : (s : State) (source : SourceRef) (i : ℕ) (x : Name) →
    is_past_all s source i ≡ true → is_live s x ≡ true → is_nearest s source x ≡ true → index s x < i
past_all-behind s source i x past l for_x =
    elim (cases_lt (index s x) i) [
      | inl behind ↦ behind
      | inr ahead ↦
          let within : index s x < end s = index-end s x l in
          let none : is_nearest s source (place_at s (index s x)) ≡ false =
          has_none-at s source i (end s - i) (index s x) past ahead (omega arith) in
          let same : is_nearest s source x ≡ false =
          subst (λ z. is_nearest s source z ≡ false) (place_at-live s x l) none in
          absurd (both_ways _ same for_x)
    ]

-- where each place is the same source's in both states, so are the stretches with none
pub has_none-frame : (s t : State) (source : SourceRef) (i count : ℕ) →
    ((j : ℕ) → is_nearest t source (place_at t j) ≡ is_nearest s source (place_at s j)) →
    has_none t source i count ≡ has_none s source i count
unfolding has_none
has_none-frame s t source i zero e = refl
has_none-frame s t source i (suc count) e =
    ap₂ (λ a b. not a && b) (e i) (has_none-frame s t source (suc i) count e)

-- The order of a scan depends on the tree and on the blocks' generations alone.
module _ (s t : State) (tree : t.tree ≡ s.tree)
    (generations : (b : ℕ) → (t.block b).generation ≡ (s.block b).generation) where
  pub place_at-frame : (j : ℕ) → place_at t j ≡ place_at s j
  place_at-frame j =
      let block : j / size t ≡ j / size s = ap (λ nodes. j / length nodes) tree in
      let node : j % size t ≡ j % size s = ap (λ nodes. j % length nodes) tree in
      let generation : (t.block (j / size t)).generation ≡ (s.block (j / size s)).generation =
      generations (j / size t) ∙ ap (λ b. (s.block b).generation) block in
      λ k. record { block = block k; generation = generation k; node = node k }

  pub is_nearest-frame : (source : SourceRef) (x : Name) → is_nearest t source x ≡ is_nearest s source x
  is_nearest-frame source x =
      ap (λ nodes. option_map_or (same_source source) (source_for x (nearest nodes x.node)) false) tree

  pub is_next-frame : (source : SourceRef) (i : ℕ) (x : Name) → is_next t source i x ≡ is_next s source i x
  is_next-frame source i x =
      let at : index t x ≡ index s x = ap (λ nodes. x.block * length nodes + x.node) tree in
      let none : (count : ℕ) → has_none t source i count ≡ has_none s source i count =
      λ count. has_none-frame s t source i count (λ j.
      is_nearest-frame source (place_at t j) ∙ ap (is_nearest s source) (place_at-frame j)) in
      ap₂ ◌&&◌ (is_nearest-frame source x)
      (ap₂ ◌&&◌ (ap (nat_le i) at)
      (none (index t x - i) ∙ ap (λ n. has_none s source i (n - i)) at))

  -- of views that scan alike, one has x as the next place exactly where the other has
  pub is_next_in-frame : (v w : View) (source : SourceRef) (x : Name) → w.scan source ≡ v.scan source →
      is_next_in t w source x ≡ is_next_in s v source x
  is_next_in-frame v w source x scan =
      ap₂ (λ f o. option_map_or f o false) (fun_ext (λ i. is_next-frame source i x)) scan

  pub is_next_of_nearest-frame : (v w : View) (x : Name) →
      ((source : SourceRef) → w.scan source ≡ v.scan source) →
      is_next_of_nearest t w x ≡ is_next_of_nearest s v x
  is_next_of_nearest-frame v w x scan =
      ap₂ (λ f o. option_map_or f o false)
      (fun_ext (λ source. is_next_in-frame v w source x (scan source)))
      (ap (λ nodes. source_for x (nearest nodes x.node)) tree)

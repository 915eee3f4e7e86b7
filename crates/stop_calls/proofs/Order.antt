-- Which places of a source a scan has still before it.
use Rattle.std.proofs.Common.{◌≡◌, ℕ, zero, suc, ◌+◌, ◌-◌, ◌*◌, ◌/◌, ◌%◌, ◌<◌, ◌≤◌, true, false, not, ◌&&◌, ◌||◌, ◌==◌, List, [], ◌∷◌, length, refl, sym, ap, ◌∙◌, subst, arith, ◌⊎◌, inl, inr}
use Rattle.std.specs.Prelude.{nat_le, nat_lt}
use Rattle.std.specs.List.{list_any}
use Rattle.std.proofs.lemmas.Bool.{and_from, and_parts, both_ways, eqb-true, le-leb, leb-true, leb-false, ltb-true, ltb-false}
use Rattle.std.proofs.lemmas.Nat.{div-add-mod', mod_below, mul-le, row_fits}
use Rattle.node_tree.specs.declared.node.TreeNode.{TreeNode}
use Rattle.life_rules.specs.declared.event.Name.{Name}
use Rattle.life_rules.specs.declared.event.SourceRef.{SourceRef}
use Rattle.common_lemmas.proofs.Bool.{either}
use Rattle.table_steps.specs.ScanOrders.{hears, none_hears, is_next_place}
use Rattle.stop_calls.specs.declared.scanning.Scan.{Scan}
use Rattle.stop_calls.specs.Cursors.{cursor, NoneBetween, NoneHears}
use Rattle.stop_calls.specs.Searches.{NoneInBlock}

-- a place below the next block's first, and not below this one's, is of this block
pub same-block : (s a b n : ℕ) → n < s → b * s ≤ a * s + n → a * s + n < (b + 1) * s → a ≡ b
same-block s a b n within above below =
    either (nat_lt a b)
    (λ t.
    let less : a < b = ltb-true a b t in
    let row : a * s + s ≤ b * s = row_fits a s b s less (omega arith) in
    absurd (omega (arith, row)))
    (λ f.
    let least : b ≤ a = ltb-false a b f in
    either (nat_lt b a)
    (λ t.
    let more : b + 1 ≤ a = let k = ltb-true b a t in omega (arith, k) in
    let row : (b + 1) * s ≤ a * s = mul-le (b + 1) s a s more (omega arith) in
    absurd (omega (arith, row)))
    (λ g. let most : a ≤ b = ltb-false b a g in omega (arith, least, most)))

-- where something is below a product, its first factor isn't 0
factor : (s blocks i : ℕ) → i < s * blocks → 0 < s
factor zero blocks i h = absurd (omega (arith, h))
factor (suc s) blocks i h = omega arith

module _ (tree : List TreeNode) (source : SourceRef) where
  pub none-hears : (i count : ℕ) → 0 < length tree → NoneBetween tree source i (i + count) → none_hears tree source i count ≡ true
  none-hears i zero some none = refl
  none-hears i (suc count) some none =
      let whole : i / length tree * length tree + i % length tree ≡ i = div-add-mod' i (length tree) in
      let here = none (i / length tree) (i % length tree) (mod_below i (length tree) some) (omega (arith, whole)) (omega (arith, whole)) in
      let rest = none-hears (suc i) count some (λ b n within from to. none b n within (omega (arith, from)) (omega (arith, to))) in
      and_from (not (hears tree source (i / length tree) (i % length tree))) (none_hears tree source (suc i) count) (ap not here) rest

  -- none is left before the end
  pub none-past : (i blocks : ℕ) → NoneBetween tree source i (length tree * blocks) →
      none_hears tree source i (length tree * blocks - i) ≡ true
  none-past i blocks none =
      let end : ℕ = length tree * blocks in
      either (nat_le end i)
      (λ t.
      let gone : 0 ≡ end - i = let k = leb-true end i t in omega (arith, k) in
      subst (λ k. none_hears tree source i k ≡ true) gone refl)
      (λ f.
      let left : i < end = leb-false end i f in
      let e : i + (end - i) ≡ end = omega (arith, left) in
      none-hears i (end - i) (factor (length tree) blocks i left) (subst (NoneBetween tree source i) (sym e) none))

  -- the first place that hears the source is the next of the scan
  pub is-next : (i block node : ℕ) → node < length tree → hears tree source block node ≡ true →
      i ≤ block * length tree + node → NoneBetween tree source i (block * length tree + node) →
      is_next_place tree source i block node ≡ true
  is-next i block node within heard from none =
      let place : ℕ = block * length tree + node in
      let e : i + (place - i) ≡ place = omega arith in
      and_from (hears tree source block node) _ heard
      (and_from (nat_le i place) _ (le-leb i place from)
      (none-hears i (place - i) (omega arith) (subst (NoneBetween tree source i) (sym e) none)))

  -- a place that hears the source isn't of those that don't
  pub unrun : (runs : List Name) (block node : ℕ) → NoneHears tree source runs → hears tree source block node ≡ true →
      list_any (λ y. y.block == block && y.node == node) runs ≡ false
  unrun [] block node none heard = refl
  unrun (y ∷ ys) block node none heard =
      either (y.block == block && y.node == node)
      (λ t.
      let parts = and_parts (y.block == block) (y.node == node) t in
      let b : y.block ≡ block = eqb-true y.block block parts.0 in
      let n : y.node ≡ node = eqb-true y.node node parts.1 in
      absurd (both_ways _ none.0 (ap (λ k. hears tree source k y.node) b ∙ ap (hears tree source block) n ∙ heard)))
      (λ f. ap (λ z. z || list_any (λ z. z.block == block && z.node == node) ys) f ∙ unrun ys block node none.1 heard)

  -- none between i and j, and none between j and k
  pub none-on : (i j k : ℕ) → NoneBetween tree source i j → NoneBetween tree source j k → NoneBetween tree source i k
  none-on i j k first second b n within from to =
      either (nat_le j (b * length tree + n))
      (λ t. second b n within (leb-true j (b * length tree + n) t) to)
      (λ f. first b n within from (leb-false j (b * length tree + n) f))

  -- one block more has none
  pub none-block : (i block from : ℕ) → NoneBetween tree source i (block * length tree) →
      ((n : ℕ) → i ≤ block * length tree + n → from ≤ n) →
      NoneInBlock tree source block from (length tree) → NoneBetween tree source i ((block + 1) * length tree)
  none-block i block from before low none b n within at to =
      let place : ℕ = b * length tree + n in
      either (nat_le (block * length tree) place)
      (λ t.
      let is : b ≡ block = same-block (length tree) b block n within (leb-true (block * length tree) place t) to in
      let at_block : i ≤ block * length tree + n = subst (λ k. i ≤ k * length tree + n) is at in
      subst (λ k. hears tree source k n ≡ false) (sym is) (none n (low n at_block) within))
      (λ f. before b n within at (leb-false (block * length tree) place f))

  -- nor does a part of it
  pub none-within : (i block from last : ℕ) → last ≤ length tree → NoneBetween tree source i (block * length tree) →
      ((n : ℕ) → i ≤ block * length tree + n → from ≤ n) →
      NoneInBlock tree source block from last → NoneBetween tree source i (block * length tree + last)
  none-within i block from last most before low none b n within at to =
      let place : ℕ = b * length tree + n in
      either (nat_le (block * length tree) place)
      (λ t.
      let least : block * length tree ≤ b * length tree + n = leb-true (block * length tree) place t in
      let row : block * length tree + length tree ≤ (block + 1) * length tree =
      row_fits block (length tree) (block + 1) (length tree) (omega arith) (omega arith) in
      let is : b ≡ block = same-block (length tree) b block n within least (omega (arith, row, to, most)) in
      let same_row : b * length tree ≡ block * length tree = ap (λ k. k * length tree) is in
      let at_block : i ≤ block * length tree + n = omega (arith, same_row, at) in
      subst (λ k. hears tree source k n ≡ false) (sym is) (none n (low n at_block) (omega (arith, same_row, to))))
      (λ f. before b n within at (leb-false (block * length tree) place f))

-- The node from which a scan looks at a block: where it stands in its own, and 0 in a later one.
module _ (tree : List TreeNode) (scan : Scan) (block from : ℕ) (ahead : scan.block ≤ block) (is : ((block ≡ scan.block) × (from ≡ scan.node)) ⊎ ((block ≡ scan.block → ⊥) × (from ≡ 0))) where
  pub from-low : (n : ℕ) → cursor tree scan ≤ block * length tree + n → from ≤ n
  from-low n at =
      elim is [
        | inl own ↦
            let row : block * length tree ≡ scan.block * length tree = ap (λ k. k * length tree) own.0 in
            let node : from ≡ scan.node = own.1 in
            omega (arith, row, node, at)
        | inr later ↦ let first : from ≡ 0 = later.1 in omega (arith, first)
      ]

  pub from-high : scan.node ≤ length tree → (n : ℕ) → from ≤ n → cursor tree scan ≤ block * length tree + n
  from-high inside n least =
      elim is [
        | inl own ↦
            let row : block * length tree ≡ scan.block * length tree = ap (λ k. k * length tree) own.0 in
            let node : from ≡ scan.node = own.1 in
            omega (arith, row, node, least)
        | inr later ↦
            let other : block ≡ scan.block → ⊥ = later.0 in
            let below : scan.block < block = omega (arith, other, ahead) in
            let row : scan.block * length tree + length tree ≤ block * length tree =
            row_fits scan.block (length tree) block (length tree) below (omega arith) in
            omega (arith, row, inside)
      ]

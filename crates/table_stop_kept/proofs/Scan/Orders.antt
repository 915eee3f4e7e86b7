-- The order in which a hand's scan passes places is that of the pure machine.
use Rattle.std.proofs.Common.{◌≡◌, ℕ, zero, suc, ◌-◌, ◌/◌, ◌%◌, Bool, true, false, not, ◌&&◌, ◌==◌, refl, sym, ap, ap₂, ◌∙◌}
use Rattle.std.specs.Prelude.{nat_le}
use Rattle.std.specs.Option.{option_map_or}
use Rattle.std.proofs.lemmas.Bool.{eqb-true, eq-eqb}
use Rattle.life_rules.specs.declared.event.Name.{Name}
use Rattle.life_rules.specs.declared.event.SourceRef.{SourceRef}
use Rattle.life_rules.specs.declared.event.SourceRef.TheVariants.{Scope, Node}
use Rattle.node_tree.specs.Tree.{Nearest, TheScope, TheNode, Nowhere, nearest}
use Rattle.life_rules.specs.Views.{same_source}
use Rattle.life_rules.specs.States.{State, size, name_of, source_for}
use Rattle.life_rules.specs.Scans.{index, is_nearest, has_none, is_next}
use Rattle.common_lemmas.proofs.Bool.{either, eqb-sym}
use Rattle.table_steps.specs.ScanOrders.{is_the_scope, is_the_node, hears, none_hears, is_next_place}

and-no : (a : Bool) → (a && false) ≡ false
and-no true = refl
and-no false = refl

-- the source is the scope's, or of a node of its block's present generation
abbrev pub IsPresentIn : State → SourceRef → Type 0
IsPresentIn s Scope = Unit {0}
IsPresentIn s (Node y) = y.generation ≡ (s.block y.block).generation

module _ (s : State) where
  scope-heard : (x : Name) (k : Nearest) → option_map_or (same_source Scope) (source_for x k) false ≡ is_the_scope k
  scope-heard x TheScope = refl
  scope-heard x (TheNode p) = refl
  scope-heard x Nowhere = refl

  node-heard : (y : Name) → y.generation ≡ (s.block y.block).generation → (b n : ℕ) (k : Nearest) →
      option_map_or (same_source (Node y)) (source_for (name_of s b n) k) false ≡ (b == y.block && is_the_node y.node k)
  node-heard y now b n TheScope = sym (and-no (b == y.block))
  node-heard y now b n Nowhere = sym (and-no (b == y.block))
  node-heard y now b n (TheNode p) =
      either (y.block == b)
      (λ t.
      let block : y.block ≡ b = eqb-true y.block b t in
      let generation : (y.generation == (s.block b).generation) ≡ true =
      eq-eqb _ _ (now ∙ ap (λ j. (s.block j).generation) block) in
      (λ k. eqb-sym y.block b k && (generation k && eqb-sym y.node p k)))
      (λ ne.
      let other : (b == y.block) ≡ false = eqb-sym b y.block ∙ ne in
      (λ k. ne k && ((y.generation == (s.block b).generation) && (y.node == p)))
      ∙ sym (ap (λ z. z && (p == y.node)) other))

  pub heard : (source : SourceRef) → IsPresentIn s source → (b n : ℕ) → is_nearest s source (name_of s b n) ≡ hears s.tree source b n
  heard Scope now b n = scope-heard (name_of s b n) (nearest s.tree n)
  heard (Node y) now b n = node-heard y now b n (nearest s.tree n)

  pub none-heard : (source : SourceRef) → IsPresentIn s source → (i count : ℕ) → has_none s source i count ≡ none_hears s.tree source i count
  unfolding has_none
  none-heard source now i zero = refl
  none-heard source now i (suc count) =
      ap₂ (λ a b. not a && b) (heard source now (i / size s) (i % size s)) (none-heard source now (suc i) count)

  pub next-place : (source : SourceRef) → IsPresentIn s source → (i b n : ℕ) → is_next s source i (name_of s b n) ≡ is_next_place s.tree source i b n
  next-place source now i b n =
      ap₂ (λ a c. a && (nat_le i (index s (name_of s b n)) && c)) (heard source now b n)
      (none-heard source now i (index s (name_of s b n) - i))

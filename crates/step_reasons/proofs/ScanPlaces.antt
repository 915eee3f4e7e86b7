-- Where a scan goes on.
use Rattle.std.proofs.Common.{◌≡◌, ℕ, zero, suc, ◌+◌, ◌-◌, ◌*◌, ◌/◌, ◌%◌, ◌<◌, ◌≤◌, Bool, true, false, cond, not, ◌&&◌, ◌||◌, eqb, length, Option, None, Some, refl, sym, ap, ◌∙◌, subst, inl, inr, arith}
use Rattle.std.specs.Prelude.{is_some, nat_lt, nat_le, ◌==◌}
use Rattle.std.specs.Option.{option_map_or}
use Rattle.std.proofs.lemmas.Bool.{and_parts, and_from, leb-true, le-leb, ltb-true, lt-ltb, eqb-true, eq-eqb, not-true, not_from_false, cases_lt, cases_eq, both_ways, false≢true, false_from_ne_true}
use Rattle.std.proofs.lemmas.Nat.{mul-add-lt, same_from_place}
use Rattle.std.proofs.Math.Nat.{mul-le-mul_left}
use Rattle.common_lemmas.proofs.Bool.{either}
use Rattle.common_lemmas.proofs.Options.{map_or-some}
use Rattle.life_rules.proofs.ScanOrder.{has_none-at, place_at-index}
use Rattle.life_rules.proofs.Names.{same_source-true}
use Rattle.life_rules.specs.Sound.{Sound}
use Rattle.life_rules.specs.declared.event.Name.{Name}
use Rattle.life_rules.specs.declared.event.Place.{Place}
use Rattle.life_rules.specs.declared.event.SourceAt.{SourceAt}
use Rattle.life_rules.specs.declared.event.SourceAt.TheVariants.{Scope, At}
use Rattle.life_rules.specs.declared.event.SourceRef.{SourceRef}
use Rattle.life_rules.specs.Scans.{index, end, has_none, is_nearest, is_next, is_next_in, is_past_all, place_at}
use Rattle.life_rules.specs.States.{State, size, is_place, name_of, name_at, nearest_of, source_for}
use Rattle.life_rules.specs.StopSteps.{source_of, some_below}
use Rattle.life_rules.specs.Views.{same_source, same, beside, is_scanning}
use Rattle.node_tree.proofs.Walk.{nearest-source}
use Rattle.node_tree.specs.Tree.{Nearest, TheScope, TheNode, Nowhere, nearest}
use Rattle.step_reasons.specs.Scanning.{at_is, place_of, source_named, nearest_source, is_known, scans, next_node, has_next, next_block, next_place}
use Rattle.step_reasons.specs.Standings.{first_below}
use Rattle.step_reasons.proofs.Firsts.{first-is, first-only, first-some}

-- places of one block are of one generation
same-beside : (s : State) (q p : Place) (m : ℕ) → same (name_at s q) (beside (name_at s p) m) ≡ (q.block == p.block && q.node == m)
same-beside s q p m =
    either (q.block == p.block)
    (λ t.
    let generation : ((s.block q.block).generation == (s.block p.block).generation) ≡ true =
    eq-eqb _ _ (ap (λ b. (s.block b).generation) (eqb-true q.block p.block t)) in
    ap (λ b. (q.block == p.block) && (b && (q.node == m))) generation)
    (λ f.
    ap (λ b. b && (((s.block q.block).generation == (s.block p.block).generation) && (q.node == m))) f
    ∙ sym (ap (λ b. b && (q.node == m)) f))

near-named : (s : State) (p : Place) (at : SourceAt) (n : Nearest) → option_map_or (same_source (source_of s at)) (source_for (name_at s p) n) false ≡ at_is at (source_named p.block n)
near-named s p Scope TheScope = refl
near-named s p Scope (TheNode m) = refl
near-named s p Scope Nowhere = refl
near-named s p (At q) TheScope = refl
near-named s p (At q) (TheNode m) = same-beside s q p m
near-named s p (At q) Nowhere = refl

-- whether the source is a place's nearest, by its name
pub near-test : (s : State) (p : Place) (at : SourceAt) → is_nearest s (source_of s at) (name_at s p) ≡ at_is at (nearest_source s p)
near-test s p at = near-named s p at (nearest s.tree p.node)

known-named : (s : State) (p : Place) (at : SourceAt) (n : Nearest) → nearest s.tree p.node ≡ n → is_place s p ≡ true → at_is at (source_named p.block n) ≡ true → is_known s at ≡ true
known-named s p Scope n is there e = refl
known-named s p (At q) TheScope is there e = cc
known-named s p (At q) (TheNode m) is there e =
    let parts = and_parts (q.block == p.block) (q.node == m) e in
    let block : q.block ≡ p.block = eqb-true q.block p.block parts.0 in
    let node : q.node ≡ m = eqb-true q.node m parts.1 in
    and_from (nat_lt q.block s.blocks) (nat_lt q.node (size s))
    (ap (λ b. nat_lt b s.blocks) block ∙ (and_parts (nat_lt p.block s.blocks) _ there).0)
    (ap (λ n. nat_lt n (size s)) node ∙ lt-ltb m (size s) (nearest-source s.tree p.node m is).1)
known-named s p (At q) Nowhere is there e = cc

-- the nearest source of a place that is there is there
pub near-known : (s : State) (p : Place) (at : SourceAt) → is_place s p ≡ true → is_nearest s (source_of s at) (name_at s p) ≡ true → is_known s at ≡ true
near-known s p at there near = known-named s p at (nearest s.tree p.node) refl there (sym (near-test s p at) ∙ near)

-- a scan that has a next place stands
pub next-scans : (s : State) (h : ℕ) (source : SourceRef) (x : Name) → is_next_in s (s.view h) source x ≡ true → is_scanning (s.view h) source ≡ true
next-scans s h source x next =
    let found = map_or-some (λ i. is_next s source i x) ((s.view h).scan source) next in
    ap is_some found.1

-- and the place hears its source
pub next-near : (s : State) (h : ℕ) (source : SourceRef) (x : Name) → is_next_in s (s.view h) source x ≡ true → is_nearest s source x ≡ true
next-near s h source x next =
    let found = map_or-some (λ i. is_next s source i x) ((s.view h).scan source) next in
    (and_parts (is_nearest s source x) _ found.2).0

div-mod : (i n : ℕ) → 0 < n → (i / n) * n + i % n ≡ i
div-mod i n some = omega (arith, some)

some-size : (i n blocks : ℕ) → i < n * blocks → 0 < n
some-size i zero blocks below = absurd (omega (arith, below))
some-size i (suc n) blocks below = omega arith

-- a callback that a hand runs is the next of its scan of the nearest source, and of no other
pub running-next : (s : State) (h : ℕ) (at : SourceRef) (x : Name) → Sound s → h < s.hands → 1 ≤ (s.view h).runs x → is_nearest s at x ≡ is_next_in s (s.view h) at x
running-next s h at x sound below runs =
    let found = map_or-some (λ source. is_next_in s (s.view h) source x) (nearest_of s x) (sound.runs.next h x below runs) in
    either (is_nearest s at x)
    (λ near.
    let heard = map_or-some (same_source at) (nearest_of s x) near in
    let both : Some heard.0 ≡ Some found.0 = sym heard.1 ∙ found.1 in
    let one : heard.0 ≡ found.0 = cc in
    let same : at ≡ found.0 = same_source-true at heard.0 heard.2 ∙ one in
    near ∙ sym (ap (λ (source : SourceRef). is_next_in s (s.view h) source x) same ∙ found.2))
    (λ far. far ∙ sym (false_from_ne_true (is_next_in s (s.view h) at x) (λ next. both_ways (is_nearest s at x) far (next-near s h at x next))))

-- a number is that of its place
pub index-place : (s : State) (i : ℕ) → i < end s → index s (place_at s i) ≡ i
index-place s i l =
    let some : 0 < size s = some-size i (size s) s.blocks l in
    div-mod i (size s) some

-- no place lies before the next
no-earlier : (s : State) (source : SourceRef) (from i j : ℕ) → i < end s → j < end s → is_next s source from (place_at s i) ≡ true → is_next s source from (place_at s j) ≡ true → i < j → ⊥
no-earlier s source from i j in_i in_j next_i next_j before =
    let near = and_parts (is_nearest s source (place_at s i)) _ next_i in
    let start = leb-true from _ (and_parts (nat_le from (index s (place_at s i))) _ near.1).0 in
    let later = and_parts (is_nearest s source (place_at s j)) _ next_j in
    let none = (and_parts (nat_le from (index s (place_at s j))) _ later.1).1 in
    let at_i = index-place s i in_i in
    let at_j = index-place s j in_j in
    let from_i : from ≤ i = omega (arith, start, at_i) in
    let within : i < from + (index s (place_at s j) - from) = omega (arith, at_j, before, from_i) in
    both_ways (is_nearest s source (place_at s i)) (has_none-at s source from (index s (place_at s j) - from) i none from_i within) near.0

one-next : (s : State) (source : SourceRef) (from i j : ℕ) → i < end s → j < end s → is_next s source from (place_at s i) ≡ true → is_next s source from (place_at s j) ≡ true → j ≡ i
one-next s source from i j in_i in_j next_i next_j =
    elim (cases_lt i j) [
      | inl before ↦ absurd (no-earlier s source from i j in_i in_j next_i next_j before)
      | inr not_before ↦ elim (cases_lt j i) [
        | inl after ↦ absurd (no-earlier s source from j i in_j in_i next_j next_i after)
        | inr not_after ↦ omega arith
      ]
    ]

some-same : (a b : ℕ) (o : Option ℕ) → o ≡ Some a → o ≡ Some b → a ≡ b
some-same a b o one other = let both : Some a ≡ Some b = sym one ∙ other in cc

-- of all numbers one is that of the next place
one-next_in : (s : State) (h : ℕ) (source : SourceRef) (i j : ℕ) → i < end s → j < end s → is_next_in s (s.view h) source (place_at s i) ≡ true → is_next_in s (s.view h) source (place_at s j) ≡ true → j ≡ i
one-next_in s h source i j in_i in_j next_i next_j =
    let a = map_or-some (λ k. is_next s source k (place_at s i)) ((s.view h).scan source) next_i in
    let b = map_or-some (λ k. is_next s source k (place_at s j)) ((s.view h).scan source) next_j in
    let from : b.0 ≡ a.0 = some-same b.0 a.0 _ b.1 a.1 in
    one-next s source a.0 i j in_i in_j a.2 (subst (λ (k : ℕ). is_next s source k (place_at s j) ≡ true) from b.2)

none-some : (p : Place) → ◌≡◌ {A = Option Place} None (Some p) → ⊥
none-some p e = cc

-- a number's row is one of the rows
div-below : (i n blocks : ℕ) → i < n * blocks → i / n < blocks
div-below i n blocks below =
    elim (cases_lt (i / n) blocks) [
      | inl within ↦ within
      | inr past ↦
          let some : 0 < n = some-size i n blocks below in
          let whole : n * (i / n) ≤ i = omega (arith, some) in
          let all : n * blocks ≤ n * (i / n) = mul-le-mul_left n past in
          absurd (omega (arith, below, whole, all))
    ]

-- two next places are one
one-place : (s : State) (h : ℕ) (source : SourceRef) (b n c m : ℕ) → b < s.blocks → n < size s → c < s.blocks → m < size s → is_next_in s (s.view h) source (name_of s b n) ≡ true → is_next_in s (s.view h) source (name_of s c m) ≡ true → (c ≡ b) × (m ≡ n)
one-place s h source b n c m block node block_c node_m next next_c =
    let i = b * size s + n in
    let j = c * size s + m in
    let in_i : i < end s = mul-add-lt b (size s) n s.blocks block node in
    let in_j : j < end s = mul-add-lt c (size s) m s.blocks block_c node_m in
    let at_i = ap (is_next_in s (s.view h) source) (place_at-index s b n node) ∙ next in
    let at_j = ap (is_next_in s (s.view h) source) (place_at-index s c m node_m) ∙ next_c in
    let number : j ≡ i = one-next_in s h source i j in_i in_j at_i at_j in
    same_from_place c m b n (size s) node_m node number

-- a next place is found
pub next-found : (s : State) (h : ℕ) (at : SourceAt) (p : Place) → is_place s p ≡ true → is_next_in s (s.view h) (source_of s at) (name_at s p) ≡ true → next_place s h at ≡ Some p
next-found s h at p there next =
    let source = source_of s at in
    let parts = and_parts (nat_lt p.block s.blocks) (nat_lt p.node (size s)) there in
    let node : p.node < size s = ltb-true p.node (size s) parts.1 in
    let block : p.block < s.blocks = ltb-true p.block s.blocks parts.0 in
    let test : ℕ → Bool = λ m. is_next_in s (s.view h) source (name_of s p.block m) in
    let first : next_node s h at p.block ≡ p.node =
    first-only test (size s) p.node node next (λ m below passes. (one-place s h source p.block p.node p.block m block node block below next passes).1) in
    let has : has_next s h at p.block ≡ true = ap (λ n. nat_lt n (size s)) first ∙ parts.1 in
    let number : next_block s h at ≡ p.block =
    first-only (has_next s h at) s.blocks p.block block has
    (λ c below passes.
    let m = next_node s h at c in
    let within : m < size s = ltb-true m (size s) passes in
    let other : is_next_in s (s.view h) source (name_of s c m) ≡ true = first-is (λ k. is_next_in s (s.view h) source (name_of s c k)) (size s) within in
    (one-place s h source p.block p.node c m block node below within next other).0) in
    ap (λ b. cond (nat_lt b s.blocks) (Some (place_of b (next_node s h at b))) None) number
    ∙ ap (λ b. cond b (Some (place_of p.block (next_node s h at p.block))) None) parts.0
    ∙ ap (λ n. Some (place_of p.block n)) first

-- a place that is found is next, and has a number
pub record IsFound (s : State) (h : ℕ) (at : SourceAt) (p : Place) : Type 0 where
  pub number : ℕ
  pub within : number < end s
  pub is : name_at s p ≡ place_at s number
  pub next : is_next_in s (s.view h) (source_of s at) (name_at s p) ≡ true

pub found-next : (s : State) (h : ℕ) (at : SourceAt) (p : Place) → next_place s h at ≡ Some p → IsFound s h at p
found-next s h at p found =
    let b = next_block s h at in
    let n = next_node s h at b in
    let place = place_of b n in
    either (nat_lt b s.blocks)
    (λ t.
    let some : Some place ≡ Some p = sym (ap (λ r. cond r (Some place) None) t) ∙ found in
    let same : place ≡ p = cc in
    let block : b < s.blocks = ltb-true b s.blocks t in
    let has : has_next s h at b ≡ true = first-is (has_next s h at) s.blocks block in
    let node : n < size s = ltb-true n (size s) has in
    let passes : is_next_in s (s.view h) (source_of s at) (name_of s b n) ≡ true =
    first-is (λ m. is_next_in s (s.view h) (source_of s at) (name_of s b m)) (size s) node in
    let named : name_at s p ≡ name_of s b n = ap (name_at s) (sym same) in
    record {
      number = b * size s + n;
      within = mul-add-lt b (size s) n s.blocks block node;
      is = named ∙ sym (place_at-index s b n node);
      next = ap (is_next_in s (s.view h) (source_of s at)) named ∙ passes;
    })
    (λ f. let none : ◌≡◌ {A = Option Place} None (Some p) = sym (ap (λ r. cond r (Some place) None) f) ∙ found in absurd (none-some p none))

-- the first place of a source in a stretch that has one
has-one : (s : State) (source : SourceRef) (i count : ℕ) → has_none s source i count ≡ false
    → (j : ℕ) × (i ≤ j) × (j < i + count) × (is_nearest s source (place_at s j) ≡ true) × (has_none s source i (j - i) ≡ true)
unfolding has_none
has-one s source i zero e = cc
has-one s source i (suc count) e =
    either (is_nearest s source (place_at s i))
    (λ here.
    let none : 0 ≡ i - i = omega arith in
    (i, omega arith, omega arith, here, subst (λ k. has_none s source i k ≡ true) none refl))
    (λ other.
    let rest : has_none s source (suc i) count ≡ false = sym (ap (λ b. not b && has_none s source (suc i) count) other) ∙ e in
    let found = has-one s source (suc i) count rest in
    let more : suc (found.0 - suc i) ≡ found.0 - i = omega (arith, found.1) in
    let none : has_none s source i (suc (found.0 - suc i)) ≡ true =
    and_from (not (is_nearest s source (place_at s i))) (has_none s source (suc i) (found.0 - suc i)) (not_from_false _ other) found.4 in
    (found.0, omega (arith, found.1), omega (arith, found.2), found.3, subst (λ k. has_none s source i k ≡ true) more none))

-- where no next place is found, and a scan stands, all are passed
pub none-next : (s : State) (h : ℕ) (at : SourceAt) (from : ℕ) → (s.view h).scan (source_of s at) ≡ Some from → next_place s h at ≡ None → is_past_all s (source_of s at) from ≡ true
none-next s h at from scan none =
    let source = source_of s at in
    either (has_none s source from (end s - from)) (λ t. t)
    (λ f.
    let found = has-one s source from (end s - from) f in
    let j = found.0 in
    let within : j < end s = omega (arith, found.1, found.2) in
    let number : index s (place_at s j) ≡ j = index-place s j within in
    let next : is_next s source from (place_at s j) ≡ true =
    and_from (is_nearest s source (place_at s j)) _ found.3
    (and_from (nat_le from (index s (place_at s j))) _
    (ap (nat_le from) number ∙ le-leb from j found.1)
    (ap (λ k. has_none s source from (k - from)) number ∙ found.4)) in
    let some : 0 < size s = some-size j (size s) s.blocks within in
    let b = j / size s in
    let n = j % size s in
    let node : n < size s = omega (arith, some) in
    let block : b < s.blocks = div-below j (size s) s.blocks within in
    let test : ℕ → Bool = λ m. is_next_in s (s.view h) source (name_of s b m) in
    let passes : test n ≡ true = ap (λ (o : Option ℕ). option_map_or (λ k. is_next s source k (place_at s j)) o false) scan ∙ next in
    let first : next_node s h at b ≤ n = first-some test (size s) n node passes in
    let has : has_next s h at b ≡ true = lt-ltb (next_node s h at b) (size s) (omega (arith, first, node)) in
    let before : next_block s h at ≤ b = first-some (has_next s h at) s.blocks b block has in
    let c = next_block s h at in
    let below : nat_lt c s.blocks ≡ true = lt-ltb c s.blocks (omega (arith, before, block)) in
    let place = place_of c (next_node s h at c) in
    let found_some : ◌≡◌ {A = Option Place} None (Some place) = sym none ∙ ap (λ r. cond r (Some place) None) below in
    absurd (none-some place found_some))

some-left : (a b : Bool) → (a || b) ≡ true → b ≡ false → a ≡ true
some-left true b e f = refl
some-left false b e f = absurd (both_ways b f e)

-- a number below n that passes the test
pub some-found : (test : ℕ → Bool) (n : ℕ) → some_below test n ≡ true → (k : ℕ) × (k < n) × (test k ≡ true)
some-found test zero e = cc
some-found test (suc n) e =
    either (test n)
    (λ here. (n, omega arith, here))
    (λ other.
    let rest : some_below test n ≡ true = some-left (some_below test n) (test n) e other in
    let found = some-found test n rest in
    (found.0, omega (arith, found.1), found.2))

-- Each move keeps the rule of a deque, and of the queue.
use Rattle.std.proofs.Common.{◌≡◌, ◌≢◌, ℕ, ◌+◌, ◌<◌, ◌≤◌, List, [], ◌∷◌, ◌++◌, length, set, sum_by, arith, refl, sym, ap, ◌∙◌, subst, ⊎_elim, append_assoc}
use Rattle.std.proofs.lemmas.List.Sums.{sum_by-append}
use mathlib.Core.Option.{some}
use lib.ListN.{get_elem?}
use Rattle.crossbeam_queue.proofs.Lists.{at_set}
use Rattle.crossbeam_deque.specs.Tasks.{Takes, TakesBatch, Finds, FindsFew, Forks, Merges, Pushes as Joins, ordered, with_popped}
use Rattle.crossbeam_queue.specs.Fifo.{Pushes, Pops, Learns}
use Rattle.life_rules.specs.declared.event.Name.{Name}
use Rattle.loop_queue.proofs.Views.{each-set, each-more, below, sum-set, sum-more, two-at-most, sum-only}
use Rattle.deck_relay.specs.declared.tokens.Tokens.{Tokens}
use Rattle.deck_relay.specs.Rule.{Balanced, Stood, Tells, at_first, spent, without_one, with_one, giving, taking, both}

abbrev weigh : (Name → ℕ) → List Name → ℕ
weigh weight names = sum_by weight names

abbrev given : (Name → ℕ) → Tokens → ℕ
given weight v = weigh weight v.given

abbrev taken : (Name → ℕ) → Tokens → ℕ
taken weight v = weigh weight v.taken

-- a pass that did nothing, if it has no share
abbrev Idle : ℕ → Tokens → Type 0
Idle pass v = v.share ≡ 0 → (v.given ≡ []) × (v.taken ≡ [])

pub begins : Balanced [] (at_first ∷ [])
begins =
    record {
      whole = refl;
      even = λ weight. refl;
      idle = each-more Idle [] at_first (λ none. absurd (let no : ⊥ = omega (arith, none) in no))
          (λ pass v at. absurd (let h = below [] pass v at in let no : ⊥ = omega (arith, h) in no));
    }

-- a pass with a share gives or takes
changes : (items more : List Name) (views : List Tokens) (pass : ℕ) (v w : Tokens) → Balanced items views →
    get_elem? views pass ≡ some v → w.share ≡ v.share → 0 < v.share →
    ((weight : Name → ℕ) → given weight w + (taken weight v + weigh weight items) ≡ given weight v + (taken weight w + weigh weight more)) →
    Balanced more (set views pass w)
changes items more views pass v w h at same part even =
    record {
      whole = let s = sum-set (λ u. u.share) views pass v w at in let was = h.whole in omega (arith, s, same, was);
      even = λ weight.
          let g = sum-set (given weight) views pass v w at in
          let t = sum-set (taken weight) views pass v w at in
          let was = h.even weight in
          let is = even weight in
          omega (arith, g, t, was, is);
      idle = each-set Idle views pass w (λ none. absurd (let no : ⊥ = omega (arith, none, same, part) in no)) (λ j u apart e. h.idle j u e);
    }

pub gives : (pass : ℕ) (v : Tokens) (names : List Name) → 0 < v.share → Joins Balanced pass v names (λ w. w ≡ giving v names)
gives pass v names part items views h at = (
  giving v names,
  changes items (items ++ names) views pass v (giving v names) h at refl part
      (λ weight. let a = sum_by-append weight v.given names in let b = sum_by-append weight items names in omega (arith, a, b)),
  refl,
)

pub takes : (most pass : ℕ) (v : Tokens) → 0 < v.share → Takes Balanced pass v most (λ names w. w ≡ taking v names)
takes most pass v part names items views _ _ h at = (
  taking v names,
  changes (names ++ items) items views pass v (taking v names) h at refl part
      (λ weight. let a = sum_by-append weight v.taken names in let b = sum_by-append weight names items in omega (arith, a, b)),
  refl,
)

-- a batch, which may go on
takes-on : (v u w : Tokens) (first more : List Name) → u ≡ taking v first → w ≡ taking u more → w ≡ taking v (first ++ more)
takes-on v u w first more one next =
    next ∙ ap (λ (t : Tokens). taking t more) one ∙ ap (λ (l : List Name). record v { taken = l }) (append_assoc v.taken first more)

pub takes-batch : (most pass : ℕ) (v : Tokens) → 0 < v.share → TakesBatch Balanced pass v most (λ v names w. w ≡ taking v names)
takes-batch most pass v part = (
  takes most pass v part,
  λ first u one.
      (takes 1 pass u (subst (λ (t : Tokens). 0 < t.share) (sym one) part), λ more w next. takes-on v u w first more one next),
)

-- both deques are first in, first out
pub popped : (flavor : ℕ) (name : Name) (more : List Name) → flavor ≡ 0 → with_popped flavor name more ≡ name ∷ more
popped flavor name more first-in = ap (λ f. with_popped f name more) first-in

pub in-order : (from to : ℕ) (names : List Name) → from ≡ 0 → to ≡ 0 → ordered from to names ≡ names
in-order from to names first second = λ i. ordered (first i) (second i) names

pub offers : (room pass : ℕ) (v : Tokens) (name : Name) → 0 < v.share → Pushes Balanced room pass v name (λ w. w ≡ giving v (name ∷ []))
offers room pass v name part items views short h at = gives pass v (name ∷ []) part items views h at

pub fetches : (pass : ℕ) (v : Tokens) → 0 < v.share → Pops Balanced pass v (λ name w. w ≡ taking v (name ∷ []))
fetches pass v part name items views h at = (
  taking v (name ∷ []),
  changes (name ∷ items) items views pass v (taking v (name ∷ [])) h at refl part
      (λ weight. let a = sum_by-append weight v.taken (name ∷ []) in let b = sum_by-append weight (name ∷ []) items in omega (arith, a, b)),
  refl,
)

pub forks : (pass : ℕ) (v : Tokens) → 1 < v.share → Forks Balanced pass v (without_one v) with_one
forks pass v parts items views h at =
    let vs : List Tokens = set views pass (without_one v) in
    record {
      whole = let s = sum-set (λ u. u.share) views pass v (without_one v) at in let m = sum-more (λ u. u.share) vs with_one in let was = h.whole in
          omega (arith, s, m, was, parts);
      even = λ weight.
          let g = sum-set (given weight) views pass v (without_one v) at in
          let t = sum-set (taken weight) views pass v (without_one v) at in
          let gm = sum-more (given weight) vs with_one in
          let tm = sum-more (taken weight) vs with_one in
          let was = h.even weight in
          omega (arith, g, t, gm, tm, was);
      idle = each-more Idle vs with_one (λ none. (refl, refl))
          (each-set Idle views pass (without_one v) (λ none. absurd (let no : ⊥ = omega (arith, none, parts) in no)) (λ j u apart e. h.idle j u e));
    }

pub merges : (pass : ℕ) (v : Tokens) (other : ℕ) (w : Tokens) → Merges Balanced pass v other w (both v w) spent
merges pass v other w items views h at two at-other =
    let one : Tokens = both v w in
    let vs : List Tokens = set views pass one in
    let was : get_elem? views other ≡ some w =
    ⊎_elim (λ x. absurd (two x.0)) (λ x. x.1) (at_set views pass other one w at-other) in
    let same-sum : (f : Tokens → ℕ) → f one ≡ f v + f w → f spent ≡ 0 → sum_by f (set vs other spent) ≡ sum_by f views =
    λ f adds none. let s = sum-set f views pass v one at in let t = sum-set f vs other w spent at-other in omega (arith, s, t, adds, none) in
    record {
      whole = same-sum (λ u. u.share) refl refl ∙ h.whole;
      even = λ weight.
          let g = same-sum (given weight) (sum_by-append weight v.given w.given) refl in
          let t = same-sum (taken weight) (sum_by-append weight v.taken w.taken) refl in
          let old = h.even weight in
          omega (arith, g, t, old);
      idle = each-set Idle vs other spent (λ none. (refl, refl))
          (λ j u apart e. each-set Idle views pass one
          (λ none.
          let a = h.idle pass v at (let z : v.share + w.share ≡ 0 = none in omega (arith, z)) in
          let b = h.idle other w was (let z : v.share + w.share ≡ 0 = none in omega (arith, z)) in
          (ap (λ l. l ++ w.given) a.0 ∙ b.0, ap (λ l. l ++ w.taken) a.1 ∙ b.1))
          (λ i y differs at-i. h.idle i y at-i) j u e);
    }

-- what a pass learns
pub stands : (pass : ℕ) (v : Tokens) → Learns Balanced pass v (Stood v)
stands pass v items views h at = record { views = views; pass = pass; there = at; balanced = h }

pub finds : (pass : ℕ) (v : Tokens) → Finds Balanced pass v (Stood v [])
finds pass v views h at = stands pass v [] views h at

no-names : (names : List Name) → length names ≤ 0 → names ≡ []
no-names [] none = refl
no-names (name ∷ names) none = absurd (omega (arith, none))

pub finds-few : (most pass : ℕ) (v : Tokens) → most ≡ 0 → FindsFew Balanced most pass v (Stood v [])
finds-few most pass v zero items views few h at =
    let none : items ≡ [] = no-names items (omega (arith, few, zero)) in
    stands pass v [] views (subst (λ l. Balanced l views) none h) at

pub tells : (pass : ℕ) (v : Tokens) → v.share ≡ 32 → Learns Balanced pass v (Tells v)
tells pass v all items views h at =
    let none : (j : ℕ) (u : Tokens) → j ≢ pass → get_elem? views j ≡ some u → u.share ≡ 0 =
    λ j u apart e. let two = two-at-most (λ y. y.share) views j pass u v apart e at in let whole = h.whole in omega (arith, two, all, whole) in
    λ weight.
    let g = sum-only (given weight) views pass v at (λ j u apart e. ap (weigh weight) (h.idle j u e (none j u apart e)).0) in
    let t = sum-only (taken weight) views pass v at (λ j u apart e. ap (weigh weight) (h.idle j u e (none j u apart e)).1) in
    let even = h.even weight in
    omega (arith, g, t, even)

-- The step await.
use Rattle.std.proofs.Common.{◌≡◌, ℕ, ◌+◌, ◌-◌, ◌*◌, ◌<◌, ◌≤◌, Bool, true, false, ◌&&◌, ◌==◌, nat_le, List, length, refl, sym, ap, ◌∙◌, subst, arith}
use Rattle.std.specs.List.{list_any, list_all}
use Rattle.std.proofs.lemmas.Bool.{and_parts, leb-true, both_ways, false_from_ne_true, ne_eqb}
use Rattle.life_rules.specs.declared.words.ControlWord.TheVariants.{Idle, Busy}
use Rattle.life_rules.specs.declared.event.Name.{Name}
use Rattle.life_rules.specs.declared.event.Place.{Place}
use Rattle.node_tree.specs.Tree.{is_root, is_child}
use Rattle.life_rules.specs.Words.{is_idle, is_held, is_under_way, pending}
use Rattle.life_rules.specs.Views.{View, beside, same, gain_each, lose}
use Rattle.common_lemmas.specs.Sums.{one}
use Rattle.life_rules.specs.States.{State, size, is_live, is_place, control_at, name_at, stand}
use Rattle.common_lemmas.specs.Sums.{total}
use Rattle.life_rules.specs.LifeSteps.{may_leave_node, may_be_awaited, may_await, after_await}
use Rattle.common_lemmas.specs.Lists.{are_different}
use Rattle.life_rules.specs.Owned.{Fits, IsOwned, weight, owed_below, Counted}
use Rattle.life_rules.specs.Sound.{Sound}
use Rattle.common_lemmas.proofs.Bool.{either, one-most}
use Rattle.common_lemmas.proofs.Totals.{total-same, total-plus}
use Rattle.life_rules.proofs.Readings.{Lives, lives, is_live-from}
use Rattle.life_kept.proofs.Trees.{child-within, parent-same}
use Rattle.life_kept.proofs.Members.{any-passes, any-beside, count-different}
use Rattle.life_rules.proofs.Names.{by_name, lose-here, lose-other}
use Rattle.life_kept.proofs.Fitting.{Fits-along, idle-word}
use Rattle.life_kept.proofs.Puts.{put, IsPut, reads-here, reads-other, moves, stays, owned-other, counted-at, sound-put, scan-more}
use Rattle.life_kept.proofs.Holding.{IsHeld, held-by, MayLeave, leave-needs, leave-other, weight-most, parent-begun, owned-busy}

-- what await needs
record MayAwait (s : State) (h : ℕ) (x : Name) (nodes : List ℕ) : Type 0 where
  sound : Sound s
  below : h < s.hands
  leave : MayLeave (s.view h) x
  some : 1 ≤ length nodes
  different : are_different nodes ≡ true
  children : list_all (may_be_awaited s x) nodes ≡ true

-- y is one of these nodes of x's operation
abbrev is_among : Name → List ℕ → Name → Bool
is_among x nodes y = list_any (λ n. same (beside x n) y) nodes

abbrev awaiting : Name → List ℕ → View → View
awaiting x nodes v = record v { holds = lose x v.holds; starts = gain_each x nodes v.starts }

module _ (s : State) (h : ℕ) (x : Name) (nodes : List ℕ) (needs : MayAwait s h x nodes) where
  abbrev awaited : State
  awaited = put s h x (Busy (length nodes)) (awaiting x nodes (s.view h))

  await-held : IsHeld s x
  await-held = held-by s h x needs.sound needs.below needs.leave.holds

  await-put : IsPut s h x (Busy (length nodes)) (awaiting x nodes (s.view h))
  await-put = record { sound = needs.sound; hand = needs.below; live = await-held.live; views = refl }

  -- an awaited name is of a child that hasn't begun
  among-child : (y : Name) → is_among x nodes y ≡ true →
      (n : ℕ) × (beside x n ≡ y) × (is_child s.tree x.node n ≡ true) × (is_idle (control_at s y) ≡ true)
  among-child y among =
      let at = any-passes x y (may_be_awaited s x) nodes among needs.children in
      let parts = and_parts (is_child s.tree x.node at.0) (is_idle (control_at s (beside x at.0))) at.2 in
      (at.0, at.1, parts.0, subst (λ z. is_idle (control_at s z) ≡ true) at.1 parts.1)

  x-not_among : is_among x nodes x ≡ false
  x-not_among =
      false_from_ne_true (is_among x nodes x)
      (λ among. both_ways (is_idle (control_at s x)) (ap is_idle await-held.word) (among-child x among).3)

  starts-gained : (y : Name) →
      stand awaited (λ v. v.starts) y ≡ stand s (λ v. v.starts) y + one (is_among x nodes y)
  starts-gained y =
      let m = moves s h x (Busy (length nodes)) (awaiting x nodes (s.view h)) await-put (λ v. v.starts) y in
      omega (arith, m)

  -- nobody owes an awaited child's start yet
  child-unowed : (y : Name) → is_among x nodes y ≡ true → weight s y ≡ 0
  child-unowed y among =
      let at = among-child y among in
      let most : weight s (beside x at.0) ≤ pending (control_at s x) =
      weight-most s x at.0 needs.sound (child-within s.tree x.node at.0 at.2) at.2 in
      let none : pending (control_at s x) ≡ 0 = ap pending await-held.word in
      let e : weight s (beside x at.0) ≡ weight s y = ap (weight s) at.1 in
      omega (arith, most, none, e)

  child-live : (y : Name) → is_among x nodes y ≡ true → is_live s y ≡ true
  child-live y among =
      let at = among-child y among in
      let parent = lives s x await-held.live in
      let child : Lives s (beside x at.0) = record {
        block = parent.block;
        node = child-within s.tree x.node at.0 at.2;
        is_opened = parent.is_opened;
        generation = parent.generation;
      } in
      subst (λ z. is_live s z ≡ true) at.1 (is_live-from s (beside x at.0) child)

  child-owned : (y : Name) → is_among x nodes y ≡ true → IsOwned awaited y
  child-owned y among =
      let ne : x ≡ y → ⊥ = λ e.
      both_ways (is_among x nodes x) x-not_among (subst (λ z. is_among x nodes z ≡ true) (sym e) among) in
      let word : control_at s y ≡ Idle = idle-word (control_at s y) (among-child y among).3 in
      let old : Fits (stand s (λ v. v.holds) y) (stand s (λ v. v.starts) y) (stand s (λ v. v.reports) y)
      (stand s (λ v. v.finished) y) true (is_root s.tree y.node) Idle =
      Fits-along refl refl refl refl (sym (child-live y among)) refl (sym word) (needs.sound.owned.names y) in
      let gained = starts-gained y in
      let once : one (is_among x nodes y) ≡ 1 = ap one among in
      let weighs : weight s y ≡ 0 = child-unowed y among in
      let most : one (is_root s.tree y.node && true) ≤ 1 = one-most (is_root s.tree y.node && true) in
      let new : Fits (stand s (λ v. v.holds) y) (stand awaited (λ v. v.starts) y) (stand s (λ v. v.reports) y)
      (stand s (λ v. v.finished) y) true (is_root s.tree y.node) Idle =
      record {
        held = old.held;
        start = omega (arith, gained, once, weighs);
        root_start = omega (arith, gained, once, most);
        report = old.report;
        finish = old.finish;
      } in
      Fits-along
      (stays s h x (Busy (length nodes)) (awaiting x nodes (s.view h)) await-put (λ v. v.holds) y (lose-other x y (s.view h).holds ne))
      refl
      (stays s h x (Busy (length nodes)) (awaiting x nodes (s.view h)) await-put (λ v. v.reports) y refl)
      (stays s h x (Busy (length nodes)) (awaiting x nodes (s.view h)) await-put (λ v. v.finished) y refl)
      (child-live y among) refl
      (reads-other s h x (Busy (length nodes)) (awaiting x nodes (s.view h)) await-put y ne ∙ word) new

  starts-same : (y : Name) → is_among x nodes y ≡ false → gain_each x nodes (s.view h).starts y ≡ (s.view h).starts y
  starts-same y out =
      let e : one (is_among x nodes y) ≡ 0 = ap one out in omega (arith, e)

  parent-unheld : one (is_held (Busy (length nodes))) ≡ 0
  parent-unheld =
      let some : 1 ≤ length nodes = needs.some in
      ap one (ne_eqb (length nodes) 0 (λ e. omega (arith, e, some)))

  await-owned : (y : Name) → IsOwned awaited y
  await-owned y =
      let v : View = s.view h in
      let u : View = awaiting x nodes v in
      by_name x y
      (λ e. subst (IsOwned awaited) e
      (let less : lose x v.holds x ≡ v.holds x - 1 = lose-here x v.holds in
      let was : one (is_held (control_at s x)) ≡ 1 = ap (λ w. one (is_held w)) await-held.word in
      let now = parent-unheld in
      let holds : 1 ≤ v.holds x = needs.leave.holds in
      owned-busy s h x (Busy (length nodes)) u await-put (ap is_under_way await-held.word) refl
      (omega (arith, less, was, now, holds)) (starts-same x x-not_among) refl refl))
      (λ ne. either (is_among x nodes y) (child-owned y)
      (λ out. owned-other s h x (Busy (length nodes)) u await-put y ne (lose-other x y v.holds ne) (starts-same y out) refl refl))

  -- each awaited child weighs one more
  weight-gained : (y : Name) → weight awaited y ≡ weight s y + one (is_among x nodes y)
  weight-gained y =
      let way : is_under_way (control_at awaited y) ≡ is_under_way (control_at s y) =
      by_name x y
      (λ e. subst (λ z. is_under_way (control_at awaited z) ≡ is_under_way (control_at s z)) e
      (ap is_under_way (reads-here s h x (Busy (length nodes)) (awaiting x nodes (s.view h)) await-put)
      ∙ sym (ap is_under_way await-held.word)))
      (λ ne. ap is_under_way (reads-other s h x (Busy (length nodes)) (awaiting x nodes (s.view h)) await-put y ne)) in
      let a : one (is_under_way (control_at awaited y)) ≡ one (is_under_way (control_at s y)) = ap one way in
      let b = starts-gained y in
      let c : stand awaited (λ v. v.reports) y ≡ stand s (λ v. v.reports) y =
      stays s h x (Busy (length nodes)) (awaiting x nodes (s.view h)) await-put (λ v. v.reports) y refl in
      omega (arith, a, b, c)

  each-child : (n : ℕ) →
      one (is_child s.tree x.node n) * weight awaited (beside x n)
      ≡ one (is_child s.tree x.node n) * weight s (beside x n) + one (list_any (λ m. m == n) nodes)
  each-child n =
      let gained = weight-gained (beside x n) in
      let among : one (is_among x nodes (beside x n)) ≡ one (list_any (λ m. m == n) nodes) =
      ap one (any-beside x n nodes) in
      either (is_child s.tree x.node n)
      (λ child.
      let whole : (k : ℕ) → one (is_child s.tree x.node n) * k ≡ 1 * k = λ k i. one (child i) * k in
      let a = whole (weight awaited (beside x n)) in
      let b = whole (weight s (beside x n)) in
      omega (arith, gained, among, a, b))
      (λ apart.
      let none : (k : ℕ) → one (is_child s.tree x.node n) * k ≡ 0 * k = λ k i. one (apart i) * k in
      let a = none (weight awaited (beside x n)) in
      let b = none (weight s (beside x n)) in
      let out : is_among x nodes (beside x n) ≡ false =
      false_from_ne_true (is_among x nodes (beside x n))
      (λ yes.
      let at = among-child (beside x n) yes in
      let node : at.0 ≡ n = λ k. (at.1 k).node in
      both_ways (is_child s.tree x.node n) apart (subst (λ m. is_child s.tree x.node m ≡ true) node at.2)) in
      let c : one (is_among x nodes (beside x n)) ≡ 0 = ap one out in
      omega (arith, among, a, b, c))

  -- so the children of x weigh as many more as are awaited
  owed-gained : owed_below awaited x ≡ owed_below s x + length nodes
  owed-gained =
      let among : ℕ → Bool = λ n. list_any (λ m. m == n) nodes in
      let each : (n : ℕ) → n < size s →
      one (is_child s.tree x.node n) * weight awaited (beside x n)
      ≡ one (is_child s.tree x.node n) * weight s (beside x n) + one (among n) =
      λ n below. each-child n in
      let sums : owed_below awaited x
      ≡ total (λ n. one (is_child s.tree x.node n) * weight s (beside x n) + one (among n)) (size s) =
      total-same _ _ (size s) each in
      let parts : total (λ n. one (is_child s.tree x.node n) * weight s (beside x n) + one (among n)) (size s)
      ≡ owed_below s x + total (λ n. one (among n)) (size s) =
      total-plus (λ n. one (is_child s.tree x.node n) * weight s (beside x n)) (λ n. one (among n)) (size s) in
      let counts : total (λ n. one (among n)) (size s) ≡ length nodes =
      count-different nodes (size s) (may_be_awaited s x)
      (λ n may. child-within s.tree x.node n
      (and_parts (is_child s.tree x.node n) (is_idle (control_at s (beside x n))) may).0)
      needs.different needs.children in
      omega (arith, sums, parts, counts)

  await-counted : Counted awaited
  await-counted y =
      let u : View = awaiting x nodes (s.view h) in
      by_name x y
      (λ e. subst (λ z. pending (control_at awaited z) ≡ owed_below awaited z) e
      (let word : pending (control_at awaited x) ≡ length nodes =
      ap pending (reads-here s h x (Busy (length nodes)) u await-put) in
      let old : pending (control_at s x) ≡ owed_below s x = needs.sound.counted x in
      let none : pending (control_at s x) ≡ 0 = ap pending await-held.word in
      let gained = owed-gained in
      omega (arith, word, old, none, gained)))
      (λ ne. counted-at s h x (Busy (length nodes)) u await-put y
      (ap pending (reads-other s h x (Busy (length nodes)) u await-put y ne))
      (λ n child.
      let out : is_among x nodes (beside y n) ≡ false =
      false_from_ne_true (is_among x nodes (beside y n))
      (λ yes.
      let at = among-child (beside y n) yes in
      ne (parent-same s.tree x y at.0 n at.2 child at.1)) in
      let gained = weight-gained (beside y n) in
      let none : one (is_among x nodes (beside y n)) ≡ 0 = ap one out in
      omega (arith, gained, none)))

  await-sound : Sound awaited
  await-sound =
      let v : View = s.view h in
      let u : View = awaiting x nodes v in
      sound-put s h x (Busy (length nodes)) u await-put await-owned await-counted refl
      (parent-begun s h x (Busy (length nodes)) u await-put (ap is_idle await-held.word))
      (λ armed. refl)
      (λ y on. scan-more s v u y refl
      (let e : lose x v.holds y ≡ v.holds y = lose-other x y v.holds (leave-other s h x y needs.leave.scans on) in
      omega (arith, e))
      (λ n child. omega arith))

pub sound-await : (s : State) (h : ℕ) (p : Place) (nodes : List ℕ) → Sound s → h < s.hands →
    may_await s h p nodes ≡ true → Sound (after_await s h p nodes)
sound-await s h p nodes sound below may =
    let x : Name = name_at s p in
    let leave : Bool = may_leave_node (s.view h) x in
    let some : Bool = nat_le 1 (length nodes) in
    let different : Bool = are_different nodes in
    let children : Bool = list_all (may_be_awaited s x) nodes in
    let a = and_parts (is_place s p) (leave && (some && (different && children))) may in
    let b = and_parts leave (some && (different && children)) a.1 in
    let c = and_parts some (different && children) b.1 in
    let d = and_parts different children c.1 in
    await-sound s h x nodes (record {
      sound = sound;
      below = below;
      leave = leave-needs (s.view h) x b.0;
      some = leb-true 1 (length nodes) c.0;
      different = d.0;
      children = d.1;
    })

-- A release keeps what the hands know.
use Rattle.std.proofs.Common.{◌≡◌, ℕ, ◌+◌, ◌<◌, ◌≤◌, true, false, not, ◌&&◌, ◌==◌, refl, sym, ap, ◌∙◌, subst, arith}
use Rattle.std.specs.Prelude.{MatchOption}
use Rattle.std.specs.Option.{option_map_or}
use Rattle.std.proofs.lemmas.Bool.{and_parts, both_ways, cond-true, cond-false, eqb-true}
use Rattle.life_rules.specs.declared.words.BlockWord.{BlockWord}
use Rattle.life_rules.specs.declared.words.BlockState.TheVariants.{Free, Retired}
use Rattle.life_rules.specs.declared.event.Name.{Name}
use Rattle.life_rules.specs.declared.event.SourceRef.{SourceRef}
use Rattle.life_rules.specs.declared.event.SourceRef.TheVariants.{Scope, Node}
use Rattle.node_tree.specs.Tree.{Nearest, TheScope, TheNode, Nowhere, given_by, nearest}
use Rattle.life_rules.specs.Words.{is_idle}
use Rattle.life_rules.specs.Views.{beside}
use Rattle.life_rules.specs.States.{State, size, bits_at, source_for, stand}
use Rattle.life_rules.specs.LifeSteps.{after_release, next_word, last_generation}
use Rattle.life_rules.specs.Sound.{Sound}
use Rattle.common_lemmas.proofs.Bool.{either}
use Rattle.life_kept.proofs.Quiet.{MayRelease}
use Rattle.life_kept.proofs.Released.{control-other, phase-other, bits-other, requested-other}
use Rattle.table_rules.specs.declared.view.View.{View}
use Rattle.table_rules.specs.declared.view.Held.{Held}
use Rattle.table_rules.specs.declared.view.Rooted.{Rooted}
use Rattle.table_rules.specs.ShownWords.{is_retired, is_present}
use Rattle.table_rules.specs.Scenes.{Empty, Scene}
use Rattle.table_rules.specs.Homes.{HomesStand}
use Rattle.table_rules.specs.Notes.{is_still, IsPast, IsPastSource, IsHeldSo, IsRootedSo, IsKnown, children_are_requested}
use Rattle.table_kept.proofs.Entries.{each-map, each-by}
use Rattle.table_kept.proofs.Among.{IsAmong}
use Rattle.table_life_kept.proofs.Release.Homes.{quiet, released_scene}

-- a block that is given back is of no earlier generation
pub next-more : (w : BlockWord) → w.generation ≤ (next_word w).generation
next-more w =
    let last : BlockWord = record { generation = w.generation; state = Retired } in
    let next : BlockWord = record { generation = w.generation + 1; state = Free } in
    either (w.generation == last_generation)
    (λ t. let e : (next_word w).generation ≡ w.generation = ap (λ z. z.generation) (cond-true (w.generation == last_generation) last next t) in omega (arith, e))
    (λ f. let e : (next_word w).generation ≡ w.generation + 1 = ap (λ z. z.generation) (cond-false (w.generation == last_generation) last next f) in omega (arith, e))

-- and no name of an earlier one is of its generation
pub next-past : (w : BlockWord) (g : ℕ) → g ≤ w.generation → (not (is_retired (next_word w).state) && g == (next_word w).generation) ≡ true → ⊥
next-past w g past present =
    let last : BlockWord = record { generation = w.generation; state = Retired } in
    let next : BlockWord = record { generation = w.generation + 1; state = Free } in
    let parts = and_parts (not (is_retired (next_word w).state)) (g == (next_word w).generation) present in
    either (w.generation == last_generation)
    (λ t. both_ways (not (is_retired (next_word w).state)) (ap (λ z. not (is_retired z.state)) (cond-true (w.generation == last_generation) last next t)) parts.0)
    (λ f.
    let e : (next_word w).generation ≡ w.generation + 1 = ap (λ z. z.generation) (cond-false (w.generation == last_generation) last next f) in
    let same = eqb-true g (next_word w).generation parts.1 in
    absurd (omega (arith, past, e, same)))

module _ (s : State) (h b : ℕ) where
  abbrev t : State
  t = after_release s h b

  block-here : (i : ℕ) → (i == b) ≡ true → t.block i ≡ next_word (s.block i)
  block-here i at =
      cond-true (i == b) (next_word (s.block b)) (s.block i) at ∙ ap (λ j. next_word (s.block j)) (sym (eqb-true i b at))

  block-there : (i : ℕ) → (i == b) ≡ false → t.block i ≡ s.block i
  block-there i apart = cond-false (i == b) (next_word (s.block b)) (s.block i) apart

  pub past-released : (x : Name) → IsPast s x → IsPast t x
  past-released x is =
      either (x.block == b)
      (λ at.
      let e = ap (λ w. w.generation) (block-here x.block at) in
      let more = next-more (s.block x.block) in omega (arith, is, e, more))
      (λ apart. subst (λ w. x.generation ≤ w.generation) (sym (block-there x.block apart)) is)

  pub source-released : (source : SourceRef) → IsPastSource s source → IsPastSource t source
  source-released Scope is = tt
  source-released (Node x) is = past-released x is

  -- a name that is of its block's generation afterwards is of another block
  pub present-apart : (x : Name) → IsPast s x → is_present t.block x ≡ true → (x.block == b) ≡ false
  present-apart x past present =
      either (x.block == b)
      (λ at.
      absurd (next-past (s.block x.block) x.generation past
      ((λ k. not (is_retired (sym (block-here x.block at) k).state) && x.generation == (sym (block-here x.block at) k).generation) ∙ present)))
      (λ f. f)

  pub present-before : (x : Name) → (x.block == b) ≡ false → is_present t.block x ≡ is_present s.block x
  present-before x apart = λ k. not (is_retired (block-there x.block apart k).state) && x.generation == (block-there x.block apart k).generation

  heard-same : (x : Name) (near : Nearest) → (x.block == b) ≡ false →
      option_map_or (λ source. (bits_at t source).requested) (source_for x near) false
      ≡ option_map_or (λ source. (bits_at s source).requested) (source_for x near) false
  heard-same x TheScope apart = refl
  heard-same x (TheNode p) apart = ap (λ z. z.requested) (bits-other s h b (Node (beside x p)) apart)
  heard-same x Nowhere apart = refl

  pub children-same : (x : Name) → (x.block == b) ≡ false → children_are_requested t x ≡ children_are_requested s x
  children-same x = heard-same x (given_by s.tree x.node (nearest s.tree x.node))

module _ {P E : Type 0} (s : Scene P E) (h b : ℕ) (needs : MayRelease s.state h b) (later : Sound (after_release s.state h b)) (homes : HomesStand s) (far : (n : ℕ) → (n < size s.state → ⊥) → s.home b n ≡ Empty) where
  abbrev base : State
  base = s.state

  abbrev now : Scene P E
  now = released_scene s h b needs later homes far

  held-released : (e : Held E) → 1 ≤ stand base (λ v. v.holds) e.name → IsHeldSo s e → IsHeldSo now e
  held-released e holds was =
      let x = e.name in
      let apart : (x.block == b) ≡ false =
      either (x.block == b) (λ at. let none = (quiet s h b needs later homes far x at).holds in absurd (omega (arith, holds, none))) (λ f. f) in
      record {
        start = was.start;
        named = was.named;
        told = λ t. requested-other base h b x apart ∙ was.told t;
        told_children = λ t. children-same base h b x apart ∙ was.told_children t;
        lot = was.lot;
        phase = subst (λ p. MatchOption e.phase (Unit {0}) (λ known. is_still known p)) (sym (phase-other base h b x apart)) was.phase;
        idle = each-map _ _ (λ n i. (i.0, ap is_idle (control-other base h b (beside x n) apart) ∙ i.1)) e.idle was.idle;
      }

  rooted-released : (e : Rooted E) → IsRootedSo s e → IsRootedSo now e
  rooted-released e was = (
    past-released base h b e.name was.0,
    (λ present.
        let apart = present-apart base h b e.name was.0 present in
        let so = was.1 (sym (present-before base h b e.name apart) ∙ present) in
        (ap is_idle (control-other base h b e.name apart) ∙ so.0, so.1)),
  )

  pub known-released : (u : View P E) → IsAmong base u → IsKnown s u → IsKnown now u
  known-released u among was =
      record {
        held = each-by (λ e. e.name) (IsHeldSo s) (IsHeldSo now) (stand base (λ v. v.holds)) held-released u.held among.held was.held;
        owed = was.owed;
        reported = was.reported;
        noted = each-map _ _ rooted-released u.noted was.noted;
        unlooked = each-map _ _ (past-released base h b) u.unlooked was.unlooked;
        seen_after = each-map _ _ (past-released base h b) u.seen_after was.seen_after;
        seen = each-map _ _ (source-released base h b) u.seen was.seen;
      }

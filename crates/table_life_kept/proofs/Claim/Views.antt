-- A claim keeps what the hands know.
use Rattle.std.proofs.Common.{◌≡◌, ℕ, ◌-◌, ◌≤◌, true, false, not, ◌&&◌, ◌==◌, List, [], Option, Some, None, set, refl, sym, ap, ◌∙◌, subst, arith}
use Rattle.std.specs.Prelude.{ℤ, MatchOption}
use Rattle.std.specs.Option.{option_map_or}
use Rattle.std.proofs.lemmas.Bool.{cond-true, cond-false, both_ways, eqb-true, eq-eqb}
use mathlib.Core.Option.{some}
use lib.ListN.{get_elem?}
use Rattle.life_rules.specs.declared.words.BlockWord.{BlockWord}
use Rattle.life_rules.specs.declared.words.BlockState.TheVariants.{Open}
use Rattle.life_rules.specs.declared.event.Name.{Name}
use Rattle.life_rules.specs.declared.event.SourceRef.{SourceRef}
use Rattle.life_rules.specs.declared.event.SourceRef.TheVariants.{Scope, Node}
use Rattle.node_tree.specs.Tree.{parent_of, given_by, nearest}
use Rattle.life_rules.specs.Words.{is_idle}
use Rattle.life_rules.specs.Views.{beside}
use Rattle.life_rules.specs.States.{State, size, source_for}
use Rattle.common_lemmas.proofs.Bool.{either}
use Rattle.life_kept.proofs.Trees.{root-orphan}
use Rattle.table_rules.specs.declared.view.View.{View}
use Rattle.table_rules.specs.declared.view.Held.{Held}
use Rattle.table_rules.specs.declared.view.Rooted.{Rooted}
use Rattle.table_rules.specs.ShownWords.{is_retired, is_present}
use Rattle.table_rules.specs.Scenes.{Scene}
use Rattle.table_rules.specs.Homes.{HomesStand}
use Rattle.table_rules.specs.Notes.{is_still, IsPast, IsPastSource, IsHeldSo, IsRootedSo, IsKnown, ViewsStand, children_are_requested}
use Rattle.table_steps.specs.Claims.{with_step, owes_root}
use Rattle.table_kept.proofs.Entries.{each-map}
use Rattle.table_kept.proofs.ViewMoves.{views-moved}
use Rattle.table_kept.proofs.WordMoves.{free-kept}
use Rattle.table_life_kept.proofs.Claim.State.{MayClaim, later, root, control-same, phase-same, bits-same, nearest-same, last-root}
use Rattle.table_life_kept.proofs.Claim.Homes.{claimed}

orphan : (o : Option ℕ) → ((p : ℕ) → option_map_or (λ q. q == p) o false ≡ false) → o ≡ None
orphan None h = refl
orphan (Some q) h = absurd (both_ways (q == q) (h q) (eq-eqb q q refl))

module _ (s : State) (h b : ℕ) (may : MayClaim s h b) where
  abbrev opened : BlockWord
  opened = record (s.block b) { state = Open }

  generation-same : (i : ℕ) → ((later s h b may).block i).generation ≡ (s.block i).generation
  generation-same i =
      either (i == b)
      (λ at. (λ k. (cond-true (i == b) opened (s.block i) at k).generation)
      ∙ ap (λ j. (s.block j).generation) (sym (eqb-true i b at)))
      (λ apart. λ k. (cond-false (i == b) opened (s.block i) apart k).generation)

  retired-same : (i : ℕ) → is_retired ((later s h b may).block i).state ≡ is_retired (s.block i).state
  retired-same i =
      either (i == b)
      (λ at. (λ k. is_retired (cond-true (i == b) opened (s.block i) at k).state)
      ∙ sym (free-kept (s.block b).state may.free)
      ∙ ap (λ j. is_retired (s.block j).state) (sym (eqb-true i b at)))
      (λ apart. λ k. is_retired (cond-false (i == b) opened (s.block i) apart k).state)

  present-same : (x : Name) → is_present (later s h b may).block x ≡ is_present s.block x
  present-same x =
      λ k. not (retired-same x.block k) && x.generation == generation-same x.block k

  past-claimed : (x : Name) → IsPast s x → IsPast (later s h b may) x
  past-claimed x is = subst (λ g. x.generation ≤ g) (sym (generation-same x.block)) is

  source-claimed : (t : SourceRef) → IsPastSource s t → IsPastSource (later s h b may) t
  source-claimed Scope is = tt
  source-claimed (Node x) is = past-claimed x is

  children-same : (x : Name) → children_are_requested (later s h b may) x ≡ children_are_requested s x
  children-same x =
      λ k. option_map_or (λ source. (bits-same s h b may source k).requested)
      (source_for x (given_by s.tree x.node (nearest s.tree x.node))) false

  root-alone : parent_of s.tree (size s - 1) ≡ None
  root-alone =
      let some = may.sound.tree.some in
      orphan (parent_of s.tree (size s - 1))
      (λ p. root-orphan s.tree may.sound.tree p (size s - 1) (omega (arith, some)) (last-root s h b may))

module _ {P E : Type 0} (s : Scene P E) (h b : ℕ) (may : MayClaim s.state h b) (homes : HomesStand s) where
  abbrev after_it : Scene P E
  after_it = claimed s h b may homes

  held-claimed : (e : Held E) → IsHeldSo s e → IsHeldSo after_it e
  held-claimed e old =
      record {
        start = old.start;
        named = old.named;
        told = λ t. nearest-same s.state h b may e.name ∙ old.told t;
        told_children = λ t. children-same s.state h b may e.name ∙ old.told_children t;
        lot = old.lot;
        phase = subst (λ p. MatchOption e.phase (Unit {0}) (λ known. is_still known p))
            (sym (phase-same s.state h b may e.name)) old.phase;
        idle = each-map _ _ (λ n i. (i.0, ap is_idle (control-same s.state h b may (beside e.name n)) ∙ i.1)) e.idle old.idle;
      }

  rooted-claimed : (e : Rooted E) → IsRootedSo s e → IsRootedSo after_it e
  rooted-claimed e old = (
    past-claimed s.state h b may e.name old.0,
    (λ present.
        let was = old.1 (sym (present-same s.state h b may e.name) ∙ present) in
        (ap is_idle (control-same s.state h b may e.name) ∙ was.0, was.1)),
  )

  known-claimed : (v : View P E) → IsKnown s v → IsKnown after_it v
  known-claimed v old =
      record {
        held = each-map _ _ held-claimed v.held old.held;
        owed = old.owed;
        reported = old.reported;
        noted = each-map _ _ rooted-claimed v.noted old.noted;
        unlooked = each-map _ _ (past-claimed s.state h b may) v.unlooked old.unlooked;
        seen_after = each-map _ _ (past-claimed s.state h b may) v.seen_after old.seen_after;
        seen = each-map _ _ (source-claimed s.state h b may) v.seen old.seen;
      }

  owing-claimed : (i n left : ℕ) (v : View P E) → IsKnown s v →
      IsKnown after_it (with_step i n left (owes_root (root s.state h b may) v))
  owing-claimed i n left v old =
      let now = known-claimed v old in
      let above : List E = [] in
      let lot : List ℤ = [] in
      record {
        held = now.held;
        owed = (
          subst
              (λ o. MatchOption o ((above ≡ []) × (lot ≡ []))
              (λ p. (above ≡ s.past.start (beside (root s.state h b may) p))
              × (lot ≡ s.past.lot (beside (root s.state h b may) p))))
              (sym (root-alone s.state h b may)) (refl, refl),
          now.owed,
        );
        reported = now.reported;
        noted = now.noted;
        unlooked = now.unlooked;
        seen_after = now.seen_after;
        seen = now.seen;
      }

  pub views-claimed : (i n left : ℕ) (vs : List (View P E)) (v : View P E) → get_elem? vs h ≡ some v →
      ViewsStand s vs → ViewsStand after_it (set vs h (with_step i n left (owes_root (root s.state h b may) v)))
  views-claimed i n left vs v at old =
      views-moved s after_it vs h v (with_step i n left (owes_root (root s.state h b may) v)) at
      (λ j u _ _. known-claimed u)
      (owing-claimed i n left v (old.each h v at)) refl refl old

-- The look after an arming agrees with what the hand had seen, and was told, before it armed.
use Rattle.std.proofs.Common.{◌≡◌, inl, inr, Bool, false, List, [], ◌∷◌, refl, sym, ap, ◌∙◌, subst}
use Rattle.std.specs.Prelude.{◌⊎◌, Option, Some}
use Rattle.std.proofs.lemmas.Bool.{cond-true, cond-false}
use Rattle.life_rules.specs.declared.words.CallbackPhase.TheVariants.{Armed as IsArmedNow}
use Rattle.life_rules.specs.declared.event.Name.{Name}
use Rattle.life_rules.specs.declared.event.SourceRef.{SourceRef}
use Rattle.life_rules.specs.declared.event.SourceRef.TheVariants.{Scope, Node}
use Rattle.node_tree.specs.Tree.{Nearest, TheScope, TheNode, Nowhere, nearest}
use Rattle.life_rules.specs.States.{source_for}
use Rattle.life_rules.specs.Views.{beside, same}
use Rattle.common_lemmas.proofs.Bool.{either}
use Rattle.atomic_table.specs.declared.shared.Seat.{Seat}
use Rattle.table_rules.specs.declared.view.View.{View}
use Rattle.table_rules.specs.declared.view.Held.{Held}
use Rattle.table_rules.specs.Named.{find_by}
use Rattle.table_rules.specs.ShownViews.{has_source_ref}
use Rattle.table_steps.specs.Views.{Board}
use Rattle.table_steps.specs.Readings.{at_entry}
use Rattle.table_steps.specs.Callbacks.{CanArm, IsArmed}
use Rattle.table_steps.specs.Sights.{AgreesWithTold, ByNode, IsLookedAt, KeepsAlive, StillAsked}
use Rattle.op_slot.proofs.Kept.{find-noted}
use Rattle.stop_calls.specs.declared.arming.Armed.{Armed}
use Rattle.stop_calls.specs.Armings.{is_asked, IsArmedSo}

module _ {A : Type 0} (name : A → Name) (change : A → A) (same_name : (e : A) → name (change e) ≡ name e) (x y : Name) where
  -- this entry is found, and is as before or changed
  abbrev IsFoundAs : A → List A → Type 0
  IsFoundAs e l = (now : A) × (find_by name l y ≡ Some now) × ((now ≡ e) ⊎ (now ≡ change e))

  -- what is noted of one entry leaves each to be found
  found-still : (l : List A) (e : A) → find_by name l y ≡ Some e → IsFoundAs e (at_entry name change x l)
  found-still [] e is = cc
  found-still (d ∷ ds) e is =
      either (same (name d) x)
      (λ t.
      subst (IsFoundAs e) (sym (cond-true (same (name d) x) (change d ∷ ds) (d ∷ at_entry name change x ds) t))
      (either (same (name d) y)
      (λ first.
      let is_d : Some d ≡ Some e = sym (cond-true (same (name d) y) (Some d) (find_by name ds y) first) ∙ is in (
        change d,
        cond-true (same (name (change d)) y) (Some (change d)) (find_by name ds y) (ap (λ z. same z y) (same_name d) ∙ first),
        inr (ap change (the-same d is_d)),
      ))
      (λ later. (
        e,
        cond-false (same (name (change d)) y) (Some (change d)) (find_by name ds y) (ap (λ z. same z y) (same_name d) ∙ later)
            ∙ behind d ds is later,
        inl refl,
      ))))
      (λ f.
      subst (IsFoundAs e) (sym (cond-false (same (name d) x) (change d ∷ ds) (d ∷ at_entry name change x ds) f))
      (either (same (name d) y)
      (λ first. (
        d,
        cond-true (same (name d) y) (Some d) (find_by name (at_entry name change x ds) y) first,
        inl (the-same d (sym (cond-true (same (name d) y) (Some d) (find_by name ds y) first) ∙ is)),
      ))
      (λ later.
      let rest = found-still ds e (behind d ds is later) in (
        rest.0,
        cond-false (same (name d) y) (Some d) (find_by name (at_entry name change x ds) y) later ∙ rest.1,
        rest.2,
      ))))
    where
      the-same : (d : A) → Some d ≡ Some e → d ≡ e
      the-same d is = cc

      behind : (d : A) (ds : List A) → find_by name (d ∷ ds) y ≡ Some e → same (name d) y ≡ false → find_by name ds y ≡ Some e
      behind d ds is later = sym (cond-false (same (name d) y) (Some d) (find_by name ds y) later) ∙ is

-- a callback was registered, by a hand that could
pub record HasArmed {P E O : Type 0} (board : Board O) (x : Name) (old middle : Seat (Option P) (View P E)) : Type 0 where
  pub can : CanArm board.frame.tree old.me.0 x
  pub armed : IsArmed board x old middle

module _ {P E O : Type 0} {board : Board O} {x : Name} {old middle : Seat (Option P) (View P E)}
    (has : HasArmed board x old middle) where
  open has use {can, armed}

  abbrev noted : Held E → Held E
  noted e = record e { phase = Some IsArmedNow }

  -- each node that the hand held it holds, told as it was
  agrees-before : (source : SourceRef) (answer : Bool) → AgreesWithTold board.frame.tree middle.me.0 source answer →
      AgreesWithTold board.frame.tree old.me.0 source answer
  agrees-before source answer agrees y e holds =
      let still = found-still (λ (h : Held E). h.name) noted (λ h. refl) x y old.me.0.held e holds in
      let told = agrees y still.0 (ap (λ m. find_by (λ (h : Held E). h.name) m.0.held y) armed.me_is ∙ still.1) in
      let told_is : still.0.told ≡ e.told = elim still.2 [
        | inl is ↦ ap (λ (h : Held E). h.told) is
        | inr is ↦ ap (λ (h : Held E). h.told) is
      ] in
      let children_is : still.0.told_children ≡ e.told_children = elim still.2 [
        | inl is ↦ ap (λ (h : Held E). h.told_children) is
        | inr is ↦ ap (λ (h : Held E). h.told_children) is
      ] in
      record {
        told = λ hears is. told.told hears (told_is ∙ is);
        told_children = λ hears is. told.told_children hears (children_is ∙ is);
      }

  -- the source that a held node hears can't go away
  heard-alive : (source : SourceRef) (above : Nearest) → source_for x above ≡ Some source → KeepsAlive middle.me.0 source
  heard-alive Scope above is = tt
  heard-alive (Node y) TheScope is = cc
  heard-alive (Node y) (TheNode p) is =
      let is_beside : beside x p ≡ y = cc in
      subst (λ z. KeepsAlive middle.me.0 (Node z)) is_beside
      (ByNode x.node (noted can.held)
      (ap (λ m. find_by (λ (h : Held E). h.name) m.0.held x) armed.me_is
      ∙ find-noted (λ (h : Held E). h.name) noted (λ h. refl) x old.me.0.held can.held can.holds))
  heard-alive (Node y) Nowhere is = cc

  pub armed-so : (answer : Armed) (source : SourceRef) (new : Seat (Option P) (View P E)) →
      source_for x (nearest board.frame.tree x.node) ≡ Some source →
      IsLookedAt board source (Some x) (is_asked answer) middle new → StillAsked middle.me.0 source (is_asked answer) →
      AgreesWithTold board.frame.tree middle.me.0 source (is_asked answer) → IsArmedSo board x answer old new
  armed-so answer source new is looked stands agrees =
      record {
        middle = middle;
        armed = armed;
        source = source;
        nearest_is = is;
        looked = looked;
        stands = λ seen. stands (ap (λ m. has_source_ref m.0.seen source) armed.me_is ∙ seen)
            (heard-alive source (nearest board.frame.tree x.node) is);
        told = agrees-before source (is_asked answer) agrees;
      }

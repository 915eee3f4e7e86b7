-- A hand that lets go of a node, and gives the homes of the node and of its children back, carries what its
-- view still gives it.
use Rattle.std.proofs.Common.{◌≡◌, ◌≢◌, inl, inr, ℕ, Bool, true, false, ◌||◌, ◌==◌, List, [], ◌∷◌, sym, ap, ◌∙◌, subst}
use Rattle.std.specs.Prelude.{Option}
use Rattle.std.specs.List.{list_any}
use Rattle.std.proofs.lemmas.Bool.{both_ways, cond-true, cond-false}
use Rattle.node_tree.specs.declared.node.TreeNode.{TreeNode}
use Rattle.life_rules.specs.declared.event.Name.{Name}
use Rattle.common_lemmas.proofs.Bool.{either}
use Rattle.table_words.specs.declared.layout.Layout.{Layout}
use Rattle.table_rules.specs.declared.view.View.{View}
use Rattle.table_rules.specs.Named.{without, Each}
use Rattle.table_steps.specs.Claims.{with_step}
use Rattle.table_steps.specs.Slots.{slot_of, is_of_family, has_slot, AreApart, IsSeated}
use Rattle.table_steps.specs.Sheds.{shed}
use Rattle.table_steps.specs.Rests.{lets_go}
use Rattle.table_kept.proofs.Entries.{any-without}
use Rattle.table_kept.proofs.BeginSeats.{or-left, or-right, or-cases}

-- what holds of each slot that was carried, and stays, holds of each that is still carried
pub each-shed : {S : Type 0} (P Q : ℕ × S → Type 0) (gone : ℕ → Bool) (c : List (ℕ × S)) →
    ((d : ℕ × S) → gone d.0 ≡ false → P d → Q d) → Each P c → Each Q (shed gone c)
each-shed P Q gone [] f all = tt
each-shed P Q gone (d ∷ ds) f all =
    either (gone d.0)
    (λ t. subst (Each Q) (sym (cond-true (gone d.0) (shed gone ds) (d ∷ shed gone ds) t)) (each-shed P Q gone ds f all.1))
    (λ n. subst (Each Q) (sym (cond-false (gone d.0) (shed gone ds) (d ∷ shed gone ds) n)) (f d n all.0, each-shed P Q gone ds f all.1))

pub apart-shed : {S : Type 0} (gone : ℕ → Bool) (c : List (ℕ × S)) → AreApart c → AreApart (shed gone c)
apart-shed gone [] all = tt
apart-shed gone (d ∷ ds) all =
    either (gone d.0)
    (λ t. subst AreApart (sym (cond-true (gone d.0) (shed gone ds) (d ∷ shed gone ds) t)) (apart-shed gone ds all.1))
    (λ n. subst AreApart (sym (cond-false (gone d.0) (shed gone ds) (d ∷ shed gone ds) n))
    (each-shed (λ e. e.0 ≢ d.0) (λ e. e.0 ≢ d.0) gone ds (λ e _ k. k) all.0, apart-shed gone ds all.1))

-- a slot outside the node's family is still given
given-still : {P E : Type 0} (tree : List TreeNode) (l : Layout) (x : Name) (i n left : ℕ) (v : View P E) (slot : ℕ) →
    is_of_family tree l x slot ≡ false → has_slot tree l v slot ≡ true → has_slot tree l (with_step i n left (lets_go x v)) slot ≡ true
given-still tree l x i n left v slot stays h =
    let a = list_any (λ e. slot_of l e.name == slot) v.owed in
    let b = list_any (λ e. is_of_family tree l e.name slot) v.held in
    let b2 = list_any (λ e. is_of_family tree l e.name slot) (without (λ e. e.name) v.held x) in
    let c = list_any (λ y. slot_of l y == slot) v.finished in
    or-cases a (b || c) h
    (λ owed. or-left a (b2 || c) owed)
    (λ more.
    or-cases b c more
    (λ held.
    elim (any-without (λ e. e.name) (λ e. is_of_family tree l e.name slot) v.held x held) [
      | inl still ↦ or-right a (b2 || c) (or-left b2 c still)
      | inr here ↦
          absurd (both_ways (is_of_family tree l x slot) stays (ap (λ y. is_of_family tree l y slot) (sym here.1) ∙ here.2))
    ])
    (λ finished. or-right a (b2 || c) (or-right b2 c finished)))

pub seated-shed : {P E : Type 0} (tree : List TreeNode) (l : Layout) (x : Name) (i n left : ℕ) (v : View P E) (c : List (ℕ × Option P)) →
    IsSeated tree l (v, c) → IsSeated tree l (with_step i n left (lets_go x v), shed (is_of_family tree l x) c)
seated-shed tree l x i n left v c old =
    record {
      apart = apart-shed (is_of_family tree l x) c old.apart;
      given = each-shed (λ d. has_slot tree l v d.0 ≡ true) (λ d. has_slot tree l (with_step i n left (lets_go x v)) d.0 ≡ true)
          (is_of_family tree l x) c (λ d stays. given-still tree l x i n left v d.0 stays) old.given;
      itself = old.itself;
    }

-- No armed callback is missed by a scan, and no association is left in a joined scope.
use Rattle.std.proofs.Common.{◌≡◌, ℕ, zero, suc, true, ◌&&◌, ◌||◌, List, [], ◌∷◌, refl, ap, inl, inr, arith}
use Rattle.std.proofs.lemmas.Bool.{and_parts, or_cases, or_left, or_right}
use mathlib.Core.Option.{some}
use lib.ListN.{get_elem?}
use Rattle.life_rules.specs.declared.words.BlockWord.{BlockWord}
use Rattle.life_rules.specs.declared.event.Name.{Name}
use Rattle.life_rules.specs.Associations.{kept}
use Rattle.life_rules.specs.States.{State}
use Rattle.common_lemmas.proofs.Totals.{total-at}
use Rattle.table_rules.specs.declared.cargo.Cargo.{Ghosts}
use Rattle.table_rules.specs.declared.view.View.{View}
use Rattle.table_rules.specs.ShownWords.{is_present}
use Rattle.table_rules.specs.ShownViews.{view_at, has_name}
use Rattle.table_rules.specs.Scenes.{shown}
use Rattle.table_laws.specs.Laws.{MissesNone, JoinedIsEmpty}
use Rattle.table_laws.proofs.Standing.{below, shows}

-- what a shown view notes of a place a hand notes
noted-by : {P E : Type 0} (blocks : ℕ → BlockWord) (views : List (View P E)) (h : ℕ) (x : Name) →
    ((view_at blocks views h).unlooked x || (view_at blocks views h).seen_after x) ≡ true →
    (v : View P E) × (get_elem? views h ≡ some v) × ((has_name v.unlooked x || has_name v.seen_after x) ≡ true)
noted-by blocks [] h x noted = cc
noted-by blocks (v ∷ vs) zero x noted = (
  v,
  refl,
  elim (or_cases (has_name v.unlooked x && is_present blocks x) (has_name v.seen_after x && is_present blocks x) noted) [
    | inl unlooked ↦ or_left (has_name v.unlooked x) (has_name v.seen_after x) (and_parts _ _ unlooked).0
    | inr seen ↦ or_right (has_name v.unlooked x) (has_name v.seen_after x) (and_parts _ _ seen).0
  ],
)
noted-by blocks (v ∷ vs) (suc h) x noted = noted-by blocks vs h x noted

pub misses-none : {P E O : Type 0} (cargo : Ghosts P E O) → MissesNone cargo
misses-none cargo f s r source x scanned hears armed =
    let noted = r.stands.sound.missed x source hears armed (inl scanned) in
    let by = noted-by (shown f s).block s.views noted.0 x noted.2 in
    (noted.0, by.0, by.1, by.2)

pub joined-is_empty : {P E O : Type 0} (cargo : Ghosts P E O) → JoinedIsEmpty cargo
joined-is_empty cargo f s r joined h v at =
    let now : State = shown f s in
    let none = r.stands.sound.associations.joined joined in
    let most = total-at (λ i. kept (now.view i)) f.hands h (below cargo f s r h v at) in
    let is = ap kept (shows cargo f s r h v at) in
    (omega (arith, none, most, is), omega (arith, none, most, is))

-- The root of a block that is free isn't noted: what a hand notes of the present generation has begun.
use Rattle.std.proofs.Common.{◌≡◌, true, not, sym, ap, subst}
use Rattle.std.proofs.lemmas.Bool.{and_from, both_ways, eq-eqb}
use Rattle.life_rules.specs.declared.event.Name.{Name}
use Rattle.life_rules.specs.Words.{is_free, is_open}
use Rattle.life_rules.specs.States.{State}
use Rattle.common_lemmas.proofs.Options.{known}
use Rattle.life_rules.proofs.Readings.{lives, begun-live}
use Rattle.life_kept.proofs.Claim.{free-closed}
use Rattle.table_rules.specs.declared.cargo.Cargo.{Ghosts}
use Rattle.table_rules.specs.declared.frame.Frame.{Frame}
use Rattle.table_rules.specs.Named.{find_by}
use Rattle.table_rules.specs.Notes.{IsRootedSo}
use Rattle.table_rules.specs.ShownWords.{is_present}
use Rattle.table_rules.specs.Scenes.{shown, scene}
use Rattle.table_steps.specs.Claims.{IsUnnoted}
use Rattle.table_kept.proofs.Standing.{Standing}
use Rattle.table_kept.proofs.Entries.{found, each-found}
use Rattle.table_kept.proofs.WordMoves.{free-kept}

module _ {P E O : Type 0} (cargo : Ghosts P E O) (f : Frame O) (hand : Standing cargo f) where
  open hand use {state as s, id, view as v, running as r, at}

  abbrev now : State
  now = shown f s

  pub unnoted-free : (x : Name) → is_free (now.block x.block).state ≡ true → x.generation ≡ (now.block x.block).generation →
      IsUnnoted v x
  unnoted-free x free generation =
      known (find_by (λ e. e.name) v.noted x) (λ none. none)
      (λ e is.
      let name = (found (λ e. e.name) v.noted x e is).name_is in
      let so : IsRootedSo (scene f s r.past) e =
      each-found (IsRootedSo (scene f s r.past)) (λ e. e.name) v.noted x e is (r.stands.views.each id v at).noted in
      let present : is_present now.block x ≡ true =
      and_from _ _ (ap not (free-kept (now.block x.block).state free)) (eq-eqb _ _ generation) in
      let begun = (so.1 (subst (λ z. is_present now.block z ≡ true) (sym name) present)).0 in
      let opened = (lives now e.name (begun-live now e.name begun)).is_opened in
      absurd (both_ways (is_open (now.block x.block).state) (free-closed (now.block x.block).state free)
      (subst (λ z. is_open (now.block z.block).state ≡ true) name opened)))

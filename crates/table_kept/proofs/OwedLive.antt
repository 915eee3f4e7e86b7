-- What the rule says of the nodes whose start a hand owes.
use Rattle.std.proofs.Common.{◌≡◌, true, List, [], ◌∷◌, sym, ap, ◌∙◌, subst, arith}
use Rattle.std.proofs.lemmas.Bool.{and_parts}
use Rattle.life_rules.specs.declared.words.BlockState.{BlockState}
use Rattle.life_rules.specs.declared.words.BlockState.TheVariants.{Free, Open, Retired}
use Rattle.life_rules.specs.declared.event.Name.{Name}
use Rattle.life_rules.specs.Words.{is_free, is_open, is_idle}
use Rattle.life_rules.specs.States.{State, is_live, control_at, stand}
use Rattle.common_lemmas.proofs.Bool.{one-is}
use Rattle.life_rules.proofs.Readings.{lives}
use Rattle.table_rules.specs.declared.cargo.Cargo.{Ghosts}
use Rattle.table_rules.specs.declared.frame.Frame.{Frame}
use Rattle.table_rules.specs.Named.{Each}
use Rattle.table_rules.specs.ShownWords.{block_of}
use Rattle.table_rules.specs.Scenes.{shown}
use Rattle.table_steps.specs.Owing.{owing, OwesNoneThere, AreOfItsBlock}
use Rattle.table_kept.proofs.Standing.{Standing}
use Rattle.table_kept.proofs.Entries.{each-map, each-by}
use Rattle.table_kept.proofs.Among.{among}

free-closed : (w : BlockState) → is_free w ≡ true → is_open w ≡ true → ⊥
free-closed Free f o = cc
free-closed Open f o = cc
free-closed Retired f o = cc

pub each-trivial : {A : Type 0} (l : List A) → Each (λ _. Unit {0}) l
each-trivial [] = tt
each-trivial (a ∷ rest) = (tt, each-trivial rest)

module _ {P E O : Type 0} (cargo : Ghosts P E O) (f : Frame O) (hand : Standing cargo f) where
  open hand use {state as s, id, view as v, running as r, at}

  abbrev now : State
  now = shown f s

  -- each of them is live
  owed-live : Each (λ e. is_live now e.name ≡ true) v.owed
  owed-live =
      each-by (λ e. e.name) (λ _. Unit {0}) (λ e. is_live now e.name ≡ true) (stand now (λ u. u.starts))
      (λ e owed _.
      let fit = (r.stands.sound.owned.names e.name).start in
      (and_parts (is_live now e.name) (is_idle (control_at now e.name)) (one-is (omega (arith, owed, fit)))).0)
      v.owed (among f s id v r.sized.seats at).owed (each-trivial v.owed)

  -- so none is in a block that is free
  pub owes-none_there : (x : Name) → is_free (block_of f.layout s.words x.block).state ≡ true → OwesNoneThere v x
  owes-none_there x free =
      each-map (λ e. is_live now e.name ≡ true) _
      (λ e live there.
      free-closed (now.block x.block).state free
      (subst (λ b. is_open (now.block b).state ≡ true) there (lives now e.name live).is_opened))
      v.owed owed-live

  -- and those in the block of a live node are of its generation
  pub owes-beside : (x : Name) → is_live now x ≡ true → AreOfItsBlock v x
  owes-beside x live_x =
      each-map (λ e. is_live now e.name ≡ true) _
      (λ e live there.
      (lives now e.name live).generation ∙ ap (λ b. (now.block b).generation) there ∙ sym (lives now x live_x).generation)
      v.owed owed-live

  -- where no hand owes the start of x, this hand doesn't
  pub owes-not : (x : Name) → stand now (λ u. u.starts) x ≡ 0 → owing v x ≡ 0
  owes-not x none = let most = (among f s id v r.sized.seats at).owed x in omega (arith, most, none)

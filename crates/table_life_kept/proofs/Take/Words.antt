-- Which words say that a node is at rest.
use Rattle.std.proofs.Common.{◌≡◌, ℕ, true, false, refl}
use Rattle.life_rules.specs.declared.words.ControlWord.{ControlWord}
use Rattle.life_rules.specs.declared.words.ControlWord.TheVariants.{Idle, Busy, ReadyLoop, ReadyPool, Parked, Done}
use Rattle.life_rules.specs.Words.{is_idle, is_done, is_held, is_under_way, pending, may_be_taken}
use Rattle.table_rules.specs.Scenes.{Home, Out, Empty, Full, is_full}
use Rattle.table_rules.specs.Homes.{is_resting}

-- a word that may be taken is of a node at rest
pub record IsTakeable (c : ControlWord) : Type 0 where
  pub begun : is_idle c ≡ false
  pub under_way : is_under_way c ≡ true
  pub held : is_held c ≡ false
  pub done : is_done c ≡ false
  pub rests : is_resting c ≡ true
  pub none : pending c ≡ 0

pub takeable : (c : ControlWord) (h : ℕ) → may_be_taken c h ≡ true → IsTakeable c
takeable Idle h t = cc
takeable (Busy n) h t = cc
takeable ReadyLoop h t = record { begun = refl; under_way = refl; held = refl; done = refl; rests = refl; none = refl }
takeable ReadyPool h t = record { begun = refl; under_way = refl; held = refl; done = refl; rests = refl; none = refl }
takeable Parked h t = record { begun = refl; under_way = refl; held = refl; done = refl; rests = refl; none = refl }
takeable Done h t = cc

pub full-item : {P : Type 0} (h : Home P) → is_full h ≡ true → (item : P) × (h ≡ Full item)
full-item Out e = cc
full-item Empty e = cc
full-item (Full item) e = (item, refl)

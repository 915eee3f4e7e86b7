-- What the words and views of a state tell of it.
use Rattle.std.specs.Prelude.{◌≡◌, ℕ, ◌-◌, true, length}
use Rattle.life_rules.specs.declared.event.Place.{Place}
use Rattle.life_rules.specs.declared.event.SourceAt.{SourceAt}
use Rattle.life_rules.specs.LifeSteps.{root_of}
use Rattle.life_rules.specs.States.{State, size, is_place, name_at, control_at, phase_at, bits_at}
use Rattle.life_rules.specs.StopSteps.{source_of, is_source}
use Rattle.common_lemmas.specs.Sums.{one}
use Rattle.exec_life.specs.ViewLists.{ViewLists, role_in, runs_in, seen_in, scan_in, is_holder, is_starter, is_reporter, is_finisher}
use Rattle.exec_life.specs.WordLists.{WordLists, block_word, control_word, callback_word, bits_in}

-- each word is the state's, as it reads at the present generation
pub record TellWords (s : State) (w : WordLists) : Type 0 where
  pub block : (b : ℕ) → block_word w b ≡ s.block b
  pub control : (p : Place) → is_place s p ≡ true →
      control_word w p.block p.node ≡ control_at s (name_at s p)
  pub callback : (p : Place) → is_place s p ≡ true →
      callback_word w p.block p.node ≡ phase_at s (name_at s p)
  pub source : (t : SourceAt) → is_source s t ≡ true → bits_in w t ≡ bits_at s (source_of s t)
  pub scope : w.scope ≡ s.scope
  -- and they are those of as many places
  pub blocks : length w.blocks ≡ s.blocks
  pub nodes : w.nodes ≡ size s

-- each cell says what the hand's view has of the place at the present generation
pub record TellsView (s : State) (hand : ℕ) (v : ViewLists) : Type 0 where
  pub holds : (p : Place) →
      (s.view hand).holds (name_at s p) ≡ one (is_holder (role_in v p.block p.node))
  pub starts : (p : Place) →
      (s.view hand).starts (name_at s p) ≡ one (is_starter (role_in v p.block p.node))
  pub reports : (p : Place) →
      (s.view hand).reports (name_at s p) ≡ one (is_reporter (role_in v p.block p.node))
  pub finished : (b : ℕ) →
      (s.view hand).finished (root_of s b) ≡ one (is_finisher (role_in v b (v.nodes - 1)))
  pub runs : (p : Place) → (s.view hand).runs (name_at s p) ≡ one (runs_in v p.block p.node)
  pub scans : (t : SourceAt) → (s.view hand).scan (source_of s t) ≡ scan_in v t
  pub seen : (t : SourceAt) → (s.view hand).seen (source_of s t) ≡ seen_in v t
  -- and it has cells for as many places
  pub blocks : v.blocks ≡ s.blocks
  pub nodes : v.nodes ≡ size s

-- both are of the same tree, blocks, hands and scope
pub record SameTable (old new : State) : Type 0 where
  pub tree : new.tree ≡ old.tree
  pub blocks : new.blocks ≡ old.blocks
  pub hands : new.hands ≡ old.hands
  pub kind : new.kind ≡ old.kind
  pub most : new.most ≡ old.most

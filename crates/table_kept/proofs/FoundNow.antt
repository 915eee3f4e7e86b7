-- What a word of a live place says is what the state has: so it is of the word that a step finds there.
use Rattle.std.proofs.Common.{◌≡◌, ℕ, ◌<◌, ◌≤◌, true, not, ◌&&◌, ◌==◌, cond, sym, ap, ◌∙◌, subst, arith}
use Rattle.std.specs.Prelude.{Option}
use Rattle.std.proofs.lemmas.Bool.{and_from, cond-true, lt-ltb}
use Rattle.life_rules.specs.declared.words.ControlWord.{ControlWord}
use Rattle.life_rules.specs.declared.words.ControlWord.TheVariants.{Idle}
use Rattle.life_rules.specs.declared.words.CallbackPhase.{CallbackPhase}
use Rattle.life_rules.specs.declared.words.CallbackPhase.TheVariants.{Never}
use Rattle.life_rules.specs.declared.event.Name.{Name}
use Rattle.life_rules.specs.States.{State, is_live, control_at, phase_at}
use Rattle.life_rules.proofs.Readings.{lives}
use Rattle.table_words.specs.Stamps.{stamp_of}
use Rattle.table_words.specs.Controls.{control_read, callback_read}
use Rattle.table_words.specs.Layouts.{Spot, OfControl, OfCallback}
use Rattle.atomic_table.specs.Table as table
use Rattle.table_rules.specs.declared.cargo.Cargo.{Ghosts}
use Rattle.table_rules.specs.declared.frame.Frame.{Frame}
use Rattle.table_rules.specs.declared.view.View.{View}
use Rattle.table_rules.specs.ShownWords.{is_there, is_said, said_at, said, word_of, block_of}
use Rattle.table_rules.specs.Scenes.{shown}
use Rattle.table_rules.specs.Running.{Running}
use Rattle.table_steps.specs.Lefts.{FoundAs, FoundControl, FoundCallback}
use Rattle.table_steps.specs.Readings.{says_at, says_phase}
use Rattle.table_kept.proofs.LiveNames.{open-kept}

module _ {P E O : Type 0} (cargo : Ghosts P E O) (f : Frame O) (s : table.State (Option P) (View P E)) (r : Running cargo f s) (x : Name) (live : is_live (shown f s) x ≡ true) where
  abbrev now : State
  now = shown f s

  place-n : x.node < f.layout.nodes
  place-n = let l = (lives now x live).node in let e = r.frame.nodes in omega (arith, l, e)

  there : is_there f.layout x.block x.node ≡ true
  there = and_from _ _ (lt-ltb x.block f.layout.blocks (lives now x live).block) (lt-ltb x.node f.layout.nodes place-n)

  -- at the block's generation a live place's word is said, at another it isn't
  said-is : (w : ℕ) → is_said (now.block x.block) w ≡ (stamp_of w == x.generation)
  said-is w =
      let l = lives now x live in
      (λ k. not (open-kept (now.block x.block).state l.is_opened k) && stamp_of w == (now.block x.block).generation)
      ∙ ap (λ g. stamp_of w == g) (sym l.generation)

  module _ {A : Type 0} (first : A) (read : ℕ → A) (spot : ℕ → ℕ → Spot) where
    abbrev word : ℕ
    word = word_of f.layout s.words (spot x.block x.node)

    pub says-now : said f.layout s.words first read spot x.block x.node ≡ says_at first read x.generation word
    says-now =
        cond-true (is_there f.layout x.block x.node) (said_at (now.block x.block) first read word) first there
        ∙ ap (λ b. cond b (read word) first) (said-is word)

    pub found-as : (a : A) → stamp_of word ≤ (block_of f.layout s.words x.block).generation →
        said f.layout s.words first read spot x.block x.node ≡ a → FoundAs first read x a word
    found-as a stamped is =
        record {
          no_later = subst (λ g. stamp_of word ≤ g) (sym (lives now x live).generation) stamped;
          reads = sym says-now ∙ is;
        }

  -- the phase that the word says is the node's
  pub phase-said : phase_at now x ≡ says_phase x.generation (word_of f.layout s.words (OfCallback x.block x.node))
  phase-said =
      cond-true (is_live now x) (now.callback x.block x.node) Never live ∙ says-now Never callback_read OfCallback

  -- and so is what its control word says
  pub control-said : control_at now x ≡ says_at Idle control_read x.generation (word_of f.layout s.words (OfControl x.block x.node))
  control-said = cond-true (is_live now x) (now.control x.block x.node) Idle live ∙ says-now Idle control_read OfControl

  pub found-control : (c : ControlWord) → control_at now x ≡ c → FoundControl x c (word_of f.layout s.words (OfControl x.block x.node))
  found-control c is =
      found-as Idle control_read OfControl c (r.stamped.control x.block x.node (lives now x live).block place-n)
      (sym (cond-true (is_live now x) (now.control x.block x.node) Idle live) ∙ is)

  pub found-callback : (p : CallbackPhase) → phase_at now x ≡ p → FoundCallback x p (word_of f.layout s.words (OfCallback x.block x.node))
  found-callback p is =
      found-as Never callback_read OfCallback p (r.stamped.callback x.block x.node (lives now x live).block place-n)
      (sym (cond-true (is_live now x) (now.callback x.block x.node) Never live) ∙ is)

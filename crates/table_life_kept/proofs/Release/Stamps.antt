-- What the rule says of generations is kept where a block is given back.
use Rattle.std.proofs.Common.{◌≡◌, ℕ, ◌<◌, ◌≤◌, Bool, true, false, ◌==◌, List, Option, refl, sym, ap, ◌∙◌, subst, arith, ◌||◌, nat_lt, ◌+◌}
use Rattle.std.proofs.lemmas.Bool.{and_from, both_ways, cond-true, cond-false, eqb-true, lt-ltb}
use Rattle.life_rules.specs.declared.words.BlockWord.{BlockWord}
use Rattle.life_rules.specs.declared.words.ControlWord.TheVariants.{Idle}
use Rattle.life_rules.specs.declared.words.CallbackPhase.TheVariants.{Never}
use Rattle.life_rules.specs.declared.words.BlockState.TheVariants.{Free, Retired}
use Rattle.node_tree.specs.Tree.{has_source}
use Rattle.life_rules.specs.Words.{is_idle, is_under_way, is_armed, is_running, is_open}
use Rattle.life_rules.specs.States.{State, is_live, control_at, name_of, phase_at}
use Rattle.life_rules.specs.LifeSteps.{next_word, last_generation}
use Rattle.common_lemmas.proofs.Bool.{either}
use Rattle.life_rules.proofs.Readings.{is_live-from}
use Rattle.life_kept.proofs.Quiet.{MayRelease, quiet-all}
use Rattle.table_words.specs.Stamps.{stamp_of, code_of}
use Rattle.table_words.specs.Blocks.{block_read}
use Rattle.table_words.specs.Controls.{control_read, callback_read}
use Rattle.table_words.specs.Layouts.{OfBlock, OfControl, OfCallback, OfSource}
use Rattle.atomic_table.specs.Table as table
use Rattle.table_rules.specs.declared.cargo.Cargo.{Ghosts}
use Rattle.table_rules.specs.declared.frame.Frame.{Frame}
use Rattle.table_rules.specs.declared.view.View.{View}
use Rattle.table_rules.specs.ShownWords.{block_of, word_of, is_there, is_said, said_at, control_of}
use Rattle.table_rules.specs.Scenes.{shown}
use Rattle.table_rules.specs.Running.{Running}
use Rattle.table_kept.proofs.Codes.{open-code, retired-code}
use Rattle.table_kept.proofs.Stamping.{is_on, unsaid-kept, renewed-kept}
use Rattle.table_life_kept.proofs.WordsLive.{quiet-way}
use Rattle.table_life_kept.proofs.Release.Moves.{released_words, place-kept, block-there, said-released}

-- a block is given back: its word says the next generation
pub record Releases {P E O : Type 0} (cargo : Ghosts P E O) (f : Frame O) : Type 0 where
  pub state : table.State (Option P) (View P E)
  pub id : ℕ
  pub value : ℕ
  pub block : ℕ
  pub running : Running cargo f state
  pub within : block < f.layout.blocks
  pub opened : is_open (block_of f.layout state.words block).state ≡ true
  pub needs : MayRelease (shown f state) id block
  pub next : block_read value ≡ next_word (block_of f.layout state.words block)

module _ {P E O : Type 0} (cargo : Ghosts P E O) (f : Frame O) (task : Releases cargo f) where
  open task use {state as s, id, value, block as b, running as r, within as hb, opened, needs, next as word-next}

  abbrev now : State
  now = shown f s

  abbrev words : List ℕ
  words = released_words f.layout s.words r.sized.words b value hb word-next

  abbrev old_blocks : ℕ → BlockWord
  old_blocks = block_of f.layout s.words

  abbrev new_blocks : ℕ → BlockWord
  new_blocks = block_of f.layout words

  -- a control word of the block is of a node that was done, or hadn't begun
  settled-here : (m : ℕ) → m < f.layout.nodes → is_under_way (control_read (word_of f.layout s.words (OfControl b m))) ≡ false
  settled-here m hm =
      let w = word_of f.layout s.words (OfControl b m) in
      either (is_said (old_blocks b) w)
      (λ said.
      let y = name_of now b m in
      let e = r.frame.nodes in
      let y_live : is_live now y ≡ true = is_live-from now y (record {
        block = hb;
        node = omega (arith, hm, e);
        is_opened = opened;
        generation = refl;
      }) in
      let word : control_at now y ≡ control_read w =
      cond-true (is_live now y) (now.control b m) Idle y_live
      ∙ cond-true (is_there f.layout b m) (said_at (old_blocks b) Idle control_read w) Idle
      (and_from _ _ (lt-ltb b f.layout.blocks hb) (lt-ltb m f.layout.nodes hm))
      ∙ cond-true (is_said (old_blocks b) w) (control_read w) Idle said in
      ap is_under_way (sym word) ∙ quiet-way (control_at now y) (quiet-all now id b needs y refl).control)
      (r.stamped.settled b m hb hm)

  pub settled-after : (j m : ℕ) → j < f.layout.blocks → m < f.layout.nodes →
      is_said (new_blocks j) (word_of f.layout words (OfControl j m)) ≡ false →
      is_under_way (control_read (word_of f.layout words (OfControl j m))) ≡ false
  settled-after j m hj hm unsaid =
      let word = place-kept f.layout s.words r.sized.words b value hb word-next (OfControl j m) (hj, hm) (λ e. cc) in
      ap (λ w. is_under_way (control_read w)) word
      ∙ either (j == b)
      (λ t. subst (λ i. is_under_way (control_read (word_of f.layout s.words (OfControl i m))) ≡ false) (sym (eqb-true j b t)) (settled-here m hm))
      (λ apart.
      r.stamped.settled j m hj hm
      ((λ k. is_said (sym (block-there f.layout s.words r.sized.words b value hb word-next j apart) k) (sym word k)) ∙ unsaid))

  -- nor is a callback of the block armed, nor does it run
  quiet-here : (m : ℕ) → m < f.layout.nodes → is_on (word_of f.layout s.words (OfCallback b m)) ≡ false
  quiet-here m hm =
      let w = word_of f.layout s.words (OfCallback b m) in
      either (is_said (old_blocks b) w)
      (λ said.
      let y = name_of now b m in
      let e = r.frame.nodes in
      let y_live : is_live now y ≡ true = is_live-from now y (record {
        block = hb;
        node = omega (arith, hm, e);
        is_opened = opened;
        generation = refl;
      }) in
      let phase : phase_at now y ≡ callback_read w =
      cond-true (is_live now y) (now.callback b m) Never y_live
      ∙ cond-true (is_there f.layout b m) (said_at (old_blocks b) Never callback_read w) Never
      (and_from _ _ (lt-ltb b f.layout.blocks hb) (lt-ltb m f.layout.nodes hm))
      ∙ cond-true (is_said (old_blocks b) w) (callback_read w) Never said in
      ap (λ p. is_armed p || is_running p) (sym phase) ∙ (quiet-all now id b needs y refl).callback)
      (r.stamped.quiet b m hb hm)

  pub quiet-after : (j m : ℕ) → j < f.layout.blocks → m < f.layout.nodes →
      is_said (new_blocks j) (word_of f.layout words (OfCallback j m)) ≡ false → is_on (word_of f.layout words (OfCallback j m)) ≡ false
  quiet-after j m hj hm unsaid =
      let word = place-kept f.layout s.words r.sized.words b value hb word-next (OfCallback j m) (hj, hm) (λ e. cc) in
      either (j == b)
      (λ t. ap is_on word ∙ subst (λ i. is_on (word_of f.layout s.words (OfCallback i m)) ≡ false) (sym (eqb-true j b t)) (quiet-here m hm))
      (λ apart.
      unsaid-kept (old_blocks j) (new_blocks j) (word_of f.layout s.words (OfCallback j m)) (word_of f.layout words (OfCallback j m)) is_on
      (block-there f.layout s.words r.sized.words b value hb word-next j apart) word (r.stamped.quiet j m hj hm) unsaid)

  -- no node of the block has begun now
  pub renewed-after : (j m : ℕ) → j < f.layout.blocks → m < f.layout.nodes → has_source f.tree m ≡ true →
      is_idle (control_of f.layout words j m) ≡ false →
      stamp_of (word_of f.layout words (OfSource j m)) ≡ (new_blocks j).generation
  renewed-after j m hj hm has =
      let control = said-released f.layout s.words r.sized.words b value hb word-next Idle control_read OfControl
      (λ j m p q. (p, q)) (λ j m e. cc) (λ m hm. r.stamped.control b m hb hm) j m in
      either (j == b)
      (λ t begun.
      absurd (both_ways (is_idle (control_of f.layout words j m)) begun
      (ap is_idle (control ∙ cond-true (j == b) Idle (control_of f.layout s.words j m) t))))
      (λ apart.
      renewed-kept f.layout s.words words j m (control ∙ cond-false (j == b) Idle (control_of f.layout s.words j m) apart)
      (place-kept f.layout s.words r.sized.words b value hb word-next (OfSource j m) (hj, hm) (λ e. cc))
      (ap (λ w. w.generation) (block-there f.layout s.words r.sized.words b value hb word-next j apart)) (r.stamped.renewed j m hj hm has))

  -- the number that is written is greater than the one before
  pub number-more : word_of f.layout s.words (OfBlock b) ≤ value
  number-more =
      let w = word_of f.layout s.words (OfBlock b) in
      let first : BlockWord = record { generation = 0; state = Free } in
      let old : old_blocks b ≡ block_read w = cond-true (nat_lt b f.layout.blocks) (block_read w) first (lt-ltb b f.layout.blocks hb) in
      let stamp : (old_blocks b).generation ≡ stamp_of w = ap (λ (z : BlockWord). z.generation) old in
      let code = open-code (code_of w) (ap (λ (z : BlockWord). is_open z.state) (sym old) ∙ opened) in
      let last : BlockWord = record { generation = (old_blocks b).generation; state = Retired } in
      let next : BlockWord = record { generation = (old_blocks b).generation + 1; state = Free } in
      let final : Bool = (old_blocks b).generation == last_generation in
      either final
      (λ t.
      let is : block_read value ≡ last = word-next ∙ cond-true final last next t in
      let same = ap (λ (z : BlockWord). z.generation) is in
      let more = retired-code (code_of value) (ap (λ (z : BlockWord). z.state) is) in
      omega (arith, stamp, code, same, more))
      (λ ne.
      let later = ap (λ (z : BlockWord). z.generation) (word-next ∙ cond-false final last next ne) in
      omega (arith, stamp, later))

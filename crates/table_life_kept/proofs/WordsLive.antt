-- A control word that says that a node is under way is of a live node, and says what the node does now.
use Rattle.std.proofs.Common.{◌≡◌, ℕ, ◌<◌, true, false, ◌||◌, refl, sym, ap, ◌∙◌, arith}
use Rattle.std.specs.Prelude.{Option}
use Rattle.std.proofs.lemmas.Bool.{and_parts, and_from, both_ways, cond-true, eqb-true, lt-ltb}
use Rattle.life_rules.specs.declared.words.ControlWord.{ControlWord}
use Rattle.life_rules.specs.declared.words.ControlWord.TheVariants.{Idle, Busy, ReadyLoop, ReadyPool, Parked, Done}
use Rattle.life_rules.specs.declared.event.Name.{Name}
use Rattle.life_rules.specs.Words.{is_open, is_idle, is_done, is_under_way}
use Rattle.life_rules.specs.States.{State, is_live, control_at}
use Rattle.common_lemmas.proofs.Bool.{either}
use Rattle.life_rules.proofs.Readings.{is_live-from}
use Rattle.table_words.specs.Stamps.{stamp_of}
use Rattle.table_words.specs.Controls.{control_read}
use Rattle.table_words.specs.Layouts.{OfControl}
use Rattle.atomic_table.specs.Table as table
use Rattle.table_rules.specs.declared.cargo.Cargo.{Ghosts}
use Rattle.table_rules.specs.declared.frame.Frame.{Frame}
use Rattle.table_rules.specs.declared.view.View.{View}
use Rattle.table_rules.specs.ShownWords.{is_there, is_said, word_of, said_at}
use Rattle.table_rules.specs.Scenes.{shown}
use Rattle.table_rules.specs.Running.{Running}

-- a word that is idle or done says of no node that it is under way
pub quiet-way : (c : ControlWord) → (is_idle c || is_done c) ≡ true → is_under_way c ≡ false
quiet-way Idle h = refl
quiet-way (Busy n) h = cc
quiet-way ReadyLoop h = cc
quiet-way ReadyPool h = cc
quiet-way Parked h = cc
quiet-way Done h = refl

-- a live node, whose word reads so
pub record SaysLive (s : State) (x : Name) (w : ControlWord) : Type 0 where
  pub live : is_live s x ≡ true
  pub word : control_at s x ≡ w

-- a control word of a state in which the rule holds says that its node is under way
pub record LiveWord {P E O : Type 0} (cargo : Ghosts P E O) (f : Frame O) : Type 0 where
  pub state : table.State (Option P) (View P E)
  pub name : Name
  pub word : ControlWord
  pub running : Running cargo f state
  pub within : name.block < f.layout.blocks
  pub node_within : name.node < f.layout.nodes
  pub stamped : stamp_of (word_of f.layout state.words (OfControl name.block name.node)) ≡ name.generation
  pub reads : control_read (word_of f.layout state.words (OfControl name.block name.node)) ≡ word
  pub under_way : is_under_way word ≡ true

module _ {P E O : Type 0} (cargo : Ghosts P E O) (f : Frame O) (task : LiveWord cargo f) where
  open task use {state as s, name as x, word as w, running as r, within as hb, node_within as hn, stamped, reads, under_way}

  abbrev now : State
  now = shown f s

  abbrev word : ℕ
  word = word_of f.layout s.words (OfControl x.block x.node)

  said : is_said (now.block x.block) word ≡ true
  said =
      either (is_said (now.block x.block) word) (λ t. t)
      (λ n. absurd (both_ways (is_under_way w) (ap is_under_way (sym reads) ∙ r.stamped.settled x.block x.node hb hn n) under_way))

  control-is : now.control x.block x.node ≡ w
  control-is =
      cond-true (is_there f.layout x.block x.node) (said_at (now.block x.block) Idle control_read word) Idle
      (and_from _ _ (lt-ltb x.block f.layout.blocks hb) (lt-ltb x.node f.layout.nodes hn))
      ∙ cond-true (is_said (now.block x.block) word) (control_read word) Idle said ∙ reads

  pub says-live : SaysLive now x w
  says-live =
      let opened : is_open (now.block x.block).state ≡ true =
      either (is_open (now.block x.block).state) (λ t. t)
      (λ shut. absurd (both_ways (is_under_way w)
      (ap is_under_way (sym control-is ∙ (r.stands.sound.owned.unused x.block x.node shut).control)) under_way)) in
      let live : is_live now x ≡ true =
      is_live-from now x (record {
        block = hb;
        node = (let e = r.frame.nodes in omega (arith, hn, e));
        is_opened = opened;
        generation = sym stamped ∙ eqb-true _ _ (and_parts _ _ said).1;
      }) in
      record { live = live; word = cond-true (is_live now x) (now.control x.block x.node) Idle live ∙ control-is }

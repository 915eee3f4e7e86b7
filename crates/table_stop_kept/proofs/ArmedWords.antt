-- A callback word that says armed is of a live node, whose callback is armed now. One that doesn't says that
-- the place's callback isn't.
use Rattle.std.proofs.Common.{◌≡◌, ℕ, ◌<◌, ◌≤◌, true, false, ◌||◌, ◌==◌, refl, sym, ap, ◌∙◌, arith}
use Rattle.std.specs.Prelude.{Option, nat_le}
use Rattle.std.proofs.lemmas.Bool.{and_parts, and_from, or_left, both_ways, cond-true, cond-false, eqb-true, eq-eqb, lt-ltb, leb-true, leb-false}
use Rattle.life_rules.specs.declared.words.CallbackPhase.TheVariants.{Never, Armed}
use Rattle.life_rules.specs.declared.event.Name.{Name}
use Rattle.life_rules.specs.Words.{is_open, is_armed, is_running}
use Rattle.life_rules.specs.States.{State, is_live, name_of, phase_at}
use Rattle.common_lemmas.proofs.Bool.{either}
use Rattle.life_rules.proofs.Readings.{is_live-from}
use Rattle.stop_kept.proofs.Phases.{armed-is}
use Rattle.table_words.specs.Stamps.{stamp_of}
use Rattle.table_words.specs.Controls.{callback_read, callback_written}
use Rattle.table_words.specs.Layouts.{OfCallback}
use Rattle.atomic_table.specs.Table as table
use Rattle.table_rules.specs.declared.cargo.Cargo.{Ghosts}
use Rattle.table_rules.specs.declared.frame.Frame.{Frame}
use Rattle.table_rules.specs.declared.view.View.{View}
use Rattle.table_rules.specs.ShownWords.{is_there, is_said, word_of, said_at}
use Rattle.table_rules.specs.Scenes.{shown}
use Rattle.table_rules.specs.Running.{Running}
use Rattle.table_steps.specs.Runs.{says_armed}
use Rattle.table_stop_kept.proofs.Withdraw.Allowed.{armed-word}

-- an armed word is the one that is written at its generation
pub armed-written : (w : ℕ) → says_armed w ≡ true → w ≡ callback_written (stamp_of w) Armed
armed-written w armed =
    let same : (stamp_of w == stamp_of w) ≡ true = eq-eqb _ _ refl in
    armed-word (stamp_of w) w (ap is_armed (cond-true (stamp_of w == stamp_of w) (callback_read w) Never same) ∙ armed)

-- so another armed word that is no smaller is of a later generation
pub armed-later : (w n : ℕ) → says_armed w ≡ true → says_armed n ≡ true → w ≤ n → (n ≡ w → ⊥) → stamp_of w < stamp_of n
armed-later w n armed_w armed_n rises other =
    either (nat_le (stamp_of n) (stamp_of w))
    (λ t.
    let falls = leb-true (stamp_of n) (stamp_of w) t in
    let same : stamp_of n ≡ stamp_of w = omega (arith, rises, falls) in
    absurd (other (armed-written n armed_n ∙ ap (λ g. callback_written g Armed) same ∙ sym (armed-written w armed_w))))
    (λ f. leb-false (stamp_of n) (stamp_of w) f)

-- a place of the table, in a state in which the rule holds
pub record PlaceNow {P E O : Type 0} (cargo : Ghosts P E O) (f : Frame O) : Type 0 where
  pub state : table.State (Option P) (View P E)
  pub running : Running cargo f state
  pub block : ℕ
  pub node : ℕ
  pub in_blocks : block < f.layout.blocks
  pub in_nodes : node < f.layout.nodes

module _ {P E O : Type 0} (cargo : Ghosts P E O) (f : Frame O) (place : PlaceNow cargo f) where
  open place use {state as s, running as r, block as b, node as m, in_blocks as hb, in_nodes as hm}

  abbrev now : State
  now = shown f s

  abbrev x : Name
  x = name_of now b m

  abbrev word : ℕ
  word = word_of f.layout s.words (OfCallback b m)

  there : is_there f.layout b m ≡ true
  there = and_from _ _ (lt-ltb b f.layout.blocks hb) (lt-ltb m f.layout.nodes hm)

  module _ (armed : says_armed word ≡ true) where
    said : is_said (now.block b) word ≡ true
    said =
        either (is_said (now.block b) word) (λ t. t)
        (λ unsaid.
        absurd (both_ways (is_armed (callback_read word) || is_running (callback_read word)) (r.stamped.quiet b m hb hm unsaid)
        (or_left (is_armed (callback_read word)) (is_running (callback_read word)) armed)))

    callback-is : now.callback b m ≡ Armed
    callback-is =
        cond-true (is_there f.layout b m) (said_at (now.block b) Never callback_read word) Never there
        ∙ cond-true (is_said (now.block b) word) (callback_read word) Never said
        ∙ armed-is (callback_read word) armed

    opened : is_open (now.block b).state ≡ true
    opened =
        either (is_open (now.block b).state) (λ t. t)
        (λ shut.
        absurd (both_ways (is_armed (now.callback b m)) (ap is_armed (r.stands.sound.owned.unused b m shut).callback)
        (ap is_armed callback-is)))

    pub armed-live : is_live now x ≡ true
    armed-live =
        is_live-from now x (record {
          block = hb;
          node = (let e = r.frame.nodes in omega (arith, hm, e));
          is_opened = opened;
          generation = refl;
        })

    pub armed-phase : phase_at now x ≡ Armed
    armed-phase = cond-true (is_live now x) (now.callback b m) Never armed-live ∙ callback-is

    pub armed-stamp : stamp_of word ≡ x.generation
    armed-stamp = eqb-true _ _ (and_parts _ _ said).1

  pub unarmed-phase : says_armed word ≡ false → is_armed (phase_at now x) ≡ false
  unarmed-phase unarmed =
      either (is_live now x)
      (λ live.
      ap is_armed
      (cond-true (is_live now x) (now.callback b m) Never live
      ∙ cond-true (is_there f.layout b m) (said_at (now.block b) Never callback_read word) Never there)
      ∙ either (is_said (now.block b) word)
      (λ t. ap is_armed (cond-true (is_said (now.block b) word) (callback_read word) Never t) ∙ unarmed)
      (λ n. ap is_armed (cond-false (is_said (now.block b) word) (callback_read word) Never n)))
      (λ dead. ap is_armed (cond-false (is_live now x) (now.callback b m) Never dead))

-- The words of a table after a node's control word was written at its block's generation.
use Rattle.std.proofs.Common.{◌≡◌, ℕ, ◌<◌, true, false, not, ◌&&◌, ◌==◌, List, length, set, sym, ap, ◌∙◌}
use Rattle.std.proofs.lemmas.Bool.{and_parts, and_from, cond-true, cond-false, both_ways, eqb-true, eq-eqb, lt-ltb}
use Rattle.life_rules.specs.declared.words.ControlWord.{ControlWord}
use Rattle.life_rules.specs.declared.words.ControlWord.TheVariants.{Idle}
use Rattle.life_rules.specs.States.{set_at}
use Rattle.common_lemmas.proofs.Bool.{either}
use Rattle.table_words.specs.declared.layout.Layout.{Layout}
use Rattle.table_words.specs.Stamps.{stamp_of}
use Rattle.table_words.specs.Controls.{control_read}
use Rattle.table_words.specs.Layouts.{Spot, OfControl, IsSpot, index, words_in}
use Rattle.table_rules.specs.ShownWords.{is_retired, is_there, word_of, block_of, said, said_at, control_of}
use Rattle.table_kept.proofs.WordMoves.{word-here}
use Rattle.table_kept.proofs.PlaceMoves as places

-- a number is written as a node's control word, at the node's generation
pub record WritesControl (l : Layout) (words : List ℕ) : Type 0 where
  pub wide : length words ≡ words_in l
  pub block : ℕ
  pub node : ℕ
  pub value : ℕ
  pub word : ControlWord
  pub within : block < l.blocks
  pub node_within : node < l.nodes
  pub kept : is_retired (block_of l words block).state ≡ false
  pub stamped : stamp_of value ≡ (block_of l words block).generation
  pub reads : control_read value ≡ word

module _ (l : Layout) (words : List ℕ) (task : WritesControl l words) where
  open task use {wide, block as b, node as n, value, word as w, within as hb, node_within as hn, kept, stamped, reads}

  abbrev pub control_words : List ℕ
  control_words = set words (index l (OfControl b n)) value

  pub spot-same : (x : Spot) → IsSpot l x → (OfControl b n ≡ x → ⊥) → word_of l control_words x ≡ word_of l words x
  spot-same = places.spot-same l words wide (OfControl b n) (hb, hn) (λ i e. cc) value

  -- blocks' words are as before
  pub blocks-same : (i : ℕ) → block_of l control_words i ≡ block_of l words i
  blocks-same = places.blocks-same l words wide (OfControl b n) (hb, hn) (λ i e. cc) value

  -- and so are the words of places of another kind
  pub others-same : {A : Type 0} (first : A) (read : ℕ → A) (spot : ℕ → ℕ → Spot) →
      ((i m : ℕ) → i < l.blocks → m < l.nodes → IsSpot l (spot i m)) →
      ((i m : ℕ) → OfControl b n ≡ spot i m → ⊥) → (i m : ℕ) →
      said l control_words first read spot i m ≡ said l words first read spot i m
  others-same first read spot is_spot ne i m =
      places.said-same l words wide (OfControl b n) (hb, hn) (λ i e. cc) value first read spot i m (is_spot i m) (ne i m)

  control-here : control_of l control_words b n ≡ w
  control-here =
      let there : is_there l b n ≡ true = and_from _ _ (lt-ltb b l.blocks hb) (lt-ltb n l.nodes hn) in
      let present : (not (is_retired (block_of l words b).state) && stamp_of value == (block_of l words b).generation) ≡ true =
      and_from _ _ (ap not kept) (eq-eqb (stamp_of value) (block_of l words b).generation stamped) in
      cond-true (is_there l b n) (said_at (block_of l control_words b) Idle control_read (word_of l control_words (OfControl b n))) Idle there
      ∙ (λ k. said_at (blocks-same b k) Idle control_read (word-here l words wide (OfControl b n) (hb, hn) value k))
      ∙ cond-true (not (is_retired (block_of l words b).state) && stamp_of value == (block_of l words b).generation) (control_read value) Idle present
      ∙ reads

  control-other : (i m : ℕ) → (i == b && m == n) ≡ false → control_of l control_words i m ≡ control_of l words i m
  control-other i m apart =
      places.said-same l words wide (OfControl b n) (hb, hn) (λ i e. cc) value Idle control_read OfControl i m (λ p q. (p, q))
      (λ e.
      let p : b ≡ i = cc in
      let q : n ≡ m = cc in
      both_ways (i == b && m == n) apart (and_from (i == b) (m == n) (eq-eqb i b (sym p)) (eq-eqb m n (sym q))))

  -- the control word that was written says what it was written for, the others say what they said
  pub control-after : (i m : ℕ) → control_of l control_words i m ≡ set_at (control_of l words) b n w i m
  control-after i m =
      either (i == b && m == n)
      (λ t.
      let parts = and_parts (i == b) (m == n) t in
      (λ k. control_of l control_words (eqb-true i b parts.0 k) (eqb-true m n parts.1 k)) ∙ control-here
      ∙ sym (cond-true (i == b && m == n) w (control_of l words i m) t))
      (λ f. control-other i m f ∙ sym (cond-false (i == b && m == n) w (control_of l words i m) f))

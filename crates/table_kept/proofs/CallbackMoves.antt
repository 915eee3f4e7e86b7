-- The words of a table after a node's callback word was written at its block's generation.
use Rattle.std.proofs.Common.{◌≡◌, ℕ, ◌<◌, true, false, not, ◌&&◌, ◌==◌, List, length, set, sym, ap, ◌∙◌}
use Rattle.std.proofs.lemmas.Bool.{and_parts, and_from, cond-true, cond-false, both_ways, eqb-true, eq-eqb, lt-ltb}
use Rattle.life_rules.specs.declared.words.CallbackPhase.{CallbackPhase}
use Rattle.life_rules.specs.declared.words.CallbackPhase.TheVariants.{Never}
use Rattle.life_rules.specs.States.{set_at}
use Rattle.common_lemmas.proofs.Bool.{either}
use Rattle.table_words.specs.declared.layout.Layout.{Layout}
use Rattle.table_words.specs.Stamps.{stamp_of}
use Rattle.table_words.specs.Controls.{callback_read}
use Rattle.table_words.specs.Layouts.{Spot, OfCallback, IsSpot, index, words_in}
use Rattle.table_rules.specs.ShownWords.{is_retired, is_there, word_of, block_of, said, said_at, callback_of}
use Rattle.table_kept.proofs.WordMoves.{word-here}
use Rattle.table_kept.proofs.PlaceMoves as places

-- a number is written as a node's callback word, at the node's generation
pub record WritesCallback (l : Layout) (words : List ℕ) : Type 0 where
  pub wide : length words ≡ words_in l
  pub block : ℕ
  pub node : ℕ
  pub value : ℕ
  pub phase : CallbackPhase
  pub within : block < l.blocks
  pub node_within : node < l.nodes
  pub kept : is_retired (block_of l words block).state ≡ false
  pub stamped : stamp_of value ≡ (block_of l words block).generation
  pub reads : callback_read value ≡ phase

module _ (l : Layout) (words : List ℕ) (task : WritesCallback l words) where
  open task use {wide, block as b, node as n, value, phase, within as hb, node_within as hn, kept, stamped, reads}

  abbrev pub callback_words : List ℕ
  callback_words = set words (index l (OfCallback b n)) value

  pub spot-same : (x : Spot) → IsSpot l x → (OfCallback b n ≡ x → ⊥) → word_of l callback_words x ≡ word_of l words x
  spot-same = places.spot-same l words wide (OfCallback b n) (hb, hn) (λ i e. cc) value

  -- blocks' words are as before
  pub blocks-same : (i : ℕ) → block_of l callback_words i ≡ block_of l words i
  blocks-same = places.blocks-same l words wide (OfCallback b n) (hb, hn) (λ i e. cc) value

  -- and so are the words of places of another kind
  pub others-same : {A : Type 0} (first : A) (read : ℕ → A) (spot : ℕ → ℕ → Spot) →
      ((i m : ℕ) → i < l.blocks → m < l.nodes → IsSpot l (spot i m)) →
      ((i m : ℕ) → OfCallback b n ≡ spot i m → ⊥) → (i m : ℕ) →
      said l callback_words first read spot i m ≡ said l words first read spot i m
  others-same first read spot is_spot ne i m =
      places.said-same l words wide (OfCallback b n) (hb, hn) (λ i e. cc) value first read spot i m (is_spot i m) (ne i m)

  callback-here : callback_of l callback_words b n ≡ phase
  callback-here =
      let there : is_there l b n ≡ true = and_from _ _ (lt-ltb b l.blocks hb) (lt-ltb n l.nodes hn) in
      let present : (not (is_retired (block_of l words b).state) && stamp_of value == (block_of l words b).generation) ≡ true =
      and_from _ _ (ap not kept) (eq-eqb (stamp_of value) (block_of l words b).generation stamped) in
      cond-true (is_there l b n) (said_at (block_of l callback_words b) Never callback_read (word_of l callback_words (OfCallback b n))) Never there
      ∙ (λ k. said_at (blocks-same b k) Never callback_read (word-here l words wide (OfCallback b n) (hb, hn) value k))
      ∙ cond-true (not (is_retired (block_of l words b).state) && stamp_of value == (block_of l words b).generation) (callback_read value) Never present
      ∙ reads

  callback-other : (i m : ℕ) → (i == b && m == n) ≡ false → callback_of l callback_words i m ≡ callback_of l words i m
  callback-other i m apart =
      places.said-same l words wide (OfCallback b n) (hb, hn) (λ i e. cc) value Never callback_read OfCallback i m (λ p q. (p, q))
      (λ e.
      let p : b ≡ i = cc in
      let q : n ≡ m = cc in
      both_ways (i == b && m == n) apart (and_from (i == b) (m == n) (eq-eqb i b (sym p)) (eq-eqb m n (sym q))))

  -- the callback word that was written says what it was written for, the others say what they said
  pub callback-after : (i m : ℕ) → callback_of l callback_words i m ≡ set_at (callback_of l words) b n phase i m
  callback-after i m =
      either (i == b && m == n)
      (λ t.
      let parts = and_parts (i == b) (m == n) t in
      (λ k. callback_of l callback_words (eqb-true i b parts.0 k) (eqb-true m n parts.1 k)) ∙ callback-here
      ∙ sym (cond-true (i == b && m == n) phase (callback_of l words i m) t))
      (λ f. callback-other i m f ∙ sym (cond-false (i == b && m == n) phase (callback_of l words i m) f))

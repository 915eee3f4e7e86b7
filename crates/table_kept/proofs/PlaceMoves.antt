-- The words of a table after a word of one of its places was written.
use Rattle.std.proofs.Common.{◌≡◌, ℕ, ◌<◌, nat_lt, cond, List, length, set, sym, ◌∙◌}
use Rattle.std.proofs.lemmas.Bool.{cond-false, ltb-true}
use Rattle.life_rules.specs.declared.words.BlockWord.{BlockWord}
use Rattle.life_rules.specs.declared.words.BlockState.TheVariants.{Free}
use Rattle.common_lemmas.proofs.Bool.{either}
use Rattle.table_words.specs.declared.layout.Layout.{Layout}
use Rattle.table_words.specs.Blocks.{block_read}
use Rattle.table_words.specs.Layouts.{Spot, OfBlock, IsSpot, index, words_in}
use Rattle.table_rules.specs.ShownWords.{is_there, word_of, block_of, said, said_at}
use Rattle.table_kept.proofs.WordMoves.{word-other, there-place}

module _ (l : Layout) (words : List ℕ) (wide : length words ≡ words_in l) (at : Spot) (is_at : IsSpot l at) (apart : (i : ℕ) → at ≡ OfBlock i → ⊥) (value : ℕ) where
  abbrev pub place_words : List ℕ
  place_words = set words (index l at) value

  pub spot-same : (x : Spot) → IsSpot l x → (at ≡ x → ⊥) → word_of l place_words x ≡ word_of l words x
  spot-same x is ne = word-other l words wide at x is_at is ne value

  -- blocks' words are as before
  pub blocks-same : (i : ℕ) → block_of l place_words i ≡ block_of l words i
  blocks-same i =
      let first : BlockWord = record { generation = 0; state = Free } in
      either (nat_lt i l.blocks)
      (λ t. λ k. cond (nat_lt i l.blocks) (block_read (spot-same (OfBlock i) (ltb-true i l.blocks t) (apart i) k)) first)
      (λ f.
      cond-false (nat_lt i l.blocks) (block_read (word_of l place_words (OfBlock i))) first f
      ∙ sym (cond-false (nat_lt i l.blocks) (block_read (word_of l words (OfBlock i))) first f))

  -- a place of which another word was written, or none, says what it said
  pub said-same : {A : Type 0} (first : A) (read : ℕ → A) (spot : ℕ → ℕ → Spot) (i m : ℕ) →
      (i < l.blocks → m < l.nodes → IsSpot l (spot i m)) → (at ≡ spot i m → ⊥) →
      said l place_words first read spot i m ≡ said l words first read spot i m
  said-same first read spot i m is_spot ne =
      either (is_there l i m)
      (λ t.
      let there = there-place l i m t in
      λ k. cond (is_there l i m)
      (said_at (blocks-same i k) first read (spot-same (spot i m) (is_spot there.0 there.1) ne k)) first)
      (λ f. cond-false (is_there l i m) _ first f ∙ sym (cond-false (is_there l i m) _ first f))

-- The words of a table after one of them was written.
use Rattle.std.proofs.Common.{◌≡◌, ℕ, ◌<◌, true, false, not, ◌&&◌, ◌==◌, nat_lt, cond, List, length, set, refl, sym, ap, ◌∙◌, arith}
use Rattle.std.proofs.lemmas.Bool.{and_parts, and_from, cond-true, cond-false, both_ways, eqb-true, eq-eqb, ltb-true, lt-ltb}
use Rattle.std.proofs.lemmas.List.{get_or-set_same, get_or-set_other}
use Rattle.life_rules.specs.declared.words.BlockWord.{BlockWord}
use Rattle.life_rules.specs.declared.words.BlockState.{BlockState}
use Rattle.life_rules.specs.declared.words.BlockState.TheVariants.{Free, Open, Retired}
use Rattle.life_rules.specs.Words.{is_free}
use Rattle.common_lemmas.proofs.Bool.{either}
use Rattle.table_words.specs.declared.layout.Layout.{Layout}
use Rattle.table_words.specs.Stamps.{stamp_of}
use Rattle.table_words.specs.Blocks.{block_read}
use Rattle.table_words.specs.Layouts.{Spot, OfBlock, IsSpot, index, words_in}
use Rattle.table_words.proofs.Spots.{apart, within}
use Rattle.table_rules.specs.ShownWords.{is_retired, is_there, word_of, block_of, said}

pub free-kept : (w : BlockState) → is_free w ≡ true → is_retired w ≡ false
free-kept Free h = refl
free-kept Open h = refl
free-kept Retired h = cc

module _ (l : Layout) (words : List ℕ) (wide : length words ≡ words_in l) where
  pub word-here : (x : Spot) → IsSpot l x → (n : ℕ) → word_of l (set words (index l x) n) x ≡ n
  word-here x is n = get_or-set_same words (index l x) n 0 (let w = within l x is in omega (arith, w, wide))

  pub word-other : (x y : Spot) → IsSpot l x → IsSpot l y → (x ≡ y → ⊥) → (n : ℕ) →
      word_of l (set words (index l x) n) y ≡ word_of l words y
  word-other x y is_x is_y ne n =
      get_or-set_other words (index l x) (index l y) n 0 (λ e. ne (sym (apart l y x is_y is_x e)))

pub there-place : (l : Layout) (b n : ℕ) → is_there l b n ≡ true → (b < l.blocks) × (n < l.nodes)
there-place l b n is =
    let parts = and_parts (nat_lt b l.blocks) (nat_lt n l.nodes) is in
    (ltb-true b l.blocks parts.0, ltb-true n l.nodes parts.1)

pub place-there : (l : Layout) (b n : ℕ) → b < l.blocks → n < l.nodes → is_there l b n ≡ true
place-there l b n hb hn =
    and_from (nat_lt b l.blocks) (nat_lt n l.nodes) (lt-ltb b l.blocks hb) (lt-ltb n l.nodes hn)

-- A block's word becomes open, and was free.
module _ (l : Layout) (words : List ℕ) (wide : length words ≡ words_in l) (b n : ℕ) (hb : b < l.blocks) (free : is_free (block_of l words b).state ≡ true) (reads : block_read n ≡ record (block_of l words b) { state = Open }) where
  abbrev pub opened_words : List ℕ
  opened_words = set words (index l (OfBlock b)) n

  abbrev opened : BlockWord
  opened = record (block_of l words b) { state = Open }

  block-here : block_of l opened_words b ≡ opened
  block-here =
      let first : BlockWord = record { generation = 0; state = Free } in
      cond-true (nat_lt b l.blocks) (block_read (word_of l opened_words (OfBlock b))) first (lt-ltb b l.blocks hb)
      ∙ ap block_read (word-here l words wide (OfBlock b) hb n) ∙ reads

  block-other : (i : ℕ) → (i == b) ≡ false → block_of l opened_words i ≡ block_of l words i
  block-other i ne =
      let first : BlockWord = record { generation = 0; state = Free } in
      either (nat_lt i l.blocks)
      (λ t.
      let differ : OfBlock b ≡ OfBlock i → ⊥ =
      λ e. let same : b ≡ i = cc in both_ways (i == b) ne (eq-eqb i b (sym same)) in
      λ k. cond (nat_lt i l.blocks)
      (block_read (word-other l words wide (OfBlock b) (OfBlock i) hb (ltb-true i l.blocks t) differ n k)) first)
      (λ f.
      cond-false (nat_lt i l.blocks) (block_read (word_of l opened_words (OfBlock i))) first f
      ∙ sym (cond-false (nat_lt i l.blocks) (block_read (word_of l words (OfBlock i))) first f))

  pub block-after : (i : ℕ) → block_of l opened_words i ≡ cond (i == b) opened (block_of l words i)
  block-after i =
      either (i == b)
      (λ t. ap (block_of l opened_words) (eqb-true i b t) ∙ block-here
      ∙ sym (cond-true (i == b) opened (block_of l words i) t))
      (λ f. block-other i f ∙ sym (cond-false (i == b) opened (block_of l words i) f))

  -- what is the same of the opened block is the same of all
  kept-after : {A : Type 0} (f : BlockWord → A) → f opened ≡ f (block_of l words b) → (i : ℕ) →
      f (block_of l opened_words i) ≡ f (block_of l words i)
  kept-after f same i =
      either (i == b)
      (λ t. ap f (ap (block_of l opened_words) (eqb-true i b t) ∙ block-here) ∙ same
      ∙ ap (λ j. f (block_of l words j)) (sym (eqb-true i b t)))
      (λ ne. ap f (block-other i ne))

  pub generation-after : (i : ℕ) → (block_of l opened_words i).generation ≡ (block_of l words i).generation
  generation-after = kept-after (λ w. w.generation) refl

  pub retired-after : (i : ℕ) → is_retired (block_of l opened_words i).state ≡ is_retired (block_of l words i).state
  retired-after = kept-after (λ w. is_retired w.state) (sym (free-kept (block_of l words b).state free))

  pub place-after : (x : Spot) → IsSpot l x → (OfBlock b ≡ x → ⊥) → word_of l opened_words x ≡ word_of l words x
  place-after x is ne = word-other l words wide (OfBlock b) x hb is ne n

  -- the words of places say what they said
  pub said-after : {A : Type 0} (first : A) (read : ℕ → A) (spot : ℕ → ℕ → Spot) →
      ((i m : ℕ) → i < l.blocks → m < l.nodes → IsSpot l (spot i m)) →
      ((i m : ℕ) → OfBlock b ≡ spot i m → ⊥) → (i m : ℕ) →
      said l opened_words first read spot i m ≡ said l words first read spot i m
  said-after first read spot is_spot ne i m =
      either (is_there l i m)
      (λ t.
      let at = there-place l i m t in
      let w : word_of l opened_words (spot i m) ≡ word_of l words (spot i m) =
      place-after (spot i m) (is_spot i m at.0 at.1) (ne i m) in
      λ k. cond (is_there l i m)
      (cond (not (retired-after i k) && stamp_of (w k) == generation-after i k) (read (w k)) first) first)
      (λ f.
      cond-false (is_there l i m) _ first f ∙ sym (cond-false (is_there l i m) _ first f))

-- The words and views of a table after a block was given back.
use Rattle.std.proofs.Common.{◌≡◌, ℕ, ◌<◌, ◌≤◌, Bool, true, false, not, ◌&&◌, ◌==◌, nat_lt, cond, List, [], ◌∷◌, length, set, refl, sym, ap, ◌∙◌, subst, arith}
use Rattle.std.specs.List.{list_any}
use Rattle.std.proofs.lemmas.Bool.{both_ways, cond-true, cond-false, eqb-true, eq-eqb, false_from_ne_true, ltb-true, lt-ltb}
use Rattle.life_rules.specs.declared.words.BlockWord.{BlockWord}
use Rattle.life_rules.specs.declared.words.BlockState.TheVariants.{Free}
use Rattle.life_rules.specs.declared.event.Name.{Name}
use Rattle.life_rules.specs.declared.event.SourceRef.{SourceRef}
use Rattle.life_rules.specs.declared.event.SourceRef.TheVariants.{Scope, Node}
use Rattle.life_rules.specs.Views.{same, same_source, forget, is_in_block}
use Rattle.life_rules.specs.LifeSteps.{next_word}
use Rattle.common_lemmas.proofs.Bool.{either}
use Rattle.life_rules.proofs.Names.{same_source-true}
use Rattle.table_words.specs.declared.layout.Layout.{Layout}
use Rattle.table_words.specs.Stamps.{stamp_of}
use Rattle.table_words.specs.Blocks.{block_read}
use Rattle.table_words.specs.Layouts.{Spot, OfBlock, IsSpot, index, words_in}
use Rattle.table_rules.specs.declared.view.View.{View}
use Rattle.table_rules.specs.Named.{count_by, Each}
use Rattle.table_rules.specs.ShownWords.{is_said, said_at, is_there, word_of, block_of, said, is_present, is_present_source}
use Rattle.table_rules.specs.ShownViews.{shown_view, scan_in, has_name, has_source_ref}
use Rattle.table_kept.proofs.Entries.{each-has}
use Rattle.table_kept.proofs.BeginSeats.{or-cases}
use Rattle.table_life_kept.proofs.Release.Views.{next-more, next-past}
use Rattle.table_kept.proofs.WordMoves.{word-here, word-other, there-place}

-- what holds of each source of a list holds of one that it has
source-each : (Q : SourceRef → Type 0) (l : List SourceRef) (x : SourceRef) → Each Q l → has_source_ref l x ≡ true → Q x
source-each Q [] x all h = cc
source-each Q (y ∷ ys) x all h =
    or-cases (same_source y x) (list_any (λ y. same_source y x) ys) h (λ here. subst Q (same_source-true y x here) all.0)
    (λ later. source-each Q ys x all.1 later)

-- a note that is kept only where its name is of another block
noted-apart : (has now before in_block : Bool) → (has ≡ true → now ≡ true → in_block ≡ false) → (in_block ≡ false → now ≡ before) →
    (has && now) ≡ ((has && before) && not in_block)
noted-apart false now before in_block apart same = refl
noted-apart true now before true apart same =
    false_from_ne_true now (λ t. both_ways true (apart refl t) refl) ∙ sym (and-none before)
  where
    and-none : (a : Bool) → (a && false) ≡ false
    and-none true = refl
    and-none false = refl
noted-apart true now before false apart same = same refl ∙ sym (and-one before)
  where
    and-one : (a : Bool) → (a && true) ≡ a
    and-one true = refl
    and-one false = refl

module _ (l : Layout) (words : List ℕ) (wide : length words ≡ words_in l) (b value : ℕ) (hb : b < l.blocks) (reads : block_read value ≡ next_word (block_of l words b)) where
  abbrev pub released_words : List ℕ
  released_words = set words (index l (OfBlock b)) value

  pub place-kept : (x : Spot) → IsSpot l x → (OfBlock b ≡ x → ⊥) → word_of l released_words x ≡ word_of l words x
  place-kept x is ne = word-other l words wide (OfBlock b) x hb is ne value

  block-here : block_of l released_words b ≡ next_word (block_of l words b)
  block-here =
      let first : BlockWord = record { generation = 0; state = Free } in
      cond-true (nat_lt b l.blocks) (block_read (word_of l released_words (OfBlock b))) first (lt-ltb b l.blocks hb)
      ∙ ap block_read (word-here l words wide (OfBlock b) hb value) ∙ reads

  pub block-there : (i : ℕ) → (i == b) ≡ false → block_of l released_words i ≡ block_of l words i
  block-there i ne =
      let first : BlockWord = record { generation = 0; state = Free } in
      either (nat_lt i l.blocks)
      (λ t.
      let differ : OfBlock b ≡ OfBlock i → ⊥ =
      λ e. let is : b ≡ i = cc in both_ways (i == b) ne (eq-eqb i b (sym is)) in
      λ k. cond (nat_lt i l.blocks) (block_read (place-kept (OfBlock i) (ltb-true i l.blocks t) differ k)) first)
      (λ f.
      cond-false (nat_lt i l.blocks) (block_read (word_of l released_words (OfBlock i))) first f
      ∙ sym (cond-false (nat_lt i l.blocks) (block_read (word_of l words (OfBlock i))) first f))

  pub block-released : (i : ℕ) → block_of l released_words i ≡ cond (i == b) (next_word (block_of l words b)) (block_of l words i)
  block-released i =
      either (i == b)
      (λ t. ap (block_of l released_words) (eqb-true i b t) ∙ block-here
      ∙ sym (cond-true (i == b) (next_word (block_of l words b)) (block_of l words i) t))
      (λ f. block-there i f ∙ sym (cond-false (i == b) (next_word (block_of l words b)) (block_of l words i) f))

  -- no block is of an earlier generation than before
  pub stamp-later : (i w : ℕ) → w ≤ (block_of l words i).generation → w ≤ (block_of l released_words i).generation
  stamp-later i w old =
      either (i == b)
      (λ t.
      let e = ap (λ z. z.generation) (block-released i ∙ cond-true (i == b) (next_word (block_of l words b)) (block_of l words i) t) in
      let same = ap (λ j. (block_of l words j).generation) (eqb-true i b t) in
      let more = next-more (block_of l words b) in omega (arith, old, e, same, more))
      (λ apart. subst (λ z. w ≤ z.generation) (sym (block-there i apart)) old)

  -- a place of the block says nothing any more, another what it said
  pub said-released : {A : Type 0} (first : A) (read : ℕ → A) (spot : ℕ → ℕ → Spot) →
      ((i m : ℕ) → i < l.blocks → m < l.nodes → IsSpot l (spot i m)) → ((i m : ℕ) → OfBlock b ≡ spot i m → ⊥) →
      ((m : ℕ) → m < l.nodes → stamp_of (word_of l words (spot b m)) ≤ (block_of l words b).generation) → (i m : ℕ) →
      said l released_words first read spot i m ≡ cond (i == b) first (said l words first read spot i m)
  said-released first read spot is_spot ne past i m =
      either (i == b)
      (λ t.
      subst (λ j. said l released_words first read spot j m ≡ first) (sym (eqb-true i b t)) (gone (is_there l b m) refl)
      ∙ sym (cond-true (i == b) first (said l words first read spot i m) t))
      (λ f.
      either (is_there l i m)
      (λ there.
      let at = there-place l i m there in
      λ k. cond (is_there l i m) (said_at (block-there i f k) first read (place-kept (spot i m) (is_spot i m at.0 at.1) (ne i m) k)) first)
      (λ away. cond-false (is_there l i m) _ first away ∙ sym (cond-false (is_there l i m) _ first away))
      ∙ sym (cond-false (i == b) first (said l words first read spot i m) f))
    where
      gone : (there : Bool) → is_there l b m ≡ there → said l released_words first read spot b m ≡ first
      gone false e = cond-false (is_there l b m) _ first e
      gone true e =
          let at = there-place l b m e in
          let w = word_of l words (spot b m) in
          let unsaid : is_said (next_word (block_of l words b)) w ≡ false =
          false_from_ne_true (is_said (next_word (block_of l words b)) w) (λ t. next-past (block_of l words b) (stamp_of w) (past m at.1) t) in
          cond-true (is_there l b m) _ first e
          ∙ (λ k. said_at (block-here k) first read (place-kept (spot b m) (is_spot b m at.0 at.1) (ne b m) k))
          ∙ cond-false (is_said (next_word (block_of l words b)) w) (read w) first unsaid

-- the notes of a hand name no later generation than their block's
pub record ArePast {P E : Type 0} (blocks : ℕ → BlockWord) (v : View P E) : Type 0 where
  pub unlooked : Each (λ x. x.generation ≤ (blocks x.block).generation) v.unlooked
  pub seen_after : Each (λ x. x.generation ≤ (blocks x.block).generation) v.seen_after

abbrev pub IsOldSource : (ℕ → BlockWord) → SourceRef → Type 0
IsOldSource blocks Scope = Unit {0}
IsOldSource blocks (Node x) = x.generation ≤ (blocks x.block).generation

module _ {P E : Type 0} (old new : ℕ → BlockWord) (b : ℕ) (apart : (x : Name) → x.generation ≤ (old x.block).generation → is_present new x ≡ true → (x.block == b) ≡ false) (kept : (x : Name) → (x.block == b) ≡ false → is_present new x ≡ is_present old x) where
  source-noted : (v : View P E) → Each (IsOldSource old) v.seen → (t : SourceRef) →
      (has_source_ref v.seen t && is_present_source new t) ≡ ((has_source_ref v.seen t && is_present_source old t) && not (is_in_block b t))
  source-noted v past Scope =
      noted-apart (has_source_ref v.seen Scope) true true false (λ _ _. refl) (λ _. refl)
  source-noted v past (Node x) =
      noted-apart (has_source_ref v.seen (Node x)) (is_present new x) (is_present old x) (x.block == b)
      (λ has present. apart x (source-each (IsOldSource old) v.seen (Node x) past has) present) (kept x)

  -- a view shows what it showed, without what it noted of the block
  pub shown-forgotten : (v : View P E) → ArePast old v → Each (IsOldSource old) v.seen → shown_view new v ≡ forget b (shown_view old v)
  shown-forgotten v past sources =
      let test : Name → Type 0 = λ x. x.generation ≤ (old x.block).generation in
      λ k. record {
        holds = count_by (λ e. e.name) v.held;
        starts = count_by (λ e. e.name) v.owed;
        reports = count_by (λ e. e.name) v.reported;
        finished = count_by (λ x. x) v.finished;
        runs = count_by (λ x. x) v.runs;
        scan = scan_in v.scans;
        unlooked = λ x. noted-apart (has_name v.unlooked x) (is_present new x) (is_present old x) (x.block == b)
            (λ has present. apart x (each-has test x v.unlooked has past.unlooked) present) (kept x) k;
        seen_after = λ x. noted-apart (has_name v.seen_after x) (is_present new x) (is_present old x) (x.block == b)
            (λ has present. apart x (each-has test x v.seen_after has past.seen_after) present) (kept x) k;
        seen = λ t. source-noted v sources t k;
        made = v.made;
        making = v.making;
        refused = v.refused;
        requested = v.requested;
      }

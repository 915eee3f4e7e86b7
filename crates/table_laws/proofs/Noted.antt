-- The block of an operation that a hand noted is open, or some hand released it.
use Rattle.std.proofs.Common.{◌≡◌, inl, inr, ℕ, ◌<◌, ◌≤◌, true, false, not, ◌==◌, length, refl, sym, ap, ◌∙◌, subst, arith}
use Rattle.std.specs.Prelude.{◌⊎◌, Option, Some}
use Rattle.std.proofs.lemmas.Bool.Decides.{nat_tests}
use Rattle.std.proofs.lemmas.Bool.{and_parts, and_from, both_ways, cond-true, eqb-true, eq-eqb, lt-ltb}
use Rattle.life_rules.specs.declared.event.Name.{Name}
use Rattle.life_rules.specs.declared.words.BlockWord.{BlockWord}
use Rattle.life_rules.specs.Words.{is_idle}
use Rattle.life_rules.specs.States.{control_at}
use Rattle.common_lemmas.proofs.Bool.{either}
use Rattle.life_rules.proofs.Readings.{lives, begun-live}
use Rattle.table_words.specs.Blocks.{block_read}
use Rattle.table_words.specs.Layouts.{OfBlock, index}
use Rattle.table_words.proofs.Spots.{within}
use Rattle.atomic_table.specs.Table as table
use Rattle.listed_words.specs.declared.seen.Seen.{Seen}
use Rattle.table_rules.specs.declared.cargo.Cargo.{Ghosts}
use Rattle.table_rules.specs.declared.frame.Frame.{Frame}
use Rattle.table_rules.specs.declared.view.View.{View}
use Rattle.table_rules.specs.declared.view.Rooted.{Rooted}
use Rattle.table_rules.specs.ShownWords.{word_of, block_of, is_retired, is_present}
use Rattle.table_rules.specs.Scenes.{Scene, shown, scene}
use Rattle.table_rules.specs.Notes.{IsRootedSo}
use Rattle.table_rules.specs.Traces.{LeavesThere, SomeCarries, Traced, all_steps}
use Rattle.table_steps.specs.Slots.{noted_at}
use Rattle.table_kept.proofs.Entries.{found, each-found}
use Rattle.table_kept.proofs.AnyOf.{any-map}
use Rattle.table_laws.specs.Laws.{Has}
use Rattle.table_laws.specs.Noted.{IsOpenAt, IsReleaseOf, NotedIsOpen}

later : (a b : ℕ) → a ≤ b → (a == b) ≡ false → a < b
later a b most differ = grind (arith, nat_tests)

module _ {P E O : Type 0} (cargo : Ghosts P E O) (f : Frame O) (s : table.State (Option P) (View P E)) (t : Traced cargo f s) (h : ℕ) (v : View P E) (at : Has s h v) (x : Name) (e : Rooted E) (within_blocks : x.block < f.layout.blocks) (noted : noted_at v x ≡ Some e) where
  abbrev here : Scene P E
  here = scene f s t.runs.past

  abbrev word : BlockWord
  word = block_of f.layout s.words x.block

  name_is : e.name ≡ x
  name_is = (found (λ (z : Rooted E). z.name) v.noted x e noted).name_is

  so : IsRootedSo here e
  so = each-found (IsRootedSo here) (λ z. z.name) v.noted x e noted (t.runs.stands.views.each h v at).noted

  past : x.generation ≤ word.generation
  past = subst (λ z. z.generation ≤ (block_of f.layout s.words z.block).generation) name_is so.0

  -- the number in the block's word reads as the block's word
  reads : word ≡ block_read (word_of f.layout s.words (OfBlock x.block))
  reads = cond-true _ _ _ (lt-ltb x.block f.layout.blocks within_blocks)

  open-now : is_present (block_of f.layout s.words) x ≡ true → IsOpenAt f s x
  open-now present =
      let parts = and_parts (not (is_retired word.state)) (x.generation == word.generation) present in
      let begun = (subst IsRootedFor name_is so.1 present).0 in
      let live = begun-live (shown f s) x begun in
      record { generation = sym (eqb-true x.generation word.generation parts.1); opened = (lives (shown f s) x live).is_opened }
    where
      IsRootedFor : Name → Type 0
      IsRootedFor y =
          is_present (block_of f.layout s.words) y ≡ true →
          (is_idle (control_at (shown f s) y) ≡ false)
          × (t.runs.past.start y ≡ e.start)

  -- a block that isn't at that generation any more, or is retired, has a word that a step left there
  gone : is_present (block_of f.layout s.words) x ≡ false → SomeCarries s.views (IsReleaseOf f.layout x)
  gone absent =
      let i = index f.layout (OfBlock x.block) in
      let n = word_of f.layout s.words (OfBlock x.block) in
      let inside : i < length s.words =
      subst (λ k. i < k) (sym t.runs.sized.words) (within f.layout (OfBlock x.block) within_blocks) in
      by_word n (t.words i inside) refl
    where
      over : (x.generation < word.generation) ⊎ (is_retired word.state ≡ true)
      over =
          either (is_retired word.state)
          (λ retired. inr retired)
          (λ kept.
          either (x.generation == word.generation)
          (λ same.
          absurd (both_ways (is_present (block_of f.layout s.words) x) absent (and_from _ _ (ap not kept) same)))
          (λ differ.
          inl (later x.generation word.generation past differ)))

      zero-present : word_of f.layout s.words (OfBlock x.block) ≡ 0 → ⊥
      zero-present zero =
          let reads_zero : word ≡ block_read 0 = reads ∙ ap block_read zero in
          let none : word.generation ≡ 0 = ap (λ w. w.generation) reads_zero in
          let free : is_retired word.state ≡ false = ap (λ w. is_retired w.state) reads_zero in
          let l = past in
          both_ways (is_present (block_of f.layout s.words) x) absent
          (and_from _ _ (ap not free) (eq-eqb x.generation word.generation (omega (arith, l, none))))

      by_word : (n : ℕ) → (n ≡ 0) ⊎ SomeCarries s.views (LeavesThere (index f.layout (OfBlock x.block)) n) →
          n ≡ word_of f.layout s.words (OfBlock x.block) → SomeCarries s.views (IsReleaseOf f.layout x)
      by_word n (inl zero) is = absurd (zero-present (sym is ∙ zero))
      by_word n (inr some_hand) is =
          record {
            hand = some_hand.hand;
            view = some_hand.view;
            at = some_hand.at;
            itself = some_hand.itself;
            has = any-map (LeavesThere (index f.layout (OfBlock x.block)) n) (IsReleaseOf f.layout x)
                (λ (d : Seen) leaves. record {
                  index_is = leaves.index_is;
                  over = subst (λ (w : BlockWord). (x.generation < w.generation) ⊎ (is_retired w.state ≡ true))
                      (reads ∙ ap block_read (sym is ∙ sym leaves.left_is)) over;
                })
                (all_steps some_hand.view) some_hand.has;
          }

  pub open-or-released : IsOpenAt f s x ⊎ SomeCarries s.views (IsReleaseOf f.layout x)
  open-or-released =
      either (is_present (block_of f.layout s.words) x) (λ present. inl (open-now present)) (λ absent. inr (gone absent))

pub noted-is_open : {P E O : Type 0} (cargo : Ghosts P E O) → NotedIsOpen cargo
noted-is_open cargo f s t h v at x e below noted = open-or-released cargo f s t h v at x e below noted

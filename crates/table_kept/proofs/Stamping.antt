-- What the rule says of generations is kept: of words that say nothing any more, of the sources of nodes
-- that have begun, and of the words that hands listed.
use Rattle.std.proofs.Common.{◌≡◌, inl, inr, ℕ, Bool, false, ◌||◌, List, ◌∷◌, length, set, sym, ap, ◌∙◌, subst, ⊎_elim, arith}
use Rattle.std.specs.Prelude.{slice_index}
use Rattle.std.proofs.lemmas.Bool.{cases_eq}
use Rattle.std.proofs.lemmas.List.{get_or-set_same, get_or-set_other}
use mathlib.Core.Option.{some}
use lib.ListN.{get_elem?}
use Rattle.life_rules.specs.declared.words.BlockWord.{BlockWord}
use Rattle.life_rules.specs.declared.words.Bits.{Bits}
use Rattle.life_rules.specs.declared.scope.ScopeWord.{ScopeWord}
use Rattle.life_rules.specs.Words.{is_idle, is_armed, is_running}
use Rattle.table_words.specs.declared.layout.Layout.{Layout}
use Rattle.table_words.specs.Stamps.{stamp_of, code_of}
use Rattle.table_words.specs.Controls.{callback_read, source_read}
use Rattle.table_words.specs.ScopeNumbers.{scope_read}
use Rattle.table_words.specs.Layouts.{Spot, TheScope, TheScopeSource, OfBlock, OfControl, OfCallback, OfSource, IsSpot, index, words_in}
use Rattle.table_words.proofs.Spots.{apart, within}
use Rattle.atomic_table.proofs.Lists.{at_set}
use Rattle.listed_words.specs.declared.seen.Seen.{Seen}
use Rattle.listed_words.specs.Lists.{entry}
use Rattle.table_rules.specs.declared.view.View.{View}
use Rattle.table_rules.specs.Named.{Each}
use Rattle.table_rules.specs.ShownWords.{word_of, block_of, control_of, scope_of, is_said}
use Rattle.table_rules.specs.Grown.{HasBitsOf, HasBitsOfSource, KeepsBits, IsLater, HasRisen, HaveRisen}
use Rattle.table_kept.proofs.Entries.{each-map}

-- the callback word says that it is armed or runs
abbrev pub is_on : ℕ → Bool
is_on w = is_armed (callback_read w) || is_running (callback_read w)

-- the count of the scope's word is no bit of it
pub bits-counted : (w : ScopeWord) (count : ℕ) → HasBitsOf w (record w { count = count })
bits-counted w count = record { used = λ t. t; closed = λ t. t; joining = λ t. t; joined = λ t. t }

pub bits-same : (b : Bits) → HasBitsOfSource b b
bits-same b = record { requested = λ t. t; failed = λ t. t; scanned = λ t. t }

bits-on : (a b c : Bits) → HasBitsOfSource a b → HasBitsOfSource b c → HasBitsOfSource a c
bits-on a b c p q =
    record {
      requested = λ t. q.requested (p.requested t);
      failed = λ t. q.failed (p.failed t);
      scanned = λ t. q.scanned (p.scanned t);
    }

pub later-same : (y : Spot) (w : ℕ) → IsLater y w w
later-same TheScope w = bits-counted (scope_read w) (code_of w)
later-same TheScopeSource w = bits-same (source_read w)
later-same (OfBlock b) w = omega arith
later-same (OfControl b n) w = record { stamp = omega arith; done = λ _ is. is }
later-same (OfCallback b n) w = omega arith
later-same (OfSource b n) w = record { stamp = omega arith; bits = λ _. bits-same (source_read w) }

later-on : (y : Spot) (u v w : ℕ) → IsLater y u v → IsLater y v w → IsLater y u w
later-on TheScope u v w a b =
    record {
      used = λ t. b.used (a.used t);
      closed = λ t. b.closed (a.closed t);
      joining = λ t. b.joining (a.joining t);
      joined = λ t. b.joined (a.joined t);
    }
later-on TheScopeSource u v w a b = bits-on (source_read u) (source_read v) (source_read w) a b
later-on (OfBlock i) u v w a b = omega (arith, a, b)
later-on (OfControl i n) u v w a b =
    let p = a.stamp in
    let q = b.stamp in
    record {
      stamp = omega (arith, p, q);
      done = λ same is. b.done (omega (arith, p, q, same)) (a.done (omega (arith, p, q, same)) is);
    }
later-on (OfCallback i n) u v w a b = omega (arith, a, b)
later-on (OfSource i n) u v w a b =
    let p = a.stamp in
    let q = b.stamp in
    record {
      stamp = omega (arith, p, q);
      bits = λ same.
          bits-on (source_read u) (source_read v) (source_read w) (a.bits (omega (arith, p, q, same))) (b.bits (omega (arith, p, q, same)));
    }

-- the view lists one step more: it read the word of this spot as it stood, and left this
abbrev pub Lists : {P E : Type 0} → Layout → List ℕ → Spot → ℕ → View P E → View P E → Type 0
Lists l words y left old new = new.steps ≡ entry (index l y) (word_of l words y) left ∷ old.steps

module _ {P E : Type 0} (l : Layout) (vs : List (View P E)) (id : ℕ) (v mine : View P E) (at : get_elem? vs id ≡ some v) where
  -- a hand that lists this list
  by-hand : (words : List ℕ) → Each (HasRisen l words) mine.steps →
      ((h : ℕ) (u : View P E) → get_elem? vs h ≡ some u → Each (HasRisen l words) u.steps) → HaveRisen l words (set vs id mine)
  by-hand words own others h u there =
      ⊎_elim
      (λ (t : (h ≡ id) × (mine ≡ u)). subst (λ (z : View P E). Each (HasRisen l words) z.steps) t.1 own)
      (λ (t : ((h ≡ id) → ⊥) × (get_elem? vs h ≡ some u)). others h u t.1)
      (at_set vs id h mine u there)

  -- a hand that lists what it listed
  pub same-risen : (words : List ℕ) → mine.steps ≡ v.steps → HaveRisen l words vs → HaveRisen l words (set vs id mine)
  same-risen words same all = by-hand words (subst (Each (HasRisen l words)) (sym same) (all id v at)) all

  -- a load, or a step that leaves the word as it was
  pub looked-risen : (words : List ℕ) (i : ℕ) → mine.steps ≡ entry i (slice_index words i) (slice_index words i) ∷ v.steps →
      HaveRisen l words vs → HaveRisen l words (set vs id mine)
  looked-risen words i lists all =
      by-hand words
      (subst (Each (HasRisen l words)) (sym lists) (
        (λ y is same.
            let here = subst (λ j. IsLater y (slice_index words j) (word_of l words y)) (sym same) (later-same y (word_of l words y)) in
            (here, here)),
        all id v at,
      ))
      all

  -- a step that leaves a later word
  pub written-risen : (words : List ℕ) (value : ℕ) (y : Spot) → length words ≡ words_in l → IsSpot l y →
      IsLater y (word_of l words y) value → Lists l words y value v mine → HaveRisen l words vs →
      HaveRisen l (set words (index l y) value) (set vs id mine)
  written-risen words value y wide is grows lists all =
      by-hand written
      (subst (Each (HasRisen l written)) (sym lists) (
        (λ z at_z same.
            let there = λ (w : ℕ) (so : IsLater y w value).
            subst (λ x. IsLater x w (word_of l written x)) (apart l y z is at_z same) (subst (IsLater y w) (sym here) so) in
            (there (word_of l words y) grows, there value (later-same y value))),
        still v.steps (all id v at),
      ))
      (λ h u there. still u.steps (all h u there))
    where
      written : List ℕ
      written = set words (index l y) value

      here : word_of l written y ≡ value
      here = get_or-set_same words (index l y) value 0 (let w = within l y is in omega (arith, w, wide))

      grown : (z : Spot) → IsSpot l z → IsLater z (word_of l words z) (word_of l written z)
      grown z at_z =
          elim (cases_eq (index l z) (index l y)) [
            | inl same ↦
                subst (λ x. IsLater x (word_of l words x) (word_of l written x)) (sym (apart l z y at_z is same))
                (subst (IsLater y (word_of l words y)) (sym here) grows)
            | inr other ↦
                subst (IsLater z (word_of l words z)) (sym (get_or-set_other words (index l y) (index l z) value 0 other))
                (later-same z (word_of l words z))
          ]

      still : (steps : List Seen) → Each (HasRisen l words) steps → Each (HasRisen l written) steps
      still =
          each-map (HasRisen l words) (HasRisen l written)
          (λ e so z at_z same.
          let was = so z at_z same in
          let more = grown z at_z in (
            later-on z e.read (word_of l words z) (word_of l written z) was.0 more,
            later-on z e.left (word_of l words z) (word_of l written z) was.1 more,
          ))

-- the newest step that a hand lists
pub newest-risen : {P E : Type 0} (l : Layout) (words : List ℕ) (vs : List (View P E)) (id : ℕ) (v : View P E) (e : Seen) (rest : List Seen) →
    get_elem? vs id ≡ some v → v.steps ≡ e ∷ rest → HaveRisen l words vs → HasRisen l words e
newest-risen l words vs id v e rest at is all = (subst (Each (HasRisen l words)) is (all id v at)).0

-- the scope's word has each bit that a hand read or left there
pub kept-bits : {P E : Type 0} (l : Layout) (words : List ℕ) (vs : List (View P E)) (id : ℕ) (v : View P E) → get_elem? vs id ≡ some v →
    HaveRisen l words vs → KeepsBits v.steps (scope_of l words)
kept-bits l words vs id v at all =
    each-map (HasRisen l words)
    (λ (e : Seen). e.index ≡ 0 → HasBitsOf (scope_read e.read) (scope_of l words) × HasBitsOf (scope_read e.left) (scope_of l words))
    (λ e so first. so TheScope tt first) v.steps (all id v at)

-- a word that stayed says as little as before, in a block that stayed
pub unsaid-kept : (old new : BlockWord) (before after : ℕ) (test : ℕ → Bool) → new ≡ old → after ≡ before →
    (is_said old before ≡ false → test before ≡ false) → is_said new after ≡ false → test after ≡ false
unsaid-kept old new before after test block word so unsaid =
    ap test word ∙ so ((λ k. is_said (sym block k) (sym word k)) ∙ unsaid)

-- the source of a node that had begun is of its generation, where its word and the node's stayed
pub renewed-kept : (l : Layout) (old new : List ℕ) (j m : ℕ) → control_of l new j m ≡ control_of l old j m →
    word_of l new (OfSource j m) ≡ word_of l old (OfSource j m) →
    (block_of l new j).generation ≡ (block_of l old j).generation →
    (is_idle (control_of l old j m) ≡ false → stamp_of (word_of l old (OfSource j m)) ≡ (block_of l old j).generation) →
    is_idle (control_of l new j m) ≡ false → stamp_of (word_of l new (OfSource j m)) ≡ (block_of l new j).generation
renewed-kept l old new j m control word generation so begun =
    ap stamp_of word ∙ so (ap is_idle (sym control) ∙ begun) ∙ sym generation

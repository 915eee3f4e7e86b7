-- What signs, words and constants make of what is seen of a text.
use Rattle.std.proofs.Common.{◌≡◌, inl, inr, ℕ, ◌==◌, ◌||◌, not, Bool, true, false, List, [], ◌∷◌, ◌++◌, append_assoc, cond, refl, sym, ap, subst, ◌∙◌}
use Rattle.std.proofs.lemmas.Bool.{cases_Bool, cond-false, cond-true, eqb-true, false≢true, or_parts}
use Rattle.std.proofs.lemmas.List.{append-nil}
use Rattle.plan_words.specs.declared.cutter.Mode.{Mode}
use Rattle.plan_words.specs.declared.cutter.Mode.TheVariants.{Between, Word, Text, Escaped, Quoted, Row, Gap}
use Rattle.plan_words.specs.Bytes.{ends_word, is_blank, is_mark}
use Rattle.plan_words.specs.Seen.{IsBetween, Seen, can_end, mode_in_row, mode_in_text, seen_in, words_in}
use Rattle.plan_words.specs.Wholes.{nothing_follows, is_whole, row_ends, text_ends, word_ends}
use Rattle.plan_words.proofs.Bytes.{of_mark}
use Rattle.plan_words.proofs.Blanks.{at, run, seen_run, words_of}
use Rattle.plan_words.proofs.Unplaced.{after_row', grown', next, seen_more, words_seen}

-- ---- signs

abbrev Sign : Seen → ℕ → Type 0
Sign s b = (IsBetween (next b s)) × (words_of (next b s) ≡ words_of s ++ (b ∷ []) ∷ [])

sign_bar : (m : Mode) (ws : List (List ℕ)) (p : List ℕ) → can_end m ≡ true → Sign (at ws p m) 124
sign_bar Between ws p h = (refl, refl)
sign_bar Word ws p h = (refl, refl)
sign_bar Quoted ws p h = (refl, refl)
sign_bar m ws p h = absurd (false≢true h)

sign_open : (m : Mode) (ws : List (List ℕ)) (p : List ℕ) → can_end m ≡ true → Sign (at ws p m) 40
sign_open Between ws p h = (refl, refl)
sign_open Word ws p h = (refl, refl)
sign_open Quoted ws p h = (refl, refl)
sign_open m ws p h = absurd (false≢true h)

sign_close : (m : Mode) (ws : List (List ℕ)) (p : List ℕ) → can_end m ≡ true → Sign (at ws p m) 41
sign_close Between ws p h = (refl, refl)
sign_close Word ws p h = (refl, refl)
sign_close Quoted ws p h = (refl, refl)
sign_close m ws p h = absurd (false≢true h)

sign_comma : (m : Mode) (ws : List (List ℕ)) (p : List ℕ) → can_end m ≡ true → Sign (at ws p m) 44
sign_comma Between ws p h = (refl, refl)
sign_comma Word ws p h = (refl, refl)
sign_comma Quoted ws p h = (refl, refl)
sign_comma m ws p h = absurd (false≢true h)

pub record IsAdded (word old new : List ℕ) : Type 0 where
  pub ends : can_end (seen_in new).mode ≡ true
  pub words : words_in new ≡ words_in old ++ word ∷ []

pub laid_sign : (text : List ℕ) (b : ℕ) → can_end (seen_in text).mode ≡ true → is_mark b ≡ true
    → (IsBetween (seen_in (text ++ b ∷ []))) × (words_in (text ++ b ∷ []) ≡ words_in text ++ (b ∷ []) ∷ [])
laid_sign text b h mark =
    let s = seen_in text in
    let sign : Sign s b = of_mark b (Sign s) (sign_bar s.mode s.words s.part h) (sign_open s.mode s.words s.part h)
    (sign_close s.mode s.words s.part h) (sign_comma s.mode s.words s.part h) mark in (
      subst (λ t. IsBetween t) (sym (seen_more text b)) sign.0,
      words_seen (text ++ b ∷ []) ∙ ap words_of (seen_more text b) ∙ sign.1
          ∙ ap (λ (ws : List (List ℕ)). ws ++ (b ∷ []) ∷ []) (sym (words_seen text)),
    )

-- ---- words

-- a test that fails where this byte comes
pub passed : (q r : Bool) → cond q false r ≡ true → (q ≡ false) × (r ≡ true)
passed true r h = absurd (false≢true h)
passed false r h = (refl, h)

-- the parts of `ends_word`
pub record IsPlain (b : ℕ) : Type 0 where
  pub blank : is_blank b ≡ false
  pub mark : is_mark b ≡ false
  pub quote : (b == 34) ≡ false
  pub row : (b == 91) ≡ false
  pub comment : (b == 35) ≡ false

pub plain : (b : ℕ) → ends_word b ≡ false → IsPlain b
plain b h =
    let h1 = or_parts (is_blank b || is_mark b || (b == 34) || (b == 91)) (b == 35) h in
    let h2 = or_parts (is_blank b || is_mark b || (b == 34)) (b == 91) h1.0 in
    let h3 = or_parts (is_blank b || is_mark b) (b == 34) h2.0 in
    let h4 = or_parts (is_blank b) (is_mark b) h3.0 in
    record { blank = h4.0; mark = h4.1; quote = h3.1; row = h2.1; comment = h1.1 }

plain_first : (b : ℕ) (ws : List (List ℕ)) (p : List ℕ) → ends_word b ≡ false
    → next b (at ws p Between) ≡ at ws (b ∷ []) Word
plain_first b ws p h =
    let is = plain b h in
    cond-false (is_blank b) _ _ is.blank ∙ cond-false (b == 35) _ _ is.comment ∙ cond-false (is_mark b) _ _ is.mark
    ∙ ap (λ m. at ws (b ∷ []) m)
    (cond-false (b == 34) Text (cond (b == 91) Gap Word) is.quote ∙ cond-false (b == 91) Gap Word is.row)

plain_rest : (bytes : List ℕ) (ws : List (List ℕ)) (p : List ℕ) → word_ends bytes ≡ true
    → run bytes (at ws p Word) ≡ at ws (p ++ bytes) Word
plain_rest [] ws p h = ap (λ q. at ws q Word) (sym (append-nil p))
plain_rest (b ∷ bytes) ws p h =
    let is = passed (ends_word b) (word_ends bytes) h in
    ap (run bytes) (cond-false (ends_word b) _ (grown' b (at ws p Word)) is.0)
    ∙ plain_rest bytes ws (p ++ b ∷ []) is.1
    ∙ ap (λ q. at ws q Word) (append_assoc p (b ∷ []) bytes)

-- ---- texts

abbrev escaped : Bool → List ℕ → List ℕ
escaped true bytes = 92 ∷ bytes
escaped false bytes = bytes

record EndsText (bytes : List ℕ) (esc : Bool) (ws : List (List ℕ)) (p : List ℕ) : Type 0 where
  part : List ℕ
  runs : run bytes (at ws p (mode_in_text (not esc))) ≡ at ws part Quoted
  whole : part ++ 34 ∷ [] ≡ p ++ escaped esc bytes

pub no_more : (bytes : List ℕ) → nothing_follows bytes ≡ true → bytes ≡ []
no_more [] h = refl
no_more (b ∷ bytes) h = absurd (false≢true h)

text_run : (bytes : List ℕ) (esc : Bool) (ws : List (List ℕ)) (p : List ℕ) → text_ends bytes esc ≡ true → EndsText bytes esc ws p
text_run [] esc ws p h = absurd (false≢true h)
text_run (b ∷ bytes) true ws p h =
    let later = text_run bytes false ws ((p ++ 92 ∷ []) ++ b ∷ []) h in
    record {
      part = later.part;
      runs = later.runs;
      whole = later.whole ∙ append_assoc (p ++ 92 ∷ []) (b ∷ []) bytes ∙ append_assoc p (92 ∷ []) (b ∷ bytes);
    }
text_run (b ∷ bytes) false ws p h =
    elim (cases_Bool (b == 92)) [
      | inl e ↦
          let later = text_run bytes true ws p (sym (cond-true (b == 92) _ _ e) ∙ h) in
          record {
            part = later.part;
            runs = ap (run bytes) (cond-true (b == 92) (at ws p Escaped) _ e) ∙ later.runs;
            whole = later.whole ∙ ap (λ (x : ℕ). p ++ x ∷ bytes) (sym (eqb-true b 92 e));
          }
      | inr e ↦
          let h1 : cond (b == 34) (nothing_follows bytes) (text_ends bytes false) ≡ true = sym (cond-false (b == 92) _ _ e) ∙ h in
          elim (cases_Bool (b == 34)) [
            | inl f ↦
                let none = no_more bytes (sym (cond-true (b == 34) _ _ f) ∙ h1) in
                record {
                  part = p;
                  runs = ap (λ (bs : List ℕ). run bs (next b (at ws p Text))) none
                      ∙ cond-false (b == 92) _ _ e ∙ cond-true (b == 34) (at ws p Quoted) _ f;
                  whole = ap (λ (x : ℕ). p ++ x ∷ []) (sym (eqb-true b 34 f)) ∙ ap (λ (bs : List ℕ). p ++ b ∷ bs) (sym none);
                }
            | inr f ↦
                let later = text_run bytes false ws (p ++ b ∷ []) (sym (cond-false (b == 34) _ _ f) ∙ h1) in
                record {
                  part = later.part;
                  runs = ap (run bytes) (cond-false (b == 92) _ _ e ∙ cond-false (b == 34) _ (at ws (p ++ b ∷ []) Text) f) ∙ later.runs;
                  whole = later.whole ∙ append_assoc p (b ∷ []) bytes;
                }
          ]
    ]

-- ---- rows

gap_is_row : (can_cut : Bool) (b : ℕ) (ws : List (List ℕ)) (p : List ℕ) → is_blank b ≡ false
    → next b (at ws p (mode_in_row can_cut)) ≡ after_row' b (at ws p (mode_in_row can_cut))
gap_is_row true b ws p h = cond-false (is_blank b) _ _ h
gap_is_row false b ws p h = refl

mode_behind : (q : Bool) → cond q Gap Row ≡ mode_in_row q
mode_behind true = refl
mode_behind false = refl

pub row_step : (can_cut : Bool) (b : ℕ) (ws : List (List ℕ)) (p : List ℕ) → (b == 93) ≡ false → is_blank b ≡ false
    → next b (at ws p (mode_in_row can_cut)) ≡ at ws (p ++ b ∷ []) (mode_in_row (b == 44))
row_step can_cut b ws p e f =
    gap_is_row can_cut b ws p f ∙ cond-false (b == 93) _ _ e
    ∙ ap (λ m. at ws (p ++ b ∷ []) m) (mode_behind (b == 44))

last_of_row : (can_cut : Bool) (b : ℕ) (ws : List (List ℕ)) (p : List ℕ) → (b == 93) ≡ true
    → next b (at ws p (mode_in_row can_cut)) ≡ at (ws ++ (p ++ b ∷ []) ∷ []) [] Between
last_of_row can_cut b ws p e =
    let none : is_blank b ≡ false = subst (λ (x : ℕ). is_blank x ≡ false) (sym (eqb-true b 93 e)) refl in
    gap_is_row can_cut b ws p none ∙ cond-true (b == 93) _ _ e

row_run : (bytes : List ℕ) (can_cut : Bool) (ws : List (List ℕ)) (p : List ℕ) → row_ends bytes ≡ true
    → run bytes (at ws p (mode_in_row can_cut)) ≡ at (ws ++ (p ++ bytes) ∷ []) [] Between
row_run [] can_cut ws p h = absurd (false≢true h)
row_run (b ∷ bytes) can_cut ws p h =
    elim (cases_Bool (b == 93)) [
      | inl e ↦
          let none = no_more bytes (sym (cond-true (b == 93) _ _ e) ∙ h) in
          ap (λ (bs : List ℕ). run bs (next b (at ws p (mode_in_row can_cut)))) none
          ∙ last_of_row can_cut b ws p e
          ∙ ap (λ (bs : List ℕ). at (ws ++ (p ++ b ∷ bs) ∷ []) [] Between) (sym none)
      | inr e ↦
          let is = passed (is_blank b) (row_ends bytes) (sym (cond-false (b == 93) _ _ e) ∙ h) in
          ap (run bytes) (row_step can_cut b ws p e is.0)
          ∙ row_run bytes (b == 44) ws (p ++ b ∷ []) is.1
          ∙ ap (λ (q : List ℕ). at (ws ++ q ∷ []) [] Between) (append_assoc p (b ∷ []) bytes)
    ]

-- ---- any token but a sign

record AddsWord (w : List ℕ) (ws : List (List ℕ)) (p : List ℕ) : Type 0 where
  ends : can_end (run w (at ws p Between)).mode ≡ true
  words : words_of (run w (at ws p Between)) ≡ ws ++ w ∷ []

adds : (w : List ℕ) (ws : List (List ℕ)) (p : List ℕ) (s : Seen) → run w (at ws p Between) ≡ s
    → can_end s.mode ≡ true → words_of s ≡ ws ++ w ∷ [] → AddsWord w ws p
adds w ws p s e ends words = record {
  ends = ap (λ (t : Seen). can_end t.mode) e ∙ ends;
  words = ap words_of e ∙ words;
}

adds_text : (bytes : List ℕ) (ws : List (List ℕ)) (p : List ℕ) → text_ends bytes false ≡ true → AddsWord (34 ∷ bytes) ws p
adds_text bytes ws p h =
    let ends = text_run bytes false ws (34 ∷ []) h in
    adds (34 ∷ bytes) ws p (at ws ends.part Quoted) ends.runs refl
    (ap (λ (w : List ℕ). ws ++ w ∷ []) ends.whole)

adds_row : (bytes : List ℕ) (ws : List (List ℕ)) (p : List ℕ) → row_ends bytes ≡ true → AddsWord (91 ∷ bytes) ws p
adds_row bytes ws p h =
    adds (91 ∷ bytes) ws p (at (ws ++ (91 ∷ bytes) ∷ []) [] Between) (row_run bytes true ws (91 ∷ []) h) refl refl

adds_plain : (b : ℕ) (bytes : List ℕ) (ws : List (List ℕ)) (p : List ℕ) → word_ends (b ∷ bytes) ≡ true → AddsWord (b ∷ bytes) ws p
adds_plain b bytes ws p h =
    let is = passed (ends_word b) (word_ends bytes) h in
    adds (b ∷ bytes) ws p (at ws (b ∷ bytes) Word)
    (ap (run bytes) (plain_first b ws p is.0) ∙ plain_rest bytes ws (b ∷ []) is.1) refl refl

adds_whole : (w : List ℕ) (ws : List (List ℕ)) (p : List ℕ) → is_whole w ≡ true → AddsWord w ws p
adds_whole [] ws p h = absurd (false≢true h)
adds_whole (b ∷ bytes) ws p h =
    elim (cases_Bool (b == 34)) [
      | inl e ↦
          let h1 : text_ends bytes false ≡ true = sym (cond-true (b == 34) _ _ e) ∙ h in
          subst (λ (x : ℕ). AddsWord (x ∷ bytes) ws p) (sym (eqb-true b 34 e)) (adds_text bytes ws p h1)
      | inr e ↦
          let h1 : cond (b == 91) (row_ends bytes) (word_ends (b ∷ bytes)) ≡ true = sym (cond-false (b == 34) _ _ e) ∙ h in
          elim (cases_Bool (b == 91)) [
            | inl f ↦
                subst (λ (x : ℕ). AddsWord (x ∷ bytes) ws p) (sym (eqb-true b 91 f))
                (adds_row bytes ws p (sym (cond-true (b == 91) _ _ f) ∙ h1))
            | inr f ↦ adds_plain b bytes ws p (sym (cond-false (b == 91) _ _ f) ∙ h1)
          ]
    ]

pub laid_whole : (old new w : List ℕ) → IsBetween (seen_in old) → is_whole w ≡ true → seen_in new ≡ seen_in (old ++ w)
    → IsAdded w old new
laid_whole old new w between whole same =
    let s = seen_in old in
    let is : AddsWord w s.words s.part = adds_whole w s.words s.part whole in
    let start : s ≡ at s.words s.part Between = ap (λ m. at s.words s.part m) between in
    let now : seen_in new ≡ run w (at s.words s.part Between) = same ∙ seen_run old w ∙ ap (run w) start in
    let before : words_in old ≡ s.words = words_seen old ∙ ap words_of start in
    record {
      ends = ap (λ (t : Seen). can_end t.mode) now ∙ is.ends;
      words = words_seen new ∙ ap words_of now ∙ is.words ∙ ap (λ (ws : List (List ℕ)). ws ++ w ∷ []) (sym before);
    }

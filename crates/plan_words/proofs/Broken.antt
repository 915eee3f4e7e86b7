-- Texts and rows that go on in the next line.
use Rattle.std.proofs.Common.{◌≡◌, inl, inr, ℕ, ◌==◌, ◌&&◌, not, Bool, true, false, List, [], ◌∷◌, ◌++◌, replicate, cond, refl, sym, ap, subst, ◌∙◌}
use Rattle.std.proofs.lemmas.Bool.{cases_Bool, cond-false, cond-true}
use Rattle.plan_words.specs.declared.cutter.Mode.{Mode}
use Rattle.plan_words.specs.declared.cutter.Mode.TheVariants.{Text, Escaped, Joined, Gap}
use Rattle.plan_words.specs.Bytes.{is_blank}
use Rattle.plan_words.specs.Seen.{IsBetween, IsInRow, IsInText, Seen, mode_in_row, mode_in_text, seen_in}
use Rattle.plan_words.specs.Wholes.{nothing_follows, is_whole, row_ends, text_ends}
use Rattle.plan_words.proofs.Unplaced.{next, seen_more}
use Rattle.plan_words.proofs.Blanks.{at, run, run_spaces, seen_run}
use Rattle.plan_words.proofs.Laying.{no_more, passed, row_step}

pub same_more : (x y : List ℕ) (b : ℕ) → seen_in x ≡ seen_in y → seen_in (x ++ b ∷ []) ≡ seen_in (y ++ b ∷ [])
same_more x y b e = seen_more x b ∙ ap (next b) e ∙ sym (seen_more y b)

first_in_text : (bytes : List ℕ) (ws : List (List ℕ)) (p : List ℕ) → text_ends bytes false ≡ true → IsInText true bytes (at ws p Text)
first_in_text [] ws p h = tt
first_in_text (b ∷ bytes) ws p h = (refl, h)

pub text_first : (text bytes : List ℕ) → IsBetween (seen_in text) → is_whole (34 ∷ bytes) ≡ true
    → IsInText true bytes (seen_in (text ++ 34 ∷ []))
text_first text bytes between whole =
    let s = seen_in text in
    let now : seen_in (text ++ 34 ∷ []) ≡ at s.words (34 ∷ []) Text =
    seen_more text 34 ∙ ap (λ m. next 34 (at s.words s.part m)) between in
    subst (λ t. IsInText true bytes t) (sym now) (first_in_text bytes s.words (34 ∷ []) whole)

-- behind one byte more
in_text_at : (bytes : List ℕ) (can_cut : Bool) (s : Seen) → s.mode ≡ mode_in_text can_cut
    → (text_ends bytes (not can_cut) ≡ true) → IsInText can_cut bytes s
in_text_at [] can_cut s m h = tt
in_text_at (b ∷ bytes) can_cut s m h = (m, h)

at_mode : (s : Seen) (m : Mode) → s.mode ≡ m → s ≡ at s.words s.part m
at_mode s m h = ap (λ n. at s.words s.part n) h

text_step : (can_cut : Bool) (b : ℕ) (bytes : List ℕ) (ws : List (List ℕ)) (p : List ℕ)
    → text_ends (b ∷ bytes) (not can_cut) ≡ true
    → IsInText (not (can_cut && (b == 92))) bytes (next b (at ws p (mode_in_text can_cut)))
text_step false b bytes ws p h = in_text_at bytes true (next b (at ws p Escaped)) refl h
text_step true b bytes ws p h =
    elim (cases_Bool (b == 92)) [
      | inl e ↦
          subst (λ (q : Bool). IsInText (not q) bytes (next b (at ws p Text))) (sym e)
          (in_text_at bytes false (next b (at ws p Text)) (ap (λ (t : Seen). t.mode) (cond-true (b == 92) (at ws p Escaped) _ e))
          (sym (cond-true (b == 92) _ _ e) ∙ h))
      | inr e ↦
          let h1 : cond (b == 34) (nothing_follows bytes) (text_ends bytes false) ≡ true = sym (cond-false (b == 92) _ _ e) ∙ h in
          subst (λ (q : Bool). IsInText (not q) bytes (next b (at ws p Text))) (sym e)
          (elim (cases_Bool (b == 34)) [
            | inl f ↦
                subst (λ (bs : List ℕ). IsInText true bs (next b (at ws p Text)))
                (sym (no_more bytes (sym (cond-true (b == 34) _ _ f) ∙ h1))) tt
            | inr f ↦
                in_text_at bytes true (next b (at ws p Text))
                (ap (λ (t : Seen). t.mode) (cond-false (b == 92) _ _ e ∙ cond-false (b == 34) _ (at ws (p ++ b ∷ []) Text) f))
                (sym (cond-false (b == 34) _ _ f) ∙ h1)
          ])
    ]

pub text_next : (text : List ℕ) (b : ℕ) (bytes : List ℕ) (can_cut : Bool) → IsInText can_cut (b ∷ bytes) (seen_in text)
    → IsInText (not (can_cut && (b == 92))) bytes (seen_in (text ++ b ∷ []))
text_next text b bytes can_cut is =
    let s = seen_in text in
    subst (λ t. IsInText (not (can_cut && (b == 92))) bytes t)
    (sym (seen_more text b ∙ ap (next b) (at_mode s (mode_in_text can_cut) is.0)))
    (text_step can_cut b bytes s.words s.part is.1)

-- a text goes on in the next line
pub text_broken : (text : List ℕ) (n b : ℕ) (bytes : List ℕ) → IsInText true (b ∷ bytes) (seen_in text)
    → seen_in (((text ++ 34 ∷ 92 ∷ []) ++ 10 ∷ replicate n 32) ++ 34 ∷ []) ≡ seen_in text
text_broken text n b bytes is =
    let s = seen_in text in
    let joined : seen_in (text ++ 34 ∷ 92 ∷ []) ≡ at s.words s.part Joined =
    seen_run text (34 ∷ 92 ∷ []) ∙ ap (run (34 ∷ 92 ∷ [])) (at_mode s Text is.0) in
    let line : seen_in ((text ++ 34 ∷ 92 ∷ []) ++ 10 ∷ replicate n 32) ≡ at s.words s.part Joined =
    seen_run (text ++ 34 ∷ 92 ∷ []) (10 ∷ replicate n 32) ∙ ap (run (10 ∷ replicate n 32)) joined
    ∙ run_spaces (at s.words s.part Joined) refl n in
    seen_more ((text ++ 34 ∷ 92 ∷ []) ++ 10 ∷ replicate n 32) 34 ∙ ap (next 34) line ∙ sym (at_mode s Text is.0)

first_in_row : (bytes : List ℕ) (ws : List (List ℕ)) (p : List ℕ) → row_ends bytes ≡ true → IsInRow true bytes (at ws p Gap)
first_in_row [] ws p h = tt
first_in_row (b ∷ bytes) ws p h = (refl, h)

pub row_first : (text bytes : List ℕ) → IsBetween (seen_in text) → is_whole (91 ∷ bytes) ≡ true
    → IsInRow true bytes (seen_in (text ++ 91 ∷ []))
row_first text bytes between whole =
    let s = seen_in text in
    let now : seen_in (text ++ 91 ∷ []) ≡ at s.words (91 ∷ []) Gap =
    seen_more text 91 ∙ ap (λ m. next 91 (at s.words s.part m)) between in
    subst (λ t. IsInRow true bytes t) (sym now) (first_in_row bytes s.words (91 ∷ []) whole)

in_row_at : (bytes : List ℕ) (can_cut : Bool) (s : Seen) → s.mode ≡ mode_in_row can_cut → row_ends bytes ≡ true
    → IsInRow can_cut bytes s
in_row_at [] can_cut s m h = tt
in_row_at (b ∷ bytes) can_cut s m h = (m, h)

pub row_next : (text : List ℕ) (b : ℕ) (bytes : List ℕ) (can_cut : Bool) → IsInRow can_cut (b ∷ bytes) (seen_in text)
    → IsInRow (b == 44) bytes (seen_in (text ++ b ∷ []))
row_next text b bytes can_cut is =
    let s = seen_in text in
    let now = seen_more text b ∙ ap (next b) (at_mode s (mode_in_row can_cut) is.0) in
    elim (cases_Bool (b == 93)) [
      | inl e ↦
          subst (λ (bs : List ℕ). IsInRow (b == 44) bs (seen_in (text ++ b ∷ [])))
          (sym (no_more bytes (sym (cond-true (b == 93) _ _ e) ∙ is.1))) tt
      | inr e ↦
          let h = passed (is_blank b) (row_ends bytes) (sym (cond-false (b == 93) _ _ e) ∙ is.1) in
          in_row_at bytes (b == 44) (seen_in (text ++ b ∷ []))
          (ap (λ (t : Seen). t.mode) (now ∙ row_step can_cut b s.words s.part e h.0)) h.1
    ]

-- a row goes on in the next line
pub row_broken : (text : List ℕ) (n b : ℕ) (bytes : List ℕ) → IsInRow true (b ∷ bytes) (seen_in text)
    → seen_in (text ++ 10 ∷ replicate n 32) ≡ seen_in text
row_broken text n b bytes is =
    let s = seen_in text in
    seen_run text (10 ∷ replicate n 32) ∙ ap (run (10 ∷ replicate n 32)) (at_mode s Gap is.0)
    ∙ run_spaces (at s.words s.part Gap) refl n ∙ sym (at_mode s Gap is.0)

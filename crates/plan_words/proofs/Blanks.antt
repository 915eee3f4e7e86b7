-- What blanks make of what is seen of a text.
use Rattle.std.proofs.Common.{◌≡◌, ℕ, zero, suc, true, List, [], ◌∷◌, ◌++◌, append_assoc, replicate, refl, sym, ap, subst, ◌∙◌}
use Rattle.std.proofs.lemmas.Bool.{false≢true}
use Rattle.std.proofs.lemmas.List.{append-nil}
use Rattle.plan_words.specs.declared.cutter.Mode.{Mode}
use Rattle.plan_words.specs.declared.cutter.Mode.TheVariants.{Between, Word, Quoted}
use Rattle.plan_words.specs.Seen.{IsBetween, Seen, can_end, seen_in, words_in}
use Rattle.plan_words.proofs.Unplaced.{ended', next, seen_more, words_seen}

abbrev pub words_of : Seen → List (List ℕ)
words_of s = ended' s.mode s

abbrev pub at : List (List ℕ) → List ℕ → Mode → Seen
at ws p m = record { words = ws; part = p; mode = m }

-- all bytes
abbrev pub run : List ℕ → Seen → Seen
run [] s = s
run (b ∷ bytes) s = run bytes (next b s)

pub seen_run : (text bytes : List ℕ) → seen_in (text ++ bytes) ≡ run bytes (seen_in text)
seen_run text [] = ap seen_in (append-nil text)
seen_run text (b ∷ bytes) =
    ap seen_in (sym (append_assoc text (b ∷ []) bytes))
    ∙ seen_run (text ++ b ∷ []) bytes
    ∙ ap (run bytes) (seen_more text b)

-- ---- blanks

abbrev Blank : ℕ → Seen → Type 0
Blank b s = (IsBetween (next b s)) × (words_of (next b s) ≡ words_of s)

blank_10 : (m : Mode) (ws : List (List ℕ)) (p : List ℕ) → can_end m ≡ true → Blank 10 (at ws p m)
blank_10 Between ws p h = (refl, refl)
blank_10 Word ws p h = (refl, refl)
blank_10 Quoted ws p h = (refl, refl)
blank_10 m ws p h = absurd (false≢true h)

blank_32 : (m : Mode) (ws : List (List ℕ)) (p : List ℕ) → can_end m ≡ true → Blank 32 (at ws p m)
blank_32 Between ws p h = (refl, refl)
blank_32 Word ws p h = (refl, refl)
blank_32 Quoted ws p h = (refl, refl)
blank_32 m ws p h = absurd (false≢true h)

-- what a text is behind bytes that end its last token
pub record IsEnded (old new : List ℕ) : Type 0 where
  pub between : IsBetween (seen_in new)
  pub same : words_in new ≡ words_in old

ended_by : (b : ℕ) (text : List ℕ) → Blank b (seen_in text) → IsEnded text (text ++ b ∷ [])
ended_by b text h = record {
  between = subst (λ s. IsBetween s) (sym (seen_more text b)) h.0;
  same = words_seen (text ++ b ∷ []) ∙ ap words_of (seen_more text b) ∙ h.1 ∙ sym (words_seen text);
}

pub laid_space : (text : List ℕ) → can_end (seen_in text).mode ≡ true → IsEnded text (text ++ 32 ∷ [])
laid_space text h = ended_by 32 text (blank_32 (seen_in text).mode (seen_in text).words (seen_in text).part h)

pub laid_feed : (text : List ℕ) → can_end (seen_in text).mode ≡ true → IsEnded text (text ++ 10 ∷ [])
laid_feed text h = ended_by 10 text (blank_10 (seen_in text).mode (seen_in text).words (seen_in text).part h)

pub run_spaces : (s : Seen) → next 32 s ≡ s → (n : ℕ) → run (replicate n 32) s ≡ s
run_spaces s h zero = refl
run_spaces s h (suc n) = ap (run (replicate n 32)) h ∙ run_spaces s h n

space_between : (s : Seen) → IsBetween s → next 32 s ≡ s
space_between s h =
    subst (λ m. next 32 (at s.words s.part m) ≡ at s.words s.part m) (sym h) refl

pub laid_line : (text : List ℕ) (n : ℕ) → can_end (seen_in text).mode ≡ true
    → IsEnded text (text ++ 10 ∷ replicate n 32)
laid_line text n h =
    let feed = laid_feed text h in
    let last : seen_in (text ++ 10 ∷ replicate n 32) ≡ seen_in (text ++ 10 ∷ []) =
    ap seen_in (sym (append_assoc text (10 ∷ []) (replicate n 32)))
    ∙ seen_run (text ++ 10 ∷ []) (replicate n 32)
    ∙ run_spaces (seen_in (text ++ 10 ∷ [])) (space_between (seen_in (text ++ 10 ∷ [])) feed.between) n in
    record {
      between = subst (λ s. IsBetween s) (sym last) feed.between;
      same = words_seen (text ++ 10 ∷ replicate n 32) ∙ ap words_of last ∙ sym (words_seen (text ++ 10 ∷ [])) ∙ feed.same;
    }

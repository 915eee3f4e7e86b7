-- How a text is cut, without the places of its tokens.
use Rattle.std.proofs.Common.{◌≡◌, ℕ, ◌+◌, ◌==◌, Bool, true, false, List, [], ◌∷◌, ◌++◌, cond, refl, ap, ◌∙◌}
use Rattle.std.proofs.lemmas.List.{map_push}
use Rattle.plan_words.specs.declared.cutter.Mode.{Mode}
use Rattle.plan_words.specs.declared.cutter.Mode.TheVariants.{Between, Comment, Word, Text, Escaped, Quoted, Joined, Row, Gap}
use Rattle.plan_words.specs.Bytes.{ends_word, is_blank, is_mark}
use Rattle.plan_words.specs.Cutting.{CutSoFar, after_byte, after_mode, after_row, alone, before_text, token_begun, between_tokens, closed, cut, tokens_at_end, grown, in_mode, mode_of}
use Rattle.plan_words.specs.Lexemes.{Lexeme}
use Rattle.plan_words.specs.Seen.{Seen, seen, seen_in, texts, words_in}

abbrev pub in_mode' : Mode → Seen → Seen
in_mode' mode s = record s { mode = mode }

abbrev pub grown' : ℕ → Seen → Seen
grown' b s = record s { part = s.part ++ b ∷ [] }

abbrev pub closed' : Seen → Seen
closed' s = record { words = s.words ++ s.part ∷ []; part = []; mode = Between }

abbrev pub begun' : ℕ → Seen → Seen
begun' b s = record { words = s.words; part = b ∷ []; mode = mode_of b }

abbrev pub alone' : ℕ → Seen → Seen
alone' b s = cond (is_mark b) (closed' (begun' b s)) (begun' b s)

abbrev pub between' : ℕ → Seen → Seen
between' b s = cond (is_blank b) (in_mode' Between s) (cond (b == 35) (in_mode' Comment s) (alone' b s))

abbrev pub after_text' : ℕ → Seen → Seen
after_text' b s = cond (b == 92) (in_mode' Escaped s) (cond (b == 34) (in_mode' Quoted s) (grown' b s))

abbrev pub after_escape' : ℕ → Seen → Seen
after_escape' b s = grown' b (grown' 92 (in_mode' Text s))

abbrev pub after_quote' : ℕ → Seen → Seen
after_quote' b s = cond (b == 92) (in_mode' Joined s) (between' b (closed' (grown' 34 s)))

abbrev pub after_join' : ℕ → Seen → Seen
after_join' b s =
    cond (is_blank b) s (cond (b == 34) (in_mode' Text s) (between' b (closed' (grown' 92 (grown' 34 s)))))

abbrev pub after_row' : ℕ → Seen → Seen
after_row' b s = cond (b == 93) (closed' (grown' b s)) (in_mode' (cond (b == 44) Gap Row) (grown' b s))

abbrev pub after_word' : ℕ → Seen → Seen
after_word' b s = cond (ends_word b) (between' b (closed' s)) (grown' b s)

abbrev pub after' : Mode → ℕ → Seen → Seen
after' Between b s = between' b s
after' Comment b s = cond (b == 10) (in_mode' Between s) s
after' Word b s = after_word' b s
after' Text b s = after_text' b s
after' Escaped b s = after_escape' b s
after' Quoted b s = after_quote' b s
after' Joined b s = after_join' b s
after' Row b s = after_row' b s
after' Gap b s = cond (is_blank b) s (after_row' b s)

abbrev pub next : ℕ → Seen → Seen
next b s = after' s.mode b s

-- it is what is seen of the cut
seen_if : (q : Bool) (x y : CutSoFar) (u v : Seen) → seen x ≡ u → seen y ≡ v → seen (cond q x y) ≡ cond q u v
seen_if true x y u v a b = a
seen_if false x y u v a b = b

seen_closed : (c : CutSoFar) → seen (closed c) ≡ closed' (seen c)
seen_closed c =
    ap (λ (ws : List (List ℕ)). record { words = ws; part = []; mode = Between })
    (map_push (λ (t : Lexeme). t.text) c.tokens c.part)

seen_alone : (at b : ℕ) (c : CutSoFar) → seen (alone at b c) ≡ alone' b (seen c)
seen_alone at b c =
    seen_if (is_mark b) (closed (token_begun at b c)) (token_begun at b c) (closed' (begun' b (seen c))) (begun' b (seen c))
    (seen_closed (token_begun at b c)) refl

seen_between : (at b : ℕ) (c : CutSoFar) → seen (between_tokens at b c) ≡ between' b (seen c)
seen_between at b c =
    seen_if (is_blank b) (in_mode Between c) (cond (b == 35) (in_mode Comment c) (alone at b c))
    (in_mode' Between (seen c)) (cond (b == 35) (in_mode' Comment (seen c)) (alone' b (seen c)))
    refl
    (seen_if (b == 35) (in_mode Comment c) (alone at b c) (in_mode' Comment (seen c)) (alone' b (seen c))
    refl (seen_alone at b c))

seen_between_closed : (at b : ℕ) (c : CutSoFar) → seen (between_tokens at b (closed c)) ≡ between' b (closed' (seen c))
seen_between_closed at b c = seen_between at b (closed c) ∙ ap (between' b) (seen_closed c)

seen_row : (b : ℕ) (c : CutSoFar) → seen (after_row b c) ≡ after_row' b (seen c)
seen_row b c =
    seen_if (b == 93) (closed (grown b c)) (in_mode (cond (b == 44) Gap Row) (grown b c))
    (closed' (grown' b (seen c))) (in_mode' (cond (b == 44) Gap Row) (grown' b (seen c)))
    (seen_closed (grown b c)) refl

seen_after : (m : Mode) (at b : ℕ) (c : CutSoFar) → seen (after_mode m at b c) ≡ after' m b (seen c)
seen_after Between at b c = seen_between at b c
seen_after Comment at b c = seen_if (b == 10) (in_mode Between c) c (in_mode' Between (seen c)) (seen c) refl refl
seen_after Word at b c =
    seen_if (ends_word b) (between_tokens at b (closed c)) (grown b c) (between' b (closed' (seen c))) (grown' b (seen c))
    (seen_between_closed at b c) refl
seen_after Text at b c =
    seen_if (b == 92) (in_mode Escaped c) (cond (b == 34) (in_mode Quoted c) (grown b c))
    (in_mode' Escaped (seen c)) (cond (b == 34) (in_mode' Quoted (seen c)) (grown' b (seen c)))
    refl (seen_if (b == 34) (in_mode Quoted c) (grown b c) (in_mode' Quoted (seen c)) (grown' b (seen c)) refl refl)
seen_after Escaped at b c = refl
seen_after Quoted at b c =
    seen_if (b == 92) (in_mode Joined c) (between_tokens at b (closed (grown 34 c)))
    (in_mode' Joined (seen c)) (between' b (closed' (grown' 34 (seen c))))
    refl (seen_between_closed at b (grown 34 c))
seen_after Joined at b c =
    seen_if (is_blank b) c (cond (b == 34) (in_mode Text c) (between_tokens at b (closed (grown 92 (grown 34 c)))))
    (seen c) (cond (b == 34) (in_mode' Text (seen c)) (between' b (closed' (grown' 92 (grown' 34 (seen c))))))
    refl
    (seen_if (b == 34) (in_mode Text c) (between_tokens at b (closed (grown 92 (grown 34 c))))
    (in_mode' Text (seen c)) (between' b (closed' (grown' 92 (grown' 34 (seen c)))))
    refl (seen_between_closed at b (grown 92 (grown 34 c))))
seen_after Row at b c = seen_row b c
seen_after Gap at b c = seen_if (is_blank b) c (after_row b c) (seen c) (after_row' b (seen c)) refl (seen_row b c)

seen_push : (at : ℕ) (bytes : List ℕ) (b : ℕ) (c : CutSoFar) → seen (cut at (bytes ++ b ∷ []) c) ≡ next b (seen (cut at bytes c))
seen_push at [] b c = seen_after c.mode at b c
seen_push at (x ∷ bytes) b c = seen_push (at + 1) bytes b (after_byte at x c)

-- one byte more
pub seen_more : (text : List ℕ) (b : ℕ) → seen_in (text ++ b ∷ []) ≡ next b (seen_in text)
unfolding seen_in
seen_more text b = seen_push 0 text b before_text

-- the tokens, if the text ends here
abbrev pub ended' : Mode → Seen → List (List ℕ)
ended' Between s = s.words
ended' Comment s = s.words
ended' Quoted s = s.words ++ (s.part ++ 34 ∷ []) ∷ []
ended' mode s = s.words ++ s.part ∷ []

texts_ended : (m : Mode) (c : CutSoFar) → texts (tokens_at_end m c) ≡ ended' m (seen c)
texts_ended Between c = refl
texts_ended Comment c = refl
texts_ended Quoted c = map_push (λ (t : Lexeme). t.text) c.tokens (grown 34 c).part
texts_ended Word c = map_push (λ (t : Lexeme). t.text) c.tokens c.part
texts_ended Text c = map_push (λ (t : Lexeme). t.text) c.tokens c.part
texts_ended Escaped c = map_push (λ (t : Lexeme). t.text) c.tokens c.part
texts_ended Joined c = map_push (λ (t : Lexeme). t.text) c.tokens c.part
texts_ended Row c = map_push (λ (t : Lexeme). t.text) c.tokens c.part
texts_ended Gap c = map_push (λ (t : Lexeme). t.text) c.tokens c.part

pub words_seen : (text : List ℕ) → words_in text ≡ ended' (seen_in text).mode (seen_in text)
unfolding seen_in words_in
words_seen text = texts_ended (cut 0 text before_text).mode (cut 0 text before_text)

-- A cut is the one way to read bytes as lines that a line feed ends, and a rest: no line feed stands in any of them.
use Rattle.std.proofs.Common.{◌≡◌, ◌≢◌, ℕ, List, [], ◌∷◌, ◌++◌, refl, sym, ap, ◌∙◌, subst, inl, inr, All}
use Rattle.std.proofs.lemmas.Bool.{cases_eq}
use Rattle.std.proofs.lemmas.List.Elements.{All-head, All-tail, All-nil, All-cons}
use Rattle.record_lines.specs.declared.limits.TheConstants.{LINE_FEED}
use Rattle.record_lines.specs.Lines.{Cut, cut, line_feed_before, byte_before, HasNoLineFeed}
use Rattle.record_lines.proofs.CutLaws.{cut-line_feed, cut-byte, cut-append, cut-line, cut-no_line_feed, cut_on}

-- lines, each with a line feed after it, and a rest
pub joined : List (List ℕ) → List ℕ → List ℕ
joined [] rest = rest
joined (line ∷ lines) rest = (line ++ LINE_FEED ∷ []) ++ joined lines rest

-- the parts of a cut
abbrev joined_cut : Cut → List ℕ
joined_cut c = joined c.ended c.rest

joined-byte_before : (b : ℕ) (ended : List (List ℕ)) (rest : List ℕ) → joined_cut (byte_before b ended rest) ≡ b ∷ joined ended rest
unfolding joined byte_before
joined-byte_before b [] rest = refl
joined-byte_before b (line ∷ lines) rest = refl

joined-line_feed_before : (c : Cut) → joined_cut (line_feed_before c) ≡ LINE_FEED ∷ joined_cut c
unfolding joined line_feed_before
joined-line_feed_before c = refl

-- a cut loses no byte
pub joined-cut : (bytes : List ℕ) → joined (cut bytes).ended (cut bytes).rest ≡ bytes
unfolding cut joined
joined-cut [] = refl
joined-cut (b ∷ bytes) = elim (cases_eq b LINE_FEED) [
  | inl e ↦
      let P : ℕ → Type 0 = λ y. joined_cut (cut (y ∷ bytes)) ≡ y ∷ bytes in
      subst P (sym e) (
      ap joined_cut (cut-line_feed bytes) ∙ joined-line_feed_before (cut bytes)
      ∙ ap (λ zs. LINE_FEED ∷ zs) (joined-cut bytes)
      )
  | inr h ↦
      ap joined_cut (cut-byte b bytes h) ∙ joined-byte_before b (cut bytes).ended (cut bytes).rest
      ∙ ap (λ zs. b ∷ zs) (joined-cut bytes)
]

-- what stands between line feeds is what a cut gives
pub cut-joined : (lines : List (List ℕ)) (rest : List ℕ) → All HasNoLineFeed lines → HasNoLineFeed rest
    → cut (joined lines rest) ≡ record { ended = lines; rest = rest }
unfolding joined
cut-joined [] rest apart free = cut-no_line_feed rest free
cut-joined (line ∷ lines) rest apart free =
    let one = cut-line line (All-head HasNoLineFeed line lines apart) in
    cut-append (line ++ LINE_FEED ∷ []) (joined lines rest)
    ∙ ap (λ (c : Cut). cut_on c (cut (c.rest ++ joined lines rest))) one
    ∙ ap (λ (c : Cut). record { ended = line ∷ c.ended; rest = c.rest }) (cut-joined lines rest (All-tail HasNoLineFeed line lines apart) free)

ended-byte_before : (b : ℕ) → b ≢ LINE_FEED → (ended : List (List ℕ)) (rest : List ℕ) → All HasNoLineFeed ended
    → All HasNoLineFeed (byte_before b ended rest).ended
unfolding byte_before
ended-byte_before b other [] rest apart = apart
ended-byte_before b other (line ∷ lines) rest apart =
    All-cons HasNoLineFeed (b ∷ line) lines
    (All-cons (λ b. b ≢ LINE_FEED) b line other (All-head HasNoLineFeed line lines apart))
    (All-tail HasNoLineFeed line lines apart)

ended-line_feed_before : (c : Cut) → All HasNoLineFeed c.ended → All HasNoLineFeed (line_feed_before c).ended
unfolding line_feed_before
ended-line_feed_before c apart = All-cons HasNoLineFeed [] c.ended (All-nil (λ b. b ≢ LINE_FEED)) apart

-- no line has a line feed
pub ended-no_line_feed : (bytes : List ℕ) → All HasNoLineFeed (cut bytes).ended
unfolding cut
ended-no_line_feed [] = All-nil HasNoLineFeed
ended-no_line_feed (b ∷ bytes) = elim (cases_eq b LINE_FEED) [
  | inl e ↦
      let P : ℕ → Type 0 = λ y. All HasNoLineFeed (cut (y ∷ bytes)).ended in
      subst P (sym e) (ended-line_feed_before (cut bytes) (ended-no_line_feed bytes))
  | inr h ↦
      let P : Cut → Type 0 = λ c. All HasNoLineFeed c.ended in
      subst P (sym (cut-byte b bytes h)) (ended-byte_before b h (cut bytes).ended (cut bytes).rest (ended-no_line_feed bytes))
]

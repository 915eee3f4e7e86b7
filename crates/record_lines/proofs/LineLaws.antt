-- The laws of the lines and of the rest of a byte list, as it grows.
use Rattle.std.proofs.Common.{◌≡◌, ◌≢◌, ℕ, List, [], ◌∷◌, ◌++◌, map, refl, sym, ap, ◌∙◌, append_assoc}
use Rattle.std.proofs.lemmas.List.{append-nil, map-append}
use Rattle.std.proofs.lemmas.List.Elements.{All-append}
use Rattle.record_lines.specs.declared.limits.TheConstants.{LINE_FEED}
use Rattle.record_lines.specs.Lines.{Cut, cut, whole_lines, rest_of, without_cr, HasNoLineFeed}
use Rattle.record_lines.proofs.CutLaws.{cut-append, cut-no_line_feed, cut-line, rest-no_line_feed}

-- no bytes have no lines and no rest
pub whole_lines-nil : whole_lines [] ≡ []
unfolding whole_lines cut
whole_lines-nil = refl

pub rest_of-nil : rest_of [] ≡ []
unfolding rest_of cut
rest_of-nil = refl

-- more bytes keep the lines that stand, and go on from the rest
pub whole_lines-append : (a b : List ℕ) → whole_lines (a ++ b) ≡ whole_lines a ++ whole_lines (rest_of a ++ b)
unfolding whole_lines rest_of
whole_lines-append a b =
    ap (λ (c : Cut). map without_cr c.ended) (cut-append a b) ∙ map-append without_cr (cut a).ended (cut ((cut a).rest ++ b)).ended

pub rest_of-append : (a b : List ℕ) → rest_of (a ++ b) ≡ rest_of (rest_of a ++ b)
unfolding rest_of
rest_of-append a b = ap (λ (c : Cut). c.rest) (cut-append a b)

-- no line feed stands in the rest
pub rest_of-no_line_feed : (bytes : List ℕ) → HasNoLineFeed (rest_of bytes)
unfolding rest_of
rest_of-no_line_feed bytes = rest-no_line_feed bytes

-- a list without a line feed has no whole line, and is all rest
whole_lines-none : (bytes : List ℕ) → HasNoLineFeed bytes → whole_lines bytes ≡ []
unfolding whole_lines
whole_lines-none bytes h = ap (λ (c : Cut). map without_cr c.ended) (cut-no_line_feed bytes h)

rest_of-all : (bytes : List ℕ) → HasNoLineFeed bytes → rest_of bytes ≡ bytes
unfolding rest_of
rest_of-all bytes h = ap (λ (c : Cut). c.rest) (cut-no_line_feed bytes h)

-- a line feed after such a list ends the one line, and leaves no rest
whole_lines-one : (front : List ℕ) → HasNoLineFeed front → whole_lines (front ++ LINE_FEED ∷ []) ≡ without_cr front ∷ []
unfolding whole_lines
whole_lines-one front h = ap (λ (c : Cut). map without_cr c.ended) (cut-line front h)

rest_of-none : (front : List ℕ) → HasNoLineFeed front → rest_of (front ++ LINE_FEED ∷ []) ≡ []
unfolding rest_of
rest_of-none front h = ap (λ (c : Cut). c.rest) (cut-line front h)

rest_with : (bytes piece : List ℕ) → HasNoLineFeed piece → HasNoLineFeed (rest_of bytes ++ piece)
rest_with bytes piece h = All-append (λ b. b ≢ LINE_FEED) (rest_of bytes) piece (rest_of-no_line_feed bytes) h

-- bytes without a line feed go on with the rest
pub whole_lines-same : (bytes piece : List ℕ) → HasNoLineFeed piece → whole_lines (bytes ++ piece) ≡ whole_lines bytes
whole_lines-same bytes piece h =
    whole_lines-append bytes piece
    ∙ ap (λ lines. whole_lines bytes ++ lines) (whole_lines-none (rest_of bytes ++ piece) (rest_with bytes piece h))
    ∙ append-nil (whole_lines bytes)

pub rest_of-more : (bytes piece : List ℕ) → HasNoLineFeed piece → rest_of (bytes ++ piece) ≡ rest_of bytes ++ piece
rest_of-more bytes piece h =
    rest_of-append bytes piece ∙ rest_of-all (rest_of bytes ++ piece) (rest_with bytes piece h)

-- a line feed after such bytes ends a line, and leaves no rest
pub whole_lines-line : (bytes front : List ℕ) → HasNoLineFeed front
    → whole_lines (bytes ++ (front ++ LINE_FEED ∷ [])) ≡ whole_lines bytes ++ without_cr (rest_of bytes ++ front) ∷ []
whole_lines-line bytes front h =
    whole_lines-append bytes (front ++ LINE_FEED ∷ [])
    ∙ ap (λ more. whole_lines bytes ++ whole_lines more) (sym (append_assoc (rest_of bytes) front (LINE_FEED ∷ [])))
    ∙ ap (λ lines. whole_lines bytes ++ lines) (whole_lines-one (rest_of bytes ++ front) (rest_with bytes front h))

pub rest_of-line : (bytes front : List ℕ) → HasNoLineFeed front → rest_of (bytes ++ (front ++ LINE_FEED ∷ [])) ≡ []
rest_of-line bytes front h =
    rest_of-append bytes (front ++ LINE_FEED ∷ [])
    ∙ ap rest_of (sym (append_assoc (rest_of bytes) front (LINE_FEED ∷ [])))
    ∙ rest_of-none (rest_of bytes ++ front) (rest_with bytes front h)

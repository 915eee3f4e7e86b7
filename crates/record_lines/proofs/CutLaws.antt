-- The laws of `cut`: what it does to joined lists, to a list without a line feed, and to one line feed.
use Rattle.std.proofs.Common.{◌≡◌, ◌≢◌, ℕ, List, [], ◌∷◌, ◌++◌, refl, sym, ap, ◌∙◌, subst, inl, inr}
use Rattle.std.proofs.lemmas.Bool.{ne_eqb, cases_eq}
use Rattle.std.proofs.lemmas.List.Elements.{All-head, All-tail, All-nil, All-cons}
use Rattle.record_lines.specs.declared.limits.TheConstants.{LINE_FEED}
use Rattle.record_lines.specs.Lines.{Cut, cut, line_feed_before, byte_before, HasNoLineFeed}

-- one cut, and what another one cuts of its rest
abbrev pub cut_on : Cut → Cut → Cut
cut_on c d = record { ended = c.ended ++ d.ended; rest = d.rest }

pub cut-line_feed : (bytes : List ℕ) → cut (LINE_FEED ∷ bytes) ≡ line_feed_before (cut bytes)
unfolding cut
cut-line_feed bytes = refl

pub cut-byte : (b : ℕ) (bytes : List ℕ) → b ≢ LINE_FEED → cut (b ∷ bytes) ≡ byte_before b (cut bytes).ended (cut bytes).rest
unfolding cut
cut-byte b bytes h = (rw (ne_eqb b LINE_FEED h))

byte_before-on : (x : ℕ) → x ≢ LINE_FEED → (ended : List (List ℕ)) (rest b : List ℕ)
    → byte_before x (ended ++ (cut (rest ++ b)).ended) (cut (rest ++ b)).rest
    ≡ cut_on (byte_before x ended rest) (cut ((byte_before x ended rest).rest ++ b))
unfolding byte_before
byte_before-on x h [] rest b = sym (cut-byte x (rest ++ b) h)
byte_before-on x h (line ∷ lines) rest b = refl

line_feed_before-on : (a b : List ℕ) → cut (a ++ b) ≡ cut_on (cut a) (cut ((cut a).rest ++ b))
    → cut (LINE_FEED ∷ a ++ b) ≡ cut_on (cut (LINE_FEED ∷ a)) (cut ((cut (LINE_FEED ∷ a)).rest ++ b))
unfolding cut line_feed_before
line_feed_before-on a b e = ap line_feed_before e

pub cut-append : (a b : List ℕ) → cut (a ++ b) ≡ cut_on (cut a) (cut ((cut a).rest ++ b))
unfolding cut
cut-append [] b = refl
cut-append (x ∷ a) b = elim (cases_eq x LINE_FEED) [
  | inl e ↦
      let P : ℕ → Type 0 = λ y. cut (y ∷ a ++ b) ≡ cut_on (cut (y ∷ a)) (cut ((cut (y ∷ a)).rest ++ b)) in
      subst P (sym e) (line_feed_before-on a b (cut-append a b))
  | inr h ↦
      cut-byte x (a ++ b) h ∙ ap (λ (c : Cut). byte_before x c.ended c.rest) (cut-append a b)
      ∙ byte_before-on x h (cut a).ended (cut a).rest b
      ∙ sym (ap (λ (c : Cut). cut_on c (cut (c.rest ++ b))) (cut-byte x a h))
]

-- a list without a line feed is all rest
pub cut-no_line_feed : (bytes : List ℕ) → HasNoLineFeed bytes → cut bytes ≡ record { ended = []; rest = bytes }
unfolding cut byte_before
cut-no_line_feed [] h = refl
cut-no_line_feed (b ∷ bytes) h =
    cut-byte b bytes (All-head (λ b. b ≢ LINE_FEED) b bytes h)
    ∙ ap (λ (c : Cut). byte_before b c.ended c.rest) (cut-no_line_feed bytes (All-tail (λ b. b ≢ LINE_FEED) b bytes h))

byte_before-rest : (b : ℕ) → b ≢ LINE_FEED → (ended : List (List ℕ)) (rest : List ℕ)
    → HasNoLineFeed rest → HasNoLineFeed (byte_before b ended rest).rest
unfolding byte_before
byte_before-rest b h [] rest free = All-cons (λ b. b ≢ LINE_FEED) b rest h free
byte_before-rest b h (line ∷ lines) rest free = free

rest-line_feed : (bytes : List ℕ) → (cut (LINE_FEED ∷ bytes)).rest ≡ (cut bytes).rest
unfolding cut line_feed_before
rest-line_feed bytes = refl

-- the rest has no line feed
pub rest-no_line_feed : (bytes : List ℕ) → HasNoLineFeed (cut bytes).rest
unfolding cut
rest-no_line_feed [] = All-nil (λ b. b ≢ LINE_FEED)
rest-no_line_feed (b ∷ bytes) = elim (cases_eq b LINE_FEED) [
  | inl e ↦
      let P : ℕ → Type 0 = λ y. HasNoLineFeed (cut (y ∷ bytes)).rest in
      subst P (sym e) (subst HasNoLineFeed (sym (rest-line_feed bytes)) (rest-no_line_feed bytes))
  | inr h ↦
      let P : Cut → Type 0 = λ c. HasNoLineFeed c.rest in
      subst P (sym (cut-byte b bytes h)) (byte_before-rest b h (cut bytes).ended (cut bytes).rest (rest-no_line_feed bytes))
]

pub cut-line : (front : List ℕ) → HasNoLineFeed front → cut (front ++ LINE_FEED ∷ []) ≡ record { ended = front ∷ []; rest = [] }
unfolding cut line_feed_before byte_before
cut-line [] h = refl
cut-line (b ∷ front) h =
    cut-byte b (front ++ LINE_FEED ∷ []) (All-head (λ b. b ≢ LINE_FEED) b front h)
    ∙ ap (λ (c : Cut). byte_before b c.ended c.rest) (cut-line front (All-tail (λ b. b ≢ LINE_FEED) b front h))

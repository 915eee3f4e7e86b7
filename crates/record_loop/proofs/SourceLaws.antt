-- What is read of a source, and the lines of no bytes.
use Rattle.std.proofs.Common.{◌≡◌, ◌≢◌, ℕ, ◌+◌, List, [], ◌∷◌, ◌++◌, Option, Some, None, refl, sym, ap, ◌∙◌, append_assoc}
use Rattle.std.proofs.lemmas.List.Elements.{All-nil}
use Rattle.std.specs.Io.KnownBytes.{Consumes, Keeps}
use Rattle.record_lines.specs.declared.limits.TheConstants.{LINE_FEED}
use Rattle.record_lines.specs.Lines.{whole_lines, rest_of, cut}
use Rattle.record_lines.proofs.LineLaws.{rest_of-line}

-- no bytes have no line
pub whole_lines-nil : whole_lines [] ≡ []
unfolding whole_lines cut
whole_lines-nil = refl

pub rest_of-nil : rest_of [] ≡ []
unfolding rest_of cut
rest_of-nil = refl

-- one part of a source is read after another
pub Consumes-trans : (source left rest : Option (List ℕ)) (bytes more : List ℕ) → Consumes source left bytes → Consumes left rest more → Consumes source rest (bytes ++ more)
Consumes-trans None left rest bytes more first second = tt
Consumes-trans (Some xs) None rest bytes more first second = absurd first
Consumes-trans (Some xs) (Some ys) None bytes more first second = absurd second
Consumes-trans (Some xs) (Some ys) (Some zs) bytes more first second = first ∙ ap (λ bs. bytes ++ bs) second ∙ sym (append_assoc bytes more zs)

-- the rest is empty behind a line feed
pub rest_of-through : (bytes front : List ℕ) → rest_of (bytes ++ (front ++ LINE_FEED ∷ [])) ≡ []
rest_of-through bytes front = ap rest_of (sym (append_assoc bytes front (LINE_FEED ∷ []))) ∙ rest_of-line (bytes ++ front) [] (All-nil (λ b. b ≢ LINE_FEED))

-- what a source tells stays as it was
pub Consumes-kept : (source left rest : Option (List ℕ)) (bytes : List ℕ) → Consumes source left bytes → Keeps left rest → Consumes source rest bytes
Consumes-kept None left rest bytes consumed kept = tt
Consumes-kept (Some xs) None rest bytes consumed kept = absurd consumed
Consumes-kept (Some xs) (Some ys) None bytes consumed kept = absurd kept
Consumes-kept (Some xs) (Some ys) (Some zs) bytes consumed kept = consumed ∙ ap (λ bs. bytes ++ bs) (sym kept)

pub Keeps-nil : (left : Option (List ℕ)) → Keeps left left
Keeps-nil None = tt
Keeps-nil (Some xs) = refl

-- Tokens behind a sender and a bar.
use Rattle.std.proofs.Common.{◌≡◌, List, [], ◌∷◌, ◌++◌, append_assoc, ap, ◌∙◌}

pub over_more : {A : Type 0} (words child : List A) (bar name : A) (more : List A)
    → (words ++ (child ++ bar ∷ name ∷ [])) ++ more ≡ words ++ (child ++ bar ∷ name ∷ more)
over_more {A} words child bar name more =
    append_assoc words (child ++ bar ∷ name ∷ []) more
    ∙ ap (λ (xs : List A). words ++ xs) (append_assoc child (bar ∷ name ∷ []) more)

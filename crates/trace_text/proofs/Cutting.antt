-- Where bytes are cut.
use Rattle.std.proofs.Common.{◌≡◌, ◌≢◌, ℕ, List, [], ◌∷◌, Option, Some, None, ap, ◌∙◌, append_assoc}
use Rattle.std.specs.Prelude.{All, MatchOption}
use Rattle.std.proofs.lemmas.Bool.{ne_eqb}
use Rattle.std.proofs.lemmas.List.Elements.{All-head, All-tail}
use Rattle.trace_text.specs.declared.cut.Cut.{Cut}
use Rattle.trace_text.specs.Cuts.{IsCutAt}
use Rattle.trace_text.specs.Words.{cut_at}
use Rattle.trace_text.proofs.WordLaws.{Lacks, cut_at-front, cut_at-none}

lacks-all : (c : ℕ) (bytes : List ℕ) → All (λ b. b ≢ c) bytes → Lacks c bytes
lacks-all c [] all = tt
lacks-all c (b ∷ bs) all =
    (ne_eqb b c (All-head (λ x. x ≢ c) b bs all), lacks-all c bs (All-tail (λ x. x ≢ c) b bs all))

-- where bytes were cut is the first place
pub cut-is : (c : ℕ) (bytes : List ℕ) (r : Option Cut) → MatchOption r (All (λ b. b ≢ c) bytes) (IsCutAt c bytes) →
    MatchOption r (cut_at c bytes ≡ None) (λ h. cut_at c bytes ≡ Some (record { front = h.front.now; rest = h.rest.now }))
cut-is c bytes None none = cut_at-none c bytes (lacks-all c bytes none)
cut-is c bytes (Some h) is =
    ap (cut_at c) (is.whole ∙ append_assoc h.front.now (c ∷ []) h.rest.now)
    ∙ cut_at-front c h.front.now h.rest.now (lacks-all c h.front.now is.front)

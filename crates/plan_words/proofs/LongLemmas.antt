-- Constants that go over several lines are seen as if they stood on one.
use Rattle.std.proofs.Common.{◌≡◌, ℕ, ◌+◌, ◌<◌, ◌==◌, ◌&&◌, not, Bool, true, List, [], ◌∷◌, ◌++◌, length, take, drop, get_or, append_assoc, sym, ap, subst, ◌∙◌}
use Rattle.std.proofs.lemmas.List.{append-nil, drop_more, take_more}
use Rattle.plan_words.specs.Seen.{IsBetween, IsInRow, IsInText, seen_in}
use Rattle.plan_words.specs.Wholes.{is_whole}
use Rattle.plan_words.proofs.Broken.{row_first, row_next, same_more, text_first, text_next}

-- so many bytes were added behind the start, as if on one line
pub record OnInText (start bytes : List ℕ) (index : ℕ) (text : List ℕ) (can_cut : Bool) : Type 0 where
  pub same : seen_in text ≡ seen_in (start ++ take index bytes)
  pub inside : IsInText can_cut (drop index bytes) (seen_in text)

pub record OnInRow (start bytes : List ℕ) (index : ℕ) (text : List ℕ) (can_cut : Bool) : Type 0 where
  pub same : seen_in text ≡ seen_in (start ++ take index bytes)
  pub inside : IsInRow can_cut (drop index bytes) (seen_in text)

-- one byte more
one_more : (start bytes : List ℕ) (index : ℕ) (text cut new : List ℕ) (b : ℕ) → index < length bytes → b ≡ get_or bytes index 0
    → seen_in text ≡ seen_in (start ++ take index bytes) → seen_in cut ≡ seen_in text → new ≡ cut ++ b ∷ []
    → seen_in new ≡ seen_in (start ++ take (index + 1) bytes)
one_more start bytes index text cut new b within byte same kept is =
    ap seen_in is
    ∙ same_more cut (start ++ take index bytes) b (kept ∙ same)
    ∙ ap seen_in (append_assoc start (take index bytes) (b ∷ [])
    ∙ ap (λ (bs : List ℕ). start ++ bs)
    (ap (λ (x : ℕ). take index bytes ++ x ∷ []) byte ∙ sym (take_more bytes index 0 within)))

left : (bytes : List ℕ) (index b : ℕ) → index < length bytes → b ≡ get_or bytes index 0
    → drop index bytes ≡ b ∷ drop (index + 1) bytes
left bytes index b within byte =
    drop_more bytes index 0 within ∙ ap (λ (x : ℕ). x ∷ drop (index + 1) bytes) (sym byte)

pub on_in_text : (start bytes : List ℕ) (index : ℕ) (text cut new : List ℕ) (b : ℕ) (can_cut now : Bool)
    → index < length bytes → b ≡ get_or bytes index 0
    → OnInText start bytes index text can_cut
    → (IsInText can_cut (drop index bytes) (seen_in text) → seen_in cut ≡ seen_in text)
    → new ≡ cut ++ b ∷ [] → now ≡ not (can_cut && (b == 92))
    → OnInText start bytes (index + 1) new now
on_in_text start bytes index text cut new b can_cut now within byte on kept is flag =
    let same = kept on.inside in
    let inside : IsInText can_cut (b ∷ drop (index + 1) bytes) (seen_in cut) =
    subst (λ (bs : List ℕ). IsInText can_cut bs (seen_in cut)) (left bytes index b within byte)
    (subst (λ s. IsInText can_cut (drop index bytes) s) (sym same) on.inside) in
    record {
      same = one_more start bytes index text cut new b within byte on.same same is;
      inside =
          subst (λ (t : List ℕ). IsInText now (drop (index + 1) bytes) (seen_in t)) (sym is)
          (subst (λ (q : Bool). IsInText q (drop (index + 1) bytes) (seen_in (cut ++ b ∷ []))) (sym flag)
          (text_next cut b (drop (index + 1) bytes) can_cut inside));
    }

pub on_in_row : (start bytes : List ℕ) (index : ℕ) (text cut new : List ℕ) (b : ℕ) (can_cut now : Bool)
    → index < length bytes → b ≡ get_or bytes index 0
    → OnInRow start bytes index text can_cut
    → (IsInRow can_cut (drop index bytes) (seen_in text) → seen_in cut ≡ seen_in text)
    → new ≡ cut ++ b ∷ [] → now ≡ (b == 44)
    → OnInRow start bytes (index + 1) new now
on_in_row start bytes index text cut new b can_cut now within byte on kept is flag =
    let same = kept on.inside in
    let inside : IsInRow can_cut (b ∷ drop (index + 1) bytes) (seen_in cut) =
    subst (λ (bs : List ℕ). IsInRow can_cut bs (seen_in cut)) (left bytes index b within byte)
    (subst (λ s. IsInRow can_cut (drop index bytes) s) (sym same) on.inside) in
    record {
      same = one_more start bytes index text cut new b within byte on.same same is;
      inside =
          subst (λ (t : List ℕ). IsInRow now (drop (index + 1) bytes) (seen_in t)) (sym is)
          (subst (λ (q : Bool). IsInRow q (drop (index + 1) bytes) (seen_in (cut ++ b ∷ []))) (sym flag)
          (row_next cut b (drop (index + 1) bytes) can_cut inside));
    }

-- a word or a constant by its first byte and the others
same_word : (old put : List ℕ) (first : ℕ) (rest word : List ℕ) → word ≡ first ∷ rest → put ≡ old ++ first ∷ []
    → put ++ rest ≡ old ++ word
same_word old put first rest word is e =
    ap (λ (bs : List ℕ). bs ++ rest) e ∙ append_assoc old (first ∷ []) rest ∙ ap (λ (bs : List ℕ). old ++ bs) (sym is)

pub text_put : (old put new : List ℕ) (first : ℕ) (rest word : List ℕ) → word ≡ first ∷ rest → first ≡ 34
    → is_whole word ≡ true → put ≡ old ++ first ∷ []
    → (IsInText true rest (seen_in put) → seen_in new ≡ seen_in (put ++ rest))
    → IsBetween (seen_in old) → seen_in new ≡ seen_in (old ++ word)
text_put old put new first rest word is quote whole e adds between =
    let text : 34 ∷ rest ≡ word = ap (λ (b : ℕ). b ∷ rest) (sym quote) ∙ sym is in
    let inside : IsInText true rest (seen_in put) =
    subst (λ (t : List ℕ). IsInText true rest (seen_in t)) (ap (λ (b : ℕ). old ++ b ∷ []) (sym quote) ∙ sym e)
    (text_first old rest between (ap is_whole text ∙ whole)) in
    adds inside ∙ ap seen_in (same_word old put first rest word is e)

pub row_put : (old put new : List ℕ) (first : ℕ) (rest word : List ℕ) → word ≡ first ∷ rest → first ≡ 91
    → is_whole word ≡ true → put ≡ old ++ first ∷ []
    → (IsInRow true rest (seen_in put) → seen_in new ≡ seen_in (put ++ rest))
    → IsBetween (seen_in old) → seen_in new ≡ seen_in (old ++ word)
row_put old put new first rest word is bracket whole e adds between =
    let row : 91 ∷ rest ≡ word = ap (λ (b : ℕ). b ∷ rest) (sym bracket) ∙ sym is in
    let inside : IsInRow true rest (seen_in put) =
    subst (λ (t : List ℕ). IsInRow true rest (seen_in t)) (ap (λ (b : ℕ). old ++ b ∷ []) (sym bracket) ∙ sym e)
    (row_first old rest between (ap is_whole row ∙ whole)) in
    adds inside ∙ ap seen_in (same_word old put first rest word is e)

pub rest_put : (old put new : List ℕ) (first : ℕ) (rest word : List ℕ) → word ≡ first ∷ rest → put ≡ old ++ first ∷ []
    → new ≡ put ++ rest → seen_in new ≡ seen_in (old ++ word)
rest_put old put new first rest word is e adds = ap seen_in (adds ∙ same_word old put first rest word is e)

pub none_put : (old word : List ℕ) → word ≡ [] → seen_in old ≡ seen_in (old ++ word)
none_put old word is = ap seen_in (sym (ap (λ (bs : List ℕ). old ++ bs) is ∙ append-nil old))

pub ruleset puts = (text_put, row_put, rest_put, none_put)

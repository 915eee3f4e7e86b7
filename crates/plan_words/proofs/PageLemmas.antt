-- What the steps of a layout make of the tokens of a page.
use Rattle.std.proofs.Common.{◌≡◌, ◌<◌, ◌+◌, inl, inr, ℕ, zero, suc, length, get_or, arith, ◌==◌, ◌||◌, Bool, true, false, List, [], ◌∷◌, ◌++◌, map, take, append_assoc, cond, refl, sym, ap, subst, ◌∙◌}
use Rattle.std.proofs.lemmas.Bool.{and_parts, cases_Bool, cond-false, eqb-true, false≢true, or_cases, or_parts, true≢false}
use Rattle.std.specs.List.{list_all}
use Rattle.std.proofs.lemmas.List.{append-nil, map_push, take_more}
use Rattle.plan_words.specs.declared.kind.TokenKind.{TokenKind}
use Rattle.plan_words.specs.declared.kind.TokenKind.TheVariants as kind
use Rattle.plan_words.specs.Bytes.{ends_word, is_mark}
use Rattle.plan_words.specs.Kinds.{begins_constant, token_kind, kind_of_first}
use Rattle.plan_words.specs.Pages.{AddsToken, AddsTokens, HoldsTokens, IsOnNextLine, KeepsTokens, PageSeen}
use Rattle.plan_words.specs.Seen.{IsBetween, can_end, seen_in, words_in}
use Rattle.plan_words.specs.Wholes.{nothing_follows, is_sign, is_token, is_whole, row_ends, word_ends}
use Rattle.plan_words.proofs.Bytes.{of_mark}
use Rattle.plan_words.proofs.Blanks.{IsEnded, laid_feed, laid_line, laid_space}
use Rattle.plan_words.proofs.Laying.{laid_sign, laid_whole, no_more, passed, plain}

-- ---- blanks and lines

keeps_ended : (old new : PageSeen) (words : List (List ℕ)) → HoldsTokens words old → IsEnded old.text new.text → HoldsTokens words new
keeps_ended old new words h e = record {
  words_are = e.same ∙ h.words_are;
  can_end = ap can_end e.between;
  between = λ _. e.between;
}

pub line_keeps : (old new : PageSeen) → IsOnNextLine old new → KeepsTokens old new
line_keeps old new next words h =
    keeps_ended old new words h
    (subst (λ (t : List ℕ). IsEnded old.text t) (sym next.text_is) (laid_line old.text next.columns h.can_end))

pub space_keeps : (old new : PageSeen) → new.text ≡ old.text ++ 32 ∷ [] → KeepsTokens old new
space_keeps old new e words h =
    keeps_ended old new words h (subst (λ (t : List ℕ). IsEnded old.text t) (sym e) (laid_space old.text h.can_end))

pub feed_keeps : (old new : PageSeen) → new.text ≡ old.text ++ 10 ∷ [] → KeepsTokens old new
feed_keeps old new e words h =
    keeps_ended old new words h (subst (λ (t : List ℕ). IsEnded old.text t) (sym e) (laid_feed old.text h.can_end))

-- ---- tokens

sign_added : (old new : PageSeen) (b : ℕ) (bytes : List ℕ) → is_mark b ≡ true → bytes ≡ []
    → new.text ≡ old.text ++ b ∷ bytes → AddsToken (b ∷ bytes) old new
sign_added old new b bytes mark none e words h =
    let laid = laid_sign old.text b h.can_end mark in
    let text : new.text ≡ old.text ++ b ∷ [] = e ∙ ap (λ (bs : List ℕ). old.text ++ b ∷ bs) none in
    let between : IsBetween (seen_in new.text) =
    subst (λ (t : List ℕ). IsBetween (seen_in t)) (sym text) laid.0 in
    record {
      words_are = ap words_in text ∙ laid.1 ∙ ap (λ (ws : List (List ℕ)). ws ++ (b ∷ []) ∷ []) h.words_are
          ∙ ap (λ (bs : List ℕ). words ++ (b ∷ bs) ∷ []) (sym none);
      can_end = ap can_end between;
      between = λ _. between;
    }

pub sign_adds : (old new : PageSeen) (word : List ℕ) → is_sign word ≡ true → new.text ≡ old.text ++ word → AddsToken word old new
sign_adds old new [] sign e = absurd (false≢true sign)
sign_adds old new (b ∷ bytes) sign e =
    let parts = and_parts (is_mark b) (nothing_follows bytes) sign in
    sign_added old new b bytes parts.0 (no_more bytes parts.1) e

pub whole_adds : (old new : PageSeen) (word : List ℕ) → is_whole word ≡ true → old.apart ≡ false
    → (IsBetween (seen_in old.text) → seen_in new.text ≡ seen_in (old.text ++ word)) → new.apart ≡ true → AddsToken word old new
whole_adds old new word whole before same behind words h =
    let between = h.between before in
    let added = laid_whole old.text new.text word between whole (same between) in
    record {
      words_are = added.words ∙ ap (λ (ws : List (List ℕ)). ws ++ word ∷ []) h.words_are;
      can_end = added.ends;
      between = λ f. absurd (true≢false (sym behind ∙ f));
    }

-- ---- which tokens are signs

is_mark_kind : TokenKind → Bool
is_mark_kind kind.Word = false
is_mark_kind kind.Constant = false
is_mark_kind k = true

none_of : (q : Bool) → is_mark_kind (cond q kind.Constant kind.Word) ≡ false
unfolding is_mark_kind
none_of true = refl
none_of false = refl

no_mark : (b : ℕ) → is_mark b ≡ false → is_mark_kind (kind_of_first b) ≡ false
unfolding is_mark_kind
no_mark b h =
    let h1 = or_parts ((b == 124) || (b == 40) || (b == 41)) (b == 44) h in
    let h2 = or_parts ((b == 124) || (b == 40)) (b == 41) h1.0 in
    let h3 = or_parts (b == 124) (b == 40) h2.0 in
    ap is_mark_kind
    (cond-false (b == 124) _ _ h3.0 ∙ cond-false (b == 40) _ _ h3.1 ∙ cond-false (b == 41) _ _ h2.1
    ∙ cond-false (b == 44) _ (cond (begins_constant b) kind.Constant kind.Word) h1.1)
    ∙ none_of (begins_constant b)

whole_kind : (word : List ℕ) → is_whole word ≡ true → is_mark_kind (token_kind word) ≡ false
unfolding is_mark_kind
whole_kind [] h = absurd (false≢true h)
whole_kind (b ∷ bytes) h =
    elim (cases_Bool (b == 34)) [
      | inl e ↦ subst (λ (x : ℕ). is_mark_kind (kind_of_first x) ≡ false) (sym (eqb-true b 34 e)) refl
      | inr e ↦
          let h1 : cond (b == 91) (row_ends bytes) (word_ends (b ∷ bytes)) ≡ true = sym (cond-false (b == 34) _ _ e) ∙ h in
          elim (cases_Bool (b == 91)) [
            | inl f ↦ subst (λ (x : ℕ). is_mark_kind (kind_of_first x) ≡ false) (sym (eqb-true b 91 f)) refl
            | inr f ↦
                let is = passed (ends_word b) (word_ends bytes) (sym (cond-false (b == 91) _ _ f) ∙ h1) in
                no_mark b (plain b is.0).mark
          ]
    ]

sign_kind : (word : List ℕ) → is_sign word ≡ true → is_mark_kind (token_kind word) ≡ true
unfolding is_mark_kind
sign_kind [] h = absurd (false≢true h)
sign_kind (b ∷ bytes) h =
    of_mark b (λ (x : ℕ). is_mark_kind (kind_of_first x) ≡ true) refl refl refl refl (and_parts (is_mark b) (nothing_follows bytes) h).0

sign_from : (word : List ℕ) → is_token word ≡ true → is_mark_kind (token_kind word) ≡ true → is_sign word ≡ true
sign_from word h mark =
    elim (or_cases (is_whole word) (is_sign word) h) [
      | inl whole ↦ absurd (true≢false (sym mark ∙ whole_kind word whole))
      | inr sign ↦ sign
    ]

whole_from : (word : List ℕ) → is_token word ≡ true → is_mark_kind (token_kind word) ≡ false → is_whole word ≡ true
whole_from word h mark =
    elim (or_cases (is_whole word) (is_sign word) h) [
      | inl whole ↦ whole
      | inr sign ↦ absurd (true≢false (sym (sign_kind word sign) ∙ mark))
    ]

pub open_sign : (word : List ℕ) → is_token word ≡ true → kind.Open ≡ token_kind word → is_sign word ≡ true
unfolding is_mark_kind
open_sign word h e = sign_from word h (ap is_mark_kind (sym e))

pub close_sign : (word : List ℕ) → is_token word ≡ true → kind.Close ≡ token_kind word → is_sign word ≡ true
unfolding is_mark_kind
close_sign word h e = sign_from word h (ap is_mark_kind (sym e))

pub comma_sign : (word : List ℕ) → is_token word ≡ true → kind.Comma ≡ token_kind word → is_sign word ≡ true
unfolding is_mark_kind
comma_sign word h e = sign_from word h (ap is_mark_kind (sym e))

pub bar_sign : (word : List ℕ) → is_token word ≡ true → kind.Bar ≡ token_kind word → is_sign word ≡ true
unfolding is_mark_kind
bar_sign word h e = sign_from word h (ap is_mark_kind (sym e))

pub word_whole : (word : List ℕ) → is_token word ≡ true → kind.Word ≡ token_kind word → is_whole word ≡ true
unfolding is_mark_kind
word_whole word h e = whole_from word h (ap is_mark_kind (sym e))

pub constant_whole : (word : List ℕ) → is_token word ≡ true → kind.Constant ≡ token_kind word → is_whole word ≡ true
unfolding is_mark_kind
constant_whole word h e = whole_from word h (ap is_mark_kind (sym e))

-- ---- tokens one after the other

pub all_at : {X : Type 0} (f : X → List ℕ) (test : List ℕ → Bool) (xs : List X) (index : ℕ) (d : X) → index < length xs
    → list_all test (map f xs) ≡ true → test (f (get_or xs index d)) ≡ true
all_at f test [] index d within h = absurd (omega arith)
all_at f test (x ∷ xs) zero d within h = (and_parts (test (f x)) (list_all test (map f xs)) h).0
all_at f test (x ∷ xs) (suc index) d within h =
    all_at f test xs index d (omega arith) (and_parts (test (f x)) (list_all test (map f xs)) h).1

pub adds_more : {X : Type 0} (f : X → List ℕ) (xs : List X) (index : ℕ) (x : X) (start old new : PageSeen) → index < length xs
    → x ≡ get_or xs index x → AddsTokens (map f (take index xs)) start old → AddsToken (f x) old new
    → AddsTokens (map f (take (index + 1) xs)) start new
adds_more f xs index x start old new within is before now words h =
    let items : map f (take (index + 1) xs) ≡ map f (take index xs) ++ f x ∷ [] =
    ap (map f) (take_more xs index x within) ∙ map_push f (take index xs) (get_or xs index x)
    ∙ ap (λ (y : List ℕ). map f (take index xs) ++ y ∷ []) (sym (ap f is)) in
    subst (λ (ws : List (List ℕ)). HoldsTokens ws new)
    (append_assoc words (map f (take index xs)) (f x ∷ []) ∙ ap (λ (ws : List (List ℕ)). words ++ ws) (sym items))
    (now (words ++ map f (take index xs)) (before words h))

pub adds_none : {X : Type 0} (f : X → List ℕ) (xs : List X) (start : PageSeen) → AddsTokens (map f (take 0 xs)) start start
adds_none f xs start words h = subst (λ (ws : List (List ℕ)). HoldsTokens ws start) (sym (append-nil words)) h

pub blank_page : (page : PageSeen) → page.text ≡ [] → HoldsTokens [] page
unfolding seen_in words_in
blank_page page e = record {
  words_are = ap words_in e;
  can_end = ap (λ (t : List ℕ). can_end (seen_in t).mode) e;
  between = λ _. ap (λ (t : List ℕ). (seen_in t).mode) e;
}

pub ruleset token_kinds = (open_sign, close_sign, comma_sign, bar_sign, word_whole, constant_whole)

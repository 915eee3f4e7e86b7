-- How options are spelled, and where they stand.
use Rattle.std.proofs.Common.{◌≡◌, ℕ, Bool, true, false, List, ◌∷◌, ◌++◌, codes, Option, Some, None, refl, sym, ap, subst, ◌∙◌, inl, inr}
use Rattle.std.specs.Prelude.{if◌then◌else◌}
use Rattle.std.specs.Borrow.{Bor}
use Rattle.std.specs.Option.{option_map, option_and_then}
use Rattle.std.proofs.lemmas.Bool.{cond-true}
use Rattle.std.proofs.lemmas.Option.{same_Some}
use Rattle.exec_words.specs.declared.command.Order.{Order}
use Rattle.exec_words.specs.declared.number.TheConstants.{MOST_WORKERS, MOST_WINDOW}
use Rattle.exec_words.specs.declared.reading.Reading.{Reading}
use Rattle.exec_words.specs.declared.reading.Setting.{Setting}
use Rattle.exec_words.specs.declared.reading.Setting.TheVariants.{Workers, Window, Order as OrderSetting}
use Rattle.exec_words.specs.Laws.{name_of, IsOption}
use Rattle.exec_words.specs.Numbers.{number_between}
use Rattle.exec_words.specs.Reading.{is_name, order_named, once, with_name, with_option, with_value, with_summary, with_word, read_on}

-- a reading that awaits no value
abbrev calm : Option (Bor (List ℕ)) → Option (Bor (List ℕ)) → Option ℕ → Option ℕ → Option Order → Bool → Reading
calm plan count workers window order summary =
    record { plan = plan; count = count; workers = workers; window = window; order = order; summary = summary; awaits = None }

calm-is : (r : Reading) → r.awaits ≡ None → calm r.plan r.count r.workers r.window r.order r.summary ≡ r
calm-is r none = ap (λ (a : Option Setting). record r { awaits = a }) (sym none)

-- what is read of a word's bytes, where no value is awaited
abbrev read_word : Bor (List ℕ) → Reading → List ℕ → Option Reading
read_word word r bytes = if is_name bytes then with_name word r else with_option bytes r

module _ (plan count : Option (Bor (List ℕ))) (workers window : Option ℕ) (order : Option Order) (summary : Bool) where
  abbrev before : Reading
  before = calm plan count workers window order summary

  -- the name of an option alone awaits its value
  awaited : (setting : Setting) (name : Bor (List ℕ)) → name.now ≡ name_of setting → with_word name before ≡ Some (record before { awaits = Some setting })
  awaited Workers name is = ap (read_word name before) is
  awaited Window name is = ap (read_word name before) is
  awaited OrderSetting name is = ap (read_word name before) is

  -- with its value behind it, it is read at once
  joined-is : (setting : Setting) (word : Bor (List ℕ)) (value : List ℕ) → word.now ≡ name_of setting ++ 61 ∷ value → with_word word before ≡ with_value setting value before
  joined-is Workers word value is = ap (read_word word before) is
  joined-is Window word value is = ap (read_word word before) is
  joined-is OrderSetting word value is = ap (read_word word before) is

  -- an awaited value is read as one that stands behind the name
  awaited-is : (setting : Setting) (value : List ℕ) → with_value setting value (record before { awaits = Some setting }) ≡ with_value setting value before
  awaited-is Workers value = refl
  awaited-is Window value = refl
  awaited-is OrderSetting value = refl

  spelled : (setting : Setting) (name value joined : Bor (List ℕ)) (words : List (Bor (List ℕ))) → name.now ≡ name_of setting → joined.now ≡ name_of setting ++ 61 ∷ value.now →
      read_on before (name ∷ value ∷ words) ≡ read_on before (joined ∷ words)
  spelled setting name value joined words is behind =
      let rest = λ (o : Option Reading). option_and_then (λ s. read_on s words) o in
      ap (λ (o : Option Reading). option_and_then (λ s. read_on s (value ∷ words)) o) (awaited setting name is)
      ∙ ap rest (awaited-is setting value.now)
      ∙ ap rest (sym (joined-is setting joined value.now behind))

pub spellings : (r : Reading) (setting : Setting) (name value joined : Bor (List ℕ)) (words : List (Bor (List ℕ))) → r.awaits ≡ None → name.now ≡ name_of setting → joined.now ≡ name_of setting ++ 61 ∷ value.now →
    read_on r (name ∷ value ∷ words) ≡ read_on r (joined ∷ words)
spellings r setting name value joined words none is behind =
    let P : Reading → Type 0 = λ s. read_on s (name ∷ value ∷ words) ≡ read_on s (joined ∷ words) in
    subst P (calm-is r none) (spelled r.plan r.count r.workers r.window r.order r.summary setting name value joined words is behind)

-- what is done to a value that is there
map-then : {A : Type 0} (f g : A → Reading) (op : Reading → Option Reading) → ((a : A) → op (f a) ≡ Some (g a)) → (given : Option A) → option_and_then op (option_map f given) ≡ option_map g given
map-then f g op is None = refl
map-then f g op is (Some a) = is a

map-none : {A : Type 0} (f : A → Reading) (op : Reading → Option Reading) → ((a : A) → op (f a) ≡ None) → (given : Option A) → option_and_then op (option_map f given) ≡ None
map-none f op is None = refl
map-none f op is (Some a) = is a

-- what is done to a reading, one after the other
abbrev both : (Reading → Option Reading) → (Reading → Option Reading) → Reading → Option Reading
both first second r = option_and_then second (first r)

-- a name and an option do not see each other
abbrev Apart : (Reading → Option Reading) → Bor (List ℕ) → Reading → Type 0
Apart option name r = both option (with_name name) r ≡ both (with_name name) option r

module _ (name : Bor (List ℕ)) where
  value-apart : (setting : Setting) (value : List ℕ) (plan count : Option (Bor (List ℕ))) (workers window : Option ℕ) (order : Option Order) (summary : Bool) →
      Apart (with_value setting value) name (calm plan count workers window order summary)
  value-apart Workers value None count workers window order summary =
      map-then (λ n. calm None count (Some n) window order summary) (λ n. calm (Some name) count (Some n) window order summary) (with_name name) (λ _. refl) (once workers (number_between 0 MOST_WORKERS value))
  value-apart Workers value (Some p) None workers window order summary =
      map-then (λ n. calm (Some p) None (Some n) window order summary) (λ n. calm (Some p) (Some name) (Some n) window order summary) (with_name name) (λ _. refl) (once workers (number_between 0 MOST_WORKERS value))
  value-apart Workers value (Some p) (Some c) workers window order summary =
      map-none (λ n. calm (Some p) (Some c) (Some n) window order summary) (with_name name) (λ _. refl) (once workers (number_between 0 MOST_WORKERS value))
  value-apart Window value None count workers window order summary =
      map-then (λ n. calm None count workers (Some n) order summary) (λ n. calm (Some name) count workers (Some n) order summary) (with_name name) (λ _. refl) (once window (number_between 1 MOST_WINDOW value))
  value-apart Window value (Some p) None workers window order summary =
      map-then (λ n. calm (Some p) None workers (Some n) order summary) (λ n. calm (Some p) (Some name) workers (Some n) order summary) (with_name name) (λ _. refl) (once window (number_between 1 MOST_WINDOW value))
  value-apart Window value (Some p) (Some c) workers window order summary =
      map-none (λ n. calm (Some p) (Some c) workers (Some n) order summary) (with_name name) (λ _. refl) (once window (number_between 1 MOST_WINDOW value))
  value-apart OrderSetting value None count workers window order summary =
      map-then (λ o. calm None count workers window (Some o) summary) (λ o. calm (Some name) count workers window (Some o) summary) (with_name name) (λ _. refl) (once order (order_named value))
  value-apart OrderSetting value (Some p) None workers window order summary =
      map-then (λ o. calm (Some p) None workers window (Some o) summary) (λ o. calm (Some p) (Some name) workers window (Some o) summary) (with_name name) (λ _. refl) (once order (order_named value))
  value-apart OrderSetting value (Some p) (Some c) workers window order summary =
      map-none (λ o. calm (Some p) (Some c) workers window (Some o) summary) (with_name name) (λ _. refl) (once order (order_named value))

  summary-apart : (plan count : Option (Bor (List ℕ))) (workers window : Option ℕ) (order : Option Order) (summary : Bool) → Apart with_summary name (calm plan count workers window order summary)
  summary-apart None count workers window order true = refl
  summary-apart None count workers window order false = refl
  summary-apart (Some p) None workers window order true = refl
  summary-apart (Some p) None workers window order false = refl
  summary-apart (Some p) (Some c) workers window order true = refl
  summary-apart (Some p) (Some c) workers window order false = refl

none-some : {A G : Type 0} (x : A) → None ≡ Some x → G
none-some x e = cc

-- what a word does to a reading that awaits no value
record Does (word : Bor (List ℕ)) (op : Reading → Option Reading) : Type 0 where
  reads : (r : Reading) → r.awaits ≡ None → with_word word r ≡ op r
  keeps : (r s : Reading) → r.awaits ≡ None → op r ≡ Some s → s.awaits ≡ None

-- what holds of calm readings
calmly : (P : Reading → Type 0) → ((plan count : Option (Bor (List ℕ))) (workers window : Option ℕ) (order : Option Order) (summary : Bool) → P (calm plan count workers window order summary)) → (r : Reading) → r.awaits ≡ None → P r
calmly P holds r none = subst P (calm-is r none) (holds r.plan r.count r.workers r.window r.order r.summary)

named-keeps : (name : Bor (List ℕ)) (plan count : Option (Bor (List ℕ))) (workers window : Option ℕ) (order : Option Order) (summary : Bool) (s : Reading) →
    with_name name (calm plan count workers window order summary) ≡ Some s → s.awaits ≡ None
named-keeps name None count workers window order summary s e = ap (λ (r : Reading). r.awaits) (sym (same_Some (calm (Some name) count workers window order summary) s e))
named-keeps name (Some p) None workers window order summary s e = ap (λ (r : Reading). r.awaits) (sym (same_Some (calm (Some p) (Some name) workers window order summary) s e))
named-keeps name (Some p) (Some c) workers window order summary s e = none-some s e

name-does : (name : Bor (List ℕ)) → is_name name.now ≡ true → Does name (with_name name)
name-does name is = record {
  reads = calmly (λ r. with_word name r ≡ with_name name r) (λ plan count workers window order summary.
      let r = calm plan count workers window order summary in
      cond-true (is_name name.now) (with_name name r) (with_option name.now r) is);
  keeps = λ r s none. calmly (λ q. with_name name q ≡ Some s → s.awaits ≡ None) (λ plan count workers window order summary. named-keeps name plan count workers window order summary s) r none;
}

map-keeps : {A : Type 0} (f : A → Reading) → ((a : A) → (f a).awaits ≡ None) → (given : Option A) (s : Reading) → option_map f given ≡ Some s → s.awaits ≡ None
map-keeps f none None s e = none-some s e
map-keeps f none (Some a) s e = ap (λ (r : Reading). r.awaits) (sym (same_Some (f a) s e)) ∙ none a

value-keeps : (setting : Setting) (value : List ℕ) (r s : Reading) → with_value setting value r ≡ Some s → s.awaits ≡ None
value-keeps Workers value r s e = map-keeps (λ n. record r { workers = Some n; awaits = None }) (λ _. refl) (once r.workers (number_between 0 MOST_WORKERS value)) s e
value-keeps Window value r s e = map-keeps (λ n. record r { window = Some n; awaits = None }) (λ _. refl) (once r.window (number_between 1 MOST_WINDOW value)) s e
value-keeps OrderSetting value r s e = map-keeps (λ o. record r { order = Some o; awaits = None }) (λ _. refl) (once r.order (order_named value)) s e

value-does : (setting : Setting) (value : List ℕ) (word : Bor (List ℕ)) → word.now ≡ name_of setting ++ 61 ∷ value → Does word (with_value setting value)
value-does setting value word is = record {
  reads = calmly (λ r. with_word word r ≡ with_value setting value r) (λ plan count workers window order summary. joined-is plan count workers window order summary setting word value is);
  keeps = λ r s none. value-keeps setting value r s;
}

summary-keeps : (plan count : Option (Bor (List ℕ))) (workers window : Option ℕ) (order : Option Order) (summary : Bool) (s : Reading) →
    with_summary (calm plan count workers window order summary) ≡ Some s → s.awaits ≡ None
summary-keeps plan count workers window order true s e = none-some s e
summary-keeps plan count workers window order false s e = ap (λ (r : Reading). r.awaits) (sym (same_Some (calm plan count workers window order true) s e))

summary-does : (word : Bor (List ℕ)) → word.now ≡ codes "--summary" → Does word with_summary
summary-does word is = record {
  reads = calmly (λ r. with_word word r ≡ with_summary r) (λ plan count workers window order summary. ap (read_word word (calm plan count workers window order summary)) is);
  keeps = λ r s none. calmly (λ q. with_summary q ≡ Some s → s.awaits ≡ None) (λ plan count workers window order summary. summary-keeps plan count workers window order summary s) r none;
}

on-each : {A B : Type 0} (o : Option A) (f g : A → Option B) → ((x : A) → o ≡ Some x → f x ≡ g x) → option_and_then f o ≡ option_and_then g o
on-each None f g same = refl
on-each (Some x) f g same = same x refl

in-turn : {A B C : Type 0} (o : Option A) (f : A → Option B) (g : B → Option C) → option_and_then (λ x. option_and_then g (f x)) o ≡ option_and_then g (option_and_then f o)
in-turn None f g = refl
in-turn (Some x) f g = refl

-- two words, one after the other
two-words : (first second : Bor (List ℕ)) (one two : Reading → Option Reading) (r : Reading) (words : List (Bor (List ℕ))) → Does first one → Does second two → r.awaits ≡ None →
    read_on r (first ∷ second ∷ words) ≡ option_and_then (λ s. read_on s words) (both one two r)
two-words first second one two r words a b none =
    let rest = λ (s : Reading). read_on s words in
    ap (λ (o : Option Reading). option_and_then (λ s. read_on s (second ∷ words)) o) (a.reads r none)
    ∙ on-each (one r) (λ s. read_on s (second ∷ words)) (λ s. option_and_then rest (two s))
    (λ s e. ap (λ (o : Option Reading). option_and_then rest o) (b.reads s (a.keeps r s none e)))
    ∙ in-turn (one r) two rest

places-by : (op : Reading → Option Reading) (option name : Bor (List ℕ)) (r : Reading) (words : List (Bor (List ℕ))) → Does option op → Does name (with_name name) → Apart op name r → r.awaits ≡ None →
    read_on r (option ∷ name ∷ words) ≡ read_on r (name ∷ option ∷ words)
places-by op option name r words does named apart none =
    two-words option name op (with_name name) r words does named none
    ∙ ap (λ (o : Option Reading). option_and_then (λ s. read_on s words) o) apart
    ∙ sym (two-words name option (with_name name) op r words named does none)

-- an option may stand before a name and behind it
pub places : (r : Reading) (option name : Bor (List ℕ)) (words : List (Bor (List ℕ))) → r.awaits ≡ None → IsOption option.now → is_name name.now ≡ true →
    read_on r (option ∷ name ∷ words) ≡ read_on r (name ∷ option ∷ words)
places r option name words none (inl valued) named =
    let op = with_value valued.0 valued.1 in
    places-by op option name r words (value-does valued.0 valued.1 option valued.2) (name-does name named)
    (calmly (Apart op name) (value-apart name valued.0 valued.1) r none) none
places r option name words none (inr is) named =
    places-by with_summary option name r words (summary-does option is) (name-does name named)
    (calmly (Apart with_summary name) (summary-apart name) r none) none

-- The numbers of a command are within their bounds: there are no more workers than there may be, at
-- least one record is worked on at once, and no more are generated than there may be.
use Rattle.std.proofs.Common.{◌≡◌, ℕ, ◌<◌, ◌≤◌, Bool, true, false, IsTrue, List, [], ◌∷◌, Option, None, Some, IfSome, refl, subst, arith}
use Rattle.std.specs.Prelude.{◌&&◌, ◌||◌, ◌==◌, nat_le, is_some, is_none, if◌then◌else◌, codes, bytes_eq}
use Rattle.std.specs.List.{before_first, after_first}
use Rattle.std.specs.Borrow.{Bor}
use Rattle.std.specs.Option.{option_map, option_and_then, unwrap_or}
use Rattle.std.proofs.lemmas.Bool.{and_parts, leb-true}
use Rattle.exec_words.specs.declared.command.Command.{Command}
use Rattle.exec_words.specs.declared.command.Command.TheVariants.{Run, Gen, Replay, Check}
use Rattle.exec_words.specs.declared.command.Options.{Options}
use Rattle.exec_words.specs.declared.number.TheConstants.{MOST_WORKERS, MOST_WINDOW, MOST_GENERATED}
use Rattle.exec_words.specs.declared.reading.Reading.{Reading}
use Rattle.exec_words.specs.declared.reading.Setting.{Setting}
use Rattle.exec_words.specs.declared.reading.Setting.TheVariants.{Workers, Window, Order as OrderSetting}
use Rattle.exec_words.specs.declared.words.TheConstants.{DEFAULT_WORKERS, DEFAULT_WINDOW}
use Rattle.exec_words.specs.Command.{run_of, gen_of, only_name, command_of, options_of}
use Rattle.exec_words.specs.Numbers.{number_of, number_between}
use Rattle.exec_words.specs.Reading.{nothing_said, is_name, once, order_named, with_workers, with_window, with_order, with_value, with_summary, with_name, with_joined, with_option, with_word, setting_named, read_on}

-- what options give, by their parts
some-and_then : {A B : Type 0} (P : A → Type 0) (Q : B → Type 0) (o : Option A) (f : A → Option B) → IfSome o P → ((a : A) → P a → IfSome (f a) Q) → IfSome (option_and_then f o) Q
some-and_then P Q None f holds next = tt
some-and_then P Q (Some a) f holds next = next a holds

some-map : {A B : Type 0} (P : A → Type 0) (Q : B → Type 0) (o : Option A) (f : A → B) → IfSome o P → ((a : A) → P a → Q (f a)) → IfSome (option_map f o) Q
some-map P Q None f holds next = tt
some-map P Q (Some a) f holds next = next a holds

some-if : {A : Type 0} (P : A → Type 0) (b : Bool) (x y : Option A) → IfSome x P → IfSome y P → IfSome (if b then x else y) P
some-if P true x y first second = first
some-if P false x y first second = second

any : {A : Type 0} (o : Option A) → IfSome o (λ _. Unit {0})
any None = tt
any (Some a) = tt

-- a number between two is not outside of them
abbrev pub IsBetween : ℕ → ℕ → ℕ → Type 0
IsBetween least most n = (least ≤ n) × (n ≤ most)

between : (least most : ℕ) (word : List ℕ) → IfSome (number_between least most word) (IsBetween least most)
between least most word = some-and_then (λ _. Unit {0}) (IsBetween least most) (number_of word) (λ n. if nat_le least n && nat_le n most then Some n else None) (any (number_of word)) (λ n _. checked (nat_le least n && nat_le n most) n refl)
  where
    checked : (b : Bool) (n : ℕ) → (nat_le least n && nat_le n most) ≡ b → IfSome (if b then Some n else None) (IsBetween least most)
    checked true n holds =
        let parts = and_parts (nat_le least n) (nat_le n most) holds in
        (leb-true least n parts.0, leb-true n most parts.1)
    checked false n fails = tt

-- the window and the workers that were said, if they were, are good
abbrev IsSized : Reading → Type 0
IsSized r = IfSome r.window (IsBetween 1 MOST_WINDOW) × IfSome r.workers (IsBetween 0 MOST_WORKERS)

value-sized : (setting : Setting) (value : List ℕ) (r : Reading) → IsSized r → IfSome (with_value setting value r) IsSized
value-sized Workers value r sized =
    some-map (IsBetween 0 MOST_WORKERS) IsSized (once r.workers (number_between 0 MOST_WORKERS value)) (λ n. record r { workers = Some n; awaits = None })
    (some-if (IsBetween 0 MOST_WORKERS) (is_some r.workers) None (number_between 0 MOST_WORKERS value) tt (between 0 MOST_WORKERS value)) (λ n good. (sized.0, good))
value-sized Window value r sized =
    some-map (IsBetween 1 MOST_WINDOW) IsSized (once r.window (number_between 1 MOST_WINDOW value)) (λ n. record r { window = Some n; awaits = None })
    (some-if (IsBetween 1 MOST_WINDOW) (is_some r.window) None (number_between 1 MOST_WINDOW value) tt (between 1 MOST_WINDOW value)) (λ n good. (good, sized.1))
value-sized OrderSetting value r sized = some-map (λ _. Unit {0}) IsSized (once r.order (order_named value)) (λ o. record r { order = Some o; awaits = None }) (any (once r.order (order_named value))) (λ o _. sized)

option-sized : (word : List ℕ) (r : Reading) → IsSized r → IfSome (with_option word r) IsSized
option-sized word r sized = by (setting_named word)
  where
    joined : IfSome (with_joined word r) IsSized
    joined =
        let name = before_first (λ b. b == 61) word in
        let value = after_first (λ b. b == 61) word in
        some-and_then (λ _. Unit {0}) IsSized (setting_named name) (λ setting. with_value setting value r) (any (setting_named name)) (λ setting _. value-sized setting value r sized)

    by : (found : Option Setting) → IfSome (elim found [ Some setting ↦ Some (record r { awaits = Some setting }) | None ↦ if bytes_eq word (codes "--summary") then with_summary r else with_joined word r ]) IsSized
    by (Some setting) = sized
    by None = some-if IsSized (bytes_eq word (codes "--summary")) (with_summary r) (with_joined word r) (some-if IsSized r.summary None (Some (record r { summary = true })) tt sized) joined

word-sized : (word : Bor (List ℕ)) (r : Reading) → IsSized r → IfSome (with_word word r) IsSized
word-sized word r sized = by r.awaits
  where
    name : IfSome (with_name word r) IsSized
    name = some-if IsSized (is_none r.plan) (Some (record r { plan = Some word })) (if is_none r.count then Some (record r { count = Some word }) else None) sized
        (some-if IsSized (is_none r.count) (Some (record r { count = Some word })) None sized tt)

    by : (awaited : Option Setting) → IfSome (elim awaited [ Some setting ↦ with_value setting word.now r | None ↦ if is_name word.now then with_name word r else with_option word.now r ]) IsSized
    by (Some setting) = value-sized setting word.now r sized
    by None = some-if IsSized (is_name word.now) (with_name word r) (with_option word.now r) name (option-sized word.now r sized)

read-sized : (words : List (Bor (List ℕ))) (r : Reading) → IsSized r → IfSome (read_on r words) IsSized
read-sized [] r sized = sized
read-sized (word ∷ words) r sized = some-and_then IsSized IsSized (with_word word r) (λ s. read_on s words) (word-sized word r sized) (λ s. read-sized words s)

-- the window and the workers of a command are good, and so is its number of records
abbrev pub AreGood : Options → Type 0
AreGood options = IsBetween 1 MOST_WINDOW options.window × (options.workers ≤ MOST_WORKERS)

abbrev IsGood : Command → Type 0
IsGood (Run plan options summary) = AreGood options
IsGood (Gen plan count options) = AreGood options × (count ≤ MOST_GENERATED)
IsGood (Replay file) = Unit {0}
IsGood (Check file) = Unit {0}

window-good : (window : Option ℕ) → IfSome window (IsBetween 1 MOST_WINDOW) → IsBetween 1 MOST_WINDOW (unwrap_or window DEFAULT_WINDOW)
window-good None sized = (omega arith, omega arith)
window-good (Some n) sized = sized

workers-good : (workers : Option ℕ) → IfSome workers (IsBetween 0 MOST_WORKERS) → unwrap_or workers DEFAULT_WORKERS ≤ MOST_WORKERS
workers-good None sized = omega arith
workers-good (Some n) sized = sized.1

options-good : (r : Reading) → IsSized r → AreGood (options_of r)
options-good r sized = (window-good r.window sized.0, workers-good r.workers sized.1)

run-good : (r : Reading) → IsSized r → IfSome (run_of r) IsGood
run-good r sized = some-if IsGood (is_some r.awaits || is_some r.count) None (option_map (λ plan. Run plan (options_of r) r.summary) r.plan) tt
    (some-map (λ _. Unit {0}) IsGood r.plan (λ plan. Run plan (options_of r) r.summary) (any r.plan) (λ plan _. options-good r sized))

gen-good : (r : Reading) → IsSized r → IfSome (gen_of r) IsGood
gen-good r sized =
    some-if IsGood (is_some r.awaits || r.summary) None (option_and_then (λ plan. counted plan r.count) r.plan) tt
    (some-and_then (λ _. Unit {0}) IsGood r.plan (λ plan. counted plan r.count) (any r.plan) (λ plan _. good plan r.count))
  where
    numbered : Bor (List ℕ) → Bor (List ℕ) → Option Command
    numbered plan count = option_map (λ n. Gen plan n (options_of r)) (number_between 0 MOST_GENERATED count.now)

    counted : Bor (List ℕ) → Option (Bor (List ℕ)) → Option Command
    counted plan count = option_and_then (λ (word : Bor (List ℕ)). numbered plan word) count

    good : (plan : Bor (List ℕ)) (count : Option (Bor (List ℕ))) → IfSome (counted plan count) IsGood
    good plan count = some-and_then (λ _. Unit {0}) IsGood count (λ (word : Bor (List ℕ)). numbered plan word) (any count) (λ word _.
        some-map (IsBetween 0 MOST_GENERATED) IsGood (number_between 0 MOST_GENERATED word.now) (λ n. Gen plan n (options_of r)) (between 0 MOST_GENERATED word.now) (λ n fits. (options-good r sized, fits.1)))

command-good : (words : List (Bor (List ℕ))) → IfSome (command_of words) IsGood
command-good [] = tt
command-good (first ∷ words) =
    let said = read_on nothing_said words in
    let file = only_name words in
    let check = if bytes_eq first.now (codes "check") then option_map (λ name. Check name) file else None in
    let replay = if bytes_eq first.now (codes "replay") then option_map (λ name. Replay name) file else check in
    let gen = if bytes_eq first.now (codes "gen") then option_and_then gen_of said else replay in
    let sized = read-sized words nothing_said (tt, tt) in
    some-if IsGood (bytes_eq first.now (codes "run")) (option_and_then run_of said) gen (some-and_then IsSized IsGood said run_of sized run-good)
    (some-if IsGood (bytes_eq first.now (codes "gen")) (option_and_then gen_of said) replay (some-and_then IsSized IsGood said gen_of sized gen-good)
    (some-if IsGood (bytes_eq first.now (codes "replay")) (option_map (λ name. Replay name) file) check (some-map (λ _. Unit {0}) IsGood file (λ name. Replay name) (any file) (λ name _. tt))
    (some-if IsGood (bytes_eq first.now (codes "check")) (option_map (λ name. Check name) file) None (some-map (λ _. Unit {0}) IsGood file (λ name. Check name) (any file) (λ name _. tt)) tt)))

-- what words ask for is within these bounds
pub run-within : (words : List (Bor (List ℕ))) (plan : Bor (List ℕ)) (options : Options) (summary : Bool) → command_of words ≡ Some (Run plan options summary) → AreGood options
run-within words plan options summary is = subst (λ found. IfSome found IsGood) is (command-good words)

pub gen-within : (words : List (Bor (List ℕ))) (plan : Bor (List ℕ)) (count : ℕ) (options : Options) → command_of words ≡ Some (Gen plan count options) → AreGood options × (count ≤ MOST_GENERATED)
gen-within words plan count options is = subst (λ found. IfSome found IsGood) is (command-good words)

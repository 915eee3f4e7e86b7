-- What is written of an event is read back.
use Rattle.std.proofs.Common.{◌≡◌, ℕ, ◌<◌, ◌≤◌, ◌^◌, Bool, true, false, eqb, List, [], ◌∷◌, ◌++◌, length, map, codes, Option, Some, None, refl, ap, ◌∙◌, arith}
use Rattle.std.specs.Prelude.{nat_lt, nat_le}
use Rattle.std.specs.Fmt.{decimal}
use Rattle.std.specs.List.{slice_split, list_all}
use Rattle.std.specs.Option.{option_map, option_map_or}
use Rattle.std.specs.Str.{bytes_eq}
use Rattle.std.specs.List.{onto_first}
use Rattle.std.specs.Str.Parse.{IsNumeral}
use Rattle.std.proofs.lemmas.Bool.{and_parts, and_left, ne_eqb, eq-eqb, ltb-true, cond-false, false≢true}
use Rattle.std.proofs.lemmas.Fmt.{decimal_is_IsNumeral}
use Rattle.std.proofs.lemmas.List.{append-nil}
use Rattle.std.proofs.lemmas.List.Splits.{slice_split-cons_yes, slice_split-cons_no}
use Rattle.std.proofs.lemmas.Str.Parse.{digit_from_value}
use Rattle.life_rules.specs.declared.event.Event.{Event}
use Rattle.life_rules.specs.declared.event.Event.TheVariants.{Claim, Begin, Await, Rest, Take, Finish, Report, Release, Arm, Look, Request, Run, EndRun, Withdraw, WithdrawOwn, SealScan, Skip, Rouse, Enter, MarkUsed, Leave, Close, Join, Seal}
use Rattle.life_rules.specs.declared.event.Place.{Place}
use Rattle.life_rules.specs.declared.event.Resting.{Resting}
use Rattle.life_rules.specs.declared.event.Resting.TheVariants.{Loop, Pool, Parked}
use Rattle.life_rules.specs.declared.event.SourceAt.{SourceAt}
use Rattle.life_rules.specs.declared.event.SourceAt.TheVariants.{Scope, At}
use Rattle.life_rules.specs.declared.scope.ScopeWord.{ScopeWord}
use Rattle.trace_text.specs.declared.entry.Entry.{Entry}
use Rattle.trace_text.specs.Setups.{Setup}
use Rattle.trace_text.specs.Texts.{blank, comma, dot, apart, place_text, source_text, children_text, resting_text, after_text, cause_text, bit_text, scope_text, event_text, entry_text}
use Rattle.trace_text.specs.Values.{has_node, has_block, has_place, has_source, has_children, has_event, has_entry}
use Rattle.trace_text.specs.Words.{Halves, both, number_in, numbers_in, place_in, source_in, children_in, resting_in, cause_in, bit_in, counted, with_joining, with_closed, with_used, counted_in, joining_in, closed_in, scope_in, block_kind_in, place_kind_in, bare_kind_in, look_in, plain_in, other_in, kind_event_in, event_in, entry_at, entry_in}
use Rattle.trace_text.proofs.WordLaws.{Lacks, cut_at-front, cut_at-none, in_halves-text, decimal-lacks, number_in-decimal, IsSmall, place_in-text, place-lacks}

-- what the limits leave fits
pub small : (n most : ℕ) → nat_lt n most ≡ true → most ≤ 65536 → n < 2 ^ 32
small n most below few = omega (arith, ltb-true n most below, few)

-- an opening's numbers are small
abbrev pub Few : Setup → Type 0
Few o = (o.blocks ≤ 65536) × (length o.nodes ≤ 65536) × (o.hands ≤ 65536)

pub place-small : (o : Setup) (p : Place) → Few o → has_place o p ≡ true → IsSmall p
place-small o p few there =
    let parts = and_parts (has_block o p.block) (has_node o p.node) there in
    (small p.block o.blocks parts.0 few.0, small p.node (length o.nodes) parts.1 few.1)

pub no-digit : ¬ ((48 ≤ blank) × (blank ≤ 57))
no-digit digit = absurd (omega (arith, digit.0))

place-blank : (p : Place) → IsSmall p → Lacks blank (place_text p)
place-blank p is = place-lacks blank p is no-digit refl

place-read : (o : Setup) (p : Place) → Few o → has_place o p ≡ true → place_in (place_text p) ≡ Some p
place-read o p few there = place_in-text p (place-small o p few there)

-- a place is not the scope's word
pub numeral-other : (ds rest word : List ℕ) (c : ℕ) → IsNumeral 10 ds → ¬ ((48 ≤ c) × (c ≤ 57)) → bytes_eq (ds ++ rest) (c ∷ word) ≡ false
numeral-other [] rest word c numeral other = absurd (omega (arith, numeral.0))
numeral-other (d ∷ ds) rest word c numeral other =
    let is = digit_from_value d numeral.1.0 in
    and_left (eqb d c) (bytes_eq (ds ++ rest) word) (ne_eqb d c (λ same. other (omega (arith, is.0, same), omega (arith, is.1, same))))

source-read : (o : Setup) (t : SourceAt) → Few o → has_source o t ≡ true → source_in (source_text t) ≡ Some t
unfolding source_in
source-read o Scope few there = refl
source-read o (At p) few there =
    let numeral = (decimal_is_IsNumeral p.block (omega (arith, (place-small o p few there).0))).0 in
    cond-false (bytes_eq (place_text p) (codes "scope")) (Some Scope) (option_map At (place_in (place_text p)))
    (numeral-other (decimal p.block) (dot ∷ decimal p.node) (codes "cope") 115 numeral (λ digit. absurd (omega (arith, digit.1))))
    ∙ ap (option_map At) (place-read o p few there)

source-blank : (o : Setup) (t : SourceAt) → Few o → has_source o t ≡ true → Lacks blank (source_text t)
source-blank o Scope few there = (refl, (refl, (refl, (refl, (refl, tt)))))
source-blank o (At p) few there = place-blank p (place-small o p few there)

resting-read : (to : Resting) → resting_in (resting_text to) ≡ Some to
unfolding resting_in
resting-read Loop = refl
resting-read Pool = refl
resting-read Parked = refl

cause-read : (failure : Bool) → cause_in (cause_text failure) ≡ Some failure
unfolding cause_in
cause-read false = refl
cause-read true = refl

bit-read : (b : Bool) → bit_in (bit_text b) ≡ Some b
unfolding bit_in
bit-read false = refl
bit-read true = refl

bit-blank : (b : Bool) → Lacks blank (bit_text b)
bit-blank false = (refl, tt)
bit-blank true = (refl, tt)

-- the word of a scope
counted-read : (j : Bool) (n : ℕ) → n < 2 ^ 32 → counted_in (apart (bit_text j) (decimal n)) ≡ Some (counted j n)
unfolding counted_in
counted-read j n fits = in_halves-text counted bit_in number_in blank (bit_text j) (decimal n) j n (bit-blank j) (bit-read j) (number_in-decimal n fits)

joining-read : (b j : Bool) (n : ℕ) → n < 2 ^ 32 → joining_in (apart (bit_text b) (apart (bit_text j) (decimal n))) ≡ Some (with_joining b (counted j n))
unfolding joining_in
joining-read b j n fits =
    in_halves-text with_joining bit_in counted_in blank (bit_text b) (apart (bit_text j) (decimal n)) b (counted j n) (bit-blank b) (bit-read b) (counted-read j n fits)

closed-read : (a b j : Bool) (n : ℕ) → n < 2 ^ 32 → closed_in (apart (bit_text a) (apart (bit_text b) (apart (bit_text j) (decimal n)))) ≡ Some (with_closed a (with_joining b (counted j n)))
unfolding closed_in
closed-read a b j n fits =
    in_halves-text with_closed bit_in joining_in blank (bit_text a) (apart (bit_text b) (apart (bit_text j) (decimal n))) a (with_joining b (counted j n))
    (bit-blank a) (bit-read a) (joining-read b j n fits)

scope-read : (w : ScopeWord) → w.count < 2 ^ 32 → scope_in (scope_text w) ≡ Some w
unfolding scope_in
scope-read w fits =
    in_halves-text with_used bit_in closed_in blank (bit_text w.used) (apart (bit_text w.closed) (apart (bit_text w.joining) (apart (bit_text w.joined) (decimal w.count))))
    w.used (with_closed w.closed (with_joining w.joining (counted w.joined w.count)))
    (bit-blank w.used) (bit-read w.used) (closed-read w.closed w.joining w.joined w.count fits)

-- children
split-front : (c : ℕ) (front rest : List ℕ) → Lacks c front → slice_split (λ b. eqb b c) (front ++ c ∷ rest) ≡ front ∷ slice_split (λ b. eqb b c) rest
split-front c [] rest none = slice_split-cons_yes (λ b. eqb b c) c rest (eq-eqb c c refl)
split-front c (b ∷ bs) rest none =
    slice_split-cons_no (λ x. eqb x c) b (bs ++ c ∷ rest) none.0 ∙ ap (onto_first b) (split-front c bs rest none.1)

split-none : (c : ℕ) (bytes : List ℕ) → Lacks c bytes → slice_split (λ b. eqb b c) bytes ≡ bytes ∷ []
split-none c [] none = refl
split-none c (b ∷ bs) none =
    slice_split-cons_no (λ x. eqb x c) b bs none.0 ∙ ap (onto_first b) (split-none c bs none.1)

no-comma-digit : ¬ ((48 ≤ comma) × (comma ≤ 57))
no-comma-digit digit = absurd (omega (arith, digit.0))

children-split : (o : Setup) (n : ℕ) (ns : List ℕ) → Few o → list_all (has_node o) (n ∷ ns) ≡ true → slice_split (λ b. eqb b comma) (children_text (n ∷ ns)) ≡ map decimal (n ∷ ns)
children-split o n [] few all =
    let fits = small n (length o.nodes) (and_parts (has_node o n) _ all).0 few.1 in
    split-none comma (decimal n) (decimal-lacks comma n fits no-comma-digit)
children-split o n (m ∷ ns) few all =
    let parts = and_parts (has_node o n) (list_all (has_node o) (m ∷ ns)) all in
    let fits = small n (length o.nodes) parts.0 few.1 in
    split-front comma (decimal n) (children_text (m ∷ ns)) (decimal-lacks comma n fits no-comma-digit)
    ∙ ap (λ (l : List (List ℕ)). decimal n ∷ l) (children-split o m ns few parts.1)

numbers-read : (o : Setup) (ns : List ℕ) → Few o → list_all (has_node o) ns ≡ true → numbers_in (map decimal ns) ≡ Some ns
numbers-read o [] few all = refl
numbers-read o (n ∷ ns) few all =
    let parts = and_parts (has_node o n) (list_all (has_node o) ns) all in
    ap (λ (x : Option ℕ). both (λ k ks. k ∷ ks) x (numbers_in (map decimal ns))) (number_in-decimal n (small n (length o.nodes) parts.0 few.1))
    ∙ ap (λ (x : Option (List ℕ)). both (λ k ks. k ∷ ks) (Some n) x) (numbers-read o ns few parts.1)

children-read : (o : Setup) (ns : List ℕ) → Few o → has_children o ns ≡ true → children_in (children_text ns) ≡ Some ns
unfolding children_in
children-read o [] few there = absurd (false≢true there)
children-read o (n ∷ ns) few there =
    let all = (and_parts (nat_le 1 (length (n ∷ ns))) (list_all (has_node o) (n ∷ ns)) there).1 in
    ap numbers_in (children-split o n ns few all) ∙ numbers-read o (n ∷ ns) few all

-- a look
look-read : (o : Setup) (source : SourceAt) (after : Option Place) → Few o → has_source o source ≡ true → option_map_or (has_place o) after true ≡ true →
    look_in (source_text source ++ after_text after) ≡ Some (Look source after)
unfolding look_in
look-read o source None few there place =
    let whole : source_text source ++ [] ≡ source_text source = append-nil (source_text source) in
    ap look_in whole
    ∙ ap (λ (c : Option Halves). elim c [ None ↦ option_map (λ t. Look t None) (source_in (source_text source)) | Some h ↦ both (λ t p. Look t (Some p)) (source_in h.front) (place_in h.rest) ])
    (cut_at-none blank (source_text source) (source-blank o source few there))
    ∙ ap (option_map (λ t. Look t None)) (source-read o source few there)
look-read o source (Some p) few there place =
    ap (λ (c : Option Halves). elim c [ None ↦ option_map (λ t. Look t None) (source_in (source_text source ++ blank ∷ place_text p)) | Some h ↦ both (λ t q. Look t (Some q)) (source_in h.front) (place_in h.rest) ])
    (cut_at-front blank (source_text source) (place_text p) (source-blank o source few there))
    ∙ ap (λ (x : Option SourceAt). both (λ t q. Look t (Some q)) x (place_in (place_text p))) (source-read o source few there)
    ∙ ap (λ (x : Option Place). both (λ t q. Look t (Some q)) (Some source) x) (place-read o p few place)

-- every event
pub event-read : (o : Setup) (e : Event) → Few o → has_event o e ≡ true → event_in (event_text e) ≡ Some e
unfolding event_in kind_event_in block_kind_in place_kind_in bare_kind_in other_in plain_in
event-read o (Claim b) few there = ap (option_map (λ n. Claim n)) (number_in-decimal b (small b o.blocks there few.0))
event-read o (Release b) few there = ap (option_map (λ n. Release n)) (number_in-decimal b (small b o.blocks there few.0))
event-read o (Skip b) few there = ap (option_map (λ n. Skip n)) (number_in-decimal b (small b o.blocks there few.0))
event-read o (Begin p) few there = ap (option_map (λ q. Begin q)) (place-read o p few there)
event-read o (Take p) few there = ap (option_map (λ q. Take q)) (place-read o p few there)
event-read o (Finish p) few there = ap (option_map (λ q. Finish q)) (place-read o p few there)
event-read o (Report p) few there = ap (option_map (λ q. Report q)) (place-read o p few there)
event-read o (Arm p) few there = ap (option_map (λ q. Arm q)) (place-read o p few there)
event-read o (EndRun p) few there = ap (option_map (λ q. EndRun q)) (place-read o p few there)
event-read o (Withdraw p) few there = ap (option_map (λ q. Withdraw q)) (place-read o p few there)
event-read o (WithdrawOwn p) few there = ap (option_map (λ q. WithdrawOwn q)) (place-read o p few there)
event-read o (Rouse p) few there = ap (option_map (λ q. Rouse q)) (place-read o p few there)
event-read o (Await p ns) few there =
    let parts = and_parts (has_place o p) (has_children o ns) there in
    in_halves-text (λ q l. Await q l) place_in children_in blank (place_text p) (children_text ns) p ns
    (place-blank p (place-small o p few parts.0)) (place-read o p few parts.0) (children-read o ns few parts.1)
event-read o (Rest p to) few there =
    in_halves-text (λ q t. Rest q t) place_in resting_in blank (place_text p) (resting_text to) p to
    (place-blank p (place-small o p few there)) (place-read o p few there) (resting-read to)
event-read o (Look source after) few there =
    let parts = and_parts (has_source o source) (option_map_or (has_place o) after true) there in
    look-read o source after few parts.0 parts.1
event-read o (Request source failure) few there =
    in_halves-text (λ t f. Request t f) source_in cause_in blank (source_text source) (cause_text failure) source failure
    (source-blank o source few there) (source-read o source few there) (cause-read failure)
event-read o (Run source p) few there =
    let parts = and_parts (has_source o source) (has_place o p) there in
    in_halves-text (λ t q. Run t q) source_in place_in blank (source_text source) (place_text p) source p
    (source-blank o source few parts.0) (source-read o source few parts.0) (place-read o p few parts.1)
event-read o (SealScan source) few there = ap (option_map (λ t. SealScan t)) (source-read o source few there)
event-read o (Seal w) few there = ap (option_map (λ v. Seal v)) (scope-read w (ltb-true w.count (2 ^ 32) there))
event-read o Enter few there = refl
event-read o MarkUsed few there = refl
event-read o Leave few there = refl
event-read o Close few there = refl
event-read o Join few there = refl

hand-blank : (h : ℕ) → h < 2 ^ 32 → Lacks blank (decimal h)
hand-blank h fits = decimal-lacks blank h fits no-digit

-- the line of an entry
pub entry-read : (o : Setup) (e : Entry) → Few o → has_entry o e ≡ true → entry_in (entry_text e) ≡ Some e
unfolding entry_in
entry-read o e few there =
    let parts = and_parts (nat_lt e.hand o.hands) (has_event o e.event) there in
    let fits = small e.hand o.hands parts.0 few.2 in
    in_halves-text entry_at number_in event_in blank (decimal e.hand) (event_text e.event) e.hand e.event
    (hand-blank e.hand fits) (number_in-decimal e.hand fits) (event-read o e.event few parts.1)

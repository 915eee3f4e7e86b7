-- No line feed is in the text of a line.
use Rattle.std.proofs.Common.{◌≡◌, ℕ, ◌<◌, ◌≤◌, ◌^◌, Bool, true, false, not, ◌&&◌, eqb, List, [], ◌∷◌, ◌++◌, length, codes, Option, Some, None, refl, arith}
use Rattle.std.specs.Prelude.{nat_lt, nat_le}
use Rattle.std.specs.Fmt.{decimal}
use Rattle.std.specs.List.{list_all}
use Rattle.std.specs.Option.{option_map_or}
use Rattle.std.proofs.lemmas.Bool.{and_parts, ltb-true, not-true}
use Rattle.life_rules.specs.declared.event.Event.{Event}
use Rattle.life_rules.specs.declared.event.Event.TheVariants.{Claim, Begin, Await, Rest, Take, Finish, Report, Release, Arm, Look, Request, Run, EndRun, Withdraw, WithdrawOwn, SealScan, Skip, Rouse, Enter, MarkUsed, Leave, Close, Join, Seal}
use Rattle.life_rules.specs.declared.event.Place.{Place}
use Rattle.life_rules.specs.declared.event.Resting.{Resting}
use Rattle.life_rules.specs.declared.event.Resting.TheVariants.{Loop, Pool, Parked}
use Rattle.life_rules.specs.declared.event.SourceAt.{SourceAt}
use Rattle.life_rules.specs.declared.event.SourceAt.TheVariants.{Scope, At}
use Rattle.life_rules.specs.declared.scope.ScopeWord.{ScopeWord}
use Rattle.trace_text.specs.declared.entry.Entry.{Entry}
use Rattle.trace_text.specs.Setups.{Setup}
use Rattle.trace_text.specs.Texts.{line_feed, blank, comma, apart, place_text, source_text, children_text, resting_text, after_text, cause_text, bit_text, scope_text, event_text, entry_text}
use Rattle.trace_text.specs.Values.{has_node, has_block, has_place, has_source, has_children, has_event, has_entry}
use Rattle.trace_text.proofs.EventLaws.{Few, small, place-small}
use Rattle.trace_text.proofs.WordLaws.{Lacks, lacks-append, decimal-lacks, place-lacks}

-- the same by a test
abbrev pub lacks_test : ℕ → List ℕ → Bool
lacks_test c [] = true
lacks_test c (b ∷ bs) = not (eqb b c) && lacks_test c bs

pub lacks-codes : (c : ℕ) (word : List ℕ) → lacks_test c word ≡ true → Lacks c word
lacks-codes c [] test = tt
lacks-codes c (b ∷ bs) test =
    let parts = and_parts (not (eqb b c)) (lacks_test c bs) test in
    (not-true (eqb b c) parts.0, lacks-codes c bs parts.1)

abbrev pub IsLine : List ℕ → Type 0
IsLine bytes = Lacks line_feed bytes

no-digit : ¬ ((48 ≤ line_feed) × (line_feed ≤ 57))
no-digit digit = absurd (omega (arith, digit.0))

pub decimal-line : (n : ℕ) → n < 2 ^ 32 → IsLine (decimal n)
decimal-line n fits = decimal-lacks line_feed n fits no-digit

pub named-line : (word rest : List ℕ) → lacks_test line_feed word ≡ true → IsLine rest → IsLine (word ++ rest)
named-line word rest test line = lacks-append line_feed word rest (lacks-codes line_feed word test) line

pub apart-line : (a b : List ℕ) → IsLine a → IsLine b → IsLine (apart a b)
apart-line a b first second = lacks-append line_feed a (blank ∷ b) first (refl, second)

place-line : (o : Setup) (p : Place) → Few o → has_place o p ≡ true → IsLine (place_text p)
place-line o p few there = place-lacks line_feed p (place-small o p few there) no-digit refl

source-line : (o : Setup) (t : SourceAt) → Few o → has_source o t ≡ true → IsLine (source_text t)
source-line o Scope few there = lacks-codes line_feed (codes "scope") refl
source-line o (At p) few there = place-line o p few there

children-line : (o : Setup) (ns : List ℕ) → Few o → list_all (has_node o) ns ≡ true → IsLine (children_text ns)
children-line o [] few all = tt
children-line o (n ∷ []) few all = decimal-line n (small n (length o.nodes) (and_parts (has_node o n) _ all).0 few.1)
children-line o (n ∷ m ∷ ns) few all =
    let parts = and_parts (has_node o n) (list_all (has_node o) (m ∷ ns)) all in
    lacks-append line_feed (decimal n) (comma ∷ children_text (m ∷ ns)) (decimal-line n (small n (length o.nodes) parts.0 few.1))
    (refl, children-line o (m ∷ ns) few parts.1)

resting-line : (to : Resting) → IsLine (resting_text to)
resting-line Loop = lacks-codes line_feed (codes "loop") refl
resting-line Pool = lacks-codes line_feed (codes "pool") refl
resting-line Parked = lacks-codes line_feed (codes "parked") refl

cause-line : (failure : Bool) → IsLine (cause_text failure)
cause-line false = lacks-codes line_feed (codes "plain") refl
cause-line true = lacks-codes line_feed (codes "failure") refl

bit-line : (b : Bool) → IsLine (bit_text b)
bit-line false = (refl, tt)
bit-line true = (refl, tt)

scope-line : (w : ScopeWord) → w.count < 2 ^ 32 → IsLine (scope_text w)
scope-line w fits =
    let joined = apart-line (bit_text w.joined) (decimal w.count) (bit-line w.joined) (decimal-line w.count fits) in
    let joining = apart-line (bit_text w.joining) (apart (bit_text w.joined) (decimal w.count)) (bit-line w.joining) joined in
    let closed = apart-line (bit_text w.closed) (apart (bit_text w.joining) (apart (bit_text w.joined) (decimal w.count))) (bit-line w.closed) joining in
    apart-line (bit_text w.used) (apart (bit_text w.closed) (apart (bit_text w.joining) (apart (bit_text w.joined) (decimal w.count)))) (bit-line w.used) closed

after-line : (o : Setup) (after : Option Place) → Few o → option_map_or (has_place o) after true ≡ true → IsLine (after_text after)
after-line o None few there = tt
after-line o (Some p) few there = (refl, place-line o p few there)

block-line : (o : Setup) (b : ℕ) → Few o → has_block o b ≡ true → IsLine (decimal b)
block-line o b few there = decimal-line b (small b o.blocks there few.0)

event-line : (o : Setup) (e : Event) → Few o → has_event o e ≡ true → IsLine (event_text e)
event-line o (Claim b) few there = named-line (codes "claim ") (decimal b) refl (block-line o b few there)
event-line o (Release b) few there = named-line (codes "release ") (decimal b) refl (block-line o b few there)
event-line o (Skip b) few there = named-line (codes "skip ") (decimal b) refl (block-line o b few there)
event-line o (Begin p) few there = named-line (codes "begin ") (place_text p) refl (place-line o p few there)
event-line o (Take p) few there = named-line (codes "take ") (place_text p) refl (place-line o p few there)
event-line o (Finish p) few there = named-line (codes "finish ") (place_text p) refl (place-line o p few there)
event-line o (Report p) few there = named-line (codes "report ") (place_text p) refl (place-line o p few there)
event-line o (Arm p) few there = named-line (codes "arm ") (place_text p) refl (place-line o p few there)
event-line o (EndRun p) few there = named-line (codes "end_run ") (place_text p) refl (place-line o p few there)
event-line o (Withdraw p) few there = named-line (codes "withdraw ") (place_text p) refl (place-line o p few there)
event-line o (WithdrawOwn p) few there = named-line (codes "withdraw_own ") (place_text p) refl (place-line o p few there)
event-line o (Rouse p) few there = named-line (codes "rouse ") (place_text p) refl (place-line o p few there)
event-line o (Await p ns) few there =
    let parts = and_parts (has_place o p) (has_children o ns) there in
    let all = (and_parts (nat_le 1 (length ns)) (list_all (has_node o) ns) parts.1).1 in
    named-line (codes "await ") (apart (place_text p) (children_text ns)) refl
    (apart-line (place_text p) (children_text ns) (place-line o p few parts.0) (children-line o ns few all))
event-line o (Rest p to) few there =
    named-line (codes "rest ") (apart (place_text p) (resting_text to)) refl (apart-line (place_text p) (resting_text to) (place-line o p few there) (resting-line to))
event-line o (Look source after) few there =
    let parts = and_parts (has_source o source) (option_map_or (has_place o) after true) there in
    named-line (codes "look ") (source_text source ++ after_text after) refl
    (lacks-append line_feed (source_text source) (after_text after) (source-line o source few parts.0) (after-line o after few parts.1))
event-line o (Request source failure) few there =
    named-line (codes "request ") (apart (source_text source) (cause_text failure)) refl
    (apart-line (source_text source) (cause_text failure) (source-line o source few there) (cause-line failure))
event-line o (Run source p) few there =
    let parts = and_parts (has_source o source) (has_place o p) there in
    named-line (codes "run ") (apart (source_text source) (place_text p)) refl
    (apart-line (source_text source) (place_text p) (source-line o source few parts.0) (place-line o p few parts.1))
event-line o (SealScan source) few there = named-line (codes "seal_scan ") (source_text source) refl (source-line o source few there)
event-line o (Seal w) few there = named-line (codes "seal ") (scope_text w) refl (scope-line w (ltb-true w.count (2 ^ 32) there))
event-line o Enter few there = lacks-codes line_feed (codes "enter") refl
event-line o MarkUsed few there = lacks-codes line_feed (codes "mark_used") refl
event-line o Leave few there = lacks-codes line_feed (codes "leave") refl
event-line o Close few there = lacks-codes line_feed (codes "close") refl
event-line o Join few there = lacks-codes line_feed (codes "join") refl

pub entry-line : (o : Setup) (e : Entry) → Few o → has_entry o e ≡ true → IsLine (entry_text e)
entry-line o e few there =
    let parts = and_parts (nat_lt e.hand o.hands) (has_event o e.event) there in
    apart-line (decimal e.hand) (event_text e.event) (decimal-line e.hand (small e.hand o.hands parts.0 few.2)) (event-line o e.event few parts.1)

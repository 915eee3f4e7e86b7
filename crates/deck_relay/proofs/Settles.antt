-- A relay that is closed: deck after deck is settled, and what it has of the queue is gathered.
use Rattle.std.proofs.Common.{◌≡◌, ℕ, zero, suc, ◌+◌, ◌-◌, ◌^◌, ◌<◌, min, List, [], ◌∷◌, ◌++◌, length, map, sum_by, cond, arith, refl, sym, ap, ◌∙◌, subst, length-append}
use Rattle.std.specs.Prelude.{slice_get, Some}
use Rattle.std.proofs.lemmas.List.Sums.{sum_by-append, sum_by_push}
use Rattle.atomic_table.specs.Seated.{TableId}
use Rattle.crossbeam_queue.specs.Passes.{Pass, view, IsPassOf, IsSamePass}
use Rattle.life_rules.specs.declared.event.Name.{Name}
use Rattle.life_rules.specs.Views.{same}
use Rattle.deck_relay.specs.declared.tokens.Tokens.{Tokens}
use Rattle.deck_relay.specs.declared.thefts.Theft.{Theft}
use Rattle.deck_relay.specs.declared.queues.Shared.{Shared}
use Rattle.deck_relay.specs.declared.deck.Deck.{Deck}
use Rattle.deck_relay.specs.Rule.{Tells, both}
use Rattle.deck_relay.specs.Decks.{theft_deque, own_view, queue_view, row_of, given_of, taken_of, stolen_of}
use Rattle.deck_relay.specs.Relays.{CameBack, TakenAndLeft}
use Rattle.deck_relay.specs.Lending.{Counts}
use Rattle.deck_relay.specs.Columns.{AreStanding, KeepAll, given_by, taken_by}
use Rattle.deck_relay.proofs.Seats.{in-first, in-last, within}
use Rattle.deck_relay.proofs.Stands.{never-below, above, never-both, at-least}
use Rattle.deck_relay.proofs.Totals.{queued, weight-given, weight-taken}

abbrev weigh : (Name → ℕ) → List Name → ℕ
weigh weight names = sum_by weight names

-- which queue it is
abbrev pub queue_of : Shared → TableId
queue_of of = of.line.table.shared.table_id

-- A deck of this queue whose thefts all came back, as those of the others did.
pub record IsAlone (of : TableId) (deck : Deck) : Type 0 where
  pub share : (own_view deck).share ≡ 32
  pub thefts : deck.thefts.items ≡ []
  pub queue : deck.pass.table_id ≡ of

-- Such decks, which have all shares of the queue.
pub record AreAlone (decks : List Deck) : Type 0 where
  pub of : TableId
  pub each : (k : ℕ) (deck : Deck) → slice_get decks k ≡ Some deck → IsAlone of deck
  pub shares : sum_by queued decks ≡ 32

never-past : (k hands : ℕ) → k < hands → hands < k → ⊥
never-past k hands near far = omega (arith, near, far)

-- when a relay came back, all its columns are whole
pub begins : (decks : List Deck) → CameBack decks → AreStanding (length decks) (length decks) 0 decks
begins decks back =
    record {
      marks = back.marks;
      count = refl;
      each = λ k deck e.
          let is = back.each k deck e in
          let near = within decks k deck e in
          record {
            own = is.own;
            queue = is.queue;
            seats = is.seats;
            longer = λ less. absurd (never-below k less);
            long = λ far. is.long;
            whole = λ less. is.share;
            lends = λ at. absurd (never-both k (length decks) near (at-least k (length decks) at));
            lone = λ less. absurd (never-past k (length decks) near less);
          };
    }

-- and when none is left
pub alone : (hands : ℕ) (orig decks : List Deck) → CameBack orig → KeepAll orig decks → AreStanding hands 0 0 decks → AreAlone decks
alone hands orig decks back keep is =
    record {
      of = is.marks.queue;
      each = λ k deck e.
          let s = is.each k deck e in
          let short : length (row_of deck) ≡ 0 = s.long (above k) in
          record {
            share = share k (own_view deck).share s.lends s.lone;
            thefts = none deck.thefts.items short;
            queue = s.queue;
          };
      shares = keep.shares ∙ back.shares;
    }
  where
    share : (k n : ℕ) → (k ≡ 0 → n + 0 ≡ 32) → (0 < k → n ≡ 32) → n ≡ 32
    share zero n lends lone = let h = lends refl in omega (arith, h)
    share (suc k) n lends lone = lone (omega arith)

    none : (l : List Theft) → length (map theft_deque l) ≡ 0 → l ≡ []
    none [] e = refl
    none (x ∷ l) e = absurd (omega (arith, e))

pub all-alone : (orig decks : List Deck) (column : ℕ) → column ≡ 0 → CameBack orig → KeepAll orig decks → AreStanding (length orig) column 0 decks →
    AreAlone decks
all-alone orig decks column none back keep is =
    alone (length orig) orig decks back keep (subst (λ k. AreStanding (length orig) k 0 decks) none is)

pub some-there : (decks : List Deck) → AreAlone decks → length decks ≡ 0 → ⊥
some-there [] is none = let h = is.shares in omega (arith, h)
some-there (x ∷ l) is none = omega (arith, none)

-- the decks that are left, and what the others came to
pub record Settling (orig left : List Deck) (of : Shared) (whole : Pass Name Tokens) (count : ℕ) : Type 0 where
  pub names : List Name
  pub counts : count ≡ min (length names) (2 ^ 32 - 1)
  pub seated : IsPassOf of.line whole
  pub even : (weight : Name → ℕ) →
      given_by weight orig + (taken_by weight left + weigh weight (view whole).taken)
      ≡ taken_by weight orig + (weigh weight names + (given_by weight left + weigh weight (view whole).given))
  pub shares : sum_by queued left + (view whole).share ≡ 32
  pub each : (k : ℕ) (deck : Deck) → slice_get left k ≡ Some deck → IsAlone (queue_of of) deck

-- numbers, apart from the records
evens : (given taken own_given own_taken queue_given queue_taken left_given left_taken names : ℕ) →
    given ≡ left_given + (own_given + queue_given) → taken ≡ left_taken + ((own_taken + queue_taken) + 0) → own_given ≡ own_taken + names →
    given + (left_taken + queue_taken) ≡ taken + (names + (left_given + queue_given))
evens given taken own_given own_taken queue_given queue_taken left_given left_taken names a b c = omega (arith, a, b, c)

module _ (given taken was_given was_taken own_given own_taken queue_given queue_taken left_given left_taken held more names all_given all_taken new_given new_taken : ℕ) where
  even-on : given + (was_taken + all_taken) ≡ taken + (names + (was_given + all_given)) →
      was_given ≡ left_given + (own_given + queue_given) → was_taken ≡ left_taken + ((own_taken + queue_taken) + 0) →
      own_given ≡ own_taken + held → more ≡ names + held → new_given ≡ all_given + queue_given → new_taken ≡ all_taken + queue_taken →
      given + (left_taken + new_taken) ≡ taken + (more + (left_given + new_given))
  even-on a b c d e f g = omega (arith, a, b, c, d, e, f, g)

ends : (given taken all_given all_taken names held both_names : ℕ) → given + (0 + all_taken) ≡ taken + (names + (0 + all_given)) →
    all_given ≡ all_taken + held → both_names ≡ names + held → given ≡ taken + both_names
ends given taken all_given all_taken names held both_names a b c = omega (arith, a, b, c)

counted-on : (count names held both_names now : ℕ) → count ≡ min names (2 ^ 32 - 1) → now ≡ min (count + held) (2 ^ 32 - 1) → both_names ≡ names + held →
    now ≡ min both_names (2 ^ 32 - 1)
counted-on count names held both_names now a b c = omega (arith, a, b, c)

counted-first : (held now : ℕ) → now ≡ min (0 + held) (2 ^ 32 - 1) → now ≡ min held (2 ^ 32 - 1)
counted-first held now a = omega (arith, a)

shares-out : (was left share whole new : ℕ) → was ≡ left + share → was + whole ≡ 32 → new ≡ whole + share → left + new ≡ 32
shares-out was left share whole new a b c = omega (arith, a, b, c)

none-first : (share : ℕ) → 0 + share ≡ 32 → share ≡ 32
none-first share all = omega (arith, all)

shares-first : (was left share : ℕ) → was ≡ left + share → was ≡ 32 → left + share ≡ 32
shares-first was left share a b = sym a ∙ b

-- a deck without thefts
alone-taken : (weight : Name → ℕ) (deck : Deck) → deck.thefts.items ≡ [] →
    sum_by weight (taken_of deck) ≡ (weigh weight (own_view deck).taken + weigh weight (queue_view deck).taken) + 0
alone-taken weight deck none =
    weight-taken weight deck
    ∙ ap (λ (l : List Theft). (weigh weight (own_view deck).taken + weigh weight (queue_view deck).taken) + sum_by weight (stolen_of l)) none

-- one deck is popped, and counted
module _ (old left : List Deck) (deck : Deck) (out : old ≡ left ++ deck ∷ []) where
  given-out : (weight : Name → ℕ) → given_by weight old ≡ given_by weight left + (weigh weight (own_view deck).given + weigh weight (queue_view deck).given)
  given-out weight =
      ap (given_by weight) out ∙ sum_by_push (λ (d : Deck). sum_by weight (given_of d)) left deck
      ∙ ap (λ n. given_by weight left + n) (weight-given weight deck)

  taken-out : (weight : Name → ℕ) → deck.thefts.items ≡ [] →
      taken_by weight old ≡ taken_by weight left + ((weigh weight (own_view deck).taken + weigh weight (queue_view deck).taken) + 0)
  taken-out weight none =
      ap (taken_by weight) out ∙ sum_by_push (λ (d : Deck). sum_by weight (taken_of d)) left deck
      ∙ ap (λ n. taken_by weight left + n) (alone-taken weight deck none)

  queue-out : sum_by queued old ≡ sum_by queued left + (queue_view deck).share
  queue-out = ap (sum_by queued) out ∙ sum_by_push queued left deck

  -- what holds of each holds of it, and of the others
  pub last-too : (F : Deck → Type 0) → ((k : ℕ) (d : Deck) → slice_get old k ≡ Some d → F d) → F deck
  last-too F each = each (length left) deck (ap (λ (l : List Deck). slice_get l (length left)) out ∙ in-last left deck)

  rest-too : (F : Deck → Type 0) → ((k : ℕ) (d : Deck) → slice_get old k ≡ Some d → F d) → (k : ℕ) (d : Deck) → slice_get left k ≡ Some d → F d
  rest-too F each k d e = each k d (ap (λ (l : List Deck). slice_get l k) out ∙ in-first left (deck ∷ []) k d e)

-- what a deck that was counted has of the queue: the last one with the queue itself, and each other one
pub sits : (of now : Shared) (pass whole : Pass Name Tokens) → now ≡ of → whole ≡ pass → IsPassOf of.line pass → IsPassOf now.line whole
sits of now pass whole same is seated = (
  ap (λ (p : Pass Name Tokens). p.table_id) is ∙ seated.0 ∙ sym (ap queue_of same),
  ap (λ (p : Pass Name Tokens). p.me.1) is ∙ seated.1,
)

pub joins : (of : Shared) (deck done : Deck) (held : ℕ) (pass : Pass Name Tokens) → IsAlone (queue_of of) deck → Counts held deck done →
    pass ≡ done.pass → IsPassOf of.line pass
joins of deck done held pass lone by is = (
  ap (λ (p : Pass Name Tokens). p.table_id) is ∙ by.still.queue ∙ lone.queue,
  ap (λ (p : Pass Name Tokens). p.me.1) is ∙ done.seated.1,
)

-- the last deck is the first that is settled
pub starts : (orig old left : List Deck) (deck done : Deck) (held count : ℕ) (of : Shared) (whole : Pass Name Tokens) →
    KeepAll orig old → (all : AreAlone old) → old ≡ left ++ deck ∷ [] → Counts held deck done → IsPassOf of.line whole → whole ≡ done.pass →
    count ≡ min (0 + held) (2 ^ 32 - 1) → Settling orig left of whole count
starts orig old left deck done held count of whole keep all out by seated is counts =
    let lone : IsAlone all.of deck = last-too old left deck out (λ d. IsAlone all.of d) all.each in
    let knows : view whole ≡ queue_view deck = ap (λ (p : Pass Name Tokens). view p) is ∙ by.still.queued in
    let same-queue : all.of ≡ queue_of of =
    sym lone.queue ∙ sym by.still.queue ∙ sym (ap (λ (p : Pass Name Tokens). p.table_id) is) ∙ seated.0 in
    record {
      names = by.left;
      counts = counted-first held count counts ∙ ap (λ n. min n (2 ^ 32 - 1)) (sym by.lefts);
      seated = seated;
      even = λ weight. subst (λ (v : Tokens). given_by weight orig + (taken_by weight left + weigh weight v.taken)
          ≡ taken_by weight orig + (weigh weight by.left + (given_by weight left + weigh weight v.given))) (sym knows)
          (evens (given_by weight orig) (taken_by weight orig) (weigh weight (own_view deck).given) (weigh weight (own_view deck).taken)
          (weigh weight (queue_view deck).given) (weigh weight (queue_view deck).taken) (given_by weight left) (taken_by weight left) (weigh weight by.left)
          (sym (keep.given weight) ∙ given-out old left deck out weight) (sym (keep.taken weight) ∙ taken-out old left deck out weight lone.thefts)
          (by.tells weight));
      shares = ap (λ (v : Tokens). sum_by queued left + v.share) knows
          ∙ shares-first (sum_by queued old) (sum_by queued left) (queue_view deck).share (queue-out old left deck out) all.shares;
      each = λ k d e. subst (λ (t : TableId). IsAlone t d) same-queue (rest-too old left deck out (λ x. IsAlone all.of x) all.each k d e);
    }

-- and then the next one
pub goes-on : (orig old left : List Deck) (deck done : Deck) (held count now : ℕ) (of : Shared) (whole later pass : Pass Name Tokens) →
    Settling orig old of whole count → old ≡ left ++ deck ∷ [] → Counts held deck done → pass ≡ done.pass → IsSamePass whole later →
    view later ≡ both (view whole) (view pass) → now ≡ min (count + held) (2 ^ 32 - 1) → Settling orig left of later now
goes-on orig old left deck done held count now of whole later pass is out by at same knows counts =
    let lone : IsAlone (queue_of of) deck = last-too old left deck out (λ d. IsAlone (queue_of of) d) is.each in
    let all : view later ≡ both (view whole) (queue_view deck) =
    knows ∙ ap (λ (v : Tokens). both (view whole) v) (ap (λ (p : Pass Name Tokens). view p) at ∙ by.still.queued) in
    let longer : length (is.names ++ by.left) ≡ length is.names + held =
    length-append is.names by.left ∙ ap (λ n. length is.names + n) by.lefts in
    record {
      names = is.names ++ by.left;
      counts = counted-on count (length is.names) held (length (is.names ++ by.left)) now is.counts counts longer;
      seated = (same.0 ∙ is.seated.0, same.2 ∙ is.seated.1);
      even = λ weight. even-on (given_by weight orig) (taken_by weight orig) (given_by weight old) (taken_by weight old)
          (weigh weight (own_view deck).given) (weigh weight (own_view deck).taken) (weigh weight (queue_view deck).given) (weigh weight (queue_view deck).taken)
          (given_by weight left) (taken_by weight left) (weigh weight by.left) (weigh weight (is.names ++ by.left)) (weigh weight is.names)
          (weigh weight (view whole).given) (weigh weight (view whole).taken) (weigh weight (view later).given) (weigh weight (view later).taken)
          (is.even weight) (given-out old left deck out weight) (taken-out old left deck out weight lone.thefts) (by.tells weight)
          (sum_by-append weight is.names by.left)
          (ap (λ (v : Tokens). weigh weight v.given) all ∙ sum_by-append weight (view whole).given (queue_view deck).given)
          (ap (λ (v : Tokens). weigh weight v.taken) all ∙ sum_by-append weight (view whole).taken (queue_view deck).taken);
      shares = shares-out (sum_by queued old) (sum_by queued left) (queue_view deck).share (view whole).share (view later).share
          (queue-out old left deck out) is.shares (ap (λ (v : Tokens). v.share) all);
      each = rest-too old left deck out (λ x. IsAlone (queue_of of) x) is.each;
    }

-- at the end all is known of the queue
pub has-all : (orig left : List Deck) (of : Shared) (whole : Pass Name Tokens) (count : ℕ) → Settling orig left of whole count → length left ≡ 0 →
    (view whole).share ≡ 32
has-all orig [] of whole count is none = none-first (view whole).share is.shares
has-all orig (x ∷ l) of whole count is none = absurd (omega (arith, none))

pub settles : (orig left : List Deck) (of : Shared) (whole : Pass Name Tokens) (count held now : ℕ) (items : List Name) →
    Settling orig left of whole count → length left ≡ 0 → length items ≡ held → Tells (view whole) items → now ≡ min (count + held) (2 ^ 32 - 1) →
    TakenAndLeft now orig
settles orig (x ∷ l) of whole count held now items is none long tells counts = absurd (omega (arith, none))
settles orig [] of whole count held now items is none long tells counts =
    record {
      left = is.names ++ items;
      lefts = counted-on count (length is.names) held (length (is.names ++ items)) now is.counts counts
          (length-append is.names items ∙ ap (λ n. length is.names + n) long);
      law = λ name.
          let weight : Name → ℕ = λ other. cond (same name other) 1 0 in
          ends (given_by weight orig) (taken_by weight orig) (weigh weight (view whole).given) (weigh weight (view whole).taken)
          (weigh weight is.names) (weigh weight items) (weigh weight (is.names ++ items))
          (is.even weight) (tells weight) (sum_by-append weight is.names items);
    }

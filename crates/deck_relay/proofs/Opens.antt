-- A relay that is opened: its decks are made one after the other, and then column after column.
use Rattle.std.proofs.Common.{◌≡◌, ℕ, zero, suc, ◌+◌, ◌-◌, ◌<◌, List, [], ◌∷◌, ◌++◌, length, map, get_or, sum_by, remove, arith, refl, sym, ap, ◌∙◌, length-append}
use Rattle.std.specs.Prelude.{slice_get, Some}
use Rattle.std.proofs.lemmas.List.Sums.{sum_by-cons, sum_by_push}
use Rattle.atomic_blocks.specs.Lent.{RowsId}
use Rattle.atomic_table.specs.Seated.{TableId}
use Rattle.std.specs.declared.alloc.Global.{Global}
use Rattle.crossbeam_queue.specs.Fifo.{Forks}
use Rattle.crossbeam_queue.specs.Passes.{Pass, view, IsPassOf, IsSamePass}
use Rattle.life_rules.specs.declared.event.Name.{Name}
use Rattle.sleepers.specs.declared.sleeper.Sleeper.{Sleeper}
use Rattle.sleepers.specs.Places.{HavePlaces}
use Rattle.deck_relay.specs.declared.tokens.Tokens.{Tokens}
use Rattle.deck_relay.specs.declared.thefts.Theft.{Theft}
use Rattle.deck_relay.specs.declared.queues.Shared.{Shared}
use Rattle.deck_relay.specs.declared.deck.Deck.{Deck}
use Rattle.deck_relay.specs.Rule.{Balanced, tokens, at_first, without_one, with_one}
use Rattle.deck_relay.specs.Decks.{own_view, queue_view, own_deque, row_of, theft_deque, given_of, taken_of, stolen_of}
use Rattle.deck_relay.specs.Relays.{Marks, AreOpened}
use Rattle.deck_relay.specs.Lending.{IsBare}
use Rattle.deck_relay.specs.Columns.{AreStanding, KeepAll}
use Rattle.deck_relay.specs.Openings.{IsBareAt, AreBare}
use Rattle.deck_relay.proofs.Seats.{got, no-more, within, each-more, each-none, none-at-all, map-got, map-from}
use Rattle.deck_relay.proofs.Balances.{forks}
use Rattle.deck_relay.proofs.Stands.{never-below, above, in-hands, and-none}
use Rattle.deck_relay.proofs.Totals.{queued}
use Rattle.deck_relay.proofs.Settles.{queue_of}

-- what is left of the queue's first pass
abbrev pub left_after : ℕ → Tokens
left_after made = tokens (32 - made) [] []

-- so many decks were made, and so many sleepers wait for theirs
pub record Opening (hands made : ℕ) (of : Shared) (rest : Pass Name Tokens) (decks : List Deck) (sleepers : List Sleeper) : Type 0 where
  pub seated : IsPassOf of.line rest
  pub knows : view rest ≡ left_after made
  pub count : length decks ≡ made
  pub each : (k : ℕ) (deck : Deck) → slice_get decks k ≡ Some deck → IsBareAt (queue_of of) k deck
  pub shares : sum_by queued decks ≡ made
  pub waiting : length sleepers + made ≡ hands
  pub places : (k : ℕ) (sleeper : Sleeper) → slice_get sleepers k ≡ Some sleeper → sleeper.place ≡ made + k

and-nothing : (n hands : ℕ) → n ≡ hands → n + 0 ≡ hands
and-nothing n hands same = omega (arith, same)

after-none : (n k : ℕ) → n ≡ k → n ≡ 0 + k
after-none n k same = omega (arith, same)

plus-none : (n made : ℕ) → n ≡ made + 0 → n ≡ made
plus-none n made same = omega (arith, same)

one-on : (n made k : ℕ) → n ≡ made + suc k → n ≡ (made + 1) + k
one-on n made k same = omega (arith, same)

one-out : (n left made hands : ℕ) → n ≡ suc left → n + made ≡ hands → left + (made + 1) ≡ hands
one-out n left made hands a b = omega (arith, a, b)

all-shares : (sum was own made : ℕ) → sum ≡ was + own → was ≡ made → own ≡ 32 - made → made < 32 → sum ≡ 32
all-shares sum was own made a b c d = omega (arith, a, b, c, d)

one-share : (made : ℕ) → (32 - made) - 1 ≡ 32 - (made + 1)
one-share made = omega arith

some-left : (n made hands : ℕ) → n + made ≡ hands → made < hands → 0 < n
some-left n made hands a b = omega (arith, a, b)

never-none : (n hands : ℕ) → n ≡ hands → 0 < hands → n ≡ 0 → ⊥
never-none n hands a b c = omega (arith, a, b, c)

pub begins : (hands : ℕ) (of : Shared) (rest : Pass Name Tokens) (sleepers : List Sleeper) → IsPassOf of.line rest → view rest ≡ at_first →
    HavePlaces hands sleepers → Opening hands 0 of rest [] sleepers
begins hands of rest sleepers seated knows have =
    record {
      seated = seated;
      knows = knows;
      count = refl;
      each = λ k deck e. absurd (no-more deck e);
      shares = refl;
      waiting = and-nothing (length sleepers) hands have.count;
      places = λ k sleeper e. after-none sleeper.place k (have.place k sleeper e);
    }

pub splits : (pass made : ℕ) (v : Tokens) → v ≡ left_after made → made < 31 → Forks Balanced pass v (without_one v) with_one
splits pass made v is more =
    forks pass v (let e : v.share ≡ 32 - made = ap (λ (u : Tokens). u.share) is in omega (arith, e, more))

-- the first sleeper is taken out
first-gone : (sleepers later : List Sleeper) (first : Sleeper) → 0 < length sleepers → first ≡ get_or sleepers 0 first → later ≡ remove sleepers 0 →
    sleepers ≡ first ∷ later
first-gone [] later first some is gone = absurd (omega (arith, some))
first-gone (x ∷ l) later first some is gone = ap (λ y. y ∷ l) (sym is) ∙ ap (λ y. first ∷ y) (sym gone)

module _ (hands made : ℕ) (of : Shared) (rest : Pass Name Tokens) (decks : List Deck) (sleepers later : List Sleeper) (first : Sleeper)
    (is : Opening hands made of rest decks sleepers) (whole : sleepers ≡ first ∷ later) where
  first-place : first.place ≡ made
  first-place =
      plus-none first.place made (is.places 0 first (ap (λ (l : List Sleeper). slice_get l 0) whole))

  later-places : (k : ℕ) (sleeper : Sleeper) → slice_get later k ≡ Some sleeper → sleeper.place ≡ (made + 1) + k
  later-places k sleeper e =
      one-on sleeper.place made k (is.places (suc k) sleeper (ap (λ (l : List Sleeper). slice_get l (suc k)) whole ∙ e))

  later-waiting : length later + (made + 1) ≡ hands
  later-waiting =
      one-out (length sleepers) (length later) made hands (ap length whole) is.waiting

  bare-there : (over : Pass Name Tokens) (deck : Deck) → IsBare over first deck → (view over).given ≡ [] → (view over).taken ≡ [] →
      over.table_id ≡ queue_of of → IsBareAt (queue_of of) (length decks) deck
  bare-there over deck bare given taken table =
      record {
        place = bare.place ∙ first-place ∙ sym is.count;
        own = bare.own;
        thefts = bare.thefts;
        queue = bare.queue ∙ table;
        given = ap (λ (v : Tokens). v.given) bare.queued ∙ given;
        taken = ap (λ (v : Tokens). v.taken) bare.queued ∙ taken;
      }

  pub goes-on : (left over : Pass Name Tokens) (deck : Deck) → IsPassOf of.line over → IsSamePass rest left → view left ≡ without_one (view rest) →
      view over ≡ with_one → IsBare over first deck → Opening hands (made + 1) of left (decks ++ deck ∷ []) later
  goes-on left over deck seated same knows one bare =
      record {
        seated = (same.0 ∙ is.seated.0, same.2 ∙ is.seated.1);
        knows = knows ∙ ap without_one is.knows ∙ ap (λ n. tokens n [] []) (one-share made);
        count = length-append decks (deck ∷ []) ∙ ap (λ n. n + 1) is.count;
        each = each-more (IsBareAt (queue_of of)) decks deck
            (bare-there over deck bare (ap (λ (v : Tokens). v.given) one) (ap (λ (v : Tokens). v.taken) one) seated.0) is.each;
        shares = sum_by_push queued decks deck ∙ ap (λ n. n + queued deck) is.shares ∙ ap (λ (v : Tokens). made + v.share) (bare.queued ∙ one);
        waiting = later-waiting;
        places = later-places;
      }

  pub ends : (deck : Deck) → IsBare rest first deck → made < 32 → made + 1 ≡ hands → AreBare hands (decks ++ deck ∷ [])
  ends deck bare more all =
      record {
        of = queue_of of;
        count = length-append decks (deck ∷ []) ∙ ap (λ n. n + 1) is.count ∙ all;
        each = each-more (IsBareAt (queue_of of)) decks deck
            (bare-there rest deck bare (ap (λ (v : Tokens). v.given) is.knows) (ap (λ (v : Tokens). v.taken) is.knows) is.seated.0) is.each;
        shares = all-shares (sum_by queued (decks ++ deck ∷ [])) (sum_by queued decks) (queued deck) made (sum_by_push queued decks deck) is.shares
            (ap (λ (v : Tokens). v.share) (bare.queued ∙ is.knows)) more;
      }

pub whole-first : (hands made : ℕ) (of : Shared) (rest : Pass Name Tokens) (decks : List Deck) (sleepers later : List Sleeper) (first : Sleeper) →
    Opening hands made of rest decks sleepers → made < hands → first ≡ get_or sleepers 0 first → later ≡ remove sleepers 0 → sleepers ≡ first ∷ later
whole-first hands made of rest decks sleepers later first is more at gone =
    first-gone sleepers later first (some-left (length sleepers) made hands is.waiting more) at gone

-- decks without thefts are a relay of no column
read : {X Y : Type 0} (f : X → Y) (l : List X) (k : ℕ) (x : X) (d : Y) → slice_get l k ≡ Some x → f x ≡ get_or (map f l) k d
read f [] k x d e = absurd (no-more x e)
read f (y ∷ l) zero x d e = sym (ap f (got y x e))
read f (y ∷ l) (suc k) x d e = read f l k x d e

pub stands : (hands : ℕ) (decks : List Deck) → AreBare hands decks → 0 < hands → AreStanding hands 0 0 decks
stands hands [] is some = absurd (never-none 0 hands is.count some refl)
stands hands (first ∷ decks) is some =
    let marks : Marks = record { deque = λ k. get_or (map own_deque (first ∷ decks)) k (own_deque first); queue = is.of } in
    record {
      marks = marks;
      count = is.count;
      each = λ k deck e.
          let bare = is.each k deck e in
          let none : row_of deck ≡ [] = ap (map theft_deque) bare.thefts in
          let share : (own_view deck).share ≡ 32 = ap (λ (v : Tokens). v.share) bare.own in
          record {
            own = read own_deque (first ∷ decks) k deck (own_deque first) e;
            queue = bare.queue;
            seats = λ j deque h. absurd (no-more deque (sym (ap (λ (l : List (RowsId × Global)). slice_get l j) none) ∙ h));
            longer = λ less. absurd (never-below k less);
            long = λ far. ap length none;
            whole = λ less. absurd (never-below k less);
            lends = λ at. and-none (own_view deck).share share;
            lone = λ less. share;
          };
    }

-- what is nothing weighs nothing, and the other way round
no-weight : (names : List Name) → sum_by (λ name. 1) names ≡ 0 → names ≡ []
no-weight [] none = refl
no-weight (x ∷ l) none = absurd (let c = sum_by-cons (λ (name : Name). 1) x l in let no : ⊥ = omega (arith, c, none) in no)

bare-given : (of : TableId) (k : ℕ) (deck : Deck) → IsBareAt of k deck → given_of deck ≡ []
bare-given of k deck bare =
    ap (λ (v : Tokens). v.given ++ (queue_view deck).given) bare.own ∙ bare.given

bare-taken : (of : TableId) (k : ℕ) (deck : Deck) → IsBareAt of k deck → taken_of deck ≡ []
bare-taken of k deck bare =
    ap (λ (v : Tokens). (v.taken ++ (queue_view deck).taken) ++ stolen_of deck.thefts.items) bare.own
    ∙ ap (λ (l : List Name). l ++ stolen_of deck.thefts.items) bare.taken
    ∙ ap (λ (l : List Theft). stolen_of l) bare.thefts

pub opened : (hands : ℕ) (first decks : List Deck) → AreBare hands first → KeepAll first decks → AreStanding hands hands 0 decks → AreOpened hands decks
opened hands first decks bare keep is =
    let one : Name → ℕ = λ name. 1 in
    let given : sum_by (λ (deck : Deck). sum_by one (given_of deck)) decks ≡ 0 =
    keep.given one ∙ none-at-all (λ (deck : Deck). sum_by one (given_of deck)) first
    (λ k deck e. ap (sum_by one) (bare-given bare.of k deck (bare.each k deck e))) in
    let taken : sum_by (λ (deck : Deck). sum_by one (taken_of deck)) decks ≡ 0 =
    keep.taken one ∙ none-at-all (λ (deck : Deck). sum_by one (taken_of deck)) first
    (λ k deck e. ap (sum_by one) (bare-taken bare.of k deck (bare.each k deck e))) in
    let place : (k : ℕ) (deck : Deck) → slice_get decks k ≡ Some deck → deck.place ≡ k =
    λ k deck e.
    let old = map-from (λ (d : Deck). d.place) first k deck.place
    (sym (ap (λ (l : List ℕ). slice_get l k) keep.places) ∙ map-got (λ (d : Deck). d.place) decks k deck e) in
    sym old.2 ∙ (bare.each k old.0 old.1).place in
    record {
      count = is.count;
      new = λ k deck e.
          record {
            place = place k deck e;
            given = no-weight (given_of deck) (each-none (λ (d : Deck). sum_by one (given_of d)) decks k deck given e);
            taken = no-weight (taken_of deck) (each-none (λ (d : Deck). sum_by one (taken_of d)) decks k deck taken e);
          };
      all = record {
        marks = is.marks;
        each = λ k deck e.
            let s = is.each k deck e in
            let near : k < hands = in-hands k (length decks) hands (within decks k deck e) is.count in
            record {
              own = s.own;
              queue = s.queue;
              seats = s.seats;
              long = s.long (above k) ∙ sym is.count;
              share = ap (λ n. (own_view deck).share + n) is.count ∙ s.whole near;
            };
        shares = keep.shares ∙ bare.shares;
      };
    }

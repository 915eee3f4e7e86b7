-- What serving leaves of a spare hand.
use Rattle.std.proofs.Common.{◌≡◌, ◌<◌, zero, suc, ◌+◌, List, [], ◌∷◌, ◌++◌, length, All, ◌-◌, rules, refl, sym, ap, ◌∙◌, subst, inl, inr, arith}
use Rattle.std.specs.Prelude.{Option, Some, None, IfSome, Contains, option_to_list, slice_index_or}
use Rattle.std.proofs.lemmas.List.Elements.{All-append}
use Rattle.atomic_table.specs.declared.shared.Seat.{Seat}
use Rattle.listed_words.specs.declared.seen.Seen.{Seen}
use Rattle.listed_words.specs.Lists.{entry}
use Rattle.plan_shape.specs.Blueprint.{Blueprint}
use Rattle.table_rules.specs.declared.view.View.{View}
use Rattle.table_rules.specs.Named.{AnyOf}
use Rattle.table_steps.specs.Closings.{claimed_by}
use Rattle.table_steps.specs.Views.{Board, knows}
use Rattle.home_items.specs.declared.entry.Entry.{Entry}
use Rattle.home_items.specs.declared.item.Item.{Item}
use Rattle.exec_recv.specs.Asides.{KeepsAside}
use Rattle.steal_pool.specs.Works.{IsReady, HasEnded}
use Rattle.deck_relay.specs.declared.desk.Desk.{Desk}
use Rattle.run_workers.specs.Crews.{CanServe, GivesBack, IsSpare, HasServed, ReadsJoined}

abbrev pub TheHand : Type 0
TheHand = Seat (Option Item) (View Item Entry)

-- a spare hand may serve
pub spare-ready : (board : Board Blueprint) (hand : TheHand) → IsSpare board hand → IsReady board hand
spare-ready board hand spare = record {
  of_table = spare.hand_of;
  rests = record {
    held = spare.nothing.held;
    owed = spare.nothing.owed;
    reported = spare.nothing.reported;
    finished = spare.nothing.finished;
    runs = spare.nothing.runs;
    scans = spare.nothing.scans;
  };
}

-- a list has a step of which this holds, where that stands in its first part
contained-any : (P : Seen → Type 0) (steps rest : List Seen) (e : Seen) → Contains steps e → P e → AnyOf P (steps ++ rest)
contained-any P [] rest e there holds = absurd (let low = there.1 in omega arith)
contained-any P (step ∷ steps) rest e (zero, low, is) holds = inl (subst P (sym is) holds)
contained-any P (step ∷ steps) rest e (suc k, low, is) holds = inr (contained-any P steps rest e (k, omega arith, is) holds)

-- it is spare again when it is at rest after that
still-spare : (board : Board Blueprint) (old new : TheHand) → IsSpare board old → IsReady board new → KeepsAside old.me new.me → IsSpare board new
still-spare board old new spare ready kept = record {
  hand_of = ready.of_table;
  nothing = record {
    held = ready.rests.held;
    owed = ready.rests.owed;
    reported = ready.rests.reported;
    finished = ready.rests.finished;
    runs = ready.rests.runs;
    scans = ready.rests.scans;
    made = ap (λ a. a.made) kept.same ∙ spare.nothing.made;
    making = ap (λ a. a.making) kept.same ∙ spare.nothing.making;
    refused = ap (λ a. a.refused) kept.same ∙ spare.nothing.refused;
  };
  even = ap (λ a. a.claimed) kept.same ∙ (spare.even ∙ sym (ap (λ a. a.released) kept.same));
}

pub has-served : (board : Board Blueprint) (old new : TheHand) → IsSpare board old → IsReady board new → KeepsAside old.me new.me → HasEnded board old.me new.me → HasServed board new
has-served board old new spare ready kept ended =
    let read = ended.joined in
    record {
      spare = still-spare board old new spare ready kept;
      joined = subst (λ (steps : List Seen). AnyOf (ReadsJoined board) steps) (sym read.grown)
          (contained-any (ReadsJoined board) read.fresh ended.before.0.steps (entry _ read.word read.left) read.there (record { index_is = refl; joined = read.said }));
    }

-- and claimed no block
pub claimed-still : (old new : TheHand) → KeepsAside old.me new.me → (knows new).claimed ≡ (knows old).claimed
claimed-still old new kept = ap (λ a. a.claimed) kept.same

-- what these claimed, and one more
claimed-more : (rest : List TheHand) (last : TheHand) → claimed_by (rest ++ last ∷ []) ≡ claimed_by rest + (knows last).claimed
claimed-more [] last = omega arith
claimed-more (first ∷ rest) last = let more = claimed-more rest last in omega (arith, more)

-- hands of which the last came back after the others claimed as much as before
pub claimed-back : (all rest back after : List TheHand) (last again : TheHand) → all ≡ rest ++ last ∷ [] → after ≡ back ++ again ∷ [] →
    claimed_by back ≡ claimed_by rest → (knows again).claimed ≡ (knows last).claimed → claimed_by after ≡ claimed_by all
claimed-back all rest back after last again is is' same one =
    let old = ap claimed_by is ∙ claimed-more rest last in
    let new = ap claimed_by is' ∙ claimed-more back again in
    omega (arith, old, new, same, one)

-- all of these, and one more
pub one-more : (board : Board Blueprint) (rest all : List TheHand) (hand : TheHand) → All (HasServed board) rest → HasServed board hand → all ≡ rest ++ hand ∷ [] → All (HasServed board) all
one-more board rest all hand served last is =
    subst (λ (hands : List TheHand). All (HasServed board) hands) (sym is) (All-append (HasServed board) rest (hand ∷ []) served single)
  where
    single : All (HasServed board) (hand ∷ [])
    single zero d low = last
    single (suc k) d low = absurd (omega arith)

-- the last of these
pub last-of : (P : TheHand → Type 0) (all : List TheHand) (last : TheHand) → All P all → 0 < length all → ((d : TheHand) → 0 < length all → Some last ≡ Some (slice_index_or all (length all - 1) d)) → P last
last-of P all last holds some is =
    let there = is last some in
    let same : last ≡ slice_index_or all (length all - 1) last = search rules in
    subst P (sym same) (holds (length all - 1) last (omega arith))

-- the one that was taken, where there was one
last-held : (P : TheHand → Type 0) (rest : List TheHand) (last : TheHand) →
    All P (rest ++ last ∷ []) → P last
last-held P [] last holds = holds 0 last (omega arith)
last-held P (first ∷ rest) last holds =
    last-held P rest last (λ k d low. holds (suc k) d (omega arith))

pub if-taken : (P : TheHand → Type 0) (rest all : List TheHand) (r : Option TheHand) → All P all →
    all ≡ rest ++ option_to_list r → IfSome r P
if-taken P rest all (Some last) holds is =
    last-held P rest last (subst (λ (hands : List TheHand). All P hands) is holds)
if-taken P rest all None holds is = tt

-- none of these
pub none-served : (board : Board Blueprint) (hands : List TheHand) → hands ≡ [] →
    All (HasServed board) hands
none-served board hands is =
    subst (λ (them : List TheHand). All (HasServed board) them) (sym is)
    (λ k d low. absurd (omega arith))

-- so it is of what a promise holds
pub gives-back : (board seen : Board Blueprint) (hand held : TheHand) (desk kept : Option Desk)
    (back : TheHand) (again : Option Desk) → seen ≡ board → held ≡ hand → kept ≡ desk →
    GivesBack board hand desk back again → GivesBack seen held kept back again
gives-back board seen hand held desk kept back again is is' is'' gives =
    subst (λ (b : Board Blueprint). GivesBack b held kept back again) (sym is)
    (subst (λ (h : TheHand). GivesBack board h kept back again) (sym is')
    (subst (λ (d : Option Desk). GivesBack board hand d back again) (sym is'') gives))

-- what a hand may serve it still may, under other names
pub still-can : (board seen : Board Blueprint) (plan read : Blueprint) (hand held : TheHand) →
    seen ≡ board → read ≡ plan → held ≡ hand → CanServe board plan hand → CanServe seen read held
still-can board seen plan read hand held is is' is'' can =
    subst (λ (b : Board Blueprint). CanServe b read held) (sym is)
    (subst (λ (p : Blueprint). CanServe board p held) (sym is')
    (subst (λ (h : TheHand). CanServe board plan h) (sym is'') can))

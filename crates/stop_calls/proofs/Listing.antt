-- What the calls list.
use Rattle.std.proofs.Common.{◌≡◌, ℕ, zero, suc, ◌<◌, ◌≤◌, Bool, true, false, List, [], ◌∷◌, ◌++◌, length, append_assoc, length-append, refl, sym, ap, ◌∙◌, subst, inl, inr, arith}
use Rattle.std.specs.Prelude.{Option, Some, None}
use Rattle.std.proofs.lemmas.Bool.{and_parts}
use Rattle.std.proofs.lemmas.List.Elements.{All-nil, All-cons, All-head, All-tail, All-append, All-weaker}
use Rattle.life_rules.specs.declared.event.Name.{Name}
use Rattle.life_rules.specs.declared.event.SourceRef.{SourceRef}
use Rattle.atomic_table.specs.declared.shared.Seat.{Seat}
use Rattle.listed_words.specs.declared.seen.Seen.{Seen}
use Rattle.listed_words.specs.Lists.{entry}
use Rattle.table_rules.specs.declared.view.View.{View}
use Rattle.table_steps.specs.Views.{Board}
use Rattle.table_steps.specs.Callbacks.{callback_index}
use Rattle.table_steps.specs.Claims.{word_index}
use Rattle.table_steps.specs.Seats.{Seated}
use Rattle.table_steps.specs.Runs.{run_index}
use Rattle.table_steps.specs.ScanOrders.{hears, is_next_place}
use Rattle.table_steps.specs.ScanSeals.{CanSealScan}
use Rattle.table_laws.specs.CallLists.{ListsOne, ListsSome}
use Rattle.table_laws.proofs.CallLists.{lists-one, callbacks-list, blocks-list, sources-list}
use Rattle.stop_calls.specs.declared.removing.Settled.{Settled}
use Rattle.stop_calls.specs.declared.removing.Settled.TheVariants.{NeverRan as Unrun, Ran as Over, OwnHand as Inside}
use Rattle.stop_calls.specs.declared.removing.Withdrawn.{Withdrawn}
use Rattle.stop_calls.specs.declared.removing.Withdrawn.TheVariants.{NeverRan, Ran, OwnHand, Running}
use Rattle.stop_calls.specs.declared.scanning.Scan.{Scan}
use Rattle.stop_calls.specs.CallLists.{ListsOnly, ListsRun, ListsOfScan, IsOfWalk, SourcesListTheirSteps, CallbacksListTheirSteps, ScansListTheirSteps}
use Rattle.stop_calls.specs.Removals.{IsTried, IsLastTry, IsSettled, Waits}
use Rattle.stop_calls.specs.Walks.{Passes, ReadsBlock, PassesPlace, Walks, IsFound}

module _ {P E : Type 0} (IsSuch : Seen → Type 0) where
  only-here : (m m' : Seated P E) → m'.0.steps ≡ m.0.steps → ListsOnly IsSuch m m'
  only-here m m' same = record { made = []; steps_are = same; all_such = All-nil IsSuch }

  only-on : (m m1 m2 : Seated P E) → ListsOnly IsSuch m m1 → ListsOnly IsSuch m1 m2 → ListsOnly IsSuch m m2
  only-on m m1 m2 first second =
      record {
        made = second.made ++ first.made;
        steps_are =
            second.steps_are ∙ ap (λ (l : List Seen). second.made ++ l) first.steps_are
            ∙ sym (append_assoc second.made first.made m.0.steps);
        all_such = All-append IsSuch second.made first.made second.all_such first.all_such;
      }

  only-longer : (m m' : Seated P E) → ListsOnly IsSuch m m' → length m.0.steps ≤ length m'.0.steps
  only-longer m m' only =
      let grew = ap length only.steps_are in omega (arith, grew, length-append only.made m.0.steps)

  -- steps on one word, all of which are such
  some-only : (at : ℕ) → ((e : Seen) → e.index ≡ at → IsSuch e) → (m m' : Seated P E) → ListsSome at m m' → ListsOnly IsSuch m m'
  some-only at such m m' some =
      record {
        made = some.newest ∷ some.others;
        steps_are = some.steps_are;
        all_such = All-weaker (λ (e : Seen). e.index ≡ at) IsSuch such (some.newest ∷ some.others) some.all_there;
      }

module _ {P E : Type 0} (at : ℕ) where
  one-some : (m m' : Seated P E) → ListsOne at m m' → ListsSome at m m'
  one-some m m' one =
      record {
        newest = entry at one.read one.left;
        others = [];
        steps_are = one.steps_are;
        all_there = All-cons (λ (e : Seen). e.index ≡ at) (entry at one.read one.left) [] refl (All-nil (λ (e : Seen). e.index ≡ at));
      }

  some-on : (m m1 m2 : Seated P E) → ListsOnly (λ (e : Seen). e.index ≡ at) m m1 → ListsOne at m1 m2 → ListsSome at m m2
  some-on m m1 m2 first second =
      let There : Seen → Type 0 = λ (e : Seen). e.index ≡ at in
      let newest : Seen = entry at second.read second.left in
      record {
        newest = newest;
        others = first.made;
        steps_are = second.steps_are ∙ ap (λ (l : List Seen). newest ∷ l) first.steps_are;
        all_there = All-cons There newest first.made refl first.all_such;
      }

  some-longer : (m m' : Seated P E) → ListsSome at m m' → length m.0.steps < length m'.0.steps
  some-longer m m' some =
      let grew = ap length some.steps_are in omega (arith, grew, length-append some.others m.0.steps)

-- The steps of a scan's next.
module _ {O : Type 0} (board : Board O) (source : SourceRef) where
  -- a step on a place that hears the source
  place-such : (block node : ℕ) → block < board.frame.layout.blocks → node < length board.frame.tree →
      hears board.frame.tree source block node ≡ true → (e : Seen) → e.index ≡ run_index board block node → IsOfWalk board source e
  place-such block node there inside heard e is =
      inl (record { block = block; node = node; within = (there, inside); heard = heard; index_is = is })

  next-heard : (at block node : ℕ) → is_next_place board.frame.tree source at block node ≡ true →
      hears board.frame.tree source block node ≡ true
  next-heard at block node next = (and_parts (hears board.frame.tree source block node) _ next).0

module _ {P E O : Type 0} (board : Board O) (source : SourceRef) where
  module _ (old new : Seat (Option P) (View P E)) where
    block-only : (read read' : Option ℕ) (block : ℕ) (free : Bool) → ReadsBlock board source read read' old new block free → ListsOnly (IsOfWalk board source) old.me new.me
    block-only read read' block free reads =
        let one : ListsOne (word_index board block) old.me new.me = (blocks-list P E O board block 0 old new).skipped free reads.told in
        some-only (IsOfWalk board source) (word_index board block)
        (λ e is. inr (record { scope = reads.scope; block = block; within = reads.within; index_is = is })) old.me new.me
        (one-some (word_index board block) old.me new.me one)

    place-only : (read read' : Option ℕ) → PassesPlace board source read read' old new → ListsOnly (IsOfWalk board source) old.me new.me
    place-only read read' p =
        some-only (IsOfWalk board source) (run_index board p.block p.node)
        (place-such board source p.block p.node p.within p.next.within (next-heard board source p.next.from p.block p.node p.next.next)) old.me new.me
        ((sources-list P E O board source p.block p.node old new).run None p.told)

    passes-only : (read read' : Option ℕ) → Passes board source read read' old new → ListsOnly (IsOfWalk board source) old.me new.me
    passes-only read read' passes =
        elim passes [
          | inl p ↦ block-only read read' p.0 true p.1.reads
          | inr q ↦ elim q [
            | inl e ↦ block-only read read' e.0 false e.1.reads
            | inr p ↦ place-only read read' p
          ]
        ]

    block-longer : (read read' : Option ℕ) (block : ℕ) (free : Bool) → ReadsBlock board source read read' old new block free →
        length old.me.0.steps < length new.me.0.steps
    block-longer read read' block free reads =
        let one : ListsOne (word_index board block) old.me new.me = (blocks-list P E O board block 0 old new).skipped free reads.told in
        some-longer (word_index board block) old.me new.me (one-some (word_index board block) old.me new.me one)

    passes-longer : (read read' : Option ℕ) → Passes board source read read' old new → length old.me.0.steps < length new.me.0.steps
    passes-longer read read' passes =
        elim passes [
          | inl p ↦ block-longer read read' p.0 true p.1.reads
          | inr q ↦ elim q [
            | inl e ↦ block-longer read read' e.0 false e.1.reads
            | inr p ↦
                some-longer (run_index board p.block p.node) old.me new.me
                ((sources-list P E O board source p.block p.node old new).run None p.told)
          ]
        ]

  pub walks-only : (count : ℕ) (read : Option ℕ) (old new : Seat (Option P) (View P E)) → Walks board source count read old new →
      ListsOnly (IsOfWalk board source) old.me new.me
  walks-only zero read old new walks = only-here (IsOfWalk board source) old.me new.me (ap (λ (m : Seated P E). m.0.steps) walks.1)
  walks-only (suc count) read old new walks =
      only-on (IsOfWalk board source) old.me walks.1.me new.me (walks-only count walks.0 old walks.1 walks.2)
      (passes-only walks.1 new walks.0 read walks.3)

  -- a walk that lists no step made none, and passed no place
  none-before : (count : ℕ) (read : Option ℕ) (old new : Seat (Option P) (View P E)) → Walks board source count read old new →
      new.me.0.steps ≡ old.me.0.steps → CanSealScan board.frame new.me.0 source → CanSealScan board.frame old.me.0 source
  none-before zero read old new walks same none = subst (λ (m : Seated P E). CanSealScan board.frame m.0 source) walks.1 none
  none-before (suc count) read old new walks same none =
      let first = only-longer (IsOfWalk board source) old.me walks.1.me (walks-only count walks.0 old walks.1 walks.2) in
      let second = passes-longer walks.1 new walks.0 read walks.3 in
      let length_is : length new.me.0.steps ≡ length old.me.0.steps = ap length same in
      absurd (omega (arith, first, second, length_is))

module _ {P E O : Type 0} (board : Board O) (old new : Seat (Option P) (View P E)) (before after : Scan) where
  run-list : (x : Name) → IsFound board before old new after x → ListsRun board old new before.source x
  run-list x f =
      let Such : Seen → Type 0 = IsOfWalk board before.source in
      let walked = walks-only board before.source f.count f.read old f.middle f.passed in
      let ran : ListsSome (callback_index board x) f.middle.me new.me = (sources-list P E O board before.source x.block x.node f.middle new).run (Some x) f.begun in
      let heard = next-heard board before.source f.at x.block x.node f.is_next in
      record {
        newest = ran.newest;
        others = ran.others ++ walked.made;
        steps_are =
            ran.steps_are ∙ ap (λ (l : List Seen). ran.newest ∷ ran.others ++ l) walked.steps_are
            ∙ ap (λ (l : List Seen). ran.newest ∷ l) (sym (append_assoc ran.others walked.made old.me.0.steps));
        index_is = All-head (λ (e : Seen). e.index ≡ callback_index board x) ran.newest ran.others ran.all_there;
        all_there =
            All-append Such ran.others walked.made
            (All-weaker (λ (e : Seen). e.index ≡ callback_index board x) Such
            (place-such board before.source x.block x.node f.block f.within heard) ran.others
            (All-tail (λ (e : Seen). e.index ≡ callback_index board x) ran.newest ran.others ran.all_there))
            walked.all_such;
      }

  scan-list : ListsOfScan board old new before after
  scan-list =
      record {
        found = run-list;
        through = λ t. walks-only board before.source t.count t.read old new t.passed;
        none_left = λ t same. none-before board before.source t.count t.read old new t.passed same t.none_left;
      }

pub scans-list : (P E O : Type 0) → ScansListTheirSteps P E O
scans-list P E O board old new before after = scan-list board old new before after

pub requests-list : (P E O : Type 0) → SourcesListTheirSteps P E O
requests-list P E O board old new source =
    record {
      requested = λ answer r. lists-one (ap (λ (m : Seated P E). m.0.steps) r.me_is);
      failed = λ node answer f. lists-one (ap (λ (m : Seated P E). m.0.steps) f.asked.me_is);
      looked = λ answer l. (sources-list P E O board source 0 0 old new).looked None answer l;
      sealed = λ s. (sources-list P E O board source 0 0 old new).sealed s;
    }

-- the step is on the callback's word
abbrev IsThere : {O : Type 0} → Board O → Name → Seen → Type 0
IsThere board x e = e.index ≡ callback_index board x

module _ {P E O : Type 0} (board : Board O) (x : Name) where
  module _ (old new : Seat (Option P) (View P E)) where
    pub try-list : (answer : Withdrawn) → IsTried board x old new answer → ListsOne (callback_index board x) old.me new.me
    try-list NeverRan r = (callbacks-list P E O board x old new).withdrawn _ r.told
    try-list Ran r = (callbacks-list P E O board x old new).withdrawn _ r.told
    try-list Running r = (callbacks-list P E O board x old new).withdrawn _ r.told
    try-list OwnHand r = (callbacks-list P E O board x old new).removed r.told

    last-list : (answer : Settled) → IsLastTry board x old new answer → ListsOne (callback_index board x) old.me new.me
    last-list Unrun r = try-list NeverRan r
    last-list Over r = try-list Ran r
    last-list Inside r = try-list OwnHand r

  waits-only : (count : ℕ) (old new : Seat (Option P) (View P E)) → Waits board x count old new → ListsOnly (IsThere board x) old.me new.me
  waits-only zero old new waited = only-here (IsThere board x) old.me new.me (ap (λ (m : Seated P E). m.0.steps) waited)
  waits-only (suc count) old new waited =
      let one = try-list waited.0 new Running waited.2 in
      only-on (IsThere board x) old.me waited.0.me new.me (waits-only count old waited.0 waited.1)
      (some-only (IsThere board x) (callback_index board x) (λ e is. is) waited.0.me new.me (one-some (callback_index board x) waited.0.me new.me one))

  waits-none : (count : ℕ) (old new : Seat (Option P) (View P E)) → count ≡ 0 → Waits board x count old new → new.me ≡ old.me
  waits-none zero old new none waited = waited
  waits-none (suc count) old new none waited = absurd (omega (arith, none))

  module _ (old new : Seat (Option P) (View P E)) (answer : Settled) (s : IsSettled board x old new answer) where
    settled-list : ListsSome (callback_index board x) old.me new.me
    settled-list =
        some-on (callback_index board x) old.me s.middle.me new.me (waits-only s.count old s.middle s.waited)
        (last-list s.middle new answer s.last)

    once-list : s.count ≡ 0 → ListsOne (callback_index board x) old.me new.me
    once-list none =
        subst (λ (m : Seated P E). ListsOne (callback_index board x) m new.me) (waits-none s.count old s.middle none s.waited)
        (last-list s.middle new answer s.last)

pub removals-list : (P E O : Type 0) → CallbacksListTheirSteps P E O
removals-list P E O board old new x =
    record {
      armed = λ answer a. record {
        source = a.source;
        nearest_is = a.nearest_is;
        lists = record {
          middle = a.middle.me;
          one = (callbacks-list P E O board x old a.middle).armed a.armed;
          two = (sources-list P E O board a.source 0 0 a.middle new).looked (Some x) _ a.looked;
        };
      };
      tried = try-list board x old new;
      settled = settled-list board x old new;
      at_once = λ answer s zeroth hears. once-list board x old new answer s (s.at_once zeroth hears);
      ended = λ over runs. (callbacks-list P E O board x old new).ended (over.ends runs);
      was_over = λ over none. ap (λ (m : Seated P E). m.0.steps) (over.was_removed none);
    }

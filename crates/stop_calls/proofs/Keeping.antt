-- What each call of a scan leaves as it was.
use Rattle.std.proofs.Common.{◌≡◌, inl, inr, ℕ, Bool, true, false, not, ◌&&◌, ◌||◌, List, [], ◌∷◌, ◌++◌, append_assoc, refl, sym, ap, ◌∙◌, arith}
use Rattle.std.specs.Prelude.{Option, None, if◌then◌else◌}
use Rattle.std.proofs.lemmas.Bool.{cases_lt, cond-true, cond-false, or_right}
use Rattle.life_rules.specs.declared.event.Name.{Name}
use Rattle.life_rules.specs.declared.event.SourceRef.{SourceRef}
use Rattle.life_rules.specs.declared.event.SourceRef.TheVariants.{Node}
use Rattle.life_rules.specs.Views.{same_source}
use Rattle.common_lemmas.proofs.Bool.{either}
use Rattle.table_words.specs.Controls.{source_read}
use Rattle.table_words.specs.Layouts.{index}
use Rattle.atomic_table.specs.declared.shared.Seat.{Seat}
use Rattle.listed_words.specs.declared.seen.Seen.{Seen}
use Rattle.listed_words.specs.Lists.{entry}
use Rattle.table_rules.specs.declared.view.View.{View}
use Rattle.table_rules.specs.declared.view.Held.{Held}
use Rattle.table_rules.specs.declared.view.Scanning.{Scanning}
use Rattle.table_rules.specs.ShownViews.{has_source_ref}
use Rattle.table_steps.specs.Views.{Board}
use Rattle.table_steps.specs.Claims.{with_step}
use Rattle.table_steps.specs.Seats.{Seated}
use Rattle.table_steps.specs.Remembers.{running}
use Rattle.table_steps.specs.Requests.{asks}
use Rattle.table_steps.specs.Rouses.{IsRoused}
use Rattle.table_steps.specs.ScanSeals.{IsScanSealed}
use Rattle.table_steps.specs.Sights.{IsLookedAt, says_requested, spot_of}
use Rattle.stop_calls.specs.declared.requesting.Request.{Request}
use Rattle.stop_calls.specs.declared.requesting.Request.TheVariants.{Already}
use Rattle.stop_calls.specs.declared.scanning.Scan.{Scan}
use Rattle.stop_calls.specs.Asides.{IsLonger, KeepsAccounts, Passed, ComesBack}
use Rattle.stop_calls.specs.Removals.{IsOver}
use Rattle.stop_calls.specs.Requests.{IsAskedFor}
use Rattle.stop_calls.specs.Walks.{Walks, IsFound, IsThrough}
use Rattle.stop_calls.proofs.Listing.{scans-list, walks-only}

module _ {A : Type 0} where
  pub same-longer : (l l' : List A) → l' ≡ l → IsLonger l l'
  same-longer l l' is = record { made = []; is = is }

  pub one-longer : (s : A) (l l' : List A) → l' ≡ s ∷ l → IsLonger l l'
  one-longer s l l' is = record { made = s ∷ []; is = is }

  pub longer-on : (a b c : List A) → IsLonger a b → IsLonger b c → IsLonger a c
  longer-on a b c first second =
      record {
        made = second.made ++ first.made;
        is = second.is ∙ ap (λ (l : List A). second.made ++ l) first.is ∙ sym (append_assoc second.made first.made a);
      }

-- what the hand had seen it has still
pub longer-seen : (source : SourceRef) (l l' : List SourceRef) → IsLonger l l' → has_source_ref l source ≡ true →
    has_source_ref l' source ≡ true
longer-seen source l l' longer seen = ap (λ (k : List SourceRef). has_source_ref k source) longer.is ∙ in-longer longer.made
  where
    in-longer : (more : List SourceRef) → has_source_ref (more ++ l) source ≡ true
    in-longer [] = seen
    in-longer (t ∷ more) = or_right (same_source t source) (has_source_ref (more ++ l) source) (in-longer more)

module _ {P E : Type 0} where
  abbrev pub seen_of : Seated P E → List SourceRef
  seen_of m = m.0.seen

  abbrev pub steps_of : Seated P E → List Seen
  steps_of m = m.0.steps

  -- through calls that follow each other
  pub aside-on : (m m1 m2 : Seated P E) → KeepsAccounts m m1 → KeepsAccounts m1 m2 → KeepsAccounts m m2
  aside-on m m1 m2 first second =
      record {
        number = second.number ∙ first.number;
        splits = second.splits ∙ first.splits;
        owed = second.owed ∙ first.owed;
        reported = second.reported ∙ first.reported;
        finished = second.finished ∙ first.finished;
        noted = second.noted ∙ first.noted;
        unlooked = second.unlooked ∙ first.unlooked;
        seen_after = second.seen_after ∙ first.seen_after;
        made = second.made ∙ first.made;
        making = second.making ∙ first.making;
        refused = second.refused ∙ first.refused;
        requested = second.requested ∙ first.requested;
        claimed = second.claimed ∙ first.claimed;
        released = second.released ∙ first.released;
        hands = second.hands ∙ first.hands;
        joined = second.joined ∙ first.joined;
        homes = second.homes ∙ first.homes;
        seen = longer-on m.0.seen m1.0.seen m2.0.seen first.seen second.seen;
        steps = longer-on m.0.steps m1.0.steps m2.0.steps first.steps second.steps;
      }

  pub passed-on : (m m1 m2 : Seated P E) → Passed m m1 → Passed m1 m2 → Passed m m2
  passed-on m m1 m2 first second =
      record { aside = aside-on m m1 m2 first.aside second.aside; held = second.held ∙ first.held }

  pub comes-on : (m m1 m2 : Seated P E) → ComesBack m m1 → ComesBack m1 m2 → ComesBack m m2
  comes-on m m1 m2 first second =
      record {
        passed = passed-on m m1 m2 first.passed second.passed;
        runs = second.runs ∙ first.runs;
        scans = second.scans ∙ first.scans;
      }

  -- where nothing else than these changed
  module _ (held : List (Held E)) (runs : List Name) (scans : List Scanning) (seen : List SourceRef) (steps : List Seen) (m m' : Seated P E) where
    pub aside-by : m' ≡ (record m.0 { held = held; runs = runs; scans = scans; seen = seen; steps = steps }, m.1) →
        IsLonger m.0.seen m'.0.seen → IsLonger m.0.steps m'.0.steps → KeepsAccounts m m'
    aside-by is learnt fresh =
        record {
          number = ap (λ (z : Seated P E). z.0.number) is;
          splits = ap (λ (z : Seated P E). z.0.splits) is;
          owed = ap (λ (z : Seated P E). z.0.owed) is;
          reported = ap (λ (z : Seated P E). z.0.reported) is;
          finished = ap (λ (z : Seated P E). z.0.finished) is;
          noted = ap (λ (z : Seated P E). z.0.noted) is;
          unlooked = ap (λ (z : Seated P E). z.0.unlooked) is;
          seen_after = ap (λ (z : Seated P E). z.0.seen_after) is;
          made = ap (λ (z : Seated P E). z.0.made) is;
          making = ap (λ (z : Seated P E). z.0.making) is;
          refused = ap (λ (z : Seated P E). z.0.refused) is;
          requested = ap (λ (z : Seated P E). z.0.requested) is;
          claimed = ap (λ (z : Seated P E). z.0.claimed) is;
          released = ap (λ (z : Seated P E). z.0.released) is;
          hands = ap (λ (z : Seated P E). z.0.hands) is;
          joined = ap (λ (z : Seated P E). z.0.joined) is;
          homes = ap (λ (z : Seated P E). z.1) is;
          seen = learnt;
          steps = fresh;
        }

  module _ (runs : List Name) (scans : List Scanning) (seen : List SourceRef) (steps : List Seen) (m m' : Seated P E) (is : m' ≡ (record m.0 { runs = runs; scans = scans; seen = seen; steps = steps }, m.1)) where
    passed-by : IsLonger m.0.seen m'.0.seen → IsLonger m.0.steps m'.0.steps → Passed m m'
    passed-by learnt fresh =
        record {
          aside = aside-by m.0.held runs scans seen steps m m' is learnt fresh;
          held = ap (λ (z : Seated P E). z.0.held) is;
        }

  -- one step that tells of no request
  module _ (runs : List Name) (scans : List Scanning) (s : Seen) (m m' : Seated P E) (is : m' ≡ (record m.0 { runs = runs; scans = scans; steps = s ∷ m.0.steps }, m.1)) where
    pub step-passed : Passed m m'
    step-passed =
        passed-by runs scans m.0.seen (s ∷ m.0.steps) m m' is (same-longer m.0.seen m'.0.seen (ap seen_of is))
        (one-longer s m.0.steps m'.0.steps (ap steps_of is))

  -- none
  pub comes-here : (m m' : Seated P E) → m' ≡ m → ComesBack m m'
  comes-here m m' is =
      record {
        passed = passed-by m.0.runs m.0.scans m.0.seen m.0.steps m m' is (same-longer m.0.seen m'.0.seen (ap seen_of is))
            (same-longer m.0.steps m'.0.steps (ap steps_of is));
        runs = ap (λ (z : Seated P E). z.0.runs) is;
        scans = ap (λ (z : Seated P E). z.0.scans) is;
      }

unrequested : (a b : Bool) → (a || (b && false)) ≡ a
unrequested true b = refl
unrequested false true = refl
unrequested false false = refl

module _ {P E O : Type 0} (board : Board O) (old new : Seat (Option P) (View P E)) where
  -- a request on a node's source
  pub asked-passed : (x : Name) (failure : Bool) (answer : Request) → IsAskedFor board (Node x) failure answer old new → Passed old.me new.me
  asked-passed x failure answer asked =
      let v = old.me.0 in
      let first : Bool = not (source_read asked.word).requested in
      let s : Seen = entry (index board.frame.layout (spot_of (Node x))) asked.word asked.left in
      let scans : List Scanning = if first then record { source = Node x; next = 0 } ∷ v.scans else v.scans in
      let is : new.me ≡ (record v { scans = scans; seen = Node x ∷ v.seen; steps = s ∷ v.steps }, old.me.1) =
      asked.me_is
      ∙ ap (λ (r : Bool). (record v { scans = scans; seen = Node x ∷ v.seen; requested = r; steps = s ∷ v.steps }, old.me.1))
      (unrequested v.requested first) in
      passed-by v.runs scans (Node x ∷ v.seen) (s ∷ v.steps) old.me new.me is
      (one-longer (Node x) v.seen new.me.0.seen (ap seen_of is)) (one-longer s v.steps new.me.0.steps (ap steps_of is))

  -- one that was made already, on whatever source
  pub already-back : (source : SourceRef) (failure : Bool) → IsAskedFor board source failure Already old new → ComesBack old.me new.me
  already-back source failure asked =
      let v = old.me.0 in
      let i : ℕ = index board.frame.layout (spot_of source) in
      let s : Seen = entry i asked.word asked.left in
      let is : new.me ≡ (record v { seen = source ∷ v.seen; steps = s ∷ v.steps }, old.me.1) =
      asked.me_is
      ∙ ap (λ (first : Bool). (with_step i asked.word asked.left (asks source first v), old.me.1)) (ap not asked.answer_is)
      ∙ ap (λ (r : Bool). (record v { seen = source ∷ v.seen; requested = r; steps = s ∷ v.steps }, old.me.1))
      (unrequested v.requested false) in
      record {
        passed = passed-by v.runs v.scans (source ∷ v.seen) (s ∷ v.steps) old.me new.me is
            (one-longer source v.seen new.me.0.seen (ap seen_of is)) (one-longer s v.steps new.me.0.steps (ap steps_of is));
        runs = ap (λ (z : Seated P E). z.0.runs) is;
        scans = ap (λ (z : Seated P E). z.0.scans) is;
      }

  -- a look at a source
  pub looked-back : (source : SourceRef) (answer : Bool) → IsLookedAt board source None answer old new → ComesBack old.me new.me
  looked-back source answer looked =
      let is = looked.2 in
      record {
        passed = passed-by _ _ _ _ old.me new.me is
            (either (says_requested source looked.0)
            (λ t.
            one-longer source old.me.0.seen new.me.0.seen
            (ap seen_of is ∙ cond-true (says_requested source looked.0) (source ∷ old.me.0.seen) old.me.0.seen t))
            (λ f.
            same-longer old.me.0.seen new.me.0.seen
            (ap seen_of is ∙ cond-false (says_requested source looked.0) (source ∷ old.me.0.seen) old.me.0.seen f)))
            (one-longer _ old.me.0.steps new.me.0.steps (ap steps_of is));
        runs = ap (λ (z : Seated P E). z.0.runs) is;
        scans = ap (λ (z : Seated P E). z.0.scans) is;
      }

  -- a node that was roused, or wasn't parked
  pub roused-back : (x : Name) (answer : Bool) → IsRoused board x answer old new → ComesBack old.me new.me
  roused-back x answer roused =
      record {
        passed = step-passed _ _ _ old.me new.me roused.me_is;
        runs = ap (λ (z : Seated P E). z.0.runs) roused.me_is;
        scans = ap (λ (z : Seated P E). z.0.scans) roused.me_is;
      }

  -- a callback's run that ended, or was over
  pub over-passed : (x : Name) → IsOver board x old new → Passed old.me new.me
  over-passed x over =
      elim (cases_lt 0 (running old.me.0 x)) [
        | inl some ↦ step-passed _ _ _ old.me new.me (over.ends (omega (arith, some))).me_is
        | inr none ↦ (comes-here old.me new.me (over.was_removed (omega (arith, none)))).passed
      ]

  -- a scan that was sealed
  pub sealed-passed : (source : SourceRef) → IsScanSealed board source old new → Passed old.me new.me
  sealed-passed source sealed = step-passed _ _ _ old.me new.me sealed.me_is

  -- some steps of a scan's next
  pub walks-longer : (source : SourceRef) (count : ℕ) (read : Option ℕ) → Walks board source count read old new → IsLonger old.me.0.steps new.me.0.steps
  walks-longer source count read walks =
      let lists = walks-only board source count read old new walks in
      record { made = lists.made; is = lists.steps_are }

  -- a scan's next
  module _ (before after : Scan) where
    pub found-longer : (x : Name) → IsFound board before old new after x → IsLonger old.me.0.steps new.me.0.steps
    found-longer x f =
        let lists = (scans-list P E O board old new before after).found x f in
        record { made = lists.newest ∷ lists.others; is = lists.steps_are }

    pub through-longer : IsThrough board before old new after → IsLonger old.me.0.steps new.me.0.steps
    through-longer t =
        let lists = (scans-list P E O board old new before after).through t in
        record { made = lists.made; is = lists.steps_are }

    pub found-passed : (x : Name) → IsFound board before old new after x → Passed old.me new.me
    found-passed x f =
        passed-by _ _ _ _ old.me new.me f.me_is (same-longer old.me.0.seen new.me.0.seen (ap seen_of f.me_is)) (found-longer x f)

    pub through-passed : IsThrough board before old new after → Passed old.me new.me
    through-passed t =
        passed-by _ _ _ _ old.me new.me t.me_is (same-longer old.me.0.seen new.me.0.seen (ap seen_of t.me_is)) (through-longer t)

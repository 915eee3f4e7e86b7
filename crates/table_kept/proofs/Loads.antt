-- A load changes nothing but the list of the hand's steps.
use Rattle.std.proofs.Common.{◌≡◌, ◌≤◌, ℕ, List, length, set, refl, sym, ap, subst, length-set}
use Rattle.std.specs.Prelude.{Option, slice_index}
use mathlib.Core.Option.{some}
use lib.ListN.{get_elem?}
use lib.Seq.{set-get_or}
use Rattle.atomic_table.specs.Table.{keeps}
use Rattle.atomic_table.specs.Table as table
use Rattle.table_rules.specs.declared.cargo.Cargo.{Ghosts}
use Rattle.table_rules.specs.declared.frame.Frame.{Frame}
use Rattle.table_rules.specs.declared.view.View.{View}
use Rattle.table_rules.specs.ShownWords.{block_of}
use Rattle.table_rules.specs.ShownViews.{view_at}
use Rattle.table_rules.specs.Scenes.{Scene, shown, scene}
use Rattle.table_rules.specs.Notes.{IsKnown, ViewsStand}
use Rattle.table_rules.specs.Counts.{AreCounted}
use Rattle.table_rules.specs.Grown.{HaveRisen}
use Rattle.table_rules.specs.Running.{Stands, Running}
use Rattle.table_steps.specs.Claims.{with_step, logged}
use Rattle.table_kept.proofs.Listing.{AllowsListed, allows-listed, lists-one}
use Rattle.table_kept.proofs.Stamping.{looked-risen}
use Rattle.table_kept.proofs.Counts.{counts-moved}
use Rattle.table_kept.proofs.ViewMoves.{view-kept, views-moved}

-- what a hand knows it knows after a step was listed
pub known-listed : {P E : Type 0} (t : Scene P E) (i n left : ℕ) (v : View P E) → IsKnown t v → IsKnown t (with_step i n left v)
known-listed t i n left v k =
    record {
      held = k.held;
      owed = k.owed;
      reported = k.reported;
      noted = k.noted;
      unlooked = k.unlooked;
      seen_after = k.seen_after;
      seen = k.seen;
    }

pub known-logged : {P E : Type 0} (t : Scene P E) (i n : ℕ) (v : View P E) → IsKnown t v → IsKnown t (logged i n v)
known-logged t i n v k = known-listed t i n n v k

-- other views may stand for these, where they show the same and what is said of them is so
pub relisted : {P E O : Type 0} (cargo : Ghosts P E O) (f : Frame O) (s : table.State (Option P) (View P E)) (vs : List (View P E)) →
    (r : Running cargo f s) →
    ((h : ℕ) → view_at (block_of f.layout s.words) vs h ≡ view_at (block_of f.layout s.words) s.views h) →
    length vs ≤ f.hands → ViewsStand (scene f s r.past) vs → AreCounted (shown f s) vs → HaveRisen f.layout s.words vs →
    Running cargo f record { words = s.words; homes = s.homes; views = vs }
relisted cargo f s vs r same seats views counts risen =
    let now = scene f s r.past in
    let there : scene f record { words = s.words; homes = s.homes; views = vs } r.past ≡ now =
    λ k. record {
      state = record (shown f s) { view = λ h. same h k };
      home = now.home;
      past = r.past;
    } in
    record {
      frame = r.frame;
      sized = record { words = r.sized.words; homes = r.sized.homes; seats = seats };
      stamped = record {
        control = r.stamped.control;
        callback = r.stamped.callback;
        source = r.stamped.source;
        settled = r.stamped.settled;
        quiet = r.stamped.quiet;
        renewed = r.stamped.renewed;
        rises = risen;
        scope = r.stamped.scope;
      };
      past = r.past;
      stands = subst (λ z. Stands cargo f.over.value z vs) (sym there) (record {
        sound = r.stands.sound;
        homes = r.stands.homes;
        starts = r.stands.starts;
        items = r.stands.items;
        lots = r.stands.lots;
        views = views;
        counts = counts;
      });
    }

-- a step that leaves the word as it is and lists itself
pub looks_keep : {P E O : Type 0} (cargo : Ghosts P E O) (f : Frame O) (s : table.State (Option P) (View P E)) (id i : ℕ) (v : View P E) →
    Running cargo f s → get_elem? s.views id ≡ some v →
    Running cargo f record {
      words = set s.words i (slice_index s.words i);
      homes = s.homes;
      views = set s.views id (logged i (slice_index s.words i) v);
    }
looks_keep cargo f s id i v r at =
    let w = logged i (slice_index s.words i) v in
    let now = scene f s r.past in
    subst (λ ws. Running cargo f record { words = ws; homes = s.homes; views = set s.views id w })
    (sym (set-get_or s.words i 0))
    (relisted cargo f s (set s.views id w) r
    (λ h. view-kept (block_of f.layout s.words) s.views id v w at refl h)
    (subst (λ n. n ≤ f.hands) (sym (length-set s.views id w)) r.sized.seats)
    (views-moved now now s.views id v w at (λ j u _ _ k. k)
    (known-logged now i (slice_index s.words i) v (r.stands.views.each id v at)) refl refl r.stands.views)
    (counts-moved now.state now.state s.views id v w at refl refl r.stands.counts)
    (looked-risen f.layout s.views id v w at s.words i refl r.stamped.rises))

pub looks_allowed : {P E O : Type 0} (cargo : Ghosts P E O) (f : Frame O) (slots id i : ℕ) (v : View P E) (c : List (ℕ × Option P)) →
    AllowsListed cargo f slots id (v, c) i (λ n. n) (λ n m. m ≡ (logged i n v, c))
looks_allowed cargo f slots id i v c =
    allows-listed cargo f slots id (v, c) i (λ n. n) (λ n m. m ≡ (logged i n v, c))
    (λ n m told. lists-one i n n (v, c) m v (ap (λ z. z.0) told) refl refl refl refl)
    (λ s r deep at small. (
      logged i (slice_index s.words i) v,
      keeps,
      tt,
      looks_keep cargo f s id i v r at,
      refl,
    ))

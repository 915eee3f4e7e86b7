-- How a hand goes on from due to due of a scan, inside other scans.
use Rattle.std.proofs.Common.{◌≡◌, ℕ, ◌+◌, ◌*◌, ◌≤◌, false, not, List, ◌∷◌, length, refl, sym, ap, ◌∙◌, subst, arith}
use Rattle.std.specs.Prelude.{Option}
use Rattle.std.specs.Option.{option_map_or}
use Rattle.std.proofs.lemmas.Bool.{cond-true}
use Rattle.std.proofs.lemmas.Nat.{row_fits}
use Rattle.node_tree.specs.Tree.{IsTree, nearest}
use Rattle.life_rules.specs.declared.event.Name.{Name}
use Rattle.life_rules.specs.declared.event.SourceRef.{SourceRef}
use Rattle.life_rules.specs.declared.event.SourceRef.TheVariants.{Node}
use Rattle.common_lemmas.specs.Sums.{one}
use Rattle.life_rules.specs.Views.{same}
use Rattle.life_rules.specs.States.{source_for}
use Rattle.life_rules.proofs.Names.{same-refl}
use Rattle.table_words.specs.Controls.{source_read}
use Rattle.atomic_table.specs.declared.shared.Seat.{Seat}
use Rattle.table_rules.specs.declared.view.View.{View}
use Rattle.table_rules.specs.declared.view.Scanning.{Scanning}
use Rattle.table_rules.specs.Named.{count_by, without}
use Rattle.table_rules.specs.ShownViews.{scan_in}
use Rattle.table_steps.specs.Views.{Board}
use Rattle.table_steps.specs.Seats.{Seated}
use Rattle.table_steps.specs.Requests.{asks_at}
use Rattle.table_steps.specs.RunEnds.{passes_to, number_of}
use Rattle.table_steps.specs.Sights.{IsSourceIn}
use Rattle.table_steps.specs.Remembers.{running}
use Rattle.stop_calls.specs.declared.scanning.Scan.{Scan}
use Rattle.stop_calls.specs.Cursors.{first_scan, NoneHears}
use Rattle.stop_calls.specs.Removals.{MayEndRun, IsOver}
use Rattle.stop_calls.specs.Walks.{IsFound, IsThrough}
use Rattle.stop_calls.specs.Nestings.{AreOuter, Hears, IsFewer, Scans, scan_at}
use Rattle.stop_calls.proofs.Below.{heard-above}
use Rattle.stop_calls.proofs.ScanLists.{first-passes, first-found, above-none}

-- a request that was made, on a source that the hand may scan
pub record HasRequested {P E O : Type 0} (board : Board O) (source : SourceRef) (m m1 : Seated P E) : Type 0 where
  pub tree : IsTree board.frame.tree
  pub is_one : IsSourceIn board source
  pub above : AreOuter source m.0.scans
  pub unrun : NoneHears board.frame.tree source m.0.runs
  pub at : ℕ
  pub word : ℕ
  pub left : ℕ
  pub clear : (source_read word).requested ≡ false
  pub me_is : m1 ≡ asks_at source at word left m

-- it gives a scan
module _ {P E O : Type 0} {board : Board O} {source : SourceRef} {m m1 : Seated P E}
    (asked : HasRequested board source m m1) where
  open asked use {tree, is_one, above, unrun, word, clear, me_is}

  pub made-scans : m1.0.scans ≡ scan_at source 0 ∷ m.0.scans
  made-scans =
      ap (λ (z : Seated P E). z.0.scans) me_is
      ∙ cond-true (not (source_read word).requested) (scan_at source 0 ∷ m.0.scans) m.0.scans (ap not clear)

  pub made-runs : m1.0.runs ≡ m.0.runs
  made-runs = ap (λ (z : Seated P E). z.0.runs) me_is

  unfoldable pub begun : Scans board (first_scan source) m1
  begun =
      record {
        tree = tree;
        is_one = is_one;
        from = 0;
        outer = m.0.scans;
        scans = made-scans;
        above = above;
        stands = record {
          within = omega arith;
          from = 0;
          scans = ap (λ (l : List Scanning). scan_in l source) made-scans ∙ first-found source 0 m.0.scans;
          reached = omega arith;
          between = λ b n inside low high. absurd (omega (arith, high));
        };
        unrun = subst (NoneHears board.frame.tree source) (sym made-runs) unrun;
      }

  pub made : (scan : Scan) → scan ≡ first_scan source → Scans board scan m1
  made scan first = subst (λ (s : Scan). Scans board s m1) (sym first) begun

-- a scan of the hand came to a callback, and goes on behind it
pub record HasCome (P E : Type 0) {O : Type 0} (board : Board O) : Type 0 where
  pub before : Scan
  pub after : Scan
  pub old : Seat (Option P) (View P E)
  pub new : Seat (Option P) (View P E)
  pub makes : Scans board before old.me
  pub place : Name
  pub kept : after.source ≡ before.source
  pub found : IsFound board before old new after place

-- what the hand did from inside the callback left its runs and scans
pub record DidInside {P E O : Type 0} {board : Board O} (come : HasCome P E board) : Type 0 where
  pub mid : Seat (Option P) (View P E)
  pub runs : mid.me.0.runs ≡ come.new.me.0.runs
  pub scans : mid.me.0.scans ≡ come.new.me.0.scans

-- and then the run ended, in whatever way it did
pub record EndsRun {P E O : Type 0} {board : Board O} {come : HasCome P E board} (did : DidInside come) : Type 0 where
  pub end : Seat (Option P) (View P E)
  pub view : View P E
  pub end_is : end.me ≡ (view, did.mid.me.1)
  pub runs : view.runs ≡ without (λ (y : Name). y) did.mid.me.0.runs come.place
  pub scans : view.scans
      ≡ option_map_or (λ source. passes_to source (number_of board.frame.tree come.place + 1) did.mid.me.0.scans)
      (source_for come.place (nearest board.frame.tree come.place.node)) did.mid.me.0.scans

module _ {P E O : Type 0} {board : Board O} (come : HasCome P E board) where
  open come use {before, after, old, new, makes as s, place as x, kept, found as f}

  pub found-heard : Hears board.frame.tree before.source x
  found-heard = f.begun.of_scan.nearest_is

  pub found-runs : new.me.0.runs ≡ x ∷ old.me.0.runs
  found-runs = ap (λ (z : Seated P E). z.0.runs) f.me_is

  pub found-scans : new.me.0.scans ≡ scan_at before.source f.at ∷ s.outer
  found-scans =
      ap (λ (z : Seated P E). z.0.scans) f.me_is
      ∙ ap (passes_to before.source f.at) s.scans
      ∙ first-passes before.source s.from f.at s.outer

  -- nothing was done yet
  abbrev pub at-once : DidInside come
  at-once = record { mid = new; runs = refl; scans = refl }

  module _ (did : DidInside come) where
    open did use {mid, runs, scans}

    mid-scans : mid.me.0.scans ≡ scan_at before.source f.at ∷ s.outer
    mid-scans = scans ∙ found-scans

    pub found-ends : MayEndRun mid.me.0 x
    found-ends run =
        ap (λ (l : List Scanning). scan_in l (Node x)) mid-scans
        ∙ above-none x (scan_at before.source f.at ∷ s.outer)
        (heard-above board.frame.tree s.tree x before.source f.at s.outer found-heard s.above)

    pub runs-some : 1 ≤ running mid.me.0 x
    runs-some =
        let o : one (same x x) ≡ 1 = ap one (same-refl x) in
        let is : running mid.me.0 x ≡ count_by (λ (y : Name). y) old.me.0.runs x + one (same x x) =
        ap (λ (l : List Name). count_by (λ (y : Name). y) l x) (runs ∙ found-runs) in
        omega (arith, o, is)

    module _ (ended : EndsRun did) where
      open ended use {end, end_is, runs as v_runs, scans as v_scans}

      abbrev k : ℕ
      k = number_of board.frame.tree x + 1

      pub ended-runs : end.me.0.runs ≡ old.me.0.runs
      ended-runs =
          ap (λ (z : Seated P E). z.0.runs) end_is ∙ v_runs
          ∙ ap (λ (l : List Name). without (λ (y : Name). y) l x) (runs ∙ found-runs)
          ∙ cond-true (same x x) old.me.0.runs (x ∷ without (λ (y : Name). y) old.me.0.runs x) (same-refl x)

      pub ended-end : end.me.0.scans ≡ scan_at before.source k ∷ s.outer
      ended-end =
          ap (λ (z : Seated P E). z.0.scans) end_is ∙ v_scans
          ∙ ap (λ (o : Option SourceRef). option_map_or (λ source. passes_to source k mid.me.0.scans) o mid.me.0.scans) found-heard
          ∙ ap (passes_to before.source k) mid-scans
          ∙ first-passes before.source f.at k s.outer

      unfoldable pub ended-scans : Scans board after end.me
      ended-scans =
          let behind = f.goes_on in
          record {
            tree = s.tree;
            is_one = subst (IsSourceIn board) (sym kept) s.is_one;
            from = k;
            outer = s.outer;
            scans = ended-end ∙ ap (λ (u : SourceRef). scan_at u k ∷ s.outer) (sym kept);
            above = subst (λ (u : SourceRef). AreOuter u s.outer) (sym kept) s.above;
            stands = record {
              within = f.inside;
              from = k;
              scans =
                  ap (λ (l : List Scanning). scan_in l after.source) ended-end
                  ∙ ap (λ (u : SourceRef). scan_in (scan_at before.source k ∷ s.outer) u) kept
                  ∙ first-found before.source k s.outer;
              reached = omega (arith, behind);
              between = λ b n within low high. absurd (omega (arith, behind, low, high));
            };
            unrun = subst (NoneHears board.frame.tree after.source) (sym ended-runs)
                (subst (λ (u : SourceRef). NoneHears board.frame.tree u old.me.0.runs) (sym kept) s.unrun);
          }

    module _ {end : Seat (Option P) (View P E)} (over : IsOver board x mid end) where
      abbrev over-ended : EndsRun did
      over-ended = record { end = end; view = _; end_is = (over.ends runs-some).me_is; runs = refl; scans = refl }

      pub over-runs : end.me.0.runs ≡ old.me.0.runs
      over-runs = ended-runs over-ended

      pub over-outer : end.me.0.scans ≡ scan_at before.source (number_of board.frame.tree x + 1) ∷ s.outer
      over-outer = ended-end over-ended

      unfoldable pub over-scans : Scans board after end.me
      unfolding ended-scans
      over-scans = ended-scans over-ended

-- fewer places are left behind it
pub found-fewer : {P E O : Type 0} (board : Board O) (before after : Scan) (old new : Seat (Option P) (View P E)) (x : Name) →
    IsFound board before old new after x → IsFewer board before after
found-fewer board before after old new x f =
    let size : ℕ = length board.frame.tree in
    let block = f.block in
    let node = f.within in
    let forward = f.forward in
    let goes_on = f.goes_on in
    let row : x.block * size + size ≤ board.frame.layout.blocks * size = row_fits x.block size board.frame.layout.blocks size block (omega arith) in
    let turned : size * board.frame.layout.blocks ≡ board.frame.layout.blocks * size = omega arith in
    omega (arith, node, forward, goes_on, row, turned)

-- a scan of the hand came to its end
pub record HasGoneThrough (P E : Type 0) {O : Type 0} (board : Board O) : Type 0 where
  pub before : Scan
  pub after : Scan
  pub old : Seat (Option P) (View P E)
  pub new : Seat (Option P) (View P E)
  pub makes : Scans board before old.me
  pub kept : after.source ≡ before.source
  pub through : IsThrough board before old new after

module _ {P E O : Type 0} {board : Board O} (gone : HasGoneThrough P E board) where
  open gone use {before, after, old, new, makes as s, kept, through as t}

  pub through-runs : new.me.0.runs ≡ old.me.0.runs
  through-runs = ap (λ (z : Seated P E). z.0.runs) t.me_is

  pub through-outer : new.me.0.scans ≡ scan_at before.source t.at ∷ s.outer
  through-outer =
      ap (λ (z : Seated P E). z.0.scans) t.me_is
      ∙ ap (passes_to before.source t.at) s.scans
      ∙ first-passes before.source s.from t.at s.outer

  -- it stands there
  unfoldable pub through-scans : Scans board after new.me
  through-scans =
      record {
        tree = s.tree;
        is_one = subst (IsSourceIn board) (sym kept) s.is_one;
        from = t.at;
        outer = s.outer;
        scans = through-outer ∙ ap (λ (u : SourceRef). scan_at u t.at ∷ s.outer) (sym kept);
        above = subst (λ (u : SourceRef). AreOuter u s.outer) (sym kept) s.above;
        stands = t.stands;
        unrun = subst (NoneHears board.frame.tree after.source) (sym through-runs)
            (subst (λ (u : SourceRef). NoneHears board.frame.tree u old.me.0.runs) (sym kept) s.unrun);
      }

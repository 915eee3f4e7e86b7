-- How the steps of one call of a scan follow one another.
use Rattle.std.proofs.Common.{◌≡◌, ℕ, suc, ◌+◌, ◌*◌, ◌≤◌, true, false, List, ◌∷◌, length, refl, sym, ap, ◌∙◌, subst, arith, inl, inr, ◌&&◌, ◌==◌}
use Rattle.std.specs.Prelude.{Option, Some, None}
use Rattle.std.specs.List.{list_any}
use Rattle.std.proofs.lemmas.Bool.{cond-true, cond-false}
use Rattle.std.proofs.lemmas.Nat.{row_fits}
use Rattle.node_tree.specs.declared.node.TreeNode.{TreeNode}
use Rattle.life_rules.specs.declared.event.Name.{Name}
use Rattle.life_rules.specs.declared.event.Place.{Place}
use Rattle.life_rules.specs.declared.event.SourceRef.{SourceRef}
use Rattle.atomic_table.specs.declared.shared.Seat.{Seat}
use Rattle.table_rules.specs.declared.view.View.{View}
use Rattle.table_rules.specs.declared.view.Scanning.{Scanning}
use Rattle.listed_words.specs.declared.seen.Seen.{Seen}
use Rattle.listed_words.specs.Lists.{entry}
use Rattle.table_rules.specs.ShownViews.{scan_in}
use Rattle.table_steps.specs.Views.{Board}
use Rattle.table_steps.specs.Claims.{logged, word_index}
use Rattle.table_steps.specs.Seats.{Seated}
use Rattle.table_steps.specs.Runs.{CanRun, HasPassed, HasRun, run_index, node_named, last_of, listed}
use Rattle.table_steps.specs.ScanOrders.{hears, is_next_place}
use Rattle.table_steps.specs.RunEnds.{passes_to}
use Rattle.table_steps.specs.Skips.{skips, says_free}
use Rattle.stop_calls.specs.declared.scanning.Scan.{Scan}
use Rattle.stop_calls.specs.Cursors.{cursor, NoneBetween, Stands, NoneHears}
use Rattle.stop_calls.specs.Walks.{MayTry, scanning_at, PassesBlock, EntersBlock, Walks, IsFound, IsThrough}
use Rattle.stop_calls.specs.Searches.{IsNextFrom, NoneLeft, CanEnter, IsBlockMet}
use Rattle.stop_calls.proofs.ScanLists.{passes-same, scan-after, passes-twice}
use Rattle.stop_calls.proofs.Order.{none-past, is-next, unrun, none-on}

-- what was found in the table's own tree and blocks
pub next-in : {O : Type 0} (board : Board O) (nodes : List TreeNode) (blocks : ℕ) (scan : Scan) (place : Place) → nodes ≡ board.frame.tree →
    blocks ≡ board.frame.layout.blocks → IsNextFrom nodes blocks scan place → IsNextFrom board.frame.tree board.frame.layout.blocks scan place
next-in board nodes blocks scan place is_tree is_blocks n =
    subst (λ (k : ℕ). IsNextFrom board.frame.tree k scan place) is_blocks (subst (λ (t : List TreeNode). IsNextFrom t blocks scan place) is_tree n)

pub none-in : {O : Type 0} (board : Board O) (nodes : List TreeNode) (blocks : ℕ) (scan : Scan) → nodes ≡ board.frame.tree →
    blocks ≡ board.frame.layout.blocks → NoneLeft nodes blocks scan → NoneLeft board.frame.tree board.frame.layout.blocks scan
none-in board nodes blocks scan is_tree is_blocks n =
    subst (λ (k : ℕ). NoneLeft board.frame.tree k scan) is_blocks (subst (λ (t : List TreeNode). NoneLeft t blocks scan) is_tree n)

module _ {P E O : Type 0} (board : Board O) (before : Scan) (old : Seat (Option P) (View P E)) where
  abbrev tree : List TreeNode
  tree = board.frame.tree

  abbrev source : SourceRef
  source = before.source

  -- after some steps of a call: what the hand is now, and where its scan stands
  pub record IsWalking (scan : Scan) (read : Option ℕ) (now : Seat (Option P) (View P E)) : Type 0 where
    pub source_is : scan.source ≡ source
    pub count : ℕ
    pub passed : Walks board source count read old now
    pub at : ℕ
    pub steps : List Seen
    pub me_is : now.me ≡ (scanning_at source at old.me.0.runs steps old.me.0, old.me.1)
    pub first : ℕ
    pub began : scan_in old.me.0.scans source ≡ Some first
    pub within : scan.node ≤ length tree
    pub forward : cursor tree before ≤ cursor tree scan
    pub reached : at ≤ cursor tree scan
    pub between : NoneBetween tree source at (cursor tree scan)

  pub begins : Stands tree before old.me.0 → IsWalking before None old
  begins stands =
      record {
        source_is = refl;
        count = 0;
        passed = (refl, refl);
        at = stands.from;
        steps = old.me.0.steps;
        me_is = ap (λ (l : List Scanning). (record old.me.0 { scans = l }, old.me.1)) (sym (passes-same source stands.from old.me.0.scans stands.scans));
        first = stands.from;
        began = stands.scans;
        within = stands.within;
        forward = omega arith;
        reached = stands.reached;
        between = stands.between;
      }

  module _ {scan : Scan} {read : Option ℕ} {now : Seat (Option P) (View P E)} (w : IsWalking scan read now) where
    pub scans-at : scan_in now.me.0.scans source ≡ Some w.at
    scans-at =
        ap (λ (m : Seated P E). scan_in m.0.scans source) w.me_is
        ∙ scan-after source w.at w.first old.me.0.scans w.began

    -- a load leaves the hand so
    looked : (lists : List Seen → List Seen) (new : Seat (Option P) (View P E)) →
        new.me ≡ (record now.me.0 { steps = lists now.me.0.steps }, now.me.1) →
        new.me ≡ (scanning_at source w.at old.me.0.runs (lists w.steps) old.me.0, old.me.1)
    looked lists new is = is ∙ ap (λ (m : Seated P E). (record m.0 { steps = lists m.0.steps }, m.1)) w.me_is

    -- and what passes the scan on to k so
    moved : (k : ℕ) (lists : List Seen → List Seen) (new : Seat (Option P) (View P E)) →
        new.me ≡ (record now.me.0 { scans = passes_to source k now.me.0.scans; steps = lists now.me.0.steps }, now.me.1) →
        new.me ≡ (scanning_at source k old.me.0.runs (lists w.steps) old.me.0, old.me.1)
    moved k lists new is =
        is
        ∙ ap (λ (m : Seated P E). (record m.0 { scans = passes_to source k m.0.scans; steps = lists m.0.steps }, m.1)) w.me_is
        ∙ ap (λ (l : List Scanning). (record old.me.0 { scans = l; steps = lists w.steps }, old.me.1)) (passes-twice source k w.at old.me.0.scans)

    pub enters : (read' : Option ℕ) (new : Seat (Option P) (View P E)) (block : ℕ) →
        EntersBlock board source read read' now new block → IsWalking scan read' new
    enters read' new block e =
        let told = e.reads.told in
        let i : ℕ = word_index board block in
        record {
          source_is = w.source_is;
          count = suc w.count;
          passed = (read, now, w.passed, inr (inl (block, e)));
          at = w.at;
          steps = entry i told.word told.word ∷ w.steps;
          me_is = looked (λ l. entry i told.word told.word ∷ l) new
              (told.me_is ∙ ap (λ (v : View P E). (logged i told.word v, now.me.1)) (cond-false (says_free told.word) (skips tree block now.me.0) now.me.0 (sym told.answer_is)));
          first = w.first;
          began = w.began;
          within = w.within;
          forward = w.forward;
          reached = w.reached;
          between = w.between;
        }

    -- where the block isn't free, or was read before, the call may look at its places
    pub entered : (read' : Option ℕ) (new : Seat (Option P) (View P E)) (block : ℕ) → IsBlockMet board source block read read' now new false →
        IsWalking scan read' new × MayTry source read' block
    entered read' new block met =
        elim met [
          | inl e ↦ (
            subst (λ (s : Seat (Option P) (View P E)). IsWalking scan read' s) (sym e.same)
                (subst (λ (r : Option ℕ). IsWalking scan r now) (sym e.read_is) w),
            subst (λ (r : Option ℕ). MayTry source r block) (sym e.read_is) e.may,
          )
          | inr e ↦ (enters read' new block e.enters, e.may)
        ]

    -- the scan's next place
    module _ {place : Place} (n : IsNextFrom tree board.frame.layout.blocks scan place) where
      abbrev number : ℕ
      number = place.block * length tree + place.node

      heard : hears tree source place.block place.node ≡ true
      heard = subst (λ (t : SourceRef). hears tree t place.block place.node ≡ true) w.source_is n.hears

      reached : w.at ≤ number
      reached = let a = w.reached in let b = n.reached in omega (arith, a, b)

      next : is_next_place tree source w.at place.block place.node ≡ true
      next =
          is-next tree source w.at place.block place.node n.node heard reached
          (none-on tree source w.at (cursor tree scan) number w.between
          (subst (λ (t : SourceRef). NoneBetween tree t (cursor tree scan) number) w.source_is n.before))

      pub can-enter : CanEnter tree source now.me.0 place.block
      can-enter scope = record {
        from = w.at;
        scans = subst (λ (t : SourceRef). scan_in now.me.0.scans t ≡ Some w.at) scope scans-at;
        node = place.node;
        within = n.node;
        next = subst (λ (t : SourceRef). is_next_place tree t w.at place.block place.node ≡ true) scope next;
      }

      pub can-run : NoneHears tree source old.me.0.runs → CanRun tree now.me.0 source place.block place.node
      can-run none = record {
        from = w.at;
        scans = scans-at;
        within = n.node;
        next = next;
        unrun =
            ap (λ (m : Seated P E). list_any (λ (y : Name). y.block == place.block && y.node == place.node) m.0.runs) w.me_is
            ∙ unrun tree source old.me.0.runs place.block place.node none heard;
      }

      -- a free block was passed
      pub passes-block : (read' : Option ℕ) (new : Seat (Option P) (View P E)) →
          PassesBlock board source read read' now new place.block →
          IsWalking (record { source = scan.source; block = place.block + 1; node = 0 }) read' new
      passes-block read' new p =
          let told = p.reads.told in
          let i : ℕ = word_index board place.block in
          let lists = λ (l : List Seen). entry i told.word told.word ∷ l in
          let next_row : place.block * length tree + length tree ≤ (place.block + 1) * length tree = row_fits place.block (length tree) (place.block + 1) (length tree) (omega arith) (omega arith) in
          record {
            source_is = w.source_is;
            count = suc w.count;
            passed = (read, now, w.passed, inl (place.block, p));
            at = (place.block + 1) * length tree;
            steps = lists w.steps;
            me_is = moved ((place.block + 1) * length tree) lists new
                (told.me_is
                ∙ ap (λ (v : View P E). (logged i told.word v, now.me.1)) (cond-true (says_free told.word) (skips tree place.block now.me.0) now.me.0 (sym told.answer_is))
                ∙ ap (λ (t : SourceRef). (record now.me.0 { scans = passes_to t ((place.block + 1) * length tree) now.me.0.scans; steps = lists now.me.0.steps }, now.me.1)) (sym p.reads.scope));
            first = w.first;
            began = w.began;
            within = omega arith;
            forward = let a = w.forward in let b = n.reached in let inside = n.node in omega (arith, a, b, inside, next_row);
            reached = omega arith;
            between = λ b m inside from to. absurd (omega (arith, from, to));
          }

      -- a place that wasn't armed was passed
      pub passes-place : (new : Seat (Option P) (View P E)) → NoneHears tree source old.me.0.runs → MayTry source read place.block →
          HasPassed board source place.block place.node now new →
          IsWalking (record { source = scan.source; block = place.block; node = place.node + 1 }) read new
      passes-place new none may told =
          let i : ℕ = run_index board place.block place.node in
          let lists = λ (l : List Seen). entry i told.last told.last ∷ listed i told.words l in
          let inside = n.node in
          record {
            source_is = w.source_is;
            count = suc w.count;
            passed = (
              read,
              now,
              w.passed,
              inr (inr (record {
                block = place.block;
                node = place.node;
                within = n.block;
                next = can-run none;
                may = may;
                told = told;
                read_is = refl;
              })),
            );
            at = number + 1;
            steps = lists w.steps;
            me_is = moved (number + 1) lists new told.me_is;
            first = w.first;
            began = w.began;
            within = omega (arith, inside);
            forward = let a = w.forward in let b = n.reached in omega (arith, a, b);
            reached = omega arith;
            between = λ b m within from to. absurd (omega (arith, from, to));
          }

      -- and one that was armed runs
      pub found : (after : Scan) (x : Name) (new : Seat (Option P) (View P E)) → MayTry source read place.block →
          after ≡ record { source = scan.source; block = place.block; node = place.node + 1 } →
          HasRun board source place.block place.node x now new → IsFound board before old new after x
      found after x new may goes told =
          let i : ℕ = run_index board place.block place.node in
          let name : Name = node_named place.block place.node (last_of told.word told.tries) in
          let behind : place.block * length tree + (place.node + 1) ≡ place.block * length tree + place.node + 1 = omega arith in
          let lists = λ (l : List Seen). entry i (last_of told.word told.tries) told.left ∷ listed i (told.word ∷ told.tries) l in
          subst (λ (y : Name). IsFound board before old new after y) (sym told.name_is)
          (record {
            count = w.count;
            read = read;
            middle = now;
            passed = w.passed;
            may = may;
            begun = subst (λ (y : Name). HasRun board source place.block place.node y now new) told.name_is told;
            at = w.at;
            steps = lists w.steps;
            me_is =
                told.me_is
                ∙ ap (λ (y : Name). (record now.me.0 { runs = y ∷ now.me.0.runs; steps = lists now.me.0.steps }, now.me.1)) told.name_is
                ∙ ap (λ (m : Seated P E). (record m.0 { runs = name ∷ m.0.runs; steps = lists m.0.steps }, m.1)) w.me_is;
            block = n.block;
            within = n.node;
            is_next = next;
            forward = let a = w.forward in let b = n.reached in omega (arith, a, b);
            goes_on = ap (cursor tree) goes ∙ behind;
            inside = let is = ap (λ (z : Scan). z.node) goes in let inside = n.node in omega (arith, is, inside);
          })

    -- no place is left
    pub through : NoneLeft tree board.frame.layout.blocks scan → IsThrough board before old now scan
    through left = record {
      count = w.count;
      read = read;
      passed = w.passed;
      at = w.at;
      steps = w.steps;
      me_is = w.me_is;
      stands = record {
        within = w.within;
        from = w.at;
        scans = subst (λ (t : SourceRef). scan_in now.me.0.scans t ≡ Some w.at) (sym w.source_is) scans-at;
        reached = w.reached;
        between = subst (λ (t : SourceRef). NoneBetween tree t w.at (cursor tree scan)) (sym w.source_is) w.between;
      };
      none_left = record {
        from = w.at;
        scans = scans-at;
        past =
            none-past tree source w.at board.frame.layout.blocks
            (none-on tree source w.at (cursor tree scan) (length tree * board.frame.layout.blocks) w.between
            (subst (λ (t : SourceRef). NoneBetween tree t (cursor tree scan) (length tree * board.frame.layout.blocks)) w.source_is left));
      };
    }

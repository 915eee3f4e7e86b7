-- When a hand that has a node so can leave it, and what it has afterwards.
use Rattle.std.proofs.Common.{◌≡◌, inl, inr, ℕ, ℤ, ◌≤◌, Bool, true, false, not, ◌&&◌, ◌||◌, ◌==◌, List, [], ◌∷◌, length, refl, sym, ap, ◌∙◌, subst}
use Rattle.std.specs.Prelude.{Option, Some, None, MatchOption}
use Rattle.std.specs.List.{list_any, list_all}
use Rattle.std.proofs.lemmas.Bool.{both_ways, cond-true, cond-false, eqb-true, eq-eqb}
use Rattle.std.proofs.lemmas.Nat.{same_from_place}
use Rattle.life_rules.specs.declared.words.CallbackPhase.{CallbackPhase}
use Rattle.life_rules.specs.declared.event.Name.{Name}
use Rattle.life_rules.specs.declared.event.SourceRef.TheVariants.{Node}
use Rattle.node_tree.specs.declared.node.TreeNode.{TreeNode}
use Rattle.common_lemmas.specs.Lists.{are_different}
use Rattle.node_tree.specs.Tree.{is_child, is_root, parent_of}
use Rattle.life_rules.specs.Views.{beside, same}
use Rattle.common_lemmas.proofs.Bool.{either}
use Rattle.life_rules.proofs.Names.{same-refl, same-true}
use Rattle.table_words.specs.Layouts.{place_number}
use Rattle.table_rules.specs.declared.cargo.Cargo.{Ghosts}
use Rattle.table_rules.specs.declared.frame.Frame.{Frame}
use Rattle.table_rules.specs.declared.view.Held.{Held}
use Rattle.table_rules.specs.declared.view.Owed.{Owed}
use Rattle.table_rules.specs.declared.view.Reported.{Reported}
use Rattle.table_rules.specs.Named.{find_by, Each}
use Rattle.table_rules.specs.ShownViews.{scan_in, has_name}
use Rattle.table_steps.specs.Views.{aimed}
use Rattle.table_steps.specs.Awaits.{owes_each, is_named, is_unnamed, AwaitsAt, CanAwait}
use Rattle.table_steps.specs.Seats.{Seated}
use Rattle.table_steps.specs.Finishes.{is_settled, is_of_kids, CanEnd, CanFinish, FinishedAt, RootedAt}
use Rattle.table_steps.specs.Releases.{CanRelease}
use Rattle.table_steps.specs.Reports.{CanReport}
use Rattle.table_steps.specs.Rests.{CanLeave, CanRest, RestsAt}
use Rattle.table_steps.specs.Slots.{knows_idle, slot_of, is_of_family, kids_of, kept, has_seen}
use Rattle.table_steps.specs.Swaps.{HasHome}
use Rattle.op_slot.specs.Puts.{FitsOwed, CanPut}
use Rattle.op_slot.specs.Tends.{IsCalm, OwesReport, HasPlaces, Owes, Tends}
use Rattle.op_slot.proofs.Kept.{kept-shed}
use Rattle.op_slot.proofs.Places.{kid-within, kid-apart, all-kids, not-of-kids}

module _ {P E O : Type 0} (f : Frame O) (x : Name) (m : Seated P E) where
  -- the hand has the home of a node whose start it owes
  pub owes-home : (owed : Owed E) (inside : Option P) → Owes f x owed inside m → HasHome f.layout m x
  owes-home owed inside has = record { inside = inside; home = has.home }

  -- an item fits that is no completion, goes on with the parent's start, has the table's key and draws the lot
  pub owes-fits : (cargo : Ghosts P E O) (item : P) (inside : Option P) (owed : Owed E) → Owes f x owed inside m → (entry : E) →
      cargo.start item ≡ entry ∷ owed.above → cargo.key (cargo.start item) ≡ f.over.value →
      cargo.drawn (cargo.start item) ≡ owed.lot → cargo.fits item x.node (has_seen f.tree m.0 x) → ¬ cargo.ends item →
      FitsOwed cargo f m x item
  owes-fits cargo item inside owed has entry start key drawn fit goes_on =
      record {
        owed = owed;
        owes = has.owes;
        entry = entry;
        start = start;
        key = key;
        drawn = drawn;
        fit = fit;
        goes_on = goes_on;
      }

  -- and can put an item that fits into it, where it is empty
  pub owes-puts : (cargo : Ghosts P E O) (item : P) (owed : Owed E) → Owes f x owed None m → FitsOwed cargo f m x item → CanPut cargo f m x item
  owes-puts cargo item owed has fits = record { home = has.home; fits = inr fits }

  module _ (held : Held E) (inside : Option P) (kid : ℕ → Option P) (has : Tends f x held inside kid m) where
    pub tends-home : HasHome f.layout m x
    tends-home = record { inside = inside; home = has.own }

    pub tends-kid : (n : ℕ) → is_child f.tree x.node n ≡ true → HasHome f.layout m (beside x n)
    tends-kid n child = record { inside = kid n; home = has.kids n child }

    pub tends-puts : (cargo : Ghosts P E O) (item : P) → inside ≡ None → cargo.start item ≡ held.start →
        cargo.fits item x.node (has_seen f.tree m.0 x || held.told) → CanPut cargo f m x item
    tends-puts cargo item empty start fit =
        record {
          home = has.own ∙ ap (λ o. Some o) empty;
          fits = inl (record { held = held; holds = has.holds; start = start; fit = fit });
        }

    -- a hand that makes no scan can leave a node whose children's homes are empty
    abbrev pub leaves : IsCalm m → ((n : ℕ) → is_child f.tree x.node n ≡ true → kid n ≡ None) → CanLeave f m x
    leaves calm empty =
        record {
          held = held;
          holds = has.holds;
          unscanned = ap (λ s. scan_in s (Node x)) calm;
          kids = λ n child. has.kids n child ∙ ap (λ o. Some o) (empty n child);
        }

-- an item of a held node that isn't a completion, as it is when the node is left with it
pub record GoesOn {P E O : Type 0} (cargo : Ghosts P E O) (f : Frame O) (x : Name) (m : Seated P E) (held : Held E) (item : P) : Type 0 where
  pub start : cargo.start item ≡ held.start
  pub fit : cargo.fits item x.node (has_seen f.tree m.0 x || held.told)
  pub goes_on : ¬ cargo.ends item

module _ {P E O : Type 0} (cargo : Ghosts P E O) (f : Frame O) (x : Name) (m : Seated P E) where
  module _ (held : Held E) (kid : ℕ → Option P) (calm : IsCalm m) (empty : (n : ℕ) → is_child f.tree x.node n ≡ true → kid n ≡ None) where
    -- with such an item in its home the hand can leave it at rest
    pub tends-rests : (item : P) → Tends f x held (Some item) kid m → GoesOn cargo f x m held item → cargo.least item ≤ held.named →
        cargo.rests item x.node → CanRest cargo f m x
    tends-rests item has on bound rests =
        record {
          leave = leaves f x m held (Some item) kid has calm empty;
          item = item;
          home = has.own;
          start = on.start;
          fit = on.fit;
          goes_on = on.goes_on;
          bound = bound;
          rests = rests;
        }

    -- or await children that it has read as not begun
    pub tends-awaits : (item : P) (nodes : List ℕ) → Tends f x held (Some item) kid m → GoesOn cargo f x m held item →
        cargo.least item ≤ length nodes → 1 ≤ length nodes → are_different nodes ≡ true →
        list_all (λ n. is_child f.tree x.node n && knows_idle held n) nodes ≡ true → CanAwait cargo f m x nodes
    tends-awaits item nodes has on bound some different idle =
        record {
          leave = leaves f x m held (Some item) kid has calm empty;
          item = item;
          home = has.own;
          start = on.start;
          fit = on.fit;
          goes_on = on.goes_on;
          bound = bound;
          some_child = some;
          different = different;
          idle = idle;
        }

    -- or finish it with a completion, below the root
    pub tends-finishes : (item : P) (phase : CallbackPhase) → Tends f x held (Some item) kid m → held.phase ≡ Some phase →
        is_settled phase ≡ true → cargo.least item ≤ held.named → cargo.start item ≡ held.start →
        cargo.fits item x.node (has_seen f.tree m.0 x || held.told) → cargo.ends item → CanFinish cargo f m x
    tends-finishes item phase has read settled bound start fit ends =
        let end : CanEnd cargo f m x = record {
          leave = leaves f x m held (Some item) kid has calm empty;
          phase = subst (λ p. MatchOption p ⊥ (λ known. is_settled known ≡ true)) (sym read) settled;
          bound = λ other home.
              subst (λ i. cargo.least i ≤ held.named) (inside-same item other (sym has.own ∙ home)) bound;
        } in
        record { end = end; completes = λ below. record { item = item; home = has.own; start = start; fit = fit; ends = ends } }
      where
        inside-same : (a b : P) → Some (Some a) ≡ Some (Some b) → a ≡ b
        inside-same a b e = cc

    -- or finish the root, whose home is empty
    pub root-finishes : (phase : CallbackPhase) → Tends f x held None kid m → held.phase ≡ Some phase →
        is_settled phase ≡ true → is_root f.tree x.node ≡ true → CanFinish cargo f m x
    root-finishes phase has read settled root =
        record {
          end = record {
            leave = leaves f x m held None kid has calm empty;
            phase = subst (λ p. MatchOption p ⊥ (λ known. is_settled known ≡ true)) (sym read) settled;
            bound = λ other home. absurd (none-full other (sym has.own ∙ home));
          };
          completes = λ below. absurd (both_ways (is_root f.tree x.node) below root);
        }
      where
        none-full : (a : P) → Some None ≡ Some (Some a) → ⊥
        none-full a e = cc

module _ {P E O : Type 0} (f : Frame O) (x : Name) (m m' : Seated P E) (i read left : ℕ) where
  pub rested-calm : RestsAt (aimed f x) i read left m m' → IsCalm m → IsCalm m'
  rested-calm did calm = ap (λ (z : Seated P E). z.0.scans) did.me_is ∙ calm

  -- a node's children that an await named are owed
  module _ (cargo : Ghosts P E O) (nodes : List ℕ) (did : AwaitsAt cargo (aimed f x) nodes i read left m m') where
    pub awaited-calm : IsCalm m → IsCalm m'
    awaited-calm calm = ap (λ (z : Seated P E). z.0.scans) did.me_is ∙ calm

    abbrev pub owed_below : ℕ → P → Owed E
    owed_below n item = record { name = beside x n; above = cargo.start item; lot = cargo.lot item }

    named-owed : (start : List E) (lot : List ℤ) (ns : List ℕ) (owed : List (Owed E)) (n : ℕ) → is_named ns n ≡ true →
        find_by (λ (e : Owed E). e.name) (owes_each x start lot ns owed) (beside x n)
        ≡ Some (record { name = beside x n; above = start; lot = lot })
    named-owed start lot [] owed n named = cc
    named-owed start lot (k ∷ ks) owed n named =
        let first : Owed E = record { name = beside x k; above = start; lot = lot } in
        let more = find_by (λ (e : Owed E). e.name) (owes_each x start lot ks owed) (beside x n) in
        either (k == n)
        (λ t.
        let is : k ≡ n = eqb-true k n t in
        cond-true (same (beside x k) (beside x n)) (Some first) more
        (ap (λ j. same (beside x j) (beside x n)) is ∙ same-refl (beside x n))
        ∙ ap (λ j. Some (record { name = beside x j; above = start; lot = lot })) is)
        (λ f.
        either (same (beside x k) (beside x n))
        (λ t. absurd (both_ways (k == n) f (eq-eqb k n (ap (λ y. y.node) (same-true (beside x k) (beside x n) t)))))
        (λ other.
        cond-false (same (beside x k) (beside x n)) (Some first) more other
        ∙ named-owed start lot ks owed n (ap (λ b. b || is_named ks n) (sym f) ∙ named)))

    -- the slot of a child that was named isn't given back
    named-stays : (n : ℕ) → HasPlaces f x → is_child f.tree x.node n ≡ true → is_named nodes n ≡ true →
        is_unnamed f.tree f.layout x nodes (place_number f.layout x.block n) ≡ false
    named-stays n places child named =
        let slot = place_number f.layout x.block n in
        ap (λ b. b || list_any (λ q. not (is_named nodes q) && place_number f.layout x.block q == slot) (kids_of f.tree x.node))
        (kid-apart f x places n child)
        ∙ none (kids_of f.tree x.node) (all-kids f.tree x.node (length f.tree))
      where
        and-none : (b : Bool) → (b && false) ≡ false
        and-none true = refl
        and-none false = refl

        none : (ns : List ℕ) → Each (λ q. is_child f.tree x.node q ≡ true) ns →
            list_any (λ q. not (is_named nodes q) && place_number f.layout x.block q == place_number f.layout x.block n) ns ≡ false
        none [] all = refl
        none (q ∷ qs) all =
            let slot = place_number f.layout x.block n in
            let more = list_any (λ k. not (is_named nodes k) && place_number f.layout x.block k == slot) qs in
            let here : (not (is_named nodes q) && place_number f.layout x.block q == slot) ≡ false =
            either (place_number f.layout x.block q == slot)
            (λ t.
            let is : q ≡ n = (same_from_place x.block q x.block n f.layout.nodes (kid-within f x places q all.0)
            (kid-within f x places n child) (eqb-true (place_number f.layout x.block q) slot t)).1 in
            ap (λ b. not b && place_number f.layout x.block q == slot) (ap (is_named nodes) is ∙ named))
            (λ no. ap (λ b. not (is_named nodes q) && b) no ∙ and-none (not (is_named nodes q))) in
            ap (λ b. b || more) here ∙ none qs all.1

    pub awaited-owes : (held : Held E) (item : P) (kid : ℕ → Option P) (n : ℕ) → HasPlaces f x →
        Tends f x held (Some item) kid m → is_child f.tree x.node n ≡ true → is_named nodes n ≡ true →
        Owes f (beside x n) (owed_below n item) (kid n) m'
    awaited-owes held item kid n places has child named =
        let is : did.item ≡ item = inside-same did.item item (sym did.home ∙ has.own) in
        record {
          owes = ap (λ (z : Seated P E). find_by (λ (e : Owed E). e.name) z.0.owed (beside x n)) did.me_is
              ∙ named-owed (cargo.start did.item) (cargo.lot did.item) nodes m.0.owed n named
              ∙ ap (λ j. Some (owed_below n j)) is;
          home = ap (λ (z : Seated P E). kept (place_number f.layout x.block n) z.1) did.me_is
              ∙ kept-shed (is_unnamed f.tree f.layout x nodes) (place_number f.layout x.block n) m.1 (named-stays n places child named)
              ∙ has.kids n child;
        }
      where
        inside-same : (a b : P) → Some (Some a) ≡ Some (Some b) → a ≡ b
        inside-same a b e = cc

  -- a node that was finished is owed its report
  module _ (cargo : Ghosts P E O) (did : FinishedAt cargo (aimed f x) i read left m m') where
    pub finished-calm : IsCalm m → IsCalm m'
    finished-calm calm = ap (λ (z : Seated P E). z.0.scans) did.me_is ∙ calm

    pub finished-owes : OwesReport x (record { name = x; start = cargo.start did.item; item = did.item }) m'
    finished-owes =
        ap (λ (z : Seated P E). find_by (λ (e : Reported P E). e.name) z.0.reported x) did.me_is
        ∙ cond-true (same x x) (Some (record { name = x; start = cargo.start did.item; item = did.item }))
        (find_by (λ (e : Reported P E). e.name) m.0.reported x) (same-refl x)

    pub finished-beside : (y : Name) (owed : Owed E) (inside : Option P) → is_of_family f.tree f.layout x (slot_of f.layout y) ≡ false →
        Owes f y owed inside m → Owes f y owed inside m'
    finished-beside y owed inside apart has =
        record {
          owes = ap (λ (z : Seated P E). find_by (λ (e : Owed E). e.name) z.0.owed y) did.me_is ∙ has.owes;
          home = ap (λ (z : Seated P E). kept (slot_of f.layout y) z.1) did.me_is
              ∙ kept-shed (is_of_family f.tree f.layout x) (slot_of f.layout y) m.1 apart ∙ has.home;
        }

  -- a finished root can be given back, where its home was empty
  module _ (did : RootedAt (aimed f x) i read left m m') where
    pub rooted-calm : IsCalm m → IsCalm m'
    rooted-calm calm = ap (λ (z : Seated P E). z.0.scans) did.me_is ∙ calm

    pub rooted-releases : (held : Held E) (kid : ℕ → Option P) → HasPlaces f x → Tends f x held None kid m →
        CanRelease f.layout m' x
    rooted-releases held kid places has =
        record {
          finished = ap (λ (z : Seated P E). has_name z.0.finished x) did.me_is
              ∙ ap (λ b. b || has_name m.0.finished x) (same-refl x);
          home = ap (λ (z : Seated P E). kept (slot_of f.layout x) z.1) did.me_is
              ∙ kept-shed (is_of_kids f.tree f.layout x) (slot_of f.layout x) m.1 (not-of-kids f x places) ∙ has.own;
        }

-- a hand that makes no scan can report what it owes
pub owes-reports : {P E : Type 0} (tree : List TreeNode) (child : Name) (parent : ℕ) (entry : Reported P E) (m : Seated P E) →
    parent_of tree child.node ≡ Some parent → OwesReport child entry m → IsCalm m → CanReport tree m.0 child
owes-reports tree child parent entry m is owes calm =
    record {
      parent = parent;
      parent_is = is;
      entry = entry;
      owes = owes;
      unscanned = ap (λ s. scan_in s (Node (beside child parent))) calm;
    }

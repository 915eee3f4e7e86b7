-- The sets of what a hand remembers, after a name came or went, and that of the starts that it owes.
use Rattle.std.proofs.Common.{◌≡◌, ℕ, ◌+◌, ◌*◌, ◌/◌, ◌<◌, ◌≤◌, Bool, true, not, ◌&&◌, ◌||◌, List, [], ◌∷◌, refl, sym, ap, ◌∙◌, subst, arith}
use Rattle.std.specs.Prelude.{Option, Some, None, MatchOption}
use Rattle.std.proofs.lemmas.Bool.{false_from_ne_true, cond-true, cond-false}
use Rattle.std.proofs.Math.Nat.{mul-div_cancel_left}
use Rattle.life_rules.specs.declared.event.Name.{Name}
use Rattle.common_lemmas.specs.Sums.{one}
use Rattle.life_rules.specs.Views.{same, lose}
use Rattle.common_lemmas.proofs.Bool.{either, one-is}
use Rattle.life_rules.proofs.Names.{same-true, same-refl}
use Rattle.table_words.specs.declared.layout.Layout.{Layout}
use Rattle.table_words.specs.Layouts.{words_in, places_in}
use Rattle.atomic_table.specs.Seated.{TableId}
use Rattle.atomic_table.specs.declared.shared.Seat.{Seat}
use Rattle.name_set.specs.Sets.{Marks, has, IsPlaceOf, IsOfItsBlock, IsEmpty, IsLowest}
use Rattle.name_set.proofs.Places.{had}
use Rattle.table_rules.specs.declared.view.View.{View}
use Rattle.table_rules.specs.declared.view.Owed.{Owed}
use Rattle.table_rules.specs.Named.{count_by, find_by, Each}
use Rattle.table_steps.specs.Owing.{Owes, OwesNoneThere, AreOfItsBlock}
use Rattle.table_steps.specs.Views.{Board, IsPlaceIn}
use Rattle.table_steps.specs.Remembers.{HasExactly, Remembers, OwesAndRunsNone, ArePlacesOf}
use Rattle.table_kept.proofs.Entries.{found}
use Rattle.table_kept.proofs.Awaiting.{one-apart}

-- the places of a table tell its layout
pub record AreAlike (l m : Layout) : Type 0 where
  pub blocks : l.blocks ≡ m.blocks
  pub nodes : l.nodes ≡ m.nodes

pub alike : (l m : Layout) → 1 ≤ l.blocks → words_in l ≡ words_in m → places_in l ≡ places_in m → AreAlike l m
alike l m some words places =
    let blocks : l.blocks ≡ m.blocks = omega (arith, words, places) in
    let both : l.blocks * l.nodes ≡ l.blocks * m.nodes = places ∙ ap (λ b. b * m.nodes) (sym blocks) in
    record {
      blocks = blocks;
      nodes = sym (mul-div_cancel_left l.nodes {n = l.blocks} (omega (arith, some)))
          ∙ ap (λ p. p / l.blocks) both ∙ mul-div_cancel_left m.nodes {n = l.blocks} (omega (arith, some));
    }

-- the table has a word and a home for each place
pub record IsLaid {O : Type 0} (board : Board O) : Type 0 where
  pub words : board.table_id.words ≡ words_in board.frame.layout
  pub slots : board.table_id.slots ≡ places_in board.frame.layout

-- what holds of the name of each entry holds of each name that counts
pub counted : {A : Type 0} (name : A → Name) (Q : Name → Type 0) (l : List A) (x : Name) → Each (λ e. Q (name e)) l →
    1 ≤ count_by name l x → Q x
counted name Q [] x all some = absurd (omega (arith, some))
counted name Q (e ∷ es) x all some =
    either (same (name e) x)
    (λ t. subst Q (same-true (name e) x t) all.0)
    (λ f. let none : one (same (name e) x) ≡ 0 = ap one f in counted name Q es x all.1 (omega (arith, some, none)))

-- a name that counts has an entry
found-one : {E : Type 0} (owed : List (Owed E)) (x : Name) → 1 ≤ count_by (λ e. e.name) owed x →
    (e : Owed E) × (find_by (λ e. e.name) owed x ≡ Some e)
found-one [] x some = absurd (omega (arith, some))
found-one (e ∷ es) x some =
    either (same e.name x)
    (λ t. (e, cond-true (same e.name x) (Some e) (find_by (λ e. e.name) es x) t))
    (λ f.
    let none : one (same e.name x) ≡ 0 = ap one f in
    let more = found-one es x (omega (arith, some, none)) in
    (more.0, cond-false (same e.name x) (Some e) (find_by (λ e. e.name) es x) f ∙ more.1))

-- a list that counts no name is empty
empty-list : {E : Type 0} (owed : List (Owed E)) → ((x : Name) → count_by (λ e. e.name) owed x ≡ 0) → owed ≡ []
empty-list [] none = refl
empty-list (e ∷ es) none =
    let here = none e.name in
    let o : one (same e.name e.name) ≡ 1 = ap one (same-refl e.name) in
    absurd (omega (arith, here, o))

-- a set of the names that count
module _ {table : TableId} {count : Name → ℕ} {set : Marks} (old : HasExactly table count set) where
  pub counts-some : (y : Name) → has set y ≡ true → 1 ≤ count y
  counts-some y h = let n = old.names y in let o : one (has set y) ≡ 1 = ap one h in omega (arith, n, o)

  pub has-counted : (x : Name) → 1 ≤ count x → has set x ≡ true
  has-counted x c = let n = old.names x in one-is (omega (arith, c, n))

  module _ {O : Type 0} (board : Board O) (laid : IsLaid board) (table_is : table ≡ board.table_id) where
    abbrev l : Layout
    l = board.frame.layout

    words : words_in l ≡ words_in set.layout
    words = sym laid.words ∙ ap (λ t. t.words) (sym table_is) ∙ old.words

    slots : places_in l ≡ places_in set.layout
    slots = sym laid.slots ∙ ap (λ t. t.slots) (sym table_is) ∙ old.slots

    -- a place of the table is one of the set's
    pub place-here : (x : Name) → IsPlaceIn board x → IsPlaceOf set.layout x
    place-here x place =
        let block = place.block in
        let a = alike l set.layout (omega (arith, block)) words slots in
        record { block = subst (λ n. x.block < n) a.blocks block; node = subst (λ n. x.node < n) a.nodes place.node }

    -- and of these nodes of a block
    pub places-here : (block : ℕ) (nodes : List ℕ) → ArePlacesOf l block nodes → ArePlacesOf set.layout block nodes
    places-here block nodes places =
        let within = places.within in
        let a = alike l set.layout (omega (arith, within)) words slots in
        record {
          within = subst (λ n. block < n) a.blocks within;
          each = λ n named. subst (λ m. n < m) a.nodes (places.each n named);
        }

    -- what the set has is a place of the table
    pub place-there : (x : Name) → has set x ≡ true → IsPlaceIn board x
    place-there x h =
        let place = (had set x h).place in
        let block = place.block in
        let a = alike set.layout l (omega (arith, block)) (sym words) (sym slots) in
        record { block = subst (λ n. x.block < n) a.blocks block; node = subst (λ n. x.node < n) a.nodes place.node }

    pub tells-place : (o : Option Name) → MatchOption o (IsEmpty set) (IsLowest set) → MatchOption o (Unit {0}) (IsPlaceIn board)
    tells-place None empty = tt
    tells-place (Some x) lowest = place-there x lowest.found

  module _ (new : TableId) (later : Name → ℕ) (table_is : new ≡ table) where
    -- the same names count
    pub exactly-still : ((y : Name) → later y ≡ count y) → HasExactly new later set
    exactly-still counts =
        record {
          words = ap (λ t. t.words) table_is ∙ old.words;
          slots = ap (λ t. t.slots) table_is ∙ old.slots;
          names = λ y. counts y ∙ old.names y;
        }

    module _ (after : Marks) (layout : after.layout ≡ set.layout) where
      exactly : ((y : Name) → later y ≡ one (has after y)) → HasExactly new later after
      exactly names =
          record {
            words = ap (λ t. t.words) table_is ∙ old.words ∙ ap words_in (sym layout);
            slots = ap (λ t. t.slots) table_is ∙ old.slots ∙ ap places_in (sym layout);
            names = names;
          }

      -- names came that didn't count
      pub exactly-more : (more : Name → Bool) → ((y : Name) → later y ≡ count y + one (more y)) →
          ((y : Name) → more y ≡ true → count y ≡ 0) → ((y : Name) → has after y ≡ (more y || has set y)) →
          HasExactly new later after
      exactly-more more counts apart is =
          exactly (λ y.
          let c = counts y in
          let n = old.names y in
          let sum = one-apart (more y) (has set y)
          (λ t.
          false_from_ne_true (has set y) (λ h. let none = apart y t in let some = counts-some y h in absurd (omega (arith, none, some)))) in
          let a : one (has after y) ≡ one (more y || has set y) = ap one (is y) in
          omega (arith, c, n, sum, a))

      -- a name went
      pub exactly-less : (x : Name) → has set x ≡ true → ((y : Name) → later y ≡ lose x count y) →
          ((y : Name) → has after y ≡ (not (same x y) && has set y)) → HasExactly new later after
      exactly-less x had_it counts is =
          exactly (λ y.
          let c = counts y in
          let n = old.names y in
          let a : one (has after y) ≡ one (not (same x y) && has set y) = ap one (is y) in
          either (same x y)
          (λ t.
          let o : one (same x y) ≡ 1 = ap one t in
          let here : one (has set y) ≡ 1 = ap (λ z. one (has set z)) (sym (same-true x y t)) ∙ ap one had_it in
          let gone : one (not (same x y) && has set y) ≡ 0 = ap (λ b. one (not b && has set y)) t in
          omega (arith, c, n, a, o, here, gone))
          (λ f.
          let o : one (same x y) ≡ 0 = ap one f in
          let stays : one (not (same x y) && has set y) ≡ one (has set y) = ap (λ b. one (not b && has set y)) f in
          omega (arith, c, n, a, o, stays)))

-- an empty set, for a list that is empty
none-yet : {A O : Type 0} (board : Board O) (laid : IsLaid board) (name : A → Name) (table : TableId) (l : List A) (set : Marks) →
    table ≡ board.table_id → l ≡ [] → set.layout ≡ board.frame.layout → IsEmpty set → HasExactly table (count_by name l) set
none-yet board laid name table l set table_is none layout empty =
    record {
      words = ap (λ t. t.words) table_is ∙ laid.words ∙ ap words_in (sym layout);
      slots = ap (λ t. t.slots) table_is ∙ laid.slots ∙ ap places_in (sym layout);
      names = λ x. ap (λ z. count_by name z x) none ∙ sym (ap one (empty x));
    }

-- a hand that owes and runs nothing remembers that by empty sets
pub remembers-none : {P E O : Type 0} (board : Board O) (laid : IsLaid board) (seat : Seat (Option P) (View P E)) (starts callbacks : Marks) →
    OwesAndRunsNone board seat → starts.layout ≡ board.frame.layout → IsEmpty starts → callbacks.layout ≡ board.frame.layout →
    IsEmpty callbacks → Remembers seat starts callbacks
remembers-none board laid seat starts callbacks has_none first no_start second no_run =
    record {
      owed = none-yet board laid (λ e. e.name) seat.table_id seat.me.0.owed starts has_none.table_is has_none.owed first no_start;
      runs = none-yet board laid (λ y. y) seat.table_id seat.me.0.runs callbacks has_none.table_is has_none.runs second no_run;
    }

-- the set of the starts that are owed
module _ {P E : Type 0} {runs : Marks} (seat : Seat (Option P) (View P E)) (set : Marks) (old : Remembers seat set runs) where
  abbrev v : View P E
  v = seat.me.0

  -- the names of a block in the set are of the generation of which the view's are
  pub of-its_block : (x : Name) → AreOfItsBlock v x → IsOfItsBlock set x
  of-its_block x all y h =
      counted (λ e. e.name) (λ z. z.block ≡ x.block → z.generation ≡ x.generation) v.owed y all (counts-some old.owed y h)

  pub none-of_block : (x : Name) → OwesNoneThere v x → IsOfItsBlock set x
  none-of_block x none y h at =
      absurd (counted (λ e. e.name) (λ z. z.block ≡ x.block → ⊥) v.owed y none (counts-some old.owed y h) at)

  -- what is owed is in the set
  pub has-owed : (x : Name) → Owes v x → has set x ≡ true
  has-owed x o = has-counted old.owed x (found (λ e. e.name) v.owed x o.owed o.owes).counts

  -- and what is in the set is owed
  pub tells-owed : (o : Option Name) → MatchOption o (IsEmpty set) (IsLowest set) → MatchOption o (v.owed ≡ []) (Owes v)
  tells-owed None empty = empty-list v.owed (λ x. old.owed.names x ∙ ap one (empty x))
  tells-owed (Some x) lowest =
      let f = found-one v.owed x (counts-some old.owed x lowest.found) in record { owed = f.0; owes = f.1 }

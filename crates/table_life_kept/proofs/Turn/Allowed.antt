-- A load by which a hand gives the slot of a home back, and takes it again as the first, keeps the rule.
use Rattle.std.proofs.Common.{◌≡◌, ◌≢◌, ℕ, ◌<◌, Bool, true, false, ◌==◌, cond, List, [], ◌∷◌, length, set, Option, Some, None, refl, sym, ap, ◌∙◌, subst, arith, length-set}
use Rattle.std.specs.Prelude.{slice_index}
use Rattle.std.proofs.lemmas.Bool.{both_ways, cond-true, cond-false, eqb-true, eq-eqb}
use mathlib.Core.Option as maybe
use lib.ListN.{get_elem?}
use Rattle.life_rules.specs.declared.event.Name.{Name}
use Rattle.common_lemmas.proofs.Bool.{either}
use Rattle.table_words.specs.Layouts.{place_number}
use Rattle.atomic_table.specs.Table.{Allows, takes, chain}
use Rattle.atomic_table.specs.Table as table
use Rattle.atomic_table.proofs.Lists.{set_here, set_else}
use Rattle.table_rules.specs.declared.cargo.Cargo.{Ghosts}
use Rattle.table_rules.specs.declared.frame.Frame.{Frame}
use Rattle.table_rules.specs.declared.view.View.{View}
use Rattle.table_rules.specs.Named.{Each}
use Rattle.table_rules.specs.ShownWords.{is_there}
use Rattle.table_rules.specs.Scenes.{Empty, home_in, scene}
use Rattle.table_rules.specs.Running.{Stands, Running}
use Rattle.table_steps.specs.Views.{aimed}
use Rattle.table_steps.specs.Claims.{logged}
use Rattle.table_steps.specs.Seats.{Seated}
use Rattle.table_steps.specs.Slots.{Aim, slot_of, has_slot, kept, IsSeated}
use Rattle.table_steps.specs.Sheds.{shed}
use Rattle.table_steps.specs.Releases.{is_own_slot}
use Rattle.table_steps.specs.Swaps.{HasHome, TurnsTo}
use Rattle.table_kept.proofs.Standing.{Standing}
use Rattle.table_kept.proofs.Listing.{AllowsListed, allows-listed, lists-one}
use Rattle.table_kept.proofs.Loads.{looks_keep}
use Rattle.table_kept.proofs.SlotsOut.{slot-out, slot-within}
use Rattle.table_life_kept.proofs.Shedding.{sheds, shed_home, carries-shed, deep-shed, shed-at}
use Rattle.table_life_kept.proofs.ShedHomes.{ToShed, shed_homes, carried-within, valid-shed, kept-each, out-is}
use Rattle.table_kept.proofs.ShedSeats.{each-shed, apart-shed}

-- what stays of the slots is apart from the one that went
apart-gone : {S : Type 0} (slot : ℕ) (c : List (ℕ × S)) → Each (λ d. d.0 ≢ slot) (shed (λ k. slot == k) c)
apart-gone slot [] = tt
apart-gone {S} slot (d ∷ ds) =
    either (slot == d.0)
    (λ t. subst (Each (λ (e : ℕ × S). e.0 ≢ slot)) (sym (cond-true (slot == d.0) (shed (λ k. slot == k) ds) (d ∷ shed (λ k. slot == k) ds) t)) (apart-gone slot ds))
    (λ f. subst (Each (λ (e : ℕ × S). e.0 ≢ slot)) (sym (cond-false (slot == d.0) (shed (λ k. slot == k) ds) (d ∷ shed (λ k. slot == k) ds) f))
    ((λ e. both_ways (slot == d.0) f (eq-eqb slot d.0 (sym e))), apart-gone slot ds))

-- which slot the hand gives back and takes again
pub record ToTurn {P E O : Type 0} {cargo : Ghosts P E O} {f : Frame O}
    (hand : Standing cargo f) : Type 0 where
  pub cell : ℕ
  pub name : Name
  pub carried : List (ℕ × Option P)
  pub seated : IsSeated f.tree f.layout (hand.view, carried)
  pub inside : Option P
  pub has : kept (slot_of f.layout name) carried ≡ Some inside

module _ {P E O : Type 0} (cargo : Ghosts P E O) (f : Frame O) (hand : Standing cargo f)
    (task : ToTurn hand) where
  open hand use {state as s, id, view as v, running as r, at}
  open task use {cell as i, name as x, carried as c, seated, inside, has}

  abbrev slot : ℕ
  slot = slot_of f.layout x

  abbrev gone : ℕ → Bool
  gone = is_own_slot f.layout x

  abbrev shedding : ToShed hand
  shedding = record { carried = c; seated = seated; gone = gone }

  abbrev given : List (maybe.Option (Option P))
  given = shed_homes cargo f hand shedding

  abbrev turned : List (maybe.Option (Option P))
  turned = set given slot maybe.none

  mine : has_slot f.tree f.layout v slot ≡ true
  mine = kept-each (λ k. has_slot f.tree f.layout v k ≡ true) slot inside c seated.given has

  deep : length given ≡ length s.homes
  deep = deep-shed gone s.homes c

  within : slot < length given
  within =
      let l = slot-within cargo f hand slot mine in
      let h = r.sized.homes in
      let d = deep in omega (arith, l, h, d)

  at-slot : (k : ℕ) → get_elem? given k ≡ shed_home (gone k) (kept k c) (get_elem? s.homes k)
  at-slot = shed-at gone s.homes c seated.apart (carried-within cargo f hand shedding)

  pub turn-valid : table.Valid s.homes c (chain (sheds gone c) (takes slot inside))
  turn-valid = (
    valid-shed cargo f hand shedding,
    at-slot slot ∙ (λ k. shed_home (eq-eqb slot slot refl k) (has k) (get_elem? s.homes slot)),
  )

  -- each home is as it was
  home-same : (k : ℕ) → home_in (get_elem? turned k) ≡ home_in (get_elem? s.homes k)
  home-same k =
      either (slot == k)
      (λ t.
      subst (λ j. home_in (get_elem? turned j) ≡ home_in (get_elem? s.homes j)) (eqb-true slot k t)
      (ap home_in (set_here given slot maybe.none within)
      ∙ sym (out-is (home_in (get_elem? s.homes slot)) (slot-out cargo f hand slot mine))))
      (λ ne.
      ap home_in (set_else given slot k maybe.none (λ e. both_ways (slot == k) ne (eq-eqb slot k (sym e))) ∙ at-slot k)
      ∙ ap (λ b. home_in (shed_home b (kept k c) (get_elem? s.homes k))) ne ∙ other k (kept k c) refl)
    where
      other : (k : ℕ) (o : Option (Option P)) → kept k c ≡ o → home_in (shed_home false o (get_elem? s.homes k)) ≡ home_in (get_elem? s.homes k)
      other k None is = refl
      other k (Some y) is =
          sym (out-is (home_in (get_elem? s.homes k))
          (slot-out cargo f hand k (kept-each (λ j. has_slot f.tree f.layout v j ≡ true) k y c seated.given is)))

  pub turn-runs : Running cargo f record {
    words = set s.words i (slice_index s.words i);
    homes = turned;
    views = set s.views id (logged i (slice_index s.words i) v);
  }
  turn-runs =
      let n = slice_index s.words i in
      let looked = looks_keep cargo f s id i v r at in
      let before : table.State (Option P) (View P E) = record { words = set s.words i n; homes = s.homes; views = set s.views id (logged i n v) } in
      let later : table.State (Option P) (View P E) = record { words = set s.words i n; homes = turned; views = set s.views id (logged i n v) } in
      let same : scene f later looked.past ≡ scene f before looked.past =
      λ k. record {
        state = (scene f before looked.past).state;
        home = λ j m. cond (is_there f.layout j m) (home-same (place_number f.layout j m) k) Empty;
        past = looked.past;
      } in
      record {
        frame = looked.frame;
        sized = record {
          words = looked.sized.words;
          homes = length-set given slot maybe.none ∙ deep ∙ r.sized.homes;
          seats = looked.sized.seats;
        };
        stamped = record {
          control = looked.stamped.control;
          callback = looked.stamped.callback;
          source = looked.stamped.source;
          settled = looked.stamped.settled;
          quiet = looked.stamped.quiet;
          renewed = looked.stamped.renewed;
          rises = looked.stamped.rises;
          scope = looked.stamped.scope;
        };
        past = looked.past;
        stands = subst (λ z. Stands cargo f.over.value z (set s.views id (logged i n v))) (sym same) looked.stands;
      }

  pub turn-seated : (n : ℕ) → IsSeated f.tree f.layout (logged i n v, (slot, inside) ∷ shed gone c)
  turn-seated n =
      record {
        apart = (apart-gone slot c, apart-shed gone c seated.apart);
        given = (
          mine,
          each-shed (λ d. has_slot f.tree f.layout v d.0 ≡ true) (λ d. has_slot f.tree f.layout (logged i n v) d.0 ≡ true) gone c
              (λ d _ k. k) seated.given,
        );
        itself = seated.itself;
      }

-- what the load owes
turns_allowed : {P E O : Type 0} (cargo : Ghosts P E O) (f : Frame O) (slots id i : ℕ) (x : Name) (m : Seated P E) →
    IsSeated f.tree f.layout m → HasHome f.layout m x →
    Allows (Running cargo f) slots id m i (λ n. n) (λ n. TurnsTo (aimed f x) i n m)
turns_allowed {P} {E} cargo f slots id i x m seated has s r _ at _ =
    let hand : Standing cargo f = record { state = s; id = id; view = m.0; running = r; at = at } in
    let n = slice_index s.words i in
    let gone = is_own_slot f.layout x in
    let slot = slot_of f.layout x in
    let inside = has.inside in
    let turning : ToTurn hand = record {
      cell = i;
      name = x;
      carried = m.1;
      seated = seated;
      inside = inside;
      has = has.home;
    } in
    let mine : View P E = logged i n m.0 in
    let is = carries-shed gone m.1 in (
      mine,
      chain (sheds gone m.1) (takes slot inside),
      turn-valid cargo f hand turning,
      turn-runs cargo f hand turning,
      record {
        inside = inside;
        home = has.home;
        me_is = λ k. (mine, (slot, inside) ∷ is k);
        seated = subst (λ d. IsSeated f.tree f.layout (mine, (slot, inside) ∷ d)) (sym is)
            (turn-seated cargo f hand turning n);
      },
    )

-- by the frame that the table shows
pub turns-at : {P E O : Type 0} (cargo : Ghosts P E O) (board f : Frame O) (slots id i : ℕ) (x : Name) (aim : Aim) (m : Seated P E) →
    board ≡ f → aim ≡ aimed board x → IsSeated board.tree board.layout m → HasHome board.layout m x →
    AllowsListed cargo f slots id m i (λ n. n) (λ n. TurnsTo aim i n m)
turns-at cargo board f slots id i x aim m same aim_is seated has =
    allows-listed cargo f slots id m i (λ n. n) (λ n. TurnsTo aim i n m)
    (λ n m' told. lists-one i n n m m' m.0 (ap (λ z. z.0) told.me_is) refl refl refl refl)
    (subst (λ z. Allows (Running cargo z) slots id m i (λ n. n) (λ n. TurnsTo aim i n m)) same
    (subst (λ z. Allows (Running cargo board) slots id m i (λ n. n) (λ n. TurnsTo z i n m)) (sym aim_is)
    (turns_allowed cargo board slots id i x m seated has)))

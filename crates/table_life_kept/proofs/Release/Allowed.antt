-- What the store by which a block is given back owes, and what it tells.
use Rattle.std.specs.Prelude.{slice_index}
use Rattle.std.proofs.Common.{◌≡◌, inl, inr, ℕ, ◌-◌, ◌<◌, true, false, ◌||◌, ◌==◌, List, [], ◌∷◌, length, set, Option, arith, refl, sym, ap, ◌∙◌, subst}
use Rattle.std.specs.List.{list_any}
use Rattle.std.proofs.lemmas.Bool.{both_ways, and_from, cond-true, eq-eqb, lt-ltb}
use mathlib.Core.Option as maybe
use lib.ListN.{get_elem?}
use Rattle.life_rules.specs.declared.words.BlockWord.{BlockWord}
use Rattle.node_tree.specs.declared.node.TreeNode.{TreeNode}
use Rattle.life_rules.specs.declared.event.Name.{Name}
use Rattle.life_rules.specs.Words.{is_open}
use Rattle.table_words.specs.declared.layout.Layout.{Layout}
use Rattle.table_words.specs.Blocks.{block_read}
use Rattle.table_words.specs.Layouts.{OfBlock, index, place_number}
use Rattle.table_words.proofs.Spots.{place-within}
use Rattle.atomic_table.specs.Table.{Allows}
use Rattle.atomic_table.proofs.Lists.{set_here}
use Rattle.table_rules.specs.declared.cargo.Cargo.{Ghosts}
use Rattle.table_rules.specs.declared.frame.Frame.{Frame}
use Rattle.table_rules.specs.declared.view.View.{View}
use Rattle.table_rules.specs.Named.{without}
use Rattle.table_rules.specs.Running.{Running}
use Rattle.table_rules.specs.Scenes.{Empty, home_in}
use Rattle.table_rules.specs.ShownWords.{block_of, is_there}
use Rattle.table_steps.specs.Views.{aimed}
use Rattle.table_steps.specs.Claims.{with_step}
use Rattle.table_steps.specs.Seats.{Seated}
use Rattle.table_steps.specs.Slots.{Aim, slot_of, is_of_family, has_slot, IsSeated}
use Rattle.table_steps.specs.Sheds.{shed}
use Rattle.table_steps.specs.Releases.{releases, is_own_slot, CanRelease, ReleasesAt, open_at, word_after, LeftEmpty, StayEmpty, TellsRelease, LeavesBlock}
use Rattle.table_kept.proofs.Standing.{Standing}
use Rattle.table_kept.proofs.Listing.{AllowsListed, allows-listed, lists-one}
use Rattle.table_kept.proofs.Entries.{any-without}
use Rattle.table_kept.proofs.BeginSeats.{or-left, or-right, or-cases}
use Rattle.table_life_kept.proofs.Shedding.{sheds, carries-shed}
use Rattle.table_life_kept.proofs.ShedHomes.{ToShed, valid-shed}
use Rattle.table_kept.proofs.ShedSeats.{each-shed, apart-shed}
use Rattle.table_kept.proofs.HomeMoves.{empty-home}
use Rattle.table_kept.proofs.Seats.{at_within}
use Rattle.table_life_kept.proofs.OpenBlocks.{next-closed}
use Rattle.table_life_kept.proofs.Release.Moves.{block-released}
use Rattle.table_life_kept.proofs.Release.Runs.{ToRelease, hb, word-next, release-runs, found-open}

-- another slot is still given to the hand
given-released : {P E : Type 0} (tree : List TreeNode) (l : Layout) (x : Name) (i n left : ℕ) (v : View P E) (slot : ℕ) →
    is_own_slot l x slot ≡ false → has_slot tree l v slot ≡ true → has_slot tree l (with_step i n left (releases x v)) slot ≡ true
given-released tree l x i n left v slot stays h =
    let a = list_any (λ e. slot_of l e.name == slot) v.owed in
    let b = list_any (λ e. is_of_family tree l e.name slot) v.held in
    let c = list_any (λ y. slot_of l y == slot) v.finished in
    let c2 = list_any (λ y. slot_of l y == slot) (without (λ z. z) v.finished x) in
    or-cases a (b || c) h
    (λ owed. or-left a (b || c2) owed)
    (λ more.
    or-right a (b || c2)
    (or-cases b c more
    (λ held. or-left b c2 held)
    (λ finished.
    elim (any-without (λ (z : Name). z) (λ y. slot_of l y == slot) v.finished x finished) [
      | inl still ↦ or-right b c2 still
      | inr here ↦ absurd (both_ways (is_own_slot l x slot) stays (ap (λ y. slot_of l y == slot) (sym here.1) ∙ here.2))
    ])))

seated-released : {P E : Type 0} (tree : List TreeNode) (l : Layout) (x : Name) (i n left : ℕ) (v : View P E) (c : List (ℕ × Option P)) →
    IsSeated tree l (v, c) → IsSeated tree l (with_step i n left (releases x v), shed (is_own_slot l x) c)
seated-released tree l x i n left v c old =
    record {
      apart = apart-shed (is_own_slot l x) c old.apart;
      given = each-shed (λ d. has_slot tree l v d.0 ≡ true) (λ d. has_slot tree l (with_step i n left (releases x v)) d.0 ≡ true)
          (is_own_slot l x) c (λ d stays. given-released tree l x i n left v d.0 stays) old.given;
      itself = old.itself;
    }

-- the root of a block at a generation
abbrev pub root_at : {O : Type 0} → Frame O → ℕ → ℕ → Name
root_at f b g = record { block = b; generation = g; node = length f.tree - 1 }

-- the homes of a block that isn't open are empty
pub stay-empty : {P E O : Type 0} (cargo : Ghosts P E O) (f : Frame O) (b : ℕ) → b < f.layout.blocks → StayEmpty cargo f b
stay-empty cargo f b below s r shut n hn =
    let there = and_from _ _ (lt-ltb b f.layout.blocks below) (lt-ltb n f.layout.nodes hn) in
    let home = home_in (get_elem? s.homes (place_number f.layout b n)) in
    let within = place-within f.layout b n below hn in
    let deep = r.sized.homes in
    empty-home s.homes (place_number f.layout b n) (omega (arith, within, deep))
    (sym (cond-true (is_there f.layout b n) home Empty there) ∙ r.stands.homes.closed b n shut)

-- the table that the store leaves has all homes of the block empty
module _ {P E O : Type 0} (cargo : Ghosts P E O) (f : Frame O) (hand : Standing cargo f)
    (task : ToRelease hand) where
  open hand use {state as s, id, view as v, running as r, at}
  open task use {value, block as b, generation as g, carried as c, seated, can, reads}

  abbrev m : Seated P E
  m = (v, c)

  now-reads : block_of f.layout (set s.words (index f.layout (OfBlock b)) value) b ≡ word_after g
  now-reads =
      let below = hb cargo f hand task in
      let next = word-next cargo f hand task in
      block-released f.layout s.words r.sized.words b value below next b
      ∙ cond-true (b == b) _ (block_of f.layout s.words b) (eq-eqb b b refl) ∙ sym next ∙ reads

  left-empty : (mine : View P E) (homes : List (maybe.Option (Option P))) (c : List (ℕ × Option P)) →
      Running cargo f record { words = set s.words (index f.layout (OfBlock b)) value; homes = homes; views = set s.views id mine } →
      LeftEmpty cargo f id b (word_after g) (mine, c)
  left-empty mine homes c runs =
      let below = hb cargo f hand task in
      record {
        left = _;
        runs = runs;
        view = set_here s.views id mine (at_within s.views id m.0 at);
        reads = now-reads;
        empty = stay-empty cargo f b below _ runs (ap (λ w. is_open w.state) now-reads ∙ next-closed (open_at g));
      }

-- what the store owes
pub releases_allowed : {P E O : Type 0} (cargo : Ghosts P E O) (f : Frame O) (slots id value b g : ℕ) (m : Seated P E) →
    IsSeated f.tree f.layout m → CanRelease f.layout m (root_at f b g) → block_read value ≡ word_after g →
    Allows (Running cargo f) slots id m (index f.layout (OfBlock b)) (λ _. value)
    (λ n. TellsRelease cargo (f ∷ []) id (aimed f (root_at f b g)) (index f.layout (OfBlock b)) n value m)
releases_allowed {P} {E} cargo f slots id value b g m seated can reads s r deep at small =
    let hand : Standing cargo f = record { state = s; id = id; view = m.0; running = r; at = at } in
    let releasing : ToRelease hand = record {
      value = value;
      block = b;
      generation = g;
      carried = m.1;
      seated = seated;
      can = can;
      reads = reads;
    } in
    let i = index f.layout (OfBlock b) in
    let x = root_at f b g in
    let gone = is_own_slot f.layout x in
    let shedding : ToShed hand = record { carried = m.1; seated = seated; gone = gone } in
    let n = slice_index s.words i in
    let mine : View P E = with_step i n value (releases x m.0) in
    let is = carries-shed gone m.1 in
    let runs = release-runs cargo f hand releasing n refl in (
      mine,
      sheds gone m.1,
      valid-shed cargo f hand shedding,
      runs,
      record {
        found = found-open cargo f hand releasing;
        did = record {
          me_is = λ k. (mine, is k);
          seated = subst (λ d. IsSeated f.tree f.layout (mine, d)) (sym is) (seated-released f.tree f.layout x i n value m.0 m.1 seated);
        };
        empty = (left-empty cargo f hand releasing mine _ _ runs, tt);
      },
    )

module _ {P E O : Type 0} (cargo : Ghosts P E O) where
  -- the store, by the frame that the table shows
  pub releases-at : (board f : Frame O) (slots id i value b g hand : ℕ) (aim : Aim) (frames : List (Frame O)) (m : Seated P E) → board ≡ f →
      i ≡ index board.layout (OfBlock b) → aim ≡ aimed board (root_at board b g) → frames ≡ board ∷ [] → hand ≡ id →
      IsSeated board.tree board.layout m → CanRelease board.layout m (root_at board b g) → block_read value ≡ word_after g →
      AllowsListed cargo f slots id m i (λ _. value) (λ n. TellsRelease cargo frames hand aim i n value m)
  releases-at board f slots id i value b g hand aim frames m same i_is aim_is frames_is hand_is seated can reads =
      allows-listed cargo f slots id m i (λ _. value) (λ n. TellsRelease cargo frames hand aim i n value m)
      (λ n m' told. lists-one i n value m m' _ (ap (λ z. z.0) told.did.me_is) refl refl refl refl)
      (subst (λ z. Allows (Running cargo z) slots id m i (λ _. value) (λ n. TellsRelease cargo frames hand aim i n value m)) same
      (subst (λ (z : ℕ × Aim × List (Frame O) × ℕ). Allows (Running cargo board) slots id m z.0 (λ _. value)
      (λ n. TellsRelease cargo z.2 z.3 z.1 z.0 n value m))
      (λ k. (sym i_is k, sym aim_is k, sym frames_is k, sym hand_is k))
      (releases_allowed cargo board slots id value b g m seated can reads)))

  pub releases-told : (board : Frame O) (i hand read value : ℕ) (now : BlockWord) (x : Name) (aim : Aim) (frames : List (Frame O)) (m m' : Seated P E) →
      i ≡ index board.layout (OfBlock x.block) → aim ≡ aimed board x → block_read value ≡ now →
      TellsRelease cargo frames hand aim i read value m m' → LeavesBlock (aimed board x) now m m'
  releases-told board i hand read value now x aim frames m m' i_is aim_is says told =
      record {
        read = read;
        left = value;
        found = subst (λ (a : Aim). block_read read ≡ open_at a.name.generation) aim_is told.found;
        says = says;
        did = subst (λ (z : ℕ × Aim). ReleasesAt z.1 z.0 read value m m') (λ k. (i_is k, aim_is k)) told.did;
      }

  pub empties-told : (board : Frame O) (i hand id read value : ℕ) (x : Name) (aim : Aim) (frames : List (Frame O)) (m m' : Seated P E) →
      aim ≡ aimed board x → frames ≡ board ∷ [] → hand ≡ id → TellsRelease cargo frames hand aim i read value m m' →
      LeftEmpty cargo board id x.block (word_after x.generation) m'
  empties-told board i hand id read value x aim frames m m' aim_is frames_is hand_is told =
      (subst (λ (z : Aim × List (Frame O) × ℕ). TellsRelease cargo z.1 z.2 z.0 i read value m m')
      (λ k. (aim_is k, frames_is k, hand_is k)) told).empty.0

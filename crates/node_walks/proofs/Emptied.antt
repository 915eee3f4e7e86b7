-- A root that was taken where it rested: its item comes out, it is finished, and its block is given back.
use Rattle.std.proofs.Common.{◌≡◌, ℕ, ◌+◌, ◌<◌, true, List, [], ◌∷◌, refl, sym, ap, ◌∙◌}
use Rattle.std.specs.Prelude.{◌≢◌, Option, Some, None, MatchOption}
use Rattle.std.proofs.lemmas.Bool.{cond-true, cond-false}
use Rattle.common_lemmas.proofs.Bool.{either}
use Rattle.life_rules.specs.declared.event.Name.{Name}
use Rattle.life_rules.specs.declared.words.CallbackPhase.{CallbackPhase}
use Rattle.life_rules.specs.declared.event.Resting.TheVariants as rest
use Rattle.life_rules.specs.declared.words.ControlWord.TheVariants.{Busy, Done as IsDone}
use Rattle.life_rules.specs.Views.{same}
use Rattle.life_rules.proofs.Names.{same-refl}
use Rattle.listed_words.specs.Lists.{entry}
use Rattle.plan_shape.specs.Blueprint.{Blueprint}
use Rattle.table_rules.specs.declared.view.Held.{Held}
use Rattle.table_rules.specs.declared.view.Rooted.{Rooted}
use Rattle.table_rules.specs.Named.{find_by, without}
use Rattle.table_steps.specs.declared.block.Block.{Block}
use Rattle.table_steps.specs.Views.{Board, aimed}
use Rattle.table_steps.specs.Claims.{root_name, logged, word_index}
use Rattle.table_steps.specs.Seats.{Seated}
use Rattle.table_steps.specs.Finishes.{is_settled, CanFinish, FinishesAt, RootedAt}
use Rattle.table_steps.specs.Lefts.{LeavesControl}
use Rattle.table_steps.specs.Releases.{CanRelease, ReleasesAt}
use Rattle.table_steps.specs.Steps.{control_index}
use Rattle.table_steps.specs.Swaps.{HasHome}
use Rattle.table_steps.specs.Takes.{rest_word, TakenAt}
use Rattle.op_slot.specs.Puts.{IsTakenOut}
use Rattle.op_slot.specs.Tends.{HasPlaces, Tends}
use Rattle.op_slot.proofs.Leaving.{tends-home, root-finishes, rooted-releases}
use Rattle.op_slot.proofs.Tending.{held_as, swapped-old, swapped-own, taken-tends}
use Rattle.home_items.specs.contracts.item.ItemCargo.TheImpl.{ghosts}
use Rattle.home_items.specs.declared.entry.Entry.{Entry}
use Rattle.home_items.specs.declared.item.Item.{Item}
use Rattle.home_items.specs.Entries.{plan_of}
use Rattle.exec_recv.specs.Areas.{MovesWithin}
use Rattle.exec_recv.specs.Asides.{Aside, aside_of, KeepsAside}
use Rattle.exec_recv.specs.Over.{IsOver}
use Rattle.exec_recv.proofs.Moves.{moves-look, moves-control, moves-on}
use Rattle.exec_recv.proofs.Asiding.{aside-on, aside-one}
use Rattle.node_walks.specs.Resting.{IsAtRest}
use Rattle.node_walks.specs.Emptied.{HasEmptyRoot, IsSettledRoot, SettlesRoot, LayAtRoot, IsOut, IsGivenBack, IsRootEmptied, WasNotReady, with_released}
use Rattle.node_walks.specs.Leaves.{LeavesAside}
use Rattle.node_walks.proofs.Growing.{Grows, grows-one, grows-on, leaves-with, aside-leaves, leaves-then}
use Rattle.node_walks.proofs.Tops.{root-is, root-hears, root-places}

abbrev at_held : Held Entry → Name
at_held e = e.name

-- a root that was finished is given back
abbrev gives_back : Name → Aside → Aside
gives_back root a =
    record a {
      finished = without (λ y. y) a.finished root;
      noted = without (λ (e : Rooted Entry). e.name) a.noted root;
      released = a.released + 1;
    }

none-some : {A : Type 0} (e : A) → None ≡ Some e → ⊥
none-some e is = cc

-- the one entry that is held is of the node that is found
found-name : (e : Held Entry) (l : List (Held Entry)) (x : Name) → l ≡ e ∷ [] → find_by at_held l x ≡ Some e → same e.name x ≡ true
found-name e l x alone found =
    either (same e.name x) (λ t. t)
    (λ f.
    absurd
    (none-some e (sym (cond-false (same e.name x) (Some e) None f) ∙ sym (ap (λ l. find_by at_held l x) alone) ∙ found)))

-- a take that lost
pub lost-root : (board : Board Blueprint) (b : Block) (m m' : Seated Item Entry) →
    ((found : ℕ) × (found ≢ rest_word (root_name board b.index b.generation) rest.Loop)
    × (m' ≡ (logged (control_index board (root_name board b.index b.generation)) found m.0, m.1))) →
    WasNotReady board b m m'
lost-root board b m m' lost = record { word = lost.0; differs = lost.1; is = lost.2 }

-- The root of the block was taken in the loop, by a hand that was at rest.
pub record HasTaken (board : Board Blueprint) (b : Block) (m m' : Seated Item Entry) : Type 0 where
  pub over : IsOver board board.frame.over.value
  pub within : b.index < board.frame.layout.blocks
  pub first : m.0.number ≡ 0
  pub rests : IsAtRest m.0
  pub read : ℕ
  pub left : ℕ
  pub took : TakenAt ghosts (aimed board.frame (root_name board b.index b.generation)) (board.frame.over.value ∷ [])
      (control_index board (root_name board b.index b.generation)) read left m m'

module _ (board : Board Blueprint) (b : Block) (m m' : Seated Item Entry) (did : HasTaken board b m m') where
  abbrev pub x : Name
  x = root_name board b.index b.generation

  abbrev pub root_held : Held Entry
  root_held = held_as x did.took.start did.took.named did.took.told did.took.told_children None

  taken-places : HasPlaces board.frame x
  taken-places = root-places board board.frame.over.value did.over b.index b.generation did.within

  pub took-tends : Tends board.frame x root_held (Some did.took.item) (λ _. None) m'
  took-tends =
      taken-tends ghosts board.frame x m m' (board.frame.over.value ∷ []) (control_index board x) did.read did.left did.took taken-places

  pub took-home : HasHome board.frame.layout m' x
  took-home = tends-home board.frame x m' root_held (Some did.took.item) (λ _. None) took-tends

  took-keeps : KeepsAside m m'
  took-keeps =
      aside-one (entry (control_index board x) did.read did.left) m m' (ap (λ (z : Seated Item Entry). aside_of z.0) did.took.me_is)
      (ap (λ (z : Seated Item Entry). z.0.steps) did.took.me_is) (ap (λ (z : Seated Item Entry). z.0.seen) did.took.me_is)

  -- what the item was there
  took-lay : LayAtRoot board x m did.took.item
  took-lay =
      record {
        told = did.took.told;
        asked = did.took.hears.scope did.first (root-hears board board.frame.over.value did.over b.index b.generation);
        fit = did.took.fit;
        goes_on = did.took.goes_on;
        rests = did.took.rests;
        key = ap plan_of did.took.shows ∙ did.took.key.0;
        noted = λ e noted. did.took.shows ∙ did.took.noted e noted;
      }

  -- its home is emptied
  module _ (answer : Option Item) (m2 : Seated Item Entry) (out : IsTakenOut board.frame x answer m' m2) where
    pub out-is : answer ≡ Some did.took.item
    out-is = swapped-old board.frame x None answer m' m2 out (Some did.took.item) took-tends.own

    out-keeps : KeepsAside m m2
    out-keeps =
        aside-on m m' m2 took-keeps
        (aside-one (entry (control_index board x) out.word out.word) m' m2 (ap (λ (z : Seated Item Entry). aside_of z.0) out.me_is)
        (ap (λ (z : Seated Item Entry). z.0.steps) out.me_is) (ap (λ (z : Seated Item Entry). z.0.seen) out.me_is))

    out-moves : MovesWithin board x m m2
    out-moves =
        moves-on board x m m' m2
        (moves-control board x did.read did.left m m' (ap (λ (z : Seated Item Entry). z.0.steps) did.took.me_is))
        (moves-look board x (control_index board x) out.word m' m2 (ap (λ (z : Seated Item Entry). z.0.steps) out.me_is))

    out-empty : HasEmptyRoot board x m2
    out-empty =
        record {
          first = ap (λ (a : Aside). a.number) out-keeps.same ∙ did.first;
          root = root-is board board.frame.over.value did.over b.index b.generation;
          hears = root-hears board board.frame.over.value did.over b.index b.generation;
          places = taken-places;
          runs = ap (λ (a : Aside). a.runs) out-keeps.same ∙ did.rests.runs;
          scans = ap (λ (a : Aside). a.scans) out-keeps.same ∙ did.rests.scans;
          held = root_held;
          tends = swapped-own board.frame x None answer m' m2 out root_held (Some did.took.item) (λ _. None) taken-places took-tends;
          alone = ap (λ (z : Seated Item Entry). z.0.held) out.me_is ∙ ap (λ (z : Seated Item Entry). z.0.held) did.took.me_is
              ∙ ap (λ (l : List (Held Entry)). root_held ∷ l) did.rests.held;
        }

    pub is-out : IsOut board b m m2 did.took.item
    is-out =
        record {
          lay = took-lay;
          empty = out-empty;
          owed = ap (λ (z : Seated Item Entry). z.0.owed) out.me_is ∙ ap (λ (z : Seated Item Entry). z.0.owed) did.took.me_is
              ∙ did.rests.owed;
          keeps = out-keeps;
          moves = out-moves;
        }

-- a root whose callback is settled can be finished
pub can-finish : (board : Board Blueprint) (x : Name) (m : Seated Item Entry) → IsSettledRoot board x m →
    CanFinish ghosts board.frame m x
can-finish board x m settled = of settled.empty.held.phase refl settled.settled
  where
    of : (phase : Option CallbackPhase) → settled.empty.held.phase ≡ phase →
        MatchOption phase ⊥ (λ p. is_settled p ≡ true) → CanFinish ghosts board.frame m x
    of None is said = absurd said
    of (Some phase) is said =
        root-finishes ghosts board.frame x m settled.empty.held (λ _. None) settled.empty.scans (λ n child. refl) phase
        settled.empty.tends is said settled.empty.root

-- The root was finished.
pub record HasFinished (board : Board Blueprint) (x : Name) (m m' : Seated Item Entry) : Type 0 where
  pub settled : IsSettledRoot board x m
  pub read : ℕ
  pub left : ℕ
  pub did : FinishesAt ghosts (aimed board.frame x) (control_index board x) read left m m'

pub has-finished : (board : Board Blueprint) (x : Name) (m m' : Seated Item Entry) → IsSettledRoot board x m →
    LeavesControl (aimed board.frame x) (Busy 0) IsDone (FinishesAt ghosts (aimed board.frame x)) m m' → HasFinished board x m m'
has-finished board x m m' settled finished =
    record { settled = settled; read = finished.read; left = finished.left; did = finished.did }

module _ (board : Board Blueprint) (x : Name) (m m' : Seated Item Entry) (ended : HasFinished board x m m') where
  abbrev rooted : RootedAt (aimed board.frame x) (control_index board x) ended.read ended.left m m'
  rooted = ended.did.1 ended.settled.empty.root

  pub can-release : CanRelease board.frame.layout m' x
  can-release =
      rooted-releases board.frame x m m' (control_index board x) ended.read ended.left rooted ended.settled.empty.held (λ _. None)
      ended.settled.empty.places ended.settled.empty.tends

  held-name : same ended.settled.empty.held.name x ≡ true
  held-name = found-name ended.settled.empty.held m.0.held x ended.settled.empty.alone ended.settled.empty.tends.holds

  -- and its block given back
  module _ (m2 : Seated Item Entry) (index opened free : ℕ) (gave : ReleasesAt (aimed board.frame x) index opened free m' m2) where
    given-aside : aside_of m2.0 ≡ with_released x (aside_of m.0)
    given-aside =
        ap (λ (z : Seated Item Entry). aside_of z.0) gave.me_is
        ∙ ap (gives_back x) (ap (λ (z : Seated Item Entry). aside_of z.0) rooted.me_is)
        ∙ ap
        (λ (l : List Name).
        record (aside_of m.0) {
          finished = l;
          noted = without (λ (e : Rooted Entry). e.name) m.0.noted x;
          released = m.0.released + 1;
        })
        (cond-true (same x x) m.0.finished (x ∷ without (λ y. y) m.0.finished x) (same-refl x))

    given-held : m2.0.held ≡ []
    given-held =
        ap (λ (z : Seated Item Entry). z.0.held) gave.me_is
        ∙ ap (λ (z : Seated Item Entry). z.0.held) rooted.me_is
        ∙ ap (λ (l : List (Held Entry)). without at_held l x) ended.settled.empty.alone
        ∙ cond-true (same ended.settled.empty.held.name x) [] (ended.settled.empty.held ∷ []) held-name

    given-owed : m2.0.owed ≡ m.0.owed
    given-owed = ap (λ (z : Seated Item Entry). z.0.owed) gave.me_is ∙ ap (λ (z : Seated Item Entry). z.0.owed) rooted.me_is

    given-grows : Grows m m2
    given-grows =
        grows-on m m' m2
        (grows-one (entry (control_index board x) ended.read ended.left) m m' (ap (λ (z : Seated Item Entry). z.0.steps) rooted.me_is)
        (ap (λ (z : Seated Item Entry). z.0.seen) rooted.me_is))
        (grows-one (entry index opened free) m' m2 (ap (λ (z : Seated Item Entry). z.0.steps) gave.me_is)
        (ap (λ (z : Seated Item Entry). z.0.seen) gave.me_is))

    given-leaves : LeavesAside (with_released x (aside_of m.0)) m m2
    given-leaves = leaves-with (with_released x (aside_of m.0)) m m2 given-aside given-grows

pub is-given-back : (board : Board Blueprint) (b : Block) (m m' : Seated Item Entry) →
    (ended : HasFinished board (root_name board b.index b.generation) m m') → (m2 : Seated Item Entry) (opened free : ℕ) →
    ReleasesAt (aimed board.frame (root_name board b.index b.generation)) (word_index board b.index) opened free m' m2 → IsGivenBack board b m m2
is-given-back board b m m' ended m2 opened free gave =
    let root = root_name board b.index b.generation in
    let index : ℕ = word_index board b.index in
    record {
      held = given-held board root m m' ended m2 index opened free gave;
      owed = given-owed board root m m' ended m2 index opened free gave;
      moves = record {
        before = m';
        moves = moves-control board root ended.read ended.left m m'
            (ap (λ (z : Seated Item Entry). z.0.steps) (ended.did.1 ended.settled.empty.root).me_is);
        read = opened;
        left = free;
        gave = ap (λ (z : Seated Item Entry). z.0.steps) gave.me_is;
      };
      leaves = given-leaves board root m m' ended m2 index opened free gave;
    }

-- a root whose callback was settled is out still
pub settled-out : (board : Board Blueprint) (b : Block) (m between m' : Seated Item Entry) (item : Item) → IsOut board b m between item →
    SettlesRoot board (root_name board b.index b.generation) between m' → IsOut board b m m' item
settled-out board b m between m' item out settles =
    record {
      lay = out.lay;
      empty = settles.is.empty;
      owed = settles.owed ∙ out.owed;
      keeps = aside-on m between m' out.keeps settles.keeps;
      moves = moves-on board (root_name board b.index b.generation) m between m' out.moves settles.moves;
    }

-- and when its block is given back, the hand is at rest
pub emptied : (board : Board Blueprint) (b : Block) (m between m' : Seated Item Entry) (item : Item) → IsAtRest m.0 →
    IsOut board b m between item → IsGivenBack board b between m' → IsRootEmptied board b m m' item
emptied board b m between m' item rests out given =
    let leaves = leaves-then (with_released (root_name board b.index b.generation)) (aside_of m.0) m between m'
    (aside-leaves m between out.keeps) given.leaves in
    record {
      lay = out.lay;
      rests = record {
        held = given.held;
        owed = given.owed ∙ out.owed;
        reported = ap (λ (a : Aside). a.reported) leaves.is ∙ rests.reported;
        finished = ap (λ (a : Aside). a.finished) leaves.is ∙ rests.finished;
        runs = ap (λ (a : Aside). a.runs) leaves.is ∙ rests.runs;
        scans = ap (λ (a : Aside). a.scans) leaves.is ∙ rests.scans;
      };
      moves = record {
        before = given.moves.before;
        moves = moves-on board (root_name board b.index b.generation) m between given.moves.before out.moves given.moves.moves;
        read = given.moves.read;
        left = given.moves.left;
        gave = given.moves.gave;
      };
      leaves = leaves;
    }

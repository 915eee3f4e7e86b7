-- What the exchange by which a block is claimed owes.
use Rattle.std.proofs.Common.{◌≡◌, ℕ, ◌-◌, ◌<◌, true, ◌==◌, List, ◌∷◌, length, set, refl, sym, ap, ◌∙◌, subst, eq-eqb, ne_eqb}
use Rattle.std.specs.Prelude.{Option, None, slice_index, nat_lt}
use Rattle.std.proofs.lemmas.Bool.{cond-true, lt-ltb}
use mathlib.Core.Option.{some}
use mathlib.Core.Option as maybe
use mathlib.Core.Logic.{dite}
use native.Mathlib.Decide.{ℕ_discrete}
use prog.Atomic.{either}
use lib.ListN.{get_elem?}
use Rattle.life_rules.specs.declared.words.BlockWord.{BlockWord}
use Rattle.life_rules.specs.declared.words.BlockState.TheVariants.{Free, Open}
use Rattle.life_rules.specs.declared.event.Name.{Name}
use Rattle.life_rules.specs.Words.{is_free}
use Rattle.table_words.specs.Blocks.{block_read}
use Rattle.table_words.specs.Layouts.{OfBlock, index, place_number}
use Rattle.atomic_table.specs.Table.{Allows, step, takes, keeps, stepped}
use Rattle.atomic_table.specs.Table as table
use Rattle.table_rules.specs.declared.cargo.Cargo.{Ghosts}
use Rattle.table_rules.specs.declared.frame.Frame.{Frame}
use Rattle.table_rules.specs.declared.view.View.{View}
use Rattle.table_rules.specs.ShownWords.{block_of}
use Rattle.table_rules.specs.Running.{Running}
use Rattle.table_steps.specs.Slots.{Aim, IsSeated}
use Rattle.table_steps.specs.Owing.{OwesNoneThere}
use Rattle.table_steps.specs.Claims.{IsUnnoted, with_step, logged, ListsOne, owes_root, claims}
use Rattle.table_kept.proofs.Standing.{Standing}
use Rattle.table_kept.proofs.Listing.{AllowsListed, allows-listed, lists-one}
use Rattle.table_kept.proofs.Loads.{looks_keep}
use Rattle.table_kept.proofs.OwedLive.{owes-none_there}
use Rattle.table_life_kept.proofs.Claim.Unnoted.{unnoted-free}
use Rattle.table_life_kept.proofs.Claim.Runs.{ToClaim, root-empty, claim-runs, seated-claimed}

-- the exchange wins
claim-won : {P E O : Type 0} (cargo : Ghosts P E O) (f : Frame O) (s : table.State (Option P) (View P E)) (slots id b old new : ℕ) (v : View P E) (c : List (ℕ × Option P)) (r : Running cargo f s) (at : get_elem? s.views id ≡ some v) (hb : b < f.layout.blocks) (free : is_free (block_of f.layout s.words b).state ≡ true) (reads : block_read new ≡ record (block_of f.layout s.words b) { state = Open }) (itself : v.hands ≡ 1) (x : Name) →
    record { block = b; generation = (block_of f.layout s.words b).generation; node = length f.tree - 1 } ≡ x →
    slice_index s.words (index f.layout (OfBlock b)) ≡ old →
    (w : View P E) × (a : table.Act (Option P)) × table.Valid s.homes c a
    × Running cargo f (stepped s (index f.layout (OfBlock b)) (either (slice_index s.words (index f.layout (OfBlock b)) == old) new (slice_index s.words (index f.layout (OfBlock b)))) id c w a)
    × claims (record { tree = f.tree; layout = f.layout; name = x }) (step slots (index f.layout (OfBlock b)) old new maybe.none) (v, c)
    (slice_index s.words (index f.layout (OfBlock b))) (w, table.carried_after c a)
claim-won {P} {E} cargo f s slots id b old new v c r at hb free reads itself x name hit =
    let hand : Standing cargo f = record { state = s; id = id; view = v; running = r; at = at } in
    let claiming : ToClaim hand = record {
      block = b;
      new = new;
      within = hb;
      free = free;
      reads = reads;
      itself = itself;
    } in
    let i = index f.layout (OfBlock b) in
    let n = slice_index s.words i in
    let slot = place_number f.layout b (length f.tree - 1) in
    let w : View P E = with_step i n new (owes_root x v) in (
      w,
      takes (place_number f.layout x.block x.node) None,
      subst (λ (y : Name). get_elem? s.homes (place_number f.layout y.block y.node) ≡ some (some None)) name
          (root-empty cargo f hand claiming),
      subst (λ (m : ℕ). Running cargo f (stepped s i m id c w (takes (place_number f.layout x.block x.node) None)))
          (sym (ap (λ t. either t new n) (eq-eqb n old hit)))
          (subst (λ (y : Name). Running cargo f record {
            words = set s.words i new;
            homes = set s.homes (place_number f.layout y.block y.node) maybe.none;
            views = set s.views id (with_step i n new (owes_root y v));
          }) name (claim-runs cargo f hand claiming n refl)),
      (
        (λ _. (
          refl,
          (λ seated. subst (λ (y : Name). IsSeated f.tree f.layout (with_step i n new (owes_root y v), (place_number f.layout y.block y.node, None) ∷ c)) name
              (seated-claimed cargo f hand claiming n c seated)),
          subst (λ (y : Name). OwesNoneThere v y) name
              (owes-none_there cargo f hand (record { block = b; generation = (block_of f.layout s.words b).generation; node = length f.tree - 1 }) free),
          subst (IsUnnoted v) name
              (unnoted-free cargo f hand (record { block = b; generation = (block_of f.layout s.words b).generation; node = length f.tree - 1 }) free refl),
        )),
        (λ miss. absurd (miss hit)),
      ),
    )

-- what the exchange owes
pub claims_allowed : {P E O : Type 0} (cargo : Ghosts P E O) (f : Frame O) (slots id b old new : ℕ) (v : View P E) (c : List (ℕ × Option P)) (x : Name) →
    v.hands ≡ 1 → b < f.layout.blocks → is_free (block_read old).state ≡ true →
    block_read new ≡ record (block_read old) { state = Open } →
    x ≡ record { block = b; generation = (block_read old).generation; node = length f.tree - 1 } →
    Allows (Running cargo f) slots id (v, c) (index f.layout (OfBlock b)) (λ n. either (n == old) new n)
    (claims (record { tree = f.tree; layout = f.layout; name = x }) (step slots (index f.layout (OfBlock b)) old new maybe.none) (v, c))
claims_allowed {P} {E} cargo f slots id b old new v c x itself hb free reads is s r deep at small =
    let i = index f.layout (OfBlock b) in
    let n = slice_index s.words i in
    dite (ℕ_discrete n old)
    (λ hit.
    let word : block_of f.layout s.words b ≡ block_read old =
    cond-true (nat_lt b f.layout.blocks) (block_read n) (record { generation = 0; state = Free }) (lt-ltb b f.layout.blocks hb)
    ∙ ap block_read hit in
    let is_free_now : is_free (block_of f.layout s.words b).state ≡ true = ap (λ w. is_free w.state) word ∙ free in
    let is_read : block_read new ≡ record (block_of f.layout s.words b) { state = Open } =
    reads ∙ ap (λ (w : BlockWord). record w { state = Open }) (sym word) in
    let name : record { block = b; generation = (block_of f.layout s.words b).generation; node = length f.tree - 1 } ≡ x =
    ap (λ (w : BlockWord). record { block = b; generation = w.generation; node = length f.tree - 1 }) word ∙ sym is in
    claim-won cargo f s slots id b old new v c r at hb is_free_now is_read itself x name hit)
    (λ miss.
    let w : View P E = logged i n v in (
      w,
      keeps,
      tt,
      subst (λ (m : ℕ). Running cargo f (stepped s i m id c w keeps))
          (sym (ap (λ t. either t new n) (ne_eqb n old miss))) (looks_keep cargo f s id i v r at),
      ((λ hit. absurd (miss hit)), (λ _. refl)),
    ))

-- the same by the frame that the table shows
pub claims_at : {P E O : Type 0} (cargo : Ghosts P E O) (board f : Frame O) (slots id b i old new : ℕ) (me : View P E × List (ℕ × Option P)) (x : Name) (aim : Aim) →
    board ≡ f → me.0.hands ≡ 1 → b < board.layout.blocks → i ≡ index board.layout (OfBlock b) →
    is_free (block_read old).state ≡ true → block_read new ≡ record (block_read old) { state = Open } →
    x ≡ record { block = b; generation = (block_read old).generation; node = length board.tree - 1 } →
    aim ≡ record { tree = board.tree; layout = board.layout; name = x } →
    AllowsListed cargo f slots id me i (λ n. either (n == old) new n) (claims aim (step slots i old new maybe.none) me)
claims_at cargo board f slots id b i old new me x aim same itself hb i_is free reads is aim_is =
    allows-listed cargo f slots id me i (λ n. either (n == old) new n) (claims aim (step slots i old new maybe.none) me)
    (λ n m' told.
    dite (ℕ_discrete n old)
    (λ hit.
    subst (λ k. ListsOne i n k me m') (sym (ap (λ t. either t new n) (eq-eqb n old hit)))
    (lists-one i n new me m' (owes_root aim.name me.0) (ap (λ z. z.0) (told.0 hit).0) refl refl refl refl))
    (λ miss.
    subst (λ k. ListsOne i n k me m') (sym (ap (λ t. either t new n) (ne_eqb n old miss)))
    (lists-one i n n me m' me.0 (ap (λ z. z.0) (told.1 miss)) refl refl refl refl)))
    (subst (λ z. Allows (Running cargo z) slots id me i (λ n. either (n == old) new n) (claims aim (step slots i old new maybe.none) me))
    same
    (subst (λ (z : ℕ × Aim). Allows (Running cargo board) slots id me z.0 (λ n. either (n == old) new n) (claims z.1 (step slots z.0 old new maybe.none) me))
    (λ k. (sym i_is k, sym aim_is k))
    (claims_allowed cargo board slots id b old new me.0 me.1 x itself hb free reads is)))

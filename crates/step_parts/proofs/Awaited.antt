-- How children of a node are awaited, whose start lies in its home.
use Rattle.std.proofs.Common.{◌≡◌, ◌⊎◌, inl, inr, ℕ, suc, ◌+◌, ◌<◌, ◌≤◌, Bool, true, false, not, ◌&&◌, ◌||◌, ◌==◌, List, [], ◌∷◌, length, arith, refl, sym, ap, ◌∙◌, subst}
use Rattle.std.specs.Prelude.{ℤ, Option, Some, None, slice_index}
use Rattle.std.specs.List.{list_any}
use Rattle.std.proofs.lemmas.Bool.{and_from, or_parts, cond-false, eq-eqb}
use Rattle.std.proofs.lemmas.Option.{same_Some}
use Rattle.common_lemmas.specs.Sums.{one}
use Rattle.common_lemmas.proofs.Bool.{either, one-most}
use Rattle.life_rules.specs.declared.event.Name.{Name}
use Rattle.life_rules.specs.declared.words.ControlWord.TheVariants.{Busy}
use Rattle.life_rules.specs.Views.{beside, same}
use Rattle.life_rules.proofs.Names.{same-true}
use Rattle.listed_words.specs.Lists.{entry}
use Rattle.node_tree.specs.Tree.{is_child}
use Rattle.plan_shape.specs.Blueprint.{Blueprint}
use Rattle.table_words.specs.Layouts.{place_number}
use Rattle.table_kept.proofs.Awaiting.{count-owes, each-owes}
use Rattle.table_kept.proofs.Entries.{found, each-found}
use Rattle.table_rules.specs.declared.view.Held.{Held}
use Rattle.table_rules.specs.declared.view.Owed.{Owed}
use Rattle.table_rules.specs.Named.{find_by, count_by, Each}
use Rattle.table_steps.specs.Views.{Board, aim_at, aimed}
use Rattle.table_steps.specs.Awaits.{owes_each, is_named, is_unnamed, CanAwait, AwaitsAt}
use Rattle.table_steps.specs.Seats.{Seated}
use Rattle.table_steps.specs.Lefts.{LeavesControl}
use Rattle.table_steps.specs.Owing.{owing, Owes}
use Rattle.table_steps.specs.Slots.{slot_of, kids_of, knows_idle, kept as kept_at, has_seen}
use Rattle.table_steps.specs.Steps.{control_index}
use Rattle.op_slot.proofs.Kept.{kept-shed}
use Rattle.op_slot.proofs.Leaving.{GoesOn, tends-awaits, awaited-owes}
use Rattle.op_slot.proofs.Places.{kid-within}
use Rattle.home_items.specs.contracts.item.ItemCargo.TheImpl.{ghosts}
use Rattle.home_items.specs.declared.entry.Entry.{Entry}
use Rattle.home_items.specs.declared.item.Item.{Item}
use Rattle.home_items.specs.Bounds.{least_of}
use Rattle.home_items.specs.Contents.{Rest}
use Rattle.home_items.specs.Items.{lot_of}
use Rattle.home_items.specs.Parcels.{Delivery}
use Rattle.exec_recv.specs.Areas.{MovesWithin}
use Rattle.exec_recv.specs.Asides.{aside_of, KeepsAside}
use Rattle.exec_recv.specs.Beginnings.{CanStart}
use Rattle.exec_recv.specs.Nexts.{LetsGo, OwesNewBelow}
use Rattle.exec_recv.proofs.Asiding.{aside-one}
use Rattle.exec_recv.proofs.Fitting.{fits-more, sees-more}
use Rattle.exec_recv.proofs.Moves.{moves-control}
use Rattle.step_parts.specs.Kids.{AreKids, KnowsAllIdle}
use Rattle.step_parts.specs.Midway.{IsMidway}
use Rattle.step_parts.specs.Starting.{OwesBare, owed_below, IsAmong, IsStarting}
use Rattle.step_parts.proofs.Lists.{any-at, all-at}

inside-same : (a b : Item) → Some (Some a) ≡ Some (Some b) → a ≡ b
inside-same a b e = cc

-- where no test holds in a list, no narrower one does
none-narrower : (narrow wide : ℕ → Bool) (ns : List ℕ) → list_any wide ns ≡ false → list_any (λ q. narrow q && wide q) ns ≡ false
none-narrower narrow wide [] none = refl
none-narrower narrow wide (q ∷ qs) none =
    let parts = or_parts (wide q) (list_any wide qs) none in
    ap (λ b. (narrow q && b) || list_any (λ k. narrow k && wide k) qs) parts.0
    ∙ ap (λ b. b || list_any (λ k. narrow k && wide k) qs) (and-false (narrow q))
    ∙ none-narrower narrow wide qs parts.1
  where
    and-false : (b : Bool) → (b && false) ≡ false
    and-false true = refl
    and-false false = refl

or-narrower : (b : Bool) (narrow wide : ℕ → Bool) (ns : List ℕ) → (b || list_any wide ns) ≡ false →
    (b || list_any (λ q. narrow q && wide q) ns) ≡ false
or-narrower true narrow wide ns none = cc
or-narrower false narrow wide ns none = none-narrower narrow wide ns none

named-at : (nodes : List ℕ) (i : ℕ) → i < length nodes → is_named nodes (slice_index nodes i) ≡ true
named-at nodes i within = any-at (λ m. m == slice_index nodes i) nodes i within (eq-eqb (slice_index nodes i) (slice_index nodes i) refl)

-- one of these children, by its name
among-of : (x : Name) (nodes : List ℕ) (z : Name) → list_any (λ k. same (beside x k) z) nodes ≡ true → IsAmong x nodes (length nodes) z
among-of x [] z t = cc
among-of x (n ∷ ns) z t =
    either (same (beside x n) z)
    (λ here. (0, omega arith, same-true (beside x n) z here))
    (λ no.
    let more = among-of x ns z (ap (λ b. b || list_any (λ k. same (beside x k) z) ns) (sym no) ∙ t) in
    (suc more.0, (let less = more.1 in omega (arith, less)), more.2))

-- what is owed of another node is owed as before
find-other : (x : Name) (start : List Entry) (lot : List ℤ) (nodes : List ℕ) (owed : List (Owed Entry)) (z : Name) →
    list_any (λ k. same (beside x k) z) nodes ≡ false →
    find_by (λ (e : Owed Entry). e.name) (owes_each x start lot nodes owed) z ≡ find_by (λ (e : Owed Entry). e.name) owed z
find-other x start lot [] owed z none = refl
find-other x start lot (n ∷ ns) owed z none =
    let parts = or_parts (same (beside x n) z) (list_any (λ k. same (beside x k) z) ns) none in
    cond-false (same (beside x n) z) (Some (owed_below x start lot n))
    (find_by (λ (e : Owed Entry). e.name) (owes_each x start lot ns owed) z) parts.0
    ∙ find-other x start lot ns owed z parts.1

-- In the home of x lies its start, with what it keeps of a child, and it goes on with that.
module _ (board : Board Blueprint) (x : Name) (start : List Entry) (kept : Option Delivery) (children : List ℕ) (m : Seated Item Entry)
    (is : IsMidway board x start (Rest start kept) 0 (λ _. None) m) (on : GoesOn ghosts board.frame x m is.held (Rest start kept))
    (kids : AreKids board x children) where
  abbrev item : Item
  item = Rest start kept

  -- the children can be awaited
  pub can-await : least_of item ≤ length children → 1 ≤ length children → KnowsAllIdle x children (length children) m →
      CanAwait ghosts board.frame m x children
  can-await least some idle =
      tends-awaits ghosts board.frame x m is.held (λ _. None) is.calm (λ k at. refl) item children is.tends on least some kids.different
      (all-at _ children (λ i within. and_from _ _ (kids.each i within)
      (subst (λ (h : Held Entry). knows_idle h (slice_index children i) ≡ true)
      (same_Some idle.held is.held (sym idle.holds ∙ is.tends.holds)) (idle.idle i within))))

  module _ (m' : Seated Item Entry)
      (awaited : LeavesControl (aim_at board x) (Busy 0) (Busy (length children)) (AwaitsAt ghosts (aim_at board x) children) m m') where
    abbrev did : AwaitsAt ghosts (aimed board.frame x) children (control_index board x) awaited.read awaited.left m m'
    did = awaited.did

    abbrev lot : List ℤ
    lot = lot_of item

    item-is : did.item ≡ item
    item-is = inside-same did.item item (sym did.home ∙ is.tends.own)

    owed-is : m'.0.owed ≡ owes_each x start lot children m.0.owed
    owed-is =
        ap (λ (z : Seated Item Entry). z.0.owed) did.me_is
        ∙ ap (λ (i : Item). owes_each x (ghosts.start i) (ghosts.lot i) children m.0.owed) item-is

    -- how often a start is owed
    owing-is : (z : Name) → owing m'.0 z ≡ owing m.0 z + one (list_any (λ k. same (beside x k) z) children)
    owing-is z =
        ap (λ (l : List (Owed Entry)). count_by (λ (e : Owed Entry). e.name) l z) owed-is
        ∙ count-owes x start lot children m.0.owed z kids.different

    -- the hand owes each child's start, and its home is empty
    await-bare : (i : ℕ) → i < length children →
        OwesBare board (beside x (slice_index children i)) (owed_below x start lot (slice_index children i)) m'
    await-bare i within =
        let n = slice_index children i in
        record {
          place = record { block = is.place.block; node = kid-within board.frame x is.places n (kids.each i within) };
          owes = awaited-owes board.frame x m m' (control_index board x) awaited.read awaited.left ghosts children did is.held item
              (λ _. None) n is.places is.tends (kids.each i within) (named-at children i within);
          once =
              let none = did.unowed n (named-at children i within) in
              let few = one-most (list_any (λ k. same (beside x k) (beside x n)) children) in
              let all = owing-is (beside x n) in
              omega (arith, none, few, all);
          beside = subst (λ (l : List (Owed Entry)). Each (λ (e : Owed Entry). e.name.block ≡ x.block → e.name.generation ≡ x.generation) l)
              (sym owed-is)
              (each-owes (λ (e : Owed Entry). e.name.block ≡ x.block → e.name.generation ≡ x.generation) x start lot children m.0.owed
              (λ k named at. refl) did.beside_it);
        }

    pub await-aside : KeepsAside m m'
    await-aside =
        aside-one (entry (control_index board x) awaited.read awaited.left) m m' (ap (λ (z : Seated Item Entry). aside_of z.0) did.me_is)
        (ap (λ (z : Seated Item Entry). z.0.steps) did.me_is) (ap (λ (z : Seated Item Entry). z.0.seen) did.me_is)

    pub await-moves : MovesWithin board x m m'
    await-moves = moves-control board x awaited.read awaited.left m m' (ap (λ (z : Seated Item Entry). z.0.steps) did.me_is)

    pub await-lets : LetsGo board x m m'
    await-lets = ap (λ (z : Seated Item Entry). z.0.held) did.me_is

    -- and each other start can begin still
    module _ (z : Name) (other : list_any (λ k. same (beside x k) z) children ≡ false) where
      find-same : find_by (λ (e : Owed Entry). e.name) m'.0.owed z ≡ find_by (λ (e : Owed Entry). e.name) m.0.owed z
      find-same =
          ap (λ (l : List (Owed Entry)). find_by (λ (e : Owed Entry). e.name) l z) owed-is
          ∙ find-other x start lot children m.0.owed z other

      module _ (can : CanStart board z m) where
        unnamed : is_unnamed board.frame.tree board.frame.layout x children (slot_of board.frame.layout z) ≡ false
        unnamed =
            let slot = slot_of board.frame.layout z in
            or-narrower (slot_of board.frame.layout x == slot) (λ q. not (is_named children q))
            (λ q. place_number board.frame.layout x.block q == slot) (kids_of board.frame.tree x.node)
            (is.elsewhere z can.begin.owed can.begin.owes)

        home-same : kept_at (slot_of board.frame.layout z) m'.1 ≡ kept_at (slot_of board.frame.layout z) m.1
        home-same =
            ap (λ (s : Seated Item Entry). kept_at (slot_of board.frame.layout z) s.1) did.me_is
            ∙ kept-shed (is_unnamed board.frame.tree board.frame.layout x children) (slot_of board.frame.layout z) m.1 unnamed

        -- in a block all starts that are owed are of one generation
        of-block : x.block ≡ z.block → x.generation ≡ z.generation
        of-block block =
            let name = (found (λ (e : Owed Entry). e.name) m.0.owed z can.begin.owed can.begin.owes).name_is in
            let all = each-found (λ (e : Owed Entry). e.name.block ≡ x.block → e.name.generation ≡ x.generation)
            (λ (e : Owed Entry). e.name) m.0.owed z can.begin.owed can.begin.owes did.beside_it in
            sym (sym (ap (λ (w : Name). w.generation) name) ∙ all (ap (λ (w : Name). w.block) name ∙ sym block))

        still-starts : CanStart board z m'
        still-starts =
            record {
              place = can.place;
              begin = record {
                owed = can.begin.owed;
                owes = find-same ∙ can.begin.owes;
                item = can.begin.item;
                home = home-same ∙ can.begin.home;
                entry = can.begin.entry;
                start = can.begin.start;
                key = can.begin.key;
                drawn = can.begin.drawn;
                goes_on = can.begin.goes_on;
              };
              is_start = can.is_start;
              fit = fits-more can.begin.item z.node (has_seen board.frame.tree m.0 z) (has_seen board.frame.tree m'.0 z)
                  (sees-more board.frame.tree m m' z await-aside.sees) can.fit;
              once =
                  let few = can.once in
                  let all = owing-is z in
                  let no : one (list_any (λ k. same (beside x k) z) children) ≡ 0 = ap one other in
                  omega (arith, few, all, no);
              beside = subst (λ (l : List (Owed Entry)). Each (λ (e : Owed Entry). e.name.block ≡ z.block → e.name.generation ≡ z.generation) l)
                  (sym owed-is)
                  (each-owes (λ (e : Owed Entry). e.name.block ≡ z.block → e.name.generation ≡ z.generation) x start lot children
                  m.0.owed (λ k named at. of-block at) can.beside);
            }

    await-each : (z : Name) → Owes m'.0 z → IsAmong x children (length children) z ⊎ CanStart board z m'
    await-each z owes =
        either (list_any (λ k. same (beside x k) z) children)
        (λ t. inl (among-of x children z t))
        (λ other.
        inr (still-starts z other (is.starts z (record { owed = owes.owed; owes = sym (find-same z other) ∙ owes.owes }))))

    pub await-starting : IsStarting board x start lot children (length children) m'
    await-starting = record { bare = await-bare; each = await-each }

    -- and no other is owed than was
    pub await-owes : OwesNewBelow board x m m'
    await-owes z owes =
        either (list_any (λ k. same (beside x k) z) children)
        (λ t.
        let among = among-of x children z t in
        inr (subst (λ (w : Name). is_child board.frame.tree x.node w.node ≡ true) among.2 (kids.each among.0 among.1)))
        (λ other. inl (record { owed = owes.owed; owes = sym (find-same z other) ∙ owes.owes }))

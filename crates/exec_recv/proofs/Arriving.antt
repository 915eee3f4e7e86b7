-- A hand that came to hold a node may step it: by the last report of the node's children, by a take, or by
-- the node's begin.
use Rattle.std.proofs.Common.{◌≡◌, inl, inr, ℕ, true, false, List, [], ◌∷◌, refl, sym, ap, ◌∙◌, subst}
use Rattle.std.specs.Prelude.{Option, Some, None, is_some}
use Rattle.life_rules.specs.declared.event.Name.{Name}
use Rattle.node_tree.specs.Tree.{is_child}
use Rattle.plan_shape.specs.Blueprint.{Blueprint}
use Rattle.table_rules.specs.declared.view.Held.{Held}
use Rattle.table_rules.specs.declared.view.Owed.{Owed}
use Rattle.table_rules.specs.declared.view.Reported.{Reported}
use Rattle.table_rules.specs.Named.{find_by}
use Rattle.table_steps.specs.Views.{Board, IsPlaceIn, aimed}
use Rattle.table_steps.specs.Seats.{Seated}
use Rattle.table_steps.specs.Reports.{LastAt, laid}
use Rattle.table_steps.specs.Slots.{IsSeated, AreApart, slot_of, kids_of, kept, is_of_family}
use Rattle.table_steps.specs.Takes.{TakenAt}
use Rattle.op_slot.specs.Tends.{IsCalm, HasPlaces, OwesReport}
use Rattle.op_slot.proofs.Tending.{held_as, last-calm, last-tends, taken-calm, taken-tends}
use Rattle.home_items.specs.contracts.item.ItemCargo.TheImpl.{ghosts}
use Rattle.home_items.specs.declared.entry.Entry.{Entry}
use Rattle.home_items.specs.declared.item.Item.{Item}
use Rattle.exec_recv.specs.Beginnings.{AllCanStart}
use Rattle.exec_recv.specs.Family.{AreOwedElsewhere}
use Rattle.exec_recv.specs.Steppable.{CanStep}
use Rattle.exec_recv.proofs.Behind.{behind-family, empty-laid}
use Rattle.exec_recv.proofs.Fitting.{hears-still}
use Rattle.exec_recv.proofs.Starts.{KeepsHomes}

module _ (board : Board Blueprint) (x : Name) (m m' : Seated Item Entry) (starts : AllCanStart board m) where
  -- the homes of x and of its children lie in front of those that the hand had
  pub record LiesInFront : Type 0 where
    pub own : Option Item
    pub content : ℕ → Option Item
    pub owed : m'.0.owed ≡ m.0.owed
    pub slots : m'.1 ≡ (slot_of board.frame.layout x, own)
        ∷ laid board.frame.layout x.block (kids_of board.frame.tree x.node) content m.1
    pub apart : AreApart m'.1

  module _ (front : LiesInFront) where
    in-front : (y : Name) → (inside : Option Item) → kept (slot_of board.frame.layout y) m.1 ≡ Some inside →
        (kept (slot_of board.frame.layout y) m'.1 ≡ Some inside)
        × (is_of_family board.frame.tree board.frame.layout x (slot_of board.frame.layout y) ≡ false)
    in-front y inside home =
        let slot = slot_of board.frame.layout y in
        let l = board.frame.layout in
        let far = behind-family board.frame.tree l x front.own front.content m.1 slot inside
        (subst (λ (cs : List (ℕ × Option Item)). AreApart cs) front.slots front.apart) home in
        (ap (kept slot) front.slots ∙ far.0, far.1)

    -- so what lies in the homes of nodes whose starts are owed stays there
    pub homes-behind : KeepsHomes board m m'
    homes-behind y owed owes inside home = (in-front y inside home).0

    -- and none of them is of this family
    pub owed-elsewhere : AreOwedElsewhere board x m'
    owed-elsewhere y owed owes =
        let before = ap (λ (l : List (Owed Entry)). find_by (λ (e : Owed Entry). e.name) l y) (sym front.owed) ∙ owes in
        let can = starts y (record { owed = owed; owes = before }) in
        (in-front y (Some can.begin.item) can.begin.home).1

-- after the last report
module _ (board : Board Blueprint) (x : Name) (child : Name) (i read left : ℕ) (m m' : Seated Item Entry)
    (did : LastAt ghosts (aimed board.frame x) child (board.frame.over.value ∷ []) i read left m m')
    (seated : IsSeated board.frame.tree board.frame.layout m) (starts : AllCanStart board m) where
  last-in-front : LiesInFront board x m m' starts
  last-in-front =
      record {
        own = Some did.item;
        content = did.content;
        owed = ap (λ (z : Seated Item Entry). z.0.owed) did.me_is;
        slots = ap (λ (z : Seated Item Entry). z.1) did.me_is;
        apart = (did.seated seated).apart;
      }

  pub last-homes : KeepsHomes board m m'
  last-homes = homes-behind board x m m' starts last-in-front

  abbrev last_held : Held Entry
  last_held = held_as x did.start did.named did.told did.told_children (Some did.lot)

  pub last-steps : IsPlaceIn board x → HasPlaces board.frame x → IsCalm m → m.0.runs ≡ [] → (entry : Reported Item Entry) → OwesReport child entry m →
      is_child board.frame.tree x.node child.node ≡ true → CanStep board x m'
  last-steps place places calm unrun entry owes below =
      record {
        place = place;
        calm = last-calm ghosts board.frame x m m' child (board.frame.over.value ∷ []) i read left did calm;
        unrun = ap (λ (z : Seated Item Entry). z.0.runs) did.me_is ∙ unrun;
        held = last_held;
        item = did.item;
        kid = did.content;
        tends = last-tends ghosts board.frame x m m' child (board.frame.over.value ∷ []) i read left did places;
        shows = did.shows;
        fit = did.fit;
        goes_on = did.goes_on;
        bound = did.bound;
        key = did.key.0;
        hears = hears-still board.frame.tree m.0 m'.0 x did.told did.told_children (ap (λ (z : Seated Item Entry). z.0.number) did.me_is)
            (ap (λ (z : Seated Item Entry). z.0.requested) did.me_is) did.hears;
        kids = λ n done at full. record {
          ends = did.ends n done at full;
          fit = did.fits_child n done at full;
          entry = (did.below n done at full).0;
          below = (did.below n done at full).1;
          draws = ap (λ l. Some l) (sym (did.draws n done at full));
        };
        came = inr (inr (record {
          count = did.count;
          last = child.node;
          below = below;
          full = ap is_some (did.keeps entry owes);
          lot = ap (λ l. Some l) (sym did.lot_is);
          failure = did.failure;
        }));
        elsewhere = owed-elsewhere board x m m' starts last-in-front;
      }

-- after a take
module _ (board : Board Blueprint) (x : Name) (i read left : ℕ) (m m' : Seated Item Entry)
    (did : TakenAt ghosts (aimed board.frame x) (board.frame.over.value ∷ []) i read left m m')
    (seated : IsSeated board.frame.tree board.frame.layout m) (starts : AllCanStart board m) where
  taken-in-front : LiesInFront board x m m' starts
  taken-in-front =
      let kids = kids_of board.frame.tree x.node in
      record {
        own = Some did.item;
        content = λ _. None;
        owed = ap (λ (z : Seated Item Entry). z.0.owed) did.me_is;
        slots = ap (λ (z : Seated Item Entry). z.1) did.me_is
            ∙ ap (λ cs. (slot_of board.frame.layout x, Some did.item) ∷ cs) (empty-laid board.frame.layout x.block kids m.1);
        apart = (did.seated seated).apart;
      }

  pub taken-homes : KeepsHomes board m m'
  taken-homes = homes-behind board x m m' starts taken-in-front

  pub taken-steps : IsPlaceIn board x → HasPlaces board.frame x → IsCalm m → m.0.runs ≡ [] → CanStep board x m'
  taken-steps place places calm unrun =
      record {
        place = place;
        calm = taken-calm ghosts board.frame x m m' (board.frame.over.value ∷ []) i read left did calm;
        unrun = ap (λ (z : Seated Item Entry). z.0.runs) did.me_is ∙ unrun;
        held = held_as x did.start did.named did.told did.told_children None;
        item = did.item;
        kid = λ _. None;
        tends = taken-tends ghosts board.frame x m m' (board.frame.over.value ∷ []) i read left did places;
        shows = did.shows;
        fit = did.fit;
        goes_on = did.goes_on;
        bound = did.bound;
        key = did.key.0;
        hears = hears-still board.frame.tree m.0 m'.0 x did.told did.told_children (ap (λ (z : Seated Item Entry). z.0.number) did.me_is)
            (ap (λ (z : Seated Item Entry). z.0.requested) did.me_is) did.hears;
        kids = λ n done at full. cc;
        came = inr (inl (record { empty = λ n at. refl; rests = did.rests; most = did.most; unread = refl; unlotted = refl }));
        elsewhere = owed-elsewhere board x m m' starts taken-in-front;
      }

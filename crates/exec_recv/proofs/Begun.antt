-- A node whose start can begin can be stepped once it has begun, and all other starts can begin still.
use Rattle.std.proofs.Common.{◌≡◌, inl, ℕ, ◌≤◌, true, false, ◌||◌, ◌==◌, List, [], ◌∷◌, arith, refl, sym, ap, ◌∙◌, subst}
use Rattle.std.specs.Prelude.{Option, Some, None}
use Rattle.std.specs.List.{list_any}
use Rattle.std.specs.Option.{option_map_or}
use Rattle.std.proofs.lemmas.Bool.{both_ways, cond-true, cond-false, ne_eqb}
use Rattle.std.proofs.lemmas.Nat.{same_from_place}
use Rattle.std.proofs.lemmas.Option.{same_Some}
use Rattle.common_lemmas.specs.Sums.{one}
use Rattle.common_lemmas.proofs.Bool.{either}
use Rattle.life_rules.specs.declared.event.Name.{Name}
use Rattle.life_rules.specs.declared.event.SourceRef.{SourceRef}
use Rattle.life_rules.specs.States.{source_for}
use Rattle.life_rules.specs.Views.{same}
use Rattle.life_rules.proofs.Names.{same-refl, same-true}
use Rattle.node_tree.specs.Tree.{nearest}
use Rattle.plan_shape.specs.Blueprint.{Blueprint}
use Rattle.table_words.specs.Layouts.{place_number}
use Rattle.table_rules.specs.declared.view.Held.{Held}
use Rattle.table_rules.specs.declared.view.Owed.{Owed}
use Rattle.table_rules.specs.Named.{count_by, find_by, without, Each}
use Rattle.table_rules.specs.ShownViews.{has_source_ref}
use Rattle.table_steps.specs.Views.{Board, aimed}
use Rattle.table_steps.specs.Begins.{Begins, begun_as, start_shown}
use Rattle.table_steps.specs.Seats.{Seated}
use Rattle.table_steps.specs.Owing.{Owes}
use Rattle.table_steps.specs.Reports.{laid}
use Rattle.table_steps.specs.Slots.{AreApart, slot_of, kids_of, kept, has_seen, is_of_family, owed_at}
use Rattle.table_kept.proofs.Entries.{count-without, each-without}
use Rattle.op_slot.specs.Tends.{IsCalm, HasPlaces, Owes as OwesWith}
use Rattle.op_slot.proofs.Kept.{find-without}
use Rattle.op_slot.proofs.Tending.{renewed-same, begun-calm, begun-tends}
use Rattle.home_items.specs.contracts.item.ItemCargo.TheImpl.{ghosts}
use Rattle.home_items.specs.declared.entry.Entry.{Entry}
use Rattle.home_items.specs.declared.item.Item.{Item}
use Rattle.home_items.specs.Items.{start_in}
use Rattle.home_items.specs.Bounds.{least_of}
use Rattle.home_items.specs.Fits.{FitsHome}
use Rattle.exec_recv.specs.Beginnings.{CanStart, AllCanStart}
use Rattle.exec_recv.specs.Steppable.{CanStep}
use Rattle.exec_recv.proofs.Behind.{behind-laid, empty-laid}
use Rattle.exec_recv.proofs.Fitting.{fits-more, hears-still}

module _ {A : Type 0} (name : A → Name) where
  -- a name that isn't counted has no entry
  uncounted : (l : List A) (x : Name) → count_by name l x ≡ 0 → find_by name l x ≡ None
  uncounted [] x none = refl
  uncounted (e ∷ es) x none =
      either (same (name e) x)
      (λ t. let here : one (same (name e) x) ≡ 1 = ap one t in absurd (omega (arith, here, none)))
      (λ f. cond-false (same (name e) x) (Some e) (find_by name es x) f ∙ uncounted es x (omega (arith, none)))

  -- one that is counted once has none when its entry is taken out
  pub taken-out : (l : List A) (x : Name) → count_by name l x ≤ 1 → find_by name (without name l x) x ≡ None
  taken-out l x once =
      uncounted (without name l x) x
      (let here : one (same x x) ≡ 1 = ap one (same-refl x) in let less = count-without name l x x in omega (arith, once, here, less))

  -- so what is found after that is another
  pub other-found : (l : List A) (x y : Name) (e : A) → count_by name l x ≤ 1 → find_by name (without name l x) y ≡ Some e → same x y ≡ false
  other-found l x y e once found =
      either (same x y)
      (λ t. let none = taken-out l x once in let is = ap (find_by name (without name l x)) (same-true x y t) in absurd cc)
      (λ f. f)

-- the entry that is found keeps what each keeps, and is of that name
found-each : {A : Type 0} (name : A → Name) (P : A → Type 0) (l : List A) (x : Name) (e : A) → find_by name l x ≡ Some e → Each P l →
    P e × (name e ≡ x)
found-each name P [] x e found all = cc
found-each {A} name P (d ∷ ds) x e found all =
    either (same (name d) x)
    (λ t.
    let is : d ≡ e = same_Some d e (sym (cond-true (same (name d) x) (Some d) (find_by name ds x) t) ∙ found) in
    (subst P is all.0, ap name (sym is) ∙ same-true (name d) x t))
    (λ f. found-each name P ds x e (sym (cond-false (same (name d) x) (Some d) (find_by name ds x) f) ∙ found) all.1)

same-name : (x y : Name) → x.block ≡ y.block → x.generation ≡ y.generation → x.node ≡ y.node → x ≡ y
same-name x y block generation node = λ k. record { block = block k; generation = generation k; node = node k }

module _ (board : Board Blueprint) (y : Name) (places : HasPlaces board.frame y) (m m' : Seated Item Entry) (can : CanStart board y m)
    (starts : AllCanStart board m) (did : Begins ghosts (aimed board.frame y) m m') (apart : AreApart m'.1) where
  abbrev at_owed : Owed Entry → Name
  at_owed e = e.name

  -- what the renewal of the source left as it was
  middle-owed : did.middle.0.owed ≡ m.0.owed
  middle-owed = renewed-same board.frame y m did.middle did.renewed (λ (z : Seated Item Entry). z.0.owed) (λ i read left z. refl)

  middle-slots : did.middle.1 ≡ m.1
  middle-slots = renewed-same board.frame y m did.middle did.renewed (λ (z : Seated Item Entry). z.1) (λ i read left z. refl)

  middle-seen : did.middle.0.seen ≡ m.0.seen
  middle-seen = renewed-same board.frame y m did.middle did.renewed (λ (z : Seated Item Entry). z.0.seen) (λ i read left z. refl)

  pub owed-after : m'.0.owed ≡ without at_owed m.0.owed y
  owed-after =
      ap (λ (z : Seated Item Entry). z.0.owed) did.began.did.me_is ∙ ap (λ (l : List (Owed Entry)). without at_owed l y) middle-owed

  slots-after : m'.1 ≡ laid board.frame.layout y.block (kids_of board.frame.tree y.node) (λ _. None) m.1
  slots-after =
      ap (λ (z : Seated Item Entry). z.1) did.began.did.me_is
      ∙ empty-laid board.frame.layout y.block (kids_of board.frame.tree y.node) did.middle.1
      ∙ ap (laid board.frame.layout y.block (kids_of board.frame.tree y.node) (λ _. None)) middle-slots

  seen-after : m'.0.seen ≡ m.0.seen
  seen-after = ap (λ (z : Seated Item Entry). z.0.seen) did.began.did.me_is ∙ middle-seen

  -- a start that is owed still was owed before, and is another
  module _ (z : Name) (owed : Owed Entry) (owes : owed_at m'.0 z ≡ Some owed) where
    found-after : find_by at_owed (without at_owed m.0.owed y) z ≡ Some owed
    found-after = ap (λ (l : List (Owed Entry)). find_by at_owed l z) (sym owed-after) ∙ owes

    pub is-other : same y z ≡ false
    is-other = other-found at_owed m.0.owed y z owed can.once found-after

    owed-before : owed_at m.0 z ≡ Some owed
    owed-before = sym (find-without at_owed m.0.owed y z is-other) ∙ found-after

    could : CanStart board z m
    could = starts z (record { owed = owed; owes = owed-before })

    -- its home lies behind those of the children
    home-behind : (kept (slot_of board.frame.layout z) m'.1 ≡ Some (Some could.begin.item))
        × (list_any (λ n. place_number board.frame.layout y.block n == slot_of board.frame.layout z) (kids_of board.frame.tree y.node) ≡ false)
    home-behind =
        let slot = slot_of board.frame.layout z in
        let far = behind-laid board.frame.layout y.block (kids_of board.frame.tree y.node) (λ _. None) m.1 slot
        (Some could.begin.item) (subst (λ (cs : List (ℕ × Option Item)). AreApart cs) slots-after apart) could.begin.home in
        (ap (kept slot) slots-after ∙ far.0, far.1)

    -- and is another than that of y: what is owed in one block is of one generation
    own-other : (slot_of board.frame.layout y == slot_of board.frame.layout z) ≡ false
    own-other =
        ne_eqb (slot_of board.frame.layout y) (slot_of board.frame.layout z)
        (λ e.
        let at = same_from_place y.block y.node z.block z.node board.frame.layout.nodes can.place.node could.place.node e in
        let mine = found-each at_owed (λ e. e.name.block ≡ z.block → e.name.generation ≡ z.generation) m.0.owed y can.begin.owed can.begin.owes
        could.beside in
        let is : can.begin.owed.name ≡ y = mine.1 in
        let generation : y.generation ≡ z.generation =
        sym (ap (λ (n : Name). n.generation) is) ∙ mine.0 (ap (λ (n : Name). n.block) is ∙ at.0) in
        absurd (both_ways (same y z) is-other (ap (same y) (sym (same-name y z at.0 generation at.1)) ∙ same-refl y)))

    pub far-away : is_of_family board.frame.tree board.frame.layout y (slot_of board.frame.layout z) ≡ false
    far-away =
        ap (λ b. b || list_any (λ n. place_number board.frame.layout y.block n == slot_of board.frame.layout z) (kids_of board.frame.tree y.node)) own-other
        ∙ home-behind.1

    can-after : CanStart board z m'
    can-after =
        let c = could in
        record {
          place = c.place;
          begin = record {
            owed = c.begin.owed;
            owes = owes ∙ sym owed-before ∙ c.begin.owes;
            item = c.begin.item;
            home = home-behind.0;
            entry = c.begin.entry;
            start = c.begin.start;
            key = c.begin.key;
            drawn = c.begin.drawn;
            goes_on = c.begin.goes_on;
          };
          is_start = c.is_start;
          fit = subst (λ (l : List SourceRef). FitsHome c.begin.item z.node (option_map_or (has_source_ref l) (source_for z (nearest board.frame.tree z.node)) false))
              (sym seen-after) c.fit;
          once = subst (λ (l : List (Owed Entry)). count_by at_owed l z ≤ 1) (sym owed-after)
              (let less = count-without at_owed m.0.owed y z in let few = c.once in omega (arith, less, few));
          beside = subst (λ (l : List (Owed Entry)). Each (λ e. e.name.block ≡ z.block → e.name.generation ≡ z.generation) l) (sym owed-after)
              (each-without (λ e. e.name.block ≡ z.block → e.name.generation ≡ z.generation) at_owed m.0.owed y c.beside);
        }

  pub begun-starts : AllCanStart board m'
  begun-starts z owes = can-after z owes.owed owes.owes

  -- the starts that are owed still were owed before
  pub owed-still : (z : Name) → Owes m'.0 z → Owes m.0 z
  owed-still z owes = record { owed = owes.owed; owes = owed-before z owes.owed owes.owes }

  -- the hand holds the node, and beside it what it held
  pub begun-held : m'.0.held ≡ begun_as board.frame.tree y (start_in can.begin.item) did.began.did.told did.began.did.told_children ∷ m.0.held
  begun-held =
      ap (λ (z : Seated Item Entry). z.0.held) did.began.did.me_is
      ∙ ap (λ (i : Option (Option Item)). begun_as board.frame.tree y (start_shown ghosts i) did.began.did.told did.began.did.told_children ∷ did.middle.0.held)
      (ap (kept (slot_of board.frame.layout y)) middle-slots ∙ can.begin.home)
      ∙ ap (λ (l : List (Held Entry)). begun_as board.frame.tree y (start_in can.begin.item) did.began.did.told did.began.did.told_children ∷ l)
      (renewed-same board.frame y m did.middle did.renewed (λ (z : Seated Item Entry). z.0.held) (λ i read left z. refl))

  pub begun-steps : IsCalm m → m.0.runs ≡ [] → CanStep board y m'
  begun-steps calm unrun =
      let at = did.began.did in
      let item = can.begin.item in
      let has : OwesWith board.frame y can.begin.owed (Some item) m = record { owes = can.begin.owes; home = can.begin.home } in
      record {
        place = can.place;
        calm = begun-calm ghosts board.frame y m m' did calm;
        unrun = ap (λ (z : Seated Item Entry). z.0.runs) at.me_is
            ∙ renewed-same board.frame y m did.middle did.renewed (λ (z : Seated Item Entry). z.0.runs) (λ i read left z. refl) ∙ unrun;
        held = begun_as board.frame.tree y (start_in item) at.told at.told_children;
        item = item;
        kid = λ _. None;
        tends = begun-tends ghosts board.frame y m m' did can.begin.owed item places has;
        shows = refl;
        fit = fits-more item y.node (has_seen board.frame.tree m.0 y) at.told
            (λ (seen : has_seen board.frame.tree m.0 y ≡ true).
            at.seen (ap (λ (l : List SourceRef). option_map_or (has_source_ref l) (source_for y (nearest board.frame.tree y.node)) false) middle-seen ∙ seen))
            can.fit;
        goes_on = can.begin.goes_on;
        bound = subst (λ (i : Item). least_of i ≤ 0) (sym can.is_start) (omega arith);
        key = can.begin.key;
        hears = hears-still board.frame.tree did.middle.0 m'.0 y at.told at.told_children (ap (λ (z : Seated Item Entry). z.0.number) at.me_is)
            (ap (λ (z : Seated Item Entry). z.0.requested) at.me_is) at.hears;
        kids = λ n done below full. cc;
        came = inl (record { empty = λ n below. refl; named = refl; phase = refl; idle = refl; unbegun = can.is_start });
        elsewhere = λ z owed owes. far-away z owed owes;
      }

-- What became of the names that a loop was told of: each was taken, or left.
use Rattle.std.proofs.Common.{◌≡◌, ℕ, suc, ◌+◌, Bool, List, ◌++◌, append_assoc, sym, ap, ◌∙◌, subst}
use Rattle.std.specs.Prelude.{slice_get, Some}
use Rattle.std.proofs.Math.Numerals.{add-one}
use Rattle.std.proofs.lemmas.Option.{slice_get_within}
use Rattle.common_lemmas.proofs.Lists.{slice_get-append_left}
use Rattle.life_rules.specs.declared.event.Name.{Name}
use Rattle.plan_shape.specs.Blueprint.{Blueprint}
use Rattle.table_steps.specs.Views.{Board}
use Rattle.table_steps.specs.Seats.{Seated}
use Rattle.home_items.specs.declared.entry.Entry.{Entry}
use Rattle.home_items.specs.declared.item.Item.{Item}
use Rattle.exec_recv.specs.Asides.{KeepsAside}
use Rattle.exec_recv.specs.Sites.{Does}
use Rattle.exec_recv.proofs.Asiding.{aside-on}
use Rattle.node_walks.specs.Mails.{HearsAll}
use Rattle.run_loop.specs.declared.looped.Loop.{Loop as Looped}
use Rattle.run_loop.specs.Longer.{AreMoreNames}
use Rattle.run_loop.specs.Fetches.{HearsName}
use Rattle.run_loop.specs.Serves.{MayHelp, HandMoment, ServesOne}
use Rattle.run_loop.specs.Turns.{Meets, MeetsFirst, MeetsAll, TakesNamed, AreAllLeft}

module _ (does : Does) (board : Board Blueprint) (helps : Bool) where
  -- one name more
  pub met-more : (names : List Name) (count : ℕ) (name : Name) (m between m' : Seated Item Entry) → slice_get names count ≡ Some name →
      MeetsFirst does board helps names count m between → Meets does board helps name between m' →
      MeetsFirst does board helps names (count + 1) m m'
  met-more names count name m between m' there before meets =
      let all : MeetsFirst does board helps names (suc count) m m' =
      record { between = between; before = before; name = name; there = there; meets = meets }
      in
      subst (λ n. MeetsFirst does board helps names n m m') (sym (add-one count)) all

  -- a name whose node was taken
  pub named-one : (name : Name) (m m' : HandMoment) → HearsAll HearsName m.names m'.names (TakesNamed does board helps name m.me m'.me) →
      ServesOne does board (MayHelp helps) m m'
  named-one name m m' one =
      record {
        name = name;
        from = one.leaves.from;
        may_be = one.leaves.may_be;
        serves = record { ready = one.ready; leaves = one.leaves.serves; heard = one.heard };
      }

-- and something else after them
pub met-later : (does : Does) (board : Board Blueprint) (old between new : Looped) → MeetsAll does board old between →
    KeepsAside between.hand.me new.hand.me → MeetsAll does board old new
met-later does board old between new met next =
    record {
      names = met.names;
      fetches = met.fetches;
      longer = met.longer;
      meets = record {
        last = met.meets.last;
        each = met.meets.each;
        after = aside-on met.meets.last between.hand.me new.hand.me met.meets.after next;
      };
    }

-- names that became longer twice
pub longer-on : (names longer longest : List Name) → AreMoreNames names longer → AreMoreNames longer longest → AreMoreNames names longest
longer-on names longer longest first next =
    record {
      others = first.others ++ next.others;
      is = next.is ∙ ap (λ l. l ++ next.others) first.is ∙ append_assoc names first.others next.others;
    }

-- where names became longer, the first of them are as before
module _ (board : Board Blueprint) (helps : Bool) (m m' : Seated Item Entry) (names longer : List Name) (more : AreMoreNames names longer) where
  still : (k : ℕ) (name : Name) → slice_get names k ≡ Some name → slice_get longer k ≡ Some name
  still k name at =
      ap (λ l. slice_get l k) more.is ∙ slice_get-append_left names more.others k (slice_get_within names k name at) ∙ at

  pub left-fewer : AreAllLeft board m m' helps longer → AreAllLeft board m m' helps names
  left-fewer all k name below at = all k name (slice_get_within longer k name (still k name at)) (still k name at)

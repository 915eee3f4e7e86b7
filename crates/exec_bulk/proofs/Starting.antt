-- A bulk awaits its parts, and puts their starts into their homes, from the last part to the first.
use Rattle.std.proofs.Common.{◌≡◌, ℕ, suc, ◌+◌, ◌<◌, ◌≤◌, Bool, true, ℤ, List, [], ◌∷◌, refl, sym, ap, ◌∙◌, subst, arith}
use Rattle.std.specs.Prelude.{Some}
use Rattle.std.specs.List.{range_with_len}
use Rattle.std.proofs.lemmas.List.FromFn.{length-range_with_len}
use Rattle.exec_value.specs.declared.data.Datum.{Datum}
use Rattle.exec_value.specs.declared.data.Datum.TheVariants.{Row}
use Rattle.life_rules.specs.declared.event.Name.{Name}
use Rattle.life_rules.specs.Views.{beside}
use Rattle.plan_shape.specs.Blueprint.{Blueprint}
use Rattle.table_steps.specs.Slots.{has_seen}
use Rattle.table_steps.specs.Views.{Board, Stays}
use Rattle.home_items.specs.declared.entry.Entry.{Entry}
use Rattle.home_items.specs.Contents.{Rest}
use Rattle.home_items.specs.Entries.{asked_of, start_with}
use Rattle.home_items.specs.Items.{lot_of}
use Rattle.home_items.specs.Parcels.{Delivery}
use Rattle.home_items.specs.Starts.{IsStart}
use Rattle.exec_recv.specs.declared.next.Next.TheVariants.{Rest as IsAtRest}
use Rattle.exec_recv.specs.Seats.{HandSeat}
use Rattle.exec_recv.proofs.Fitting.{sees-more}
use Rattle.step_parts.specs.Awaits.{AwaitsMany}
use Rattle.step_parts.specs.Puts.{MayPutStart, PutsStart}
use Rattle.step_parts.specs.Stepping.{Stepping}
use Rattle.step_parts.specs.Takes.{Keeps}
use Rattle.step_parts.proofs.AllStarted.{IsPutting, putting-none, putting-more, putting-all}
use Rattle.exec_bulk.specs.Begins.{MayStart, StartsParts}
use Rattle.exec_bulk.specs.Rows.{first_part, numbers_in, parts_for}
use Rattle.exec_bulk.proofs.Begun.{awaits-sees, part-starts, parts-kids, parts-places, put-may, row-rests}
use Rattle.exec_bulk.proofs.Ranges.{range-at}

module _ (board : Board Blueprint) (t : Stepping) (parcel : Delivery) (row : List Datum) (hand : HandSeat) where
  abbrev count : ℕ
  count = parts_for (numbers_in parcel.completion)

  abbrev begun : List ℕ
  begun = range_with_len (first_part t.name.node) count

  abbrev lot : List ℤ
  lot = lot_of (Rest t.start (Some parcel))

  -- The parts are awaited. The starts of the first so many are owed, and those of the others were put.
  pub record ArePut (left : ℕ) (waiting m : HandSeat) : Type 0 where
    pub start : MayStart board t parcel row hand
    pub read : HandSeat
    pub reads : Keeps board t hand read
    pub awaits : AwaitsMany board t (Some parcel) begun read waiting
    pub puts : IsPutting board t.name t.start lot begun left waiting m

  -- none was put yet
  pub none-put : MayStart board t parcel row hand → (read : HandSeat) → Keeps board t hand read → (children : List ℕ) → children ≡ begun →
      (waiting : HandSeat) → AwaitsMany board t (Some parcel) children read waiting → (many : ℕ) → many ≡ count → ArePut many waiting waiting
  none-put start read reads children children_is waiting awaited many many_is =
      let awaits = subst (λ ns. AwaitsMany board t (Some parcel) ns read waiting) children_is awaited in
      record {
        start = start;
        read = read;
        reads = reads;
        awaits = awaits;
        puts = subst (λ k. IsPutting board t.name t.start lot begun k waiting waiting)
            (length-range_with_len (first_part t.name.node) count ∙ sym many_is) (putting-none board t (Some parcel) begun read waiting awaits);
      }

  -- all were put
  pub all-put : (waiting new : HandSeat) → ArePut 0 waiting new → StartsParts board t parcel IsAtRest hand new
  all-put waiting new put =
      record {
        steps = putting-all board t (Some parcel) begun put.read waiting new put.awaits put.puts;
        next_is = refl;
        read = put.read;
        reads = put.reads;
        waiting = waiting;
        awaits = put.awaits;
        owed = put.puts.owed;
      }

  -- The next is put, of this node n.
  module _ (left less : ℕ) (one : left ≡ suc less) (within : left ≤ count) (waiting m : HandSeat) (put : ArePut left waiting m)
      (name : Name) (name_is : name ≡ t.name) (first : ℕ) (first_is : first ≡ first_part name.node) (n : ℕ) (n_is : n ≡ first + less)
      (args : List Datum) (args_is : args ≡ row) (asked : Bool) (asked_is : asked ≡ asked_of t.start) (above : List Entry)
      (above_is : above ≡ t.start) where
    inside : less < count
    inside = omega (arith, one, within)

    at : n ≡ first_part t.name.node + less
    at = n_is ∙ ap (λ k. k + less) (first_is ∙ ap (λ (y : Name). first_part y.node) name_is)

    place : beside name n ≡ beside t.name (first_part t.name.node + less)
    place = ap (λ (y : Name). beside y n) name_is ∙ ap (beside t.name) at

    abbrev below : List Entry
    below = start_with (first_part t.name.node + less) (Row (numbers_in parcel.completion) ∷ []) (asked_of t.start) t.start

    below-is : start_with n args asked above ≡ below
    below-is =
        ap (λ k. start_with k args asked above) at
        ∙ ap (λ r. start_with (first_part t.name.node + less) r asked above) (args_is ∙ put.start.row_is)
        ∙ ap (λ b. start_with (first_part t.name.node + less) (Row (numbers_in parcel.completion) ∷ []) b above) asked_is
        ∙ ap (start_with (first_part t.name.node + less) (Row (numbers_in parcel.completion) ∷ []) (asked_of t.start)) above_is

    pub next-starts : IsStart (start_with n args asked above)
    next-starts = subst IsStart (sym below-is) (part-starts board t parcel hand put.start.may less inside)

    sees : parcel.saw ≡ true → has_seen board.frame.tree m.me.0 t.name ≡ true
    sees saw =
        sees-more board.frame.tree waiting.me m.me t.name put.puts.aside.sees
        (awaits-sees board t (Some parcel) begun put.read waiting put.awaits
        ∙ sees-more board.frame.tree hand.me put.read.me t.name put.reads.ready.beside.aside.sees (put.start.seen saw))

    before : IsPutting board t.name t.start lot begun (suc less) waiting m
    before = subst (λ k. IsPutting board t.name t.start lot begun k waiting m) one put.puts

    module _ (sent : List Entry) (sent_is : sent ≡ start_with n args asked above) where
      pub next-may : MayPutStart board (beside name n) sent m.me
      next-may =
          subst (λ (z : Name). MayPutStart board z sent m.me) (sym place)
          (subst (λ s. MayPutStart board (beside t.name (first_part t.name.node + less)) s m.me) (sym (sent_is ∙ below-is))
          (put-may board t parcel hand put.start.may less inside m sees lot (row-rests board t parcel hand put.start.may) waiting before))

      pub next-put : (new : HandSeat) → Stays board m new → PutsStart board (beside name n) sent m.me new.me → ArePut less waiting new
      next-put new stays done =
          record {
            start = put.start;
            read = put.read;
            reads = put.reads;
            awaits = put.awaits;
            puts = putting-more board t.name t.start lot begun less waiting m new before (parts-places board t parcel hand put.start.may)
                (parts-kids board t parcel hand put.start.may) (omega (arith, inside, length-range_with_len (first_part t.name.node) count))
                (beside name n) (place ∙ sym (ap (beside t.name) (range-at (first_part t.name.node) count less inside))) sent stays done;
          }

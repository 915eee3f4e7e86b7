use Rattle.std.proofs.Common.{◌≡◌, inl, inr, Bool, ℕ, length, subst}
use Rattle.std.specs.Prelude.{Err}
use Rattle.exec_value.specs.declared.outcome.Completion.{Completion}
use Rattle.plan_shape.specs.Blueprint.{Blueprint}
use Rattle.table_steps.specs.Views.{Board}
use Rattle.home_items.specs.Parcels.{Delivery}
use Rattle.node_images.specs.Joined.{Tells}
use Rattle.node_images.specs.declared.join.NoRoom.{NoRoom}
use Rattle.exec_recv.specs.declared.next.Next.{Next}
use Rattle.exec_recv.specs.Seats.{HandSeat}
use Rattle.start_laws.specs.AllEnds.{all_ends, all_saw}
use Rattle.step_parts.specs.Completes.{Completes}
use Rattle.step_parts.specs.Stepping.{Stepping}
use Rattle.exec_all.proofs.Ended.{no-want, wants-none, wants-some, want-memory, end-fits, large-memory, end-tells}
use Rattle.exec_all.proofs.Walking.{want-none}
use Rattle.exec_all.proofs.ending.end_all.Goals as goal

-- with what was made
completes-so : (board : Board Blueprint) (t : Stepping) (ends : ℕ → Delivery) (n : ℕ) (done : Completion) (saw : Bool) (next : Next)
    (old new : HandSeat) → (done ≡ all_ends ends n) × (saw ≡ all_saw ends n) → Completes board t done saw next old new →
    Completes board t (all_ends ends n) (all_saw ends n) next old new
completes-so board t ends n done saw next old new is completes =
    subst (λ (s : Bool). Completes board t (all_ends ends n) s next old new) is.1
    (subst (λ (d : Completion). Completes board t d saw next old new) is.0 completes)

pub want_memory-requires : goal.want_memory-requires
want_memory-requires g c =
    record {
      may = want-memory c.args.site.now c.args.taken c.args.joining c.args.hand.now c.requires.may c.wants_memory.result c.wants_memory.ensures
          c.if-wants_memory.true;
    }

pub complete-requires : goal.complete-requires
complete-requires g c =
    let may = c.requires.may in
    let none = no-want c.args.site.now c.args.taken c.args.joining c.args.hand.now may c.wants_memory.result c.wants_memory.ensures
    c.if-wants_memory.false in
    record {
      may = end-tells c.args.site.now c.args.taken c.args.joining c.args.hand.now may none c.finish.new.done c.in-Ok.saw
          (c.in-Ok.ensures may.have.ends (length may.children) may.have.joined none).ok;
    }

pub want_memory-requires-in-Err-Memory : goal.want_memory-requires-in-Err-Memory
want_memory-requires-in-Err-Memory g c =
    let may = c.requires.may in
    let none = no-want c.args.site.now c.args.taken c.args.joining c.args.hand.now may c.wants_memory.result c.wants_memory.ensures
    c.if-wants_memory.false in
    record {
      may = large-memory c.args.site.now c.args.taken c.args.joining c.args.hand.now may none
          (subst (λ (why : NoRoom). Tells (Err why) (all_ends may.have.ends (length may.children))) c.in-Err-Memory.field-0-is
          (c.in-Err-Memory.ensures may.have.ends (length may.children) may.have.joined none).err);
    }

pub unreachable-requires : goal.unreachable-requires
unreachable-requires g c =
    let may = c.requires.may in
    let none = no-want c.args.site.now c.args.taken c.args.joining c.args.hand.now may c.wants_memory.result c.wants_memory.ensures
    c.if-wants_memory.false in
    end-fits c.args.site.now c.args.taken c.args.joining c.args.hand.now may none
    (subst (λ (why : NoRoom). Tells (Err why) (all_ends may.have.ends (length may.children))) c.in-Err-Limit.field-0-is
    (c.in-Err-Limit.ensures may.have.ends (length may.children) may.have.joined none).err)

pub returns-then-wants_memory-clause-ends : goal.returns-then-wants_memory-clause-ends
returns-then-wants_memory-clause-ends g c =
    record {
      wants = λ may want. c.want_memory.ensures;
      ends = λ may none.
          wants-some c.args.site.now c.args.taken c.args.joining c.args.hand.now may c.wants_memory.result c.wants_memory.ensures
          c.if-wants_memory.true none;
    }

pub returns-in-Ok-clause-ends : goal.returns-in-Ok-clause-ends
returns-in-Ok-clause-ends g c =
    record {
      wants = λ may want.
          wants-none c.args.site.now c.args.taken c.args.joining c.args.hand.now may c.wants_memory.result c.wants_memory.ensures
          c.if-wants_memory.false want;
      ends = λ may is.
          let none = want-none may.have.ends (length may.children) is in
          inl (completes-so c.args.site.now c.args.taken may.have.ends (length may.children) c.finish.new.done c.in-Ok.saw c.complete.result
          c.args.hand.now c.complete.new.hand (c.in-Ok.ensures may.have.ends (length may.children) may.have.joined none).ok
          c.complete.ensures);
    }

pub returns-in-Err-Memory-clause-ends : goal.returns-in-Err-Memory-clause-ends
returns-in-Err-Memory-clause-ends g c =
    record {
      wants = λ may want.
          wants-none c.args.site.now c.args.taken c.args.joining c.args.hand.now may c.wants_memory.result c.wants_memory.ensures
          c.if-wants_memory.false want;
      ends = λ may is.
          let none = want-none may.have.ends (length may.children) is in
          inr (
            subst (λ (why : NoRoom). Tells (Err why) (all_ends may.have.ends (length may.children))) c.in-Err-Memory.field-0-is
                (c.in-Err-Memory.ensures may.have.ends (length may.children) may.have.joined none).err,
            c.want_memory-in-Err-Memory.ensures,
          );
    }

use Rattle.std.proofs.Common.{◌≡◌, ℕ, [], ◌∙◌, subst}
use Rattle.std.specs.Prelude.{Option, Some, None, Result, Ok, Err}
use Rattle.std.proofs.lemmas.Result.{err_from_is_err_and}
use Rattle.exec_value.specs.declared.outcome.Completion.{Completion}
use Rattle.exec_value.specs.declared.outcome.Completion.TheVariants.{Value}
use Rattle.home_items.specs.Parcels.{Delivery}
use Rattle.node_images.specs.Joined.{Tells}
use Rattle.node_images.specs.declared.join.NoRoom.{NoRoom}
use Rattle.start_laws.specs.AllEnds.{late_ends, all_ends}
use Rattle.exec_all.specs.declared.joining.Joining.{Joining}
use Rattle.exec_all.specs.Joined.{NoneWants, TellsLate, IsJoined}
use Rattle.exec_all.proofs.Walking.{alone, tells-ok}
use Rattle.exec_all.proofs.joining.Joining.finish.Goals as goal
use Rattle.exec_all.proofs.joining.Joining.finish.Goals.{in-None+in_ok-put_together-in-None, in-Some+in_ok-put_late-in-Some}

module _ (joining : Joining) (ends : ℕ → Delivery) (n : ℕ) (is : IsJoined joining ends n) where
  late-is : (late : Option (Result Completion NoRoom)) → joining.late ≡ late → TellsLate late (late_ends ends n (Value []))
  late-is late e = subst (λ o. TellsLate o (late_ends ends n (Value []))) e is.late

  -- where none failed late
  front-alone : NoneWants ends n → (put : Result Completion NoRoom) → joining.late ≡ None → joining.front ≡ put → Tells put (all_ends ends n)
  front-alone none put nothing e =
      subst (λ r. Tells r (all_ends ends n)) e (alone ends n joining.front none is.front (late-is None nothing))

pub returns-in_err-put_together-in-None : goal.returns-in_err-put_together-in-None
returns-in_err-put_together-in-None c ends n is none =
    let p = err_from_is_err_and c.from_residual.result c.from_residual.ensures.1 in
    let at = c.in_err-put_together-in-None in
    rw (p.1, p.2) (record { ok = tt; err = front-alone c.args.self ends n is none (Err at.field-0.0) c.in-None.is at.ensures.err })

pub returns-in_err-put_late-in-Some : goal.returns-in_err-put_late-in-Some
returns-in_err-put_late-in-Some c ends n is none =
    let p = err_from_is_err_and c.from_residual-in_err-put_late-in-Some.result c.from_residual-in_err-put_late-in-Some.ensures.1 in
    let late = late-is c.args.self ends n is (Some c.in-Some.late) c.in-Some.is in
    rw (p.1, p.2) (record { ok = tt; err = (c.in_err-put_late-in-Some.ensures ends n none is.front late).err })

pub returns : goal.returns
returns c ends n is none =
    tells-ok ends n c.match-late.done c.saw_together.result
    (elim c.match-late.branch [
      | in-None+in_ok-put_together-in-None w ↦
          let put = w.put_together.new.done in
          w.done-is ∙ front-alone c.args.self ends n is none (Ok put) w.in-None.is w.in_ok-put_together-in-None.ensures.ok
      | in-Some+in_ok-put_late-in-Some w ↦
          let late = late-is c.args.self ends n is (Some w.in-Some.late) w.in-Some.is in
          w.done-is ∙ (w.in_ok-put_late-in-Some.ensures ends n none is.front late).ok
    ])
    (c.saw_together.ensures ends n is.sees)

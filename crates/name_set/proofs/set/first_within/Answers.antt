use Rattle.std.proofs.Common.{sym, subst}
use Rattle.std.specs.Prelude.{◌*◌, length, MatchOption}
use Rattle.name_set.specs.Sets.{NoneBelow, IsFirst}
use Rattle.name_set.proofs.Windows.{window-none, window-first}
use Rattle.name_set.proofs.set.first_within.Goals as goal

pub returns-in_err-place : goal.returns-in_err-place
returns-in_err-place c =
    subst (λ o. MatchOption o (NoneBelow c.args.bits.now (64 * length c.args.bits.now)) (IsFirst c.args.bits.now))
    (sym c.from_residual.ensures)
    (window-none c.args.bits.now c.args.low c.args.high c.requires.within c.in_err-place.ensures)

pub returns : goal.returns
returns c = window-first c.args.bits.now c.args.low c.args.high c.requires.within c.in_ok-place.place c.in_ok-place.ensures

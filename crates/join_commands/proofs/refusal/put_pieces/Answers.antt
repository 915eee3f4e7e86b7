use Rattle.std.proofs.Common.{List, ℕ, refl}
use Rattle.std.specs.Borrow.{Bor}
use Rattle.exec_io.proofs.PutsLemmas.{Puts-item, Puts-item_stop}
use Rattle.join_commands.proofs.refusal.put_pieces.Goals as goal

pub loop-piece-preserved : goal.loop-piece-preserved
loop-piece-preserved g c =
    Puts-item (λ (p : Bor (List ℕ)). p.now) c.args.pieces.now c.loop-piece.piece-index _ _ refl c.loop-piece-test.true c.loop-piece.invariant c.in_ok-put_bytes.ensures

pub returns-in_err-put_bytes : goal.returns-in_err-put_bytes
returns-in_err-put_bytes g c =
    Puts-item_stop (λ (p : Bor (List ℕ)). p.now) c.args.pieces.now c.loop-piece.piece-index _ _ refl c.loop-piece-test.true
    c.from_residual.ensures.0 c.loop-piece.invariant c.in_err-put_bytes.ensures

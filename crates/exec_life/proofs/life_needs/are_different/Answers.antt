use Rattle.std.proofs.Common.{◌≡◌, ℕ, ◌+◌, ◌-◌, ◌<◌, Bool, true, false, not, ◌&&◌, List, length, get_or, take, drop, sym, ap, ◌∙◌}
use Rattle.std.specs.List.{list_any}
use Rattle.std.specs.Prelude.{◌==◌}
use Rattle.std.proofs.lemmas.List.{at_drop_all, at_drop_more, take_rest}
use Rattle.common_lemmas.specs.Lists.{are_different}
use Rattle.exec_life.proofs.life_needs.are_different.Goals as goal

-- r says whether number i stands behind itself once more
different-rest : (ns : List ℕ) (i : ℕ) (r : Bool) → i < length ns →
    r ≡ list_any (λ m. m == get_or ns i 0) (take (length ns - (i + 1)) (drop (i + 1) ns)) →
    are_different (drop i ns) ≡ (not r && are_different (drop (i + 1) ns))
different-rest ns i r within again =
    let any : List ℕ → Bool = list_any (λ m. m == get_or ns i 0) in
    let read : any (drop (i + 1) ns) ≡ r = sym (again ∙ ap any (take_rest ns (i + 1))) in
    at_drop_more are_different ns i 0 within
    ∙ ap (λ t. not t && are_different (drop (i + 1) ns)) read

pub loop-index-preserved : goal.loop-index-preserved
loop-index-preserved c =
    c.loop-index.invariant
    ∙ different-rest c.args.nodes.now c.loop-index.index false c.loop-index-test.true
    c.if-contains.ensures.value

pub returns-then-contains : goal.returns-then-contains
returns-then-contains c =
    sym (c.loop-index.invariant
    ∙ different-rest c.args.nodes.now c.loop-index.index true c.loop-index-test.true
    c.if-contains.ensures.value)

pub returns : goal.returns
returns c =
    sym (c.loop-index.invariant
    ∙ at_drop_all are_different c.args.nodes.now c.loop-index.index c.loop-index-test.false)

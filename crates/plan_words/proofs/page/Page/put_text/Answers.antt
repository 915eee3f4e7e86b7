use Rattle.std.proofs.Common.{◌≡◌, ◌<◌, ℕ, List, length, get_or, refl, subst, arith}
use Rattle.std.proofs.lemmas.List.{take_rest}
use Rattle.plan_words.specs.Seen.{IsInText, seen_in}
use Rattle.plan_words.proofs.LongLemmas.{on_in_text}
use Rattle.plan_words.proofs.page.Page.put_text.Goals as goal

pub bytes-preserved : goal.bytes-preserved
bytes-preserved c is =
    let within : c.bytes.index < length c.args.bytes.now = omega arith in
    on_in_text c.args.self.now.text c.args.bytes.now c.bytes.index c.bytes.self.text c.cut_text.new.self.text
    c.put.new.self.text (get_or c.args.bytes.now c.bytes.index 0) c.bytes.can_cut c.can_cut_behind-can_cut.result
    within refl (c.bytes.invariant is)
    (subst (λ (bs : List ℕ). IsInText c.bytes.can_cut bs (seen_in c.bytes.self.text) → seen_in c.cut_text.new.self.text ≡ seen_in c.bytes.self.text)
    (take_rest c.args.bytes.now c.bytes.index) c.in_ok-cut_text.ensures)
    c.in_ok-put.ensures.text c.can_cut_behind-can_cut.ensures

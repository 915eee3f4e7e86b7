use Rattle.std.proofs.Common.{◌+◌, ◌-◌, ℕ, List, length, drop, ◌∙◌, arith, length-drop}
use Rattle.std.proofs.lemmas.List.{take_all}
use Rattle.join_commands.proofs.ReadingLaws.{no_cut, word_cut}
use Rattle.join_commands.proofs.reading.cut_word.Goals as goal

pub returns-in-Some : goal.returns-in-Some
returns-in-Some c = λ word more free is.
    let text : List ℕ = c.args.text.now in
    let end : ℕ = c.in-Some.end in
    let cut = word_cut text word more end c.in-Some.ensures free is in
    record {
      word_is = cut.0;
      rest_is = take_all (length text - (end + 1)) (drop (end + 1) text) (omega (arith, length-drop (end + 1) text)) ∙ cut.1;
    }

pub returns-in-None : goal.returns-in-None
returns-in-None c = λ word more free is. no_cut c.args.text.now word more c.in-None.ensures is

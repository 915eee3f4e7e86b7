use Rattle.std.proofs.Common.{ℕ, List, [], ◌∷◌, ◌++◌, replicate, append_assoc, ap, ◌∙◌}
use Rattle.plan_words.proofs.page.Page.line.Goals as goal

pub returns : goal.returns
returns c = record {
  columns = c.columns._column;
  text_is =
      c.columns.invariant.text
      ∙ ap (λ (t : List ℕ). t ++ replicate c.columns._column 32) (c.start_line.ensures.text ∙ c.in_ok-put.ensures.text)
      ∙ append_assoc c.args.self.now.text (10 ∷ []) (replicate c.columns._column 32);
  apart_is = c.columns.invariant.apart ∙ c.start_line.ensures.apart;
}

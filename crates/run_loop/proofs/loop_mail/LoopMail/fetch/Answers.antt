use Rattle.std.proofs.Common.{◌∙◌, inl, inr, refl, sym, subst, arith, vec_len}
use Rattle.std.proofs.lemmas.Bool.{eqb-true, eqb-false}
use Rattle.common_lemmas.proofs.Bool.{either}
use Rattle.run_loop.specs.Fetches.{FetchesWhere}
use Rattle.run_loop.proofs.Fetched.{is-empty, has-some}
use Rattle.run_loop.proofs.loop_mail.LoopMail.fetch.Goals as goal

pub returns-then-not-helps-clause-fetches : goal.returns-then-not-helps-clause-fetches
returns-then-not-helps-clause-fetches g c =
    subst (λ h. FetchesWhere h c.args.self.now c.args.self.now) (sym c.if-not-helps.true) refl

pub returns-then-not-is_empty-clause-fetches : goal.returns-then-not-is_empty-clause-fetches
returns-then-not-is_empty-clause-fetches g c =
    let old = c.args.self.now in
    subst (λ h. FetchesWhere h old old) (sym c.if-not-helps.false)
    (inr (
      has-some old.list.items
          (λ none. eqb-false (vec_len old.list) 0 (sym c.is_empty.ensures ∙ c.if-not-is_empty.true) (omega (arith, none, old.list.ok.0))),
      refl,
    ))

pub returns-clause-fetches : goal.returns-clause-fetches
returns-clause-fetches g c =
    let old = c.args.self.now in
    let one = c.fetch_one.ensures in
    let none = eqb-true (vec_len old.list) 0 (sym c.is_empty.ensures ∙ c.if-not-is_empty.false) in
    subst (λ h. FetchesWhere h old c.fetch_one.new.self) (sym c.if-not-helps.false)
    (inl (
      is-empty old.list.items (omega (arith, none, old.list.ok.0)),
      either c.fetch_one.result (λ found. inl (one.one found)) (λ none. inr (one.none none)),
    ))

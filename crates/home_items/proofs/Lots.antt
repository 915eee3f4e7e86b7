-- What children draw of their parent's item.
use Rattle.std.proofs.Common.{◌≡◌, ◌≢◌, ◌<◌, ◌≤◌, inl, inr, ℕ, nat_lt, ℤ, List, [], length, Option, Some, refl, sym, ◌∙◌}
use Rattle.std.proofs.lemmas.Bool.{cases_lt, cond-false, cond-true, le-ltb, lt-ltb}
use Rattle.plan_rules.specs.declared.node.Node.{Node}
use Rattle.plan_rules.specs.declared.node.Node.TheVariants.{Part}
use Rattle.plan_kinds.specs.Built.{IsNoPart}
use Rattle.home_items.specs.Entries.{row_lot, no_row, no_share, drawn_by}

row-some : (row : List ℤ) → row_lot row ≢ []
row-some row e = cc

share-some : no_share ≢ []
share-some e = cc

pub no-row : (row : List ℤ) → row_lot row ≢ no_row
no-row row e = cc

share-no-row : no_share ≢ no_row
share-no-row e = cc

share-row : (row : List ℤ) → no_share ≢ row_lot row
share-row row e = cc

same-row : (a b : List ℤ) → row_lot a ≡ row_lot b → a ≡ b
same-row a b e = cc

module _ (bulk part : ℕ) (whole : List ℤ) where
  abbrev of : Option Node
  of = Some (Part bulk part)

  -- a part draws the row that it shows, where that has a number for it
  pub part-draws : part < length whole → drawn_by of whole ≡ row_lot whole
  part-draws within = cond-true (nat_lt part (length whole)) (row_lot whole) no_share (lt-ltb part (length whole) within)

  past-draws : length whole ≤ part → drawn_by of whole ≡ no_share
  past-draws past = cond-false (nat_lt part (length whole)) (row_lot whole) no_share (le-ltb part (length whole) past)

  -- it never draws nothing, nor no row
  part-some : drawn_by of whole ≢ []
  part-some e =
      elim (cases_lt part (length whole)) [
        | inl within ↦ row-some whole (sym (part-draws within) ∙ e)
        | inr past ↦ share-some (sym (past-draws past) ∙ e)
      ]

  pub part-no-row : drawn_by of whole ≢ no_row
  part-no-row e =
      elim (cases_lt part (length whole)) [
        | inl within ↦ no-row whole (sym (part-draws within) ∙ e)
        | inr past ↦ share-no-row (sym (past-draws past) ∙ e)
      ]

  -- where it draws a row, that is the one that it shows, which has a number for it
  pub part-row : (row : List ℤ) → drawn_by of whole ≡ row_lot row → (whole ≡ row) × (part < length whole)
  part-row row e =
      elim (cases_lt part (length whole)) [
        | inl within ↦ (same-row whole row (sym (part-draws within) ∙ e), within)
        | inr past ↦ absurd (share-row row (sym (past-draws past) ∙ e))
      ]

-- each child draws something
pub draws-some : (o : Option Node) (whole : List ℤ) → drawn_by o whole ≢ []
draws-some (Some (Part bulk part)) whole e = part-some bulk part whole e
draws-some o whole e = cc

-- what is no part draws no row
pub plain-draws : (o : Option Node) (whole : List ℤ) → IsNoPart o → drawn_by o whole ≡ no_row
plain-draws (Some (Part bulk part)) whole plain = absurd plain
plain-draws o whole plain = refl

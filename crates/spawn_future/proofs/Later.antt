-- What was read or moved since an earlier moment, while the list of steps grows.
use Rattle.std.proofs.Common.{◌≡◌, ℕ, List, ◌++◌, append_assoc, sym, ap, ◌∙◌}
use Rattle.std.proofs.lemmas.List.Elements.{Contains-append_left, Contains-append_right}
use Rattle.listed_words.specs.declared.seen.Seen.{Seen}
use Rattle.listed_words.specs.Lists.{entry}
use Rattle.table_steps.specs.Seats.{Seated}
use Rattle.home_items.specs.declared.entry.Entry.{Entry}
use Rattle.home_items.specs.declared.item.Item.{Item}
use Rattle.exec_recv.specs.Since.{HasMovedSince, HasReadSince}

module _ (i : ℕ) (says : ℕ → ℕ → Type 0) (m between m' : Seated Item Entry) where
  -- a word that was moved is so still, seen from later
  pub moved-later : HasMovedSince i says m between → (fresh : List Seen) → m'.0.steps ≡ fresh ++ between.0.steps → HasMovedSince i says m m'
  moved-later moved fresh grown =
      record {
        fresh = fresh ++ moved.fresh;
        grown = grown ∙ ap (λ (l : List Seen). fresh ++ l) moved.grown ∙ sym (append_assoc fresh moved.fresh m.0.steps);
        word = moved.word;
        left = moved.left;
        there = Contains-append_right fresh moved.fresh (entry i moved.word moved.left) moved.there;
        said = moved.said;
      }

  -- and from earlier
  pub moved-earlier : (fresh : List Seen) → between.0.steps ≡ fresh ++ m.0.steps → HasMovedSince i says between m' → HasMovedSince i says m m'
  moved-earlier fresh grown moved =
      record {
        fresh = moved.fresh ++ fresh;
        grown = moved.grown ∙ ap (λ (l : List Seen). moved.fresh ++ l) grown ∙ sym (append_assoc moved.fresh fresh m.0.steps);
        word = moved.word;
        left = moved.left;
        there = Contains-append_left moved.fresh fresh (entry i moved.word moved.left) moved.there;
        said = moved.said;
      }

-- and so is one that was read
module _ (i : ℕ) (says : ℕ → Type 0) (m between m' : Seated Item Entry) where
  pub read-later : HasReadSince i says m between → (fresh : List Seen) → m'.0.steps ≡ fresh ++ between.0.steps → HasReadSince i says m m'
  read-later read fresh grown = moved-later i (λ word left. says word) m between m' read fresh grown

  pub read-earlier : (fresh : List Seen) → between.0.steps ≡ fresh ++ m.0.steps → HasReadSince i says between m' → HasReadSince i says m m'
  read-earlier fresh grown read = moved-earlier i (λ word left. says word) m between m' fresh grown read

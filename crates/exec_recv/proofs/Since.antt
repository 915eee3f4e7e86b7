-- What was read since an earlier moment is known from earlier and later moments too.
use Rattle.std.proofs.Common.{◌≡◌, ℕ, List, [], ◌∷◌, ◌++◌, append_assoc, arith, refl, sym, ap, ◌∙◌}
use Rattle.std.proofs.lemmas.List.Elements.{Contains-append_left, Contains-append_right}
use Rattle.listed_words.specs.declared.seen.Seen.{Seen}
use Rattle.listed_words.specs.Lists.{entry}
use Rattle.table_steps.specs.Seats.{Seated}
use Rattle.home_items.specs.declared.entry.Entry.{Entry}
use Rattle.home_items.specs.declared.item.Item.{Item}
use Rattle.exec_recv.specs.Asides.{KeepsAside}
use Rattle.exec_recv.specs.Since.{HasMovedSince, HasReadSince}

-- a step that lists itself
pub moved-one : (i read left : ℕ) (says : ℕ → ℕ → Type 0) (m m' : Seated Item Entry) → m'.0.steps ≡ entry i read left ∷ m.0.steps →
    says read left → HasMovedSince i says m m'
moved-one i read left says m m' steps said =
    record {
      fresh = entry i read left ∷ [];
      grown = steps;
      word = read;
      left = left;
      there = (0, omega arith, refl);
      said = said;
    }

-- a step of before is one still, seen from earlier and later
module _ (i : ℕ) (says : ℕ → ℕ → Type 0) (m between m' : Seated Item Entry) where
  pub moved-before : KeepsAside m between → HasMovedSince i says between m' → HasMovedSince i says m m'
  moved-before aside moved =
      record {
        fresh = moved.fresh ++ aside.fresh;
        grown = moved.grown ∙ ap (λ (l : List Seen). moved.fresh ++ l) aside.grown ∙ sym (append_assoc moved.fresh aside.fresh m.0.steps);
        word = moved.word;
        left = moved.left;
        there = Contains-append_left moved.fresh aside.fresh (entry i moved.word moved.left) moved.there;
        said = moved.said;
      }

  pub moved-after : HasMovedSince i says m between → KeepsAside between m' → HasMovedSince i says m m'
  moved-after moved aside =
      record {
        fresh = aside.fresh ++ moved.fresh;
        grown = aside.grown ∙ ap (λ (l : List Seen). aside.fresh ++ l) moved.grown ∙ sym (append_assoc aside.fresh moved.fresh m.0.steps);
        word = moved.word;
        left = moved.left;
        there = Contains-append_right aside.fresh moved.fresh (entry i moved.word moved.left) moved.there;
        said = moved.said;
      }

module _ (i : ℕ) (says : ℕ → Type 0) (m between m' : Seated Item Entry) where
  pub since-before : KeepsAside m between → HasReadSince i says between m' → HasReadSince i says m m'
  since-before aside read = moved-before i (λ word left. says word) m between m' aside read

  pub since-after : HasReadSince i says m between → KeepsAside between m' → HasReadSince i says m m'
  since-after read aside = moved-after i (λ word left. says word) m between m' read aside

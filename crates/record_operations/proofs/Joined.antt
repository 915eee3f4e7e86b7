-- Where a join answers that the scope is joined, a step of the hand left it so.
use Rattle.std.proofs.Common.{◌≡◌, inl, Bool, true, refl, sym, ◌∙◌, subst}
use Rattle.std.proofs.lemmas.Bool.{cond-true}
use Rattle.count_scope.specs.Looks.{Reads}
use Rattle.life_rules.specs.declared.scope.ScopeState.TheVariants.{Joined}
use Rattle.life_rules.specs.declared.scope.ScopeWord.{ScopeWord}
use Rattle.life_rules.specs.Scopes.{scope_state}
use Rattle.table_words.specs.ScopeNumbers.{scope_read}
use Rattle.table_steps.specs.Seats.{Seated}
use Rattle.home_items.specs.declared.entry.Entry.{Entry}
use Rattle.home_items.specs.declared.item.Item.{Item}
use Rattle.record_operations.specs.Ends.{HasJoined}

-- a word with the joined bit set is joined
joined-state : (w : ScopeWord) → w.joined ≡ true → scope_state w ≡ Joined
joined-state w set = cond-true w.joined Joined _ set

-- so a hand that read that it is joined has seen it
pub read-joined : (answer : Bool) (m m' : Seated Item Entry) →
    Reads (λ (w : ScopeWord). w.joined) answer m m' → answer ≡ true → HasJoined m'.0
read-joined answer m m' read set =
    subst (λ (z : Seated Item Entry). HasJoined z.0) (sym read.me_is)
    (inl
    (record {
      index_is = refl;
      state_is = joined-state (scope_read read.word) (sym read.answer_is ∙ set);
    }))

-- A loop that was told of nodes: the names that it knows, and that it is otherwise as before.
use Rattle.std.proofs.Common.{◌≡◌, ℕ, ◌+◌, ◌<◌, ◌≤◌, List, length, get_or, drop, refl, sym, ap, ◌∙◌, subst}
use Rattle.std.proofs.Math.Numerals.{add-one}
use Rattle.std.proofs.lemmas.List.{drop_all}
use Rattle.node_walks.specs.declared.mail.ReadyNode.{ReadyNode}
use Rattle.node_walks.specs.Mails.{HearsEach}
use Rattle.run_loop.specs.declared.looped.Loop.{Loop as Looped}
use Rattle.run_loop.specs.declared.loop_mail.LoopMail.{LoopMail}
use Rattle.run_loop.specs.Fetches.{HearsName}
use lib.Seq.{drop-cons}

-- of one after others
pub told-on : (first old new : Looped) → old ≡ record first { names = old.names } → new ≡ record old { names = new.names } →
    new ≡ record first { names = new.names }
told-on first old new was is = is ∙ ap (λ (l : Looped). record l { names = new.names }) was

module _ (nodes : List ReadyNode) (first : LoopMail) where
  -- With the nodes from this place on the loop was told of all, in their order.
  abbrev pub Completes : ℕ → LoopMail → Type 0
  Completes place names =
      (last : LoopMail) → HearsEach HearsName (drop place nodes) names last → HearsEach HearsName nodes first last

  -- so it is after one more of the items of a list that is this one
  pub completes-one : (items : List ReadyNode) → items ≡ nodes → (place : ℕ) (names next : LoopMail) (d : ReadyNode) → place < length items →
      Completes place names → HearsName (get_or items place d).name (get_or items place d).on names next → Completes (place + 1) next
  completes-one items is place names next d within so_far heard last others =
      let here : place < length nodes = subst (λ (l : List ReadyNode). place < length l) is within in
      so_far last
      (subst (λ (l : List ReadyNode). HearsEach HearsName l names last) (sym (drop-cons nodes place d here))
      (record {
        between = next;
        first = subst (λ (l : List ReadyNode). HearsName (get_or l place d).name (get_or l place d).on names next) is heard;
        others = subst (λ (n : ℕ). HearsEach HearsName (drop n nodes) next last) (add-one place) others;
      }))

  -- and after all of them
  pub completes-all : (place : ℕ) (names : LoopMail) → length nodes ≤ place → Completes place names → HearsEach HearsName nodes first names
  completes-all place names past so_far =
      so_far names (subst (λ (l : List ReadyNode). HearsEach HearsName l names names) (sym (drop_all place nodes past)) refl)

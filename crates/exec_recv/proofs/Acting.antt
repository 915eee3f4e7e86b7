-- Lists of steps in which each callback acts that begins to run there.
use Rattle.std.proofs.Common.{◌≡◌, ◌⊎◌, inl, inr, ℕ, List, [], ◌∷◌, ◌++◌, append_assoc, refl, sym, ap, ◌∙◌, subst}
use Rattle.std.proofs.lemmas.List.Elements.{Contains-append_left, Contains-append_right}
use Rattle.life_rules.specs.declared.event.Name.{Name}
use Rattle.life_rules.specs.declared.event.SourceRef.{SourceRef}
use Rattle.life_rules.specs.declared.event.SourceRef.TheVariants.{Scope, Node}
use Rattle.listed_words.specs.declared.seen.Seen.{Seen}
use Rattle.listed_words.specs.Lists.{entry}
use Rattle.plan_shape.specs.Blueprint.{Blueprint}
use Rattle.table_words.specs.Layouts.{Spot, TheScope, TheScopeSource, OfBlock, OfControl, OfCallback, OfSource, IsSpot, index}
use Rattle.table_rules.specs.Named.{Each}
use Rattle.table_steps.specs.Views.{Board}
use Rattle.table_steps.specs.Seats.{Seated}
use Rattle.home_items.specs.declared.entry.Entry.{Entry}
use Rattle.home_items.specs.declared.item.Item.{Item}
use Rattle.exec_recv.specs.Areas.{IsOfBlock, IsOfAny, IsWithin}
use Rattle.exec_recv.specs.Actions.{BeginsRun, HasActed, AllAct, ListsActions}

module _ {A : Type 0} where
  heads : (a b : A) (k l : List A) → a ∷ k ≡ b ∷ l → a ≡ b
  heads a b k l is = cc

  tails : (a b : A) (k l : List A) → a ∷ k ≡ b ∷ l → k ≡ l
  tails a b k l is = cc

  -- an element of two lists in a row is one of the first, or of the second
  split-at : (front back later earlier : List A) (e : A) → front ++ back ≡ later ++ e ∷ earlier →
      ((mid : List A) × (front ≡ later ++ e ∷ mid)) ⊎ ((mid : List A) × (later ≡ front ++ mid) × (back ≡ mid ++ e ∷ earlier))
  split-at [] back later earlier e is = inr (later, refl, is)
  split-at (d ∷ front) back [] earlier e is =
      inl (front, ap (λ (h : A). h ∷ front) (heads d e (front ++ back) earlier is))
  split-at (d ∷ front) back (h ∷ later) earlier e is =
      let head = heads d h (front ++ back) (later ++ e ∷ earlier) is in
      let tail = tails d h (front ++ back) (later ++ e ∷ earlier) is in
      elim (split-at front back later earlier e tail) [
        | inl w ↦ inl (w.0, ap (λ (l : List A). d ∷ l) w.1 ∙ ap (λ (k : A). k ∷ later ++ e ∷ w.0) head)
        | inr w ↦ inr (w.0, ap (λ (k : A). k ∷ later) (sym head) ∙ ap (λ (l : List A). d ∷ l) w.1, w.2)
      ]

  pub each-both : (P : A → Type 0) (front back : List A) → Each P front → Each P back → Each P (front ++ back)
  each-both P [] back first second = second
  each-both P (e ∷ front) back first second = (first.0, each-both P front back first.1 second)

  each-at : (P : A → Type 0) (later earlier : List A) (e : A) → Each P (later ++ e ∷ earlier) → P e
  each-at P [] earlier e all = all.0
  each-at P (d ∷ later) earlier e all = each-at P later earlier e all.1

module _ (board : Board Blueprint) where
  -- the step begins no run
  abbrev pub BeginsNone : Seen → Type 0
  BeginsNone step = (y : Name) → BeginsRun board y step → ⊥

  -- the list grew by steps that begin no run, and that a scan of the source may make
  module _ (source : SourceRef) where
    pub record AddsOthers (l l' : List Seen) : Type 0 where
      pub made : List Seen
      pub is : l' ≡ made ++ l
      pub others : Each BeginsNone made
      pub within : Each (IsWithin board source) made

    pub others-here : (l l' : List Seen) → l' ≡ l → AddsOthers l l'
    others-here l l' is = record { made = []; is = is; others = tt; within = tt }

    pub others-one : (step : Seen) (l l' : List Seen) → l' ≡ step ∷ l → BeginsNone step → IsWithin board source step → AddsOthers l l'
    others-one step l l' is none within = record { made = step ∷ []; is = is; others = (none, tt); within = (within, tt) }

    pub others-on : (a b c : List Seen) → AddsOthers a b → AddsOthers b c → AddsOthers a c
    others-on a b c first second =
        record {
          made = second.made ++ first.made;
          is = second.is ∙ ap (λ (l : List Seen). second.made ++ l) first.is ∙ sym (append_assoc second.made first.made a);
          others = each-both BeginsNone second.made first.made second.others first.others;
          within = each-both (IsWithin board source) second.made first.made second.within first.within;
        }

  -- a step on a word of a place of the block of x
  pub place-within : (x : Name) (spot : Spot) → IsSpot board.frame.layout spot → IsOfBlock x.block spot → (read left : ℕ) →
      IsWithin board (Node x) (entry (index board.frame.layout spot) read left)
  place-within x spot is of read left = inr (record { spot = spot; is = is; may = of; index_is = refl })

  -- the scan of this source may come to x
  abbrev pub MayReach : SourceRef → Name → Type 0
  MayReach Scope x = Unit {0}
  MayReach (Node y) x = x.block ≡ y.block

  any-block : (block : ℕ) (spot : Spot) → IsOfBlock block spot → IsOfAny spot
  any-block block TheScope of = absurd of
  any-block block TheScopeSource of = absurd of
  any-block block (OfBlock b) of = absurd of
  any-block block (OfControl b n) of = tt
  any-block block (OfCallback b n) of = tt
  any-block block (OfSource b n) of = tt

  -- so what may move in the block of x may move in that scan
  pub within-more : (source : SourceRef) (x : Name) → MayReach source x → (step : Seen) → IsWithin board (Node x) step → IsWithin board source step
  within-more source x reach step (inl look) = inl look
  within-more Scope x reach step (inr move) =
      inr (record { spot = move.spot; is = move.is; may = any-block x.block move.spot move.may; index_is = move.index_is })
  within-more (Node y) x reach step (inr move) =
      inr (record {
        spot = move.spot;
        is = move.is;
        may = subst (λ (b : ℕ). IsOfBlock b move.spot) reach move.may;
        index_is = move.index_is;
      })

  pub all-more : (source : SourceRef) (x : Name) → MayReach source x → (l : List Seen) → Each (IsWithin board (Node x)) l → Each (IsWithin board source) l
  all-more source x reach [] all = tt
  all-more source x reach (step ∷ l) all = (within-more source x reach step all.0, all-more source x reach l all.1)

  module _ (plan : Blueprint) where
    acted-left : (front back : List Seen) (y : Name) → HasActed board plan y front → HasActed board plan y (front ++ back)
    acted-left front back y did =
        record {
          wakes = λ turns at. let w = did.wakes turns at in (w.0, Contains-append_left front back w.0 w.1, w.2);
          passes_on = λ children at. let w = did.passes_on children at in (w.0, Contains-append_left front back w.0 w.1, w.2);
        }

    acted-right : (front back : List Seen) (y : Name) → HasActed board plan y back → HasActed board plan y (front ++ back)
    acted-right front back y did =
        record {
          wakes = λ turns at. let w = did.wakes turns at in (w.0, Contains-append_right front back w.0 w.1, w.2);
          passes_on = λ children at. let w = did.passes_on children at in (w.0, Contains-append_right front back w.0 w.1, w.2);
        }

    pub others-act : (l : List Seen) → Each BeginsNone l → AllAct board plan l
    others-act l none later earlier step is y begins =
        absurd (each-at BeginsNone later earlier step (subst (Each BeginsNone) is none) y begins)

    pub act-on : (first second : List Seen) → AllAct board plan first → AllAct board plan second → AllAct board plan (second ++ first)
    act-on first second before after later earlier step is y begins =
        elim (split-at second first later earlier step is) [
          | inl w ↦ after later w.0 step w.1 y begins
          | inr w ↦
              subst (HasActed board plan y) (sym w.1)
              (acted-right second w.0 y (before w.0 earlier step w.2 y begins))
        ]

    -- the run of x alone begins with a step, before it are others, and after it x acts
    module _ (x : Name) (newest : Seen) (of : (y : Name) → BeginsRun board y newest → y ≡ x) (others : List Seen) (none : Each BeginsNone others) (acts : List Seen) (act : AllAct board plan acts) (acted : HasActed board plan x acts) where
      in-due : (mid earlier : List Seen) (step : Seen) → newest ∷ others ≡ mid ++ step ∷ earlier → (y : Name) → BeginsRun board y step →
          HasActed board plan y (acts ++ mid)
      in-due [] earlier step is y begins =
          let step_is = sym (heads newest step others earlier is) in
          let y_is : y ≡ x = of y (subst (BeginsRun board y) step_is begins) in
          acted-left acts [] y (subst (λ (z : Name). HasActed board plan z acts) (sym y_is) acted)
      in-due (d ∷ mid) earlier step is y begins =
          let rest = tails newest d others (mid ++ step ∷ earlier) is in
          absurd (each-at BeginsNone mid earlier step (subst (Each BeginsNone) rest none) y begins)

      pub due-act : AllAct board plan (acts ++ newest ∷ others)
      due-act later earlier step is y begins =
          elim (split-at acts (newest ∷ others) later earlier step is) [
            | inl w ↦ act later w.0 step w.1 y begins
            | inr w ↦ subst (HasActed board plan y) (sym w.1) (in-due w.0 earlier step w.2 y begins)
          ]

    -- one call after the other
    pub lists-others : (source : SourceRef) (m m' : Seated Item Entry) → AddsOthers source m.0.steps m'.0.steps → ListsActions board plan source m m'
    lists-others source m m' adds =
        record { steps = record { made = adds.made; is = adds.is }; within = adds.within; act = others-act adds.made adds.others }

    pub lists-on : (source : SourceRef) (m m1 m2 : Seated Item Entry) → ListsActions board plan source m m1 → ListsActions board plan source m1 m2 →
        ListsActions board plan source m m2
    lists-on source m m1 m2 first second =
        record {
          steps = record {
            made = second.steps.made ++ first.steps.made;
            is =
                second.steps.is ∙ ap (λ (l : List Seen). second.steps.made ++ l) first.steps.is
                ∙ sym (append_assoc second.steps.made first.steps.made m.0.steps);
          };
          within = each-both (IsWithin board source) second.steps.made first.steps.made second.within first.within;
          act = act-on first.steps.made second.steps.made first.act second.act;
        }

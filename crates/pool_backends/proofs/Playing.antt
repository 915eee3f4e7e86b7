-- What follows for every list of calls of a lawful backend.
use Rattle.std.proofs.Common.{◌≡◌, ◌+◌, List, [], ◌∷◌, ◌++◌, append_assoc, append-nil, arith, sym, ap, ◌∙◌}
use Rattle.std.specs.Prelude.{cond}
use Rattle.std.proofs.lemmas.List.Sums.{sum_by-append}
use Rattle.life_rules.specs.declared.event.Name.{Name}
use Rattle.life_rules.specs.Views.{same}
use Rattle.pool_backends.specs.declared.order.Order.{Order}
use Rattle.pool_backends.specs.declared.order.Order.TheVariants.{Fifo, Lifo}
use Rattle.pool_backends.specs.Stocks.{Stock, with_next}
use Rattle.pool_backends.specs.Calls.{Arranged, Submitted, HandedBack, HandedOut, FoundNone, came_in, went_out, times, NamesGoOutOnce, FirstComeFirstOut}

-- how often the name stands in two lists, one after the other
times-append : (x : Name) (first next : List Name) → times x (first ++ next) ≡ times x first + times x next
times-append x first next = sum_by-append (λ other. cond (same x other) 1 0) first next

-- and where one name comes first
times-cons : (x name : Name) (rest : List Name) → times x (name ∷ rest) ≡ times x (name ∷ []) + times x rest
times-cons x name rest = times-append x (name ∷ []) rest

-- whichever name goes out next, it is one of those that are pending
times-next : (x : Name) (order : Order) (name : Name) (rest : List Name) →
    times x (with_next order name rest) ≡ times x (name ∷ []) + times x rest
times-next x Fifo name rest = times-cons x name rest
times-next x Lifo name rest = let e = times-append x rest (name ∷ []) in omega (arith, e)

pub once : NamesGoOutOnce
once [] old new is x =
    let e : times x new.pending ≡ times x old.pending = ap (λ (s : Stock). times x s.pending) is in omega (arith, e)
once (Arranged order ∷ calls) old new does x =
    let e : times x does.0.pending ≡ times x old.pending = ap (λ (s : Stock). times x s.pending) does.1 in
    let later = once calls does.0 new does.2 x in
    omega (arith, e, later)
once (Submitted name ∷ calls) old new does x =
    let e : times x does.0.pending ≡ times x (old.pending ++ name ∷ []) = ap (λ (s : Stock). times x s.pending) does.1.is in
    let both = times-append x old.pending (name ∷ []) in
    let came : times x (came_in (Submitted name ∷ calls)) ≡ times x (name ∷ []) + times x (came_in calls) =
    times-cons x name (came_in calls) in
    let later = once calls does.0 new does.2 x in
    omega (arith, e, both, came, later)
once (HandedBack name ∷ calls) old new does x =
    let e : times x does.0.pending ≡ times x old.pending = ap (λ (s : Stock). times x s.pending) does.1.same in
    let later = once calls does.0 new does.2 x in
    omega (arith, e, later)
once (HandedOut name ∷ calls) old new does x =
    let e : times x old.pending ≡ times x (with_next old.arranged name does.0.pending) = ap (λ l. times x l) does.1.names in
    let both = times-next x old.arranged name does.0.pending in
    let went : times x (went_out (HandedOut name ∷ calls)) ≡ times x (name ∷ []) + times x (went_out calls) =
    times-cons x name (went_out calls) in
    let later = once calls does.0 new does.2 x in
    omega (arith, e, both, went, later)
once (FoundNone ∷ calls) old new does x =
    let e : times x does.0.pending ≡ times x old.pending = ap (λ (s : Stock). times x s.pending) does.1.same in
    let later = once calls does.0 new does.2 x in
    omega (arith, e, later)

pub in-order : FirstComeFirstOut
in-order [] old new is fifo keeps = ap (λ (s : Stock). s.pending) is ∙ sym (append-nil old.pending)
in-order (Arranged order ∷ calls) old new does fifo keeps = absurd keeps
in-order (Submitted name ∷ calls) old new does fifo keeps =
    in-order calls does.0 new does.2 (ap (λ (s : Stock). s.arranged) does.1.is ∙ fifo) keeps
    ∙ ap (λ (s : Stock). s.pending ++ came_in calls) does.1.is
    ∙ append_assoc old.pending (name ∷ []) (came_in calls)
in-order (HandedBack name ∷ calls) old new does fifo keeps =
    in-order calls does.0 new does.2 (ap (λ (s : Stock). s.arranged) does.1.same ∙ fifo) keeps
    ∙ ap (λ (s : Stock). s.pending ++ came_in calls) does.1.same
in-order (HandedOut name ∷ calls) old new does fifo keeps =
    let was : old.pending ≡ name ∷ does.0.pending =
    does.1.names ∙ ap (λ order. with_next order name does.0.pending) fifo in
    ap (λ l. name ∷ l) (in-order calls does.0 new does.2 (ap (λ (s : Stock). s.arranged) does.1.rest ∙ fifo) keeps)
    ∙ sym (ap (λ l. l ++ came_in calls) was)
in-order (FoundNone ∷ calls) old new does fifo keeps =
    in-order calls does.0 new does.2 (ap (λ (s : Stock). s.arranged) does.1.same ∙ fifo) keeps
    ∙ ap (λ (s : Stock). s.pending ++ came_in calls) does.1.same

-- How the cause of a fault is told on by the calls around the one that found it.
use Rattle.std.proofs.Common.{◌≡◌, inl, inr, ℕ, ◌<◌, Bool, Result, Ok, Err, sym, ap, subst, true}
use Rattle.std.specs.Prelude.{Option, IfErr, IsErrAnd}
use Rattle.life_rules.specs.declared.event.Name.{Name}
use Rattle.life_rules.specs.declared.event.SourceRef.{SourceRef}
use Rattle.life_rules.specs.declared.event.SourceRef.TheVariants.{Node}
use Rattle.node_tree.specs.Tree.{has_source}
use Rattle.life_rules.specs.Views.{beside}
use Rattle.atomic_table.specs.declared.shared.Seat.{Seat}
use Rattle.table_rules.specs.declared.view.View.{View}
use Rattle.table_steps.specs.Views.{Board}
use Rattle.table_steps.specs.Seats.{Seated}
use Rattle.stop_calls.specs.declared.requesting.Request.TheVariants.{Made}
use Rattle.stop_calls.specs.declared.scanning.Scan.{Scan}
use Rattle.stop_calls.specs.Requests.{IsAskedFor}
use Rattle.table_use.specs.declared.cargo.Item.{Item}
use Rattle.table_use.specs.declared.cargo.Entry.{Entry}
use Rattle.table_use.specs.declared.node.Fault.{Fault}
use Rattle.table_use.specs.declared.node.Fault.TheVariants.{Begun, Registered, Asked, Moved, OtherPlace, Order}
use Rattle.table_use.specs.Uses.{use_tree, IsRoot}
use Rattle.table_use.specs.Causes.{GoesOn, CameToNone, IsUnheard, WasFree, WasRegistered, IsNodeCause, IsStartCause, IsStopCause, IsCauseIn, IsScanCause, IsCause}
use Rattle.table_use.proofs.Steps.{one-longer, on, stays, steps_of, through-on}
use Rattle.table_use.proofs.Readings.{just-within, just-on, read-within, read-on}

-- an error is passed up as it is
pub passed : {T : Type 0} (r : Result T Fault) (fault : Fault) (P : Fault → Type 0) → IsErrAnd r (λ y. y ≡ fault) → P fault → IfErr r P
passed (Ok x) fault P is cause = tt
passed (Err y) fault P is cause = subst P (sym is) cause

module _ (board : Board ℕ) where
  unheard-on : (source : SourceRef) (m m1 : Seated Item Entry) → IsUnheard board source m m1 → GoesOn m m1
  unheard-on source m m1 u =
      on m u.before.me m1 u.began
      (on u.before.me u.first.me m1 (one-longer _ u.before.me.0.steps u.first.me.0.steps (ap steps_of u.requested.me_is))
      (on u.first.me u.came.last.me m1 (through-on board u.scan u.came.after u.first u.came.last u.came.through) u.came.went_on))

  pub came-on : (scan : Scan) (old : Seat (Option Item) (View Item Entry)) (m m1 : Seated Item Entry) → CameToNone board scan old m → GoesOn m m1 →
      CameToNone board scan old m1
  came-on scan old m m1 came more =
      record { last = came.last; after = came.after; through = came.through; went_on = on came.last.me m m1 came.went_on more }

  -- a cause that came in a part of a call
  pub node-within : (m m1 m2 : Seated Item Entry) → GoesOn m m1 → (x : Name) (fault : Fault) → IsNodeCause board m1 m2 x fault →
      IsNodeCause board m m2 x fault
  node-within m m1 m2 first x Begun cause = (cause.0, cause.1, (just-within board _ _ m m1 m2 first cause.2.0, cause.2.1))
  node-within m m1 m2 first x Registered cause = (cause.0, cause.1, (just-within board _ _ m m1 m2 first cause.2.0, cause.2.1))
  node-within m m1 m2 first x fault cause = absurd cause

  pub start-within : (m m1 m2 : Seated Item Entry) → GoesOn m m1 → (x : Name) (fault : Fault) → IsStartCause board m1 m2 x fault →
      IsStartCause board m m2 x fault
  start-within m m1 m2 first x Begun cause = node-within m m1 m2 first x Begun cause
  start-within m m1 m2 first x Registered cause = node-within m m1 m2 first x Registered cause
  start-within m m1 m2 first x Asked cause = (cause.0, cause.1, read-within board _ _ m m1 m2 m2 first cause.2 (stays m2))
  start-within m m1 m2 first x fault cause = absurd cause

  pub node-start : (m m1 : Seated Item Entry) (x : Name) (fault : Fault) → IsNodeCause board m m1 x fault → IsStartCause board m m1 x fault
  node-start m m1 x Begun cause = cause
  node-start m m1 x Registered cause = cause
  node-start m m1 x fault cause = absurd cause

  pub stop-within : (m m1 m2 m3 : Seated Item Entry) → GoesOn m m1 → GoesOn m2 m3 → (x : Name) (fault : Fault) →
      IsStopCause board m1 m2 x fault → IsStopCause board m m3 x fault
  stop-within m m1 m2 m3 first more x Asked cause = (cause.0, cause.1, read-within board _ _ m m1 m2 m3 first cause.2 more)
  stop-within m m1 m2 m3 first more x Moved cause =
      let u = cause.2 in (
        cause.0,
        cause.1,
        record {
          before = u.before;
          began = on m m1 u.before.me first u.began;
          first = u.first;
          scan = u.scan;
          failure = u.failure;
          requested = u.requested;
          came = came-on u.scan u.first m2 m3 u.came more;
        },
      )
  stop-within m m1 m2 m3 first more x OtherPlace cause = read-within board _ _ m m1 m2 m3 first cause more
  stop-within m m1 m2 m3 first more x fault cause = absurd cause

  module _ (m m1 : Seated Item Entry) where
    -- the node itself was registered
    pub registered-here : (x : Name) → x.node < 3 → WasRegistered board m m1 x → IsNodeCause board m m1 x Registered
    registered-here x low cause = (x.node, low, cause)

    pub node-on : (x : Name) (fault : Fault) → IsNodeCause board m m1 x fault → GoesOn m m1
    node-on x Begun cause = just-on board _ _ m m1 cause.2.0
    node-on x Registered cause = just-on board _ _ m m1 cause.2.0
    node-on x fault cause = absurd cause

    start-on : (x : Name) (fault : Fault) → IsStartCause board m m1 x fault → GoesOn m m1
    start-on x Begun cause = node-on x Begun cause
    start-on x Registered cause = node-on x Registered cause
    start-on x Asked cause = read-on board _ _ m m1 cause.2
    start-on x fault cause = absurd cause

    stop-on : (x : Name) (fault : Fault) → IsStopCause board m m1 x fault → GoesOn m m1
    stop-on x Asked cause = read-on board _ _ m m1 cause.2
    stop-on x Moved cause = unheard-on _ m m1 cause.2
    stop-on x OtherPlace cause = read-on board _ _ m m1 cause
    stop-on x fault cause = absurd cause

    -- and of another node of the operation
    start-beside : (x : Name) (n : ℕ) (fault : Fault) → IsStartCause board m m1 (beside x n) fault → IsStartCause board m m1 x fault
    start-beside x n Begun cause = cause
    start-beside x n Registered cause = cause
    start-beside x n Asked cause = cause
    start-beside x n fault cause = absurd cause

    pub start-at : (x y : Name) (n : ℕ) → y ≡ beside x n → (fault : Fault) → IsStartCause board m m1 y fault → IsStartCause board m m1 x fault
    start-at x y n name fault cause =
        start-beside x n fault (subst (λ (z : Name). IsStartCause board m m1 z fault) name cause)

    node-beside : (x : Name) (n : ℕ) (fault : Fault) → IsNodeCause board m m1 (beside x n) fault → IsNodeCause board m m1 x fault
    node-beside x n Begun cause = cause
    node-beside x n Registered cause = cause
    node-beside x n fault cause = absurd cause

    pub node-at : (x y : Name) (n : ℕ) → y ≡ beside x n → (fault : Fault) → IsNodeCause board m m1 y fault → IsNodeCause board m m1 x fault
    node-at x y n name fault cause =
        node-beside x n fault (subst (λ (z : Name). IsNodeCause board m m1 z fault) name cause)

    stop-beside : (x : Name) (n : ℕ) (fault : Fault) → IsStopCause board m m1 (beside x n) fault → IsStopCause board m m1 x fault
    stop-beside x n Asked cause = cause
    stop-beside x n Moved cause = cause
    stop-beside x n OtherPlace cause = cause
    stop-beside x n fault cause = absurd cause

    pub stop-at : (x y : Name) (n : ℕ) → y ≡ beside x n → (fault : Fault) → IsStopCause board m m1 y fault → IsStopCause board m m1 x fault
    stop-at x y n name fault cause =
        stop-beside x n fault (subst (λ (z : Name). IsStopCause board m m1 z fault) name cause)

    pub start-in : (x : Name) (fault : Fault) → IsStartCause board m m1 x fault → IsCauseIn board m m1 x fault
    start-in x Order cause = absurd cause
    start-in x fault cause = inl cause

    pub stop-in : (x : Name) (fault : Fault) → IsStopCause board m m1 x fault → IsCauseIn board m m1 x fault
    stop-in x Order cause = absurd cause
    stop-in x fault cause = inr cause

    cause-on : (x : Name) (fault : Fault) → IsCauseIn board m m1 x fault → GoesOn m m1
    cause-on x Order cause = just-on board _ _ m m1 cause
    cause-on x fault cause = elim cause [ inl start ↦ start-on x fault start | inr stop ↦ stop-on x fault stop ]

  cause-within : (m m1 m2 : Seated Item Entry) → GoesOn m m1 → (x : Name) (fault : Fault) → IsCauseIn board m1 m2 x fault → IsCauseIn board m m2 x fault
  cause-within m m1 m2 first x Order cause = just-within board _ _ m m1 m2 first cause
  cause-within m m1 m2 first x fault cause =
      elim cause [
        | inl start ↦ inl (start-within m m1 m2 first x fault start)
        | inr stop ↦ inr (stop-within m m1 m2 m2 first (stays m2) x fault stop)
      ]

  pub free-on : (x : Name) (m m1 m2 : Seated Item Entry) → WasFree board m m1 x → GoesOn m1 m2 → WasFree board m m2 x
  free-on x m m1 m2 free more = read-within board _ _ m m m1 m2 (stays m) free more

  -- a fault of the operation of the root that was claimed
  pub started : (old new : Seat (Option Item) (View Item Entry)) (m : Seated Item Entry) (root : Name) → IsRoot board root → WasFree board old.me m root →
      (fault : Fault) → IsCauseIn board m new.me root fault → IsCause board old new fault
  started old new m root is free fault cause =
      inr
      (record {
        root = root;
        is_root = is;
        free = free-on root old.me m new.me free (cause-on m new.me root fault cause);
        cause = cause-within old.me m new.me (read-on board _ _ old.me m free) root fault cause;
      })

  -- a fault of a scan, while the hand goes on, and with the request that began it
  pub scan-then : (root : Name) (scan : Scan) (old mid new : Seat (Option Item) (View Item Entry)) → GoesOn mid.me new.me → (fault : Fault) →
      IsScanCause board root scan old mid fault → IsScanCause board root scan old new fault
  scan-then root scan old mid new more Moved cause =
      elim cause [
        | inl came ↦ inl (came-on scan old mid.me new.me came more)
        | inr stop ↦ inr (stop-within old.me old.me mid.me new.me (stays old.me) more root Moved stop)
      ]
  scan-then root scan old mid new more fault cause = stop-within old.me old.me mid.me new.me (stays old.me) more root fault cause

  requested-on : (root : Name) (failure : Bool) (scan : Scan) (old first : Seat (Option Item) (View Item Entry)) →
      IsAskedFor board (Node root) failure (Made scan) old first →
      GoesOn old.me first.me
  requested-on root failure scan old first requested = one-longer _ old.me.0.steps first.me.0.steps (ap steps_of requested.me_is)

  pub scan-stop : (root : Name) → has_source use_tree root.node ≡ true → (failure : Bool) (scan : Scan) (old first new : Seat (Option Item) (View Item Entry)) →
      IsAskedFor board (Node root) failure (Made scan) old first → (fault : Fault) → IsScanCause board root scan first new fault →
      IsStopCause board old.me new.me root fault
  scan-stop root has failure scan old first new requested Moved cause =
      elim cause [
        | inl came ↦ (
          root.node,
          has,
          record { before = old; began = stays old.me; first = first; scan = scan; failure = failure; requested = requested; came = came },
        )
        | inr stop ↦ stop-within old.me first.me new.me new.me (requested-on root failure scan old first requested) (stays new.me) root Moved stop
      ]
  scan-stop root has failure scan old first new requested fault cause =
      stop-within old.me first.me new.me new.me (requested-on root failure scan old first requested) (stays new.me) root fault cause

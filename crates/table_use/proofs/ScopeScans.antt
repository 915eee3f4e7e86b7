-- The scope's source is scanned, alone, while a root's callback hears it.
use Rattle.std.proofs.Common.{◌≡◌, ℕ, ◌+◌, ◌≤◌, List, [], ◌∷◌, refl, sym, ap, ◌∙◌, subst, arith}
use Rattle.std.specs.Prelude.{Option, None}
use Rattle.life_rules.specs.declared.event.Name.{Name}
use Rattle.life_rules.specs.declared.event.SourceRef.{SourceRef}
use Rattle.life_rules.specs.declared.event.SourceRef.TheVariants.{Node}
use Rattle.common_lemmas.specs.Sums.{one}
use Rattle.common_lemmas.proofs.Bool.{one-is}
use Rattle.life_rules.specs.Views.{same}
use Rattle.life_rules.proofs.Names.{same-true}
use Rattle.atomic_table.specs.declared.shared.Seat.{Seat}
use Rattle.table_rules.specs.declared.view.View.{View}
use Rattle.table_rules.specs.declared.view.Scanning.{Scanning}
use Rattle.table_rules.specs.Named.{count_by}
use Rattle.table_rules.specs.ShownViews.{scan_in}
use Rattle.table_steps.specs.Views.{Board}
use Rattle.table_steps.specs.Seats.{Seated}
use Rattle.table_steps.specs.Remembers.{running}
use Rattle.table_steps.specs.RunEnds.{IsOwnWithdrawn}
use Rattle.table_steps.specs.ScanSeals.{drops}
use Rattle.stop_calls.specs.declared.scanning.Scan.{Scan}
use Rattle.stop_calls.specs.declared.removing.Withdrawn.{Withdrawn}
use Rattle.stop_calls.specs.declared.removing.Withdrawn.TheVariants.{NeverRan, Ran, OwnHand, Running}
use Rattle.stop_calls.specs.Removals.{MayEndRun, IsOver, IsTried}
use Rattle.stop_calls.specs.Walks.{IsFound, IsThrough}
use Rattle.table_use.specs.declared.cargo.Item.{Item}
use Rattle.table_use.specs.declared.cargo.Entry.{Entry}
use Rattle.table_use.specs.Scans.{AreOuter, other_scans}
use Rattle.table_use.specs.Hearing.{AsksScope}
use Rattle.table_use.proofs.Nesting.{HasCome, DidInside, EndsRun, HasGoneThrough, scan_at, first-drops, found-runs, found-scans, at-once, ended-runs, ended-scans, over-scans, over-runs, through-runs, through-scans}

-- the scope's scan is the only one
module _ (board : Board ℕ) (scan : Scan) (m : Seated Item Entry) (asks : AsksScope board scan m) where
  none-outer : asks.makes.outer ≡ []
  none-outer = subst (λ (u : SourceRef). AreOuter u asks.makes.outer) asks.source asks.makes.above

  pub asks-others : other_scans scan.source m ≡ []
  asks-others =
      ap (drops scan.source) asks.makes.scans ∙ first-drops scan.source asks.makes.from asks.makes.outer asks.makes.above ∙ none-outer

-- it came to a callback
pub record HasComeAlone (board : Board ℕ) : Type 0 where
  pub before : Scan
  pub after : Scan
  pub old : Seat (Option Item) (View Item Entry)
  pub new : Seat (Option Item) (View Item Entry)
  pub asks : AsksScope board before old.me
  pub place : Name
  pub kept : after.source ≡ before.source
  pub found : IsFound board before old new after place

module _ {board : Board ℕ} (alone : HasComeAlone board) where
  open alone use {before, after, old, new, asks, place as x, kept, found as f}

  abbrev pub come : HasCome Item Entry board
  come = record {
    before = before;
    after = after;
    old = old;
    new = new;
    makes = asks.makes;
    place = x;
    kept = kept;
    found = f;
  }

  -- no scan of a node's source is under way
  pub scan-unmade : (y : Name) → scan_in new.me.0.scans (Node y) ≡ None
  scan-unmade y =
      ap (λ (l : List Scanning). scan_in l (Node y)) (found-scans come)
      ∙ ap (λ (l : List Scanning). scan_in (scan_at before.source f.at ∷ l) (Node y)) (none-outer board before old.me asks)
      ∙ ap (λ (u : SourceRef). scan_in (scan_at u f.at ∷ []) (Node y)) asks.source

  -- its run ends, and the scan goes on
  pub due-over : (end : Seat (Option Item) (View Item Entry)) → IsOver board x new end → AsksScope board after end.me
  due-over end over =
      record {
        makes = over-scans come (at-once come) over;
        source = kept ∙ asks.source;
        runs = over-runs come (at-once come) over ∙ asks.runs;
      }

  -- from inside it a root's callback is tried to be removed, after which the scan goes on
  module _ (root : Name) (tried : Seat (Option Item) (View Item Entry)) where
    own-root : 1 ≤ running new.me.0 root → x ≡ root
    own-root some =
        let is : running new.me.0 root ≡ 0 + one (same x root) =
        ap (λ (l : List Name). count_by (λ (y : Name). y) l root)
        (found-runs come ∙ ap (λ (l : List Name). x ∷ l) asks.runs) in
        same-true x root (one-is (omega (arith, some, is)))

    own-run : 1 ≤ running new.me.0 root → IsOwnWithdrawn board root new tried → IsOwnWithdrawn board x new tried
    own-run some told = subst (λ (y : Name). IsOwnWithdrawn board y new tried) (sym (own-root some)) told

    abbrev own-ended : IsOwnWithdrawn board x new tried → EndsRun (at-once come)
    own-ended d = record { end = tried; view = _; end_is = d.me_is; runs = refl; scans = refl }

    removed-runs : IsOwnWithdrawn board x new tried → tried.me.0.runs ≡ []
    removed-runs d = ended-runs come (at-once come) (own-ended d) ∙ asks.runs

    removed-none : IsOwnWithdrawn board x new tried → running tried.me.0 x ≡ 0
    removed-none d = ap (λ (l : List Name). count_by (λ (y : Name). y) l x) (removed-runs d)

    -- the run may be ended whatever the try found
    pub may-finish : (answer : Withdrawn) → IsTried board root new tried answer → MayEndRun tried.me.0 x
    may-finish NeverRan r run = ap (λ (z : Seated Item Entry). scan_in z.0.scans (Node x)) r.told.me_is ∙ scan-unmade x
    may-finish Ran r run = ap (λ (z : Seated Item Entry). scan_in z.0.scans (Node x)) r.told.me_is ∙ scan-unmade x
    may-finish Running r run = ap (λ (z : Seated Item Entry). scan_in z.0.scans (Node x)) r.told.me_is ∙ scan-unmade x
    may-finish OwnHand r run = let none = removed-none (own-run r.runs r.told) in absurd (omega (arith, run, none))

    module _ (end : Seat (Option Item) (View Item Entry)) (over : IsOver board x tried end) where
      same-runs : (v : View Item Entry) → tried.me ≡ (v, new.me.1) → v.runs ≡ new.me.0.runs → v.scans ≡ new.me.0.scans → AsksScope board after end.me
      same-runs v is runs scans =
          let did : DidInside come = record {
            mid = tried;
            runs = ap (λ (z : Seated Item Entry). z.0.runs) is ∙ runs;
            scans = ap (λ (z : Seated Item Entry). z.0.scans) is ∙ scans;
          } in
          record {
            makes = over-scans come did over;
            source = kept ∙ asks.source;
            runs = over-runs come did over ∙ asks.runs;
          }

      own-removed : IsOwnWithdrawn board x new tried → AsksScope board after end.me
      own-removed d =
          subst (AsksScope board after) (sym (over.was_removed (removed-none d)))
          (record {
            makes = ended-scans come (at-once come) (own-ended d);
            source = kept ∙ asks.source;
            runs = removed-runs d;
          })

      pub inside-asks : (answer : Withdrawn) → IsTried board root new tried answer → AsksScope board after end.me
      inside-asks NeverRan r = same-runs _ r.told.me_is refl refl
      inside-asks Ran r = same-runs _ r.told.me_is refl refl
      inside-asks Running r = same-runs _ r.told.me_is refl refl
      inside-asks OwnHand r = own-removed (own-run r.runs r.told)

-- a scan of the scope that came to its end
pub scan-through : (board : Board ℕ) (before after : Scan) (old new : Seat (Option Item) (View Item Entry)) → AsksScope board before old.me →
    after.source ≡ before.source → IsThrough board before old new after → AsksScope board after new.me
scan-through board before after old new asks kept t =
    let gone : HasGoneThrough Item Entry board = record {
      before = before;
      after = after;
      old = old;
      new = new;
      makes = asks.makes;
      kept = kept;
      through = t;
    } in
    record {
      makes = through-scans gone;
      source = kept ∙ asks.source;
      runs = through-runs gone ∙ asks.runs;
    }

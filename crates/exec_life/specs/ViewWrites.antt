-- What a write does to a view: one cell changes, and all else stays.
use Rattle.std.specs.Prelude.{◌≡◌, ℕ, ◌+◌, ◌&&◌, ◌==◌, if◌then◌else◌, ◌<◌, ◌≤◌, List, length, slice_index_or, Bool, true, false, ◌||◌, ◌-◌, nat_le, Option, Some, None}
use Rattle.std.specs.List.{list_any}
use Rattle.life_rules.specs.declared.event.Place.{Place}
use Rattle.life_rules.specs.declared.event.SourceAt.{SourceAt}
use Rattle.life_rules.specs.declared.event.SourceAt.TheVariants.{Scope, At}
use Rattle.life_rules.specs.States.{set_at}
use Rattle.exec_life.specs.declared.view.Role.{Role}
use Rattle.exec_life.specs.declared.view.Role.TheVariants.{Nothing, OwesStart}
use Rattle.exec_life.specs.Grids.{row_at}
use Rattle.exec_life.specs.ViewLists.{ViewLists, role_in, runs_in, unlooked_in, seen_after_in, seen_at, scan_of}

-- the role at this place
pub record SetsRole (old new : ViewLists) (b n : ℕ) (role : Role) : Type 0 where
  pub cell : role_in new ≡ set_at (role_in old) b n role
  pub rest : new ≡ record old { roles = new.roles }

-- the roles of these nodes of the block
pub record OwesStarts (old new : ViewLists) (b : ℕ) (nodes : List ℕ) : Type 0 where
  pub cell :
      role_in new
      ≡ (λ i j. if i == b && list_any (λ m. m == j) nodes then OwesStart else role_in old i j)
  pub rest : new ≡ record old { roles = new.roles }

-- whether it runs this place
pub record SetsRuns (old new : ViewLists) (b n : ℕ) (runs : Bool) : Type 0 where
  pub cell : runs_in new ≡ set_at (runs_in old) b n runs
  pub rest : new ≡ record old { runs = new.runs }

-- whether it is yet to look after this place
pub record SetsUnlooked (old new : ViewLists) (b n : ℕ) (unlooked : Bool) : Type 0 where
  pub cell : unlooked_in new ≡ set_at (unlooked_in old) b n unlooked
  pub rest : new ≡ record old { unlooked = new.unlooked }

-- this place is looked after, and a request that was read is seen after it
pub record LooksAfter (old new : ViewLists) (place : Place) (read : Bool) : Type 0 where
  pub unlooked_is : unlooked_in new ≡ set_at (unlooked_in old) place.block place.node false
  pub seen_after_is :
      seen_after_in new
      ≡ set_at (seen_after_in old) place.block place.node
      (seen_after_in old place.block place.node || read)
  pub rest : new ≡ record old { unlooked = new.unlooked; seen_after = new.seen_after }

-- whether it has seen the request on this place's own source
pub record SetsSeenAt (old new : ViewLists) (b n : ℕ) (seen : Bool) : Type 0 where
  pub cell : seen_at new ≡ set_at (seen_at old) b n seen
  pub rest : new ≡ record old { seen = new.seen }

-- from where its scan of this place's own source goes on
pub record SetsScanOf (old new : ViewLists) (b n : ℕ) (scan : Option ℕ) : Type 0 where
  pub cell : scan_of new ≡ set_at (scan_of old) b n scan
  pub rest : new ≡ record old { scans = new.scans }

-- whether it has seen the request on this source
abbrev pub SetsSeen : ViewLists → ViewLists → SourceAt → Bool → Type 0
SetsSeen old new Scope seen = new ≡ record old { scope_seen = seen }
SetsSeen old new (At place) seen = SetsSeenAt old new place.block place.node seen

-- from where its scan of this source goes on
abbrev pub SetsScan : ViewLists → ViewLists → SourceAt → Option ℕ → Type 0
SetsScan old new Scope scan = new ≡ record old { scope_scan = scan }
SetsScan old new (At place) scan = SetsScanOf old new place.block place.node scan

-- a scan of this source begins, from the first place: the hand made the request
abbrev pub BeginsScan : ViewLists → ViewLists → SourceAt → Type 0
BeginsScan old new Scope = new ≡ record old { scope_scan = Some 0; requested = true }
BeginsScan old new (At place) = SetsScanOf old new place.block place.node (Some 0)

-- the view with one association more, which is being refused, made, or in the making
abbrev pub with_one : Bool → Bool → ViewLists → ViewLists
with_one refused used v =
    if refused then record v { refused = v.refused + 1 } else (
    if used then record v { made = v.made + 1 } else record v { making = v.making + 1 })

-- the view without one association: one that is being refused goes first
abbrev pub without_one : ViewLists → ViewLists
without_one v =
    if nat_le 1 v.refused
    then record v { refused = v.refused - 1 }
    else record v { made = v.made - 1 }

-- all that it knows of this block's places
pub record Forgets (old new : ViewLists) (b : ℕ) : Type 0 where
  pub role_is : role_in new ≡ row_at (role_in old) b Nothing
  pub runs_is : runs_in new ≡ row_at (runs_in old) b false
  pub unlooked_is : unlooked_in new ≡ row_at (unlooked_in old) b false
  pub seen_after_is : seen_after_in new ≡ row_at (seen_after_in old) b false
  pub seen_is : seen_at new ≡ row_at (seen_at old) b false
  pub scan_is : scan_of new ≡ row_at (scan_of old) b None
  pub rest :
      new ≡ record old {
        roles = new.roles;
        runs = new.runs;
        unlooked = new.unlooked;
        seen_after = new.seen_after;
        seen = new.seen;
        scans = new.scans;
      }

-- of a list of views, the first m forgot this block, and the others are as before
pub record ForgetsFirst (old new : List ViewLists) (b m : ℕ) : Type 0 where
  pub count : length new ≡ length old
  pub forgotten : (i : ℕ) (v : ViewLists) → i < m → i < length old →
      Forgets (slice_index_or old i v) (slice_index_or new i v) b
  pub later : (i : ℕ) (v : ViewLists) → m ≤ i → slice_index_or new i v ≡ slice_index_or old i v

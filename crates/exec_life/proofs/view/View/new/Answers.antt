use Rattle.std.proofs.Common.{refl}
use Rattle.exec_life.proofs.view.View.new.Goals as goal

pub invariant_of-result : goal.invariant_of-result
invariant_of-result c =
    let roles = c.in_ok-new.ensures in
    let runs = c.in_ok-new-2.ensures in
    let unlooked = c.in_ok-new-3.ensures in
    let seen_after = c.in_ok-new-4.ensures in
    let seen = c.in_ok-new-5.ensures in
    let scans = c.in_ok-new-6.ensures in
    record {
      roles_size = record { rows_are = roles.rows_are; columns_are = roles.columns_are };
      runs_size = record { rows_are = runs.rows_are; columns_are = runs.columns_are };
      unlooked_size = record { rows_are = unlooked.rows_are; columns_are = unlooked.columns_are };
      seen_after_size =
          record { rows_are = seen_after.rows_are; columns_are = seen_after.columns_are };
      seen_size = record { rows_are = seen.rows_are; columns_are = seen.columns_are };
      scans_size = record { rows_are = scans.rows_are; columns_are = scans.columns_are };
    }

pub returns : goal.returns
returns c =
    record {
      blocks_are = refl;
      nodes_are = refl;
      role_is = c.in_ok-new.ensures.cells_are;
      runs_is = c.in_ok-new-2.ensures.cells_are;
      unlooked_is = c.in_ok-new-3.ensures.cells_are;
      seen_after_is = c.in_ok-new-4.ensures.cells_are;
      seen_is = c.in_ok-new-5.ensures.cells_are;
      scan_is = c.in_ok-new-6.ensures.cells_are;
      scope_seen_is = refl;
      scope_scan_is = refl;
      made_is = refl;
      making_is = refl;
      refused_is = refl;
      requested_is = refl;
    }

pub new-requires : goal.new-requires
new-requires c = c.requires

pub new-requires-2 : goal.new-requires-2
new-requires-2 c = c.requires

pub new-requires-3 : goal.new-requires-3
new-requires-3 c = c.requires

pub new-requires-4 : goal.new-requires-4
new-requires-4 c = c.requires

pub new-requires-5 : goal.new-requires-5
new-requires-5 c = c.requires

pub new-requires-6 : goal.new-requires-6
new-requires-6 c = c.requires

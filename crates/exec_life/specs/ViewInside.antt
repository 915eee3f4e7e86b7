-- What the fields of a view mean.
use Rattle.exec_life.specs.declared.view.View.TheInside.{Inside as ViewInside}
use Rattle.exec_life.specs.ViewLists.{ViewLists}

-- the lists that the fields are
abbrev pub cells_of : ViewInside → ViewLists
cells_of v =
    record {
      blocks = v.blocks;
      nodes = v.nodes;
      roles = v.roles;
      runs = v.runs;
      unlooked = v.unlooked;
      seen_after = v.seen_after;
      seen = v.seen;
      scans = v.scans;
      scope_seen = v.scope_seen;
      scope_scan = v.scope_scan;
      made = v.made;
      making = v.making;
      refused = v.refused;
      requested = v.requested;
    }

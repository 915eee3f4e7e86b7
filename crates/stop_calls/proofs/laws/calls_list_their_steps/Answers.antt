use Rattle.stop_calls.proofs.laws.calls_list_their_steps.Goals as goal
use Rattle.stop_calls.proofs.Listing.{requests-list, removals-list, scans-list}

pub returns : goal.returns
returns g c = record {
  sources = requests-list _ _ _;
  callbacks = removals-list _ _ _;
  scans = scans-list _ _ _;
}

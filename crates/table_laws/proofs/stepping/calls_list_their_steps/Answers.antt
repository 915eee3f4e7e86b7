use Rattle.table_laws.proofs.stepping.calls_list_their_steps.Goals as goal
use Rattle.table_laws.proofs.CallLists.{callbacks-list, blocks-list, sources-list, scopes-list}

pub returns : goal.returns
returns g c = record {
  callbacks = callbacks-list _ _ _;
  blocks = blocks-list _ _ _;
  sources = sources-list _ _ _;
  scopes = scopes-list _ _ _;
}

use Rattle.record_operations.proofs.operations.TableRunOperations.turn.Goals as goal

pub returns : goal.returns
returns g c = record {
  turns = record {
    between = c.go_round.new.self;
    keeps = c.go_round.ensures.keeps;
    met = c.go_round.ensures.met;
    took = c.go_round.ensures.served;
    kept = c.serve_spawned.ensures.keeps;
    serves = c.serve_spawned.ensures.serves;
    told = c.serve_spawned.ensures.told;
  };
}

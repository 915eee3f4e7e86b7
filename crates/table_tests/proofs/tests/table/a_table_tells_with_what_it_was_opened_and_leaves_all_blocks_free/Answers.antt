use Rattle.table_hands_kept.proofs.PoppedHands.{all-back}
use Rattle.table_tests.proofs.tests.table.a_table_tells_with_what_it_was_opened_and_leaves_all_blocks_free.Goals as goal

pub close_table-closing-requires-clause-hands : goal.close_table-closing-requires-clause-hands
close_table-closing-requires-clause-hands g c κs =
    all-back c.in_ok-table.table 2 c.in_ok-table.hands.items c.in_ok-table.ensures.opened.hands_are
    c.in_ok-table.ensures.hands

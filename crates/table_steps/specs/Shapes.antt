-- A table's shape, and the frame that it and the table's key give together.
use Rattle.std.specs.Prelude.{◌≡◌, ◌≤◌, length}
use Rattle.life_rules.specs.declared.limits.TheConstants.{MOST_BLOCKS, MOST_HANDS}
use Rattle.node_tree.specs.declared.node.TheConstants.{MOST_NODES}
use Rattle.table_rules.specs.declared.frame.TheConstants.{MOST_ASSOCIATIONS}
use Rattle.table_rules.specs.declared.frame.Frame.{Frame}
use Rattle.table_steps.specs.declared.shape.Shape.{Shape}

-- the shape is within the limits
pub record IsShape (shape : Shape) : Type 0 where
  pub blocks : shape.layout.blocks ≤ MOST_BLOCKS
  pub some_hand : 1 ≤ shape.hands
  pub hands : shape.hands ≤ MOST_HANDS
  pub nodes : shape.layout.nodes ≡ length shape.tree
  pub most_nodes : length shape.tree ≤ MOST_NODES
  pub most : shape.most ≤ MOST_ASSOCIATIONS

-- the frame of this shape, over what the key says
abbrev pub frame_of : {O : Type 0} → Shape → Frame O → Frame O
frame_of shape key =
    record {
      tree = shape.tree;
      layout = shape.layout;
      hands = shape.hands;
      kind = shape.kind;
      most = shape.most;
      over = key.over;
    }

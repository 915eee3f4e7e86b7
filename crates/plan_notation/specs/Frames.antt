-- Nodes whose arguments are being read, and what is known of those that are done.
use Rattle.std.specs.Prelude.{ℕ, List, [], ◌∷◌, ◌++◌, nat_lt, if◌then◌else◌}
use Rattle.plan_reader.specs.declared.node_word.NodeWord.{NodeWord}

-- a sender that is done: its JSON, the number of nodes on its longest path, and its number among
-- the nodes that are done
pub record DoneSender : Type 0 where
  pub text : List ℕ
  pub height : ℕ
  pub number : ℕ

abbrev pub no_sender : DoneSender
no_sender = record { text = []; height = 0; number = 0 }

-- where a node stands, and the numbers of its children
pub record SpotSeen : Type 0 where
  pub at : ℕ
  pub below : List ℕ

-- a node whose arguments are being read: its word and where that stands, the sender before the bar,
-- the arguments so far, the longest path below it, and the numbers of its children
pub record FrameSeen : Type 0 where
  pub word : NodeWord
  pub at : ℕ
  pub child : List ℕ
  pub arguments : List (List ℕ)
  pub height : ℕ
  pub below : List ℕ

-- one argument more, and a sender as one more
abbrev pub with_argument : List ℕ → FrameSeen → FrameSeen
with_argument text f = record f { arguments = f.arguments ++ text ∷ [] }

abbrev pub with_sender : DoneSender → FrameSeen → FrameSeen
with_sender s f = record f {
  arguments = f.arguments ++ s.text ∷ [];
  below = f.below ++ s.number ∷ [];
  height = if nat_lt f.height s.height then s.height else f.height;
}

-- a node without arguments so far, and over this sender
abbrev pub new_frame : NodeWord → ℕ → FrameSeen
new_frame word at = record {
  word = word;
  at = at;
  child = [];
  arguments = [];
  height = 0;
  below = [];
}

abbrev pub frame_over : DoneSender → FrameSeen → FrameSeen
frame_over s f = record f { child = s.text; height = s.height; below = f.below ++ s.number ∷ [] }

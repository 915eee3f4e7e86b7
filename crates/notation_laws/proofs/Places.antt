-- What is known where the arguments of a node are read.
use Rattle.std.proofs.Common.{◌≡◌, ℕ, ◌+◌, ◌<◌, ◌≤◌, false, List, ◌∷◌, length, Ok, nat_le, nat_lt, codes, refl, ap, ◌∙◌, arith}
use Rattle.std.proofs.lemmas.Bool.{cond-false, lt-leb}
use Rattle.plan_shape.specs.declared.limits.TheConstants.{MOST_DEPTH}
use Rattle.plan_reader.specs.declared.node_word.NodeWord.{NodeWord}
use Rattle.plan_notation.specs.declared.machine.Expect.{Expect}
use Rattle.plan_notation.specs.declared.machine.Expect.TheVariants as expect
use Rattle.plan_notation.specs.Assembled.{node_json}
use Rattle.plan_notation.specs.Frames.{DoneSender, FrameSeen, SpotSeen}
use Rattle.plan_notation.specs.Grammar.{fewest}
use Rattle.plan_notation.specs.Machine.{close, finish, put, token_step}
use Rattle.plan_notation.specs.Reading.{last_begun}
use Rattle.plan_notation.specs.Settings.{Settings}
use Rattle.plan_notation.specs.States.{MachineState}
use Rattle.notation_laws.proofs.Runs.{Steps, st, steps_to, token}

-- a sender of this JSON was read, of at most this height
pub record SenderRead (text : List ℕ) (height : ℕ) (said : Settings) (frames : List FrameSeen) (new : MachineState)
    : Type 0 where
  pub sender : DoneSender
  pub cs : List (List ℕ)
  pub spots : List SpotSeen
  pub is : last_begun new.expect new ≡ Ok (st said expect.Behind sender frames cs spots)
  pub text_is : sender.text ≡ text
  pub height_is : sender.height ≤ height

-- the node whose arguments are read, the sender that it takes, and how high those below it are
pub record Place : Type 0 where
  pub said : Settings
  pub frames : List FrameSeen
  pub word : NodeWord
  pub child : List ℕ
  pub height : ℕ

abbrev pub frame : Place → ℕ → List (List ℕ) → ℕ → List ℕ → FrameSeen
frame p at arguments height below = record {
  word = p.word;
  at = at;
  child = p.child;
  arguments = arguments;
  height = height;
  below = below;
}

-- these arguments were read
pub record Within (p : Place) (e : Expect) (arguments : List (List ℕ)) (m : MachineState) : Type 0 where
  pub sender : DoneSender
  pub at : ℕ
  pub height : ℕ
  pub below : List ℕ
  pub cs : List (List ℕ)
  pub spots : List SpotSeen
  pub is : m ≡ st p.said e sender (frame p at arguments height below ∷ p.frames) cs spots
  pub least : height ≤ p.height

-- the node with these arguments
abbrev pub Closed : Place → List (List ℕ) → MachineState → Type 0
Closed p arguments = SenderRead (node_json p.word p.child arguments) (p.height + 1) p.said p.frames

-- they can be all, and the node isn't too deep
pub record CanClose (p : Place) (arguments : List (List ℕ)) : Type 0 where
  pub many : nat_lt (length arguments) (fewest p.word) ≡ false
  pub shallow : p.height < MOST_DEPTH

-- behind these arguments a comma or the last bracket may stand
pub record Argued (p : Place) (arguments : List (List ℕ)) (m : MachineState) : Type 0 where
  pub comma : Steps (codes ",") m (Within p expect.Argument arguments)
  pub close : CanClose p arguments → Steps (codes ")") m (Closed p arguments)

-- the last bracket
pub closes : (p : Place) (arguments : List (List ℕ)) (e : Expect) (sender : DoneSender) (at height : ℕ) (below : List ℕ)
    (cs : List (List ℕ)) (spots : List SpotSeen) (pos : ℕ) → CanClose p arguments → height ≤ p.height
    → close (token (codes ")") pos) (st p.said e sender (frame p at arguments height below ∷ p.frames) cs spots)
    ≡ Ok (put (frame p at arguments height below) (st p.said e sender p.frames cs spots))
closes p arguments e sender at height below cs spots pos can least =
    let f = frame p at arguments height below in
    let s = st p.said e sender p.frames cs spots in
    let shallow = can.shallow in
    cond-false (nat_lt (length arguments) (fewest p.word)) _ (finish f s) can.many
    ∙ cond-false (nat_le MOST_DEPTH height) _ (Ok (put f s)) (lt-leb MOST_DEPTH height (omega (arith, shallow, least)))

pub closed : (p : Place) (arguments : List (List ℕ)) (e : Expect) (sender : DoneSender) (at height : ℕ) (below : List ℕ)
    (cs : List (List ℕ)) (spots : List SpotSeen) → height ≤ p.height
    → Closed p arguments (put (frame p at arguments height below) (st p.said e sender p.frames cs spots))
closed p arguments e sender at height below cs spots least =
    let new = put (frame p at arguments height below) (st p.said e sender p.frames cs spots) in
    record {
      sender = new.sender;
      cs = cs;
      spots = new.spots;
      is = refl;
      text_is = refl;
      height_is = omega (arith, least);
    }

-- an argument that is one token, behind which a comma or a bracket stands
pub word_argued : (p : Place) (arguments : List (List ℕ)) (m : MachineState) → Within p expect.Separator arguments m → Argued p arguments m
word_argued p arguments m w =
    let s = st p.said expect.Separator w.sender (frame p w.at arguments w.height w.below ∷ p.frames) w.cs w.spots in
    let next = st p.said expect.Argument w.sender (frame p w.at arguments w.height w.below ∷ p.frames) w.cs w.spots in
    let to = put (frame p w.at arguments w.height w.below) (st p.said expect.Separator w.sender p.frames w.cs w.spots) in
    record {
      comma = steps_to (codes ",") m (λ pos. next) (λ pos. ap (token_step (token (codes ",") pos)) w.is)
          (Within p expect.Argument arguments)
          (λ pos. record { sender = w.sender; at = w.at; height = w.height; below = w.below; cs = w.cs; spots = w.spots; is = refl; least = w.least });
      close = λ can. steps_to (codes ")") m (λ pos. to)
          (λ pos. ap (token_step (token (codes ")") pos)) w.is
          ∙ closes p arguments expect.Separator w.sender w.at w.height w.below w.cs w.spots pos can w.least)
          (Closed p arguments)
          (λ pos. closed p arguments expect.Separator w.sender w.at w.height w.below w.cs w.spots w.least);
    }

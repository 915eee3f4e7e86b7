-- How a walk goes on, and the mail with it.
use Rattle.std.proofs.Common.{◌≡◌, ℕ, List, [], ◌∷◌, ◌++◌, refl, sym, subst}
use Rattle.std.specs.Prelude.{Option, Some, None}
use Rattle.life_rules.specs.declared.event.Name.{Name}
use Rattle.plan_shape.specs.Blueprint.{Blueprint}
use Rattle.table_steps.specs.Views.{Board}
use Rattle.table_steps.specs.declared.block.Block.{Block}
use Rattle.table_steps.specs.Claims.{root_name}
use Rattle.table_steps.specs.Seats.{Seated}
use Rattle.home_items.specs.declared.entry.Entry.{Entry}
use Rattle.home_items.specs.declared.item.Item.{Item}
use Rattle.exec_recv.specs.declared.next.Next.{Next}
use Rattle.exec_recv.specs.Seats.{HandSeat}
use Rattle.exec_recv.specs.Sites.{Did, Does}
use Rattle.node_walks.specs.declared.mail.ReadyNode.{ReadyNode}
use Rattle.node_walks.specs.Mails.{HearsAll, HearsEach, HearsOf, ready_after}
use Rattle.node_walks.specs.Starts.{GoesOnWith}
use Rattle.exec_recv.specs.Nexts.{IsStepped}
use Rattle.node_walks.specs.Walks.{LeadsTo, Walks, Ends, Steps, WalksOn, Anything, WalksAnyhow}

module _ {M : Type 0} (hears : HearsOf M) where
  -- a mail that heard of these nodes, and then of those
  pub hears-then : (ready others : List ReadyNode) (mail between mail' : M) → HearsEach hears ready mail between →
      HearsEach hears others between mail' → HearsEach hears (ready ++ others) mail mail'
  hears-then [] others mail between mail' same next = subst (λ (b : M). HearsEach hears others b mail') same next
  hears-then (node ∷ ready) others mail between mail' first next =
      record {
        between = first.between;
        first = first.first;
        others = hears-then ready others first.between between mail' first.others next;
      }

  -- what left these nodes ready did more besides
  pub hears-as : (mail mail' : M) (P Q : List ReadyNode → Type 0) → ((ready : List ReadyNode) → P ready → Q ready) →
      HearsAll hears mail mail' P → HearsAll hears mail mail' Q
  hears-as mail mail' P Q more all =
      record { ready = all.ready; leaves = more all.ready all.leaves; heard = all.heard }

module _ {M : Type 0} (hears : HearsOf M) (does : Does) (board : Board Blueprint) (x : Name) (next : Next) (first : Seated Item Entry) (mail : M) where
  -- A walk after this step makes the whole walk after that one.
  abbrev pub Leads : Name → Next → Seated Item Entry → M → Type 0
  Leads last ended m posted =
      (m' : Seated Item Entry) (mail' : M) → HearsAll hears posted mail' (WalksOn does board last ended m m') →
      HearsAll hears mail mail' (WalksOn does board x next first m')

  -- so it is at first
  pub leads-first : Leads x next first mail
  leads-first m' mail' all = all

  -- the hand found this from there, and the mail heard of what that step left ready
  module _ (last : Name) (ended : Next) (m : Seated Item Entry) (posted : M) (so_far : Leads last ended m posted) (found : Seated Item Entry)
      (posted1 : M) (heard : HearsEach hears (ready_after last ended) posted posted1) where
    -- a node, of which one more step was made
    pub leads-on : (y : Name) (ended1 : Next) (m1 : Seated Item Entry) → LeadsTo board last ended (Some y) m found →
        Did does board y ended1 found m1 → IsStepped board y found m1 ended1 → Leads y ended1 m1 posted1
    leads-on y ended1 m1 follows did stepped m' mail' all =
        so_far m' mail' (record {
          ready = ready_after last ended ++ (ready_after y ended1 ++ all.leaves.others);
          leaves = record {
            going = Some y;
            found = found;
            follows = follows;
            others = ready_after y ended1 ++ all.leaves.others;
            walks = Steps y all.leaves.going found all.leaves.found m' (ready_after y ended1) all.leaves.others
                (record {
                  next = ended1;
                  between = m1;
                  did = did;
                  stepped = stepped;
                  follows = all.leaves.follows;
                  ready_is = refl;
                })
                all.leaves.walks;
            ready_is = refl;
          };
          heard = hears-then hears (ready_after last ended) (ready_after y ended1 ++ all.leaves.others) posted posted1 mail' heard
              (subst (λ (r : List ReadyNode). HearsEach hears r posted1 mail') all.leaves.ready_is all.heard);
        })

    -- none: nothing is left
    pub leads-last : LeadsTo board last ended None m found → HearsAll hears mail posted1 (WalksOn does board x next first found)
    leads-last follows =
        so_far found posted1 (record {
          ready = ready_after last ended ++ [];
          leaves = record {
            going = None;
            found = found;
            follows = follows;
            others = [];
            walks = Ends found;
            ready_is = refl;
          };
          heard = hears-then hears (ready_after last ended) [] posted posted1 posted1 heard refl;
        })

-- A walk is one whatever is said of its steps.
module _ (does : Does) (board : Board Blueprint) where
  pub any-did : (x : Name) (next : Next) (m m' : Seated Item Entry) → Did does board x next m m' → Did Anything board x next m m'
  any-did x next m m' did = record { old = did.old; new = did.new; old_is = did.old_is; new_is = did.new_is; did = tt }

  any-walks : {going : Option Name} {m m' : Seated Item Entry} {ready : List ReadyNode} → Walks does board going m m' ready →
      Walks Anything board going m m' ready
  any-walks (Ends m) = Ends m
  any-walks (Steps x going m between m' first others step rest) =
      Steps x going m between m' first others
      (record {
        next = step.next;
        between = step.between;
        did = any-did x step.next m step.between step.did;
        stepped = step.stepped;
        follows = step.follows;
        ready_is = step.ready_is;
      })
      (any-walks rest)

  pub any-walk : (x : Name) (next : Next) (m m' : Seated Item Entry) (ready : List ReadyNode) → WalksOn does board x next m m' ready →
      WalksOn Anything board x next m m' ready
  any-walk x next m m' ready went =
      record {
        going = went.going;
        found = went.found;
        follows = went.follows;
        others = went.others;
        walks = any-walks went.walks;
        ready_is = went.ready_is;
      }

  -- of which the mail heard
  pub walked-anyhow : {M : Type 0} {hears : HearsOf M} {mail mail' : M} (x y : Name) (next : Next) (m m' : Seated Item Entry) → y ≡ x →
      HearsAll hears mail mail' (WalksOn does board x next m m') → WalksAnyhow board y next m m'
  walked-anyhow x y next m m' is all =
      subst (λ (z : Name). WalksAnyhow board z next m m') (sym is) (all.ready, any-walk x next m m' all.ready all.leaves)

  -- and so are an operation's first steps
  pub any-goes : (from : ℕ) (b : Block) (start : List Entry) (old : HandSeat) (m' : Seated Item Entry) (ready : List ReadyNode) →
      GoesOnWith does board from b start old m' ready → GoesOnWith Anything board from b start old m' ready
  any-goes from b start old m' ready goes =
      let steps = goes.steps in
      let root = root_name board b.index b.generation in
      record {
        placed = goes.placed;
        places = goes.places;
        begun = goes.begun;
        has_begun = goes.has_begun;
        steps = record {
          next = steps.next;
          between = steps.between;
          did = any-did root steps.next goes.begun steps.between steps.did;
          stepped = steps.stepped;
          walks = any-walk root steps.next steps.between m' ready steps.walks;
        };
      }

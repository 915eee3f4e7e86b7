-- A table that was just opened keeps the rule.
use Rattle.std.proofs.Common.{◌≡◌, inl, ℕ, zero, suc, ◌+◌, ◌<◌, ◌≤◌, Bool, true, false, not, ◌&&◌, ◌||◌, ◌==◌, cond, List, [], ◌∷◌, map, length, replicate, refl, sym, ap, ◌∙◌, subst, arith}
use Rattle.std.specs.Prelude.{slice_index, nat_lt, Option, None}
use Rattle.std.proofs.lemmas.Bool.{cond-false, both_ways}
use Rattle.std.proofs.lemmas.List.{length-replicate}
use mathlib.Core.Option.{some}
use mathlib.Core.Option as maybe
use lib.ListN.{get_elem?}
use Rattle.common_lemmas.proofs.Bool.{both-same}
use Rattle.node_tree.specs.declared.node.TreeNode.{TreeNode}
use Rattle.life_rules.specs.declared.words.BlockWord.{BlockWord}
use Rattle.life_rules.specs.declared.words.BlockState.TheVariants.{Free}
use Rattle.life_rules.specs.declared.words.ControlWord.{ControlWord}
use Rattle.life_rules.specs.declared.words.ControlWord.TheVariants.{Idle}
use Rattle.life_rules.specs.declared.words.CallbackPhase.TheVariants.{Never}
use Rattle.node_tree.specs.declared.scope_kind.ScopeKind.{ScopeKind}
use Rattle.life_rules.specs.declared.event.Name.{Name}
use Rattle.node_tree.specs.Tree.{IsTree}
use Rattle.life_rules.specs.declared.limits.TheConstants.{MOST_BLOCKS, MOST_HANDS}
use Rattle.node_tree.specs.declared.node.TheConstants.{MOST_NODES}
use Rattle.life_rules.specs.Words.{is_open, is_idle, is_done, is_under_way, clear}
use Rattle.life_rules.specs.Views.{beside, blank}
use Rattle.common_lemmas.specs.Sums.{one}
use Rattle.life_rules.specs.States.{State, is_live, control_at}
use Rattle.life_rules.specs.Opening.{opening}
use Rattle.life_rules.proofs.Opened.{sound-opening}
use Rattle.common_lemmas.proofs.Totals.{total-zero}
use Rattle.table_words.specs.declared.layout.Layout.{Layout}
use Rattle.table_words.specs.Stamps.{stamp_of}
use Rattle.table_words.specs.Controls.{control_read, callback_read, source_read}
use Rattle.table_words.specs.Blocks.{block_read}
use Rattle.table_words.specs.ScopeNumbers.{scope_read}
use Rattle.table_words.specs.Layouts.{Spot, OfBlock, OfControl, OfCallback, OfSource, index, place_number, words_in, places_in}
use Rattle.atomic_table.specs.Table as table
use Rattle.table_rules.specs.declared.cargo.Cargo.{Ghosts}
use Rattle.table_rules.specs.declared.frame.Frame.{Frame}
use Rattle.table_rules.specs.declared.view.View.{View}
use Rattle.table_rules.specs.ShownWords.{is_retired, is_there, block_of, control_of, said}
use Rattle.table_rules.specs.ShownViews.{view_at}
use Rattle.table_rules.specs.Scenes.{Empty, home_in, Past, Scene, scene}
use Rattle.table_rules.specs.Homes.{is_waiting, is_resting}
use Rattle.table_rules.specs.Notes.{IsKnown}
use Rattle.table_rules.specs.Named.{Each}
use Rattle.table_rules.specs.Grown.{HasRisen}
use Rattle.table_rules.specs.Running.{IsFrame, Stands, Running}
use Rattle.table_rules.specs.Traces.{IsMadeBySome, Traced}
use Rattle.table_steps.specs.Views.{fresh}
use Rattle.table_kept.proofs.Stamping.{is_on}
use Rattle.table_kept.proofs.Seats.{single}

no-way : (a b : Bool) → (a && (b && false)) ≡ false
no-way true true = refl
no-way true false = refl
no-way false b = refl

zeros : (n i : ℕ) → slice_index (replicate n 0) i ≡ 0
zeros zero i = refl
zeros (suc n) zero = refl
zeros (suc n) (suc i) = zeros n i

abbrev empty_homes : (P : Type 0) → ℕ → List (maybe.Option (Option P))
empty_homes P n = map some (replicate n None)

all-empty : (P : Type 0) (n i : ℕ) → home_in (get_elem? (empty_homes P n) i) ≡ Empty
all-empty P zero i = refl
all-empty P (suc n) zero = refl
all-empty P (suc n) (suc i) = all-empty P n i

as-deep : (P : Type 0) (n : ℕ) → length (empty_homes P n) ≡ n
as-deep P zero = refl
as-deep P (suc n) = ap suc (as-deep P n)

-- the words of a new table are zeros, and say nothing
module _ (l : Layout) (words : List ℕ) (dull : (i : ℕ) → slice_index words i ≡ 0) where
  pub block-first : (b : ℕ) → block_of l words b ≡ record { generation = 0; state = Free }
  block-first b =
      let first : BlockWord = record { generation = 0; state = Free } in
      ap (λ w. cond (nat_lt b l.blocks) (block_read w) first) (dull (index l (OfBlock b)))
      ∙ both-same (nat_lt b l.blocks) first

  pub said-first : {A : Type 0} (first : A) (read : ℕ → A) (spot : ℕ → ℕ → Spot) → read 0 ≡ first → (b n : ℕ) →
      said l words first read spot b n ≡ first
  said-first first read spot is b n =
      let there = is_there l b n in
      let now : ℕ → Bool = λ w.
      not (is_retired (block_of l words b).state) && stamp_of w == (block_of l words b).generation in
      ap (λ w. cond there (cond (now w) (read w) first) first) (dull (index l (spot b n)))
      ∙ ap (λ x. cond there (cond (now 0) x first) first) is
      ∙ ap (λ x. cond there x first) (both-same (now 0) first)
      ∙ both-same there first

view-blank : (P E : Type 0) (blocks : ℕ → BlockWord) (h : ℕ) →
    view_at {P = P} {E = E} blocks (fresh 0 ∷ []) h ≡ blank
view-blank P E blocks zero = refl
view-blank P E blocks (suc h) = refl

-- nothing began yet
pub nothing_past : {P E : Type 0} → Past P E
nothing_past = record { start = λ _. []; named = λ _. 0; lot = λ _. []; delivered = λ _. None }

-- the tree, the sizes and the kind of scope with which a table is opened
pub record Opens : Type 0 where
  pub nodes : List TreeNode
  pub blocks : ℕ
  pub hands : ℕ
  pub kind : ScopeKind
  pub most : ℕ
  pub tree : IsTree nodes
  pub some_hand : 0 < hands

module _ {P E O : Type 0} (cargo : Ghosts P E O) (over : O) (task : Opens) where
  open task use {nodes, blocks, hands, kind, most, tree, some_hand}

  abbrev first_state : State
  first_state = opening nodes blocks hands kind most

  abbrev first_scene : Scene P E
  first_scene = record { state = first_state; home = λ _ _. Empty; past = nothing_past }

  dead : (x : Name) → is_live first_state x ≡ false
  dead x = no-way (nat_lt x.block blocks) (nat_lt x.node (length nodes))

  idle : (x : Name) → control_at first_state x ≡ Idle
  idle x = cond-false _ _ _ (dead x)

  unlive : {A : Type 0} (x : Name) → is_live first_state x ≡ true → A
  unlive x live = absurd (both_ways _ (dead x) live)

  unlike : {A : Type 0} (x : Name) (test : ControlWord → Bool) → test Idle ≡ false → test (control_at first_state x) ≡ true → A
  unlike x test not_idle is = absurd (both_ways _ (ap test (idle x) ∙ not_idle) is)

  begun : {A : Type 0} (x : Name) → is_idle (control_at first_state x) ≡ false → A
  begun x is = absurd (both_ways _ is (ap is_idle (idle x)))

  stands-first : Stands cargo over first_scene (fresh 0 ∷ [])
  stands-first =
      record {
        sound = sound-opening nodes blocks hands kind most tree some_hand;
        homes = record {
          out = λ x live. unlive x live;
          closed = λ b n shut. refl;
          begun = λ x live full. unlive x live;
          above = λ x p live full is. unlive x live;
          waiting = λ x w. unlike x (λ c. is_waiting c || is_resting c) refl w;
          reported = λ x r.
              let none = total-zero (λ _. 0) hands (λ _ _. refl) in absurd (omega (arith, r, none));
          resting = λ x n r child. unlike x is_resting refl r;
          named = λ x w. unlike x is_waiting refl w;
          met = λ x b rests. begun x b;
          asked = λ x n child b. begun (beside x n) b;
        };
        starts = record {
          shows = λ x item live e. unlive x live;
          descends = λ x p b is. begun x b;
          key = λ x b. begun x b;
        };
        items = record {
          fit = λ x item live e. unlive x live;
          goes_on = λ x item live e d. unlive x live;
          rests = λ x item live e rest. unlive x live;
          bound = λ x item live e. unlive x live;
          ended = λ x d root. unlike x is_done refl d;
          delivered = λ x item d root e. unlike x is_done refl d;
          enough = λ x item d root is. unlike x is_done refl d;
          failures = λ x r above.
              absurd (both_ways _ (ap (λ b. b.requested) (cond-false (is_live first_state x) _ clear (dead x))) r);
        };
        lots = record {
          own = λ x item w e. unlike x is_waiting refl w;
          below = λ x n w child b d. unlike x is_waiting refl w;
        };
        views = record {
          each = λ h v e. subst (IsKnown first_scene) (single (fresh 0) v h e).1 record {
            held = tt;
            owed = tt;
            reported = tt;
            noted = tt;
            unlooked = tt;
            seen_after = tt;
            seen = tt;
          };
          number = λ h v e.
              let is = single (fresh 0) v h e in ap (λ w. w.number) (sym is.1) ∙ sym is.0;
          splits = λ v e. ap (λ w. w.splits + 1) (sym (single (fresh 0) v 0 e).1);
        };
        counts = record {
          opened = let none = total-zero (λ b. one (is_open (first_state.block b).state)) blocks (λ _ _. refl) in omega (arith, none);
          hands = refl;
          spent = ((λ _. (refl, refl)), tt);
        };
      }

-- a table of zeros with empty homes and one hand keeps the rule
pub opens : {P E O : Type 0} (cargo : Ghosts P E O) (f : Frame O) (w n : ℕ) → IsFrame f → IsTree f.tree →
    0 < f.hands → w ≡ words_in f.layout → n ≡ places_in f.layout →
    Running cargo f (table.opening (replicate w 0) (replicate n None) (fresh {P = P} {E = E} 0))
opens {P} {E} cargo f w n frame tree some_hand as_wide as_deep =
    let given : Opens = record {
      nodes = f.tree;
      blocks = f.layout.blocks;
      hands = f.hands;
      kind = f.kind;
      most = f.most;
      tree = tree;
      some_hand = some_hand;
    } in
    let words : List ℕ = replicate w 0 in
    let s : table.State (Option P) (View P E) = table.opening words (replicate n None) (fresh 0) in
    let dull : (i : ℕ) → slice_index words i ≡ 0 = zeros w in
    let home-empty : (b m : ℕ) → (scene f s nothing_past).home b m ≡ Empty =
    λ b m. (λ k. cond (is_there f.layout b m) (all-empty P n (place_number f.layout b m) k) Empty)
    ∙ both-same (is_there f.layout b m) Empty in
    let at : scene f s nothing_past ≡ first_scene {P = P} {E = E} {O = _} cargo f.over.value given =
    λ k. record {
      state = record {
        tree = f.tree;
        blocks = f.layout.blocks;
        hands = f.hands;
        kind = f.kind;
        most = f.most;
        block = λ b. block-first f.layout words dull b k;
        control = λ b m. said-first f.layout words dull Idle control_read OfControl refl b m k;
        callback = λ b m. said-first f.layout words dull Never callback_read OfCallback refl b m k;
        source = λ b m. said-first f.layout words dull clear source_read OfSource refl b m k;
        scope_source = source_read (dull 16 k);
        scope = scope_read (dull 0 k);
        view = λ h. view-blank P E (block_of f.layout words) h k;
      };
      home = λ b m. home-empty b m k;
      past = nothing_past;
    } in
    record {
      frame = frame;
      sized = record {
        words = length-replicate w 0 ∙ as_wide;
        homes = as-deep P n ∙ as_deep;
        seats = omega arith;
      };
      stamped = record {
        control = λ b m hb hm. let z = dull (index f.layout (OfControl b m)) in omega arith;
        callback = λ b m hb hm. let z = dull (index f.layout (OfCallback b m)) in omega arith;
        source = λ b m hb hm. let z = dull (index f.layout (OfSource b m)) in omega arith;
        settled = λ b m hb hm _. ap (λ w. is_under_way (control_read w)) (dull (index f.layout (OfControl b m)));
        quiet = λ b m hb hm _. ap is_on (dull (index f.layout (OfCallback b m)));
        renewed = λ b m hb hm has begun.
            absurd (both_ways (is_idle (control_of f.layout words b m)) begun
            (ap is_idle (said-first f.layout words dull Idle control_read OfControl refl b m)));
        rises = λ h v e. subst (λ (w : View P E). Each (HasRisen f.layout words) w.steps) (single (fresh 0) v h e).1 tt;
        scope = let z = dull 0 in omega (arith, z);
      };
      past = nothing_past;
      stands = subst (λ z. Stands cargo f.over.value z (fresh 0 ∷ [])) (sym at)
          (stands-first cargo f.over.value given);
    }

-- the frame of a table that is opened over a tree
pub framed : {O : Type 0} (f : Frame O) (nodes : List TreeNode) → f.tree ≡ nodes → f.layout.nodes ≡ length nodes →
    length nodes ≤ MOST_NODES → f.layout.blocks ≤ MOST_BLOCKS → f.hands ≤ MOST_HANDS → IsFrame f
framed f nodes is size most blocks hands =
    record {
      blocks = blocks;
      hands = hands;
      nodes = size ∙ ap length (sym is);
      most_nodes = subst (λ t. length t ≤ MOST_NODES) (sym is) most;
    }

-- and of a list of words that are zeros: the table can be traced, since no hand has made a step
pub opens_with : {P E O : Type 0} (cargo : Ghosts P E O) (f : Frame O) (words : List ℕ) (w n : ℕ) →
    words ≡ replicate w 0 → IsFrame f → IsTree f.tree → 0 < f.hands → w ≡ words_in f.layout →
    n ≡ places_in f.layout →
    Traced cargo f (table.opening words (replicate n None) (fresh {P = P} {E = E} 0))
opens_with {P} {E} cargo f words w n dull frame tree some_hand wide deep =
    subst (λ ws. Traced cargo f (table.opening ws (replicate n None) (fresh {P = P} {E = E} 0))) (sym dull)
    (record {
      runs = opens cargo f w n frame tree some_hand wide deep;
      words = λ i below. inl (zeros w i);
      homes = λ i. inl (all-empty P n i);
      joined = λ h v e.
          subst (λ (u : View P E). Each (IsMadeBySome (fresh {P = P} {E = E} 0 ∷ [])) u.joined) (single (fresh 0) v h e).1 tt;
    })

-- The exchange by which a block is claimed keeps the rule.
use Rattle.std.proofs.Common.{◌≡◌, ℕ, ◌-◌, ◌<◌, ◌≤◌, true, not, ◌&&◌, ◌==◌, cond, List, ◌∷◌, length, set, refl, sym, ap, ◌∙◌, subst, arith, length-set, eq-eqb, ◌^◌}
use Rattle.std.specs.Prelude.{Option, None, slice_index, nat_lt}
use Rattle.std.proofs.lemmas.Bool.{cond-true, and_from, lt-ltb}
use mathlib.Core.Option.{some}
use mathlib.Core.Option as maybe
use lib.ListN.{get_elem?}
use Rattle.life_rules.specs.declared.words.BlockWord.{BlockWord}
use Rattle.life_rules.specs.declared.words.BlockState.TheVariants.{Free, Open}
use Rattle.life_rules.specs.declared.words.ControlWord.TheVariants.{Idle}
use Rattle.life_rules.specs.declared.words.CallbackPhase.TheVariants.{Never}
use Rattle.life_rules.specs.declared.event.Name.{Name}
use Rattle.life_rules.specs.Words.{is_free, is_under_way, clear}
use Rattle.life_rules.specs.Views.{View as PureView, gain}
use Rattle.life_rules.specs.States.{State}
use Rattle.life_kept.proofs.Claim.{sound-claim}
use Rattle.table_words.specs.Stamps.{stamp_of, code_of}
use Rattle.table_words.specs.Controls.{control_read, callback_read, source_read}
use Rattle.table_words.specs.Blocks.{block_read}
use Rattle.table_words.specs.ScopeNumbers.{scope_read}
use Rattle.table_words.specs.Layouts.{Spot, TheScope, TheScopeSource, OfBlock, OfControl, OfCallback, OfSource, IsSpot, index, place_number}
use Rattle.table_words.proofs.Spots.{place-within}
use Rattle.table_rules.specs.declared.cargo.Cargo.{Ghosts}
use Rattle.table_rules.specs.declared.frame.Frame.{Frame}
use Rattle.listed_words.specs.Lists.{entry}
use Rattle.table_rules.specs.declared.view.View.{View}
use Rattle.table_rules.specs.ShownWords.{block_of, word_of, is_there, is_present}
use Rattle.table_rules.specs.ShownViews.{view_at}
use Rattle.table_rules.specs.Scenes.{Empty, home_in, Scene, shown, scene}
use Rattle.table_rules.specs.Counts.{AreCounted}
use Rattle.table_rules.specs.Running.{Stands, Running}
use Rattle.table_steps.specs.Slots.{slot_of, has_slot, IsSeated}
use Rattle.table_steps.specs.Claims.{with_step, owes_root}
use Rattle.table_kept.proofs.Standing.{Standing}
use Rattle.table_kept.proofs.Seats.{at_within}
use Rattle.table_kept.proofs.Codes.{free-code}
use Rattle.table_kept.proofs.Stamping.{is_on, written-risen, renewed-kept}
use Rattle.table_kept.proofs.Counts.{counts-stepped}
use Rattle.table_life_kept.proofs.OpenBlocks.{one-opened}
use Rattle.table_kept.proofs.ViewMoves.{view-here, view-set, views-same}
use Rattle.table_life_kept.proofs.Claim.State.{MayClaim, later, root, closed}
use Rattle.table_life_kept.proofs.Claim.Homes.{claimed, homes-claimed, starts-claimed, items-claimed, lots-claimed}
use Rattle.table_life_kept.proofs.Claim.Views.{views-claimed}
use Rattle.table_kept.proofs.WordMoves.{block-after, generation-after, retired-after, place-after, said-after}
use Rattle.table_kept.proofs.HomeMoves.{empty-home, taken}
use Rattle.table_kept.proofs.Entries.{each-map}
use Rattle.table_kept.proofs.SlotsOut.{apart-home}
use Rattle.table_kept.proofs.BeginSeats.{or-left, given-owed}

-- which block is claimed, and by which word
pub record ToClaim {P E O : Type 0} {cargo : Ghosts P E O} {f : Frame O}
    (hand : Standing cargo f) : Type 0 where
  pub block : ℕ
  pub new : ℕ
  pub within : block < f.layout.blocks
  pub free : is_free (block_of f.layout hand.state.words block).state ≡ true
  pub reads : block_read new ≡ record (block_of f.layout hand.state.words block) { state = Open }
  pub itself : hand.view.hands ≡ 1

module _ {P E O : Type 0} (cargo : Ghosts P E O) (f : Frame O) (hand : Standing cargo f)
    (task : ToClaim hand) where
  open hand use {state as s, id, view as v, running as r, at}
  open task use {block as b, new, within as hb, free, reads, itself}

  abbrev now : State
  now = shown f s

  abbrev here : Scene P E
  here = scene f s r.past

  abbrev i : ℕ
  i = index f.layout (OfBlock b)

  abbrev last : ℕ
  last = length f.tree - 1

  abbrev words : List ℕ
  words = set s.words i new

  pub may : MayClaim now id b
  may =
      record {
        sound = r.stands.sound;
        below = (let l = at_within s.views id v at in let m = r.sized.seats in omega (arith, l, m));
        within = hb;
        free = free;
      }

  last-within : last < f.layout.nodes
  last-within = let some_node = r.stands.sound.tree.some in let e = r.frame.nodes in omega (arith, some_node, e)

  abbrev slot : ℕ
  slot = place_number f.layout b last

  present-same : (x : Name) → is_present (block_of f.layout words) x ≡ is_present (block_of f.layout s.words) x
  present-same x =
      λ k. not (retired-after f.layout s.words r.sized.words b new hb free reads x.block k)
      && x.generation == generation-after f.layout s.words r.sized.words b new hb free reads x.block k

  abbrev owing : View P E
  owing = owes_root (root now id b may) v

  view-claimed : (n h : ℕ) → view_at (block_of f.layout words) (set s.views id (with_step i n new owing)) h
      ≡ (later now id b may).view h
  view-claimed n h =
      let old = block_of f.layout s.words in
      let more : PureView → PureView = λ u. record u { starts = gain (root now id b may) u.starts } in
      views-same old (block_of f.layout words) present-same (set s.views id (with_step i n new owing)) h
      ∙ view-set old s.views id v (with_step i n new owing) at h
      ∙ ap (λ u. cond (h == id) (more u) (view_at old s.views h)) (sym (view-here old s.views id v at))

  place-same : (x : Spot) → IsSpot f.layout x → (OfBlock b ≡ x → ⊥) →
      word_of f.layout words x ≡ word_of f.layout s.words x
  place-same = place-after f.layout s.words r.sized.words b new hb free reads

  scene-claimed : (n : ℕ) → scene f record { words = words; homes = set s.homes slot maybe.none; views = set s.views id (with_step i n new owing) } r.past
      ≡ claimed here id b may r.stands.homes
  scene-claimed n =
      λ k. record {
        state = record {
          tree = f.tree;
          blocks = f.layout.blocks;
          hands = f.hands;
          kind = f.kind;
          most = f.most;
          block = λ j. block-after f.layout s.words r.sized.words b new hb free reads j k;
          control = λ j m. said-after f.layout s.words r.sized.words b new hb free reads Idle control_read OfControl
              (λ j m x y. (x, y)) (λ j m e. cc) j m k;
          callback = λ j m. said-after f.layout s.words r.sized.words b new hb free reads Never callback_read OfCallback
              (λ j m x y. (x, y)) (λ j m e. cc) j m k;
          source = λ j m. said-after f.layout s.words r.sized.words b new hb free reads clear source_read OfSource
              (λ j m x y. (x, y)) (λ j m e. cc) j m k;
          scope_source = source_read (place-same TheScopeSource tt (λ e. cc) k);
          scope = scope_read (place-same TheScope tt (λ e. cc) k);
          view = λ h. view-claimed n h k;
        };
        home = λ j m. taken f.layout s.homes r.sized.homes b last hb last-within j m k;
        past = r.past;
      }

  -- the root's home is at home, and empty
  pub root-empty : get_elem? s.homes slot ≡ some (some None)
  root-empty =
      let w = place-within f.layout b last hb last-within in
      let deep = r.sized.homes in
      let there : is_there f.layout b last ≡ true =
      and_from _ _ (lt-ltb b f.layout.blocks hb) (lt-ltb last f.layout.nodes last-within) in
      empty-home s.homes slot (omega (arith, w, deep))
      (sym (cond-true (is_there f.layout b last) (home_in (get_elem? s.homes slot)) Empty there)
      ∙ r.stands.homes.closed b last (closed now id b may))

  stamped-after : (x : Spot) (j : ℕ) → IsSpot f.layout x → (OfBlock b ≡ x → ⊥) →
      stamp_of (word_of f.layout s.words x) ≤ (block_of f.layout s.words j).generation →
      stamp_of (word_of f.layout words x) ≤ (block_of f.layout words j).generation
  stamped-after x j is ne old =
      let word = place-same x is ne in
      let generation = generation-after f.layout s.words r.sized.words b new hb free reads j in
      subst (λ g. stamp_of (word_of f.layout words x) ≤ g) (sym generation)
      (subst (λ w. stamp_of w ≤ (block_of f.layout s.words j).generation) (sym word) old)

  -- one block more is open, and claimed
  claim-counts : (n : ℕ) → AreCounted (later now id b may) (set s.views id (with_step i n new owing))
  claim-counts n =
      let more = one-opened now id b may in
      counts-stepped now (later now id b may) s.views id v (with_step i n new owing) at refl
      (λ none. absurd (omega (arith, none, itself))) (omega (arith, more)) r.stands.counts

  -- the number that is written is no smaller than the one before
  number-more : word_of f.layout s.words (OfBlock b) ≤ new
  number-more =
      let w = word_of f.layout s.words (OfBlock b) in
      let first : BlockWord = record { generation = 0; state = Free } in
      let old : block_of f.layout s.words b ≡ block_read w = cond-true (nat_lt b f.layout.blocks) (block_read w) first (lt-ltb b f.layout.blocks hb) in
      let stamp : stamp_of new ≡ stamp_of w = ap (λ (z : BlockWord). z.generation) reads ∙ ap (λ (z : BlockWord). z.generation) old in
      let none = free-code (code_of w) (ap (λ (z : BlockWord). is_free z.state) (sym old) ∙ free) in
      omega (arith, stamp, none)

  pub claim-runs : (n : ℕ) → n ≡ slice_index s.words i → Running cargo f record { words = words; homes = set s.homes slot maybe.none; views = set s.views id (with_step i n new owing) }
  claim-runs n is =
      record {
        frame = r.frame;
        sized = record {
          words = length-set s.words i new ∙ r.sized.words;
          homes = length-set s.homes slot maybe.none ∙ r.sized.homes;
          seats = subst (λ n. n ≤ f.hands) (sym (length-set s.views id (with_step i n new owing))) r.sized.seats;
        };
        stamped = record {
          control = λ j m hj hm. stamped-after (OfControl j m) j (hj, hm) (λ e. cc) (r.stamped.control j m hj hm);
          callback = λ j m hj hm. stamped-after (OfCallback j m) j (hj, hm) (λ e. cc) (r.stamped.callback j m hj hm);
          source = λ j m hj hm. stamped-after (OfSource j m) j (hj, hm) (λ e. cc) (r.stamped.source j m hj hm);
          settled = λ j m hj hm old.
              let word = place-same (OfControl j m) (hj, hm) (λ e. cc) in
              let retired = retired-after f.layout s.words r.sized.words b new hb free reads j in
              let generation = generation-after f.layout s.words r.sized.words b new hb free reads j in
              ap (λ w. is_under_way (control_read w)) word
              ∙ r.stamped.settled j m hj hm ((λ k. not (sym retired k) && stamp_of (sym word k) == sym generation k) ∙ old);
          quiet = λ j m hj hm old.
              let word = place-same (OfCallback j m) (hj, hm) (λ e. cc) in
              let retired = retired-after f.layout s.words r.sized.words b new hb free reads j in
              let generation = generation-after f.layout s.words r.sized.words b new hb free reads j in
              ap is_on word
              ∙ r.stamped.quiet j m hj hm ((λ k. not (sym retired k) && stamp_of (sym word k) == sym generation k) ∙ old);
          renewed = λ j m hj hm has.
              renewed-kept f.layout s.words words j m
              (said-after f.layout s.words r.sized.words b new hb free reads Idle control_read OfControl (λ j m x y. (x, y)) (λ j m e. cc) j m)
              (place-same (OfSource j m) (hj, hm) (λ e. cc)) (generation-after f.layout s.words r.sized.words b new hb free reads j)
              (r.stamped.renewed j m hj hm has);
          rises = written-risen f.layout s.views id v (with_step i n new owing) at s.words new (OfBlock b) r.sized.words hb number-more
              (ap (λ k. entry i k new ∷ v.steps) is) r.stamped.rises;
          scope = subst (λ w. w < 2 ^ 36) (sym (place-same TheScope tt (λ e. cc))) r.stamped.scope;
        };
        past = r.past;
        stands = subst (λ z. Stands cargo f.over.value z (set s.views id (with_step i n new owing))) (sym (scene-claimed n))
            (record {
              sound = sound-claim now id b r.stands.sound may.below (and_from _ _ (lt-ltb b f.layout.blocks hb) free);
              homes = homes-claimed here id b may r.stands.homes;
              starts = starts-claimed here id b may r.stands.homes cargo f.over.value r.stands.starts;
              items = items-claimed here id b may r.stands.homes cargo f.over.value r.stands.items;
              lots = lots-claimed here id b may r.stands.homes cargo f.over.value r.stands.lots;
              views = views-claimed here id b may r.stands.homes i n new s.views v at r.stands.views;
              counts = claim-counts n;
            });
      }

  -- the hand carries what its view gives it, each once
  pub seated-claimed : (n : ℕ) (c : List (ℕ × Option P)) → IsSeated f.tree f.layout (v, c) →
      IsSeated f.tree f.layout (with_step i n new owing, (slot, None) ∷ c)
  seated-claimed n c old =
      let x = root now id b may in
      let more : (d : ℕ) → has_slot f.tree f.layout v d ≡ true → has_slot f.tree f.layout (with_step i n new owing) d ≡ true =
      λ d h. given-owed f.tree f.layout x i n new v d h in
      record {
        apart = (apart-home cargo f hand slot None c root-empty old.given, old.apart);
        given = (
          or-left _ _ (or-left (slot_of f.layout x == slot) _ (eq-eqb (slot_of f.layout x) slot refl)),
          each-map (λ d. has_slot f.tree f.layout v d.0 ≡ true) (λ d. has_slot f.tree f.layout (with_step i n new owing) d.0 ≡ true)
              (λ d. more d.0) c old.given,
        );
        itself = old.itself;
      }

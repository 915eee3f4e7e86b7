-- The table after the store by which a node awaits children.
use Rattle.std.proofs.Common.{◌≡◌, ℕ, ◌≤◌, Bool, true, false, not, ◌||◌, [], length, set, refl, sym, ap, ◌∙◌, subst, inr, ◌∷◌}
use Rattle.std.specs.Prelude.{MatchOption, slice_index}
use Rattle.std.proofs.lemmas.Bool.{both_ways}
use Rattle.life_rules.specs.declared.words.ControlWord.{ControlWord}
use Rattle.life_rules.specs.declared.words.ControlWord.TheVariants.{Idle, Busy, ReadyLoop, ReadyPool, Parked, Done}
use Rattle.node_tree.specs.Tree.{is_child}
use Rattle.life_rules.specs.Words.{is_idle, is_done, is_under_way, pending}
use Rattle.life_rules.specs.Views.{View as PureView, beside, lose, gain_each}
use Rattle.life_rules.specs.States.{State, control_at}
use Rattle.life_rules.specs.Callbacks.{nearest_is_requested}
use Rattle.life_kept.proofs.Puts.{IsPut}
use Rattle.life_kept.proofs.Trees.{child-parent}
use Rattle.table_words.specs.Stamps.{stamp_of}
use Rattle.table_words.specs.Controls.{control_read}
use Rattle.table_words.specs.Layouts.{OfControl, index}
use Rattle.listed_words.specs.Lists.{entry}
use Rattle.table_rules.specs.declared.cargo.Cargo.{Ghosts}
use Rattle.table_rules.specs.declared.frame.Frame.{Frame}
use Rattle.table_rules.specs.declared.view.View.{View}
use Rattle.table_rules.specs.Named.{without}
use Rattle.table_rules.specs.ShownWords.{block_of}
use Rattle.table_rules.specs.ShownViews.{shown_view}
use Rattle.table_rules.specs.Scenes.{Home, Full, is_full, Past, Scene, shown, scene}
use Rattle.table_rules.specs.Notes.{IsOwedSo}
use Rattle.table_rules.specs.Running.{Stands, Running}
use Rattle.table_steps.specs.Claims.{with_step}
use Rattle.table_steps.specs.Awaits.{awaits}
use Rattle.table_life_kept.proofs.Move.Seats.{Move}
use Rattle.table_kept.proofs.Standing.{Standing}
use Rattle.table_kept.proofs.Entries.{count-without}
use Rattle.table_kept.proofs.Among.{among}
use Rattle.table_kept.proofs.Loads.{known-listed}
use Rattle.table_kept.proofs.Counts.{counts-moved}
use Rattle.table_kept.proofs.ViewMoves.{views-moved}
use Rattle.table_life_kept.proofs.Control.Runs.{ToWriteControl, control-runs}
use Rattle.table_kept.proofs.LiveNames.{begun-renewed}
use Rattle.table_kept.proofs.HeldNow.{Holding, start-so, fit-now, others-none}
use Rattle.table_life_kept.proofs.Shedding.{deep-shed}
use Rattle.table_life_kept.proofs.ShedHomes.{ToShed, shed_homes}
use Rattle.table_life_kept.proofs.Leaving.{ToLeave, is-held, shows-old, quiet}
use Rattle.table_kept.proofs.Awaiting.{count-owes, each-owes, named-child}
use Rattle.table_life_kept.proofs.Await.Runs.{ToAwait, gone, homes_now, u, is-put, sound-now, past, named-here, lot-here, lot-other, own-home, kid-unfull, await-moves}
use Rattle.table_life_kept.proofs.Move.State.{Moves, moved}
use Rattle.table_life_kept.proofs.Move.Homes.{homes-moved}
use Rattle.table_life_kept.proofs.Move.Items.{Remembers, Leaves, starts-moved, items-moved, lots-moved}
use Rattle.table_life_kept.proofs.Move.Views.{known-moved, known-beside, others-held}

-- a node that has begun and isn't under way is done
done-else : (c : ControlWord) (full : Bool) → is_idle c ≡ false → is_under_way c ≡ false → full ≡ false →
    (not (is_done c) || full) ≡ true → ⊥
done-else Idle full begun way none h = both_ways true begun refl
done-else (Busy n) full begun way none h = both_ways true way refl
done-else ReadyLoop full begun way none h = both_ways true way refl
done-else ReadyPool full begun way none h = both_ways true way refl
done-else Parked full begun way none h = both_ways true way refl
done-else Done full begun way none h = both_ways full none h

-- the word by which a node awaits children
pub record ToWriteAwait {P E O : Type 0} {cargo : Ghosts P E O} {f : Frame O}
    (hand : Standing cargo f) : Type 0 where
  pub awaiting : ToAwait hand
  pub value : ℕ
  pub stamped : stamp_of value ≡ awaiting.name.generation
  pub reads : control_read value ≡ Busy (length awaiting.nodes)

module _ {P E O : Type 0} (cargo : Ghosts P E O) (f : Frame O) (hand : Standing cargo f)
    (task : ToWriteAwait hand) where
  open hand use {state as s, id, view as v, running as r, at}
  open task use {awaiting.{name as x, nodes, carried as c, seated, can}, value, stamped, reads}

  abbrev now : State
  now = shown f s

  abbrev here : Scene P E
  here = scene f s r.past

  abbrev homes_after_it : ℕ → ℕ → Home P
  homes_after_it = homes_now cargo f hand task.awaiting

  abbrev past_now : Past P E
  past_now = past cargo f hand task.awaiting

  abbrev view_now : PureView
  view_now = u cargo f hand task.awaiting

  abbrev put_now : IsPut now id x (Busy (length nodes)) view_now
  put_now = is-put cargo f hand task.awaiting

  abbrev moves_now : Moves here id x (Busy (length nodes)) view_now put_now homes_after_it past_now
  moves_now = await-moves cargo f hand task.awaiting

  abbrev moving : Move here
  moving = record {
    hand = id;
    name = x;
    word = Busy (length nodes);
    view = view_now;
    put = put_now;
    home = homes_after_it;
    past = past_now;
    moves = moves_now;
  }

  remembers : Remembers cargo f.over.value here moving
  remembers = record { start = λ y. refl; lot = lot-other cargo f hand task.awaiting; delivered = λ y ne. refl }

  item-is : (item : P) → homes_after_it x.block x.node ≡ Full item → can.item ≡ item
  item-is item e = let both : Full can.item ≡ Full item = sym (own-home cargo f hand task.awaiting) ∙ e in cc

  abbrev leaving : ToLeave hand
  leaving = record { name = x; carried = c; seated = seated; leave = can.leave }

  leaves : Leaves cargo f.over.value here moving
  leaves =
      let e = can.leave.held in
      let holds = can.leave.holds in
      let holding : Holding hand = record { name = x; entry = e; holds = holds } in
      record {
        start = λ item is. ap cargo.start (sym (item-is item is)) ∙ can.start ∙ start-so cargo f hand holding;
        fit = λ item is.
            subst (λ i. cargo.fits i x.node (nearest_is_requested now x)) (item-is item is)
            (fit-now cargo f hand holding can.item can.fit);
        goes_on = λ item is _. subst (λ i. ¬ cargo.ends i) (item-is item is) can.goes_on;
        rests = λ item _ none. cc;
        bound = λ item is.
            subst (λ i. cargo.least i ≤ past_now.named x) (item-is item is)
            (subst (λ n. cargo.least can.item ≤ n) (sym (named-here cargo f hand task.awaiting)) can.bound);
        ended = λ done _. cc;
        delivered = λ item done _ _. cc;
        enough = λ item none _ _. cc;
        lot = λ item _ is. ap cargo.lot (sym (item-is item is)) ∙ sym (lot-here cargo f hand task.awaiting);
        drawn = λ n _ child begun so.
            absurd (done-else (control_at now (beside x n)) (is_full (homes_after_it x.block n)) begun
            (quiet cargo f hand leaving n child).under_way
            (kid-unfull cargo f hand task.awaiting n child) so);
      }

  abbrev holding : Holding hand
  holding = record { name = x; entry = can.leave.held; holds = can.leave.holds }

  abbrev shedding : ToShed hand
  shedding = record { carried = c; seated = seated; gone = gone cargo f hand task.awaiting }

  module _ (n : ℕ) where
    abbrev i : ℕ
    i = index f.layout (OfControl x.block x.node)

    abbrev owing : View P E
    owing = awaits x (cargo.start can.item) (cargo.lot can.item) nodes v

    abbrev mine : View P E
    mine = with_step i n value owing

    abbrev after : Scene P E
    after = moved here id x (Busy (length nodes)) view_now put_now homes_after_it past_now

    shows-mine : shown_view (block_of f.layout s.words) mine ≡ view_now
    shows-mine =
        let old = shown_view (block_of f.layout s.words) v in
        (λ k. record old {
          holds = λ y. count-without (λ e. e.name) v.held x y k;
          starts = λ y. count-owes x (cargo.start can.item) (cargo.lot can.item) nodes v.owed y can.different k;
        })
        ∙ ap (λ (z : PureView). record z { holds = lose x z.holds; starts = gain_each x nodes z.starts })
        (sym (shows-old cargo f hand leaving))

    -- the starts that the hand owes now are owed with what is so of the node
    owed-so : (m : ℕ) → is_child f.tree x.node m ≡ true →
        IsOwedSo after (record { name = beside x m; above = cargo.start can.item; lot = cargo.lot can.item })
    owed-so m child =
        subst (λ o. MatchOption o ((cargo.start can.item ≡ []) × (cargo.lot can.item ≡ []))
        (λ q. (cargo.start can.item ≡ past_now.start (beside (beside x m) q)) × (cargo.lot can.item ≡ past_now.lot (beside (beside x m) q))))
        (sym (child-parent f.tree x.node m child))
        (can.start ∙ start-so cargo f hand holding, sym (lot-here cargo f hand task.awaiting))

    stands-awaiting : Stands cargo f.over.value after (set s.views id mine)
    stands-awaiting =
        let e = can.leave.held in
        let holds = can.leave.holds in
        let held_node : Holding hand = record { name = x; entry = e; holds = holds } in
        let old = r.stands.views.each id v at in
        let own_among = among f s id v r.sized.seats at in
        let held = is-held cargo f hand leaving in
        let none : pending (control_at now x) ≡ 0 = ap pending held.word in
        let lots = lot-other cargo f hand task.awaiting in
        let known = known-beside here moving (λ y. refl) lots (λ y _. refl) (inr none) v own_among old
        (without (λ e. e.name) v.held x)
        (others-held here moving (λ y. refl) lots (λ y _. refl) (inr none) v own_among old) in
        record {
          sound = sound-now cargo f hand task.awaiting;
          homes = homes-moved here moving r.stands.homes;
          starts = starts-moved cargo f.over.value here moving remembers leaves r.stands.starts;
          items = items-moved cargo f.over.value here moving remembers leaves r.stands.items;
          lots = lots-moved cargo f.over.value here moving remembers leaves r.stands.lots;
          views = views-moved here after s.views id v mine at
              (λ j z ne there.
              known-moved here moving (λ y. refl) lots (λ y _. refl) (inr none) z
              (among f s j z r.sized.seats there) (others-none cargo f hand held_node j z ne there))
              (known-listed after i n value owing (record {
                held = known.held;
                owed = each-owes (IsOwedSo after) x (cargo.start can.item) (cargo.lot can.item) nodes v.owed
                    (λ m named. owed-so m (named-child f.tree x nodes can.leave.held can.idle m named)) known.owed;
                reported = known.reported;
                noted = known.noted;
                unlooked = known.unlooked;
                seen_after = known.seen_after;
                seen = known.seen;
              }))
              refl refl r.stands.views;
          counts = counts-moved here.state after.state s.views id v mine at refl refl r.stands.counts;
        }

    pub await-runs : n ≡ slice_index s.words i → Running cargo f record {
      words = set s.words i value;
      homes = shed_homes cargo f hand shedding;
      views = set s.views id mine;
    }
    await-runs was =
        let own = is-held cargo f hand leaving in
        let writing : ToWriteControl hand = record {
          value = value;
          name = x;
          word = Busy (length nodes);
          live = own.live;
          stamped = stamped;
          reads = reads;
        } in
        control-runs cargo f hand writing mine view_now shows-mine
        (shed_homes cargo f hand shedding) homes_after_it past_now (λ j m. refl)
        (ap is_done own.word) (begun-renewed cargo f s x r own.live (ap is_idle own.word)) (ap (λ k. entry i k value ∷ v.steps) was)
        (deep-shed (gone cargo f hand task.awaiting) s.homes c) stands-awaiting

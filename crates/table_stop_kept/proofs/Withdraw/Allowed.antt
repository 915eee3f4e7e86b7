-- What the exchange by which a callback is removed owes.
use Rattle.std.proofs.Common.{◌≡◌, ◌≢◌, ℕ, true, false, ◌==◌, List, refl, sym, ap, ◌∙◌, subst, arith, eq-eqb, ne_eqb}
use Rattle.std.specs.Prelude.{Some, slice_index}
use Rattle.std.proofs.lemmas.Bool.{cond-true, cond-false, eqb-true}
use mathlib.Core.Option as maybe
use mathlib.Core.Logic.{dite}
use native.Mathlib.Decide.{ℕ_discrete}
use prog.Atomic.{either}
use Rattle.node_tree.specs.declared.node.TreeNode.{TreeNode}
use Rattle.life_rules.specs.declared.words.CallbackPhase.{CallbackPhase}
use Rattle.life_rules.specs.declared.words.CallbackPhase.TheVariants.{Never, Armed, Running as Runs, Removed}
use Rattle.life_rules.specs.declared.event.Name.{Name}
use Rattle.life_rules.specs.Words.{is_armed}
use Rattle.life_rules.specs.States.{phase_at}
use Rattle.common_lemmas.proofs.Bool.{either as test}
use Rattle.table_words.specs.declared.layout.Layout.{Layout}
use Rattle.table_words.specs.Stamps.{stamp_of, code_of}
use Rattle.table_words.specs.Controls.{callback_read, callback_written}
use Rattle.table_words.specs.Layouts.{OfCallback, index}
use Rattle.atomic_table.specs.Table.{Allows, step, keeps, stepped}
use Rattle.table_rules.specs.declared.cargo.Cargo.{Ghosts}
use Rattle.table_rules.specs.declared.frame.Frame.{Frame}
use Rattle.table_rules.specs.declared.view.View.{View}
use Rattle.table_rules.specs.declared.view.Held.{Held}
use Rattle.table_rules.specs.Scenes.{shown}
use Rattle.table_rules.specs.Running.{Running}
use Rattle.table_steps.specs.Views.{aimed}
use Rattle.table_steps.specs.Claims.{with_step, ListsOne}
use Rattle.table_steps.specs.Seats.{Seated}
use Rattle.table_steps.specs.Slots.{Aim, IsSeated}
use Rattle.table_steps.specs.Hearings.{UnderScope}
use Rattle.table_steps.specs.Readings.{says_phase, notes_phase}
use Rattle.table_steps.specs.Callbacks.{is_registered, learns, withdraws, left_by, WithdrawsAt, CanWithdraw}
use Rattle.table_kept.proofs.Standing.{Standing}
use Rattle.table_kept.proofs.Listing.{AllowsListed, allows-listed, lists-one}
use Rattle.table_stop_kept.proofs.Noting.{seated-noted}
use Rattle.table_kept.proofs.FoundNow.{phase-said}
use Rattle.table_kept.proofs.HeldNow.{Holding, held}
use Rattle.table_kept.proofs.Codes.{armed-code}
use Rattle.table_stop_kept.proofs.ScopeCallbacks.{none-runs}
use Rattle.table_stop_kept.proofs.Withdraw.Runs.{ToWithdraw, registered, removed-runs, told-runs}

-- a word that says armed at this generation is the one that is written for it
pub armed-word : (g w : ℕ) → is_armed (says_phase g w) ≡ true → w ≡ callback_written g Armed
armed-word g w h =
    test (stamp_of w == g)
    (λ t.
    let stamped : stamp_of w ≡ g = eqb-true (stamp_of w) g t in
    let read : is_armed (callback_read w) ≡ true = ap is_armed (sym (cond-true (stamp_of w == g) (callback_read w) Never t)) ∙ h in
    let code : code_of w ≡ 1 = armed-code (code_of w) read in
    omega (arith, stamped, code))
    (λ ne. let never : is_armed Never ≡ true = ap is_armed (sym (cond-false (stamp_of w == g) (callback_read w) Never ne)) ∙ h in cc)

-- what the exchange leaves is what it says that it left
left-exchanged : (g old new n : ℕ) → old ≡ callback_written g Armed → stamp_of old ≡ g → callback_read old ≡ Armed → new ≡ callback_written g Removed →
    left_by g n ≡ either (n == old) new n
left-exchanged g old new n old_is stamp_old reads_old new_is =
    dite (ℕ_discrete n old)
    (λ hit.
    let armed : is_armed (says_phase g n) ≡ true =
    ap is_armed (ap (says_phase g) hit ∙ cond-true (stamp_of old == g) (callback_read old) Never (eq-eqb _ _ stamp_old) ∙ reads_old) in
    cond-true (is_armed (says_phase g n)) (callback_written g Removed) n armed ∙ sym new_is ∙ sym (ap (λ t. either t new n) (eq-eqb n old hit)))
    (λ miss.
    let unarmed : is_armed (says_phase g n) ≡ false =
    test (is_armed (says_phase g n)) (λ t. absurd (miss (armed-word g n t ∙ sym old_is))) (λ f. f) in
    cond-false (is_armed (says_phase g n)) (callback_written g Removed) n unarmed ∙ sym (ap (λ t. either t new n) (ne_eqb n old miss)))

-- the step is listed, whatever it tells
withdraw-lists : {P E : Type 0} (aim : Aim) (i n left : ℕ) (m m' : Seated P E) →
    m' ≡ (with_step i n left (withdraws aim.tree aim.name (says_phase aim.name.generation n) m.0), m.1) → ListsOne i n left m m'
withdraw-lists {P} {E} aim i n left m m' is =
    let phase = says_phase aim.name.generation n in
    let removes : View P E = notes_phase aim.name Removed m.0 in
    let tells : View P E = learns aim.tree aim.name (notes_phase aim.name phase m.0) in
    let Same : View P E → Type 0 = λ z. (z.steps ≡ m.0.steps) × (z.splits ≡ m.0.splits) × (z.joined ≡ m.0.joined) × (z.hands ≡ m.0.hands) in
    let same : Same (withdraws aim.tree aim.name phase m.0) =
    test (is_armed phase)
    (λ t. subst Same (sym (cond-true (is_armed phase) removes tells t)) (refl, refl, refl, refl))
    (λ f. subst Same (sym (cond-false (is_armed phase) removes tells f)) (refl, refl, refl, refl)) in
    lists-one i n left m m' (withdraws aim.tree aim.name phase m.0) (ap (λ z. z.0) is) same.0 same.1 same.2 same.3

-- what the exchange owes
withdraws_allowed : {P E O : Type 0} (cargo : Ghosts P E O) (f : Frame O) (slots id old new : ℕ) (x : Name) (m : Seated P E) →
    CanWithdraw m.0 x → old ≡ callback_written x.generation Armed → stamp_of old ≡ x.generation → callback_read old ≡ Armed → new ≡ callback_written x.generation Removed → stamp_of new ≡ x.generation → callback_read new ≡ Removed →
    Allows (Running cargo f) slots id m (index f.layout (OfCallback x.block x.node)) (λ n. either (n == old) new n)
    (WithdrawsAt (aimed f x) (step slots (index f.layout (OfCallback x.block x.node)) old new maybe.none) m)
withdraws_allowed {P} {E} cargo f slots id old new x m can old_is stamp_old reads_old new_is stamp_new reads_new s r deep at small =
    let hand : Standing cargo f = record { state = s; id = id; view = m.0; running = r; at = at } in
    let holding : Holding hand = record { name = x; entry = can.held; holds = can.holds } in
    let i = index f.layout (OfCallback x.block x.node) in
    let n = slice_index s.words i in
    let withdrawing : ToWithdraw hand = record { name = x; can = can; cell = i; number = n } in
    let live = (held cargo f hand holding).live in
    let said : phase_at (shown f s) x ≡ says_phase x.generation n = phase-said cargo f s r x live in
    let known : is_registered (says_phase x.generation n) ≡ true = ap is_registered (sym said) ∙ registered cargo f hand withdrawing in
    let unrun : UnderScope f.tree m.0 x (says_phase x.generation n ≢ Runs) =
    λ number near runs. none-runs cargo f hand x can.unrun number near (said ∙ runs) in
    let removes : View P E = notes_phase x Removed m.0 in
    let mine : View P E = with_step i n (left_by x.generation n) (withdraws f.tree x (says_phase x.generation n) m.0) in
    dite (ℕ_discrete n old)
    (λ hit.
    let armed : says_phase x.generation n ≡ Armed =
    ap (says_phase x.generation) hit ∙ cond-true (stamp_of old == x.generation) (callback_read old) Never (eq-eqb _ _ stamp_old) ∙ reads_old in
    let tells : View P E = learns f.tree x (notes_phase x (says_phase x.generation n) m.0) in (
      mine,
      keeps,
      tt,
      subst (λ (z : ℕ × ℕ × View P E). Running cargo f (stepped s i z.0 id m.1 (with_step i n z.1 z.2) keeps))
          (λ k. (
            sym (ap (λ t. either t new n) (eq-eqb n old hit)) k,
            (new_is ∙ sym (cond-true (is_armed (says_phase x.generation n)) (callback_written x.generation Removed) n (ap is_armed armed))) k,
            sym (cond-true (is_armed (says_phase x.generation n)) removes tells (ap is_armed armed)) k,
          ))
          (removed-runs cargo f hand withdrawing new (said ∙ armed) stamp_new reads_new refl refl),
      (refl, known, unrun),
    ))
    (λ miss.
    let unarmed : is_armed (says_phase x.generation n) ≡ false =
    test (is_armed (says_phase x.generation n)) (λ t. absurd (miss (armed-word x.generation n t ∙ sym old_is))) (λ f. f) in
    let tells : View P E = learns f.tree x (notes_phase x (says_phase x.generation n) m.0) in (
      mine,
      keeps,
      tt,
      subst (λ (z : ℕ × ℕ × View P E). Running cargo f (stepped s i z.0 id m.1 (with_step i n z.1 z.2) keeps))
          (λ k. (
            sym (ap (λ t. either t new n) (ne_eqb n old miss)) k,
            sym (cond-false (is_armed (says_phase x.generation n)) (callback_written x.generation Removed) n unarmed) k,
            (ap (λ p. learns f.tree x (notes_phase x p m.0)) said ∙ sym (cond-false (is_armed (says_phase x.generation n)) removes tells unarmed)) k,
          ))
          (told-runs cargo f hand withdrawing (ap is_armed said ∙ unarmed) refl),
      (refl, known, unrun),
    ))

-- the same by the frame that the table shows
pub withdraws-at : {P E O : Type 0} (cargo : Ghosts P E O) (board f : Frame O) (slots id i old new : ℕ) (x : Name) (aim : Aim) (m : Seated P E) → board ≡ f →
    i ≡ index board.layout (OfCallback x.block x.node) → aim ≡ aimed board x → CanWithdraw m.0 x → old ≡ callback_written x.generation Armed →
    stamp_of old ≡ x.generation → callback_read old ≡ Armed → new ≡ callback_written x.generation Removed → stamp_of new ≡ x.generation → callback_read new ≡ Removed →
    AllowsListed cargo f slots id m i (λ n. either (n == old) new n) (WithdrawsAt aim (step slots i old new maybe.none) m)
withdraws-at cargo board f slots id i old new x aim m same i_is aim_is can old_is stamp_old reads_old new_is stamp_new reads_new =
    allows-listed cargo f slots id m i (λ n. either (n == old) new n) (WithdrawsAt aim (step slots i old new maybe.none) m)
    (λ n m' told.
    subst (λ k. ListsOne i n k m m')
    (left-exchanged aim.name.generation old new n (old_is ∙ ap (λ z. callback_written z.name.generation Armed) (sym aim_is)) (stamp_old ∙ ap (λ z. z.name.generation) (sym aim_is)) reads_old (new_is ∙ ap (λ z. callback_written z.name.generation Removed) (sym aim_is)))
    (withdraw-lists aim i n (left_by aim.name.generation n) m m' told.0))
    (subst (λ z. Allows (Running cargo z) slots id m i (λ n. either (n == old) new n) (WithdrawsAt aim (step slots i old new maybe.none) m)) same
    (subst (λ (z : ℕ × Aim). Allows (Running cargo board) slots id m z.0 (λ n. either (n == old) new n) (WithdrawsAt z.1 (step slots z.0 old new maybe.none) m))
    (λ k. (sym i_is k, sym aim_is k))
    (withdraws_allowed cargo board slots id old new x m can old_is stamp_old reads_old new_is stamp_new reads_new)))

-- the hand still carries each slot once
pub withdrawn-seated : {P E : Type 0} (tree : List TreeNode) (l : Layout) (i n left : ℕ) (t : List TreeNode) (x : Name) (phase : CallbackPhase) (m : Seated P E) → IsSeated tree l m →
    IsSeated tree l (with_step i n left (withdraws t x phase m.0), m.1)
withdrawn-seated {P} {E} tree l i n left t x phase m old =
    let noted : CallbackPhase → Held E → Held E = λ p e. record e { phase = Some p } in
    test (is_armed phase)
    (λ a. subst (λ z. IsSeated tree l (with_step i n left z, m.1)) (sym (cond-true (is_armed phase) (notes_phase x Removed m.0) (learns t x (notes_phase x phase m.0)) a))
    (seated-noted tree l i n left x (noted Removed) m (λ e. refl) old))
    (λ no. subst (λ z. IsSeated tree l (with_step i n left z, m.1)) (sym (cond-false (is_armed phase) (notes_phase x Removed m.0) (learns t x (notes_phase x phase m.0)) no))
    (let kept = seated-noted tree l i n left x (noted phase) m (λ e. refl) old in
    record { apart = kept.apart; given = kept.given; itself = kept.itself }))

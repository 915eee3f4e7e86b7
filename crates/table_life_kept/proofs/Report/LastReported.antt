-- The child that is reported last: in its home lies the item with which it finished.
use Rattle.std.proofs.Common.{◌≡◌, true, ◌∷◌, Some, refl, sym, ap, ◌∙◌}
use Rattle.life_rules.specs.declared.event.Name.{Name}
use Rattle.life_kept.proofs.Trees.{child-parent}
use Rattle.table_rules.specs.declared.cargo.Cargo.{Ghosts}
use Rattle.table_rules.specs.declared.frame.Frame.{Frame}
use Rattle.table_rules.specs.declared.view.Reported.{Reported}
use Rattle.table_rules.specs.Named.{find_by}
use Rattle.table_rules.specs.Scenes.{Home, Out, Empty, Full, is_full, Scene, scene}
use Rattle.table_rules.specs.Notes.{IsReportedSo}
use Rattle.table_kept.proofs.Standing.{Standing}
use Rattle.table_kept.proofs.Entries.{found, each-found}
use Rattle.table_life_kept.proofs.LaidSlots.{content_of}
use Rattle.table_life_kept.proofs.Report.State.{above, child}
use Rattle.table_life_kept.proofs.Report.LastKids.{LastReport, reports-c, kid-live, kid-item, content}

-- what lies in a full home
full-content : {P : Type 0} (home : Home P) → is_full home ≡ true → (item : P) × (content_of home ≡ Some item)
full-content Out full = cc
full-content Empty full = cc
full-content (Full item) full = (item, refl)

module _ {P E O : Type 0} (cargo : Ghosts P E O) (f : Frame O) (hand : Standing cargo f)
    (task : LastReport hand) (e : Reported P E)
    (is : find_by (λ e. e.name) hand.view.reported task.child ≡ Some e) where
  open hand use {state as s, id, view as v, running as r, at}
  open task use {child as c, can, last}

  abbrev here : Scene P E
  here = scene f s r.past

  abbrev x : Name
  x = above cargo f hand c can

  -- the entry says with which start it began, and with which item it finished
  says : IsReportedSo here e
  says = each-found (IsReportedSo here) (λ e. e.name) v.reported c e is (r.stands.views.each id v at).reported

  says-of : e.name ≡ c
  says-of = (found (λ e. e.name) v.reported c e is).name_is

  full : is_full (here.home c.block c.node) ≡ true
  full = r.stands.homes.reported c (reports-c cargo f hand task)

  -- that item lies in its home
  pub last-keeps : content cargo f hand task c.node ≡ Some e.item
  last-keeps =
      let own = child cargo f hand c can in
      let given = full-content (here.home x.block c.node) full in
      given.1 ∙ sym (kid-item cargo f hand task c.node given.0 own given.1).delivered
      ∙ ap here.past.delivered (sym says-of) ∙ says.1

  -- and the start goes on with that of the node
  pub last-descends : (entry : E) × (e.start ≡ entry ∷ r.past.start x)
  last-descends =
      let own = child cargo f hand c can in
      let begun = r.stands.homes.begun c (kid-live cargo f hand task c.node own) full in
      let up = r.stands.starts.descends c x.node begun (child-parent f.tree x.node c.node own) in
      (up.0, says.0 ∙ ap r.past.start says-of ∙ up.1)

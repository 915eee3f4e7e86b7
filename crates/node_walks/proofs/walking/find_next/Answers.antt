use Rattle.std.proofs.Common.{inl, inr, refl}
use Rattle.life_rules.specs.Views.{beside}
use Rattle.op_slot.proofs.Staying.{stays-here}
use Rattle.exec_recv.proofs.Asiding.{aside-here}
use Rattle.node_walks.proofs.Going.{goes-to, let-go}
use Rattle.node_walks.proofs.walking.find_next.Goals as goal

pub begin_owed-requires-clause-owes : goal.begin_owed-requires-clause-owes
begin_owed-requires-clause-owes g c =
    let after = c.requires.after in
    let goes = rw c.in-InLoop.is at after.stepped.goes in
    let-go _ c.requires.site.over.is_tree _ _ _ _ after.can after.stepped goes.lets_go

pub begin_owed-requires-in-InPool-clause-owes : goal.begin_owed-requires-in-InPool-clause-owes
begin_owed-requires-in-InPool-clause-owes g c =
    let after = c.requires.after in
    let goes = rw c.in-InPool.is at after.stepped.goes in
    let-go _ c.requires.site.over.is_tree _ _ _ _ after.can after.stepped goes.lets_go

pub begin_owed-requires-in-Rest-clause-owes : goal.begin_owed-requires-in-Rest-clause-owes
begin_owed-requires-in-Rest-clause-owes g c =
    let after = c.requires.after in
    let lets = let-go c.args.site.now c.requires.site.over.is_tree c.args.name after.before c.args.hand.now.me c.args.next after.can after.stepped in
    elim c.in-Rest.is [
      | inl rest ↦ lets (rw rest at after.stepped.goes)
      | inr parked ↦ let goes = rw parked at after.stepped.goes in lets goes.lets_go
    ]

pub returns-in-Go-clause-next : goal.returns-in-Go-clause-next
returns-in-Go-clause-next g c =
    let after = c.requires.after in
    goes-to _ c.requires.site.over.is_tree _ _ _ _ after.can after.stepped (beside c.args.name c.in-Go.node)
    (rw c.in-Go.is at after.stepped.goes)

pub returns-in-InLoop-clause-follows : goal.returns-in-InLoop-clause-follows
returns-in-InLoop-clause-follows g c = rw c.in-InLoop.is c.begin_owed.ensures.finds

pub returns-in-InPool-clause-follows : goal.returns-in-InPool-clause-follows
returns-in-InPool-clause-follows g c = rw c.in-InPool.is c.begin_owed-in-InPool.ensures.finds

pub returns-in-Rest-clause-follows : goal.returns-in-Rest-clause-follows
returns-in-Rest-clause-follows g c =
    elim c.in-Rest.is [
      | inl rest ↦ rw rest c.begin_owed-in-Rest.ensures.finds
      | inr parked ↦ rw parked c.begin_owed-in-Rest.ensures.finds
    ]

pub returns-in-Go-clause-follows : goal.returns-in-Go-clause-follows
returns-in-Go-clause-follows g c = rw c.in-Go.is (record { going_is = refl; same = refl })

pub returns-in-InLoop-clause-heard : goal.returns-in-InLoop-clause-heard
returns-in-InLoop-clause-heard g c =
    rw c.in-InLoop.is (record { between = c.ready.new.self; first = c.ready.ensures.hears; others = refl })

pub returns-in-InPool-clause-heard : goal.returns-in-InPool-clause-heard
returns-in-InPool-clause-heard g c =
    rw c.in-InPool.is (record { between = c.ready-in-InPool.new.self; first = c.ready-in-InPool.ensures.hears; others = refl })

pub returns-in-Rest-clause-heard : goal.returns-in-Rest-clause-heard
returns-in-Rest-clause-heard g c =
    elim c.in-Rest.is [
      | inl rest ↦ rw rest refl
      | inr parked ↦ rw parked refl
    ]

pub returns-in-Go-clause-heard : goal.returns-in-Go-clause-heard
returns-in-Go-clause-heard g c = rw c.in-Go.is refl

pub returns-in-Go-clause-stays : goal.returns-in-Go-clause-stays
returns-in-Go-clause-stays g c = stays-here c.args.site.now c.args.hand.now c.requires.hand

pub returns-in-Go-clause-aside : goal.returns-in-Go-clause-aside
returns-in-Go-clause-aside g c = aside-here c.args.hand.now.me

pub returns-in-Go-clause-mail : goal.returns-in-Go-clause-mail
returns-in-Go-clause-mail g c = g.met.M.Mail.none c.args.mail.now

pub returns-in-Rest-clause-mail : goal.returns-in-Rest-clause-mail
returns-in-Rest-clause-mail g c = g.met.M.Mail.none c.args.mail.now

use Rattle.plan_reader.proofs.walk.Walk.make_bulk.Goals as goal

pub returns-then-is_element : goal.returns-then-is_element
returns-then-is_element c = rw (← c.if-is_element.ensures) c.make.ensures

pub returns-else-is_element : goal.returns-else-is_element
returns-else-is_element c =
    rw (← c.if-is_element.ensures, ← c.self.view_is) c.make-else-is_element.ensures

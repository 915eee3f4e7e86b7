use Rattle.pool_backends.proofs.Lasts.{gives-last, finds-none}
use Rattle.pool_backends.proofs.ring.RingBackendBackend.next.Goals as goal

pub returns-in-Lifo-clause-out : goal.returns-in-Lifo-clause-out
returns-in-Lifo-clause-out c lawful =
    gives-last c.args.self.now c.pop_back.new.self c.pop_back.result c.pop_back.ensures.value c.pop_back.ensures.items c.in-Lifo.is

pub returns-in-Lifo-clause-none : goal.returns-in-Lifo-clause-none
returns-in-Lifo-clause-none c lawful =
    finds-none c.args.self.now c.pop_back.new.self c.pop_back.result c.pop_back.ensures.value c.pop_back.ensures.items

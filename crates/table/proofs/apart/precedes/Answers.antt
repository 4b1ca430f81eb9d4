use Rattle.table.proofs.Order.{entry_earlier}
use Rattle.table.proofs.apart.precedes.Goals as goal

pub returns : goal.returns
returns c =
    entry_earlier c.args.table.now (λ k. (c.type_inv.table k).fits) c.args.i c.args.j c.entry_at-e.ensures.same c.entry_at-f.ensures.same
    c.prefix_of-p.ensures.same c.prefix_of-q.ensures.same c.eight.ensures.value c.eight-2.ensures.value c.eight-3.ensures.value
    c.eight-4.ensures.value c.eight-2.type_inv c.eight-4.type_inv c.lt.ensures

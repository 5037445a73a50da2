use Rattle.std.proofs.Common.{◌∙◌, ◌∷◌, [], ◌++◌, ap, arith}
use Rattle.drill_words.specs.BareEvent.{with_orders}
use Rattle.drill_words.proofs.EventListLemmas.{pushed}
use Rattle.drill_words.proofs.event_list.EventList.push_bare.Goals as goal

pub invariant_of-self-2 : goal.invariant_of-self-2
invariant_of-self-2 c =
    (pushed c.self.inside.pool.items c.add_orders.new.pool.items c.self.inside.heads.items c.reserve.new.self.items
    c.push_reserved.new.self.items c.head_of.result (with_orders c.args.orders.now c.args.bare) c.len-first.result c.self.invariant c.reserve.ensures.items
    c.push_reserved.ensures.items c.in_ok-add_orders.ensures.ok c.head_of.ensures.head
    (omega (arith, c.len-first.ensures, c.self.inside.pool.ok.0)) c.head_of.ensures.few).stored

pub returns-clause-ok : goal.returns-clause-ok
returns-clause-ok c =
    (pushed c.self.inside.pool.items c.add_orders.new.pool.items c.self.inside.heads.items c.reserve.new.self.items
    c.push_reserved.new.self.items c.head_of.result (with_orders c.args.orders.now c.args.bare) c.len-first.result c.self.invariant c.reserve.ensures.items
    c.push_reserved.ensures.items c.in_ok-add_orders.ensures.ok c.head_of.ensures.head
    (omega (arith, c.len-first.ensures, c.self.inside.pool.ok.0)) c.head_of.ensures.few).seen
    ∙ ap (λ events. events ++ (with_orders c.args.orders.now c.args.bare) ∷ []) c.self.view_is

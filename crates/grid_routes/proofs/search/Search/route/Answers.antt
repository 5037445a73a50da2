use Rattle.std.proofs.Common.{List, inl, sym, ◌∙◌, arith, subst}
use Rattle.world_units.specs.declared.cell.CPos.{CPos}
use Rattle.grid_routes.specs.EntryCosts.{entry_cost_in}
use Rattle.grid_routes.proofs.Best.{no-direction}
use Rattle.grid_routes.proofs.Walking.{RouteSoFar, away, route-end, route-fits, route-step, zero-goal}
use Rattle.grid_routes.proofs.search.Search.route.Goals as goal

pub returns-then-cost : goal.returns-then-cost
returns-then-cost c =
    no-direction (record { entry_cost = entry_cost_in c.args.self.now.entry_costs; goal = c.args.goal }) c.args.self.now.field c.args.self.now.buckets
    c.requires.search c.args.from c.label-cost.result c.requires.on c.requires.settled c.if-cost.true c.label-cost.ensures

pub returns-then-cost-eq0 : goal.returns-then-cost-eq0
returns-then-cost-eq0 c =
    inl (zero-goal (record { entry_cost = entry_cost_in c.args.self.now.entry_costs; goal = c.args.goal }) c.args.self.now.field c.args.self.now.buckets
    c.requires.search c.args.from (sym c.label-cost.ensures ∙ c.if-cost-eq0.true))

pub push_reserved-requires-in-loop-goal : goal.push_reserved-requires-in-loop-goal
push_reserved-requires-in-loop-goal c =
    let fits =
    route-fits (record { entry_cost = entry_cost_in c.args.self.now.entry_costs; goal = c.args.goal }) c.args.self.now.field c.args.self.now.buckets
    c.requires.search c.args.from c.loop-goal.at c.loop-goal.cells.items c.loop-goal.invariant.0 c.requires.on c.requires.settled
    (omega arith) (omega arith) in
    omega (arith, fits, c.loop-goal.invariant.1, c.loop-goal.cells.ok.0)

pub loop-goal-preserved : goal.loop-goal-preserved
loop-goal-preserved c = (
  route-step (record { entry_cost = entry_cost_in c.args.self.now.entry_costs; goal = c.args.goal }) c.args.self.now.field c.args.self.now.buckets
      c.requires.search c.args.from c.loop-goal.at c.next-at.result c.loop-goal.cells.items
      c.push_reserved-in-loop-goal.new.self.items (omega arith) c.loop-goal.invariant.0 c.next-at.ensures
      c.push_reserved-in-loop-goal.ensures.items,
  omega (arith, c.loop-goal.invariant.1, c.push_reserved-in-loop-goal.ensures.capacity),
)

pub returns : goal.returns
returns c =
    let so_far = subst (λ (xs : List CPos). RouteSoFar (record { entry_cost = entry_cost_in c.args.self.now.entry_costs; goal = c.args.goal })
    c.args.self.now.field c.args.from c.loop-goal.at xs) (sym c.from_vec-cells.ensures) c.loop-goal.invariant.0 in (
      away (record { entry_cost = entry_cost_in c.args.self.now.entry_costs; goal = c.args.goal }) c.args.self.now.field c.args.self.now.buckets
          c.requires.search c.args.from c.label-cost.result c.label-cost.ensures (omega arith),
      route-end (record { entry_cost = entry_cost_in c.args.self.now.entry_costs; goal = c.args.goal }) c.args.self.now.field c.args.self.now.buckets
          c.requires.search c.args.from c.loop-goal.at c.from_vec-cells.result c.label-cost.result so_far c.requires.on
          c.requires.settled (omega arith) c.label-cost.ensures (omega arith),
    )

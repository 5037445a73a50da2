use Rattle.std.proofs.Common.{◌∙◌, arith}
use Rattle.grid_routes.specs.EntryCosts.{entry_cost_in}
use Rattle.grid_routes.proofs.Expanding.{expanded-free, ringed-none, ringed-skip, ringed-step}
use Rattle.grid_routes.proofs.search.Search.ring.Goals as goal
use Rattle.grid_routes.proofs.search.Search.ring.Goals.{then-label-level+then-entry_cost-gt0+then-goes_on, else-label-level, else-label-level-via-then-label-level+then-entry_cost-gt0+else-goes_on, else-label-level-via-then-label-level+else-entry_cost-gt0, else-label-level-via-else-label-level}

pub loop-i-init : goal.loop-i-init
loop-i-init c = ringed-none _ _ _ _

pub loop-i-preserved : goal.loop-i-preserved
loop-i-preserved c =
    elim c.if-label-level.branch [
      | then-label-level+then-entry_cost-gt0+then-goes_on w ↦
          rw w.self-is
          (ringed-step _ _ _ _ _ _ _ _ _ c.loop-i.invariant c.get-q.ensures.whole c.get-q.ensures.here _ _ _
          w.expand.ensures.entry_costs w.expand.ensures.same w.expand.ensures.lowers w.expand.ensures.done)
      | else-label-level w ↦
          rw w.self-is
          (ringed-skip _ _ _ _ _ _ _ _ _ c.loop-i.invariant c.get-q.ensures.whole c.get-q.ensures.here
          (λ same reached.
          elim w.else-label-level.branch [
            | else-label-level-via-then-label-level+then-entry_cost-gt0+else-goes_on w' ↦
                absurd (w'.goes_on.ensures.no w'.if-goes_on.false (omega (arith, c.requires.low)) (rw c.reach-reach.ensures reached))
            | else-label-level-via-then-label-level+else-entry_cost-gt0 w' ↦
                expanded-free (entry_cost_in c.loop-i.self.entry_costs) c.loop-i.self.field.labels c.args.level c.get-q.result
                (omega (arith, c.entry_cost.ensures.value, c.from-entry_cost.ensures, w'.if-entry_cost-gt0.false))
            | else-label-level-via-else-label-level w' ↦ absurd (w'.if-label-level.false (c.label-label.ensures ∙ same))
          ]))
    ]

pub returns-clause-done : goal.returns-clause-done
returns-clause-done c = λ i q at label reached.
    c.loop-i.invariant.done i q (omega (arith, at.within, c.len-i-end.ensures)) at label reached

use Rattle.std.proofs.Common.{cond, ap, sym, subst, ◌∙◌, ◌+◌, Some}
use Rattle.std.specs.HashMap.{get}
use Rattle.std.specs.Str.{bytes_eq}
use Rattle.yaml_merge.proofs.IndexSteps.{FindsUpTo, finds_live, finds_dead}
use Rattle.yaml_merge.proofs.index.places_of.Goals.{then-slot+in_ok-copy+in_ok-insert, else-slot}
use Rattle.yaml_merge.proofs.index.places_of.Goals as goal

pub loop-at-preserved : goal.loop-at-preserved
loop-at-preserved c =
    let slots = c.args.slots.now in
    let at = c.loop-at.at in
    let slot = c.index-slots-at.result in
    elim c.if-slot.branch [
      | then-slot+in_ok-copy+in_ok-insert w ↦
          subst (λ places. FindsUpTo (at + 1) slots (get bytes_eq places)) (sym w.places-is)
          (finds_live slots at slot (get bytes_eq c.loop-at.places) (get bytes_eq w.insert.new.self) c.loop-at-test.true c.index-slots-at.is w.if-slot.true c.requires
          (λ key. (w.in_ok-insert.ensures {u = tt}).updates.0 key ∙ ap (λ k. cond (bytes_eq k key) (Some at) (get bytes_eq c.loop-at.places key)) (w.in_ok-copy.ensures {u = tt}))
          c.loop-at.invariant)
      | else-slot w ↦
          subst (λ places. FindsUpTo (at + 1) slots (get bytes_eq places)) (sym w.places-is)
          (finds_dead slots at slot (get bytes_eq c.loop-at.places) c.loop-at-test.true c.index-slots-at.is w.if-slot.false c.loop-at.invariant)
    ]

use Rattle.std.proofs.Common.{refl, sym, ap, ◌∙◌}
use Rattle.game_model.specs.Setup.{setup_in}
use Rattle.game_tick.specs.Building.{Built, with_builds}
use Rattle.production.proofs.Changes.{changed_occupied, changed_length, changed_below}
use Rattle.production.proofs.Steps.{by_id_idle, by_id_waits, by_id_out}
use Rattle.production.proofs.building.build_step.Goals as goal

pub returns-then-is_empty-clause-actors : goal.returns-then-is_empty-clause-actors
returns-then-is_empty-clause-actors c =
    let idle = by_id_idle (setup_in c.args.g.now) c.args.t.now.actors c.args.next_id.now c.args.id c.in-Some.a.now _ (sym c.in-Some.ensures) refl (c.is_empty.ensures.0 c.if-is_empty.true) in
    ap (λ (b : Built). record c.args.t.now { actors = b.actors }) (sym idle)

pub returns-then-is_empty-clause-next_id : goal.returns-then-is_empty-clause-next_id
returns-then-is_empty-clause-next_id c =
    let idle = by_id_idle (setup_in c.args.g.now) c.args.t.now.actors c.args.next_id.now c.args.id c.in-Some.a.now _ (sym c.in-Some.ensures) refl (c.is_empty.ensures.0 c.if-is_empty.true) in
    ap (λ (b : Built). b.next_id) (sym idle)

pub returns-in_default-exit_after-clause-actors : goal.returns-in_default-exit_after-clause-actors
returns-in_default-exit_after-clause-actors c =
    let waits = by_id_waits (setup_in c.args.g.now) c.args.t.now.actors c.args.next_id.now c.args.id c.saturating_sub.result c.in-Some.a.now c.get-first.result.now _ c.set.new.self (sym c.in-Some.ensures) c.copy-builds.ensures c.get-first.ensures c.saturating_sub.ensures (sym c.in_default-exit_after.ensures.value) c.set.ensures in
    c.give_builds.ensures ∙ ap (λ (b : Built). record c.args.t.now { actors = b.actors }) (sym waits)

pub returns-in_default-exit_after-clause-next_id : goal.returns-in_default-exit_after-clause-next_id
returns-in_default-exit_after-clause-next_id c =
    let waits = by_id_waits (setup_in c.args.g.now) c.args.t.now.actors c.args.next_id.now c.args.id c.saturating_sub.result c.in-Some.a.now c.get-first.result.now _ c.set.new.self (sym c.in-Some.ensures) c.copy-builds.ensures c.get-first.ensures c.saturating_sub.ensures (sym c.in_default-exit_after.ensures.value) c.set.ensures in
    ap (λ (b : Built). b.next_id) (sym waits)

pub insert-requires-clause-room : goal.insert-requires-clause-room
insert-requires-clause-room c =
    rw (c.give_builds-2.ensures, changed_length c.args.t.now.actors c.args.id (with_builds c.remove-done.new.self)) c.in-Some-exit_after.ensures.room.count

pub insert-requires-clause-free : goal.insert-requires-clause-free
insert-requires-clause-free c =
    rw (c.give_builds-2.ensures, c.new_actor.ensures) (changed_occupied c.args.t.now.actors c.args.id (with_builds c.remove-done.new.self) c.in-Some-exit_after.exit.cell (λ a. refl) ∙ c.in-Some-exit_after.ensures.exit.free)

pub insert-requires-clause-above : goal.insert-requires-clause-above
insert-requires-clause-above c =
    rw (c.give_builds-2.ensures, c.new_actor.ensures) (changed_below c.args.t.now.actors c.args.id c.args.next_id.now (with_builds c.remove-done.new.self) (λ a. refl) c.requires.ids)

pub returns-clause-actors : goal.returns-clause-actors
returns-clause-actors c =
    let out = by_id_out (setup_in c.args.g.now) c.args.t.now.actors c.args.next_id.now c.args.id c.saturating_sub.result _ c.in-Some-exit_after.exit.cell c.in-Some.a.now c.get-first.result.now _ c.remove-done.new.self (sym c.in-Some.ensures) c.copy-builds.ensures c.get-first.ensures c.saturating_sub.ensures (sym c.in-Some-exit_after.ensures.value) c.in-Some-exit_after.ensures.exit.beside c.remove-done.ensures.rest in
    c.insert.ensures ∙ rw (c.give_builds-2.ensures, c.new_actor.ensures, c.dir_angle-facing.ensures) (ap (λ (b : Built). record c.args.t.now { actors = b.actors }) (sym out))

pub returns-clause-next_id : goal.returns-clause-next_id
returns-clause-next_id c =
    let out = by_id_out (setup_in c.args.g.now) c.args.t.now.actors c.args.next_id.now c.args.id c.saturating_sub.result _ c.in-Some-exit_after.exit.cell c.in-Some.a.now c.get-first.result.now _ c.remove-done.new.self (sym c.in-Some.ensures) c.copy-builds.ensures c.get-first.ensures c.saturating_sub.ensures (sym c.in-Some-exit_after.ensures.value) c.in-Some-exit_after.ensures.exit.beside c.remove-done.ensures.rest in
    ap (λ (b : Built). b.next_id) (sym out)

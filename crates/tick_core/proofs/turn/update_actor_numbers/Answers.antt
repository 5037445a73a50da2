use Rattle.std.proofs.Common.{[], ap, sym, ◌∙◌}
use Rattle.std.specs.Prelude.{◌||◌}
use Rattle.tick_core.specs.Telling.{with_some}
use Rattle.tick_core.proofs.LiveLemmas.{three_live}
use Rattle.tick_core.proofs.TellLemmas.{place, told_next}
use Rattle.tick_core.proofs.TouchedLemmas.{kept_all}
use Rattle.tick_core.proofs.turn.update_actor_numbers.Goals as goal

pub update_actor_number-own-requires : goal.update_actor_number-own-requires
update_actor_number-own-requires c =
    let t = c.args.table.now in
    place (with_some c.args.id (with_some c.args.target (with_some c.args.added []))) c.args.hasher.now.actors t.actors c.args.id c.requires c.len-ids_rise.ensures.list.count

pub update_actor_number-hit-requires : goal.update_actor_number-hit-requires
update_actor_number-hit-requires c =
    let t = c.args.table.now in
    let rise = c.len-ids_rise.ensures.list.rise in
    let first = told_next (with_some c.args.target (with_some c.args.added [])) c.args.id c.args.hasher.now c.update_actor_number-own.new.hasher t.actors rise c.requires c.update_actor_number-own.ensures.told in
    place (with_some c.args.target (with_some c.args.added [])) c.update_actor_number-own.new.hasher.actors t.actors c.args.target first c.len-ids_rise.ensures.list.count

pub update_actor_number-new-requires : goal.update_actor_number-new-requires
update_actor_number-new-requires c =
    let t = c.args.table.now in
    let rise = c.len-ids_rise.ensures.list.rise in
    let first = told_next (with_some c.args.target (with_some c.args.added [])) c.args.id c.args.hasher.now c.update_actor_number-own.new.hasher t.actors rise c.requires c.update_actor_number-own.ensures.told in
    let second = told_next (with_some c.args.added []) c.args.target c.update_actor_number-own.new.hasher c.update_actor_number-hit.new.hasher t.actors rise first c.update_actor_number-hit.ensures.told in
    place (with_some c.args.added []) c.update_actor_number-hit.new.hasher.actors t.actors c.args.added second c.len-ids_rise.ensures.list.count

pub returns-clause-numbers : goal.returns-clause-numbers
returns-clause-numbers c =
    let t = c.args.table.now in
    let rise = c.len-ids_rise.ensures.list.rise in
    let first = told_next (with_some c.args.target (with_some c.args.added [])) c.args.id c.args.hasher.now c.update_actor_number-own.new.hasher t.actors rise c.requires c.update_actor_number-own.ensures.told in
    let second = told_next (with_some c.args.added []) c.args.target c.update_actor_number-own.new.hasher c.update_actor_number-hit.new.hasher t.actors rise first c.update_actor_number-hit.ensures.told in
    let third = told_next [] c.args.added c.update_actor_number-hit.new.hasher c.update_actor_number-new.new.hasher t.actors rise second c.update_actor_number-new.ensures.told in
    kept_all c.update_actor_number-new.new.hasher.actors t.actors third

pub returns-clause-living : goal.returns-clause-living
returns-clause-living c = λ calm.
    three_live c.args.table.now.actors c.args.id c.args.target c.args.added c.update_actor_number-own.result c.update_actor_number-hit.result c.update_actor_number-new.result
    c.update_actor_number-own.ensures.living c.update_actor_number-hit.ensures.living c.update_actor_number-new.ensures.living
    (ap (λ died. c.update_actor_number-own.result || died) (sym c.or.ensures) ∙ sym c.or-2.ensures ∙ calm)

use Rattle.std.proofs.Common.{sym, subst}
use Rattle.game_model.specs.Grid.{HasSize}
use Rattle.grid_routes.specs.EntryCosts.{Ground}
use Rattle.grid_routes.proofs.Asking.{forgotten-asks}
use Rattle.grid_routes.proofs.Keeping.{forgotten-kept}
use Rattle.grid_routes.proofs.fields.Fields.forget.Goals as goal

pub returns-clause-fields : goal.returns-clause-fields
returns-clause-fields c =
    let f = c.requires.fields in
    let old = c.args.self.now.search.entry_costs in
    let new = c.take_ground.new.self in
    record {
      terrain = subst (λ (g : Ground). HasSize c.args.map.now.width c.args.map.now.height g.terrain) (sym c.take_ground.ensures) c.requires.terrain;
      size = f.size;
      room = f.room;
      search = tt;
      kept = forgotten-kept c.args.map.now.width c.args.map.now.height old.terrain new.terrain old.built new.built
          c.args.self.now.kept.items c.forget_all.new.kept.items c.forget_all.ensures f.kept;
      place = rw c.forget_all.ensures.same f.place;
    }

pub returns-clause-asks : goal.returns-clause-asks
returns-clause-asks c = forgotten-asks c.args.self.now.kept.items c.forget_all.new.kept.items c.forget_all.ensures

use Rattle.std.proofs.Common.{refl, sym, subst, ◌∙◌, Some, None, length-set}
use Rattle.std.specs.List.{All}
use Rattle.game_model.specs.Grid.{HasSize}
use Rattle.grid_routes.specs.EntryCosts.{Ground}
use Rattle.grid_routes.specs.Labels.{Distances}
use Rattle.grid_routes.specs.Kept.{IsKeptField}
use Rattle.grid_routes.specs.declared.fields.Kept.{Kept}
use Rattle.grid_routes.proofs.Asking.{found-ask, not-false, not-true, take-asks}
use Rattle.grid_routes.proofs.Keeping.{for-own, found-going, kept-set, turned}
use Rattle.grid_routes.proofs.fields.Fields.take_up.Goals as goal

pub set_out-requires-clause-size : goal.set_out-requires-clause-size
set_out-requires-clause-size c =
    let f = c.requires.fields in
    let old = c.args.self.now in
    let mine : Kept = record { ask = old.ask; field = old.search.field } in
    let there = f.kept c.args.place mine c.requires.place in
    subst (λ (d : Distances). HasSize old.search.entry_costs.terrain.width old.search.entry_costs.terrain.height d.labels)
    (sym (c.exchange-found.ensures.field mine)) there.size

pub set_out-requires-clause-going : goal.set_out-requires-clause-going
set_out-requires-clause-going c = λ known.
    let f = c.requires.fields in
    let old = c.args.self.now in
    let mine : Kept = record { ask = old.ask; field = old.search.field } in
    let there = f.kept c.args.place mine c.requires.place in
    found-going old.search.entry_costs.terrain.width old.search.entry_costs.terrain.height old.search.entry_costs.terrain old.search.entry_costs.built _
    c.exchange-found.result c.exchange-found.new.field c.args.ask.now there (c.exchange-found.ensures.found mine)
    (c.exchange-found.ensures.field mine) (c.is_known-known.ensures known)

pub returns-clause-fields : goal.returns-clause-fields
returns-clause-fields c =
    let f = c.requires.fields in
    let old = c.args.self.now in
    let w = old.search.entry_costs.terrain.width in
    let h = old.search.entry_costs.terrain.height in
    let new = c.set_out.new.self in
    let room : Kept = record { ask = None; field = old.search.field } in
    record {
      terrain = subst (λ (g : Ground). HasSize w h g.terrain) (sym c.set_out.ensures.entry_costs) f.terrain;
      size = c.set_out.ensures.size;
      room = c.set_out.ensures.room ∙ f.room;
      search = for-own new c.args.ask.now (record {
        entry_costs = turned new.entry_costs old.search.entry_costs c.args.ask.now.costs c.args.ask.now.goal c.set_out.ensures.entry_costs;
        going = c.set_out.ensures.search;
      });
      kept = subst (λ (g : Ground). All (IsKeptField w h g.terrain g.built) c.exchange-found.new.kept.items) (sym c.set_out.ensures.entry_costs)
          (kept-set w h old.search.entry_costs.terrain old.search.entry_costs.built old.kept.items c.exchange-found.new.kept.items
          c.args.place room f.kept (record { size = f.size; going = tt }) c.exchange-found.ensures.kept);
      place = rw (c.exchange-found.ensures.kept, length-set old.kept.items c.args.place room) c.requires.place;
    }

pub returns-clause-search : goal.returns-clause-search
returns-clause-search c = record {
  entry_costs = turned c.set_out.new.self.entry_costs c.args.self.now.search.entry_costs c.args.ask.now.costs c.args.ask.now.goal
      c.set_out.ensures.entry_costs;
  going = c.set_out.ensures.search;
}

pub returns-clause-asks : goal.returns-clause-asks
returns-clause-asks c =
    let old = c.args.self.now in
    take-asks old.ask c.args.ask.now old.kept.items c.exchange-found.new.kept.items c.args.place
    (record { ask = None; field = old.search.field }) c.exchange-found.ensures.kept refl

pub returns-clause-begun : goal.returns-clause-begun
returns-clause-begun c = λ kept.
    let old = c.args.self.now in
    let mine : Kept = record { ask = old.ask; field = old.search.field } in
    found-ask old.ask old.kept.items c.args.place mine c.exchange-found.result c.args.ask.now c.requires.place
    (c.exchange-found.ensures.found mine) (c.is_known-known.ensures (not-false c.is_known-known.result kept))

pub returns-clause-anew : goal.returns-clause-anew
returns-clause-anew c = λ begun.
    (c.exchange-found.new.field, Some c.args.reach, c.set_out.ensures.anew (not-true c.is_known-known.result begun))

pub returns-clause-found : goal.returns-clause-found
returns-clause-found c = λ kept d.
    sym (c.exchange-found.ensures.found d) ∙ c.is_known-known.ensures (not-false c.is_known-known.result kept)

pub returns-clause-resumed : goal.returns-clause-resumed
returns-clause-resumed c = λ kept d.
    c.set_out.ensures.resumed (not-false c.is_known-known.result kept) ∙ c.exchange-found.ensures.field d

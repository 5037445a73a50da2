use Rattle.grid_routes.proofs.search.Search.create.Goals as goal

pub returns : goal.returns
returns c = record {
  of_terrain = c.in_ok-create.ensures {u = tt};
  of_labels = c.in_ok-create-2.ensures {u = tt};
  room = c.in_ok-create-3.ensures {u = tt};
}

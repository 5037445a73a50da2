use Rattle.game_model.specs.Walks.{Land, IsBestDirection}
use Rattle.grid_routes.proofs.Knowing.{asked-land}
use Rattle.grid_routes.proofs.findings.best_of.Goals as goal

pub returns : goal.returns
returns c =
    asked-land (λ (land : Land). IsBestDirection land c.args.from c.best_on.result) c.args.search.now c.args.ask.now
    c.requires.search c.best_on.ensures

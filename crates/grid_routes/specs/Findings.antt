-- What a router has found over one ground.
use Rattle.std.specs.Prelude.{ℕ}
use Rattle.grid_routes.specs.Kept.{AreFields}
use Rattle.grid_routes.specs.KnownWalks.{AreBest}
use Rattle.grid_routes.specs.declared.findings.Findings.{Findings}

-- The fields have the size of the map, and they and the walks are over the ground of the search.
pub record AreFindings (w h : ℕ) (findings : Findings) : Type 0 where
  pub fields : AreFields w h findings.fields
  pub known : AreBest findings.fields.search.entry_costs.terrain findings.fields.search.entry_costs.built
      findings.known.walks.items

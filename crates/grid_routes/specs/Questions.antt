-- What a question over a ground leaves of a router.
use Rattle.std.specs.Prelude.{◌≡◌, ◌⊎◌, Bool, [], Some}
use Rattle.game_model.specs.declared.map.Map.{Map}
use Rattle.game_model.specs.Grid.{Grid}
use Rattle.grid_routes.specs.Asked.{CountsOn, KeepsOnly, one_more}
use Rattle.grid_routes.specs.Routing.{LooksAt, Routing}
use Rattle.grid_routes.specs.declared.ask.Ask.{Ask}

-- For which questions something is kept afterwards, and how many fields were begun by then.
pub record IsAsked (map : Map) (built : Grid Bool) (ask : Ask) (old new : Routing) : Type 0 where
  pub computed : CountsOn old.asks ask old.computed new.computed
  pub asks : KeepsOnly ask old.asks new.asks
  -- Over another ground than before nothing else is kept, and a field is begun.
  pub alone : (LooksAt old map built → ⊥) → KeepsOnly ask [] new.asks
  pub anew : (LooksAt old map built → ⊥) → new.computed ≡ one_more old.computed
  -- None is begun for the question whose field was written last.
  pub again : LooksAt old map built → old.last ≡ Some ask → new.computed ≡ old.computed
  pub begun : (new.computed ≡ old.computed) ⊎ (new.last ≡ Some ask)

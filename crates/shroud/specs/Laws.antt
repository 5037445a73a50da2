-- A shroud after any list of updates.
use Rattle.std.specs.Prelude.{◌≡◌, ℕ, List, [], ◌∷◌, ◌++◌, map}
use Rattle.rule_traits.specs.declared.kind.Kind.{Kind}
use Rattle.game_model.specs.declared.world.World.{World}
use Rattle.shroud.specs.Explored.{is_explored}
use Rattle.shroud.specs.Grids.{grids_of}
use Rattle.shroud.specs.ShroudState.{ShroudState, shrouded, updated}
use Rattle.shroud.specs.Sights.{is_seen}

-- An update: the world, and how many actors had been counted after it.
pub record Update : Type 0 where
  pub world : World
  pub touched : ℕ

-- The shroud after these updates.
abbrev pub after_updates : ShroudState → List Update → ShroudState
after_updates s [] = s
after_updates s (u ∷ us) = after_updates (updated s u.world.actors u.touched) us

abbrev pub worlds_of : List Update → List World
worlds_of updates = map (λ (u : Update). u.world) updates

-- The shroud over these rules and this map has explored what was seen in these worlds.
pub record HasExplored (kinds : List Kind) (across down count : ℕ) (worlds : List World)
    (s : ShroudState) : Type 0 where
  pub rules : s.rules ≡ kinds
  pub width : s.width ≡ across
  pub height : s.height ≡ down
  pub clients : s.clients ≡ count
  pub explored : s.explored ≡ grids_of across down count (is_explored kinds worlds)

-- What is seen is what the actors of the last world see, and what is explored is what was seen in
-- one of the worlds.
pub record FollowsWorlds (rules : List Kind) (width height clients : ℕ) (worlds : List World)
    (last : World) (s : ShroudState) : Type 0 where
  pub seen : s.seen ≡ grids_of width height clients (is_seen rules last.actors)
  pub explored :
      s.explored ≡ grids_of width height clients (is_explored rules (worlds ++ last ∷ []))

-- Of a shroud that was created and then updated, the last time so.
abbrev pub FollowsAll : List Kind → (width height clients : ℕ) → List Update → Update → Type 0
FollowsAll rules width height clients updates last =
    FollowsWorlds rules width height clients (worlds_of updates) last.world
    (after_updates (shrouded rules width height clients) (updates ++ last ∷ []))

-- Walks that are known stay right, and what is found of a cell is found of the next one.
use Rattle.std.proofs.Common.{◌≡◌, ℕ, inl, inr, Bool, List, [], Option, Some, None, sym, subst, ◌∙◌}
use Rattle.std.specs.Prelude.{IfSome}
use Rattle.std.specs.List.{All}
use Rattle.std.proofs.lemmas.List.Elements.{All-contains, All-nil, All-push, All-same, All-set}
use Rattle.world_units.specs.declared.cell.CPos.{CPos}
use Rattle.world_units.specs.Directions.{step_of}
use Rattle.game_model.specs.declared.terrain.Terrain.{Terrain}
use Rattle.game_model.specs.Grid.{Grid}
use Rattle.game_model.specs.Walks.{Land, IsBest, IsBestDirection}
use Rattle.grid_routes.specs.EntryCosts.{Ground, land_over, entry_cost_in}
use Rattle.grid_routes.specs.Steps.{IsSearch}
use Rattle.grid_routes.specs.Kept.{IsFor, IsSettled}
use Rattle.grid_routes.specs.KnownWalks.{AreBest, IsAdded, IsBestStep, IsBestWalk, IsKnown, IsPut}
use Rattle.grid_routes.specs.Findings.{AreFindings}
use Rattle.grid_routes.specs.declared.ask.Ask.{Ask}
use Rattle.grid_routes.specs.declared.findings.Findings.{Findings}
use Rattle.grid_routes.specs.declared.known_walk.KnownStep.{KnownStep}
use Rattle.grid_routes.specs.declared.known_walk.KnownWalk.{KnownWalk}
use Rattle.grid_routes.specs.declared.search.Search.{Search}
use Rattle.grid_routes.proofs.Best.{next-final, next-on}

-- Where no walk is known there is no wrong one.
pub none_best :
    (terrain : Grid Terrain) (built : Grid Bool) (walks : List KnownWalk) → walks ≡ [] → AreBest terrain built walks
none_best terrain built walks is = record {
  each = All-same (IsBestWalk terrain built) walks [] is (All-nil (IsBestWalk terrain built));
}

-- A walk without steps has no wrong one.
pub empty_best :
    (terrain : Grid Terrain) (built : Grid Bool) (walk : KnownWalk) → walk.steps.items ≡ [] →
    IsBestWalk terrain built walk
empty_best terrain built walk is =
    let land = land_over terrain built walk.ask.costs walk.ask.goal in
    record { each = All-same (IsBestStep land) walk.steps.items [] is (All-nil (IsBestStep land)) }

added_steps :
    (land : Land) (old new : List KnownStep) (step : KnownStep) → All (IsBestStep land) old → IsBestStep land step →
    IsAdded old new step → All (IsBestStep land) new
added_steps land old new step steps best (inl same) = All-same (IsBestStep land) new old same steps
added_steps land old new step steps best (inr more) =
    All-same (IsBestStep land) new _ more (All-push (IsBestStep land) old step steps best)

-- A walk with a best step more.
pub added_best :
    (terrain : Grid Terrain) (built : Grid Bool) (old new : KnownWalk) (ask : Ask) (step : KnownStep) →
    IsBestWalk terrain built old → old.ask ≡ ask → new.ask ≡ old.ask →
    IsBest (land_over terrain built ask.costs ask.goal) step.cell step.direction →
    IsAdded old.steps.items new.steps.items step → IsBestWalk terrain built new
added_best terrain built old new ask step walk asked same best added =
    let land : Ask → Land = λ a. land_over terrain built a.costs a.goal in
    let steps : All (IsBestStep (land ask)) old.steps.items =
    subst (λ (a : Ask). All (IsBestStep (land a)) old.steps.items) asked walk.each in
    record {
      each = subst (λ (a : Ask). All (IsBestStep (land a)) new.steps.items) (sym (same ∙ asked))
          (added_steps (land ask) old.steps.items new.steps.items step steps best added);
    }

put_walks :
    (P : KnownWalk → Type 0) (old new : List KnownWalk) (walk : KnownWalk) → All P old → P walk → IsPut old new walk →
    All P new
put_walks P old new walk known best (inl same) = All-same P new old same known
put_walks P old new walk known best (inr (inl more)) = All-same P new _ more (All-push P old walk known best)
put_walks P old new walk known best (inr (inr taken)) =
    All-same P new _ taken.1 (All-set P old taken.0 walk best known)

-- What is known after a best walk was put.
pub put_best :
    (terrain : Grid Terrain) (built : Grid Bool) (old new : List KnownWalk) (walk : KnownWalk) →
    AreBest terrain built old → IsBestWalk terrain built walk → IsPut old new walk → AreBest terrain built new
put_best terrain built old new walk known best put = record {
  each = put_walks (IsBestWalk terrain built) old new walk known.each best put;
}

known_step_best :
    (terrain : Grid Terrain) (built : Grid Bool) (walks : List KnownWalk) (ask : Ask) (cell : CPos) (d : ℕ) →
    AreBest terrain built walks → IsKnown walks ask cell d →
    IsBest (land_over terrain built ask.costs ask.goal) cell d
known_step_best terrain built walks ask cell d best known =
    let step : KnownStep = record { cell = cell; direction = d } in
    let walk = All-contains (IsBestWalk terrain built) walks known.walk best.each known.known in
    subst (λ (a : Ask). IsBestStep (land_over terrain built a.costs a.goal) step) known.asked
    (All-contains (IsBestStep (land_over terrain built known.walk.ask.costs known.walk.ask.goal)) known.walk.steps.items
    step walk.each known.step)

pub known_best :
    (terrain : Grid Terrain) (built : Grid Bool) (walks : List KnownWalk) (ask : Ask) (cell : CPos)
    (direction : Option ℕ) → AreBest terrain built walks → IfSome direction (IsKnown walks ask cell) →
    IfSome direction (IsBest (land_over terrain built ask.costs ask.goal) cell)
known_best terrain built walks ask cell None best known = tt
known_best terrain built walks ask cell (Some d) best known =
    known_step_best terrain built walks ask cell d best known

-- The search for a goal and costs is over their land.
pub asked-land :
    (P : Land → Type 0) (search : Search) (ask : Ask) → IsFor search ask →
    P (record { entry_cost = entry_cost_in search.entry_costs; goal = ask.goal }) →
    P (land_over search.entry_costs.terrain search.entry_costs.built ask.costs ask.goal)
asked-land P search ask is p =
    subst (λ (g : Ground). P (record { entry_cost = entry_cost_in g; goal = ask.goal })) is.entry_costs p

pub next-settled :
    (search : Search) (ask : Ask) (p : CPos) (d : ℕ) (next : Option CPos) → IsFor search ask → IsSettled search p →
    IsBest (land_over search.entry_costs.terrain search.entry_costs.built ask.costs ask.goal) p d → next ≡ step_of p d →
    IfSome next (IsSettled search)
next-settled search ask p d None is settled best there = tt
next-settled search ask p d (Some q) is settled best there =
    let land = land_over search.entry_costs.terrain search.entry_costs.built ask.costs ask.goal in
    let going : IsSearch land search.field search.buckets =
    asked-land (λ land. IsSearch land search.field search.buckets) search ask is is.going in
    record {
      on = next-on land search.field search.buckets going p q d best there;
      final = next-final land search.field search.buckets going p q d settled.on settled.final best there;
    }

pub size-over : (a b w h : ℕ) (f : Findings) → a ≡ w → b ≡ h → AreFindings a b f → AreFindings w h f
size-over a b w h f wide high found =
    subst (λ (n : ℕ). AreFindings n h f) wide (subst (λ (n : ℕ). AreFindings a n f) high found)

-- What is best over a ground is best over what is the same.
pub best-over :
    (terrain terrain' : Grid Terrain) (built built' : Grid Bool) (ask : Ask) (from : CPos) (answer : Option ℕ) →
    terrain ≡ terrain' → built ≡ built' →
    IsBestDirection (land_over terrain built ask.costs ask.goal) from answer →
    IsBestDirection (land_over terrain' built' ask.costs ask.goal) from answer
best-over terrain terrain' built built' ask from answer same_terrain same_built best =
    subst (λ (t : Grid Terrain). IsBestDirection (land_over t built' ask.costs ask.goal) from answer) same_terrain
    (subst (λ (b : Grid Bool). IsBestDirection (land_over terrain b ask.costs ask.goal) from answer) same_built best)

use Rattle.std.proofs.Common.{◌≡◌, ◌∙◌, Some, None, sym, subst}
use Rattle.std.specs.Prelude.{slice_get}
use Rattle.game_model.specs.World.{ids_of}
use Rattle.tick_core.specs.Live.{Standing}
use Rattle.tick_core.proofs.BusyLemmas.{idle_whole}
use Rattle.tick_core.proofs.live_world.LiveWorld.step_at.Goals as goal

-- It is known to be idle.
pub returns-then-is_idle_at-clause-world : goal.returns-then-is_idle_at-clause-world
returns-then-is_idle_at-clause-world c = λ id at.
    let here : slice_get (ids_of c.self.inside.scene.world.actors) c.args.i ≡ Some id =
    subst (λ (s : Standing). slice_get (ids_of s.world.actors) c.args.i ≡ Some id) (sym c.self.view_is) at in
    rw (← c.self.view_is)
    (idle_whole c.self.inside.scene id c.recall_invariant.ensures.acting (c.is_idle_at.ensures id c.if-is_idle_at.true here))

-- There is none at the place.
pub returns-in_default-clause-world : goal.returns-in_default-clause-world
returns-in_default-clause-world c = λ id at.
    let here : slice_get (ids_of c.self.inside.scene.world.actors) c.args.i ≡ Some id =
    subst (λ (s : Standing). slice_get (ids_of s.world.actors) c.args.i ≡ Some id) (sym c.self.view_is) at in
    absurd (let never : None ≡ Some id = c.in_default.ensures ∙ here in cc)

-- It makes its step.
pub step_busy-requires-clause-at : goal.step_busy-requires-clause-at
step_busy-requires-clause-at c =
    subst (λ (s : Standing). slice_get (ids_of s.world.actors) c.args.i ≡ Some c.in-Some.id) c.self.view_is (sym c.in-Some.ensures)

pub returns-then-lives_at-clause-world : goal.returns-then-lives_at-clause-world
returns-then-lives_at-clause-world c = λ id at.
    let here : slice_get (ids_of c.self.inside.scene.world.actors) c.args.i ≡ Some id =
    subst (λ (s : Standing). slice_get (ids_of s.world.actors) c.args.i ≡ Some id) (sym c.self.view_is) at in
    let one : Some c.in-Some.id ≡ Some id = c.in-Some.ensures ∙ here in
    let same : c.in-Some.id ≡ id = cc in
    rw (← same) c.step_busy.ensures

-- It does not live.
pub returns-else-lives_at-clause-world : goal.returns-else-lives_at-clause-world
returns-else-lives_at-clause-world c = λ id at.
    let here : slice_get (ids_of c.self.inside.scene.world.actors) c.args.i ≡ Some id =
    subst (λ (s : Standing). slice_get (ids_of s.world.actors) c.args.i ≡ Some id) (sym c.self.view_is) at in
    let one : Some c.in-Some.id ≡ Some id = c.in-Some.ensures ∙ here in
    let same : c.in-Some.id ≡ id = cc in
    rw (← c.self.view_is, ← same)
    (idle_whole c.self.inside.scene c.in-Some.id c.recall_invariant.ensures.acting (c.lives_at.ensures c.if-lives_at.false))

use Rattle.std.proofs.Common.{◌≡◌, ℕ, ◌+◌, ◌≤◌, ◌∷◌, ◌++◌, [], List, Some, take, sym, ap, subst, ◌∙◌, arith}
use Rattle.std.specs.Prelude.{slice_get, Bool, true, false}
use mir.Val.{bool_byte}
use Rattle.std.specs.Option.{option_copied}
use Rattle.game_model.specs.declared.actor.Actor.{Actor}
use Rattle.shroud.specs.declared.viewer.Viewer.{Viewer}
use Rattle.shroud.specs.Tally.{IsFollowed, TallyState, any_views}
use Rattle.shroud.specs.Viewers.{viewers_of}
use Rattle.shroud.proofs.TallyLemmas.{then_one, viewers_more}
use Rattle.shroud.proofs.tally.Tally.follow_each.Goals as goal

small : (b : Bool) → bool_byte b ≤ 1
small true = omega arith
small false = omega arith

pub loop-i-preserved : goal.loop-i-preserved
loop-i-preserved g c =
    let actors : List Actor = g.A.LendsActors.actors_of c.args.actors.now in
    let i : ℕ = c.loop-i.i in
    let start : TallyState = c.args.self.now in
    let mid : TallyState = c.loop-i.self in
    let new : TallyState = c.follow.new.self in
    let a : Actor = c.in-Some.actor.now in
    let found : slice_get actors i ≡ Some a =
    sym c.actor_at.ensures ∙ ap option_copied c.in-Some.is in
    let before : List Viewer = viewers_of (take i actors) in
    let one : before ++ c.of.result ∷ [] ≡ viewers_of (take (i + 1) actors) =
    ap (λ (v : Viewer). before ++ v ∷ []) c.of.ensures ∙ sym (viewers_more actors i a found) in
    let follows : IsFollowed (λ place. any_views start place (before ++ c.of.result ∷ [])) start new =
    then_one start mid new before c.of.result c.loop-i.invariant.1 c.follow.ensures.follows in (
      c.follow.ensures.fresh ∙ ap (λ (xs : List Viewer). xs ++ c.of.result ∷ []) c.loop-i.invariant.0 ∙ one,
      subst (λ (xs : List Viewer). IsFollowed (λ place. any_views start place xs) start new) one follows,
      omega (arith, small c.follow.result, c.from-anew.ensures, c.loop-i.invariant.2),
    )

use Rattle.std.proofs.Common.{◌≡◌, true, sym, ◌∙◌}
use Rattle.sync_hash.specs.Kept.{is_at}
use Rattle.sync_hash.proofs.NumbersLemmas.{guess_is, guess_within}
use Rattle.sync_hash.proofs.actor_numbers.ActorNumbers.place_for.Goals as goal

pub returns-then-is_at-clause-value : goal.returns-then-is_at-clause-value
returns-then-is_at-clause-value c =
    let numbers = c.self.inside.held.items in
    let there : is_at numbers c.saturating_sub-guess.result c.args.id ≡ true =
    rw (← c.self.view_is) at (sym c.is_at.ensures ∙ c.if-is_at.true) in
    rw (← c.self.view_is) (guess_is 0 numbers c.saturating_sub-guess.result c.args.id c.self.invariant.0 there)

pub returns-then-is_at-clause-limit : goal.returns-then-is_at-clause-limit
returns-then-is_at-clause-limit c =
    guess_within c.args.self.now c.saturating_sub-guess.result c.args.id (sym c.is_at.ensures ∙ c.if-is_at.true)

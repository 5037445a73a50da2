use Rattle.std.proofs.Common.{◌≡◌, ℕ, Some, None, sym, ap, ◌∙◌}
use Rattle.shroud.specs.Viewers.{disc_seen}
use Rattle.shroud.proofs.TallyLemmas.{sees_none, sees_disc}
use Rattle.shroud.proofs.tally.count.Goals as goal

pub returns-clause-changes : goal.returns-clause-changes
returns-clause-changes c =
    let s = c.args.spots.now in
    let v = c.args.v.now in
    let rules = c.args.rules.now in
    let some : disc_seen rules s.clients v ≡ Some c.in-Some.disc =
    ap (λ (n : ℕ). disc_seen rules n v) (sym c.clients.ensures.value)
    ∙ sym c.disc_seen.ensures.value ∙ c.in-Some.is in
    sees_disc c.args.by rules s c.change.new.self.cells v c.in-Some.disc c.clients.ensures.whole some
    c.change.ensures.changes

pub returns-in_default-clause-changes : goal.returns-in_default-clause-changes
returns-in_default-clause-changes c =
    let s = c.args.spots.now in
    let v = c.args.v.now in
    let rules = c.args.rules.now in
    let none : disc_seen rules s.clients v ≡ None =
    ap (λ (n : ℕ). disc_seen rules n v) (sym c.clients.ensures.value)
    ∙ sym c.disc_seen.ensures.value ∙ c.in_default.is in
    sees_none c.args.by rules s v c.clients.ensures.whole none

-- The cases of the step of an attack.
use Rattle.std.proofs.Common.{◌≡◌, ◌≢◌, ℕ, Bool, true, false, Some, None, inl, inr, refl, sym}
use Rattle.std.specs.Prelude.{nat_le}
use Rattle.std.proofs.lemmas.Bool.Decides.{eqb_tells}
use Rattle.world_units.specs.Cells.{dist_sq_of, square}
use Rattle.twister.specs.Place.{Place, after_word}
use Rattle.activities.specs.declared.activity.Activity.TheVariants.{Attack}
use Rattle.rule_traits.specs.Rules.{moves}
use Rattle.game_model.specs.declared.actor.Actor.{Actor}
use Rattle.game_model.specs.ActorChanges.{changed_at}
use Rattle.game_model.specs.Grid.{Grid}
use Rattle.game_model.specs.Setup.{Setup}
use Rattle.game_model.specs.World.{actor_of, living_of}
use Rattle.game_model.specs.Kinds.{kind_of, range_in}
use Rattle.game_tick.specs.Acts.{popped}
use Rattle.game_tick.specs.Attacking.{after_attack, hit_by, points_of, reloading}
use Rattle.game_model.proofs.FoundLemmas.{found_id}
use Rattle.actor_table.specs.Table.{Table}
use Rattle.motion.specs.Steps.{gone_by_id}
use Rattle.combat.specs.Attacks.{IsFought}

module _ (setup : Setup) (built : Grid Bool) (dice : Place) (t : Table) (id target waits : ℕ) (a : Actor) (found : Some a ≡ actor_of t.actors id) where
  -- The target lives no more.
  pub attack_ends : (new : Table) → None ≡ living_of t.actors target → new ≡ record t { actors = changed_at t.actors id popped } → IsFought t new dice (after_attack setup built dice t.actors a target waits)
  unfolding after_attack
  attack_ends new none given = rw (← none) (rw (found_id t.actors id a (sym found)) (record { actors = given; dice = refl }))

  module _ (b : Actor) (lives : Some b ≡ living_of t.actors target) (named : b.id ≡ target) where
    -- It is in range, and the actor is loaded.
    pub attack_fires : (new : Table) (rolled : Place) → nat_le (dist_sq_of a.cell b.cell) (square (range_in (kind_of setup.rules a.kind).armament)) ≡ true → a.body.reload ≡ 0 → new ≡ record t { actors = changed_at (changed_at t.actors target (hit_by (points_of (kind_of setup.rules a.kind) dice))) id (reloading (kind_of setup.rules a.kind)) } → rolled ≡ after_word dice → IsFought t new rolled (after_attack setup built dice t.actors a target waits)
    unfolding after_attack
    attack_fires new rolled near loaded given drawn = elim (eqb_tells a.body.reload 0) [
      | inl hit ↦ rw (← lives) (rw near (rw hit.0 (rw (named, found_id t.actors id a (sym found)) (record { actors = given; dice = drawn }))))
      | inr miss ↦ absurd (miss.1 loaded)
    ]

    -- It is in range, and the actor isn't loaded.
    pub attack_waits : nat_le (dist_sq_of a.cell b.cell) (square (range_in (kind_of setup.rules a.kind).armament)) ≡ true → a.body.reload ≢ 0 → IsFought t t dice (after_attack setup built dice t.actors a target waits)
    unfolding after_attack
    attack_waits near loading = elim (eqb_tells a.body.reload 0) [
      | inl hit ↦ absurd (loading hit.1)
      | inr miss ↦ rw (← lives) (rw near (rw miss.0 (record { actors = refl; dice = refl })))
    ]

    -- It is out of range, and the actor moves.
    pub attack_goes : (new : Table) → nat_le (dist_sq_of a.cell b.cell) (square (range_in (kind_of setup.rules a.kind).armament)) ≡ false → moves (kind_of setup.rules a.kind) ≡ true → new ≡ record t { actors = gone_by_id setup built t.actors b.cell (Attack target waits) (actor_of t.actors id) } → IsFought t new dice (after_attack setup built dice t.actors a target waits)
    unfolding after_attack
    attack_goes new far able given =
        let gone = rw (← found) at given in
        rw (← lives) (rw far (rw able (rw named (record { actors = gone; dice = refl }))))

    -- It is out of range, and the actor can't move.
    pub attack_stays : (new : Table) → nat_le (dist_sq_of a.cell b.cell) (square (range_in (kind_of setup.rules a.kind).armament)) ≡ false → moves (kind_of setup.rules a.kind) ≡ false → new ≡ record t { actors = changed_at t.actors id popped } → IsFought t new dice (after_attack setup built dice t.actors a target waits)
    unfolding after_attack
    attack_stays new far unable given =
        rw (← lives) (rw far (rw unable (rw (found_id t.actors id a (sym found)) (record { actors = given; dice = refl }))))

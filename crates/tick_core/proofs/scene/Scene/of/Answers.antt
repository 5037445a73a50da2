use Rattle.std.proofs.Common.{◌≡◌, ◌∙◌, Bool, ℕ, ap, refl}
use Rattle.game_model.specs.declared.map.Map.{Map}
use Rattle.game_model.specs.Grid.{Grid}
use Rattle.game_model.specs.Setup.{Setup}
use Rattle.game_tick.proofs.TurnLemmas.{mid_from_valid}
use Rattle.actor_table.specs.Table.{Table}
use Rattle.tick_core.specs.Scene.{IsActing}
use Rattle.tick_core.proofs.scene.Scene.of.Goals as goal

pub filled-requires-clause-count : goal.filled-requires-clause-count
filled-requires-clause-count c = rw c.as_slice.ensures c.requires.valid.actors.count

pub filled-requires-clause-on_map : goal.filled-requires-clause-on_map
filled-requires-clause-on_map c =
    rw (c.as_slice.ensures, c.deref.ensures, c.deref-2.ensures) (λ k d low. (c.requires.valid.actors.each k d low).cell)

pub filled-requires-clause-rise : goal.filled-requires-clause-rise
filled-requires-clause-rise c = rw c.as_slice.ensures c.requires.valid.actors.rise

pub filled-requires-clause-apart : goal.filled-requires-clause-apart
filled-requires-clause-apart c = rw c.as_slice.ensures c.requires.valid.actors.apart

pub blocks_of-requires : goal.blocks_of-requires
blocks_of-requires c =
    record { on_map = rw (c.as_slice-2.ensures, c.deref-4.ensures) (λ k d low. (c.requires.valid.actors.each k d low).cell) }

pub look-requires : goal.look-requires
look-requires c =
    let is = c.deref-5.ensures in
    let new = c.in_ok-router.ensures {u = tt} in
    record {
      wide = rw is (new.wide ∙ ap {B = ℕ} (λ (m : Map). m.width) c.deref.ensures);
      high = rw is (new.high ∙ ap {B = ℕ} (λ (m : Map). m.height) c.deref-2.ensures);
      terrain = rw is c.requires.setup.map.terrain;
      blocks = record {
        width = rw is (ap {B = ℕ} (λ (g : Grid Bool). g.width) c.in_ok-blocks.ensures ∙ ap {B = ℕ} (λ (m : Map). m.width) c.deref-4.ensures);
        height = rw is (ap {B = ℕ} (λ (g : Grid Bool). g.height) c.in_ok-blocks.ensures ∙ ap {B = ℕ} (λ (m : Map). m.height) c.deref-4.ensures);
      };
    }

pub invariant_of-result : goal.invariant_of-result
invariant_of-result c =
    let setup : Setup = record { rules = c.args.rules.value; map = c.args.map.value } in
    let w = c.args.world in
    let acting : IsActing setup w =
    mid_from_valid setup 0 w.tick w.drawn w c.requires.valid in
    let same : c.in_ok-table.table.actors ≡ w.actors = ap (λ (t : Table). t.actors) c.in_ok-table.ensures ∙ c.as_slice.ensures in
    record {
      stands = c.requires.setup;
      acting =
          rw (same, c.into_head_and_ore-head.ensures.head, c.into_head_and_ore-head.ensures.ore) acting;
      fits = record {
        wide = ap {B = ℕ} (λ (t : Table). t.width) c.in_ok-table.ensures ∙ ap {B = ℕ} (λ (m : Map). m.width) c.deref.ensures;
        high = ap {B = ℕ} (λ (t : Table). t.height) c.in_ok-table.ensures ∙ ap {B = ℕ} (λ (m : Map). m.height) c.deref-2.ensures;
        routes = rw c.deref-5.ensures at c.look.ensures.looks;
      };
      blocks = rw (c.deref-3.ensures, c.deref-4.ensures, c.as_slice-2.ensures, ← same) at c.in_ok-blocks.ensures;
      thrown = rw c.into_head_and_ore-head.ensures.head c.at-dice.ensures;
    }

pub returns : goal.returns
returns c = rw (ap (λ (t : Table). t.actors) c.in_ok-table.ensures ∙ c.as_slice.ensures, c.into_head_and_ore-head.ensures.head, c.into_head_and_ore-head.ensures.ore) refl

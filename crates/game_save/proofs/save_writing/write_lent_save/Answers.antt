use Rattle.std.proofs.Common.{◌≡◌, List, ℕ, ap, append_assoc, arith, rules, ◌∙◌}
use Rattle.game_model.specs.declared.world.World.{World}
use Rattle.game_model.specs.Setup.{Setup}
use Rattle.game_save.specs.ReadSave.{read_save_of, setup_with}
use Rattle.game_save.specs.SaveBytes.{save_bytes}
use Rattle.game_save.proofs.LengthLemmas.{save_length}
use Rattle.game_save.proofs.WorldAgainLemmas.{save_again}
use Rattle.game_save.proofs.save_writing.write_lent_save.Goals as goal

pub returns-clause-again : goal.returns-clause-again
unfolding save_bytes
returns-clause-again g c =
    let setup : Setup = setup_with c.args.rules.now c.args.map.now in
    let w : World = g.W.LendsWorld.world_of c.args.w.now in
    let whole : c.append_world.new.out.items ≡ save_bytes c.args.number c.args.frames w =
    search (rules, append_assoc) in
    ap (λ (bytes : List ℕ). read_save_of c.args.number setup bytes) whole
    ∙ save_again c.args.number c.args.frames setup w (omega arith) c.requires
    c.in_ok-append_world.ensures.fits

pub returns-clause-most : goal.returns-clause-most
unfolding save_bytes
returns-clause-most g c =
    let whole : c.append_world.new.out.items
    ≡ save_bytes c.args.number c.args.frames (g.W.LendsWorld.world_of c.args.w.now) =
    search (rules, append_assoc) in
    λ wide tall.
    rw whole
    (save_length (setup_with c.args.rules.now c.args.map.now) c.args.number c.args.frames
    (g.W.LendsWorld.world_of c.args.w.now) c.requires wide tall)

use Rattle.std.proofs.Common.{◌≡◌, ◌≤◌, ◌++◌, ℕ, List, length, ap, sym, subst, ◌∙◌}
use Rattle.order_packets.specs.PacketBytes.{down_bytes}
use Rattle.c_matches.proofs.PacketLemmas.{short_down}
use Rattle.c_matches.proofs.packet.spell_down.Goals as goal

pub returns-clause-short : goal.returns-clause-short
returns-clause-short c =
    let spelled = down_bytes c.args.packet.now in
    let is : c.write_down.new.out.items ≡ spelled = c.in_ok-write_down.ensures.ok ∙ ap (λ (bytes : List ℕ). bytes ++ spelled) c.new-bytes.ensures.items in
    subst (λ (bytes : List ℕ). length bytes ≤ 260) (sym is) (short_down c.args.packet.now c.down_fits.ensures)

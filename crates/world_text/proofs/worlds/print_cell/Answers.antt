use Rattle.std.proofs.Common.{rules}
use Rattle.world_text.proofs.WorldLemmas.{no_ore}
use Rattle.world_text.proofs.worlds.print_cell.Goals as goal

pub returns-then-bales-eq0 : goal.returns-then-bales-eq0
returns-then-bales-eq0 g c = no_ore _ c.args.width c.args.place c.args.bales (search rules)

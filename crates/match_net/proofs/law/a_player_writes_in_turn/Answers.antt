use Rattle.match_net.proofs.WrittenLemmas.{writes_in_turn, silent_departed, silent_finished}
use Rattle.match_net.proofs.law.a_player_writes_in_turn.Goals as goal

pub returns-clause-in_turn : goal.returns-clause-in_turn
returns-clause-in_turn g c = writes_in_turn

pub returns-clause-departed : goal.returns-clause-departed
returns-clause-departed g c = silent_departed

pub returns-clause-finished : goal.returns-clause-finished
returns-clause-finished g c = silent_finished

use Rattle.command_words.proofs.LiteralLemmas.{serve_without_room, serve_without_patience, serve_for_ever}
use Rattle.command_words.proofs.laws.serve_refuses_clocks_and_ports.Goals as goal

pub returns-clause-room : goal.returns-clause-room
returns-clause-room c = serve_without_room

pub returns-clause-patience : goal.returns-clause-patience
returns-clause-patience c = serve_without_patience

pub returns-clause-lobby : goal.returns-clause-lobby
returns-clause-lobby c = serve_for_ever

-- The links that are left decide.
use Rattle.std.proofs.Common.{◌≡◌, drop}
use Rattle.serve_command.specs.ServeText.{served_status}
use Rattle.serve_command.proofs.serve_text.status.Given as goal

abbrev pub invariant-loop-how : goal.invariant-loop-how
invariant-loop-how l = served_status (drop l.how-index l.ends) ≡ served_status l.ends

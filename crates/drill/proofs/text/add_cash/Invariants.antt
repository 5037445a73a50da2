-- What is added so far and what is left are together the whole.
use Rattle.std.proofs.Common.{◌≡◌, ◌++◌, drop, string_bytes}
use Rattle.drill.specs.Text.{cash_text}
use Rattle.drill.proofs.text.add_cash.Given as goal

abbrev pub invariant-loop-cash : goal.invariant-loop-cash
invariant-loop-cash l =
    string_bytes l.text ++ cash_text (drop l.cash-index l.each) ≡ string_bytes l.initial.text ++ cash_text l.each

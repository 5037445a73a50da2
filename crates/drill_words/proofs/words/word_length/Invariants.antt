-- What is counted so far, and what is left to count, is the whole.
use Rattle.std.proofs.Common.{◌≡◌, ◌+◌, drop}
use Rattle.std.specs.List.{prefix_len}
use Rattle.drill_words.specs.Words.{is_of_word}
use Rattle.drill_words.proofs.words.word_length.Given as goal

abbrev pub invariant-loop-index : goal.invariant-loop-index
invariant-loop-index l = l.index + prefix_len is_of_word (drop l.index l.line) ≡ prefix_len is_of_word l.line

-- The bytes so far are digits, and the value is theirs.
use Rattle.std.proofs.Common.{◌≡◌, ◌<◌, ◌≤◌, ◌^◌, true, take}
use Rattle.std.specs.Char.{is_ascii_digit}
use Rattle.std.specs.List.{list_all}
use Rattle.base.specs.Numbers.{value_of}
use Rattle.base.specs.declared.numbers.TheConstants.{MAX_DIGITS}
use Rattle.drill_words.proofs.words.leading_digits.Given as goal

abbrev pub invariant-loop-index : goal.invariant-loop-index
invariant-loop-index l =
    record {
      digits : list_all is_ascii_digit (take l.index l.line) ≡ true;
      value : l.value ≡ value_of (take l.index l.line);
      bound : l.value < 10 ^ l.index;
      few : l.index ≤ MAX_DIGITS;
    }

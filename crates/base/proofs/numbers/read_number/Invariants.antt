-- The bytes so far are digits, and the value is theirs.
use Rattle.std.proofs.Common.{◌≡◌, ◌<◌, ◌^◌, true, take}
use Rattle.std.specs.Char.{is_ascii_digit}
use Rattle.std.specs.List.{list_all}
use Rattle.base.specs.Numbers.{value_of}
use Rattle.base.proofs.numbers.read_number.Given as goal

abbrev pub invariant-loop-byte : goal.invariant-loop-byte
invariant-loop-byte l =
    record {
      digits : list_all is_ascii_digit (take l.byte-index l.word) ≡ true;
      value : l.value ≡ value_of (take l.byte-index l.word);
      bound : l.value < 10 ^ l.byte-index;
    }

-- The bytes so far are digits, and the value is theirs.
use Rattle.std.proofs.Common.{◌≡◌, ◌<◌, ◌^◌, true, take}
use Rattle.std.specs.List.{list_all}
use Rattle.drill_words.specs.Hash.{is_hex_digit, hex_value_of}
use Rattle.drill_words.proofs.hash.read_hash.Given as goal

abbrev pub invariant-loop-byte : goal.invariant-loop-byte
invariant-loop-byte l =
    record {
      digits : list_all is_hex_digit (take l.byte-index l.word) ≡ true;
      value : l.value ≡ hex_value_of (take l.byte-index l.word);
      bound : l.value < 16 ^ l.byte-index;
    }

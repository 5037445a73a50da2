-- The cause and the place of a fault.
use Rattle.std.specs.Prelude.{ℕ, List, codes, Option, Some, None}
use Rattle.game_save.specs.declared.limits.TheConstants.{RULES_AT, VERSION_AT}
use Rattle.game_save.specs.declared.save_fault.SaveFault.{SaveFault}
use Rattle.game_save.specs.declared.save_fault.SaveFault.TheVariants.{BadMagic, BadVersion}
use Rattle.game_save.specs.declared.save_fault.SaveFault.TheVariants.{OtherRules, Torn, BadWorld}
use Rattle.game_save.specs.declared.save_fault.SaveFault.TheVariants.{TrailingBytes, NoMemory}

-- The cause is printed as its variant is named.
abbrev pub cause_of : SaveFault → List ℕ
cause_of BadMagic = codes "BadMagic"
cause_of BadVersion = codes "BadVersion"
cause_of (OtherRules file here) = codes "OtherRules"
cause_of (Torn at) = codes "Torn"
cause_of (BadWorld at) = codes "BadWorld"
cause_of (TrailingBytes at) = codes "TrailingBytes"
cause_of NoMemory = codes "NoMemory"

-- The place of a fault among the bytes, from 0.
abbrev pub place_of : SaveFault → Option ℕ
place_of BadMagic = Some 0
place_of BadVersion = Some VERSION_AT
place_of (OtherRules file here) = Some RULES_AT
place_of (Torn at) = Some at
place_of (BadWorld at) = Some at
place_of (TrailingBytes at) = Some at
place_of NoMemory = None

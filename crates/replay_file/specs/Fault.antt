-- The cause and the place of a fault.
use Rattle.std.specs.Prelude.{ℕ, List, codes, Option, Some, None}
use Rattle.replay_file.specs.declared.limits.TheConstants.{RULES_AT, VERSION_AT}
use Rattle.replay_file.specs.declared.replay_fault.ReplayFault.{ReplayFault}
use Rattle.replay_file.specs.declared.replay_fault.ReplayFault.TheVariants.{BadMagic, BadVersion}
use Rattle.replay_file.specs.declared.replay_fault.ReplayFault.TheVariants.{Torn, BadRecord}
use Rattle.replay_file.specs.declared.replay_fault.ReplayFault.TheVariants.{TrailingBytes}
use Rattle.replay_file.specs.declared.replay_fault.ReplayFault.TheVariants.{OtherRules, NoMemory}

-- The cause is printed as its variant is named.
abbrev pub cause_of : ReplayFault → List ℕ
cause_of BadMagic = codes "BadMagic"
cause_of BadVersion = codes "BadVersion"
cause_of (Torn at) = codes "Torn"
cause_of (BadRecord at) = codes "BadRecord"
cause_of (TrailingBytes at) = codes "TrailingBytes"
cause_of (OtherRules file here) = codes "OtherRules"
cause_of NoMemory = codes "NoMemory"

-- The place of a fault among the bytes, from 0.
abbrev pub place_of : ReplayFault → Option ℕ
place_of BadMagic = Some 0
place_of BadVersion = Some VERSION_AT
place_of (Torn at) = Some at
place_of (BadRecord at) = Some at
place_of (TrailingBytes at) = Some at
place_of (OtherRules file here) = Some RULES_AT
place_of NoMemory = None

-- Where a text may be cut: after an ASCII byte.
use Rattle.std.proofs.Common.{ℕ, ◌<◌, ◌≤◌, List, length, get_or}
use Rattle.std.proofs.lemmas.Str.{lead_after_ascii}
use Rattle.std.specs.Str.{IsUtf8}

pub lead_after_first : (text : List ℕ) → IsUtf8 text → get_or text 0 0 < 128 → 1 < length text → 128 ≤ get_or text 1 0 → 192 ≤ get_or text 1 0
lead_after_first text u small long byte = lead_after_ascii text 0 u small long byte

pub ruleset cuts = (lead_after_ascii, lead_after_first)

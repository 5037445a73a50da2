-- What calls answer: a code, and perhaps a number.
use Rattle.std.specs.Prelude.{ℕ, Option, None, Some, unwrap_or}
use Rattle.c_objects.specs.declared.code.TheConstants.{WRONG_OBJECT}
use Rattle.c_matches.specs.declared.answer.Answer.{Answer}

abbrev pub only : ℕ → Answer
only code = record { code = code; told = None }

abbrev pub telling : (code told : ℕ) → Answer
telling code told = record { code = code; told = Some told }

-- The number that stands where one is told.
abbrev pub told_in : Answer → (old : ℕ) → ℕ
told_in answer old = unwrap_or answer.told old

-- The answer by what is held. Without it the object is a wrong one.
abbrev pub answer_by : {H : Type 0} → Option H → (H → Answer) → Answer
answer_by None answer = only WRONG_OBJECT
answer_by (Some held) answer = answer held

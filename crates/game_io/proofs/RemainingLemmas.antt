-- What remains after a call that failed, and what a file holds once it was set.
use Rattle.std.proofs.Common.{◌≡◌, ℕ, List, ◌∷◌, ◌++◌, drop, Option, cond, Result, Ok, Err, OnOk, refl, sym, ap, ◌∙◌, append_assoc}
use Rattle.std.proofs.lemmas.List.{take-append-drop}
use Rattle.std.proofs.lemmas.Slice.Eq.{bytes_eq-Decides}
use Rattle.base.specs.Written.{WrotePrefix}
use Rattle.game_io.specs.PlannedBytes.{remaining}
use Rattle.game_io.specs.PlannedFiles.{NamedFile, files_of}
use Rattle.game_io.specs.declared.failing_call.Remains.{Remains}
use Rattle.game_io.specs.declared.failing_call.Remains.TheVariants.{Old, Nothing, Prefix}

-- What does not remain of the bytes.
abbrev lost : Remains → List ℕ → List ℕ
lost Old bytes = bytes
lost Nothing bytes = bytes
lost (Prefix count) bytes = drop count bytes

remaining-lost : (remains : Remains) (bytes : List ℕ) → remaining remains bytes ++ lost remains bytes ≡ bytes
remaining-lost Old bytes = refl
remaining-lost Nothing bytes = refl
remaining-lost (Prefix count) bytes = take-append-drop count bytes

-- A prefix of what remains is a prefix of the whole.
pub wrote_remaining :
    (old new : Option (List ℕ)) (remains : Remains) (bytes : List ℕ) →
    WrotePrefix old new (remaining remains bytes) → WrotePrefix old new bytes
wrote_remaining old new remains bytes part =
    record {
      prefix = part.prefix;
      rest = part.rest ++ lost remains bytes;
      whole =
          sym (append_assoc part.prefix part.rest (lost remains bytes))
          ∙ ap (λ prefix. prefix ++ lost remains bytes) part.whole
          ∙ remaining-lost remains bytes;
      wrote = part.wrote;
    }

-- The newest file of a name has its content.
set_is_held : (name : List ℕ) (content : Option (List ℕ)) (old : List NamedFile) → files_of (record { name = name; content = content } ∷ old) name ≡ content
set_is_held name content old = ap (λ same. cond same content (files_of old name)) ((bytes_eq-Decides name name).1 refl)

-- So does a file that was set, or nothing was set, out of memory.
pub held_after :
    {E : Type 0} (result : Result (Unit {0}) E) (old new : List NamedFile) (name : List ℕ) (content : Option (List ℕ)) →
    OnOk result (new ≡ record { name = name; content = content } ∷ old) → OnOk result (files_of new name ≡ content)
held_after (Ok value) old new name content e = ap (λ files. files_of files name) e ∙ set_is_held name content old
held_after (Err error) old new name content e = tt

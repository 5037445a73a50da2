use Rattle.std.proofs.Common.{rules, ◌≡◌, ℕ, List, ◌∷◌, None, Some, Result, Ok, Err, OnOk, take, drop, inr, ap}
use Rattle.std.proofs.lemmas.List.{take-append-drop}
use Rattle.game_io.specs.DiskState.{LeftPartly}
use Rattle.game_io.specs.PlannedFiles.{NamedFile, files_of}
use Rattle.game_io.proofs.RemainingLemmas.{held_after}
use Rattle.game_io.proofs.sure_disk.SureDisk.leave.Goals as goal

-- A file of a prefix of the bytes, put before the others, is one that a failed write may leave.
prefix_left :
    {E : Type 0} (result : Result (Unit {0}) E) (old new : List NamedFile) (name bytes : List ℕ) (count : ℕ) →
    OnOk result (new ≡ record { name = name; content = Some (take count bytes) } ∷ old) →
    OnOk result (LeftPartly (Some (files_of old)) (Some (files_of new)) name bytes)
prefix_left (Ok value) old new name bytes count e =
    inr (inr (take count bytes, drop count bytes, take-append-drop count bytes, ap (λ files. Some (files_of files)) e))
prefix_left (Err error) old new name bytes count e = tt

pub returns-in-Nothing-clause-content : goal.returns-in-Nothing-clause-content
returns-in-Nothing-clause-content c = rw c.in-Nothing.is (held_after c.set.result c.args.self.now c.set.new.self c.args.name.now None c.set.ensures.ok)

pub returns-in-Prefix-clause-partly : goal.returns-in-Prefix-clause-partly
returns-in-Prefix-clause-partly c =
    prefix_left c.add.result c.args.self.now c.add.new.self c.args.name.now c.args.bytes.now c.in-Prefix.field-0 (search rules)

pub returns-in-Prefix-clause-content : goal.returns-in-Prefix-clause-content
returns-in-Prefix-clause-content c =
    rw c.in-Prefix.is (held_after c.add.result c.args.self.now c.add.new.self c.args.name.now (Some (take c.in-Prefix.field-0 c.args.bytes.now)) (search rules))

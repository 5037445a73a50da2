-- What was copied, with the files that are left, is all.
use Rattle.std.proofs.Common.{◌≡◌, ◌++◌, drop, map}
use Rattle.setup_files.proofs.stage.copies_of.Given as goal

abbrev pub invariant-loop-bytes : goal.invariant-loop-bytes
invariant-loop-bytes l =
    map (λ bytes. bytes.items) l.copies.items ++ map (λ bytes. bytes.items) (drop l.bytes-index l.files)
    ≡ map (λ bytes. bytes.items) l.fn.files

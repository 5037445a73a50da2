-- Reading files one after the other.
use Rattle.std.proofs.Common.{◌≡◌, ◌≤◌, ◌<◌, ◌+◌, map, drop, get_or, ℕ, [], ◌∷◌, ◌++◌, List, length, Bor, Option, Some, None, Ok, IsSome, IfSome, IfNone, refl, sym, ap, subst, inr, ◌∙◌, append_assoc, append-nil}
use Rattle.game_io.specs.Files.{Files}
use Rattle.base.specs.Steps.{◌>>=◌}
use Rattle.command_answers.specs.Reply.{Reply}
use Rattle.command_answers.specs.WantedFiles.{Wanted, rule_file}
use Rattle.command_answers.specs.Contents.{content_of, read_after, IsFirstThere, AreWithinLimits, IsUnread}
use Rattle.command_answers.specs.declared.files.TheConstants.{MAX_RULE_BYTES}
use Rattle.command_answers.proofs.ListLemmas.{left_is}

-- Some files were read, and some are left.
pub record SoFar (files : Option Files) (all left : List Wanted) (got : List (List ℕ)) : Type 0 where
  pub observable : IfSome files (λ files. read_after got left files ≡ read_after [] all files)
  pub there : IfSome files (λ files. IsFirstThere left files → IsFirstThere all files)
  pub given : IfNone files ((rest : List (List ℕ)) → AreWithinLimits left rest → AreWithinLimits all (got ++ rest))
  pub unread : (reply : Reply) → IsUnread left reply → IsUnread all reply

observable_next :
    (files : Option Files) (all rest : List Wanted) (file : Wanted) (got : List (List ℕ)) (bytes : List ℕ) →
    IfSome files (λ files. read_after got (file ∷ rest) files ≡ read_after [] all files) →
    IfSome files (λ files. content_of file (files file.name) ≡ Ok bytes) →
    IfSome files (λ files. read_after (got ++ bytes ∷ []) rest files ≡ read_after [] all files)
observable_next None all rest file got bytes observable read = tt
observable_next (Some files) all rest file got bytes observable read =
    ap (λ step. step >>= λ bytes. read_after (got ++ bytes ∷ []) rest files) (sym read) ∙ observable

-- A file that was read is there.
read_there : (file : Wanted) (content : Option (List ℕ)) (bytes : List ℕ) → content_of file content ≡ Ok bytes → IsSome content
read_there file None bytes read = absurd cc
read_there file (Some held) bytes read = refl

there_next :
    (files : Option Files) (all rest : List Wanted) (file : Wanted) (bytes : List ℕ) →
    IfSome files (λ files. IsFirstThere (file ∷ rest) files → IsFirstThere all files) →
    IfSome files (λ files. content_of file (files file.name) ≡ Ok bytes) →
    IfSome files (λ files. IsFirstThere rest files → IsFirstThere all files)
there_next None all rest file bytes there read = tt
there_next (Some files) all rest file bytes there read = λ _. there (read_there file (files file.name) bytes read)

given_next :
    (files : Option Files) (all rest : List Wanted) (file : Wanted) (got : List (List ℕ)) (bytes : List ℕ) →
    IfNone files ((others : List (List ℕ)) → AreWithinLimits (file ∷ rest) others → AreWithinLimits all (got ++ others)) →
    IfNone files (length bytes ≤ file.limit) →
    IfNone files ((others : List (List ℕ)) → AreWithinLimits rest others → AreWithinLimits all ((got ++ bytes ∷ []) ++ others))
given_next None all rest file got bytes given short =
    λ others others_given. subst (AreWithinLimits all) (sym (append_assoc got (bytes ∷ []) others)) (given (bytes ∷ others) (short, others_given))
given_next (Some files) all rest file got bytes given short = tt

-- One more file was read.
pub next :
    (files : Option Files) (all rest : List Wanted) (file : Wanted) (got : List (List ℕ)) (bytes : List ℕ) →
    SoFar files all (file ∷ rest) got →
    IfSome files (λ files. content_of file (files file.name) ≡ Ok bytes) →
    IfNone files (length bytes ≤ file.limit) →
    SoFar files all rest (got ++ bytes ∷ [])
next files all rest file got bytes so_far read short = record {
  observable = observable_next files all rest file got bytes so_far.observable read;
  there = there_next files all rest file bytes so_far.there read;
  given = given_next files all rest file got bytes so_far.given short;
  unread = λ reply unread. so_far.unread reply (inr (inr unread));
}

pub all_given : (files : Option Files) (all : List Wanted) (got : List (List ℕ)) → SoFar files all [] got → IfNone files (AreWithinLimits all got)
all_given None all got so_far = subst (AreWithinLimits all) (append-nil got) (so_far.given [] tt)
all_given (Some files) all got so_far = tt

-- What is left of the named files, of which one is read next.
pub names_left :
    (names : List (Bor (List ℕ))) (i : ℕ) (d : Bor (List ℕ)) →
    i < length names →
    map rule_file (map (λ name. name.now) (drop i names))
    ≡ rule_file (get_or names i d).now ∷ map rule_file (map (λ name. name.now) (drop (i + 1) names))
names_left names i d below = ap (map rule_file) (left_is (λ name. name.now) names i d (get_or names i d).now below refl)

-- The next of the named files was read.
pub next_read :
    (files files' : Option Files) (names : List (Bor (List ℕ))) (i : ℕ) (d : Bor (List ℕ)) (all : List Wanted) (got : List (List ℕ)) (name bytes : List ℕ) →
    files' ≡ files → i < length names → name ≡ (get_or names i d).now →
    SoFar files all (map rule_file (map (λ name. name.now) (drop i names))) got →
    IfSome files' (λ files. content_of (rule_file name) (files name) ≡ Ok bytes) →
    IfNone files' (length bytes ≤ MAX_RULE_BYTES) →
    SoFar files all (map rule_file (map (λ name. name.now) (drop (i + 1) names))) (got ++ bytes ∷ [])
next_read files files' names i d all got name bytes same below is so_far read short =
    let rest : List Wanted = map rule_file (map (λ name. name.now) (drop (i + 1) names)) in
    let Read : List ℕ → Option Files → Type 0 = λ name files. IfSome files (λ files. content_of (rule_file name) (files name) ≡ Ok bytes) in
    let now : List ℕ = (get_or names i d).now in
    next files all rest (rule_file now) got bytes (subst (λ left. SoFar files all left got) (names_left names i d below) so_far)
    (subst (Read now) same (subst (λ name. Read name files') is read))
    (subst (λ files. IfNone files (length bytes ≤ MAX_RULE_BYTES)) same short)

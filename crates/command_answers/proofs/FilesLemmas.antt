-- Rule files that are read, and a map after them.
use Rattle.std.proofs.Common.{◌≡◌, ◌≤◌, ℕ, List, [], ◌∷◌, ◌++◌, map, Option, None, Some, Ok, IfSome, IfNone, IsSome, refl, subst, inl, inr, arith}
use Rattle.std.specs.Prelude.{option_map}
use Rattle.base.specs.Cause.{Increased}
use Rattle.base.specs.Steps.{◌>>=◌}
use Rattle.game_io.specs.Files.{Files}
use Rattle.command_answers.specs.declared.stop.Stop.{Stop}
use Rattle.command_answers.specs.declared.stop.Stop.TheVariants.{Refused, ReadFault, NoMemory}
use Rattle.command_answers.specs.Reply.{Reply}
use Rattle.command_answers.specs.Step.{Step}
use Rattle.command_answers.specs.WantedFiles.{Wanted, and_then, in_order, rule_file, rules_and_map}
use Rattle.command_answers.specs.Contents.{Contents, content_of, contents_of, read_after, read_optional, IsFirstThere, AreWithinLimits, IsWithinLimit, AreContents, IsUnread}
use Rattle.command_answers.specs.Stop.{IsReadStop, IsOpaqueStop}
use Rattle.command_answers.proofs.OptionLemmas.{map_some, map_none}

-- ---- all were read

abbrev pub both : List (List ℕ) → Option (List ℕ) → Contents
both rules map_file = record { rules = rules; map_file = map_file; first = None; script = None; replay = None }

pub all_observable :
    (names rules : List (List ℕ)) (map_file bytes : Option (List ℕ)) (o o' : Option Files) → o' ≡ o →
    IfSome o (λ files. read_after [] (map rule_file names) files ≡ Ok rules) →
    IfSome o' (λ files. read_optional (option_map rule_file map_file) files ≡ Ok bytes) →
    IfSome o (λ files. contents_of (rules_and_map names map_file) files ≡ Ok (both rules bytes))
all_observable names rules map_file bytes None o' same first second = tt
all_observable names rules map_file bytes (Some files) o' same first second =
    let Read : Option Files → Type 0 = λ o. IfSome o (λ files. read_optional (option_map rule_file map_file) files ≡ Ok bytes) in
    let read : read_optional (option_map rule_file map_file) files ≡ Ok bytes = subst Read same second in
    rw (first, read) refl

pub all_opaque :
    (names rules : List (List ℕ)) (map_file bytes : Option (List ℕ)) (o o' : Option Files) → o' ≡ o →
    IfNone o (AreWithinLimits (map rule_file names) rules) →
    IfNone o' (IsWithinLimit (option_map rule_file map_file) bytes) →
    IfNone o (AreContents (rules_and_map names map_file) (both rules bytes))
all_opaque names rules map_file bytes None o' same first second =
    let Short : Option Files → Type 0 = λ o. IfNone o (IsWithinLimit (option_map rule_file map_file) bytes) in
    record { rules = first; map_file = subst Short same second; first = tt; script = tt; replay = tt }
all_opaque names rules map_file bytes (Some files) o' same first second = tt

-- ---- a rule file was not read

pub there_more : (first rest : List Wanted) (files : Files) → IsFirstThere first files → IsFirstThere (first ++ rest) files
there_more [] rest files there = absurd there
there_more (file ∷ first) rest files there = there

rules_stop :
    (names : List (List ℕ)) (map_file : Option (List ℕ)) (stop : Stop) (files : Files) (R : Type 0) →
    IsReadStop stop (read_after [] (map rule_file names) files) (IsFirstThere (map rule_file names) files × R) →
    IsReadStop stop (contents_of (rules_and_map names map_file) files) (IsFirstThere (in_order (rules_and_map names map_file)) files × R)
rules_stop names map_file (Refused name place cause) files R stops = rw stops refl
rules_stop names map_file ReadFault files R stops =
    (there_more (map rule_file names) (and_then (option_map rule_file map_file) []) files stops.0, stops.1)
rules_stop names map_file NoMemory files R stops = tt

pub rules_stop_observable :
    (names : List (List ℕ)) (map_file : Option (List ℕ)) (stop : Stop) (R : Type 0) (o : Option Files) →
    IfSome o (λ files. IsReadStop stop (read_after [] (map rule_file names) files) (IsFirstThere (map rule_file names) files × R)) →
    IfSome o (λ files. IsReadStop stop (contents_of (rules_and_map names map_file) files) (IsFirstThere (in_order (rules_and_map names map_file)) files × R))
rules_stop_observable names map_file stop R o = map_some o _ _ (λ files stops. rules_stop names map_file stop files R stops)

unread_more : (first rest : List Wanted) (reply : Reply) → IsUnread first reply → IsUnread (first ++ rest) reply
unread_more [] rest reply unread = absurd unread
unread_more (file ∷ first) rest reply (inl missing) = inl missing
unread_more (file ∷ first) rest reply (inr (inl long)) = inr (inl long)
unread_more (file ∷ first) rest reply (inr (inr later)) = inr (inr (unread_more first rest reply later))

pub opaque_more : (stop : Stop) (first rest : List Wanted) (R : Type 0) → IsOpaqueStop stop first R → IsOpaqueStop stop (first ++ rest) R
opaque_more (Refused name place cause) first rest R stops = (stops.0, unread_more first rest _ stops.1)
opaque_more ReadFault first rest R stops = stops
opaque_more NoMemory first rest R stops = tt

pub rules_stop_opaque :
    (names : List (List ℕ)) (map_file : Option (List ℕ)) (stop : Stop) (R : Type 0) (o : Option Files) →
    IfNone o (IsOpaqueStop stop (map rule_file names) R) →
    IfNone o (IsOpaqueStop stop (in_order (rules_and_map names map_file)) R)
rules_stop_opaque names map_file stop R o =
    map_none o (λ stops. opaque_more stop (map rule_file names) (and_then (option_map rule_file map_file) []) R stops)

-- ---- the map was not read

content_there :
    {T : Type 0} (file : Wanted) (content : Option (List ℕ)) (next : List ℕ → Step T) (value : T) →
    (content_of file content >>= next) ≡ Ok value → IsSome content
content_there file None next value read = absurd cc
content_there file (Some bytes) next value read = refl

-- The first of all is there, where all rule files were read and the first of the others is.
there_after :
    (first rest : List Wanted) (got contents : List (List ℕ)) (files : Files) →
    read_after got first files ≡ Ok contents → IsFirstThere rest files → IsFirstThere (first ++ rest) files
there_after [] rest got contents files read there = there
there_after (file ∷ first) rest got contents files read there =
    content_there file (files file.name) (λ bytes. read_after (got ++ bytes ∷ []) first files) contents read

map_stop :
    (names rules : List (List ℕ)) (map_file : Option (List ℕ)) (stop : Stop) (files : Files) (R Q : Type 0) → (R → Q) →
    read_after [] (map rule_file names) files ≡ Ok rules →
    IsReadStop stop (read_optional (option_map rule_file map_file) files) (IsFirstThere (and_then (option_map rule_file map_file) []) files × R) →
    IsReadStop stop (contents_of (rules_and_map names map_file) files) (IsFirstThere (in_order (rules_and_map names map_file)) files × Q)
map_stop names rules map_file (Refused name place cause) files R Q rose read stops = rw (read, stops) refl
map_stop names rules map_file ReadFault files R Q rose read stops =
    (there_after (map rule_file names) (and_then (option_map rule_file map_file) []) [] rules files read stops.0, rose stops.1)
map_stop names rules map_file NoMemory files R Q rose read stops = tt

pub map_stop_observable :
    (names rules : List (List ℕ)) (map_file : Option (List ℕ)) (stop : Stop) (R Q : Type 0) (o o' : Option Files) → (R → Q) → o' ≡ o →
    IfSome o (λ files. read_after [] (map rule_file names) files ≡ Ok rules) →
    IfSome o' (λ files. IsReadStop stop (read_optional (option_map rule_file map_file) files) (IsFirstThere (and_then (option_map rule_file map_file) []) files × R)) →
    IfSome o (λ files. IsReadStop stop (contents_of (rules_and_map names map_file) files) (IsFirstThere (in_order (rules_and_map names map_file)) files × Q))
map_stop_observable names rules map_file stop R Q None o' rose same read stops = tt
map_stop_observable names rules map_file stop R Q (Some files) o' rose same read stops =
    let Stops : Option Files → Type 0 = λ o. IfSome o (λ files. IsReadStop stop (read_optional (option_map rule_file map_file) files) (IsFirstThere (and_then (option_map rule_file map_file) []) files × R)) in
    map_stop names rules map_file stop files R Q rose read (subst Stops same stops)

unread_later : (first rest : List Wanted) (reply : Reply) → IsUnread rest reply → IsUnread (first ++ rest) reply
unread_later [] rest reply unread = unread
unread_later (file ∷ first) rest reply unread = inr (inr (unread_later first rest reply unread))

pub opaque_later : (stop : Stop) (first rest : List Wanted) (R Q : Type 0) → (R → Q) → IsOpaqueStop stop rest R → IsOpaqueStop stop (first ++ rest) Q
opaque_later (Refused name place cause) first rest R Q rose stops = (rose stops.0, unread_later first rest _ stops.1)
opaque_later ReadFault first rest R Q rose stops = rose stops
opaque_later NoMemory first rest R Q rose stops = tt

pub map_stop_opaque :
    (names : List (List ℕ)) (map_file : Option (List ℕ)) (stop : Stop) (R Q : Type 0) (o o' : Option Files) → (R → Q) → o' ≡ o →
    IfNone o' (IsOpaqueStop stop (and_then (option_map rule_file map_file) []) R) →
    IfNone o (IsOpaqueStop stop (in_order (rules_and_map names map_file)) Q)
map_stop_opaque names map_file stop R Q None o' rose same stops =
    let Stops : Option Files → Type 0 = λ o. IfNone o (IsOpaqueStop stop (and_then (option_map rule_file map_file) []) R) in
    opaque_later stop (map rule_file names) (and_then (option_map rule_file map_file) []) R Q rose (subst Stops same stops)
map_stop_opaque names map_file stop R Q (Some files) o' rose same stops = tt

-- A count that rose in the second of two calls rose in both.
pub rose_later : (a b c : ℕ) → a ≤ b → Increased b c → Increased a c
rose_later a b c later rose = omega arith

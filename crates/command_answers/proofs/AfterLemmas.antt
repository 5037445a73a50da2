-- A file that is read after others.
use Rattle.std.proofs.Common.{◌≡◌, ◌⊎◌, ℕ, List, [], ◌∷◌, ◌++◌, Option, None, Some, Ok, IfSome, IfNone, IsSome, codes, refl, sym, ap, subst, append_assoc, ◌∙◌}
use Rattle.base.specs.Steps.{◌>>=◌}
use Rattle.game_io.specs.Files.{Files}
use Rattle.command_answers.specs.declared.stop.Stop.{Stop}
use Rattle.command_answers.specs.declared.stop.Stop.TheVariants.{Refused, ReadFault, NoMemory}
use Rattle.command_answers.specs.Reply.{refusal}
use Rattle.command_answers.specs.Step.{Step}
use Rattle.command_answers.specs.WantedFiles.{Wanted, WantedFiles, and_then, in_order}
use Rattle.command_answers.specs.Contents.{Contents, content_of, contents_of, read_optional, IsFirstThere, IsWithinLimit, AreContents}
use Rattle.command_answers.specs.Stop.{IsReadStop, IsOpaqueStop}
use Rattle.command_answers.proofs.OptionLemmas.{map_some, map_none}
use Rattle.command_answers.proofs.FilesLemmas.{there_more, opaque_more, opaque_later}

-- The contents of some files and then of the last one, which those may decide of.
abbrev pub then_read : Step Contents → (Contents → Step (Option (List ℕ))) → (Contents → Option (List ℕ) → Contents) → Step Contents
then_read first last put = first >>= λ given. last given >>= λ bytes. Ok (put given bytes)

-- After `all` a file of the name of `place` is read, as `last` says by their contents, and `whole` are all of these. Its
-- bytes are put into the contents of the others.
pub record IsAfter (all : WantedFiles) (place : Wanted) (last : Contents → Option Wanted) (whole : WantedFiles) (put : Contents → Option (List ℕ) → Contents) : Type 0 where
  pub order : in_order whole ≡ in_order all ++ place ∷ []
  pub named : (given : Contents) → IfSome (last given) (λ file. file.name ≡ place.name)
  pub reads : (files : Files) → contents_of whole files ≡ then_read (contents_of all files) (λ given. read_optional (last given) files) put
  pub are : (given : Contents) (bytes : Option (List ℕ)) → AreContents all given → IsWithinLimit (last given) bytes → AreContents whole (put given bytes)

pub and_then_more :
    (first : List Wanted) (m : Option Wanted) (mid last : List Wanted) → first ++ and_then m (mid ++ last) ≡ (first ++ and_then m mid) ++ last
and_then_more first None mid last = sym (append_assoc first mid last)
and_then_more first (Some file) mid last = sym (append_assoc first (file ∷ mid) last)

-- ---- all were read

pub after_observable :
    (all whole : WantedFiles) (place : Wanted) (last : Contents → Option Wanted) (put : Contents → Option (List ℕ) → Contents) → IsAfter all place last whole put →
    (given : Contents) (bytes : Option (List ℕ)) (o o' : Option Files) → o' ≡ o →
    IfSome o (λ files. contents_of all files ≡ Ok given) →
    IfSome o' (λ files. read_optional (last given) files ≡ Ok bytes) →
    IfSome o (λ files. contents_of whole files ≡ Ok (put given bytes))
after_observable all whole place last put is given bytes None o' same first second = tt
after_observable all whole place last put is given bytes (Some files) o' same first second =
    let Read : Option Files → Type 0 = λ o. IfSome o (λ files. read_optional (last given) files ≡ Ok bytes) in
    let read : read_optional (last given) files ≡ Ok bytes = subst Read same second in
    is.reads files
    ∙ ap (λ step. then_read step (λ given. read_optional (last given) files) put) first
    ∙ ap (λ step. then_read (Ok given) (λ given. step) put) read

pub after_opaque :
    (all whole : WantedFiles) (place : Wanted) (last : Contents → Option Wanted) (put : Contents → Option (List ℕ) → Contents) → IsAfter all place last whole put →
    (given : Contents) (bytes : Option (List ℕ)) (o o' : Option Files) → o' ≡ o →
    IfNone o (AreContents all given) → IfNone o' (IsWithinLimit (last given) bytes) → IfNone o (AreContents whole (put given bytes))
after_opaque all whole place last put is given bytes None o' same first short =
    is.are given bytes first (subst (λ o. IfNone o (IsWithinLimit (last given) bytes)) same short)
after_opaque all whole place last put is given bytes (Some files) o' same first short = tt

-- ---- one of the first was not

first_stop :
    (all whole : WantedFiles) (place : Wanted) (last : Contents → Option Wanted) (put : Contents → Option (List ℕ) → Contents) → IsAfter all place last whole put →
    (stop : Stop) (files : Files) (R : Type 0) →
    IsReadStop stop (contents_of all files) (IsFirstThere (in_order all) files × R) →
    IsReadStop stop (contents_of whole files) (IsFirstThere (in_order whole) files × R)
first_stop all whole place last put is (Refused name at cause) files R stops =
    is.reads files ∙ ap (λ step. then_read step (λ given. read_optional (last given) files) put) stops
first_stop all whole place last put is ReadFault files R stops = (
  subst (λ all. IsFirstThere all files) (sym is.order) (there_more (in_order all) (place ∷ []) files stops.0),
  stops.1,
)
first_stop all whole place last put is NoMemory files R stops = tt

pub first_stop_observable :
    (all whole : WantedFiles) (place : Wanted) (last : Contents → Option Wanted) (put : Contents → Option (List ℕ) → Contents) → IsAfter all place last whole put →
    (stop : Stop) (R : Type 0) (o : Option Files) →
    IfSome o (λ files. IsReadStop stop (contents_of all files) (IsFirstThere (in_order all) files × R)) →
    IfSome o (λ files. IsReadStop stop (contents_of whole files) (IsFirstThere (in_order whole) files × R))
first_stop_observable all whole place last put is stop R o = map_some o _ _ (λ files stops. first_stop all whole place last put is stop files R stops)

pub first_stop_opaque :
    (all whole : WantedFiles) (place : Wanted) (last : Contents → Option Wanted) (put : Contents → Option (List ℕ) → Contents) → IsAfter all place last whole put →
    (stop : Stop) (R : Type 0) (o : Option Files) →
    IfNone o (IsOpaqueStop stop (in_order all) R) → IfNone o (IsOpaqueStop stop (in_order whole) R)
first_stop_opaque all whole place last put is stop R o =
    map_none o (λ stops. subst (λ all. IsOpaqueStop stop all R) (sym is.order) (opaque_more stop (in_order all) (place ∷ []) R stops))

-- ---- the last was not

content_there :
    {T U : Type 0} (file : Wanted) (content : Option (List ℕ)) (next : List ℕ → Step T) (rest : T → Step U) (value : U) →
    ((content_of file content >>= next) >>= rest) ≡ Ok value → IsSome content
content_there file None next rest value read = absurd cc
content_there file (Some bytes) next rest value read = refl

-- The first of all files is there, where all were read and the first that comes after them is there.
there_after :
    (rules : List Wanted) (m s c : Option Wanted) (r : Option (List ℕ) → Option Wanted) (last : List Wanted) (files : Files) (given : Contents) →
    contents_of (record { rules = rules; map_file = m; first = s; script = c; replay = r }) files ≡ Ok given → IsFirstThere last files →
    IsFirstThere ((rules ++ and_then m (and_then s (and_then c (and_then (r None) [])))) ++ last) files
there_after (file ∷ rules) m s c r last files given read there =
    content_there file (files file.name) _ _ given read
there_after [] (Some file) s c r last files given read there = content_there file (files file.name) _ _ given read
there_after [] None (Some file) c r last files given read there = content_there file (files file.name) _ _ given read
there_after [] None None (Some file) r last files given read there = content_there file (files file.name) _ _ given read
there_after [] None None None r last files given read there = go (r None) read
  where
    go : (replay : Option Wanted)
        → (read_optional replay files >>= λ bytes. Ok (record { rules = []; map_file = None; first = None; script = None; replay = bytes })) ≡ Ok given
        → IsFirstThere (and_then replay [] ++ last) files
    go None read = there
    go (Some file) read = content_there file (files file.name) _ _ given read

-- What is said of the last file is said of its name.
named_there : (file : Option Wanted) (place : Wanted) (files : Files) → IfSome file (λ file. file.name ≡ place.name) → IsFirstThere (and_then file []) files → IsSome (files place.name)
named_there None place files named there = absurd there
named_there (Some file) place files named there = subst (λ name. IsSome (files name)) named there

named_stop :
    (stop : Stop) (file : Option Wanted) (place : Wanted) (R : Type 0) → IfSome file (λ file. file.name ≡ place.name) →
    IsOpaqueStop stop (and_then file []) R → IsOpaqueStop stop (place ∷ []) R
named_stop (Refused name at cause) None place R named stops = absurd stops.1
named_stop (Refused name at cause) (Some file) place R named stops =
    let reply = refusal name.now at cause.now in
    subst (λ named. R × ((reply ≡ refusal named 0 (codes "Missing")) ⊎ ((reply ≡ refusal named 0 (codes "TooLong")) ⊎ ⊥))) named stops
named_stop ReadFault file place R named stops = stops
named_stop NoMemory file place R named stops = tt

last_stop :
    (all whole : WantedFiles) (place : Wanted) (last : Contents → Option Wanted) (put : Contents → Option (List ℕ) → Contents) → IsAfter all place last whole put →
    (given : Contents) (stop : Stop) (files : Files) (R Q : Type 0) → (R → Q) →
    contents_of all files ≡ Ok given →
    IsReadStop stop (read_optional (last given) files) (IsFirstThere (and_then (last given) []) files × R) →
    IsReadStop stop (contents_of whole files) (IsFirstThere (in_order whole) files × Q)
last_stop all whole place last put is given (Refused name at cause) files R Q rose read stops =
    is.reads files
    ∙ ap (λ step. then_read step (λ given. read_optional (last given) files) put) read
    ∙ ap (λ step. then_read (Ok given) (λ given. step) put) stops
last_stop all whole place last put is given ReadFault files R Q rose read stops = (
  subst (λ all. IsFirstThere all files) (sym is.order)
      (there_after all.rules all.map_file all.first all.script all.replay (place ∷ []) files given read
      (named_there (last given) place files (is.named given) stops.0)),
  rose stops.1,
)
last_stop all whole place last put is given NoMemory files R Q rose read stops = tt

pub last_stop_observable :
    (all whole : WantedFiles) (place : Wanted) (last : Contents → Option Wanted) (put : Contents → Option (List ℕ) → Contents) → IsAfter all place last whole put →
    (given : Contents) (stop : Stop) (R Q : Type 0) (o o' : Option Files) → (R → Q) → o' ≡ o →
    IfSome o (λ files. contents_of all files ≡ Ok given) →
    IfSome o' (λ files. IsReadStop stop (read_optional (last given) files) (IsFirstThere (and_then (last given) []) files × R)) →
    IfSome o (λ files. IsReadStop stop (contents_of whole files) (IsFirstThere (in_order whole) files × Q))
last_stop_observable all whole place last put is given stop R Q None o' rose same read stops = tt
last_stop_observable all whole place last put is given stop R Q (Some files) o' rose same read stops =
    let Stops : Option Files → Type 0 = λ o. IfSome o (λ files. IsReadStop stop (read_optional (last given) files) (IsFirstThere (and_then (last given) []) files × R)) in
    last_stop all whole place last put is given stop files R Q rose read (subst Stops same stops)

pub last_stop_opaque :
    (all whole : WantedFiles) (place : Wanted) (last : Contents → Option Wanted) (put : Contents → Option (List ℕ) → Contents) → IsAfter all place last whole put →
    (given : Contents) (stop : Stop) (R Q : Type 0) (o o' : Option Files) → (R → Q) → o' ≡ o →
    IfNone o' (IsOpaqueStop stop (and_then (last given) []) R) → IfNone o (IsOpaqueStop stop (in_order whole) Q)
last_stop_opaque all whole place last put is given stop R Q None o' rose same stops =
    let Stops : Option Files → Type 0 = λ o. IfNone o (IsOpaqueStop stop (and_then (last given) []) R) in
    subst (λ all. IsOpaqueStop stop all Q) (sym is.order)
    (opaque_later stop (in_order all) (place ∷ []) R Q rose (named_stop stop (last given) place R (is.named given) (subst Stops same stops)))
last_stop_opaque all whole place last put is given stop R Q (Some files) o' rose same stops = tt

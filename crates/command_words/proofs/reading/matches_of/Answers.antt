use Rattle.std.proofs.Common.{rules, arith, ◌≡◌, ◌≢◌, ◌⊎◌, ◌∙◌, inl, inr, refl, sym, ap, map, string_bytes, true, false, [], ◌∷◌}
use Rattle.clap.specs.Walk.{is_empty}
use Rattle.clap.specs.Simple.{App, is_simple, subcommand_of}
use Rattle.clap.specs.Faults.{fault_of, is_simple_and_free}
use Rattle.clap.specs.Kinds.{Kinds, IsAmong}
use Rattle.clap.specs.declared.error.kind.ErrorKind.{ErrorKind}
use Rattle.clap.specs.declared.error.kind.ErrorKind.TheVariants.{OutOfMemory}
use Rattle.clap.proofs.OnLiterals.{clap_on_literals}
use Rattle.command_words.specs.Commands.{lockstep_app}
use Rattle.command_words.specs.Reading.{is_accepted}
use Rattle.command_words.proofs.OnCommands.{all_commands}
use Rattle.command_words.proofs.reading.matches_of.Goals as goal

-- `clap` says of such a command exactly what it finds and what it refuses.
simple : is_simple lockstep_app ≡ true
unfolding all_commands clap_on_literals
simple = refl

free : is_simple_and_free lockstep_app ≡ true
unfolding all_commands clap_on_literals
free = refl

-- An error of one of these kinds, other than out of memory, says that there is such a kind.
some_kind : (kinds : Kinds) (kind : ErrorKind) → (kind ≡ OutOfMemory) ⊎ IsAmong kind kinds → kind ≢ OutOfMemory → is_empty kinds ≡ false
some_kind [] kind has other = elim has [ inl memory ↦ absurd (other memory) | inr none ↦ absurd none ]
some_kind (first ∷ kinds) kind has other = grind arith

pub returns-in-Ok-clause-accepted : goal.returns-in-Ok-clause-accepted
unfolding is_accepted
returns-in-Ok-clause-accepted c =
    let words = map string_bytes c.args.words.now in
    ap is_empty (ap (λ (app : App). fault_of app words) (sym c.in_ok-command.ensures)
    ∙ c.in-Ok.ensures.kinds (ap is_simple_and_free c.in_ok-command.ensures ∙ free))

pub returns-in-Ok-clause-found : goal.returns-in-Ok-clause-found
returns-in-Ok-clause-found c =
    let words = map string_bytes c.args.words.now in
    (c.in-Ok.ensures.matches (ap is_simple c.in_ok-command.ensures ∙ simple)).1
    ∙ ap (λ (app : App). subcommand_of app words) c.in_ok-command.ensures

pub returns-in-Err-clause-refused : goal.returns-in-Err-clause-refused
unfolding is_accepted
returns-in-Err-clause-refused c same =
    let words = map string_bytes c.args.words.now in
    ap is_empty (ap (λ (app : App). fault_of app words) (sym c.in_ok-command.ensures))
    ∙ some_kind _ _ (c.in-Err.ensures.kinds (ap is_simple_and_free c.in_ok-command.ensures ∙ free)) (λ memory. c.fault_by.ensures (search rules) (c.kind.ensures ∙ memory))

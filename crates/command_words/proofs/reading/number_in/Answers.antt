use Rattle.std.proofs.Common.{◌≡◌, ◌∙◌, ap, sym, refl, List, ℕ, Option, Some, None}
use Rattle.std.specs.Prelude.{option_and_then}
use Rattle.std.specs.Str.Parse.{ParsesUnsigned, ExplainsUnsignedError, HasUnsignedDigitsIfOk}
use Rattle.clap.specs.Matches.{found_of, one_text}
use Rattle.clap.specs.Walk.{rows_of}
use Rattle.clap.proofs.WalkLemmas.{one_text-rows}
use Rattle.command_words.specs.Reading.{number_in, number_of}
use Rattle.command_words.proofs.NumberLemmas.{number_read}
use Rattle.command_words.proofs.reading.number_in.Goals as goal

pub returns : goal.returns
unfolding number_in
returns c = go (one_text (found_of c.args.found.now) c.args.option.now) refl
  where
    rows : (text : Option (List ℕ)) → one_text (found_of c.args.found.now) c.args.option.now ≡ text
        → option_and_then number_of text ≡ number_in c.args.option.now (rows_of (found_of c.args.found.now))
    rows text is = ap (option_and_then number_of) (sym is ∙ one_text-rows (found_of c.args.found.now) c.args.option.now)

    go : (text : Option (List ℕ)) → one_text (found_of c.args.found.now) c.args.option.now ≡ text
        → c.get_one.result ≡ number_in c.args.option.now (rows_of (found_of c.args.found.now))
    go None is = c.get_one.ensures.none is ∙ rows None is
    go (Some text) is =
        number_read _ (λ bs r. ParsesUnsigned 32 10 bs r × ExplainsUnsignedError 10 bs r × HasUnsignedDigitsIfOk bs r)
        (λ bs r parses. parses.0) text c.get_one.result (c.get_one.ensures.value text is)
        ∙ rows (Some text) is

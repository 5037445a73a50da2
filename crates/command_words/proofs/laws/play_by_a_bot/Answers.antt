use Rattle.command_words.proofs.LiteralLemmas.{play_by_a_bot, play_by_both, play_without_frames}
use Rattle.command_words.proofs.laws.play_by_a_bot.Goals as goal

pub returns-clause-bot : goal.returns-clause-bot
returns-clause-bot c = play_by_a_bot

pub returns-clause-both : goal.returns-clause-both
returns-clause-both c = play_by_both

pub returns-clause-without : goal.returns-clause-without
returns-clause-without c = play_without_frames

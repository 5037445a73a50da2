mod ListLemmas
mod FlagLemmas
mod WordLemmas
mod SurveyLemmas
mod ProductLemmas
mod DraftLemmas
mod BotLemmas
mod LawLemmas

mod KickLemmas

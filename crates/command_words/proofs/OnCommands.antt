-- What a proof unfolds to compute the command line, and the request of arguments that are written
-- out.
use Rattle.std.specs.Prelude.{⊤}
use Rattle.command_words.specs.Commands.{bare_app, played_app, drill_app, yaml_app, check_app, routed_app, ends_app, route_app, make_app, local_app, hosted_app, timed_app, clocked_app, bound_app, recorded_app, serve_app, dialed_app, manned_app, quiet_app, play_app, replay_app, migrate_app, framed_app, save_app, continue_app, view_app, ranged_app, worlds_app, compare_app, datagrams_app, first_app, asking_app, playing_app, linked_app, replaying_app, saving_app, showing_app, lockstep_app}
use Rattle.command_words.specs.Reading.{is_accepted, command_request, names_in, cell_in, number_in, count_in, count_or, step_or, bots_in, match_in, local_in, has_flag, player_in, play_in, seconds_in, ports_of, ports_in, host_in, serve_in, migrate_in, route_in, save_in, continue_in, view_in, range_in, worlds_in, compare_in, request_of}

unfoldable pub all_commands : ⊤
unfolding lockstep_app showing_app saving_app replaying_app linked_app playing_app asking_app first_app bare_app played_app drill_app yaml_app check_app routed_app ends_app route_app make_app local_app hosted_app timed_app clocked_app bound_app recorded_app serve_app dialed_app manned_app quiet_app play_app replay_app migrate_app framed_app save_app continue_app view_app ranged_app worlds_app compare_app datagrams_app
all_commands = tt

unfoldable pub request_on_literals : ⊤
unfolding request_of is_accepted command_request names_in cell_in number_in count_in count_or step_or bots_in match_in local_in has_flag player_in play_in seconds_in ports_of ports_in host_in serve_in migrate_in route_in save_in continue_in view_in range_in worlds_in compare_in
request_on_literals = tt

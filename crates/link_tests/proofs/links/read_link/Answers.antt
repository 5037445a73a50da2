use Rattle.frame_table.specs.Calls.{view_of}
use Rattle.match_net.proofs.SessionLemmas.{stays_free}
use Rattle.link_tests.proofs.links.read_link.Goals as goal

pub returns : goal.returns
returns g c =
    record {
      is = c.reader_session-end.ensures.pass;
      clients = c.requires.clients;
      free =
          stays_free _ 0 _ _ _ _ _ (view_of c.reader_session-end.new.pass) _ _ _ c.reader_session-end.ensures.reads c.requires.may.planned;
    }

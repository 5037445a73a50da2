-- A server stays one when its columns grow.
use Rattle.std.proofs.Common.{◌≡◌, ℕ, suc, List, [], ◌∷◌, length, refl, ap, sym, ◌∙◌}
use Rattle.frame_core.specs.Column.{Column}
use Rattle.frame_core.specs.Grows.{Grows}
use Rattle.frame_core.proofs.AgreedLemmas.{AreReady-grow}
use Rattle.server_core.specs.Server.{ServerState, IsServer}

-- Columns that grow stay as many.
length-grow : (olds news : List Column) → Grows olds news → length news ≡ length olds
length-grow [] [] grows = refl
length-grow [] (new ∷ news) grows = absurd grows
length-grow (old ∷ olds) [] grows = absurd grows
length-grow (old ∷ olds) (new ∷ news) grows = ap suc (length-grow olds news grows.1)

pub grow_is_server :
    {W : Type 0} (clients_of steps_of : W → ℕ) (server : ServerState W) (news : List Column) →
    Grows server.columns news → IsServer clients_of steps_of server →
    IsServer clients_of steps_of (record server { columns = news })
grow_is_server clients_of steps_of server news grows is =
    let many : length news ≡ length server.columns = length-grow server.columns news grows in
    record {
      clients = is.clients ∙ sym many;
      reports = is.reports ∙ sym many;
      steps = is.steps;
      marks = is.marks;
      limit = is.limit;
      ready = AreReady-grow server.columns news server.ticked grows is.ready;
    }

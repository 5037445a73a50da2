-- What one of two kinds of halves is, as contracts see it: it is opaque.
use Rattle.std.specs.Prelude.{ℕ, None}
use Rattle.game_io.specs.SourceState.{SourceState}
use Rattle.game_io.specs.SinkState.{SinkState}
use Rattle.datagram_net.specs.declared.either_source.EitherSource.{EitherSource}
use Rattle.datagram_net.specs.declared.either_source.EitherSource.TheVariants as source
use Rattle.datagram_net.specs.declared.either_sink.EitherSink.{EitherSink}
use Rattle.datagram_net.specs.declared.either_sink.EitherSink.TheVariants as sink

abbrev source_faults :
    {A B : Type 0} → (A → SourceState) → (B → SourceState) → EitherSource A B → ℕ
source_faults a b (source.Plain input) = (a input).faults
source_faults a b (source.Udp input) = (b input).faults

abbrev pub source_state :
    {A B : Type 0} → (A → SourceState) → (B → SourceState) → EitherSource A B → SourceState
source_state a b input = record { left = None; faults = source_faults a b input }

abbrev sink_faults : {A B : Type 0} → (A → SinkState) → (B → SinkState) → EitherSink A B → ℕ
sink_faults a b (sink.Plain output) = (a output).faults
sink_faults a b (sink.Udp output) = (b output).faults

abbrev pub sink_state :
    {A B : Type 0} → (A → SinkState) → (B → SinkState) → EitherSink A B → SinkState
sink_state a b output = record { written = None; faults = sink_faults a b output }

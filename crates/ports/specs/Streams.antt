-- What is seen of a source and a sink over streams of std.
use Rattle.std.specs.Prelude.{ℕ}
use Rattle.ports.specs.declared.std_source.StdSource.{StdSource}
use Rattle.ports.specs.declared.std_sink.StdSink.{StdSink}

-- the reader below
abbrev pub reader : {R : Type 0} → StdSource R → R
reader source = source.inner

abbrev pub reader_faults : {R : Type 0} → StdSource R → ℕ
reader_faults source = source.faults.count

-- the writer below
abbrev pub writer : {W : Type 0} → StdSink W → W
writer sink = sink.inner

abbrev pub writer_faults : {W : Type 0} → StdSink W → ℕ
writer_faults sink = sink.faults.count

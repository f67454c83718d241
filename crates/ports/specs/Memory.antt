-- What a source and a sink in memory tell.
use Rattle.std.specs.Prelude.{◌≡◌, ℕ, ◌+◌, ◌≤◌, List, [], length, drop}
use Rattle.ports.specs.declared.memory_source.MemorySource.{MemorySource}
use Rattle.ports.specs.declared.memory_sink.MemorySink.{MemorySink}

-- the bytes that are left
abbrev pub source_left : MemorySource → List ℕ
source_left source = drop source.at source.bytes.items

-- how many calls were made
abbrev pub source_calls : MemorySource → ℕ
source_calls source = source.plan.calls

-- the numbers of the calls that fail
abbrev pub source_fails : MemorySource → List ℕ
source_fails source = source.plan.fails.items

abbrev pub source_faults : MemorySource → ℕ
source_faults source = source.plan.faults.count

-- the bytes taken
abbrev pub sink_taken : MemorySink → List ℕ
sink_taken sink = sink.bytes.items

-- how many bytes fit in all
abbrev pub sink_room : MemorySink → ℕ
sink_room sink = sink.room

abbrev pub sink_calls : MemorySink → ℕ
sink_calls sink = sink.plan.calls

abbrev pub sink_fails : MemorySink → List ℕ
sink_fails sink = sink.plan.fails.items

abbrev pub sink_faults : MemorySink → ℕ
sink_faults sink = sink.plan.faults.count

-- no call fails from here on, and so many more bytes fit
pub record SinkHasRoom (sink : MemorySink) (more : ℕ) : Type 0 where
  pub no_fails : sink_fails sink ≡ []
  pub fits : length (sink_taken sink) + more ≤ sink_room sink

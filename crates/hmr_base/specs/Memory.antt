-- What the sources and sinks in memory hold.
use Rattle.std.specs.Prelude.{ℕ, List, drop}
use Rattle.hmr_base.specs.declared.mem_source.MemSource.{MemSource}
use Rattle.hmr_base.specs.declared.mem_sink.MemSink.{MemSink}
use Rattle.hmr_base.specs.declared.clean.CleanSource.{CleanSource}
use Rattle.hmr_base.specs.Plans.{faults_of}

-- the bytes that a source in memory has left to give
abbrev pub left_of : MemSource → List ℕ
left_of source = drop source.at source.bytes.items

-- how many of its calls failed
abbrev pub failures_of : MemSource → ℕ
failures_of source = faults_of source.plan

-- the bytes that a sink in memory has taken
abbrev pub taken_by : MemSink → List ℕ
taken_by sink = sink.bytes.items

-- how many bytes fit it in all
abbrev pub room_of : MemSink → ℕ
room_of sink = sink.room

-- how many of its calls failed
abbrev pub refusals_of : MemSink → ℕ
refusals_of sink = faults_of sink.plan

-- the bytes that a source that never fails has left
abbrev pub clean_left : CleanSource → List ℕ
clean_left source = drop source.at source.bytes.items

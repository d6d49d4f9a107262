-- A sink in memory, as its callers see it.
use Rattle.std.specs.Prelude.{ℕ, Bool, List}
use Rattle.ot_outside.specs.declared.mem_sink.MemSink.{MemSink}
use Rattle.ot_outside.specs.Counts.{next_is_listed}

-- what was written
abbrev pub sink_bytes : MemSink → List ℕ
sink_bytes sink = sink.bytes.items

-- for how many bytes there is room
abbrev pub room_of : MemSink → ℕ
room_of sink = sink.room

-- how many bytes a call takes at most
abbrev pub per_call_of : MemSink → ℕ
per_call_of sink = sink.per_call

-- the numbers of the calls that fail
abbrev pub failing_calls : MemSink → List ℕ
failing_calls sink = sink.counts.failing.items

-- how many calls there were, up to the last value of a u64
abbrev pub call_count : MemSink → ℕ
call_count sink = sink.counts.calls

-- how many of them failed, up to the last value of a u64
abbrev pub fault_count : MemSink → ℕ
fault_count sink = sink.counts.faults

-- the next call is listed as one that fails
abbrev pub fails_next : MemSink → Bool
fails_next sink = next_is_listed sink.counts

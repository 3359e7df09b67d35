-- The bytes of a trace.
use Rattle.std.specs.Prelude.{ℕ, cond, List, length, Some, None, Ok, Err, Option, Result, nat_lt}
use Rattle.trace.specs.declared.faults.Fault.{Fault}
use Rattle.trace.specs.declared.faults.Fault.TheVariants.{Trace}

-- a trace has at most so many bytes
abbrev pub longest : ℕ
longest = 32768

-- The trace of a file's bytes, or of a file that could not be read.
abbrev pub trace_of : Option (List ℕ) → Result (List ℕ) Fault
trace_of None = Err Trace
trace_of (Some bytes) = cond (nat_lt longest (length bytes)) (Err Trace) (Ok bytes)

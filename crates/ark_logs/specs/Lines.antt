-- The words about logs and queues, as far as they are built.
use Rattle.std.specs.Prelude.{Bool, true, false}
use Rattle.ark_script.specs.Line as w
use Rattle.ark_script.specs.Line.{Line}

abbrev pub is_log_line : Line → Bool
is_log_line (w.log a s v) = true
is_log_line (w.queue a s v) = true
is_log_line (w.append a s bytes) = true
is_log_line (w.push a s bytes) = true
is_log_line (w.trim a s n) = true
is_log_line (w.pop a s) = true
is_log_line (w.close a s) = true
is_log_line (w.walk a s n) = true
is_log_line (w.poll a s) = true
is_log_line _ = false

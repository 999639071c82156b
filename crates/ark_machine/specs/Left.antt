-- What a line leaves of its machine where a device call failed.
use Rattle.std.specs.Prelude.{List}
use Rattle.ark_script.specs.Line as w
use Rattle.ark_script.specs.Line.{Line}
use Rattle.ark_machine.specs.Bytes.{padded}
use Rattle.ark_machine.specs.Machine.{Machine, serial_at, each_object, without}
use Rattle.ark_machine.specs.Row.{Ended, synced_by}
use Rattle.ark_machine.specs.Control.{lets_go}
use Rattle.ark_machine.specs.Areas.{block_written}

-- What is dropped is gone, a write that was tried has left its traces, and what is only looked at is as it was. Every other line
-- has made sure of what was written before, where its sync succeeded, and has done no more.
abbrev pub left_by : Line → List Ended → Machine → Machine
left_by (w.drop a x) ends m = synced_by ends (each_object (lets_go x (serial_at m x)) (without m x))
left_by (w.poke a s off bytes) ends m = block_written m s off (padded bytes) ends
left_by (w.peek a s off) ends m = m
left_by (w.walk a s n) ends m = m
left_by _ ends m = synced_by ends m

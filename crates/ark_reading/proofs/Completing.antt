-- What is of the form of a word is read.
use Rattle.std.proofs.Common.{◌≡◌, ℕ, List, Some, None, refl}
use Rattle.ark_script.specs.Arguments.{IsName, IsNumber}
use Rattle.ark_script.specs.Form.{AreArguments}
use Rattle.ark_script.specs.Line as w
use Rattle.ark_script.specs.Line.{Line}
use Rattle.ark_reading.specs.Shape.{line_read, read_pair, read_triple, read_count, read_length, read_range, read_queued, read_transfer, read_entry, read_write, read_nic, read_bare_app, read_sized_app, read_app, read_vsic, read_vnic, read_take, read_sendto, read_wire, read_tick}
use Rattle.ark_reading.specs.declared.word.PairWord.TheVariants as pair
use Rattle.ark_reading.specs.declared.word.TripleWord.TheVariants as triple
use Rattle.ark_reading.specs.declared.word.CountWord.TheVariants as count
use Rattle.ark_reading.specs.declared.word.LengthWord.TheVariants as length
use Rattle.ark_reading.specs.declared.word.RangeWord.TheVariants as range
use Rattle.ark_reading.specs.declared.word.QueueWord.TheVariants as queued
use Rattle.ark_reading.specs.declared.word.TransferWord.TheVariants as transfer
use Rattle.ark_reading.specs.declared.word.EntryWord.TheVariants as entry
use Rattle.ark_reading.specs.declared.word.WriteWord.TheVariants as write
use Rattle.ark_reading.proofs.Shaping.{pair_reads, triple_reads, count_reads, length_reads, range_reads, queued_reads, transfer_reads, entry_reads, write_reads}
use Rattle.ark_reading.proofs.Singling.{nic_reads, bare_app_reads, sized_app_reads, no_bare_app, vsic_reads, vnic_reads, vsa_complete, filter_complete, take_reads, sendto_reads, wire_reads, tick_reads}
use Rattle.ark_reading.proofs.WordOf.{kind_of_line}

pub complete : (asked : Line) (words : List (List ℕ)) → AreArguments asked words → line_read (kind_of_line asked) words ≡ Some asked
unfolding read_pair read_triple read_count read_length read_range read_queued read_transfer read_entry read_write read_nic read_bare_app read_sized_app read_app read_vsic read_vnic read_take read_sendto read_wire read_tick
complete (w.nic own) words h = rw (nic_reads.complete words (own.mac, own.ip, own.gateway) h) refl
complete (w.app a None) words h = rw (bare_app_reads.complete words a h) refl
complete (w.app a (Some f)) words h = rw (no_bare_app words (IsName a) (IsNumber 4 4096 f) h, sized_app_reads.complete words (a, f) h) refl
complete (w.vsic a v n) words h = rw (vsic_reads.complete words (a, v, n) h) refl
complete (w.vnic a v rx tx) words h = rw (vnic_reads.complete words (a, v, rx, tx) h) refl
complete (w.vsa a s n k) words h = vsa_complete words a s n k h
complete (w.grow a s n) words h = rw ((count_reads count.Grow).complete words (a, s, n) h) refl
complete (w.bind a v s) words h = rw ((triple_reads triple.Bind).complete words (a, v, s) h) refl
complete (w.unbind a v s) words h = rw ((triple_reads triple.Unbind).complete words (a, v, s) h) refl
complete (w.filter a f x) words h = filter_complete words a f x h
complete (w.assign a v f) words h = rw ((triple_reads triple.Assign).complete words (a, v, f) h) refl
complete (w.rate a r q b) words h = rw ((range_reads range.Rate).complete words (a, r, q, b) h) refl
complete (w.pace a v r s) words h = rw ((queued_reads queued.Pace).complete words (a, v, r, s) h) refl
complete (w.door a d) words h = rw ((pair_reads pair.Door).complete words (a, d) h) refl
complete (w.watch a v d s) words h = rw ((queued_reads queued.Watch).complete words (a, v, d, s) h) refl
complete (w.drop a x) words h = rw ((pair_reads pair.Drop).complete words (a, x) h) refl
complete (w.buf a b n) words h = rw ((count_reads count.Buf).complete words (a, b, n) h) refl
complete (w.fill a b off bytes) words h = rw ((write_reads write.Fill).complete words (a, b, off, bytes) h) refl
complete (w.show a b off len) words h = rw ((range_reads range.Show).complete words (a, b, off, len) h) refl
complete (w.copy a b c len) words h = rw ((length_reads length.Copy).complete words (a, b, c, len) h) refl
complete (w.free a b) words h = rw ((pair_reads pair.Free).complete words (a, b) h) refl
complete (w.peek a s off) words h = rw ((count_reads count.Peek).complete words (a, s, off) h) refl
complete (w.poke a s off bytes) words h = rw ((write_reads write.Poke).complete words (a, s, off, bytes) h) refl
complete (w.get a v s off count b) words h = rw ((transfer_reads transfer.Get).complete words (a, v, s, off, count, b) h) refl
complete (w.put a v s off count b) words h = rw ((transfer_reads transfer.Put).complete words (a, v, s, off, count, b) h) refl
complete (w.flush a v) words h = rw ((pair_reads pair.Flush).complete words (a, v) h) refl
complete (w.reap a v) words h = rw ((pair_reads pair.Reap).complete words (a, v) h) refl
complete (w.post a v b) words h = rw ((triple_reads triple.Post).complete words (a, v, b) h) refl
complete (w.send a v b len) words h = rw ((length_reads length.Send).complete words (a, v, b, len) h) refl
complete (w.take a v d) words h = rw (take_reads.complete words (a, v, d) h) refl
complete (w.sock a k v port) words h = rw ((length_reads length.Sock).complete words (a, k, v, port) h) refl
complete (w.sendto a k ip port bytes) words h = rw (sendto_reads.complete words (a, k, ip, port, bytes) h) refl
complete (w.recv a k) words h = rw ((pair_reads pair.Recv).complete words (a, k) h) refl
complete (w.look a d) words h = rw ((pair_reads pair.Look).complete words (a, d) h) refl
complete (w.log a s v) words h = rw ((triple_reads triple.Log).complete words (a, s, v) h) refl
complete (w.queue a s v) words h = rw ((triple_reads triple.Queue).complete words (a, s, v) h) refl
complete (w.append a s bytes) words h = rw ((entry_reads entry.Append).complete words (a, s, bytes) h) refl
complete (w.push a s bytes) words h = rw ((entry_reads entry.Push).complete words (a, s, bytes) h) refl
complete (w.trim a s n) words h = rw ((count_reads count.Trim).complete words (a, s, n) h) refl
complete (w.pop a s) words h = rw ((pair_reads pair.Pop).complete words (a, s) h) refl
complete (w.walk a s n) words h = rw ((count_reads count.Walk).complete words (a, s, n) h) refl
complete (w.poll a s) words h = rw ((pair_reads pair.Poll).complete words (a, s) h) refl
complete (w.settle a s) words h = rw ((pair_reads pair.Settle).complete words (a, s) h) refl
complete (w.close a s) words h = rw ((pair_reads pair.Close).complete words (a, s) h) refl
complete (w.dev a v) words h = rw ((pair_reads pair.Dev).complete words (a, v) h) refl
complete (w.wire bytes) words h = rw (wire_reads.complete words bytes h) refl
complete (w.tick n) words h = rw (tick_reads.complete words n h) refl

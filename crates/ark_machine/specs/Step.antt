-- The private machine's step: one row for each word.
use Rattle.std.specs.Prelude.{ℕ, ◌+◌, true, false, unwrap_or}
use Rattle.ark_base.specs.declared.kind.Kind.TheVariants as kind
use Rattle.ark_script.specs.Line as w
use Rattle.ark_script.specs.Line.{Line}
use Rattle.ark_script.specs.declared.said.Said.TheVariants as said
use Rattle.ark_machine.specs.Machine.{Machine}
use Rattle.ark_machine.specs.Row.{Row, Given, says}
use Rattle.ark_machine.specs.Control
use Rattle.ark_machine.specs.Areas
use Rattle.ark_machine.specs.Buffers
use Rattle.ark_machine.specs.Rates
use Rattle.ark_machine.specs.Cards
use Rattle.ark_machine.specs.Network
use Rattle.ark_machine.specs.Sockets
use Rattle.ark_machine.specs.Logs
use Rattle.ark_machine.specs.Polls
use Rattle.ark_machine.specs.Devices

-- the frames of an application that asks for no number
abbrev pub usual_frames : ℕ
usual_frames = 256

-- the machine after so many ticks
abbrev pub ticked : ℕ → Machine → Machine
ticked n m = record m { now = m.now + n }

-- the row of a line of this machine's application; lines of no application have none
unfoldable pub step : Machine → Line → Given → Row
step m (w.app a frames) g = Control.app m (unwrap_or frames usual_frames) g
step m (w.vsic a v size) g = Cards.vsic m v size g
step m (w.vnic a v rx tx) g = Network.vnic m v rx tx g
step m (w.vsa a s n k) g = Areas.vsa m s n k g
step m (w.grow a s n) g = Areas.grow m s n g
step m (w.bind a v s) g = Cards.bind m v s g
step m (w.unbind a v s) g = Cards.unbind m v s g
step m (w.filter a f rule) g = Network.filter m f rule g
step m (w.assign a v f) g = Network.assign m v f g
step m (w.rate a r q b) g = Rates.rate m r q b g
step m (w.pace a v r q) g = Rates.pace m v r q g
step m (w.door a d) g = Rates.door m d g
step m (w.watch a v d q) g = Rates.watch m v d q g
step m (w.drop a x) g = Control.drop m x g
step m (w.buf a b len) g = Buffers.buf m b len g
step m (w.fill a b off bytes) g = Buffers.fill m b off bytes g
step m (w.show a b off len) g = Buffers.show m b off len g
step m (w.copy a b c len) g = Buffers.copy m b c len g
step m (w.free a b) g = Buffers.free m b g
step m (w.peek a s off) g = Areas.peek m s off g
step m (w.poke a s off bytes) g = Areas.poke m s off bytes g
step m (w.get a v s off count b) g = Cards.post false m v s off count b g
step m (w.put a v s off count b) g = Cards.post true m v s off count b g
step m (w.flush a v) g = Cards.flush_card m v g
step m (w.reap a v) g = Cards.reap m v g
step m (w.post a v b) g = Network.post_rx m v b g
step m (w.send a v b len) g = Network.send m v b len g
step m (w.take a v d) g = Network.take_frame m v d g
step m (w.sock a k v port) g = Sockets.sock m k v port g
step m (w.sendto a k ip port payload) g = Sockets.sendto m k ip port payload g
step m (w.recv a k) g = Sockets.recv m k g
step m (w.look a d) g = Rates.look m d g
step m (w.log a s v) g = Logs.open_row kind.Log m s v g
step m (w.queue a s v) g = Logs.open_row kind.Queue m s v g
step m (w.append a s payload) g = Logs.append_row kind.Log m s payload g
step m (w.push a s payload) g = Logs.append_row kind.Queue m s payload g
step m (w.trim a s n) g = Logs.trim_row m s n g
step m (w.pop a s) g = Logs.pop_row m s g
step m (w.walk a s n) g = Logs.walk m s n g
step m (w.poll a s) g = Polls.poll m s g
step m (w.settle a s) g = Polls.settle m s g
step m (w.close a s) g = Logs.close m s g
step m (w.dev a v) g = Devices.dev m v g
step m (w.nic own) g = says m said.Ok
step m (w.wire frame) g = says m said.Ok
step m (w.tick n) g = says m said.Ok

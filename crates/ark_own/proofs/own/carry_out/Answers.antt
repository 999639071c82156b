use Rattle.std.proofs.Common.{refl, sym, [], arith}
use Rattle.std.proofs.lemmas.Bool.{false≢true}
use Rattle.ark_machine.specs.Step.{step}
use Rattle.ark_own.proofs.OfBytes.{short_digits}
use Rattle.ark_own.proofs.Steps.{no_other}
use Rattle.ark_own.proofs.Replies.{said_at, said_by}
use Rattle.ark_own.proofs.own.carry_out.Goals as goal

pub poke-requires : goal.poke-requires
poke-requires g c = record { short = short_digits c.in-Poke.hex.digits.now 512 c.in-Poke.hex.even (rw c.in-Poke.is at c.requires.ranges).1.1; inside = c.requires.inside }

pub returns-in-Poke-clause-acts : goal.returns-in-Poke-clause-acts
unfolding step
returns-in-Poke-clause-acts g c = rw c.in-Poke.is (said_by c.args.now _ _ _ (g.D.Disk.told c.poke.new.disk) _ _ _ _ _ c.args.grant c.poke.ensures.acts)

pub returns-in-Dev-clause-acts : goal.returns-in-Dev-clause-acts
unfolding step
returns-in-Dev-clause-acts g c = rw c.in-Dev.is (said_at c.args.now _ _ _ (g.D.Disk.told c.dev.new.disk) _ _ _ _ _ c.args.grant c.dev.ensures.acts)

pub returns-in-Buf-clause-acts : goal.returns-in-Buf-clause-acts
unfolding step
returns-in-Buf-clause-acts g c =
    let told = g.D.Disk.told c.args.disk.now in
    rw c.in-Buf.is (record { events = []; goes_on = g.met.D.Disk.goes_none c.args.disk.now; does = c.buf.ensures.acts told c.args.now })

pub buf-requires : goal.buf-requires
buf-requires g c = let within = rw c.in-Buf.is at c.requires.ranges in record { some = within.0; small = within.1 }

pub returns-in-Fill-clause-acts : goal.returns-in-Fill-clause-acts
unfolding step
returns-in-Fill-clause-acts g c =
    let told = g.D.Disk.told c.args.disk.now in
    rw c.in-Fill.is (record { events = []; goes_on = g.met.D.Disk.goes_none c.args.disk.now; does = c.fill.ensures.acts told c.args.grant c.args.now })

pub returns-in-Copy-clause-acts : goal.returns-in-Copy-clause-acts
unfolding step
returns-in-Copy-clause-acts g c =
    let told = g.D.Disk.told c.args.disk.now in
    rw c.in-Copy.is (record { events = []; goes_on = g.met.D.Disk.goes_none c.args.disk.now; does = c.copy.ensures.acts told c.args.grant c.args.now })

pub returns-in-Free-clause-acts : goal.returns-in-Free-clause-acts
unfolding step
returns-in-Free-clause-acts g c =
    let told = g.D.Disk.told c.args.disk.now in
    rw c.in-Free.is (record { events = []; goes_on = g.met.D.Disk.goes_none c.args.disk.now; does = c.free.ensures.acts told c.args.grant c.args.now })

pub returns-in-Vsic-clause-acts : goal.returns-in-Vsic-clause-acts
unfolding step
returns-in-Vsic-clause-acts g c =
    let told = g.D.Disk.told c.args.disk.now in
    rw c.in-Vsic.is (record { events = []; goes_on = g.met.D.Disk.goes_none c.args.disk.now; does = c.vsic.ensures.acts told c.args.now })

pub returns-in-Vsic-clause-enough : goal.returns-in-Vsic-clause-enough
returns-in-Vsic-clause-enough g c = rw c.in-Vsic.is (λ no. absurd (false≢true (sym no)))

pub vsic-requires : goal.vsic-requires
vsic-requires g c = let within = rw c.in-Vsic.is at c.requires.ranges in let two = within.0.0 in record { some = omega (arith, two); small = within.0.1 }

pub returns-in-Vnic-clause-acts : goal.returns-in-Vnic-clause-acts
unfolding step
returns-in-Vnic-clause-acts g c =
    let told = g.D.Disk.told c.args.disk.now in
    rw c.in-Vnic.is (record { events = []; goes_on = g.met.D.Disk.goes_none c.args.disk.now; does = c.vnic.ensures.acts told c.args.now })

pub returns-in-Vnic-clause-enough : goal.returns-in-Vnic-clause-enough
returns-in-Vnic-clause-enough g c = rw c.in-Vnic.is (λ no. absurd (false≢true (sym no)))

pub vnic-requires : goal.vnic-requires
vnic-requires g c = let within = rw c.in-Vnic.is at c.requires.ranges in record { rx = within.0.0.1; tx = within.1.0.1 }

pub returns-in-Post-clause-acts : goal.returns-in-Post-clause-acts
unfolding step
returns-in-Post-clause-acts g c =
    let told = g.D.Disk.told c.args.disk.now in
    rw c.in-Post.is (record { events = []; goes_on = g.met.D.Disk.goes_none c.args.disk.now; does = c.post.ensures.acts told c.args.grant c.args.now })

pub returns-in-Take-clause-acts : goal.returns-in-Take-clause-acts
unfolding step
returns-in-Take-clause-acts g c =
    let told = g.D.Disk.told c.args.disk.now in
    rw c.in-Take.is (record { events = []; goes_on = g.met.D.Disk.goes_none c.args.disk.now; does = c.take.ensures.acts told c.args.grant c.args.now })

pub returns-in-Flush-clause-acts : goal.returns-in-Flush-clause-acts
unfolding step
returns-in-Flush-clause-acts g c =
    let told = g.D.Disk.told c.args.disk.now in
    rw c.in-Flush.is (record { events = []; goes_on = g.met.D.Disk.goes_none c.args.disk.now; does = c.flush.ensures.acts told c.args.grant c.args.now })

pub returns-in-Bind-clause-acts : goal.returns-in-Bind-clause-acts
unfolding step
returns-in-Bind-clause-acts g c =
    let told = g.D.Disk.told c.args.disk.now in
    rw c.in-Bind.is (record { events = []; goes_on = g.met.D.Disk.goes_none c.args.disk.now; does = c.bind.ensures.acts told c.args.grant c.args.now })

pub returns-in-Unbind-clause-acts : goal.returns-in-Unbind-clause-acts
unfolding step
returns-in-Unbind-clause-acts g c =
    let told = g.D.Disk.told c.args.disk.now in
    rw c.in-Unbind.is (record { events = []; goes_on = g.met.D.Disk.goes_none c.args.disk.now; does = c.unbind.ensures.acts told c.args.grant c.args.now })

pub returns-in-Get-clause-acts : goal.returns-in-Get-clause-acts
unfolding step
returns-in-Get-clause-acts g c =
    let told = g.D.Disk.told c.args.disk.now in
    rw c.in-Get.is (record { events = []; goes_on = g.met.D.Disk.goes_none c.args.disk.now; does = c.get.ensures.acts told c.args.grant c.args.now })

pub returns-in-Put-clause-acts : goal.returns-in-Put-clause-acts
unfolding step
returns-in-Put-clause-acts g c =
    let told = g.D.Disk.told c.args.disk.now in
    rw c.in-Put.is (record { events = []; goes_on = g.met.D.Disk.goes_none c.args.disk.now; does = c.put.ensures.acts told c.args.grant c.args.now })

pub returns-in-Reap-clause-acts : goal.returns-in-Reap-clause-acts
unfolding step
returns-in-Reap-clause-acts g c =
    let told = g.D.Disk.told c.args.disk.now in
    rw c.in-Reap.is (record { events = []; goes_on = g.met.D.Disk.goes_none c.args.disk.now; does = c.reap.ensures.acts told c.args.grant c.args.now })

pub returns-in-Door-clause-acts : goal.returns-in-Door-clause-acts
unfolding step
returns-in-Door-clause-acts g c =
    let told = g.D.Disk.told c.args.disk.now in
    rw c.in-Door.is (record { events = []; goes_on = g.met.D.Disk.goes_none c.args.disk.now; does = c.door.ensures.acts told c.args.now })

pub returns-in-Watch-clause-acts : goal.returns-in-Watch-clause-acts
unfolding step
returns-in-Watch-clause-acts g c =
    let told = g.D.Disk.told c.args.disk.now in
    rw c.in-Watch.is (record { events = []; goes_on = g.met.D.Disk.goes_none c.args.disk.now; does = c.watch.ensures.acts told c.args.grant c.args.now })

pub returns-in-Look-clause-acts : goal.returns-in-Look-clause-acts
unfolding step
returns-in-Look-clause-acts g c =
    let told = g.D.Disk.told c.args.disk.now in
    rw c.in-Look.is (record { events = []; goes_on = g.met.D.Disk.goes_none c.args.disk.now; does = c.look.ensures.acts told c.args.grant c.args.now })

pub returns-in-Rate-clause-acts : goal.returns-in-Rate-clause-acts
unfolding step
returns-in-Rate-clause-acts g c =
    let told = g.D.Disk.told c.args.disk.now in
    rw c.in-Rate.is (record { events = []; goes_on = g.met.D.Disk.goes_none c.args.disk.now; does = c.rate.ensures.acts told c.args.now })

pub returns-in-Pace-clause-acts : goal.returns-in-Pace-clause-acts
unfolding step
returns-in-Pace-clause-acts g c =
    let told = g.D.Disk.told c.args.disk.now in
    rw c.in-Pace.is (record { events = []; goes_on = g.met.D.Disk.goes_none c.args.disk.now; does = c.pace.ensures.acts told c.args.grant })

pub fill-requires : goal.fill-requires
fill-requires g c =
    let within = rw c.in-Fill.is at c.requires.ranges in
    let short = short_digits c.in-Fill.hex.digits.now 66000 c.in-Fill.hex.even within.1.1 in
    record { near = within.0.1; short = omega (arith, short) }

pub copy-requires : goal.copy-requires
copy-requires g c = let within = rw c.in-Copy.is at c.requires.ranges in record { some = within.0; short = within.1 }

pub get-requires : goal.get-requires
get-requires g c = let within = rw c.in-Get.is at c.requires.ranges in let far = within.0.1 in record { far = omega (arith, far); some = within.1.0; few = within.1.1 }

pub put-requires : goal.put-requires
put-requires g c = let within = rw c.in-Put.is at c.requires.ranges in let far = within.0.1 in record { far = omega (arith, far); some = within.1.0; few = within.1.1 }

pub unreachable-requires : goal.unreachable-requires
unreachable-requires g c =
    let none = c.in_default in
    no_other c.args.step.now c.requires.own (λ a s off same. false≢true (sym (rw same at c.requires.bare))) none.not-Poke none.not-Buf (λ a b off len same. false≢true (sym (rw same at c.requires.bare))) none.not-Fill none.not-Copy none.not-Free none.not-Vsic none.not-Vnic none.not-Bind none.not-Unbind none.not-Get none.not-Put none.not-Flush none.not-Reap none.not-Post none.not-Take none.not-Dev none.not-Door none.not-Watch none.not-Look none.not-Rate none.not-Pace

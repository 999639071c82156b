use Rattle.std.proofs.Common.{[], sym}
use Rattle.std.proofs.lemmas.Bool.{false≢true}
use Rattle.ark_machine.specs.Step.{step}
use Rattle.ark_own.proofs.OfBytes.{short_digits}
use Rattle.ark_own.proofs.Replies.{grants}
use Rattle.ark_logs.proofs.logs.act.Goals as goal

pub append-said-requires-clause-short : goal.append-said-requires-clause-short
append-said-requires-clause-short g c = short_digits c.in-Append.hex.digits.now 32768 c.in-Append.hex.even (rw c.in-Append.is at c.requires.ranges).1

pub append-said-requires-in-Push-clause-short : goal.append-said-requires-in-Push-clause-short
append-said-requires-in-Push-clause-short g c = short_digits c.in-Push.hex.digits.now 32768 c.in-Push.hex.even (rw c.in-Push.is at c.requires.ranges).1

pub returns-in-Append-clause-acts : goal.returns-in-Append-clause-acts
unfolding step
returns-in-Append-clause-acts g c =
    let told = g.D.Disk.told c.args.disk.now in
    rw c.in-Append.is (record { events = []; goes_on = g.met.D.Disk.goes_none c.args.disk.now; does = λ grant now. grants now told c.args.app.now _ _ [] _ _ _ _ grant c.say-in-Append.ensures.said c.say-in-Append.ensures.none (c.append-said.ensures.acts told grant now) })

pub returns-in-Push-clause-acts : goal.returns-in-Push-clause-acts
unfolding step
returns-in-Push-clause-acts g c =
    let told = g.D.Disk.told c.args.disk.now in
    rw c.in-Push.is (record { events = []; goes_on = g.met.D.Disk.goes_none c.args.disk.now; does = λ grant now. grants now told c.args.app.now _ _ [] _ _ _ _ grant c.say-in-Push.ensures.said c.say-in-Push.ensures.none (c.append-said-in-Push.ensures.acts told grant now) })

pub returns-in-Trim-clause-acts : goal.returns-in-Trim-clause-acts
unfolding step
returns-in-Trim-clause-acts g c =
    let told = g.D.Disk.told c.args.disk.now in
    rw c.in-Trim.is (record { events = []; goes_on = g.met.D.Disk.goes_none c.args.disk.now; does = λ grant now. grants now told c.args.app.now _ _ [] _ _ _ _ grant c.say-in-Trim.ensures.said c.say-in-Trim.ensures.none (c.trim-said.ensures.acts told grant now) })

pub returns-in-Pop-clause-acts : goal.returns-in-Pop-clause-acts
unfolding step
returns-in-Pop-clause-acts g c =
    let told = g.D.Disk.told c.args.disk.now in
    rw c.in-Pop.is (record { events = []; goes_on = g.met.D.Disk.goes_none c.args.disk.now; does = λ grant now. grants now told c.args.app.now _ _ [] _ _ _ _ grant c.say-in-Pop.ensures.said c.say-in-Pop.ensures.none (c.pop-said.ensures.acts told grant now) })

pub returns-in-Close-clause-acts : goal.returns-in-Close-clause-acts
unfolding step
returns-in-Close-clause-acts g c =
    let told = g.D.Disk.told c.args.disk.now in
    rw c.in-Close.is (record { events = []; goes_on = g.met.D.Disk.goes_none c.args.disk.now; does = λ grant now. grants now told c.args.app.now _ _ [] _ _ _ _ grant c.say-in-Close.ensures.said c.say-in-Close.ensures.none (c.close-said.ensures.acts told grant now) })

pub returns-in-Walk-clause-acts : goal.returns-in-Walk-clause-acts
unfolding step
returns-in-Walk-clause-acts g c = rw c.in-Walk.is c.walk.ensures.acts

pub returns-in-Log-clause-acts : goal.returns-in-Log-clause-acts
unfolding step
returns-in-Log-clause-acts g c =
    let t = c.open-said.ensures.acts in
    rw (c.in-Log.is, c.say.ensures.said, c.say.ensures.none) (record { events = t.events; goes_on = t.goes_on; does = t.does })

pub returns-in-Queue-clause-acts : goal.returns-in-Queue-clause-acts
unfolding step
returns-in-Queue-clause-acts g c =
    let t = c.open-said-in-Queue.ensures.acts in
    rw (c.in-Queue.is, c.say-in-Queue.ensures.said, c.say-in-Queue.ensures.none) (record { events = t.events; goes_on = t.goes_on; does = t.does })

pub returns-in-Log-clause-enough : goal.returns-in-Log-clause-enough
returns-in-Log-clause-enough g c = rw c.in-Log.is (λ no. absurd (false≢true (sym no)))

pub returns-in-Queue-clause-enough : goal.returns-in-Queue-clause-enough
returns-in-Queue-clause-enough g c = rw c.in-Queue.is (λ no. absurd (false≢true (sym no)))

pub returns-in-Poll-clause-acts : goal.returns-in-Poll-clause-acts
unfolding step
returns-in-Poll-clause-acts g c = rw c.in-Poll.is (record { events = []; goes_on = g.met.D.Disk.goes_none c.args.disk.now; does = c.poll.ensures.acts (g.D.Disk.told c.args.disk.now) })

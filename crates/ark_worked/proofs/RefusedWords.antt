-- A line of each word that is refused, evaluated: the lines behind it are answered as if it had not been there.
use Rattle.std.proofs.Common.{◌≡◌, ℕ, true, Some, List, [], ◌∷◌, ◌++◌, codes, replicate, refl}
use Rattle.std.specs.Fmt.{digits}
use Rattle.ark_base.specs.declared.kind.Kind.TheVariants as kind
use Rattle.ark_filters.specs.declared.filter.Direction.TheVariants.{Rx}
use Rattle.ark_filters.specs.declared.filter.Proto.TheVariants.{Eth}
use Rattle.ark_script.specs.Line as w
use Rattle.ark_script.specs.Line.{Line}
use Rattle.ark_script.specs.declared.step.Side.TheVariants as side
use Rattle.ark_machine.specs.Row.{answer}
use Rattle.ark_machine.specs.Step.{step}
use Rattle.ark_machine.specs.System.{fresh_system}
use Rattle.ark_worked.proofs.Playing.{Played, replies, performed}
use Rattle.ark_worked.proofs.Scripts.{quiet, app, area, granting, opening_empty}
use Rattle.ark_worked.proofs.Rules.{own_at, all_services, rule}
use Rattle.ark_worked.proofs.Labels.{a, f, l, m, n, s, u, v, x}

abbrev given_nic : Played
given_nic = quiet (w.nic (own_at (10 ∷ 0 ∷ 0 ∷ 1 ∷ [])))

-- a raw area, a log that is open on a card, another card, and a network card with a filter and a posted buffer
abbrev held : List Played
held =
    given_nic
    ∷ quiet (w.app a (Some 4))
    ∷ (w.vsa a s 2 kind.Raw, granting (area 1 a s kind.Raw 129 2))
    ∷ (w.vsa a l 2 kind.Log, granting (area 2 a l kind.Log 131 2))
    ∷ quiet (w.vsic a u 2) ∷ (w.log a l u, opening_empty 131 kind.Log)
    ∷ quiet (w.vsic a v 2)
    ∷ quiet (w.vnic a n 2 2) ∷ quiet (w.filter a f (rule Rx Eth all_services))
    ∷ quiet (w.buf a m 14) ∷ quiet (w.post a n m)
    ∷ []

abbrev granted : List Played
granted =
    given_nic
    ∷ app a
    ∷ quiet (w.vsic a v 2) ∷ quiet (w.vnic a v 2 2) ∷ quiet (w.vsa a s 1 kind.Raw) ∷ quiet (w.vsa a x 68 kind.Raw)
    ∷ quiet (w.grow a l 1) ∷ quiet (w.grow a s 68)
    ∷ quiet (w.bind a u s) ∷ quiet (w.unbind a u s)
    ∷ quiet (w.filter a f (rule Rx Eth all_services)) ∷ quiet (w.filter a x (rule Rx Eth all_services)) ∷ quiet (w.assign a v f)
    ∷ quiet (w.rate a s 1 1) ∷ quiet (w.pace a v (Some s) side.Io) ∷ quiet (w.door a s) ∷ quiet (w.watch a v (Some s) side.Io)
    ∷ quiet (w.drop a m) ∷ quiet (w.drop a l)
    ∷ []

abbrev granted_said : List (List ℕ)
granted_said =
    codes "refused 4 name taken"
    ∷ codes "refused 4 name taken"
    ∷ codes "refused 4 name taken" ∷ codes "refused 4 name taken" ∷ codes "refused 4 name taken" ∷ codes "refused 10 no space"
    ∷ codes "refused 6 wrong kind" ∷ codes "refused 10 no space"
    ∷ codes "refused 16 busy" ∷ codes "refused 16 busy"
    ∷ codes "refused 4 name taken" ∷ codes "refused 12 overlap a f" ∷ codes "refused 6 wrong kind"
    ∷ codes "refused 4 name taken" ∷ codes "refused 6 wrong kind" ∷ codes "refused 4 name taken" ∷ codes "refused 6 wrong kind"
    ∷ codes "refused 6 wrong kind" ∷ codes "refused 16 busy"
    ∷ []

abbrev used : List Played
used =
    quiet (w.buf a x 1537) ∷ quiet (w.fill a m 0 (1 ∷ [])) ∷ quiet (w.show a m 0 1) ∷ quiet (w.copy a m m 1) ∷ quiet (w.free a m)
    ∷ quiet (w.peek a s 2) ∷ quiet (w.poke a s 2 (1 ∷ []))
    ∷ quiet (w.get a v l 0 1 m) ∷ quiet (w.put a v s 0 1 m) ∷ quiet (w.flush a u) ∷ quiet (w.reap a u)
    ∷ quiet (w.post a n m) ∷ quiet (w.send a n m 14) ∷ quiet (w.take a v Rx)
    ∷ quiet (w.sock a x n 7) ∷ quiet (w.sendto a n (10 ∷ 0 ∷ 0 ∷ 2 ∷ []) 7 []) ∷ quiet (w.recv a n) ∷ quiet (w.look a n)
    ∷ quiet (w.log a l v) ∷ quiet (w.queue a l v) ∷ quiet (w.append a l (replicate 485 0)) ∷ quiet (w.push a l []) ∷ quiet (w.trim a l 2) ∷ quiet (w.pop a l) ∷ quiet (w.walk a l 1)
    ∷ quiet (w.poll a s) ∷ quiet (w.settle a s) ∷ quiet (w.close a s) ∷ quiet (w.dev a s)
    ∷ quiet (w.peek (codes "b") s 0)
    ∷ []

abbrev used_said : List (List ℕ)
used_said =
    codes "refused 14 no buffer" ∷ replicate 4 (codes "refused 15 lent")
    ++ codes "refused 9 out of range" ∷ codes "refused 9 out of range"
    ∷ codes "refused 6 wrong kind" ∷ codes "refused 9 out of range" ∷ codes "refused 16 busy" ∷ codes "refused 16 busy"
    ∷ codes "refused 15 lent" ∷ codes "refused 15 lent" ∷ codes "refused 6 wrong kind"
    ∷ codes "refused 16 busy" ∷ codes "refused 6 wrong kind" ∷ codes "refused 6 wrong kind" ∷ codes "refused 6 wrong kind"
    ∷ codes "refused 16 busy" ∷ codes "refused 6 wrong kind" ∷ codes "refused 18 log full" ∷ codes "refused 6 wrong kind" ∷ codes "refused 19 no entry" ∷ codes "refused 6 wrong kind" ∷ codes "refused 19 no entry"
    ∷ replicate 4 (codes "refused 6 wrong kind")
    ++ codes "refused 3 no application"
    ∷ []

abbrev held_said : List (List ℕ)
held_said = replicate 5 (codes "ok") ++ codes "ok 1 0" ∷ replicate 5 (codes "ok")

pub granted-replies : replies (fresh_system 200) (held ++ granted) ≡ held_said ++ granted_said
unfolding step answer digits
granted-replies = refl

pub used-replies : replies (fresh_system 200) (held ++ used) ≡ held_said ++ used_said
unfolding step answer digits
used-replies = refl

-- none of them makes a device call
pub refused-performed : performed (fresh_system 200) (held ++ (granted ++ used)) ≡ true
unfolding step answer
refused-performed = refl

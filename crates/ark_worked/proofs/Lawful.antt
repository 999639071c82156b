-- The laws of the definitions at worked scripts: each premise is met.
use Rattle.std.proofs.Common.{◌≡◌, ℕ, false, List, [], ◌∷◌, ◌++◌, map, codes, refl}
use Rattle.std.specs.Fmt.{digits}
use Rattle.std.specs.Prelude.{Ok, Some, None, Contains}
use Rattle.hex.specs.Hex.{encode_with}
use Rattle.ark_base.specs.declared.kind.Kind.TheVariants as kind
use Rattle.ark_base.specs.declared.refusal.Refusal.TheVariants as r
use Rattle.ark_media.specs.Journal.{Out}
use Rattle.ark_packet.specs.declared.own.Own.{Own}
use Rattle.ark_filters.specs.declared.filter.Direction.{Direction}
use Rattle.ark_filters.specs.declared.filter.Direction.TheVariants as direction
use Rattle.ark_filters.specs.declared.filter.Proto.TheVariants as proto
use Rattle.ark_filters.specs.declared.filter.Filter.{Filter}
use Rattle.ark_script.specs.Line as w
use Rattle.ark_script.specs.Line.{Line}
use Rattle.ark_script.specs.declared.step.Side.TheVariants as side
use Rattle.ark_machine.specs.Row.{answer, synced_by}
use Rattle.ark_machine.specs.Step.{step}
use Rattle.ark_machine.specs.System.{System, fresh_system, machine_of, line_turn}
use Rattle.ark_machine.specs.Follow.{ended, ends_of}
use Rattle.ark_machine.specs.Replies.{Answers, EachAnswers}
use Rattle.ark_machine.specs.Sending.{IsLetOut, AllKeep}
use Rattle.ark_machine.specs.Paced.{StandsPaced}
use Rattle.ark_machine.specs.Plane.{blocks_at}
use Rattle.ark_machine.specs.Confined.{readable}
use Rattle.ark_machine.specs.Grants.{GrantsApart}
use Rattle.ark_machine.specs.Private.{Play, inputs_of, replies_to, private_replies}
use Rattle.ark_machine.specs.Told.{plays_of, outputs_to, text_of}
use Rattle.ark_worked.proofs.Playing.{Played, turn_played, replies, played}
use Rattle.ark_worked.proofs.Scripts.{quiet, app, area, granting}
use Rattle.ark_worked.proofs.Areas.{failed_grant}
use Rattle.ark_laws.proofs.Granted.{line_apart}
use Rattle.ark_laws.proofs.Owned.{no_other_read}
use Rattle.ark_laws.proofs.Sent.{line_sends, line_paced, paced_keep}
use Rattle.ark_laws.proofs.Privacy.{others_left, replies_alike}
use Rattle.ark_laws.proofs.Told.{outputs_private}
use Rattle.ark_laws.proofs.Damaged.{refused_unchanged}
use Rattle.ark_laws.proofs.Faults.{gain_refused}
use Rattle.ark_machine.proofs.Runs.{each_more}
use Rattle.ark_worked.proofs.Labels.{a, b, v, f, q, m, n, s}

abbrev own : Own
own = record { mac = 2 ∷ 0 ∷ 0 ∷ 0 ∷ 0 ∷ 1 ∷ []; ip = 10 ∷ 0 ∷ 0 ∷ 1 ∷ []; gateway = 2 ∷ 0 ∷ 0 ∷ 0 ∷ 0 ∷ 2 ∷ [] }

-- all frames of this direction
abbrev every : Direction → Filter
every d = record { direction = d; proto = proto.Eth; peers = record { count = 0; items = [] }; services = record { count = 0; items = [] } }

-- to the gateway, of a type of its own, with one byte
abbrev pub frame : List ℕ
frame = own.gateway ++ (own.mac ++ (136 ∷ 181 ∷ 7 ∷ []))

-- Frames and rates.

-- two frames of 15 bytes, at 10 bytes a tick and 20 of a burst: the second one is held until a tick has passed
abbrev pub two_posted : List Played
two_posted =
    quiet (w.nic own)
    ∷ app a
    ∷ quiet (w.vnic a v 4 4)
    ∷ quiet (w.filter a f (every direction.Tx))
    ∷ quiet (w.assign a v f)
    ∷ quiet (w.rate a q 10 20)
    ∷ quiet (w.pace a v (Some q) side.Tx)
    ∷ quiet (w.buf a m 64)
    ∷ quiet (w.buf a n 64)
    ∷ quiet (w.fill a m 0 frame)
    ∷ quiet (w.fill a n 0 frame)
    ∷ quiet (w.send a v m 15)
    ∷ quiet (w.send a v n 15)
    ∷ []

abbrev two_frames : List Played
two_frames = two_posted ++ quiet (w.dev a v) ∷ quiet (w.dev a v) ∷ quiet (w.tick 1) ∷ []

pub two_frames-replies : replies (fresh_system 200) (two_frames ++ quiet (w.dev a v) ∷ [])
    ≡ codes "ok" ∷ codes "ok" ∷ codes "ok" ∷ codes "ok" ∷ codes "ok" ∷ codes "ok" ∷ codes "ok" ∷ codes "ok" ∷ codes "ok" ∷ codes "ok" ∷ codes "ok" ∷ codes "ok" ∷ codes "ok"
    ∷ codes "sent 02000000000202000000000188b507" ∷ codes "held" ∷ codes "ok 1" ∷ codes "sent 02000000000202000000000188b507" ∷ []
unfolding step answer encode_with digits
two_frames-replies = refl

abbrev sending : System
sending = played (fresh_system 200) two_frames

-- the frame that goes out was let out
pub sends : IsLetOut sending (Ok (w.dev a v)) frame
unfolding step answer
sends = line_sends sending (w.dev a v) [] false refl

played_paced : (t : System) (ps : List Played) → StandsPaced t → StandsPaced (played t ps)
played_paced t [] h = h
played_paced t (p ∷ ps) h = played_paced (turn_played t p).after ps (line_paced t p.0 (ends_of p.1) false h)

-- its card's passes, of which there are some, keep the rate
pub paced : StandsPaced (played (fresh_system 200) (two_frames ++ quiet (w.dev a v) ∷ []))
paced = played_paced (fresh_system 200) (two_frames ++ quiet (w.dev a v) ∷ []) tt

pub keep : AllKeep (played (fresh_system 200) (two_frames ++ quiet (w.dev a v) ∷ []))
keep = paced_keep (played (fresh_system 200) (two_frames ++ quiet (w.dev a v) ∷ [])) paced

-- Grants.

-- areas of two applications
abbrev two_areas : List Played
two_areas =
    app a
    ∷ app b
    ∷ (w.vsa a s 2 kind.Raw, granting (area 1 a s kind.Raw 129 2))
    ∷ (w.vsa b s 2 kind.Raw, granting (area 2 b s kind.Raw 131 2))
    ∷ []

abbrev shared : System
shared = played (fresh_system 200) two_areas

played_apart : (t : System) (ps : List Played) → GrantsApart t.plane → GrantsApart (played t ps).plane
played_apart t [] h = h
played_apart t (p ∷ ps) h = played_apart (turn_played t p).after ps (line_apart t p.0 (ends_of p.1) false h)

pub both_granted : (blocks_at shared.plane a s ≡ 129 ∷ 130 ∷ []) × (blocks_at shared.plane b s ≡ 131 ∷ 132 ∷ [])
unfolding step answer
both_granted = (refl, refl)

-- a look at the one reads nothing of the other
pub not_read : (k : ℕ) → Contains (readable shared (w.peek a s 0)) k → Contains (blocks_at shared.plane b s) k → ⊥
not_read k = no_other_read shared (w.peek a s 0) a b s k (played_apart (fresh_system 200) two_areas (record { fit = tt; apart = tt })) refl refl

-- Privacy.

abbrev plain : Line → Play
plain line = record { line = line; ends = []; memory = false }

-- what application a does, with a frame that comes to its card
abbrev alone : List Play
alone =
    plain (w.nic own)
    ∷ plain (w.app a (Some 4))
    ∷ plain (w.vnic a v 2 2)
    ∷ plain (w.filter a f (every direction.Rx))
    ∷ plain (w.assign a v f)
    ∷ plain (w.buf a m 64)
    ∷ plain (w.post a v m)
    ∷ plain (w.wire (own.mac ++ (own.gateway ++ (136 ∷ 181 ∷ 7 ∷ []))))
    ∷ plain (w.take a v direction.Rx)
    ∷ plain (w.show a m 0 15)
    ∷ []

-- the same, with lines of application b in between
abbrev beside : List Play
beside =
    plain (w.nic own)
    ∷ plain (w.app b None)
    ∷ plain (w.app a (Some 4))
    ∷ plain (w.vnic b v 1 1)
    ∷ plain (w.vnic a v 2 2)
    ∷ plain (w.filter a f (every direction.Rx))
    ∷ plain (w.filter b f (every direction.Tx))
    ∷ plain (w.assign b v f)
    ∷ plain (w.assign a v f)
    ∷ plain (w.buf a m 64)
    ∷ plain (w.post a v m)
    ∷ plain (w.buf b m 512)
    ∷ plain (w.post b v m)
    ∷ plain (w.wire (own.mac ++ (own.gateway ++ (136 ∷ 181 ∷ 7 ∷ []))))
    ∷ plain (w.take b v direction.Rx)
    ∷ plain (w.take a v direction.Rx)
    ∷ plain (w.drop b f)
    ∷ plain (w.show a m 0 15)
    ∷ []

same_inputs : inputs_of a (fresh_system 200) alone ≡ inputs_of a (fresh_system 200) beside
unfolding step answer
same_inputs = refl

-- both tell application a the same
pub same_replies : replies_to a (fresh_system 200) alone ≡ replies_to a (fresh_system 200) beside
same_replies = replies_alike a (fresh_system 200) (fresh_system 200) alone beside refl same_inputs

-- that a line of b leaves a's machine is no empty law: a has one
pub other_left : machine_of (line_turn sending (w.app b None) [] false).after a ≡ machine_of sending a
other_left = others_left sending (w.app b None) [] false a b refl refl

-- Refusals.

-- a buffer that a descriptor has is lent
pub lent_spared : (line_turn sending (w.fill a n 0 frame) [] false).after ≡ sending
unfolding step answer
lent_spared = refused_unchanged sending (w.fill a n 0 frame) [] false r.Lent refl refl

-- an area whose last sync fails is not granted
pub grant_lost : machine_of (line_turn sending (w.vsa a s 2 kind.Raw) (ends_of failed_grant) false).after a ≡ synced_by (ends_of failed_grant) (machine_of sending a)
unfolding step answer
grant_lost = gain_refused sending a (w.vsa a s 2 kind.Raw) (ends_of failed_grant) false refl refl refl

-- Runs.

made : Answers (fresh_system 200) (Ok (w.app a None)) (Out (codes "ok" ++ 10 ∷ []) ∷ [])
unfolding step answer
made = record { output = refl; calls = ended; memory = tt }

pub one_line : EachAnswers (fresh_system 200) (Ok (w.app a None) ∷ []) ((Out (codes "ok" ++ 10 ∷ []) ∷ []) ∷ [])
one_line = each_more (fresh_system 200) [] [] (Ok (w.app a None)) (Out (codes "ok" ++ 10 ∷ []) ∷ []) tt made

-- what is put out for the application
pub one_output : outputs_to a (fresh_system 200) (Ok (w.app a None) ∷ []) ((Out (codes "ok" ++ 10 ∷ []) ∷ []) ∷ [])
    ≡ map text_of (private_replies a (machine_of (fresh_system 200) a) (inputs_of a (fresh_system 200) (plays_of (Ok (w.app a None) ∷ []) ((Out (codes "ok" ++ 10 ∷ []) ∷ []) ∷ []))))
one_output = outputs_private a (fresh_system 200) (Ok (w.app a None) ∷ []) ((Out (codes "ok" ++ 10 ∷ []) ∷ []) ∷ []) one_line

pub one_output-is : outputs_to a (fresh_system 200) (Ok (w.app a None) ∷ []) ((Out (codes "ok" ++ 10 ∷ []) ∷ []) ∷ []) ≡ (codes "ok" ++ 10 ∷ []) ∷ []
unfolding step answer
one_output-is = refl

use Rattle.std.proofs.Common.{◌≡◌, ◌+◌, length, refl, ap, ◌∙◌, subst}
use Rattle.ark_region.specs.Frames.{IsFreeRun, IsTaken, frames_of}
use Rattle.ark_udp.specs.Sent.{HasNoPlace, IsPosted, frame_from, reaped, space_reaped}
use Rattle.ark_udp.proofs.Posting.{not_full, posting, is_posted}
use Rattle.ark_udp.proofs.sockets.Sockets.send_to.Goals as goal

pub returns-in_default-clause-no_buffer : goal.returns-in_default-clause-no_buffer
returns-in_default-clause-no_buffer c =
    let q = c.args.vnic.now.tx in
    let space : c.reap.new.region ≡ space_reaped q c.args.region.now = c.reap.ensures.space ∙ ap (λ x. space_reaped x c.args.region.now) c.tx_mut.ensures.value in
    let ring : c.tx.result.now ≡ reaped q = c.tx.ensures ∙ c.reap.ensures.ring ∙ ap reaped c.tx_mut.ensures.value in (
      λ e. (
        not_full q c.tx.result.now c.is_full.result ring c.if-is_full.false c.is_full.ensures,
        subst (λ r. HasNoPlace r.taken (42 + length c.args.payload.now)) space c.in_default.ensures.none,
      ),
      λ h. refl,
    )

pub returns-clause-no_buffer : goal.returns-clause-no_buffer
returns-clause-no_buffer c =
    let q = c.args.vnic.now.tx in
    let space : c.reap.new.region ≡ space_reaped q c.args.region.now = c.reap.ensures.space ∙ ap (λ x. space_reaped x c.args.region.now) c.tx_mut.ensures.value in (
      λ e. cc,
      λ h.
          absurd (h.1 c.in-Some.buf.start (subst (λ r. IsFreeRun (IsTaken r.taken) (length r.taken) (frames_of (42 + length c.args.payload.now)) c.in-Some.buf.start) space c.in-Some.ensures.place.here)),
    )

pub returns-clause-ok : goal.returns-clause-ok
returns-clause-ok c =
    let q = c.args.vnic.now.tx in
    let b = c.in-Some.buf in
    let frame = frame_from c.args.own.now c.args.from_port c.args.to c.args.payload.now in
    let space : c.reap.new.region ≡ space_reaped q c.args.region.now = c.reap.ensures.space ∙ ap (λ x. space_reaped x c.args.region.now) c.tx_mut.ensures.value in
    let ring : c.tx_mut-2.result.now ≡ reaped q = c.tx_mut-2.ensures.value ∙ c.reap.ensures.ring ∙ ap reaped c.tx_mut.ensures.value in
    subst (λ r. IsPosted frame r c.write_frame.new.region (reaped q) c.post.new.ring) space
    (is_posted frame c.reap.new.region c.take.new.self c.write_frame.new.region (reaped q) c.post.new.ring b (42 + length c.args.payload.now) c.in-Some.ensures.len c.write_frame.ensures.frame
    c.in-Some.ensures.place c.in-Some.ensures.lies c.in-Some.ensures.taken c.in-Some.ensures.clear c.in-Some.ensures.others c.write_frame.ensures.wrote
    (c.post.ensures ∙ ap (posting b) ring))

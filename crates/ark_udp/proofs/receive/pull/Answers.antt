use Rattle.std.proofs.Common.{◌≡◌, ◌++◌, ◌∷◌, [], length, drop, refl, sym, ap, ◌∙◌, subst, arith, length-append}
use Rattle.std.specs.Prelude.{All}
use Rattle.std.proofs.lemmas.List.Elements.{All-drop}
use Rattle.ark_udp.specs.Received.{IsReceived, again, posted_again}
use Rattle.ark_udp.proofs.Pulling.{none_left, first_of, no_length, holds_first, all_posted, posted_one, with_again, with_unreaped, gets, got_one}
use Rattle.ark_udp.proofs.receive.pull.Goals as goal

pub loop-init : goal.loop-init
loop-init c = record {
  sockets = refl;
  ring = refl;
  sound = c.requires;
  few = let w = c.size-end.ensures.within in let s = c.size-end.ensures.size in omega (arith, w, s);
  room = c.size-end.ensures.within;
}

pub returns-in_default-clause-sockets : goal.returns-in_default-clause-sockets
returns-in_default-clause-sockets c =
    let none = none_left c.loop.ring.unreaped (sym c.reap.ensures.value ∙ c.in_default.is) in
    sym (ap (λ us. gets c.args.own.now c.args.region.now us c.loop.sockets) none) ∙ c.loop.invariant.sockets

pub returns-in_default-clause-ring : goal.returns-in_default-clause-ring
returns-in_default-clause-ring c =
    let none = none_left c.loop.ring.unreaped (sym c.reap.ensures.value ∙ c.in_default.is) in
    c.reap.ensures.rest ∙ ap (with_unreaped c.loop.ring) (ap (drop 1) none ∙ sym none) ∙ sym (all_posted c.loop.ring none) ∙ c.loop.invariant.ring

pub frame_in-requires : goal.frame_in-requires
frame_in-requires c = holds_first (IsReceived c.args.region.now.taken) c.loop.ring.unreaped c.in-Some.done (sym c.reap.ensures.value ∙ c.in-Some.is) c.loop.invariant.sound

pub receive-requires-clause-at_least : goal.receive-requires-clause-at_least
receive-requires-clause-at_least c =
    let is = holds_first (IsReceived c.args.region.now.taken) c.loop.ring.unreaped c.in-Some.done (sym c.reap.ensures.value ∙ c.in-Some.is) c.loop.invariant.sound in
    let least = is.at_least in let len = c.frame_in.ensures.len in omega (arith, least, len)

pub receive-requires-clause-at_most : goal.receive-requires-clause-at_most
receive-requires-clause-at_most c =
    let is = holds_first (IsReceived c.args.region.now.taken) c.loop.ring.unreaped c.in-Some.done (sym c.reap.ensures.value ∙ c.in-Some.is) c.loop.invariant.sound in
    let most = is.at_most in let len = c.frame_in.ensures.len in omega (arith, most, len)

pub post_buffer-requires : goal.post_buffer-requires
post_buffer-requires c =
    let one = ap length (first_of c.loop.ring.unreaped c.in-Some.done (sym c.reap.ensures.value ∙ c.in-Some.is)) in
    let posted = ap (λ q. length q.posted) c.reap.ensures.rest in
    let unreaped = ap (λ q. length q.unreaped) c.reap.ensures.rest in
    let size = ap (λ q. q.size) c.reap.ensures.rest in
    let room = c.loop.invariant.room in
    omega (arith, one, posted, unreaped, size, room)

pub loop-preserved : goal.loop-preserved
loop-preserved c =
    let q = c.loop.ring in
    let done = c.in-Some.done in
    let first = sym c.reap.ensures.value ∙ c.in-Some.is in
    let one = ap length (first_of q.unreaped done first) in
    let left : c.post_buffer.new.ring ≡ record q { posted = q.posted ++ again done ∷ []; unreaped = drop 1 q.unreaped } =
    c.post_buffer.ensures ∙ ap (with_again done) c.reap.ensures.rest in
    let unreaped = ap (λ x. length x.unreaped) left in
    let posted = ap (λ x. length x.posted) left in
    let size = ap (λ x. x.size) left in record {
      sockets = ap (λ x. gets c.args.own.now c.args.region.now x.unreaped c.receive.new.sockets) left ∙ got_one c.args.own.now c.args.region.now q.unreaped done c.loop.sockets c.receive.new.sockets c.frame_in.result.now first c.frame_in.ensures.value c.receive.ensures ∙ c.loop.invariant.sockets;
      ring = ap posted_again left ∙ posted_one q done first ∙ c.loop.invariant.ring;
      sound = subst (λ x. All (IsReceived c.args.region.now.taken) x.unreaped) (sym left) (All-drop (IsReceived c.args.region.now.taken) 1 q.unreaped c.loop.invariant.sound);
      few = let f = c.loop.invariant.few in omega (arith, f, one, unreaped);
      room = let r = c.loop.invariant.room in let more = length-append q.posted (again done ∷ []) in omega (arith, r, one, unreaped, posted, size, more);
    }

pub returns-clause-sockets : goal.returns-clause-sockets
returns-clause-sockets c =
    let few = c.loop.invariant.few in
    let over = c.loop-test.false in
    let none = no_length c.loop.ring.unreaped (omega (arith, few, over)) in
    sym (ap (λ us. gets c.args.own.now c.args.region.now us c.loop.sockets) none) ∙ c.loop.invariant.sockets

pub returns-clause-ring : goal.returns-clause-ring
returns-clause-ring c =
    let few = c.loop.invariant.few in
    let over = c.loop-test.false in
    let none = no_length c.loop.ring.unreaped (omega (arith, few, over)) in
    sym (all_posted c.loop.ring none) ∙ c.loop.invariant.ring

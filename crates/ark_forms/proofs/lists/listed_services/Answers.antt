use Rattle.std.proofs.Common.{◌≡◌, ◌<◌, length, get_or, nat_eq, Some, None, rules, tests, arith, refl, ap, ◌∙◌}
use Rattle.std.proofs.lemmas.Iterator.Consumers.{YieldsList-turn, YieldsList-end}
use Rattle.std.proofs.lemmas.Iterator.Splits.{YieldsList-from_slice_split}
use Rattle.std.proofs.lemmas.List.{length_push}
use Rattle.std.specs.Option.{option_map}
use Rattle.ark_script.specs.Lists.{services_are}
use Rattle.ark_forms.specs.Listed.{service_of}
use Rattle.ark_script.specs.Words.{parts_of}
use Rattle.ark_forms.proofs.Listing.{one_read, bad_read, full_read, all_read, places_filled}
use Rattle.ark_forms.proofs.lists.listed_services.Goals as goal

pub returns-then-count-eq8 : goal.returns-then-count-eq8
returns-then-count-eq8 c =
    let turn = YieldsList-turn (YieldsList-from_slice_split _ (λ b. nat_eq b 44) c.args.word.now (cc) (cc) (cc) (λ x r q k. search (rules, tests))) c.loop-part.yielded _ c.loop-part.yielded_by _ _ c.in-Some.part c.in-Some.is c.next.ensures.steps in
    let counted = c.loop-part.invariant.counted in
    let more : c.loop-part.count < length (parts_of 44 c.args.word.now) = rw counted turn.0 in
    let is : c.in-Some.part.now ≡ get_or (parts_of 44 c.args.word.now) c.loop-part.count c.in-Some.part.now = rw counted turn.1 in
    ap (option_map services_are) (full_read (service_of c.args.proto) 8 (parts_of 44 c.args.word.now) (0, 0) c.loop-part.count c.loop-part.items c.in-Some.part.now c.if-count-eq8.true more is c.loop-part.invariant.read)

pub returns-in_err-items : goal.returns-in_err-items
returns-in_err-items c =
    let turn = YieldsList-turn (YieldsList-from_slice_split _ (λ b. nat_eq b 44) c.args.word.now (cc) (cc) (cc) (λ x r q k. search (rules, tests))) c.loop-part.yielded _ c.loop-part.yielded_by _ _ c.in-Some.part c.in-Some.is c.next.ensures.steps in
    let counted = c.loop-part.invariant.counted in
    let more : c.loop-part.count < length (parts_of 44 c.args.word.now) = rw counted turn.0 in
    let is : c.in-Some.part.now ≡ get_or (parts_of 44 c.args.word.now) c.loop-part.count c.in-Some.part.now = rw counted turn.1 in
    let fits : c.loop-part.count < 8 = omega (arith, c.loop-part.invariant.read.within) in
    let bad : service_of c.args.proto c.in-Some.part.now ≡ None = c.service.ensures ∙ c.in_err-items.was in
    rw c.from_residual.ensures (ap (option_map services_are) (bad_read (service_of c.args.proto) 8 (parts_of 44 c.args.word.now) (0, 0) c.loop-part.count c.loop-part.items c.in-Some.part.now fits more is bad c.loop-part.invariant.read))

pub loop-part-preserved : goal.loop-part-preserved
loop-part-preserved c =
    let turn = YieldsList-turn (YieldsList-from_slice_split _ (λ b. nat_eq b 44) c.args.word.now (cc) (cc) (cc) (λ x r q k. search (rules, tests))) c.loop-part.yielded _ c.loop-part.yielded_by _ _ c.in-Some.part c.in-Some.is c.next.ensures.steps in
    let counted = c.loop-part.invariant.counted in
    let more : c.loop-part.count < length (parts_of 44 c.args.word.now) = rw counted turn.0 in
    let is : c.in-Some.part.now ≡ get_or (parts_of 44 c.args.word.now) c.loop-part.count c.in-Some.part.now = rw counted turn.1 in
    let fits : c.loop-part.count < 8 = omega (arith, c.loop-part.invariant.read.within) in
    let good : service_of c.args.proto c.in-Some.part.now ≡ Some c.in_ok-items.field-0 = c.service.ensures ∙ c.in_ok-items.was in
    record {
      can = search rules;
      finite = search rules;
      counted = omega (arith, length_push c.loop-part.yielded c.in-Some.part);
      read = one_read (service_of c.args.proto) 8 (parts_of 44 c.args.word.now) (0, 0) c.loop-part.count c.loop-part.items c.in-Some.part.now c.in_ok-items.field-0 fits more is good c.loop-part.invariant.read;
    }

pub returns : goal.returns
returns c =
    let end = YieldsList-end (YieldsList-from_slice_split _ (λ b. nat_eq b 44) c.args.word.now (cc) (cc) (cc) (λ x r q k. search (rules, tests))) c.loop-part.yielded _ c.loop-part.yielded_by _ _ c.in-None.is c.next.ensures.steps in
    let all = all_read (service_of c.args.proto) 8 (parts_of 44 c.args.word.now) (0, 0) c.loop-part.count c.loop-part.items (c.loop-part.invariant.counted ∙ end.1) c.loop-part.invariant.read in
    let filled = places_filled (service_of c.args.proto) (parts_of 44 c.args.word.now) (0, 0) c.loop-part.count c.loop-part.items c.loop-part.invariant.read in
    ap (option_map services_are) all ∙ rw (filled.1, filled.0) refl

-- Whom a frame is for.
use Rattle.std.proofs.Common.{◌≡◌, ℕ, ◌<◌, zero, suc, List, [], ◌∷◌, length, get_or, Bool, true, false, cond, Option, Some, None, arith, refl, sym, ap, ◌∙◌, subst}
use Rattle.std.specs.Option.{option_map, option_and_then}
use Rattle.std.specs.List.{Contains, find}
use Rattle.std.proofs.lemmas.Bool.{false_from_ne_true}
use Rattle.std.proofs.lemmas.List.Elements.{All-get_or, All-from_recursion}
use Rattle.ark_packet.specs.Ip.{seen}
use Rattle.ark_packet.specs.Frame.{target_of, source_of, proto_of, ReadsFrame}
use Rattle.ark_packet.specs.declared.frame.Frame.{Frame}
use Rattle.ark_packet.specs.declared.own.Own.{Own}
use Rattle.ark_filters.specs.declared.live.Live.{Live}
use Rattle.ark_filters.specs.In.{parts_match, frame_matches, is_in}
use Rattle.ark_filters.specs.Rules.{receiver, classified, IsFor, Precedes, InOrder}
use Rattle.ark_filters.proofs.OneTakes.{taken, apart}

-- by the frame as it was read
pub classified_by : (bytes : List ℕ) (frame : Frame) (own : Own) (rules : List Live) → ReadsFrame bytes frame
    → classified (λ f. frame_matches f frame own) rules ≡ classified (λ f. is_in f bytes own) rules
classified_by bytes frame own rules says =
    ap (λ x. classified (λ f. parts_match f x frame.to frame.proto (seen frame.ip) own) rules) says.from
    ∙ ap (λ x. classified (λ f. parts_match f (source_of bytes) x frame.proto (seen frame.ip) own) rules) says.to
    ∙ ap (λ x. classified (λ f. parts_match f (source_of bytes) (target_of bytes) x (seen frame.ip) own) rules) says.proto
    ∙ ap (λ x. classified (λ f. parts_match f (source_of bytes) (target_of bytes) (proto_of bytes) x own) rules) says.ip

-- the one that was found takes it
found_takes : (bytes : List ℕ) (own : Own) (rules : List Live) (live : Live) → find (taken bytes own) rules ≡ Some live → Contains rules live × (taken bytes own live ≡ true)
found_takes bytes own [] live h = cc
found_takes bytes own (x ∷ rest) live h = by (taken bytes own x) refl h (λ k. found_takes bytes own rest live k)
  where
    by : (b : Bool) → taken bytes own x ≡ b → cond b (Some x) (find (taken bytes own) rest) ≡ Some live
        → (find (taken bytes own) rest ≡ Some live → Contains rest live × (taken bytes own live ≡ true)) → Contains (x ∷ rest) live × (taken bytes own live ≡ true)
    by true is k after =
        let same : x ≡ live = cc in
        ((0, omega arith, same), ap (taken bytes own) (sym same) ∙ is)
    by false is k after =
        let there = after k in
        ((suc there.0.0, omega (arith, there.0.1), there.0.2), there.1)

-- one that takes it is found, since none before it does
takes_found : (bytes : List ℕ) (own : Own) (rules : List Live) (live : Live) (k : ℕ) → InOrder rules → k < length rules → get_or rules k live ≡ live → taken bytes own live ≡ true
    → find (taken bytes own) rules ≡ Some live
takes_found bytes own [] live k h lt at t = absurd (omega arith)
takes_found bytes own (x ∷ rest) live zero h lt at t = ap (λ y. cond (taken bytes own y) (Some y) (find (taken bytes own) rest)) at ∙ ap (λ b. cond b (Some live) (find (taken bytes own) rest)) t
takes_found bytes own (x ∷ rest) live (suc k) h lt at t =
    let inside : k < length rest = omega (arith, lt) in
    let before : Precedes x live = subst (Precedes x) at (All-get_or (Precedes x) rest k live inside (All-from_recursion (Precedes x) rest h.0)) in
    let not_first : taken bytes own x ≡ false = false_from_ne_true (taken bytes own x) (λ tx. apart bytes own x live before.apart tx t) in
    ap (λ b. cond b (Some x) (find (taken bytes own) rest)) not_first ∙ takes_found bytes own rest live k h.1 inside at t

-- owner and VNIC as they are found are those of a filter that takes the frame, and of any that does
pub is_for : (bytes : List ℕ) (own : Own) (rules : List Live) (owner vnic : ℕ) → classified (λ f. is_in f bytes own) rules ≡ Some (owner, vnic)
    → IsFor (λ f. is_in f bytes own) rules owner vnic
is_for bytes own rules owner vnic h = by (find (taken bytes own) rules) refl h
  where
    of : (live : Live) (card : Option ℕ) → option_map {U = ℕ × ℕ} (λ n. (live.owner, n)) card ≡ Some (owner, vnic) → (live.owner ≡ owner) × (card ≡ Some vnic)
    of live None h = cc
    of live (Some n) h =
        let same : ◌≡◌ {A = ℕ × ℕ} (live.owner, n) (owner, vnic) = cc in
        (ap (λ p. p.0) same, ap (λ p. Some p.1) same)

    by : (o : Option Live) → find (taken bytes own) rules ≡ o → option_and_then receiver o ≡ Some (owner, vnic) → IsFor (λ f. is_in f bytes own) rules owner vnic
    by None is k = cc
    by (Some live) is k =
        let t = found_takes bytes own rules live is in
        let parts = of live live.vnic k in
        record { live = live; among = t.0; passing = t.1; owned = parts.0; used = parts.1 }

pub for_is : (bytes : List ℕ) (own : Own) (rules : List Live) (owner vnic : ℕ) → InOrder rules → IsFor (λ f. is_in f bytes own) rules owner vnic
    → classified (λ f. is_in f bytes own) rules ≡ Some (owner, vnic)
for_is bytes own rules owner vnic h i =
    let pair : ℕ → Option (ℕ × ℕ) = λ n. Some (n, vnic) in
    ap (option_and_then receiver) (takes_found bytes own rules i.live i.among.0 h i.among.1 i.among.2 i.passing)
    ∙ ap (option_map {U = ℕ × ℕ} (λ n. (i.live.owner, n))) i.used ∙ ap pair i.owned

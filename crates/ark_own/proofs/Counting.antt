-- How many labels are of a card's kind.
use Rattle.std.proofs.Common.{◌≡◌, ℕ, suc, ◌+◌, ◌≤◌, Bool, true, false, cond, List, [], ◌∷◌, length, refl, ap, arith}
use Rattle.std.specs.List.{count_by}
use Rattle.std.specs.Map.{values_of}
use Rattle.std.proofs.lemmas.List.Sums.{sum_by-cons, count_by-le-length}
use denote.Enum.Bare.{sameb}
use Rattle.ark_caps.specs.contracts.capability.CapKind.{the_type}
use Rattle.ark_caps.specs.declared.capability.CapKind.{CapKind}
use Rattle.ark_caps.specs.declared.capability.CapKind.TheVariants as cap_kind
use Rattle.ark_caps.specs.declared.capability.Capability.{Capability}
use Rattle.ark_held.specs.Words.{Labels}
use Rattle.ark_held.specs.Totals.{bit}
use Rattle.ark_held.specs.Held.{is_card_kind, card_labels}

longer : (b : Bool) (p : List ℕ × Capability) (ps : Labels) → length (cond b (p ∷ ps) ps) ≡ bit b + length ps
longer true p ps = omega arith
longer false p ps = omega arith

bit_is : (b : Bool) → cond b 1 0 ≡ bit b
bit_is true = refl
bit_is false = refl

length_values : (ls : Labels) → length (values_of ls) ≡ length ls
length_values [] = refl
length_values (p ∷ ps) = ap suc (length_values ps)

-- two tests of which one passes where the kind is a card's
pub counted : (f g : Capability → Bool) → ((c : Capability) → bit (f c) + bit (g c) ≡ bit (is_card_kind c.kind)) → (ls : Labels) → count_by f (values_of ls) + count_by g (values_of ls) ≡ length (card_labels ls)
counted f g each [] = refl
counted f g each (p ∷ ps) =
    let a = sum_by-cons (λ (c : Capability). cond (f c) 1 0) p.1 (values_of ps) in
    let b = sum_by-cons (λ (c : Capability). cond (g c) 1 0) p.1 (values_of ps) in
    let rest = counted f g each ps in
    let here = each p.1 in
    let one = bit_is (f p.1) in
    let two = bit_is (g p.1) in
    let more = longer (is_card_kind p.1.kind) p (card_labels ps) in
    omega (arith, a, b, rest, here, one, two, more)

pub few_counted : (f : Capability → Bool) (ls : Labels) → count_by f (values_of ls) ≤ length ls
few_counted f ls = let most = count_by-le-length f (values_of ls) in let long = length_values ls in omega (arith, most, long)

-- a kind is a card's where it is that of storage cards or of network cards
pub either : (k : CapKind) → bit (sameb the_type k cap_kind.Vsic) + bit (sameb the_type k cap_kind.Vnic) ≡ bit (is_card_kind k)
either cap_kind.Vsic = refl
either cap_kind.Vnic = refl
either cap_kind.Vsa = refl
either cap_kind.Filter = refl
either cap_kind.Rate = refl
either cap_kind.Door = refl
either cap_kind.Buf = refl
either cap_kind.Sock = refl

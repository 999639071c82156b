-- Services are read just where a word spells them.
use Rattle.std.proofs.Common.{◌≡◌, ℕ, bytes_eq, List, [], ◌∷◌, codes, Option, Some, None, refl, sym, ap, ◌∙◌, subst, inl, inr, arith}
use Rattle.std.specs.Fmt.{digits}
use Rattle.std.specs.Option.{option_or}
use Rattle.std.proofs.lemmas.Bool.{cases_Bool}
use Rattle.std.proofs.lemmas.Option.{same_Some}
use Rattle.std.proofs.lemmas.Slice.Eq.{bytes_eq-Decides}
use Rattle.ark_filters.specs.declared.filter.Services.{Services}
use Rattle.ark_filters.specs.declared.filter.Proto.{Proto}
use Rattle.ark_filters.specs.declared.filter.Proto.TheVariants as proto
use Rattle.ark_script.specs.Arguments.{IsType, IsHex}
use Rattle.ark_script.specs.Lists.{ArePorts, IsService, AreServices, services_are}
use Rattle.ark_forms.specs.Listed.{each_of, port_of, range_of, service_of, services_of}
use Rattle.ark_script.specs.Words.{parts_of}
use Rattle.ark_forms.specs.Reading.{◌>>=◌, big_pair, number_of, hex_of, type_of, one_of, two_of}
use Rattle.ark_forms.proofs.Arguing.{chosen, hex_reads}
use Rattle.ark_forms.proofs.Addressing.{each_sound, each_complete, map_some}
use Rattle.ark_forms.proofs.Numbers.{number_read, number_gives}
use Rattle.ark_forms.proofs.Readers.{Reads, bind_some}

pub type_reads : Reads type_of IsType
unfolding type_of
type_reads = record { sound = sound; complete = complete }
  where
    pair : (word bytes : List ℕ) (n : ℕ) → IsHex 2 2 bytes word → big_pair bytes ≡ n → IsType n word
    pair word [] n h e = absurd (omega (arith, h.3))
    pair word (a ∷ []) n h e = absurd (omega (arith, h.3))
    pair word (a ∷ b ∷ []) n h e = (a, b, h, sym e)
    pair word (a ∷ b ∷ c ∷ bytes) n h e = absurd (omega (arith, h.4))

    sound : (word : List ℕ) (n : ℕ) → type_of word ≡ Some n → IsType n word
    sound word n h =
        let s = bind_some (hex_of 2 2 word) _ n h in
        pair word s.0 n ((hex_reads 2 2).sound word s.0 s.1) (same_Some _ _ s.2)

    complete : (word : List ℕ) (n : ℕ) → IsType n word → type_of word ≡ Some n
    complete word n h = rw ((hex_reads 2 2).complete word (h.0 ∷ h.1 ∷ []) h.2) (ap Some (sym h.3))

-- a number that stands for itself
alone : (o : Option ℕ) (range : ℕ × ℕ) → (o >>= λ n. Some (n, n)) ≡ Some range → (o ≡ Some range.0) × (range.1 ≡ range.0)
alone o range h =
    let s = bind_some o _ range h in
    let same : (s.0, s.0) ≡ range = same_Some _ _ s.2 in
    (s.1 ∙ ap (λ (r : ℕ × ℕ). Some r.0) same, sym (ap (λ (r : ℕ × ℕ). r.1) same) ∙ ap (λ (r : ℕ × ℕ). r.0) same)

itself : (o : Option ℕ) (range : ℕ × ℕ) → o ≡ Some range.0 → range.1 ≡ range.0 → (o >>= λ n. Some (n, n)) ≡ Some range
itself o range h e = rw h (ap (λ (last : ℕ). Some (range.0, last)) (sym e))

abbrev one_port : List (List ℕ) → Option (ℕ × ℕ)
one_port words = one_of words >>= λ part. number_of 0 65535 part >>= λ n. Some (n, n)

abbrev two_ports : List (List ℕ) → Option (ℕ × ℕ)
two_ports words = two_of words >>= λ p. number_of 0 65535 p.0 >>= λ first. number_of first 65535 p.1 >>= λ last. Some (first, last)

or_none : (o : Option (ℕ × ℕ)) (range : ℕ × ℕ) → option_or o None ≡ Some range → o ≡ Some range
or_none None range h = h
or_none (Some x) range h = h

ports_sound : (words : List (List ℕ)) (range : ℕ × ℕ) → option_or (one_port words) (two_ports words) ≡ Some range → ArePorts range words
unfolding one_of two_of
ports_sound [] range h = cc
ports_sound (w ∷ []) range h = let s = alone (number_of 0 65535 w) range (or_none _ range h) in (number_read 0 65535 w range.0 s.0, s.1)
ports_sound (w ∷ x ∷ []) range h =
    let s = bind_some (number_of 0 65535 w) _ range h in
    let t = bind_some (number_of s.0 65535 x) _ range s.2 in
    subst (λ (r : ℕ × ℕ). ArePorts r (w ∷ x ∷ [])) (same_Some _ _ t.2) (number_read 0 65535 w s.0 s.1, number_read s.0 65535 x t.0 t.1)
ports_sound (w ∷ x ∷ y ∷ words) range h = cc

ports_complete : (words : List (List ℕ)) (range : ℕ × ℕ) → ArePorts range words → option_or (one_port words) (two_ports words) ≡ Some range
unfolding one_of two_of
ports_complete [] range h = absurd h
ports_complete (w ∷ []) range h = rw (number_gives 0 65535 w range.0 (omega arith) h.0) (ap (λ (last : ℕ). Some (range.0, last)) (sym h.1))
ports_complete (w ∷ x ∷ []) range h = rw (number_gives 0 65535 w range.0 (omega arith) h.0, number_gives range.0 65535 x range.1 (omega arith) h.1) refl
ports_complete (w ∷ x ∷ y ∷ words) range h = absurd h

pub service_reads : (p : Proto) → Reads (service_of p) (IsService p)
unfolding service_of port_of range_of
service_reads proto.Eth = record {
  sound = λ word range h. (let s = alone (type_of word) range h in (type_reads.sound word range.0 s.0, s.1));
  complete = λ word range h. itself (type_of word) range (type_reads.complete word range.0 h.0) h.1;
}
service_reads proto.Ip = record {
  sound = λ word range h. (let s = alone (number_of 0 255 word) range h in (number_read 0 255 word range.0 s.0, s.1));
  complete = λ word range h. itself (number_of 0 255 word) range (number_gives 0 255 word range.0 (omega arith) h.0) h.1;
}
service_reads proto.Udp = record { sound = λ word range h. ports_sound (parts_of 45 word) range h; complete = λ word range h. ports_complete (parts_of 45 word) range h }
service_reads proto.Tcp = record { sound = λ word range h. ports_sound (parts_of 45 word) range h; complete = λ word range h. ports_complete (parts_of 45 word) range h }

-- `*` is no service
no_star : (p : Proto) → each_of (service_of p) 8 (parts_of 44 (codes "*")) ≡ None
unfolding service_of port_of range_of type_of hex_of number_of one_of two_of digits
no_star proto.Eth = refl
no_star proto.Ip = refl
no_star proto.Udp = refl
no_star proto.Tcp = refl

pub services_reads : (p : Proto) → Reads (services_of p) (AreServices p)
unfolding services_of
services_reads p = record { sound = sound; complete = complete }
  where
    sound : (word : List ℕ) (services : Services) → services_of p word ≡ Some services → AreServices p services word
    sound word services h =
        elim (chosen word (codes "*") (services_are []) services _ h) [
          | inl all ↦ inl (all.0, sym all.1)
          | inr some ↦
              let m = map_some services_are (each_of (service_of p) 8 (parts_of 44 word)) services some.1 in
              let each = each_sound (service_of p) (IsService p) (service_reads p) 8 (parts_of 44 word) m.0 m.1 in
              inr (m.0, each.0, each.1, m.2)
        ]

    complete : (word : List ℕ) (services : Services) → AreServices p services word → services_of p word ≡ Some services
    complete word services (inl all) = rw all.0 (ap Some (sym all.1))
    complete word services (inr some) =
        let each = each_complete (service_of p) (IsService p) (service_reads p) 8 (parts_of 44 word) some.0 some.1 some.2 in
        elim (cases_Bool (bytes_eq word (codes "*"))) [
          | inl same ↦ absurd (let star = rw ((bytes_eq-Decides word (codes "*")).0 same) at each in cc (no_star p, star))
          | inr other ↦ rw (other, each) (ap Some (sym some.3))
        ]

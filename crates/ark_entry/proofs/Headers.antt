-- A header is read as what was written.
use Rattle.std.proofs.Common.{◌≡◌, ℕ, ◌+◌, ◌^◌, ◌<◌, inl, inr, ◌⊎◌, List, Bool, true, false, ◌&&◌, Option, Some, None, refl, sym, ◌∙◌, ap, subst, arith, if◌then◌else◌}
use Rattle.std.specs.Prelude.{unwrap_or, bytes_eq, nat_le, nat_lt}
use Rattle.std.proofs.lemmas.Bool.{and_parts, le-leb, leb-true, lt-ltb, ltb-true, false≢true}
use Rattle.std.proofs.lemmas.Nat.{from_be_bytes-to_be_bytes_4, from_be_bytes-to_be_bytes_8}
use Rattle.ark_base.proofs.Basics.{bytes_eq-same, same_bytes}
use Rattle.std.specs.Prelude.{is_some}
use Rattle.ark_base.specs.declared.kind.Kind.{Kind}
use Rattle.ark_entry.specs.Header.{Header, IsHeader, is_header, bytes_of, header_in, header_of, is_zero, is_written, empty}

tested : (ring : ℕ) (h : Header) → IsHeader ring h → is_header ring h ≡ true
tested ring h w = λ i.
    le-leb 1 h.first w.some i && (lt-ltb h.start ring w.start i && (le-leb h.count ring w.count i && (lt-ltb h.end ring w.end i && le-leb (h.first + h.count) (2 ^ 62 + 1) w.last i)))

in_words : (ring : ℕ) (h : Header) → is_header ring h ≡ true → IsHeader ring h
in_words ring h t =
    let a = and_parts (nat_le 1 h.first) _ t in
    let b = and_parts (nat_lt h.start ring) _ a.1 in
    let c = and_parts (nat_le h.count ring) _ b.1 in
    let d = and_parts (nat_lt h.end ring) _ c.1 in
    record {
      some = leb-true 1 h.first a.0;
      start = ltb-true h.start ring b.0;
      count = leb-true h.count ring c.0;
      end = ltb-true h.end ring d.0;
      last = leb-true (h.first + h.count) (2 ^ 62 + 1) d.1;
    }

fields : (kind : Kind) (h : Header) → h.first < 2 ^ 64 → h.start < 2 ^ 32 → h.count < 2 ^ 32 → h.end < 2 ^ 32 → header_in (bytes_of kind h) ≡ h
fields kind h a b c d = λ i. record {
  first = from_be_bytes-to_be_bytes_8 h.first a i;
  start = from_be_bytes-to_be_bytes_4 h.start b i;
  count = from_be_bytes-to_be_bytes_4 h.count c i;
  end = from_be_bytes-to_be_bytes_4 h.end d i;
}

pub written_is_read : (kind : Kind) (ring : ℕ) (h : Header) → ring < 2 ^ 32 → IsHeader ring h → header_of kind ring (bytes_of kind h) ≡ Some h
written_is_read kind ring h few w =
    let same : header_in (bytes_of kind h) ≡ h = fields kind h (omega (arith, w.last)) (omega (arith, w.start, few)) (omega (arith, w.count, few)) (omega (arith, w.end, few)) in
    ap (λ (x : Header). if is_header ring x && bytes_eq (bytes_of kind h) (bytes_of kind x) then Some x else None) same
    ∙ (λ i. if tested ring h w i && bytes_eq-same (bytes_of kind h) i then Some h else None)

-- what is read is zeros, or the spelling of a right header
pub read_was_written : (kind : Kind) (ring : ℕ) (block : List ℕ) (h : Header) → header_of kind ring block ≡ Some h
    → ((is_zero block ≡ true) × (h ≡ empty)) ⊎ (IsHeader ring h × (block ≡ bytes_of kind h))
read_was_written kind ring block h is = by (is_zero block) (is_written kind ring block) refl refl is
  where
    by : (b c : Bool) → is_zero block ≡ b → is_written kind ring block ≡ c → (if b then Some empty else (if c then Some (header_in block) else None)) ≡ Some h
        → ((is_zero block ≡ true) × (h ≡ empty)) ⊎ (IsHeader ring h × (block ≡ bytes_of kind h))
    by true c zero right e = inl (zero, sym (ap (λ (o : Option Header). unwrap_or o h) e))
    by false true zero right e =
        let same : header_in block ≡ h = ap (λ (o : Option Header). unwrap_or o h) e in
        let parts = and_parts (is_header ring (header_in block)) _ right in
        inr (in_words ring h (subst (λ (x : Header). is_header ring x ≡ true) same parts.0), same_bytes block (bytes_of kind (header_in block)) parts.1 ∙ ap (bytes_of kind) same)
    by false false zero right e = absurd (false≢true (ap is_some e))

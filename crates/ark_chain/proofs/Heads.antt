-- The first block of an entry, by what the code read in it.
use Rattle.std.proofs.Common.{◌≡◌, ℕ, ◌+◌, ◌%◌, ◌^◌, ◌≤◌, List, true, false, ◌&&◌, Some, take, sym, ◌∙◌, ap, arith, slice_range}
use Rattle.std.specs.Prelude.{bytes_eq, nat_le, ◌==◌, codes}
use Rattle.std.specs.Int.{w64, from_be_bytes}
use Rattle.std.proofs.Math.Nat.{mod-add-mod}
use Rattle.std.proofs.lemmas.Bool.{and_parts, le-leb, leb-true, eq-eqb, eqb-true, false≢true}
use Rattle.ark_entry.specs.declared.entry.EntryHead.{EntryHead}
use Rattle.ark_entry.specs.Entry.{entry_blocks, length_in, is_head}
use Rattle.ark_entry.specs.Stated.{HasFields, goes_at}
use Rattle.ark_chain.specs.Walking.{IsHead, IsNoHead}

module _ (room start behind number : ℕ) (block : List ℕ) where
  abbrev at : ℕ
  at = (start + behind) % room

  place_behind : (b : ℕ) → (at + b) % room ≡ (start + (behind + b)) % room
  place_behind b = let e : start + behind + b ≡ start + (behind + b) = omega arith in mod-add-mod (start + behind) room b ∙ ap (λ q. q % room) e

  -- where nothing was read
  pub no_fields : ((n p m : ℕ) → is_head n p m block ≡ false) → IsNoHead room start behind number block
  no_fields says is fits = false≢true (sym (says room at number) ∙ is)

  module _ (h : EntryHead) (fields : HasFields block h) (says : (n p m : ℕ) → is_head n p m block ≡ goes_at n p m (Some h)) where
    pub head_is : h.number ≡ number → behind + entry_blocks h.len ≤ room → h.next ≡ (start + (behind + entry_blocks h.len)) % room → IsHead room start behind number block h.len
    head_is numbered fits next =
        let few : entry_blocks h.len ≤ room = omega (arith, fits) in
        let goes : goes_at room at number (Some h) ≡ true = λ i.
        le-leb (entry_blocks h.len) room few i && (eq-eqb h.number number numbered i && eq-eqb h.next ((at + entry_blocks h.len) % room) (next ∙ sym (place_behind (entry_blocks h.len))) i) in
        let is : is_head room at number block ≡ true = says room at number ∙ goes in
        let a = and_parts (bytes_eq (take 4 block) (codes "ENT1")) _ is in
        let b = and_parts (nat_le (length_in block) 32768) _ a.1 in
        let c = and_parts (nat_le (entry_blocks (length_in block)) room) _ b.1 in
        let d = and_parts (from_be_bytes w64 (slice_range block 8 16) == number) _ c.1 in
        let f = and_parts (nat_le number (2 ^ 62)) _ d.1 in
        record {
          size = fields.len;
          is = is;
          fits = record { short = omega (arith, leb-true (length_in block) 32768 b.0, fields.len); low = leb-true number (2 ^ 62) f.0; fits = fits };
        }

    pub not_head : (h.number ≡ number → behind + entry_blocks h.len ≤ room → h.next ≡ (start + (behind + entry_blocks h.len)) % room → ⊥) → IsNoHead room start behind number block
    not_head bad is fits =
        let goes : goes_at room at number (Some h) ≡ true = sym (says room at number) ∙ is in
        let a = and_parts (nat_le (entry_blocks h.len) room) _ goes in
        let b = and_parts (h.number == number) _ a.1 in
        bad (eqb-true h.number number b.0) (omega (arith, fits, ap entry_blocks fields.len)) (eqb-true h.next ((at + entry_blocks h.len) % room) b.1 ∙ place_behind (entry_blocks h.len))

-- What an opening leaves while it repairs a ring.
use Rattle.std.proofs.Common.{◌≡◌, inl, inr, ℕ, ◌+◌, ◌%◌, ◌<◌, ◌≤◌, List, ◌∷◌, length, Some, Option, sym, ◌∙◌, ap, subst, arith}
use Rattle.std.specs.Prelude.{unwrap_or}
use Rattle.std.proofs.lemmas.Bool.{cases_lt}
use Rattle.std.proofs.lemmas.List.{get_or_past}
use Rattle.std.proofs.Math.Nat.{mod-lt}
use Rattle.ark_base.specs.declared.kind.Kind.{Kind}
use Rattle.ark_media.specs.Journal.{zero_block}
use Rattle.ark_entry.specs.Header.{Header, header_of}
use Rattle.ark_entry.specs.Found.{Entries, found, found_of}
use Rattle.ark_entry.specs.Reading.{reading, Finds, HasList}
use Rattle.ark_entry.specs.Repair.{used_by, blocks_read}
use Rattle.ark_entry.proofs.Readings.{found_stands, stands_is_list}
use Rattle.ark_entry.proofs.Repairing.{repair_finds, read_stands, at_read, length-read, finds_fit}
use Rattle.ark_caladan.specs.Leaves.{LiesInRing, AreRingBlocks, RingHolds, Repairs}

module _ (kind : Kind) (header : List ℕ) (h : Header) (ring : List (List ℕ)) (l : Entries) (is_ring : AreRingBlocks ring) (read : header_of kind (length ring) header ≡ Some h) (is_found : found_of kind (header ∷ ring) ≡ found l) where
  has : HasList kind header ring l
  has = found_stands kind header ring is_ring.whole is_ring.some l is_found

  same : has.0 ≡ h
  same = ap (λ (o : Option Header). unwrap_or o h) (sym has.1 ∙ read)

  first : l.first ≡ h.first
  first = has.2 ∙ ap (λ (x : Header). x.first) same

  finds : Finds (length ring) h.start (reading ring h.start) 0 l.first l.payloads
  finds = subst (λ (n : ℕ). Finds (length ring) h.start (reading ring h.start) 0 n l.payloads) (sym first)
      (subst (λ (x : Header). Finds (length ring) x.start (reading ring x.start) 0 x.first l.payloads) same has.4)

  module _ (new_header : List ℕ) (new : Header) (new_ring : List (List ℕ)) (is_new : AreRingBlocks new_ring) (repairs : Repairs kind header h ring l new_header new new_ring) where
    finds_new : Finds (length new_ring) new.start (reading new_ring new.start) 0 l.first l.payloads
    finds_new =
        subst (λ (n : ℕ). Finds n new.start (reading new_ring new.start) 0 l.first l.payloads) (sym repairs.size)
        (subst (λ (s : ℕ). Finds (length ring) s (reading new_ring s) 0 l.first l.payloads) (sym repairs.start)
        (repair_finds (length ring) h.start (reading ring h.start) (reading new_ring h.start) l.first l.payloads
        (λ v lt. is_ring.whole ((h.start + v) % length ring) (mod-lt (h.start + v) is_ring.some)) repairs.zeroes finds))

    read_new : header_of kind (length new_ring) new_header ≡ Some new
    read_new = subst (λ (n : ℕ). header_of kind n new_header ≡ Some new) (sym repairs.size) repairs.read

    -- at each moment the same list is found
    pub repaired_is_found : found_of kind (new_header ∷ new_ring) ≡ found l
    repaired_is_found = stands_is_list kind new_header new_ring is_new.whole is_new.some l
        (new, read_new, first ∙ sym repairs.first, repairs.count, subst (λ (n : ℕ). Finds (length new_ring) new.start (reading new_ring new.start) 0 n l.payloads) (first ∙ sym repairs.first) finds_new)

    -- and it lies in its blocks
    pub repaired_lies : LiesInRing kind (length new_ring) new_header new (blocks_read (reading new_ring new.start) 0 (used_by l.payloads)) l
    repaired_lies = record {
      read = read_new;
      first = first ∙ sym repairs.first;
      count = repairs.count;
      stands = read_stands (length new_ring) new.start (reading new_ring new.start) l.first l.payloads finds_new;
      fits = omega (arith, length-read (length new_ring) new.start (reading new_ring new.start) 0 (used_by l.payloads), finds_fit (length new_ring) new.start (reading new_ring new.start) 0 l.first l.payloads (omega arith) finds_new);
    }

    -- with zeros behind it, once all blocks outside it are zero
    pub repaired_holds : ((v : ℕ) → used_by l.payloads ≤ v → v < length new_ring → reading new_ring new.start v ≡ zero_block)
        → RingHolds new_ring new (blocks_read (reading new_ring new.start) 0 (used_by l.payloads)) (blocks_read (reading new_ring new.start) 0 (used_by l.payloads))
    repaired_holds zeros v lt = inl (elim (cases_lt v (used_by l.payloads)) [
      | inl inside ↦ let e : 0 + v ≡ v = omega arith in sym (at_read (length new_ring) new.start (reading new_ring new.start) 0 (used_by l.payloads) v inside ∙ ap (reading new_ring new.start) e)
      | inr past ↦ zeros v past lt
          ∙ sym (get_or_past (blocks_read (reading new_ring new.start) 0 (used_by l.payloads)) v zero_block (omega (arith, length-read (length new_ring) new.start (reading new_ring new.start) 0 (used_by l.payloads), past)))
    ])

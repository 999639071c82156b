-- What the events leave that open an area.
use Rattle.std.proofs.Common.{◌≡◌, ℕ, suc, ◌-◌, ◌<◌, ◌≤◌, ◌^◌, List, [], ◌∷◌, ◌++◌, Bool, true, length, get_or, map, take, drop, refl, sym, ◌∙◌, ap, subst, arith, append-nil}
use Rattle.std.specs.Prelude.{Contains}
use Rattle.std.specs.List.{AllByRecursion}
use Rattle.std.proofs.lemmas.List.{length-map}
use Rattle.std.proofs.lemmas.List.Elements.{Contains-get_or, at_from_Contains, recursion_from_All}
use Rattle.ark_base.specs.declared.kind.Kind.{Kind}
use Rattle.ark_media.specs.Journal.{Event, History, block, current, zero_block}
use Rattle.ark_media.specs.Calls.{Call, Writes, Syncs, Makes}
use Rattle.ark_media.specs.Standing.{after}
use Rattle.ark_region.specs.Frames.{LiesInRegion, Piece, Space}
use Rattle.ark_entry.specs.Entry.{AreWhole}
use Rattle.ark_entry.specs.Found.{Found, found, found_of}
use Rattle.ark_entry.specs.Repair.{used_by}
use Rattle.ark_caladan.specs.Chain.{Log, stored}
use Rattle.ark_caladan.specs.Listed.{SameAt}
use Rattle.ark_caladan.specs.Repairing.{IsRepair, Repair, Repairing}
use Rattle.ark_caladan.specs.Views.{AreApart, Elsewhere, OnDisk, contents_at}
use Rattle.ark_chain.specs.declared.surveying.Seen.{Seen}
use Rattle.ark_chain.specs.Repair.{clears}
use Rattle.ark_chain.specs.Survey.{IsSeen, reads}
use Rattle.ark_log.specs.Loaded.{header_bytes, loaded_chain}
use Rattle.ark_log.specs.Stands.{StandsFor}
use Rattle.ark_running.specs.Opened.{IsNewlyOpen}
use Rattle.ark_running.specs.Opening.{AreAmong, AtFronts, HasRepairedAt, ReadsArea, RepairsArea, StandsIn, blocks_of, opening_calls}
use Rattle.ark_running.proofs.Fronts.{elsewhere_fronts, reads_fronts, same_none}
use Rattle.ark_running.proofs.Outside.{IsOutside}
use Rattle.ark_running.proofs.Repaired.{IsFine, Leaves, fine_same, calls_are, repaired_leaves}
use Rattle.ark_running.proofs.Repairs.{each_outside, is_repair, repair_of}
use Rattle.ark_running.proofs.Viewed.{area_whole}

-- A log that stands in an area.
module _ (kind : Kind) (h : History) (blocks : List ℕ) (g : Log) (stands : StandsIn kind h blocks g) where
  -- what is found there is what is stored
  pub found_stored : (x : Found) → found_of kind (contents_at (current h.base h.journal) blocks) ≡ x → stored g ≡ x
  found_stored x is = sym stands.listed.now ∙ ap (λ k. found_of k (contents_at (current h.base h.journal) blocks)) stands.its_kind ∙ is

  -- reads of its blocks leave it
  pub reads_fine : (ok : Bool) (es : List Event) → ReadsArea blocks ok es → AtFronts (IsFine blocks g) h es
  reads_fine ok es has front back is = fine_same blocks g h (after h front) (reads_fronts h blocks has.read ok es h (same_none h blocks) has.made front back is) (stands.listed, stands.full)

-- blocks of an area at places of it
pub area_places : (blocks places : List ℕ) → AllByRecursion (λ k. k < length blocks) places → AreAmong blocks (blocks_of blocks places)
area_places blocks [] inside = tt
area_places blocks (k ∷ places) inside = (Contains-get_or blocks k 0 inside.0, area_places blocks places inside.1)

-- blocks outside a list are behind the first
ring_places : (room start used : ℕ) (blocks : List ℕ) → length blocks ≡ suc room → (noted : List ℕ) → AllByRecursion (IsOutside room start used) noted → AreAmong (drop 1 blocks) (blocks_of blocks noted)
ring_places room start used [] size noted all = absurd (omega (arith, size))
ring_places room start used (b ∷ ring) size [] all = tt
ring_places room start used (b ∷ ring) size (p ∷ noted) all = (
  subst (λ n. Contains ring (get_or (b ∷ ring) n 0)) (sym all.0.1) (Contains-get_or ring all.0.0 0 (omega (arith, size, all.0.2))),
  ring_places room start used (b ∷ ring) size noted all.1,
)

first_there : (blocks : List ℕ) → 1 ≤ length blocks → Contains (take 1 blocks) (get_or blocks 0 0)
first_there [] some = absurd (omega (arith, some))
first_there (b ∷ ring) some = (0, omega arith, refl)

module _ (kind : Kind) (h : History) (blocks : List ℕ) (g : Log) (seen : Seen) (lengths : List ℕ) (ok : Bool) (es : List Event) (stands : StandsIn kind h blocks g) (has : HasRepairedAt kind h blocks seen lengths ok es) where
  abbrev image : List (List ℕ)
  image = contents_at (current h.base h.journal) blocks

  abbrev room : ℕ
  room = length blocks - 1

  some : 0 < room
  some = omega (arith, stands.two)

  size : length blocks ≡ suc room
  size = omega (arith, stands.two)

  count : length image ≡ length blocks
  count = length-map blocks (λ n. block (current h.base h.journal) n)

  whole : AreWhole image
  whole = area_whole h blocks stands.on_disk stands.full

  few : suc room < 2 ^ 32
  few = omega (arith, has.few, size)

  is_seen : IsSeen (length image) lengths seen
  is_seen = subst (λ n. IsSeen n lengths seen) (sym count) has.is_seen

  -- the repair, as a log's area goes through it
  abbrev repair : Repair
  repair = repair_of kind room some few image (count ∙ size) whole seen lengths has.noted has.found is_seen has.is_noted

  outside : AllByRecursion (IsOutside room seen.start (used_by has.found.list.payloads)) has.noted
  outside = recursion_from_All (IsOutside room seen.start (used_by has.found.list.payloads)) has.noted
      (each_outside kind room some few image (count ∙ size) whole seen lengths has.noted has.found is_seen has.is_noted)

  right : IsRepair g.kind room repair
  right = subst (λ k. IsRepair k room repair) (sym stands.its_kind) (is_repair kind room some few image (count ∙ size) whole seen lengths has.noted has.found is_seen has.is_noted)

  -- what was found is what is stored
  pub is_stored : stored g ≡ found has.found.list
  is_stored = found_stored kind h blocks g stands (found has.found.list) has.found.is_found

  leaves : Leaves room blocks g repair size some right refl is_stored ok h es
  leaves = repaired_leaves room blocks g repair size some right refl is_stored (blocks_of blocks has.read) h stands.on_disk refl (stands.listed, stands.full) ok es
      (subst (λ (cs : List Call). Makes (reads (blocks_of blocks has.read) ++ (Syncs ∷ cs)) ok es) (calls_are room blocks g repair size some right refl is_stored has.noted outside) has.made)

  -- the calls
  pub area_repaired : RepairsArea blocks (header_bytes kind seen) ok es
  area_repaired = record {
    read = blocks_of blocks has.read;
    cleared = blocks_of blocks has.noted;
    first = get_or blocks 0 0;
    area = area_places blocks has.read has.inside;
    ring = ring_places room seen.start (used_by has.found.list.payloads) blocks size has.noted outside;
    header_at = first_there blocks (omega (arith, stands.two));
    made = has.made;
  }

  pub fine_fronts : AtFronts (IsFine blocks g) h es
  fine_fronts = leaves.0

  -- Behind the last sync the repair of the list that is stored is whole, and the chain stands for that.
  pub repaired_whole : ok ≡ true → (grant : ℕ) (header : Piece) → (r : Repair) × Repairing kind room (after h es) blocks r 1 1 × (r.new.start ≡ seen.start) × (stored g ≡ found r.list)
      × StandsFor (loaded_chain kind grant room header seen lengths) r.list []
  repaired_whole well grant header = (
    repair,
    subst (λ k. Repairing k room (after h es) blocks repair 1 1) stands.its_kind (leaves.1 well),
    refl,
    is_stored,
    record {
      first = has.found.first;
      count = has.found.count;
      lengths = has.found.lengths_are ∙ sym (append-nil (map (λ p. length p) has.found.list.payloads));
      coming = has.found.first;
      waiting = tt;
    },
  )

-- a chain that is loaded is newly open
pub newly_open : (kind : Kind) (grant ring : ℕ) (header : Piece) (seen : Seen) (lengths : List ℕ) (space : Space) → LiesInRegion space.taken header → header.len ≡ 512 → IsNewlyOpen (loaded_chain kind grant ring header seen lengths) space
newly_open kind grant ring header seen lengths space lies long = record {
  none = refl;
  done = refl;
  failed = refl;
  header = refl;
  lies = subst (λ n. LiesInRegion space.taken (record { start = header.start; len = n })) long lies;
}

-- Events of an opening leave whatever is apart from its area.
module _ (blocks other : List ℕ) (apart : AreApart blocks other) where
  -- a block of the area is none of the other's
  none_of : (n : ℕ) → Contains blocks n → (content : List ℕ) → Elsewhere other (Writes n content)
  none_of n has content k lt same =
      let at = at_from_Contains blocks n has in
      apart at.0 k at.1 lt (at.2 0 ∙ sym same)

  behind_first : (bs : List ℕ) (n : ℕ) → Contains (drop 1 bs) n → Contains bs n
  behind_first [] n has = has
  behind_first (b ∷ ring) n has = (suc has.0, omega (arith, has.1), has.2)

  is_first : (bs : List ℕ) (n : ℕ) → Contains (take 1 bs) n → Contains bs n
  is_first [] n has = has
  is_first (b ∷ ring) n has =
      let here : has.0 ≡ 0 = omega (arith, has.1) in
      (0, omega arith, subst (λ k. get_or (b ∷ []) k n ≡ n) here has.2)

  clears_apart : (ns : List ℕ) → AreAmong (drop 1 blocks) ns → (rest : List Call) → AllByRecursion (Elsewhere other) rest → AllByRecursion (Elsewhere other) (clears ns ++ rest)
  clears_apart [] among rest away = away
  clears_apart (n ∷ ns) among rest away = (none_of n (behind_first blocks n among.0) zero_block, clears_apart ns among.1 rest away)

  reads_apart : (ns : List ℕ) (rest : List Call) → AllByRecursion (Elsewhere other) rest → AllByRecursion (Elsewhere other) (reads ns ++ rest)
  reads_apart [] rest away = away
  reads_apart (n ∷ ns) rest away = (tt, reads_apart ns rest away)

  pub repairs_beside : (header : List ℕ) (ok : Bool) (es : List Event) (h : History) → RepairsArea blocks header ok es → OnDisk other h.base → AtFronts (λ x. SameAt h x other) h es
  repairs_beside header ok es h repairs on_disk = elsewhere_fronts h other (opening_calls repairs.read repairs.cleared repairs.first header)
      (reads_apart repairs.read _ (tt, clears_apart repairs.cleared repairs.ring _ (none_of repairs.first (is_first blocks repairs.first repairs.header_at) header, (tt, tt))))
      ok es h on_disk (same_none h other) repairs.made

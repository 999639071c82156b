-- The rows of the words on areas of blocks: `vsa`, `grow`, `peek`, `poke`.
use Rattle.std.specs.Prelude.{ℕ, Bool, not, ◌||◌, List, [], ◌∷◌, ◌++◌, length, map, replicate, slice_index_or, slice_set, nat_le, if◌then◌else◌, None, is_some, is_none, option_map, unwrap_or}
use Rattle.std.specs.List.{range_with_len}
use Rattle.ark_base.specs.Conditions.{none}
use Rattle.ark_base.specs.declared.kind.Kind.{Kind}
use Rattle.ark_base.specs.declared.kind.Kind.TheVariants as kind
use Rattle.ark_entry.specs.Found.{found}
use Rattle.ark_media.specs.Journal.{zero_block}
use Rattle.ark_script.specs.declared.said.Said.TheVariants as said
use Rattle.ark_machine.specs.Bytes.{padded, trimmed}
use Rattle.ark_machine.specs.Objects
use Rattle.ark_machine.specs.Objects.{Object, Raw, is_vsa}
use Rattle.ark_machine.specs.Machine.{Machine, at, raw_at, missing, is_full, held_count, with_object, with_new}
use Rattle.ark_machine.specs.Row.{Row, Given, Ended, Call, reads, writes, syncs, zeroes_new, writes_slot, answer, has_fault, synced_by}

-- no application has more areas than these
abbrev pub max_areas : ℕ
max_areas = 8

-- so many zero blocks: a raw area, or the empty list of a log or queue
abbrev pub new_area : Kind → ℕ → Object
new_area kind.Raw n = Objects.raw (record { content = replicate n zero_block; maybe = replicate n (zero_block ∷ []) })
new_area k n = Objects.log (record { kind = k; blocks = n; list = found (record { first = 1; payloads = [] }); opened = None; left = None })

-- so many new blocks are zeroed, and then the slot is written
abbrev pub grant_calls : ℕ → List Call
grant_calls n = map zeroes_new (range_with_len 0 n) ++ syncs ∷ writes_slot ∷ syncs ∷ []

-- `vsa A s N KIND`: an area of the N lowest free blocks, zero
abbrev pub vsa : Machine → List ℕ → ℕ → Kind → Given → Row
vsa m s n k g =
    answer m
    (record none {
      no_application = not m.made;
      name_taken = is_some (at m s);
      limit = g.limit || is_full m || nat_le max_areas (held_count is_vsa m);
      table_failed = g.table_failed;
      no_space = g.no_space;
      scattered = g.scattered;
      device_fault = has_fault g.ended;
    })
    (record {
      machine = synced_by g.ended (if has_fault g.ended then m else with_new m s (new_area k n));
      said = said.Ok;
      bytes = [];
      calls = grant_calls n;
    })

abbrev pub grown : ℕ → Raw → Raw
grown n r = record { content = r.content ++ replicate n zero_block; maybe = r.maybe ++ replicate n (zero_block ∷ []) }

abbrev pub with_raw : Machine → List ℕ → (Raw → Raw) → Machine
with_raw m s f = unwrap_or (option_map (λ r. with_object m s (Objects.raw (f r))) (raw_at m s)) m

-- `grow A s N`: the N lowest free blocks more, zero, behind the others
abbrev pub grow : Machine → List ℕ → ℕ → Given → Row
grow m s n g =
    answer m
    (record none {
      no_application = not m.made;
      no_grant = missing m (s ∷ []);
      wrong_kind = is_none (raw_at m s);
      table_failed = g.table_failed;
      no_space = g.no_space;
      scattered = g.scattered;
      device_fault = has_fault g.ended;
    })
    (record {
      machine = synced_by g.ended (if has_fault g.ended then m else with_raw m s (grown n));
      said = said.Ok;
      bytes = [];
      calls = grant_calls n;
    })

-- a block of a raw area
abbrev pub block_at : Machine → List ℕ → ℕ → List ℕ
block_at m s off = unwrap_or (option_map (λ r. slice_index_or r.content off []) (raw_at m s)) []

-- the number of its blocks
abbrev pub area_blocks : Machine → List ℕ → ℕ
area_blocks m s = unwrap_or (option_map (λ r. length r.content) (raw_at m s)) 0

-- `peek A s OFF`: the bytes of one block, without the zeros at its end
abbrev pub peek : Machine → List ℕ → ℕ → Given → Row
peek m s off g =
    answer m
    (record none {
      no_application = not m.made;
      no_grant = missing m (s ∷ []);
      wrong_kind = is_none (raw_at m s);
      out_of_range = nat_le (area_blocks m s) off;
      device_fault = has_fault g.ended;
    })
    (record { machine = m; said = said.Bytes; bytes = trimmed (block_at m s off); calls = reads s off ∷ [] })

-- a raw area after a write that was tried: a stop may leave what was written, and where it took it stands
abbrev pub raw_written : ℕ → List ℕ → Bool → Raw → Raw
raw_written off block took r = record {
  content = (if took then slice_set r.content off block else r.content);
  maybe = slice_set r.maybe off (slice_index_or r.maybe off [] ++ block ∷ []);
}

-- the machine after the writes of one block that were tried, none or one
abbrev pub block_written : Machine → List ℕ → ℕ → List ℕ → List Ended → Machine
block_written m s off block [] = m
block_written m s off block (e ∷ es) = with_raw m s (raw_written off block e.took)

-- `poke A s OFF HEX`: writes one block, these bytes and then zeros
abbrev pub poke : Machine → List ℕ → ℕ → List ℕ → Given → Row
poke m s off bytes g =
    answer m
    (record none {
      no_application = not m.made;
      no_grant = missing m (s ∷ []);
      wrong_kind = is_none (raw_at m s);
      out_of_range = nat_le (area_blocks m s) off;
      device_fault = has_fault g.ended;
    })
    (record { machine = block_written m s off (padded bytes) g.ended; said = said.Ok; bytes = []; calls = writes s off (padded bytes) ∷ [] })

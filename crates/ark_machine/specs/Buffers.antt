-- The rows of the words on buffers: `buf`, `fill`, `show`, `copy`, `free`.
use Rattle.std.specs.Prelude.{ℕ, ◌+◌, Bool, false, not, ◌||◌, List, [], ◌∷◌, length, take, slice_range, replicate, nat_lt, Option, Some, None, is_some, is_none, bytes_eq}
use Rattle.std.specs.List.{list_any}
use Rattle.ark_base.specs.Conditions.{none}
use Rattle.ark_region.specs.Frames.{frames_of}
use Rattle.ark_script.specs.declared.said.Said.TheVariants as said
use Rattle.ark_machine.specs.Bytes.{written}
use Rattle.ark_machine.specs.Objects
use Rattle.ark_machine.specs.Objects.{Object, Job, transfer, flush, phase, Place, named, taken}
use Rattle.ark_machine.specs.Machine.{Machine, at, buffer_at, missing, is_full, holds_any, with_new, with_buffer, without, room_for, bytes_at}
use Rattle.ark_machine.specs.Row.{Row, Given, says, answer}

-- a new buffer of zeros at this place, if there is one
abbrev pub with_new_buffer : Machine → List ℕ → ℕ → Option ℕ → Machine
with_new_buffer m b len (Some start) = with_new m b (Objects.buffer (record { start = start; bytes = replicate len 0 }))
with_new_buffer m b len None = m

-- `buf A b LEN`: a buffer of LEN zero bytes at the least place that has room
abbrev pub buf : Machine → List ℕ → ℕ → Given → Row
buf m b len g =
    answer m
    (record none {
      no_application = not m.made;
      name_taken = is_some (at m b);
      limit = is_full m;
      no_buffer = is_none (room_for m (frames_of len));
    })
    (says (with_new_buffer m b len (room_for m (frames_of len))) said.Ok)

-- Whether a descriptor, posted or unreaped, has the buffer.

abbrev pub job_has : List ℕ → Job → Bool
job_has b (transfer t) = bytes_eq b t.buffer
job_has b flush = false
job_has b (phase p) = false

abbrev pub place_has : List ℕ → Place → Bool
place_has b (named c) = bytes_eq b c
place_has b (taken c) = false

abbrev pub has_buffer : List ℕ → Object → Bool
has_buffer b (Objects.vsic v) = list_any (λ j. job_has b j) v.queue.posted || list_any (λ u. job_has b u.0) v.queue.unreaped
has_buffer b (Objects.vnic v) =
    (list_any (λ p. place_has b p) v.rx.posted || list_any (λ u. place_has b u.0) v.rx.unreaped)
    || (list_any (λ p. place_has b p.0) v.tx.posted || list_any (λ u. place_has b u.0) v.tx.unreaped)
has_buffer b _ = false

abbrev pub is_lent : Machine → List ℕ → Bool
is_lent m b = holds_any m (has_buffer b)

-- the buffer with these bytes at a place
abbrev pub with_bytes : Machine → List ℕ → ℕ → List ℕ → Machine
with_bytes m b off bytes = with_buffer m b (λ x. record x { bytes = written x.bytes off bytes })

-- `fill A b OFF HEX`: writes the bytes at OFF
abbrev pub fill : Machine → List ℕ → ℕ → List ℕ → Given → Row
fill m b off bytes g =
    answer m
    (record none {
      no_application = not m.made;
      no_grant = missing m (b ∷ []);
      wrong_kind = is_none (buffer_at m b);
      out_of_range = nat_lt (length (bytes_at m b)) (off + length bytes);
      lent = is_lent m b;
    })
    (says (with_bytes m b off bytes) said.Ok)

-- `show A b OFF LEN`: shows LEN bytes from OFF on
abbrev pub show : Machine → List ℕ → ℕ → ℕ → Given → Row
show m b off len g =
    answer m
    (record none {
      no_application = not m.made;
      no_grant = missing m (b ∷ []);
      wrong_kind = is_none (buffer_at m b);
      out_of_range = nat_lt (length (bytes_at m b)) (off + len);
      lent = is_lent m b;
    })
    (record { machine = m; said = said.Bytes; bytes = slice_range (bytes_at m b) off (off + len); calls = [] })

-- `copy A b c LEN`: the first LEN bytes of b to the front of c, which may be b
abbrev pub copy : Machine → List ℕ → List ℕ → ℕ → Given → Row
copy m b c len g =
    answer m
    (record none {
      no_application = not m.made;
      no_grant = missing m (b ∷ c ∷ []);
      wrong_kind = is_none (buffer_at m b) || is_none (buffer_at m c);
      out_of_range = nat_lt (length (bytes_at m b)) len || nat_lt (length (bytes_at m c)) len;
      lent = is_lent m b || is_lent m c;
    })
    (says (with_bytes m c 0 (take len (bytes_at m b))) said.Ok)

-- `free A b`: gives the buffer back
abbrev pub free : Machine → List ℕ → Given → Row
free m b g =
    answer m
    (record none {
      no_application = not m.made;
      no_grant = missing m (b ∷ []);
      wrong_kind = is_none (buffer_at m b);
      lent = is_lent m b;
    })
    (says (without m b) said.Ok)

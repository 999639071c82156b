-- What a stop leaves of a device that was there, of which only reads were made, recovers by its slots.
use Rattle.std.proofs.Common.{◌≡◌, inl, inr, ℕ, zero, suc, ◌<◌, Bool, List, [], ◌∷◌, ◌++◌, length, refl, sym, ◌∙◌, ap, subst, Contains}
use Rattle.std.specs.Prelude.{Option, Some, None, Ok, option_map}
use Rattle.std.proofs.lemmas.List.Elements.{Contains-append_left, Contains-get_or}
use Rattle.ark_base.specs.declared.kind.Kind.{Kind}
use Rattle.ark_base.specs.declared.kind.Kind.TheVariants as kind
use Rattle.ark_media.specs.Journal.{Event, Read, History, block, onto, AreReads}
use Rattle.ark_media.specs.Calls.{Call, Reads, Writes, Syncs, Makes}
use Rattle.ark_media.specs.Stops.{MayHold, MayLeave, Whole}
use Rattle.ark_media.specs.Standing.{after}
use Rattle.ark_table.specs.Slots.{Slot, slots_of}
use Rattle.ark_table.specs.Table.{HasTable, slots_in}
use Rattle.ark_table.specs.Standing.{Table}
use Rattle.ark_table.specs.Loading.{read_calls}
use Rattle.ark_table.proofs.Standing.{stands}
use Rattle.ark_table.proofs.Tables.{table_is_read, read_has_table}
use Rattle.ark_entry.specs.Found.{found_of}
use Rattle.ark_caladan.specs.Chain.{Log, lists}
use Rattle.ark_machine.specs.Objects
use Rattle.ark_machine.specs.Objects.{Object, Raw}
use Rattle.ark_machine.specs.Machine.{Held}
use Rattle.ark_machine.specs.Grants.{SlotsAgree}
use Rattle.ark_machine.specs.Start.{contents_at, start_system}
use Rattle.ark_machine.specs.System.{System, machine_of}
use Rattle.ark_machine.specs.Recovers.{Recovers, object_of, object_maybe, object_lists, written_to, BlocksStand, LogStands, ContentStands}
use Rattle.ark_laws.proofs.Stored.{stored_apart}
use Rattle.ark_held.proofs.Fronts.{shows}
use Rattle.ark_host.specs.Stored.{IsStoredArea}
use Rattle.ark_host.specs.Loaded.{as_found}
use Rattle.ark_host.proofs.Fronts.{place_of}
use Rattle.ark_host.proofs.Storing.{stored_found}
use Rattle.ark_plane.proofs.Tabling.{fit_in}
use Rattle.ark_host.proofs.Starting.{all_named, unmade_stands, table_stands}
use Rattle.ark_held.proofs.Members.{contains_in}

-- Calls that only read.

abbrev OnlyRead : List Call → Type 0
OnlyRead [] = Unit {0}
OnlyRead (Reads n ∷ cs) = OnlyRead cs
OnlyRead (Writes n content ∷ cs) = ⊥
OnlyRead (Syncs ∷ cs) = ⊥

read_more : (cs : List Call) (n : ℕ) → OnlyRead cs → OnlyRead (cs ++ Reads n ∷ [])
read_more [] n only = tt
read_more (Reads m ∷ cs) n only = read_more cs n only
read_more (Writes m content ∷ cs) n only = absurd only
read_more (Syncs ∷ cs) n only = absurd only

only_read : (count : ℕ) → OnlyRead (read_calls count)
only_read zero = tt
only_read (suc n) = read_more (read_calls n) n (only_read n)

made_reads : (cs : List Call) (ok : Bool) (es : List Event) → OnlyRead cs → Makes cs ok es → AreReads es
made_reads [] ok [] only made = tt
made_reads [] ok (e ∷ es) only made = absurd made
made_reads (Reads n ∷ cs) ok [] only made = absurd made
made_reads (Reads n ∷ cs) ok (e ∷ es) only (inl m) = subst (λ (x : Event). AreReads (x ∷ es)) (sym m.0) (made_reads cs ok es only m.1)
made_reads (Reads n ∷ cs) ok (e ∷ es) only (inr m) = subst (λ (x : Event). AreReads (x ∷ es)) (sym m.0) (subst (λ (x : List Event). AreReads x) (sym m.2) tt)
made_reads (Writes n content ∷ cs) ok es only made = absurd only
made_reads (Syncs ∷ cs) ok es only made = absurd only

pub reads_of : (count : ℕ) (ok : Bool) (es : List Event) → Makes (read_calls count) ok es → AreReads es
reads_of count ok es made = made_reads (read_calls count) ok es (only_read count) made

pub reads_front : (front back : List Event) → AreReads (front ++ back) → AreReads front
reads_front [] back reads = tt
reads_front (Read n ok ∷ front) back reads = reads_front front back reads
reads_front (_ ∷ front) back reads = absurd reads

-- The table, and what is stored in its slots.

module _ (image : List (List ℕ)) (table : Table) (has : HasTable table image) (es : List Event) (reads : AreReads es) (left_image : List (List ℕ)) (left : MayLeave Whole image (onto es []) left_image) (rest : List Event) where
  abbrev slots : List Slot
  slots = slots_in 1 table

  abbrev s : System
  s = start_system image slots

  abbrev h : History
  h = after (as_found image) es

  agree : SlotsAgree (length image) slots
  agree = stored_apart image slots (table_is_read table image has)

  inside : (t : Slot) → Contains slots t → (n : ℕ) → Contains t.blocks n → n < length image
  inside t slot n among = ((fit_in (length image) slots t agree.fit (contains_in slots t slot)).data_part n among).1

  blocks_stand : (t : Slot) → Contains slots t → (r : Raw) → object_of s t ≡ Some (Objects.raw r) → IsStoredArea h t (Objects.raw r) → BlocksStand s None rest left_image t
  blocks_stand t slot r object is k n place =
      let p = place_of t.blocks k n place in
      let among : Contains t.blocks n = subst (λ (i : ℕ). Contains t.blocks i) p.1 (Contains-get_or t.blocks k 0 p.0) in
      Contains-append_left (object_maybe k (object_of s t)) (written_to n rest) (block left_image n)
      (subst (λ (o : Option Object). Contains (object_maybe k o) (block left_image n)) (sym object)
      (is.1.maybe k p.0 (block left_image n) (subst (λ (i : ℕ). MayHold Whole image (onto es []) i (block left_image n)) (sym p.1) (left.each n (inside t slot n among)))))

  log_stands : (t : Slot) → Contains slots t → (g : Log) → object_of s t ≡ Some (Objects.log g) → IsStoredArea h t (Objects.log g) → LogStands s None left_image t
  log_stands t slot g object is =
      subst (λ (o : Option Object). Contains (object_lists o) (found_of t.kind (contents_at left_image t.blocks))) (sym object)
      (subst (λ (k : Kind). Contains (lists g) (found_of k (contents_at left_image t.blocks))) (sym is.same_kind)
      (is.listed.left (contents_at left_image t.blocks) (shows h t.blocks left_image (inside t slot) left)))

  chain_stands : (t : Slot) (k : Kind) → (k ≡ kind.Raw → ⊥) → LogStands s None left_image t → ContentStands s None rest left_image t k
  chain_stands t kind.Raw other c = absurd (other refl)
  chain_stands t kind.Log other c = c
  chain_stands t kind.Queue other c = c

  content_stands : (t : Slot) → Contains slots t → (o : Object) → object_of s t ≡ Some o → IsStoredArea h t o → ContentStands s None rest left_image t t.kind
  content_stands t slot (Objects.raw r) object is = subst (λ (k : Kind). ContentStands s None rest left_image t k) (sym is.0) (blocks_stand t slot r object is)
  content_stands t slot (Objects.log g) object is = chain_stands t t.kind (λ raw. is.no_raw (sym is.same_kind ∙ raw)) (log_stands t slot g object is)
  content_stands t slot (Objects.vsic r) object is = absurd is
  content_stands t slot (Objects.vnic r) object is = absurd is
  content_stands t slot (Objects.filter r q) object is = absurd is
  content_stands t slot (Objects.door r) object is = absurd is
  content_stands t slot (Objects.rate r q) object is = absurd is
  content_stands t slot (Objects.buffer r) object is = absurd is
  content_stands t slot (Objects.socket r) object is = absurd is

  contents : (t : Slot) → Contains slots t → ContentStands s None rest left_image t t.kind
  contents t slot =
      let f = stored_found (length image) slots agree (all_named image table has) t 129 h (machine_of s t.app) (unmade_stands image table has es reads 129 refl t.app).holds slot in
      content_stands t slot f.held.object (ap (λ (o : Option Held). option_map (λ (z : Held). z.object) o) f.there) f.area

  recovers : Recovers s None rest left_image
  recovers = record {
    slots = slots;
    readable = table_is_read table left_image (stands h table left_image (table_stands image table has es reads) left);
    held = λ t held. inl (t, held, inl (inl refl));
    others = λ t seen. inl (seen.0, t, seen.1, seen.2, inl (inl refl));
    contents = contents;
  }

pub start_recovers : (image : List (List ℕ)) (slots : List Slot) → slots_of image ≡ Ok slots → (es : List Event) → AreReads es → (left : List (List ℕ)) → MayLeave Whole image (onto es []) left → (rest : List Event) → Recovers (start_system image slots) None rest left
start_recovers image slots is es reads image_left left rest =
    let t = read_has_table image slots is in
    subst (λ (ts : List Slot). Recovers (start_system image ts) None rest image_left) (sym t.2) (recovers image t.0 t.1 es reads image_left left rest)

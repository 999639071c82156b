-- A host that was just loaded stands for the system of the slots of its device.
use Rattle.std.proofs.Common.{◌≡◌, inl, inr, ℕ, suc, ◌+◌, ◌<◌, ◌≤◌, Bool, true, false, cond, List, [], ◌∷◌, ◌++◌, length, map, get_or, nat_le, ◌&&◌, refl, sym, ◌∙◌, ap, subst, arith, bytes_eq, append_assoc, append-nil, Contains}
use Rattle.std.specs.Prelude.{Option, Some, None, Ok, find, count_by}
use Rattle.std.specs.List.{list_all}
use Rattle.std.specs.List.Sorted.{IsStrictlyIncreasing}
use Rattle.std.proofs.lemmas.Bool.{cases_eq, and_parts, leb-true}
use Rattle.std.proofs.lemmas.Bool.Decides.{nat_tests}
use Rattle.std.proofs.lemmas.List.{length-map, get_or-map, get_or_past}
use Rattle.std.proofs.lemmas.List.Elements.{Contains-get_or}
use Rattle.ark_base.specs.Name.{is_name}
use Rattle.ark_base.specs.declared.kind.Kind.{Kind}
use Rattle.ark_base.specs.declared.kind.Kind.TheVariants as kind
use Rattle.ark_media.specs.Journal.{Event, Read, Write, Sync, Out, History, block, current, onto, AreReads}
use Rattle.ark_media.specs.Calls.{Told, OnTold}
use Rattle.ark_media.specs.Stops.{MayHold, Whole}
use Rattle.ark_media.specs.Standing.{after}
use Rattle.ark_extents.specs.Blocks.{blocks_of, runs_of}
use Rattle.ark_extents.specs.Runs.{are_spans}
use Rattle.ark_extents.proofs.RunLemmas.{runs_of-blocks_of, spans_longest}
use Rattle.ark_table.specs.Area.{Area, is_area, is_data, least_blocks, block_total}
use Rattle.ark_table.specs.Slots.{Slot, slot_at, slots_of}
use Rattle.ark_table.specs.Table.{HasTable, IsSlotBlock, area_at, is_of, slots_in}
use Rattle.ark_table.specs.Standing.{Table, IsTableOf, IsWritten}
use Rattle.ark_table.proofs.Spelling.{count_is}
use Rattle.ark_table.proofs.Standing.{attached, stays}
use Rattle.ark_table.proofs.Tables.{table_is_read}
use Rattle.ark_entry.specs.Found.{Found, found, damaged, found_of}
use Rattle.ark_caladan.specs.Chain.{stored_after, list_choices}
use Rattle.ark_machine.specs.Machine.{Machine, Held, unmade, with_new}
use Rattle.ark_machine.specs.Plane.{is_slot_of}
use Rattle.ark_machine.specs.Grants.{SlotsAgree}
use Rattle.ark_machine.specs.Start.{contents_at, stored_area, start_system}
use Rattle.ark_machine.specs.System.{System, machine_of}
use Rattle.ark_machine.specs.Told.{own_slots, area_in, with_areas}
use Rattle.ark_laws.proofs.Stored.{stored_apart}
use Rattle.ark_laws.proofs.Told.{start_private}
use Rattle.ark_held.specs.Areas.{IsRaw, IsListed, MayShow, AreFullIf}
use Rattle.ark_held.specs.Beside.{AreBeside}
use Rattle.ark_held.proofs.Besides.{may_beside}
use Rattle.ark_held.proofs.Lists.{same_name, name_same}
use Rattle.ark_held.proofs.Members.{In, contains_in}
use Rattle.ark_held.specs.declared.app.App.{App}
use Rattle.ark_host.specs.declared.host.Host.{Host}
use Rattle.ark_plane.specs.Tables.{table_of, slot_count}
use Rattle.ark_host.specs.Stored.{IsStoredArea, AllStored, HoldsStored, stored_slots}
use Rattle.ark_host.specs.Stands.{IsUnmade, AtApp, app_of, area_count}
use Rattle.ark_plane.specs.Loading.{IsUnused}
use Rattle.ark_host.specs.Loaded.{as_found, StandsLoaded, IsLoaded}
use Rattle.ark_plane.proofs.Tests.{by_test}
use Rattle.ark_plane.proofs.Lists.{find_in, in_select}
use Rattle.ark_plane.proofs.Entries.{table_again, free_same}
use Rattle.ark_plane.proofs.Tabling.{none_some, same_some, of_table, fit_in, owned_counted}

-- Reads change nothing.

reads_beside : (blocks : List ℕ) (es : List Event) → AreReads es → AreBeside blocks es
reads_beside blocks [] reads = tt
reads_beside blocks (Read n ok ∷ es) reads = reads_beside blocks es reads
reads_beside blocks (Write n c took ok ∷ es) reads = absurd reads
reads_beside blocks (Sync ok ∷ es) reads = absurd reads
reads_beside blocks (Out bytes ∷ es) reads = absurd reads

pub current_reads : (image : List (List ℕ)) (es j : List Event) → AreReads es → current image (onto es j) ≡ current image j
current_reads image [] j reads = refl
current_reads image (Read n ok ∷ es) j reads = current_reads image es (Read n ok ∷ j) reads
current_reads image (Write n c took ok ∷ es) j reads = absurd reads
current_reads image (Sync ok ∷ es) j reads = absurd reads
current_reads image (Out bytes ∷ es) j reads = absurd reads

none_written : (es : List Event) (n : ℕ) → AreReads es → IsWritten n es → ⊥
none_written [] n reads written = written
none_written (Read m ok ∷ es) n reads written = none_written es n reads written
none_written (Write m c took ok ∷ es) n reads written = reads
none_written (Sync ok ∷ es) n reads written = reads
none_written (Out bytes ∷ es) n reads written = reads

one_block : (n : ℕ) → Contains (n ∷ []) n
one_block n = (0, omega arith, refl)

-- What is stored in a slot is what is found in its blocks.

shown_same : (image : List (List ℕ)) (blocks : List ℕ) (contents : List (List ℕ)) → length contents ≡ length blocks → ((k : ℕ) → k < length blocks → get_or contents k [] ≡ block image (get_or blocks k 0)) → contents ≡ contents_at image blocks
shown_same image [] [] size each = refl
shown_same image [] (c ∷ cs) size each = absurd (omega (arith, size))
shown_same image (b ∷ bs) [] size each = absurd (omega (arith, size))
shown_same image (b ∷ bs) (c ∷ cs) size each =
    ap (λ (x : List ℕ). x ∷ cs) (each 0 (omega arith)) ∙ ap (λ (xs : List (List ℕ)). block image b ∷ xs) (shown_same image bs cs (omega (arith, size)) (λ k lt. each (suc k) (omega (arith, lt))))

stored_same : (x : Found) → x ≡ stored_after x None
stored_same (found l) = refl
stored_same (damaged n) = refl

choice_first : (x : Found) → Contains (list_choices x None) x
choice_first (found l) = (0, omega arith, refl)
choice_first (damaged n) = (0, omega arith, refl)

module _ (image : List (List ℕ)) (es : List Event) (reads : AreReads es) where
  abbrev h : History
  h = after (as_found image) es

  now_same : current h.base h.journal ≡ image
  now_same = current_reads image es [] reads

  still : (n : ℕ) (c : List ℕ) → n < length image → MayHold Whole h.base h.journal n c → c ≡ block image n
  still n c lt left = may_beside image (n ∷ []) es [] n lt (one_block n) (reads_beside (n ∷ []) es reads) c left

  module _ (t : Slot) (inside : (n : ℕ) → Contains t.blocks n → n < length image) where
    abbrev contents : List (List ℕ)
    contents = contents_at image t.blocks

    each_content : (k : ℕ) → k < length t.blocks → get_or contents k [] ≡ block image (get_or t.blocks k 0)
    each_content k lt = get_or-map (λ n. block image n) t.blocks k 0 [] lt

    raw_stands : IsRaw h t.blocks (record { content = contents; maybe = map (λ b. b ∷ []) contents })
    raw_stands = record {
      size = length-map t.blocks (λ n. block image n);
      content = λ k lt. each_content k lt ∙ ap (λ (x : List (List ℕ)). block x (get_or t.blocks k 0)) (sym now_same);
      choices = length-map contents (λ b. b ∷ []) ∙ length-map t.blocks (λ n. block image n);
      maybe = λ k lt c left.
          let many : k < length contents = (let len = length-map t.blocks (λ n. block image n) in omega (arith, lt, len)) in
          subst (λ (xs : List (List ℕ)). Contains xs c) (sym (get_or-map (λ (b : List ℕ). b ∷ []) contents k [] [] many))
          (0, omega arith, each_content k lt ∙ sym (still (get_or t.blocks k 0) c (inside (get_or t.blocks k 0) (Contains-get_or t.blocks k 0 lt)) left));
    }

    shown : (seen : List (List ℕ)) → MayShow h t.blocks seen → seen ≡ contents
    shown seen may = shown_same image t.blocks seen may.size (λ k lt. still (get_or t.blocks k 0) (get_or seen k []) (inside (get_or t.blocks k 0) (Contains-get_or t.blocks k 0 lt)) (may.each k lt))

    listed_stands : (k : Kind) → IsListed h t.blocks (record { kind = k; blocks = length contents; list = found_of k contents; opened = None; left = None })
    listed_stands k = record {
      now = ap (λ (x : List (List ℕ)). found_of k (contents_at x t.blocks)) now_same ∙ stored_same (found_of k contents);
      left = λ seen may. subst (λ (x : List (List ℕ)). Contains (list_choices (found_of k contents) None) (found_of k x)) (sym (shown seen may)) (choice_first (found_of k contents));
    }

    full_stands : AreFullIf h t.blocks
    full_stands whole k lt c left =
        let low = inside (get_or t.blocks k 0) (Contains-get_or t.blocks k 0 lt) in
        ap (λ (b : List ℕ). length b) (still (get_or t.blocks k 0) c low left) ∙ whole (get_or t.blocks k 0) low

    log_no_raw : kind.Log ≡ kind.Raw → ⊥
    log_no_raw e = absurd cc

    queue_no_raw : kind.Queue ≡ kind.Raw → ⊥
    queue_no_raw e = absurd cc

    pub area_stands : least_blocks t.kind ≤ length t.blocks → (k : Kind) → t.kind ≡ k → IsStoredArea h t (stored_area k contents)
    area_stands least kind.Raw is = (is, raw_stands)
    area_stands least kind.Log is = record { same_kind = is; no_raw = log_no_raw; blocks = length-map t.blocks (λ n. block image n); two = subst (λ (y : Kind). least_blocks y ≤ length t.blocks) is least; closed = refl; listed = listed_stands kind.Log; full = full_stands }
    area_stands least kind.Queue is = record { same_kind = is; no_raw = queue_no_raw; blocks = length-map t.blocks (λ n. block image n); two = subst (λ (y : Kind). least_blocks y ≤ length t.blocks) is least; closed = refl; listed = listed_stands kind.Queue; full = full_stands }

  -- The machine of an application.

  abbrev new_held : ℕ → List Slot → List Held
  new_held n [] = []
  new_held n (t ∷ ts) = (record { label = t.label; serial = n; object = stored_area t.kind (contents_at image t.blocks) }) ∷ new_held (n + 1) ts

  all_new : (n : ℕ) (ts : List Slot) → ((t : Slot) → In ts t → (m : ℕ) → Contains t.blocks m → m < length image) → ((t : Slot) → In ts t → least_blocks t.kind ≤ length t.blocks) → AllStored h n ts (new_held n ts)
  all_new n [] inside least = tt
  all_new n (t ∷ ts) inside least =
      (record { label = refl; serial = refl; object = area_stands t (inside t (inl refl)) (least t (inl refl)) t.kind refl }, all_new (n + 1) ts (λ u among. inside u (inr among)) (λ u among. least u (inr among)))

abbrev stored_for : List (List ℕ) → List Slot → Machine → Machine
stored_for image ts m = with_areas m (map (area_in image) ts)

held_from : (image : List (List ℕ)) (es : List Event) (reads : AreReads es) (ts : List Slot) (m : Machine) → (stored_for image ts m).held ≡ m.held ++ new_held image es reads m.serial ts
held_from image es reads [] m = sym (append-nil m.held)
held_from image es reads (t ∷ ts) m =
    held_from image es reads ts (with_new m t.label (stored_area t.kind (contents_at image t.blocks)))
    ∙ append_assoc m.held ((record { label = t.label; serial = m.serial; object = stored_area t.kind (contents_at image t.blocks) }) ∷ []) (new_held image es reads (m.serial + 1) ts)

serial_from : (image : List (List ℕ)) (ts : List Slot) (m : Machine) → (stored_for image ts m).serial ≡ m.serial + length ts
serial_from image [] m = omega arith
serial_from image (t ∷ ts) m = serial_from image ts (with_new m t.label (stored_area t.kind (contents_at image t.blocks))) ∙ omega arith

made_from : (image : List (List ℕ)) (ts : List Slot) (m : Machine) → (stored_for image ts m).made ≡ m.made
made_from image [] m = refl
made_from image (t ∷ ts) m = made_from image ts (with_new m t.label (stored_area t.kind (contents_at image t.blocks)))

now_from : (image : List (List ℕ)) (ts : List Slot) (m : Machine) → (stored_for image ts m).now ≡ m.now
now_from image [] m = refl
now_from image (t ∷ ts) m = now_from image ts (with_new m t.label (stored_area t.kind (contents_at image t.blocks)))

find_some : {X : Type 0} (p : X → Bool) (ts : List X) (t : X) → In ts t → p t ≡ true → (u : X) × (find p ts ≡ Some u)
find_some p [] t h is = absurd h
find_some p (s ∷ ts) t (inl e) is = (s, ap (λ b. cond b (Some s) (find p ts)) (ap p e ∙ is))
find_some {X = X} p (s ∷ ts) t (inr found_later) is = by (find_some p ts t found_later is) (p s)
  where
    by : (u : X) × (find p ts ≡ Some u) → (b : Bool) → (u : X) × (cond b (Some s) (find p ts) ≡ Some u)
    by rest true = (s, refl)
    by rest false = rest

module _ (image : List (List ℕ)) (table : Table) (has : HasTable table image) where
  abbrev slots : List Slot
  slots = slots_in 1 table

  abbrev size : ℕ
  size = length image

  read : slots_of image ≡ Ok slots
  read = table_is_read table image has

  agree : SlotsAgree size slots
  agree = stored_apart image slots read

  table_near : (k : ℕ) (a : Area) → area_at table k ≡ Some a → k < 128
  table_near k a is = by_test (nat_le 128 k) (λ b. nat_le 128 k ≡ b → k < 128)
      (λ yes q. absurd (none_some a (sym (past k (grind (arith, nat_tests, q))) ∙ is))) (λ no q. grind (arith, nat_tests, q)) refl
    where
      past : (j : ℕ) → 128 ≤ j → area_at table j ≡ None
      past j le = get_or_past table j None (let len = has.size in omega (arith, len, le))

  is_right : (k : ℕ) (a : Area) → area_at table k ≡ Some a → is_area size a ≡ true
  is_right k a is = (subst (λ (o : Option Area). IsSlotBlock size (block image (k + 1)) o) is (has.says k (table_near k a is))).0

  -- an area has the longest runs of its blocks
  longest : (k : ℕ) (a : Area) → area_at table k ≡ Some a → runs_of (blocks_of a.runs) ≡ a.runs
  longest k a is =
      let p = and_parts _ _ (is_right k a is) in
      let q = and_parts _ _ p.1 in
      let r = and_parts _ _ q.1 in
      runs_of-blocks_of a.runs (spans_longest a.runs r.0)

  -- it has the blocks that its kind asks for
  least : (k : ℕ) (a : Area) → area_at table k ≡ Some a → least_blocks a.kind ≤ length (blocks_of a.runs)
  least k a is =
      let p = and_parts (is_name a.app) _ (is_right k a is) in
      let q = and_parts (is_name a.label) _ p.1 in
      let r = and_parts (are_spans a.runs) _ q.1 in
      let s = and_parts (list_all (is_data size) a.runs) (nat_le (least_blocks a.kind) (block_total a.runs)) r.1 in
      omega (arith, leb-true (least_blocks a.kind) (block_total a.runs) s.1, count_is a.runs)

  least_in : (t : Slot) → In slots t → least_blocks t.kind ≤ length t.blocks
  least_in t among =
      let from = of_table table 1 t among in
      subst (λ (u : Slot). least_blocks u.kind ≤ length u.blocks) (sym from.3) (least from.0 from.1 from.2)

  table_is : table_of slots ≡ table
  table_is = table_again size table has.size longest agree

  -- no two slots have one application and label
  pub all_named : (t : Slot) → Contains slots t → find (λ v. is_slot_of t.app t.label v) slots ≡ Some t
  all_named t held =
      let among = contains_in slots t held in
      let first = find_some (λ v. is_slot_of t.app t.label v) slots t among (ap (λ b. b && bytes_eq t.label t.label) (name_same t.app t.app refl) ∙ name_same t.label t.label refl) in
      let seen = find_in (λ v. is_slot_of t.app t.label v) slots first.0 first.1 in
      let names = and_parts (bytes_eq t.app first.0.app) (bytes_eq t.label first.0.label) seen.1 in
      first.1 ∙ ap (λ (u : Slot). Some u) (same first.0 (of_table table 1 first.0 seen.0) (of_table table 1 t among) (same_name t.app first.0.app names.0) (same_name t.label first.0.label names.1))
    where
      same : (u : Slot) → (i : ℕ) × (a : Area) × (area_at table i ≡ Some a) × (u ≡ slot_at (1 + i) a) → (k : ℕ) × (b : Area) × (area_at table k ≡ Some b) × (t ≡ slot_at (1 + k) b) → t.app ≡ u.app → t.label ≡ u.label → u ≡ t
      same u x y app label = elim (cases_eq x.0 y.0) [
        | inl e ↦
            let areas : x.1 ≡ y.1 = same_some x.1 y.1 (sym x.2 ∙ ap (λ j. area_at table j) e ∙ y.2) in
            x.3 ∙ ap (λ j. slot_at (1 + j) x.1) e ∙ ap (λ (a : Area). slot_at (1 + y.0) a) areas ∙ sym y.3
        | inr ne ↦ absurd ((has.together x.0 y.0 x.1 y.1 ne x.2 y.2).differ
            (ap (λ (v : Slot). v.app) (sym x.3) ∙ sym app ∙ ap (λ (v : Slot). v.app) y.3) (ap (λ (v : Slot). v.label) (sym x.3) ∙ sym label ∙ ap (λ (v : Slot). v.label) y.3))
      ]

  few_own : (a : List ℕ) → slot_count a slots ≤ 8
  few_own a = let count = owned_counted size a slots agree.fit agree.apart in let few = has.few a in let same : count_by (is_of a) (table_of slots) ≡ count_by (is_of a) table = ap (λ (t : Table). count_by (is_of a) t) table_is in omega (arith, count, few, same)

  -- The applications.

  module _ (es : List Event) (reads : AreReads es) where
    abbrev past : History
    past = after (as_found image) es

    abbrev system : System
    system = start_system image slots

    -- an application's slots, in the order of the table
    mine_same : (a : List ℕ) → stored_slots a slots ≡ own_slots a slots
    mine_same a = ap (λ (t : Table). own_slots a (slots_in 1 t)) table_is

    machine_is : (a : List ℕ) → machine_of system a ≡ stored_for image (own_slots a slots) unmade
    machine_is a = start_private image slots a

    in_device : (a : List ℕ) (t : Slot) → In (own_slots a slots) t → (n : ℕ) → Contains t.blocks n → n < size
    in_device a t among n has_n = ((fit_in size slots t agree.fit (in_select (λ (v : Slot). bytes_eq a v.app) slots t among).0).data_part n has_n).1

    pub unmade_stands : (grants : ℕ) → grants ≡ 129 → (a : List ℕ) → IsUnmade grants past system a
    unmade_stands grants is a = record {
      made = ap (λ (m : Machine). m.made) (machine_is a) ∙ made_from image (own_slots a slots) unmade;
      holds = subst (λ (ts : List Slot). HoldsStored grants past ts (machine_of system a)) (sym (mine_same a)) (subst (λ (m : Machine). HoldsStored grants past (own_slots a slots) m) (sym (machine_is a)) (record {
        serial = serial_from image (own_slots a slots) unmade ∙ (let e : 0 + length (own_slots a slots) ≡ length (own_slots a slots) = omega arith in e);
        stored = subst (λ (hs : List Held). AllStored past 0 (own_slots a slots) hs) (sym (held_from image es reads (own_slots a slots) unmade)) (all_new image es reads 0 (own_slots a slots) (λ t among. in_device a t among) (λ t among. least_in t (in_select (λ (v : Slot). bytes_eq a v.app) slots t among).0));
        below = λ t among.
            let high = (fit_in size slots t agree.fit (in_select (λ (v : Slot). bytes_eq a v.app) slots t (contains_in (own_slots a slots) t among)).0).index_high in
            omega (arith, high, is);
      }));
    }

    -- the table stands, whatever a stop leaves
    pub table_stands : IsTableOf past table
    table_stands = stays (as_found image) table es (attached image table has) (λ n written. absurd (none_written es n reads written))

    -- The host.

    module _ (host : Host) (apps : host.apps.items ≡ []) (tables : host.plane.table ≡ table) (failed : host.plane.failed ≡ false) (grants : host.grants ≡ 129) (clock : host.clock ≡ 0) (addresses : host.plane.own ≡ None)
        (increasing : IsStrictlyIncreasing host.plane.free) (unused : IsUnused size table host.plane.free) where
      pub start_stands : StandsLoaded host size image es
      start_stands = record {
        slots = slots;
        found = read;
        count = ap (λ (t : Table). length (slots_in 1 t)) tables;
        stands = record {
          plane = record {
            size = refl;
            own = sym addresses;
            filters = refl;
            apps = ap (λ (l : List App). map (λ app. app.name) l) (sym apps);
            table = tables ∙ sym table_is;
            failed = sym failed;
            free = λ no. free_same size table host.plane.free increasing unused;
            settled = λ no. refl;
            beside = tt;
            apart = agree;
            named = all_named;
            counted = λ a. subst (λ (l : List App). slot_count a slots ≤ area_count (app_of l a)) (sym apps) (few_own a);
          };
          based = refl;
          table = subst (λ (t : Table). IsTableOf past t) (sym table_is) table_stands;
          now = sym clock;
          machines = λ a. subst (λ (l : List App). AtApp host.grants past system a (app_of l a)) (sym apps) (unmade_stands host.grants grants a);
          same_now = λ a. ap (λ (m : Machine). m.now) (machine_is a) ∙ now_from image (own_slots a slots) unmade;
        };
      }

-- The same for a device of so many blocks.
loaded_stands : (blocks : ℕ) (image : List (List ℕ)) (table : Table) (es : List Event) → AreReads es → length image ≡ blocks → HasTable table image → (host : Host) → host.apps.items ≡ [] → host.plane.table ≡ table → host.plane.failed ≡ false → host.grants ≡ 129 → host.clock ≡ 0 → host.plane.own ≡ None
    → IsStrictlyIncreasing host.plane.free → IsUnused blocks table host.plane.free → StandsLoaded host blocks image es
loaded_stands blocks image table es reads len has host apps tables failed grants clock addresses increasing unused =
    subst (λ n. StandsLoaded host n image es) len (start_stands image table has es reads host apps tables failed grants clock addresses increasing (subst (λ n. IsUnused n table host.plane.free) (sym len) unused))

-- By the table that was loaded, the host stands for whatever device it was loaded from.
pub all_loaded : (told : Told) (host : Host) → ((h : History) → told.history ≡ Some h → length h.base ≡ told.blocks) → OnTold told (HasTable host.plane.table) → host.apps.items ≡ [] → host.plane.failed ≡ false → host.grants ≡ 129 → host.clock ≡ 0 → host.plane.own ≡ None
    → IsStrictlyIncreasing host.plane.free → IsUnused told.blocks host.plane.table host.plane.free → IsLoaded told host
all_loaded told host sized has apps failed grants clock addresses increasing unused = λ image es is reads.
    loaded_stands told.blocks image host.plane.table es reads (sized (after (as_found image) es) is) (subst (λ (x : List (List ℕ)). HasTable host.plane.table x) (current_reads image es [] reads) (has (after (as_found image) es) is))
    host apps refl failed grants clock addresses increasing unused

-- What the row of a command of a log asks, and how a word that gives one is refused.
use Rattle.std.proofs.Common.{◌≡◌, inl, inr, ℕ, ◌+◌, ◌-◌, ◌*◌, ◌/◌, ◌^◌, ◌<◌, ◌≤◌, Bool, true, false, not, ◌||◌, List, [], ◌∷◌, length, refl, sym, ◌∙◌, ap, subst, arith}
use Rattle.std.specs.Prelude.{Some, None, Err, is_none, get_or, nat_lt, sum_by, take}
use Rattle.std.proofs.lemmas.Bool.Decides.{nat_tests}
use Rattle.ark_base.specs.Conditions.{Conditions, none, early}
use Rattle.ark_base.specs.declared.kind.Kind.{Kind}
use Rattle.ark_base.specs.declared.refusal.Refusal.{Refusal}
use Rattle.ark_base.specs.declared.refusal.Refusal.TheVariants as r
use Rattle.ark_media.specs.Calls.{Told}
use Rattle.ark_script.specs.declared.said.Said.TheVariants as said
use Rattle.ark_region.specs.Frames.{IsFreeRun, IsLeastPlace, IsTaken}
use Rattle.ark_entry.specs.Entry.{entry_blocks}
use Rattle.ark_entry.specs.Found.{Entries}
use Rattle.ark_caladan.specs.Chain as log
use Rattle.ark_caladan.specs.Chain.{Command, Log, Opened, after_all, commands, entries}
use Rattle.ark_caladan.specs.Plans.{added_by}
use Rattle.ark_log.specs.Buffers.{HasNoPlace}
use Rattle.ark_log.specs.Open.{OpenChain}
use Rattle.ark_log.specs.Refused.{IsFull, length_of, next_number}
use Rattle.ark_log.proofs.Standing.{next_is, used_is}
use Rattle.ark_running.proofs.Lengths.{coming_length}
use Rattle.ark_running.proofs.More.{as_many}
use Rattle.ark_machine.specs.Machine.{Machine, log_at, missing, room_for}
use Rattle.ark_machine.specs.Logs.{append_blocks, coming, has_failed, is_crowded, max_number, opened_at, opened_of, payload_blocks, pop_blocks, ring_blocks, same_kind, used_blocks}
use Rattle.ark_machine.specs.Row.{Row, Given, answer}
use Rattle.ark_held.specs.Beyond.{Beyond, around}
use Rattle.ark_held.specs.Does.{Acts}
use Rattle.ark_held.specs.Held.{Holds}
use Rattle.ark_held.specs.declared.app.App.{App}
use Rattle.ark_held.proofs.Doing.{refused_first, refuses}
use Rattle.ark_held.proofs.Lists.{le_true, le_false, lt_true}
use Rattle.ark_held.proofs.Placing.{place_is, place_none}
use Rattle.ark_held.proofs.Sized.{sized}
use Rattle.ark_own.proofs.Looked.{Looked}
use Rattle.ark_logs.specs.declared.finding.OpenAt.{OpenAt}
use Rattle.ark_logs.proofs.OfLogs.{FoundOpen}

-- whether the log under a label is full for an entry
abbrev pub is_full : List ℕ → List ℕ → Machine → Bool
is_full s payload m = nat_lt (ring_blocks m s) (used_blocks m s + payload_blocks payload) || nat_lt max_number (log.next_number (coming m s))

one_first : (ps : List (List ℕ)) → 0 < length ps → sum_by payload_blocks (take 1 ps) ≡ entry_blocks (length (get_or ps 0 []))
one_first [] some = absurd (omega (arith, some))
one_first (p ∷ ps) some = omega arith

-- What the machine has of the log that is open.
module _ (r : Beyond) (app : App) (h : Holds (around r app)) (s : List ℕ) (a : OpenAt) (f : FoundOpen (around r app) app.devices.cards s a) where
  abbrev m : Machine
  m = r.machine

  abbrev v : OpenChain
  v = f.chain

  abbrev l : Entries
  l = entries f.both.log.list

  abbrev cs : List Command
  cs = commands f.opened

  log_is : log_at m s ≡ Some f.both.log
  log_is = rw (f.both.there_log, f.both.object_log) refl

  opened_is : opened_of (log_at m s) ≡ Some f.opened
  opened_is = rw (f.both.there_log, f.both.object_log, f.is_open) refl

  coming_is : coming m s ≡ after_all l cs
  coming_is = rw (f.both.there_log, f.both.object_log, f.is_open) refl

  -- the numbers of the first entry and of the next one, once all commands are acknowledged
  pub first_is : (coming m s).first ≡ v.coming
  first_is = ap (λ (z : Entries). z.first) coming_is ∙ sym f.runs.is.stands.coming

  pub next_same : log.next_number (coming m s) ≡ next_number v
  next_same = ap log.next_number coming_is ∙ sym (next_is v l cs f.runs.is.stands f.runs.is.can)

  -- so many entries there are then
  pub many_is : length (coming m s).payloads ≡ next_number v - v.coming
  many_is = let first = first_is in let next = next_same in omega (arith, first, next)

  sums_same : (ds : List Command) → sum_by append_blocks ds ≡ sum_by added_by ds
  sums_same [] = refl
  sums_same (log.append n p ∷ ds) = let rest = sums_same ds in omega (arith, rest)
  sums_same (log.trim n ∷ ds) = let rest = sums_same ds in omega (arith, rest)
  sums_same (log.pop n ∷ ds) = let rest = sums_same ds in omega (arith, rest)

  used_same : used_blocks m s ≡ v.used
  used_same =
      let here : used_blocks m s ≡ sum_by payload_blocks l.payloads + sum_by append_blocks cs = rw (f.both.there_log, f.both.object_log, f.is_open) refl in
      here ∙ ap (λ n. sum_by payload_blocks l.payloads + n) (sums_same cs) ∙ sym (used_is v l cs f.runs.is.stands f.runs.is.right)

  ring_same : ring_blocks m s ≡ v.room
  ring_same =
      let here : ring_blocks m s ≡ f.both.log.blocks - 1 = rw (f.both.there_log, f.both.object_log) refl in
      let size = f.runs.is.room in omega (arith, here, size)

  full_same : (payload : List ℕ) → is_full s payload m ≡ nat_lt v.room (v.used + entry_blocks (length payload)) || nat_lt (2 ^ 62) (next_number v)
  full_same payload =
      ap (λ n. nat_lt n (used_blocks m s + payload_blocks payload) || nat_lt max_number (log.next_number (coming m s))) ring_same
      ∙ ap (λ n. nat_lt v.room (n + payload_blocks payload) || nat_lt max_number (log.next_number (coming m s))) used_same
      ∙ ap (λ n. nat_lt v.room (v.used + entry_blocks (length payload)) || nat_lt (2 ^ 62) n) next_same

  or_right : (b : Bool) → b || true ≡ true
  or_right true = refl
  or_right false = refl

  pub full_true : (payload : List ℕ) → IsFull v (entry_blocks (length payload)) → is_full s payload m ≡ true
  full_true payload (inl over) = full_same payload ∙ ap (λ b. b || nat_lt (2 ^ 62) (next_number v)) (lt_true v.room (v.used + entry_blocks (length payload)) over)
  full_true payload (inr over) = full_same payload ∙ ap (λ b. nat_lt v.room (v.used + entry_blocks (length payload)) || b) (lt_true (2 ^ 62) (next_number v) over) ∙ or_right (nat_lt v.room (v.used + entry_blocks (length payload)))

  lt_none : (i j : ℕ) → ((i < j) → ⊥) → nat_lt i j ≡ false
  lt_none i j never = lt_by (nat_lt i j) refl
    where
      lt_of : nat_lt i j ≡ true → i < j
      lt_of is = grind (arith, nat_tests)

      lt_by : (b : Bool) → nat_lt i j ≡ b → b ≡ false
      lt_by true is = absurd (never (lt_of is))
      lt_by false is = refl

  pub full_false : (payload : List ℕ) → ¬ IsFull v (entry_blocks (length payload)) → is_full s payload m ≡ false
  full_false payload room =
      full_same payload
      ∙ ap (λ b. b || nat_lt (2 ^ 62) (next_number v)) (lt_none v.room (v.used + entry_blocks (length payload)) (λ over. room (inl over)))
      ∙ lt_none (2 ^ 62) (next_number v) (λ over. room (inr over))

  -- Whether a buffer of so many blocks has a place.

  pub placed : (blocks start len : ℕ) → 0 < blocks → len ≡ 512 * blocks → IsLeastPlace (IsTaken app.store.region.taken) (length app.store.region.taken) ((len + 511) / 512) start → room_for m blocks ≡ Some start
  placed blocks start len some long place =
      let same : (len + 511) / 512 ≡ blocks = omega (arith, long) in
      place_is (around r app) h blocks some (sized r app h) start (subst (λ n. IsLeastPlace (IsTaken app.store.region.taken) (length app.store.region.taken) n start) same place)

  pub unplaced : (blocks : ℕ) → 0 < blocks → HasNoPlace app.store.region.taken (512 * blocks) → is_none (room_for m blocks) ≡ true
  unplaced blocks some none_there =
      let same : (512 * blocks + 511) / 512 ≡ blocks = omega arith in
      ap is_none (place_none (around r app) h blocks some (sized r app h) (λ t. subst (λ n. ¬ HasRun n t) same (none_there t)))
    where
      HasRun : ℕ → ℕ → Type 0
      HasRun n t = IsFreeRun (IsTaken app.store.region.taken) (length app.store.region.taken) n t

  -- the blocks of the entry that the next pop drops
  pub pop_blocks_is : v.coming < next_number v → pop_blocks m s ≡ entry_blocks (length_of v v.coming)
  pop_blocks_is some =
      one_first (coming m s).payloads (let many = many_is in omega (arith, many, some))
      ∙ ap (λ (z : Entries). entry_blocks (length (get_or z.payloads 0 []))) coming_is
      ∙ ap entry_blocks (sym (coming_length v l cs f.runs.is.stands f.runs.is.can.fit))

  -- What its conditions are where it is of the word's kind.
  module _ (k : Kind) (kind_is : same_kind f.both.log.kind k ≡ true) where
    pub opened_at_is : opened_at m s k ≡ Some f.opened
    opened_at_is = rw (f.both.there_log, f.both.object_log, kind_is, f.is_open) refl

    pub failed_same : has_failed (opened_at m s k) ≡ v.failed
    failed_same = ap has_failed opened_at_is ∙ sym f.runs.is.failed

    many_waiting : length v.waiting ≡ length f.opened.waiting
    many_waiting = as_many v.waiting f.opened.waiting f.runs.is.stands.waiting

    pub crowded_true : 8 ≤ length v.waiting → is_crowded (opened_at m s k) ≡ true
    crowded_true many = ap is_crowded opened_at_is ∙ le_true 8 (length f.opened.waiting) (let same = many_waiting in omega (arith, same, many))

    pub crowded_false : length v.waiting < 8 → is_crowded (opened_at m s k) ≡ false
    crowded_false few = ap is_crowded opened_at_is ∙ le_false 8 (length f.opened.waiting) (let same = many_waiting in omega (arith, same, few))

-- The conditions of a word that gives a log a command, and what is refused.

abbrev pub conditions : Machine → List ℕ → Bool → Bool → Bool → Bool → Bool → Bool → Conditions
conditions m s other failed busy full nothing placeless =
    record none { no_application = not m.made; no_grant = missing m (s ∷ []); wrong_kind = other; log_failed = failed; busy = busy; log_full = full; no_entry = nothing; no_buffer = placeless }

why : (A : Type 0) (m : Machine) (s : List ℕ) (other failed busy full nothing placeless : Bool) (e : Refusal) → m.made ≡ true → Looked {A = A} m (s ∷ []) other (Err e) → early (conditions m s other failed busy full nothing placeless) ≡ Some e
why A m s other failed busy full nothing placeless (r.NoGrant k) made x = rw (made, x) refl
why A m s other failed busy full nothing placeless r.WrongKind made x = rw (made, x.0, x.1) refl
why A m s other failed busy full nothing placeless _ made x = absurd x

-- what the log itself refuses
abbrev pub own_conditions : Bool → Bool → Bool → Bool → Bool → Conditions
own_conditions failed busy full nothing placeless = record none { log_failed = failed; busy = busy; log_full = full; no_entry = nothing; no_buffer = placeless }

module _ (t : Told) (app : App) (s : List ℕ) (other failed busy full nothing placeless : Machine → Bool) (row rest : Machine → Given → Row)
    (is_row : (m : Machine) (g : Given) → row m g ≡ answer m (conditions m s (other m) (failed m) (busy m) (full m) (nothing m) (placeless m)) (rest m g)) where
  abbrev all_of : Machine → Conditions
  all_of m = conditions m s (other m) (failed m) (busy m) (full m) (nothing m) (placeless m)

  abbrev own_of : Machine → Conditions
  own_of m = own_conditions (failed m) (busy m) (full m) (nothing m) (placeless m)

  refused : (e : Refusal) → ((y : Beyond) → Holds (around y app) → early (all_of y.machine) ≡ Some e) → Acts t app app row [] (said.Refused e) []
  refused e first = refuses t app row e (λ y g sited h. is_row y.machine g ∙ refused_first y.machine (all_of y.machine) (rest y.machine g) e (first y h))

  pub not_found : (A : Type 0) (e : Refusal) → ((y : Beyond) → Holds (around y app) → Looked {A = A} y.machine (s ∷ []) (other y.machine) (Err e)) → Acts t app app row [] (said.Refused e) []
  not_found A e looked = refused e (λ y h. why A y.machine s (other y.machine) (failed y.machine) (busy y.machine) (full y.machine) (nothing y.machine) (placeless y.machine) e h.made (looked y h))

  module _ (looked : (y : Beyond) → Holds (around y app) → (missing y.machine (s ∷ []) ≡ None) × (other y.machine ≡ false)) where
    of_label : (y : Beyond) → Holds (around y app) → all_of y.machine ≡ own_of y.machine
    of_label y h =
        let m = y.machine in
        let p = looked y h in
        ap (λ b. record none { no_application = not b; no_grant = missing m (s ∷ []); wrong_kind = other m; log_failed = failed m; busy = busy m; log_full = full m; no_entry = nothing m; no_buffer = placeless m }) h.made
        ∙ ap (λ o. record none { no_grant = o; wrong_kind = other m; log_failed = failed m; busy = busy m; log_full = full m; no_entry = nothing m; no_buffer = placeless m }) p.0
        ∙ ap (λ b. record none { wrong_kind = b; log_failed = failed m; busy = busy m; log_full = full m; no_entry = nothing m; no_buffer = placeless m }) p.1

    -- it is refused for what the log says
    pub is_refused : (e : Refusal) → ((y : Beyond) → Holds (around y app) → early (own_of y.machine) ≡ Some e) → Acts t app app row [] (said.Refused e) []
    is_refused e first = refused e (λ y h. ap early (of_label y h) ∙ first y h)

    -- nothing refuses it
    pub done : (y : Beyond) (g : Given) → Holds (around y app) → early (own_of y.machine) ≡ None → row y.machine g ≡ rest y.machine g
    unfolding answer
    done y g h free =
        let first : early (all_of y.machine) ≡ None = ap early (of_label y h) ∙ free in
        is_row y.machine g ∙ rw first refl

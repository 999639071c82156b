-- What a walk over the list's own blocks reads while a command is carried out.
use Rattle.std.proofs.Common.{◌≡◌, ⊎_elim, ℕ, zero, suc, false, ◌+◌, ◌-◌, ◌%◌, ◌<◌, ◌≤◌, List, [], ◌∷◌, length, take, drop, replicate, get_or, refl, sym, ◌∙◌, ap, subst, arith}
use Rattle.std.proofs.Math.Nat.{mod-lt}
use Rattle.std.proofs.lemmas.List.{length-replicate, get_or_append_left, get_or-append_right, get_or-drop}
use Rattle.std.proofs.lemmas.List.Sums.{sum_by-cons}
use Rattle.ark_base.specs.declared.kind.Kind.{Kind}
use Rattle.ark_media.specs.Journal.{Event, History, block, current, zero_block}
use Rattle.ark_media.specs.Calls.{Comes}
use Rattle.ark_media.specs.Stops.{Whole}
use Rattle.ark_media.proofs.Stopping.{now_may}
use Rattle.ark_entry.specs.Header.{bytes_of}
use Rattle.ark_entry.specs.Entry.{entry_blocks}
use Rattle.ark_entry.specs.Found.{Entries, found}
use Rattle.ark_entry.specs.Reading.{Entry, Stands}
use Rattle.ark_entry.specs.Writing.{at, draft, final, next_place, zeroed}
use Rattle.ark_caladan.specs.Chain.{Command, append, trim, pop, after_command, blocks_of}
use Rattle.ark_caladan.specs.Leaves.{LiesInRing, freed_by, with_draft, with_entry}
use Rattle.ark_caladan.specs.Views.{view_of}
use Rattle.ark_caladan.specs.Stages.{Stage, reads, writes, decides, syncs, calls_of, call_of, Moment, resting, after_calls, moment_at, IsAt}
use Rattle.ark_caladan.specs.Plans.{ring_place, header_after, drop_stages, stages_of}
use Rattle.ark_caladan.specs.Open.{Layout, log_moment, freed_first, IsOpenWith}
use Rattle.ark_caladan.proofs.Places.{view_at}
use Rattle.ark_caladan.proofs.Appending.{ls}
use Rattle.ark_caladan.proofs.Calls.{left_failed}
use Rattle.ark_caladan.proofs.Carrying.{at_stage}

-- A block that all views of a command have alike stands there at each moment of it.
abbrev keeps : (k : ℕ) (c : List ℕ) → Stage → Type 0
keeps k c (reads ps) = Unit {0}
keeps k c (writes b ps) = b k ≡ c
keeps k c (decides b p) = b k ≡ c
keeps k c syncs = Unit {0}

abbrev all_keep : (k : ℕ) (c : List ℕ) → List Stage → Type 0
all_keep k c [] = Unit {0}
all_keep k c (s ∷ ss) = keeps k c s × all_keep k c ss

calls_keep : (k : ℕ) (c : List ℕ) (f : Moment) (s : Stage) (n : ℕ) → (f.old k ≡ c) × (f.new k ≡ c) → keeps k c s → ((after_calls f s n).old k ≡ c) × ((after_calls f s n).new k ≡ c)
calls_keep k c f (reads ps) n is same = is
calls_keep k c f (writes b ps) n is same = (is.1, same)
calls_keep k c f (decides b p) zero is same = (is.1, same)
calls_keep k c f (decides b p) (suc n) is same = (is.1, same)
calls_keep k c f syncs zero is same = is
calls_keep k c f syncs (suc n) is same = (is.1, is.1)

moment_keeps : (k : ℕ) (c : List ℕ) (ss : List Stage) (f : Moment) (done n : ℕ) → (f.old k ≡ c) × (f.new k ≡ c) → all_keep k c ss → ((moment_at f ss done n).old k ≡ c) × ((moment_at f ss done n).new k ≡ c)
moment_keeps k c [] f done n is all = is
moment_keeps k c (s ∷ ss) f zero n is all = calls_keep k c f s n is all.0
moment_keeps k c (s ∷ ss) f (suc done) n is all = moment_keeps k c ss (after_calls f s (calls_of s)) done n (calls_keep k c f s (calls_of s) is all.0) all.1

module _ (kind : Kind) (room : ℕ) (history : History) (blocks : List ℕ) (p : Layout) (l : Entries) where
  module _ (lies : LiesInRing kind room p.header p.says p.stored l) (some : 0 < room) (u : ℕ) (low : u < length p.stored) where
    start_low : p.says.start < room
    start_low = ls kind room some p.header p.says p.stored l lies

    in_view : (header : List ℕ) (bs : List (List ℕ)) → at bs u ≡ at p.stored u → view_of room header p.says.start bs (ring_place room p.says.start u) ≡ at p.stored u
    in_view header bs same = view_at room header p.says.start bs u start_low (omega (arith, low, lies.fits)) ∙ same

    drops_keep : (header : List ℕ) (freed : ℕ) → freed ≤ u → all_keep (ring_place room p.says.start u) (at p.stored u) (drop_stages room header p.says p.stored freed)
    drops_keep header freed behind = (in_view header p.stored refl, (tt, (in_view header (zeroed freed p.stored) clear, (tt, tt))))
      where
        clear : at (zeroed freed p.stored) u ≡ at p.stored u
        clear =
            let back : freed + (u - freed) ≡ u = omega (arith, behind) in
            get_or-append_right (replicate freed zero_block) (drop freed p.stored) freed u zero_block (length-replicate freed zero_block) behind ∙ get_or-drop freed p.stored (u - freed) zero_block ∙ ap (at p.stored) back

    stages_keep : (c : Command) → freed_by l c ≤ u → all_keep (ring_place room p.says.start u) (at p.stored u) (stages_of kind room p.header p.says p.stored l c)
    stages_keep (append n payload) behind = (
      in_view p.header (with_draft room p.says p.stored l payload) (get_or_append_left p.stored (draft (l.first + length l.payloads) (next_place room p.says.start p.stored payload) payload) zero_block u low),
      (
        tt,
        (
          in_view p.header (with_entry room p.says p.stored l payload) (get_or_append_left p.stored (final (l.first + length l.payloads) (next_place room p.says.start p.stored payload) payload) zero_block u low),
          (tt, tt),
        ),
      ),
    )
    stages_keep (trim n) behind = drops_keep (bytes_of kind (header_after room p.says l (trim n))) (freed_by l (trim n)) behind
    stages_keep (pop n) behind = (tt, drops_keep (bytes_of kind (header_after room p.says l (pop n))) (freed_by l (pop n)) behind)

  module _ (cs : List Command) (done n u : ℕ) (opened : IsOpenWith kind room history blocks p l cs done n) (low : u < length p.stored) (behind : freed_first l cs ≤ u) where
    abbrev place : ℕ
    place = ring_place room p.says.start u

    inside : place < length blocks
    inside = let e : (p.says.start + u) % room < room = mod-lt (p.says.start + u) opened.waits.some in omega (arith, e, opened.size)

    -- both views have a block that the oldest command does not free
    views_have : ((log_moment kind room p l cs done n).old place ≡ at p.stored u) × ((log_moment kind room p l cs done n).new place ≡ at p.stored u)
    views_have = both cs behind
      where
        first : (view_of room p.header p.says.start p.stored place ≡ at p.stored u) × (view_of room p.header p.says.start p.stored place ≡ at p.stored u)
        first = let e = in_view opened.waits.lies opened.waits.some u low p.header p.stored refl in (e, e)

        both : (xs : List Command) → freed_first l xs ≤ u → ((log_moment kind room p l xs done n).old place ≡ at p.stored u) × ((log_moment kind room p l xs done n).new place ≡ at p.stored u)
        both [] le = first
        both (c ∷ xs) le = moment_keeps place (at p.stored u) (stages_of kind room p.header p.says p.stored l c) (resting (view_of room p.header p.says.start p.stored) false) done n first (stages_keep opened.waits.lies opened.waits.some u low c le)

    -- A walk reads the list's own blocks, but for those that the oldest command frees, at each moment of it.
    pub walk_reads : block (current history.base history.journal) (get_or blocks place 0) ≡ at p.stored u
    walk_reads = ⊎_elim (λ x. x ∙ views_have.0) (λ x. x ∙ views_have.1)
        (opened.at.left place inside (block (current history.base history.journal) (get_or blocks place 0)) (now_may Whole (λ c. refl) history.base history.journal (get_or blocks place 0) (opened.on_disk.inside place inside)))

  -- So it does once a call of that command has failed.
  pub walk_reads_failed : (c : Command) (cs : List Command) (done n u : ℕ) → IsOpenWith kind room history blocks p l (c ∷ cs) done n → u < length p.stored → freed_by l c ≤ u
      → (e : Event) → n < calls_of (get_or (stages_of kind room p.header p.says p.stored l c) done syncs) → Comes (call_of blocks (get_or (stages_of kind room p.header p.says p.stored l c) done syncs) n) false e
      → block (current history.base (e ∷ history.journal)) (get_or blocks (ring_place room p.says.start u) 0) ≡ at p.stored u
  walk_reads_failed c cs done n u opened low behind e lt came =
      let k : ℕ = ring_place room p.says.start u in
      let r = at_stage kind room blocks p l history c cs done n opened in
      let there = inside (c ∷ cs) done n u opened low behind in
      let have = views_have (c ∷ cs) done n u opened low behind in
      ⊎_elim (λ x. x ∙ ap (λ (f : Moment). f.old k) (sym (r.head n)) ∙ have.0) (λ x. x ∙ ap (λ (f : Moment). f.new k) (sym (r.head n)) ∙ have.1)
      (left_failed kind (found l) (found (after_command l c)) blocks (found l ∷ found (after_command l c) ∷ []) (0, omega arith, refl) (1, omega arith, refl) history opened.on_disk e
      r.before (get_or (stages_of kind room p.header p.says p.stored l c) done syncs) r.behind r.plan n lt came (subst (λ (f : Moment). IsAt history blocks f) (r.head n) opened.at)
      k there (block (current history.base (e ∷ history.journal)) (get_or blocks k 0))
      (now_may Whole (λ x. refl) history.base (e ∷ history.journal) (get_or blocks k 0) (opened.on_disk.inside k there)))

-- An entry of the list stands behind the blocks of those before it.
pub entry_place : (room start : ℕ) (r : ℕ → List ℕ) (u number : ℕ) (xs : List (List ℕ)) (end i : ℕ) → Stands room start r u number xs end → i < length xs
    → Entry room start r (u + blocks_of (take i xs)) (number + i) (get_or xs i [])
entry_place room start r u number [] end i stands lt = absurd (omega (arith, lt))
entry_place room start r u number (x ∷ xs) end zero stands lt =
    let eu : u ≡ u + 0 = omega arith in
    let en : number ≡ number + 0 = omega arith in
    subst (λ (v : ℕ). Entry room start r v (number + 0) x) eu (subst (λ (m : ℕ). Entry room start r u m x) en stands.0)
entry_place room start r u number (x ∷ xs) end (suc i) stands lt =
    let sum : blocks_of (x ∷ take i xs) ≡ entry_blocks (length x) + blocks_of (take i xs) = sum_by-cons (λ p. entry_blocks (length p)) x (take i xs) in
    let eu : u + entry_blocks (length x) + blocks_of (take i xs) ≡ u + blocks_of (x ∷ take i xs) = omega (arith, sum) in
    let en : number + 1 + i ≡ number + suc i = omega arith in
    subst (λ (v : ℕ). Entry room start r v (number + suc i) (get_or xs i [])) eu
    (subst (λ (m : ℕ). Entry room start r (u + entry_blocks (length x) + blocks_of (take i xs)) m (get_or xs i [])) en
    (entry_place room start r (u + entry_blocks (length x)) (number + 1) xs end i stands.1 (omega (arith, lt))))

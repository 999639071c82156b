-- An append, a trim and a pop that are accepted.
use Rattle.std.proofs.Common.{◌≡◌, ◌⊎◌, inl, inr, ℕ, ◌+◌, ◌*◌, ◌≤◌, ◌<◌, false, List, [], ◌∷◌, ◌++◌, length, None, refl, sym, ap, ◌∙◌, subst}
use Rattle.std.specs.Prelude.{sum_by}
use Rattle.std.specs.List.{AllByRecursion}
use Rattle.std.proofs.lemmas.List.{append-nil}
use Rattle.ark_media.specs.Journal.{History}
use Rattle.ark_region.specs.Frames.{Apart, Covers, IsLive, LiesInRegion, Piece, ShareNoFrame, Space, bytes_of}
use Rattle.ark_vic.specs.Queue.{Queue}
use Rattle.ark_entry.specs.Entry.{entry_blocks}
use Rattle.ark_entry.specs.Found.{Entries}
use Rattle.ark_caladan.specs.Chain as log
use Rattle.ark_caladan.specs.Chain.{Log, Opened, after_all, commands, entries}
use Rattle.ark_caladan.specs.Open.{Layout}
use Rattle.ark_caladan.specs.Plans.{added_by}
use Rattle.ark_caladan.specs.Postings.{HoldsEntry, place_behind}
use Rattle.ark_caladan.proofs.Accepting.{can_append, can_pop, can_trim}
use Rattle.ark_log.specs.declared.command.Command.TheVariants.{Append, Trim, Pop}
use Rattle.ark_log.specs.declared.command.Waiting.{Waiting}
use Rattle.ark_log.specs.Buffers.{IsNewBuffer}
use Rattle.ark_log.specs.Open.{OpenChain, IsRight}
use Rattle.ark_log.specs.Refused.{IsFull, length_of, next_number}
use Rattle.ark_log.specs.Stands.{StandsFor}
use Rattle.ark_log.specs.Waits.{WaitsToAppend, WaitsToPop, waits, with_buffer}
use Rattle.ark_log.proofs.Standing as standing
use Rattle.ark_running.specs.Accepted.{with_one_more, with_opened}
use Rattle.ark_running.specs.Buffers.{pieces_of}
use Rattle.ark_running.specs.Running.{IsRunning}
use Rattle.ark_running.proofs.Accepts.{goes_on, grown}
use Rattle.ark_running.proofs.Framing.{Stays, running_same}
use Rattle.ark_running.proofs.Lengths.{coming_length}

live_more : (bs : List Piece) (b : Piece) (j : ℕ) → IsLive (bs ++ b ∷ []) j → IsLive bs j ⊎ Covers b j
live_more [] b j (inl covers) = inr covers
live_more [] b j (inr none) = absurd none
live_more (c ∷ bs) b j (inl covers) = inl (inl covers)
live_more (c ∷ bs) b j (inr live) = elim (live_more bs b j live) [ inl old ↦ inl (inr old) | inr new ↦ inr new ]

share_more : (bs : List Piece) (b : Piece) → ShareNoFrame bs → AllByRecursion (Apart b) bs → ShareNoFrame (bs ++ b ∷ [])
share_more [] b share apart = (λ j covers live. live, tt)
share_more (c ∷ bs) b share apart = (λ j covers live. elim (live_more bs b j live) [ inl old ↦ share.0 j covers old | inr new ↦ apart.0 j new covers ], share_more bs b share.1 apart.1)

-- a new buffer leaves the others as they were
others_stay : (old new : Space) (bytes : List ℕ) (b : Piece) (bs : List Piece) → IsNewBuffer old new bytes b → AllByRecursion (Apart b) bs → AllByRecursion (Stays old new) bs
others_stay old new bytes b [] made apart = tt
others_stay old new bytes b (c ∷ bs) made apart = (made.others c apart.0, others_stay old new bytes b bs made apart.1)

module _ (h : History) (blocks : List ℕ) (before : Space) (ring : Queue) (v : OpenChain) (p : Layout) (g : Log) (o : Opened) (runs : IsRunning h blocks before ring v p g o) (going : v.failed ≡ false) where
  abbrev l : Entries
  l = entries g.list

  abbrev cs : List log.Command
  cs = commands o

  kept : (after : Space) → length after.taken ≡ length before.taken → AllByRecursion (Stays before after) (pieces_of v) → IsRunning h blocks after ring v p g o
  kept after frames stay = running_same h h blocks before after ring v p g o refl (λ k less. (refl, λ content may. may)) frames stay runs

  place_is : v.start + log.blocks_of l.payloads + sum_by added_by cs ≡ place_behind p.says l + sum_by added_by cs
  place_is = ap (λ n. n + log.blocks_of l.payloads + sum_by added_by cs) (sym runs.is.start)

  pub appends : (w : OpenChain) (payload : List ℕ) (after : Space) (made : WaitsToAppend payload v w before after) → IsRight w → length payload ≤ 32768 → ¬ IsFull v (entry_blocks (length payload)) → length after.taken ≡ length before.taken → AllByRecursion (Apart made.buffer) (pieces_of v)
      → let o2 = with_one_more o (record { command = log.append (next_number v) payload; room = (made.buffer.start, entry_blocks (length payload)) ∷ [] }) in IsRunning h blocks after ring w p (with_opened g o2) o2
  appends w payload after made right short room frames apart =
      let n = next_number v in
      let b = made.buffer in
      let x : Waiting = with_buffer (Append (next_number v)) (length payload) made.buffer in
      let m : log.Waiting = record { command = log.append (next_number v) payload; room = (made.buffer.start, entry_blocks (length payload)) ∷ [] } in
      let piece : made.buffer ≡ record { start = made.buffer.start; len = 512 * entry_blocks (length payload) } = λ i. record { start = made.buffer.start; len = made.len i } in
      let is = runs.is.stands in
      subst (λ u. IsRunning h blocks after ring u p (with_opened g (with_one_more o m)) (with_one_more o m)) (sym made.waiting)
      (goes_on h blocks after ring v p g o (kept after frames (others_stay before after _ made.buffer (pieces_of v) made.made apart)) x m (length payload ∷ []) (v.used + entry_blocks (length payload)) v.coming (record {
        going = going;
        right = subst IsRight made.waiting right;
        stands = subst (λ u. StandsFor u l (cs ++ log.append (next_number v) payload ∷ [])) made.waiting (standing.appends v l cs is w payload before after made);
        can = can_append v.room l cs (next_number v) payload runs.is.can (standing.next_is v l cs is runs.is.can) (standing.has_number v l cs is (entry_blocks (length payload)) room) short (standing.has_room v l cs is (entry_blocks (length payload)) runs.is.right room);
        long = refl;
        room = refl;
        none = tt;
        has = refl;
        lies = (subst (LiesInRegion after.taken) piece made.made.lies, tt);
        apart = subst (λ c. ShareNoFrame (pieces_of v ++ c ∷ [])) piece (share_more (pieces_of v) made.buffer runs.buffers.apart apart);
        holds = subst (λ c. HoldsEntry v.room (place_behind p.says l + sum_by added_by cs) 0 (log.append (next_number v) payload) (bytes_of after c)) piece
            (subst (λ at. HoldsEntry v.room at 0 (log.append (next_number v) payload) (bytes_of after made.buffer)) place_is (standing.holds v l cs is w payload before after runs.is.right made));
      }))

  pub trims : (n : ℕ) → let w = waits v (record { command = Trim n; len = 0; start = 0; buf = None }) n in IsRight w → v.coming < n → n ≤ next_number v
      → let o2 = with_one_more o (record { command = log.trim n; room = [] }) in IsRunning h blocks before ring w p (with_opened g o2) o2
  trims n right some there =
      let x : Waiting = record { command = Trim n; len = 0; start = 0; buf = None } in
      let m : log.Waiting = record { command = log.trim n; room = [] } in
      let is = runs.is.stands in
      let same : grown v x [] v.used n ≡ waits v x n = λ i. record v { waiting = v.waiting ++ x ∷ []; lengths = append-nil v.lengths i; coming = n } in
      subst (λ u. IsRunning h blocks before ring u p (with_opened g (with_one_more o m)) (with_one_more o m)) same
      (goes_on h blocks before ring v p g o runs x m [] v.used n (record {
        going = going;
        right = subst IsRight (sym same) right;
        stands = subst (λ u. StandsFor u l (cs ++ log.trim n ∷ [])) (sym same) (standing.trims v l cs is x n refl);
        can = can_trim v.room l cs n runs.is.can (standing.trim_follows v l cs is n runs.is.can some there);
        long = tt;
        room = refl;
        none = refl;
        has = tt;
        lies = tt;
        apart = subst ShareNoFrame (sym (append-nil (pieces_of v))) runs.buffers.apart;
        holds = tt;
      }))

  pub pops : (w : OpenChain) (after : Space) (made : WaitsToPop v w before after) → IsRight w → v.coming < next_number v → length after.taken ≡ length before.taken → AllByRecursion (Apart made.buffer) (pieces_of v)
      → let o2 = with_one_more o (record { command = log.pop v.coming; room = (made.buffer.start, entry_blocks (length_of v v.coming)) ∷ [] }) in IsRunning h blocks after ring w p (with_opened g o2) o2
  pops w after made right some frames apart =
      let len = length_of v v.coming in
      let x : Waiting = with_buffer (Pop v.coming) (length_of v v.coming) made.buffer in
      let m : log.Waiting = record { command = log.pop v.coming; room = (made.buffer.start, entry_blocks (length_of v v.coming)) ∷ [] } in
      let piece : made.buffer ≡ record { start = made.buffer.start; len = 512 * entry_blocks (length_of v v.coming) } = λ i. record { start = made.buffer.start; len = made.len i } in
      let is = runs.is.stands in
      let same : grown v x [] v.used (v.coming + 1) ≡ w = (λ i. record v { waiting = v.waiting ++ x ∷ []; lengths = append-nil v.lengths i; coming = v.coming + 1 }) ∙ sym made.waiting in
      subst (λ u. IsRunning h blocks after ring u p (with_opened g (with_one_more o m)) (with_one_more o m)) same
      (goes_on h blocks after ring v p g o (kept after frames (others_stay before after _ made.buffer (pieces_of v) made.made apart)) x m [] v.used (v.coming + 1) (record {
        going = going;
        right = subst IsRight (sym same) right;
        stands = subst (λ u. StandsFor u l (cs ++ log.pop v.coming ∷ [])) (sym same) (standing.pops v l cs is w before after made);
        can = can_pop v.room l cs v.coming runs.is.can (standing.pop_follows v l cs is runs.is.can some);
        long = coming_length v l cs is runs.is.can.fit;
        room = refl;
        none = tt;
        has = refl;
        lies = (subst (LiesInRegion after.taken) piece made.made.lies, tt);
        apart = subst (λ c. ShareNoFrame (pieces_of v ++ c ∷ [])) piece (share_more (pieces_of v) made.buffer runs.buffers.apart apart);
        holds = tt;
      }))

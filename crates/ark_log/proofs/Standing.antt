-- Which list and which commands an open log stands for, as commands are accepted.
use Rattle.std.proofs.Common.{◌≡◌, inl, inr, ℕ, zero, suc, ◌+◌, ◌-◌, ◌≤◌, ◌<◌, ◌^◌, List, [], ◌∷◌, ◌++◌, length, map, drop, refl, sym, ap, ◌∙◌, subst, arith, length-append, append_assoc}
use Rattle.std.specs.Prelude.{sum_by}
use Rattle.std.proofs.lemmas.List.{append-nil, length-map, length-drop, map-append}
use Rattle.std.proofs.lemmas.List.Sums.{sum_by-cons, sum_by-append}
use Rattle.ark_region.specs.Frames.{Space, bytes_of}
use Rattle.ark_entry.specs.Entry.{entry_blocks}
use Rattle.ark_entry.specs.Found.{Entries}
use Rattle.ark_caladan.specs.Chain as log
use Rattle.ark_caladan.specs.Numbers.{CanFollow, AllFit}
use Rattle.ark_caladan.specs.Plans.{CanWait, added_by}
use Rattle.ark_caladan.specs.Postings.{HoldsEntry, buffer_of}
use Rattle.ark_log.specs.declared.command.Command.{Command}
use Rattle.ark_log.specs.declared.command.Command.TheVariants.{Append, Trim, Pop}
use Rattle.ark_log.specs.declared.command.Waiting.{Waiting}
use Rattle.ark_log.specs.Open.{OpenChain, IsRight}
use Rattle.ark_log.specs.Refused.{IsFull, next_number}
use Rattle.ark_log.specs.Waits.{WaitsToAppend, WaitsToPop, waits}
use Rattle.ark_log.specs.Acked.{with_one_more, from_number, acknowledged}
use Rattle.ark_log.specs.Stands.{IsCommand, AreCommands, lengths_added, StandsFor}

commands_more : (ws : List Waiting) (cs : List log.Command) (w : Waiting) (c : log.Command) → AreCommands ws cs → IsCommand w.command c → AreCommands (ws ++ w ∷ []) (cs ++ c ∷ [])
commands_more [] [] w c are is = (is, tt)
commands_more [] (x ∷ cs) w c are is = absurd are
commands_more (y ∷ ws) [] w c are is = absurd are
commands_more (y ∷ ws) (x ∷ cs) w c are is = (are.0, commands_more ws cs w c are.1 is)

lengths_more : (cs ds : List log.Command) → lengths_added (cs ++ ds) ≡ lengths_added cs ++ lengths_added ds
lengths_more [] ds = refl
lengths_more (log.append n payload ∷ cs) ds = ap (λ (t : List ℕ). length payload ∷ t) (lengths_more cs ds)
lengths_more (log.trim n ∷ cs) ds = lengths_more cs ds
lengths_more (log.pop n ∷ cs) ds = lengths_more cs ds

after_more : (l : Entries) (cs : List log.Command) (c : log.Command) → log.after_all l (cs ++ c ∷ []) ≡ log.after_command (log.after_all l cs) c
after_more l [] c = refl
after_more l (x ∷ cs) c = after_more (log.after_command l x) cs c

-- behind the list that stands after commands
next_after_all : (l : Entries) (cs : List log.Command) → AllFit l cs → log.next_number (log.after_all l cs) ≡ log.next_number l + length (lengths_added cs)
next_after_all l [] fit = omega arith
next_after_all l (log.append n payload ∷ cs) fit =
    let rest = next_after_all (log.after_command l (log.append n payload)) cs fit.1 in
    let long = length-append l.payloads (payload ∷ []) in
    omega (arith, rest, long)
next_after_all l (log.trim n ∷ cs) fit =
    let rest = next_after_all (log.after_command l (log.trim n)) cs fit.1 in
    let long = length-drop (n - l.first) l.payloads in
    omega (arith, rest, long, fit.0.0, fit.0.1)
next_after_all l (log.pop n ∷ cs) fit =
    let rest = next_after_all (log.after_command l (log.pop n)) cs fit.1 in
    let long = length-drop 1 l.payloads in
    omega (arith, rest, long, fit.0.1)

pub blocks_are : (xs : List (List ℕ)) → sum_by entry_blocks (map (λ p. length p) xs) ≡ log.blocks_of xs
blocks_are [] = refl
blocks_are (x ∷ xs) =
    let a = sum_by-cons entry_blocks (length x) (map (λ p. length p) xs) in
    let b = sum_by-cons (λ (p : List ℕ). entry_blocks (length p)) x xs in
    omega (arith, a, b, blocks_are xs)

added_are : (cs : List log.Command) → sum_by entry_blocks (lengths_added cs) ≡ sum_by added_by cs
added_are [] = refl
added_are (log.append n payload ∷ cs) =
    let a = sum_by-cons entry_blocks (length payload) (lengths_added cs) in
    let b = sum_by-cons added_by (log.append n payload) cs in
    omega (arith, a, b, added_are cs)
added_are (log.trim n ∷ cs) = let b = sum_by-cons added_by (log.trim n) cs in omega (arith, b, added_are cs)
added_are (log.pop n ∷ cs) = let b = sum_by-cons added_by (log.pop n) cs in omega (arith, b, added_are cs)

module _ (v : OpenChain) (l : Entries) (cs : List log.Command) (is : StandsFor v l cs) where
  pub next_is : CanWait v.room l cs → next_number v ≡ log.next_number (log.after_all l cs)
  next_is can =
      let long = ap length is.lengths ∙ length-append (map (λ p. length p) l.payloads) (lengths_added cs) in
      let same : length (map (λ p. length p) l.payloads) ≡ length l.payloads = length-map l.payloads (λ p. length p) in
      let after = next_after_all l cs can.fit in
      omega (arith, is.first, long, same, after)

  pub used_is : IsRight v → v.used ≡ log.blocks_of l.payloads + sum_by added_by cs
  used_is right =
      let parts = ap (λ t. sum_by entry_blocks t) is.lengths ∙ sum_by-append entry_blocks (map (λ p. length p) l.payloads) (lengths_added cs) in
      omega (arith, right.used_is, parts, blocks_are l.payloads, added_are cs)

  -- one more command waits, which leads to this first number
  waits_more : (w : Waiting) (c : log.Command) (u : OpenChain) → IsCommand w.command c → u.first ≡ v.first → u.count ≡ v.count → u.waiting ≡ v.waiting ++ w ∷ [] → u.lengths ≡ v.lengths ++ lengths_added (c ∷ [])
      → u.coming ≡ (log.after_command (log.after_all l cs) c).first → StandsFor u l (cs ++ c ∷ [])
  waits_more w c u command first count waiting lengths coming = record {
    first = first ∙ is.first;
    count = count ∙ is.count;
    lengths = lengths ∙ ap (λ (t : List ℕ). t ++ lengths_added (c ∷ [])) is.lengths ∙ append_assoc (map (λ p. length p) l.payloads) (lengths_added cs) (lengths_added (c ∷ []))
        ∙ ap (λ (t : List ℕ). map (λ p. length p) l.payloads ++ t) (sym (lengths_more cs (c ∷ [])));
    coming = coming ∙ ap (λ (m : Entries). m.first) (sym (after_more l cs c));
    waiting = subst (λ ws. AreCommands ws (cs ++ c ∷ [])) (sym waiting) (commands_more v.waiting cs w c is.waiting command);
  }

  pub appends : (u : OpenChain) (payload : List ℕ) (before after : Space) → WaitsToAppend payload v u before after → StandsFor u l (cs ++ log.append (next_number v) payload ∷ [])
  appends u payload before after made =
      waits_more _ (log.append (next_number v) payload) u refl (ap (λ (x : OpenChain). x.first) made.waiting) (ap (λ (x : OpenChain). x.count) made.waiting) (ap (λ (x : OpenChain). x.waiting) made.waiting) (ap (λ (x : OpenChain). x.lengths) made.waiting)
      (ap (λ (x : OpenChain). x.coming) made.waiting ∙ is.coming)

  -- an append that is not refused has room and a number
  pub has_number : (blocks : ℕ) → ¬ IsFull v blocks → next_number v ≤ 2 ^ 62
  has_number blocks room = let off : ¬ (2 ^ 62 < next_number v) = λ more. room (inr more) in omega (arith, off)

  pub has_room : (blocks : ℕ) → IsRight v → ¬ IsFull v blocks → log.blocks_of l.payloads + sum_by added_by cs + blocks ≤ v.room
  has_room blocks right room =
      let used = used_is right in
      let off : ¬ (v.room < v.used + blocks) = λ more. room (inl more) in
      omega (arith, used, off)

  pub holds : (u : OpenChain) (payload : List ℕ) (before after : Space) → IsRight v → (made : WaitsToAppend payload v u before after)
      → HoldsEntry v.room (v.start + log.blocks_of l.payloads + sum_by added_by cs) 0 (log.append (next_number v) payload) (bytes_of after made.buffer)
  holds u payload before after right made =
      let place : v.start + v.used ≡ v.start + log.blocks_of l.payloads + sum_by added_by cs = omega (arith, used_is right) in
      made.made.here ∙ ap (λ p. buffer_of v.room p (next_number v) payload) place

  pub pops : (u : OpenChain) (before after : Space) → WaitsToPop v u before after → StandsFor u l (cs ++ log.pop v.coming ∷ [])
  pops u before after made =
      waits_more _ (log.pop v.coming) u refl (ap (λ (x : OpenChain). x.first) made.waiting) (ap (λ (x : OpenChain). x.count) made.waiting) (ap (λ (x : OpenChain). x.waiting) made.waiting)
      (ap (λ (x : OpenChain). x.lengths) made.waiting ∙ sym (append-nil v.lengths)) (ap (λ (x : OpenChain). x.coming) made.waiting ∙ ap (λ n. n + 1) is.coming)

  -- a trim and a pop that are not refused follow
  pub trim_follows : (n : ℕ) → CanWait v.room l cs → v.coming < n → n ≤ next_number v → CanFollow (log.after_all l cs) (log.trim n)
  trim_follows n can some there = (omega (arith, some, is.coming), omega (arith, there, next_is can))

  pub pop_follows : CanWait v.room l cs → v.coming < next_number v → CanFollow (log.after_all l cs) (log.pop v.coming)
  pop_follows can some = (is.coming, omega (arith, some, is.coming, next_is can))

  pub trims : (w : Waiting) (n : ℕ) → w.command ≡ Trim n → StandsFor (waits v w n) l (cs ++ log.trim n ∷ [])
  trims w n named = waits_more w (log.trim n) (waits v w n) (subst (λ c. IsCommand c (log.trim n)) (sym named) refl) refl refl refl (sym (append-nil v.lengths)) refl

-- The oldest command is applied to the list.
rest_stands : (v u : OpenChain) (l : Entries) (c : log.Command) (cs : List log.Command) → StandsFor v l (c ∷ cs) → u.first ≡ (log.after_command l c).first → u.count ≡ length (log.after_command l c).payloads → u.coming ≡ v.coming → u.waiting ≡ drop 1 v.waiting
    → u.lengths ≡ map (λ p. length p) (log.after_command l c).payloads ++ lengths_added cs → StandsFor u (log.after_command l c) cs
rest_stands v u l c cs is first count coming waiting lengths = record {
  first = first;
  count = count;
  lengths = lengths;
  coming = coming ∙ is.coming;
  waiting = subst (λ ws. AreCommands ws cs) (sym waiting) (rest v.waiting is.waiting);
}
  where
    rest : (ws : List Waiting) → AreCommands ws (c ∷ cs) → AreCommands (drop 1 ws) cs
    rest [] are = absurd are
    rest (w ∷ ws) are = are.1

pub appended_stands : (v : OpenChain) (l : Entries) (n : ℕ) (payload : List ℕ) (cs : List log.Command) → StandsFor v l (log.append n payload ∷ cs) → StandsFor (with_one_more v) (log.after_command l (log.append n payload)) cs
appended_stands v l n payload cs is =
    let more = length-append l.payloads (payload ∷ []) in
    rest_stands v (with_one_more v) l (log.append n payload) cs is is.first (omega (arith, more, is.count)) refl refl
    (is.lengths ∙ sym (append_assoc (map (λ p. length p) l.payloads) (length payload ∷ []) (lengths_added cs)) ∙ ap (λ (t : List ℕ). t ++ lengths_added cs) (sym (map-append (λ p. length p) l.payloads (payload ∷ []))))

pub dropped_stands : (v : OpenChain) (l : Entries) (n : ℕ) (c : log.Command) (cs : List log.Command) → StandsFor v l (c ∷ cs) → l.first ≤ n → n ≤ l.first + length l.payloads → log.after_command l c ≡ record { first = n; payloads = drop (n - l.first) l.payloads } → lengths_added (c ∷ cs) ≡ lengths_added cs
    → StandsFor (from_number v n) (log.after_command l c) cs
dropped_stands v l n c cs is up low after none =
    let k : n - v.first ≡ n - l.first = omega (arith, is.first) in
    let long = length-drop (n - l.first) l.payloads in
    rest_stands v (from_number v n) l c cs is (ap (λ (m : Entries). m.first) (sym after)) (omega (arith, is.count, is.first, long, ap (λ (m : Entries). length m.payloads) after)) refl refl
    ((λ i. drop (k i) (is.lengths i)) ∙ ap (λ (t : List ℕ). drop (n - l.first) (map (λ p. length p) l.payloads ++ t)) none ∙ drop_map (n - l.first) l.payloads (lengths_added cs) (omega (arith, up, low))
    ∙ ap (λ (m : Entries). map (λ p. length p) m.payloads ++ lengths_added cs) (sym after))
  where
    drop_map : (k : ℕ) (xs : List (List ℕ)) (rest : List ℕ) → k ≤ length xs → drop k (map (λ p. length p) xs ++ rest) ≡ map (λ p. length p) (drop k xs) ++ rest
    drop_map zero xs rest le = refl
    drop_map (suc k) [] rest le = absurd (omega (arith, le))
    drop_map (suc k) (x ∷ xs) rest le = drop_map k xs rest (omega (arith, le))

pub acknowledged_stands : (v : OpenChain) (w : Waiting) (ws : List Waiting) (l : Entries) (c : log.Command) (cs : List log.Command) → v.waiting ≡ w ∷ ws → StandsFor v l (c ∷ cs) → CanFollow l c → StandsFor (acknowledged v w.command) (log.after_command l c) cs
acknowledged_stands v w ws l c cs first is can = by w.command c cs is can (subst (λ x. AreCommands x (c ∷ cs)) first is.waiting).0
  where
    by : (command : Command) (c : log.Command) (cs : List log.Command) → StandsFor v l (c ∷ cs) → CanFollow l c → IsCommand command c → StandsFor (acknowledged v command) (log.after_command l c) cs
    by (Append n) (log.append m payload) cs is can same = appended_stands v l m payload cs is
    by (Append n) (log.trim m) cs is can same = absurd same
    by (Append n) (log.pop m) cs is can same = absurd same
    by (Trim n) (log.append m payload) cs is can same = absurd same
    by (Trim n) (log.trim m) cs is can same = subst (λ k. StandsFor (from_number v k) (log.after_command l (log.trim m)) cs) (sym same) (dropped_stands v l m (log.trim m) cs is (omega (arith, can.0)) (omega (arith, can.1)) refl refl)
    by (Trim n) (log.pop m) cs is can same = absurd same
    by (Pop n) (log.append m payload) cs is can same = absurd same
    by (Pop n) (log.trim m) cs is can same = absurd same
    by (Pop n) (log.pop m) cs is can same =
        let next : l.first + 1 ≡ n + 1 = omega (arith, same, can.0) in
        let one : 1 ≡ l.first + 1 - l.first = omega arith in
        subst (λ k. StandsFor (from_number v k) (log.after_command l (log.pop m)) cs) next
        (dropped_stands v l (l.first + 1) (log.pop m) cs is (omega arith) (omega (arith, can.1)) (λ i. record { first = l.first + 1; payloads = drop (one i) l.payloads }) refl)

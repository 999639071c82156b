-- What a poll answers and gives that acknowledges the oldest command.
use Rattle.std.proofs.Common.{◌≡◌, ℕ, ◌+◌, ◌-◌, ◌*◌, ◌≤◌, ◌<◌, List, [], ◌∷◌, ◌++◌, length, map, drop, get_or, Some, None, refl, sym, ap, ◌∙◌, subst, arith}
use Rattle.std.specs.Prelude.{IfSome, slice_range}
use Rattle.std.proofs.lemmas.List.{take_all}
use Rattle.ark_media.specs.Journal.{History}
use Rattle.ark_region.specs.Frames.{bytes_of}
use Rattle.ark_entry.specs.Entry.{entry_blocks}
use Rattle.ark_entry.specs.Found.{Entries}
use Rattle.ark_caladan.specs.Chain as log
use Rattle.ark_caladan.specs.Chain.{Log, Opened, commands, entries}
use Rattle.ark_caladan.specs.Leaves.{LiesInRing}
use Rattle.ark_caladan.specs.Numbers.{CanFollow}
use Rattle.ark_caladan.specs.Open.{Layout}
use Rattle.ark_caladan.specs.Plans.{CanWait}
use Rattle.ark_caladan.specs.Postings.{HasRead}
use Rattle.ark_caladan.proofs.Buffers.{popped_payload}
use Rattle.ark_log.specs.declared.command.Command.{Command}
use Rattle.ark_log.specs.declared.command.Command.TheVariants.{Append, Trim, Pop}
use Rattle.ark_log.specs.declared.command.Waiting.{Waiting}
use Rattle.ark_log.specs.declared.polling.Polled.{Polled}
use Rattle.ark_log.specs.declared.polling.Polled.TheVariants as polled
use Rattle.ark_log.specs.Open.{OpenChain}
use Rattle.ark_log.specs.Polled.{Around, EndsWell, Gives, GoesOn, HasEnded, IsAcked, ended, given_len, reaped, stage_of}
use Rattle.ark_log.specs.Stages.{HasEntryBuffer, oldest, oldest_in}
use Rattle.ark_log.specs.Stands.{AreCommands, IsCommand}
use Rattle.ark_log.proofs.Lent.{oldest_has}
use Rattle.ark_log.proofs.Whole.{whole_oldest}
use Rattle.ark_running.specs.Buffers.{HasReadFor, HaveLengths, IsLengthOf, buffers_by, bytes_in}
use Rattle.ark_running.specs.Given.{given_by}
use Rattle.ark_running.specs.Running.{IsRunning}
use Rattle.ark_running.proofs.Describing.{placed}
use Rattle.ark_running.proofs.Framing.{entry_piece}
use Rattle.ark_running.proofs.GoesOn.{IsBack, goes, is_back}
use Rattle.ark_running.proofs.Prepared.{bytes_short}

-- the oldest command and the first of the machine's
first_are : (l : Entries) (ws : List Waiting) (c : log.Command) (cs : List log.Command) → AreCommands ws (c ∷ cs) → HaveLengths l ws (c ∷ cs) → IsCommand (oldest_in ws).command c × IsLengthOf l (oldest_in ws).len c
first_are l [] c cs are have = absurd are
first_are l (w ∷ ws) c cs are have = (are.0, have.0)

-- so long is what it gives
given_long : (l : Entries) (k : Command) (len : ℕ) (c : log.Command) → IsCommand k c → IsLengthOf l len c → given_len k len ≡ length (given_by l c)
given_long l (Append n) len (log.append m payload) is long = refl
given_long l (Append n) len (log.trim m) is long = absurd is
given_long l (Append n) len (log.pop m) is long = absurd is
given_long l (Trim n) len (log.append m payload) is long = absurd is
given_long l (Trim n) len (log.trim m) is long = refl
given_long l (Trim n) len (log.pop m) is long = absurd is
given_long l (Pop n) len (log.append m payload) is long = absurd is
given_long l (Pop n) len (log.trim m) is long = absurd is
given_long l (Pop n) len (log.pop m) is long = long

-- the first payload of a list that has one, in the blocks that were read of it
first_payload : (g : Log) (p : Layout) (l : Entries) (len : ℕ) (b : List ℕ) → LiesInRing g.kind (g.blocks - 1) p.header p.says p.stored l → 0 < length l.payloads → len ≡ length (get_or l.payloads 0 []) → length b ≤ 512 * entry_blocks len → HasRead p.stored (entry_blocks len) b
    → slice_range b 20 (20 + len) ≡ get_or l.payloads 0 []
first_payload g p l len b lies some long short read = by l.payloads refl
  where
    by : (xs : List (List ℕ)) → l.payloads ≡ xs → slice_range b 20 (20 + len) ≡ get_or l.payloads 0 []
    by [] none = let no : length l.payloads ≡ 0 = ap length none in absurd (omega (arith, no, some))
    by (x ∷ xs) is =
        let size : len ≡ length x = long ∙ ap (λ ys. length (get_or ys 0 [])) is in
        let whole = popped_payload g.kind (g.blocks - 1) p l x xs b is lies (subst (λ n. HasRead p.stored (entry_blocks n) b) size read) in
        let all = take_all (512 * entry_blocks (length x)) b (subst (λ n. length b ≤ 512 * entry_blocks n) size short) in
        ap (λ n. slice_range b 20 (20 + n)) size ∙ ap (λ ys. slice_range ys 20 (20 + length x)) (sym all) ∙ whole ∙ ap (λ ys. get_or ys 0 []) (sym is)

module _ (h : History) (blocks : List ℕ) (p : Layout) (g : Log) (o : Opened) (m : log.Waiting) (ms : List log.Waiting) (old new : Around) (result : Polled) (front : o.waiting ≡ m ∷ ms) (runs : IsRunning h blocks old.space old.ring old.chain p g o) (ending : HasEnded old new result)
    (well : EndsWell ending.ending old new result) (last : stage_of (ended old.chain ending.ending.buf) ≡ None) where
  abbrev l : Entries
  l = entries g.list

  abbrev cs : List log.Command
  cs = map (λ (x : log.Waiting). x.command) ms

  abbrev u : OpenChain
  u = ended old.chain ending.ending.buf

  are : commands o ≡ m.command ∷ cs
  are = ap (λ (xs : List log.Waiting). map (λ (x : log.Waiting). x.command) xs) front

  acked : IsAcked (record old { chain = u; ring = reaped old.ring }) new result
  acked = subst (λ s. GoesOn s (record old { chain = u; ring = reaped old.ring }) new result) last well.goes

  first : IsCommand (oldest old.chain).command m.command × IsLengthOf l (oldest old.chain).len m.command
  first = first_are l old.chain.waiting m.command cs (subst (AreCommands old.chain.waiting) are runs.is.stands.waiting) (subst (λ xs. HaveLengths l old.chain.waiting xs) are runs.is.lengths)

  back : IsBack h blocks p g o old new result runs ending well u
  back = is_back h blocks p g o old new result runs ending well

  pub answers : IsCommand (oldest old.chain).command m.command × (result ≡ polled.Acked (oldest old.chain).command (length (given_by l m.command)))
  answers = (
    first.0,
    acked.answer ∙ (λ i. polled.Acked (back.command i) (given_len (back.command i) (back.len i))) ∙ ap (λ n. polled.Acked (oldest old.chain).command n) (given_long l (oldest old.chain).command (oldest old.chain).len m.command first.0 first.1),
  )

  pub gives : new.out ≡ given_by l m.command ++ drop (length (given_by l m.command)) old.out
  gives = by (oldest u).command m.command refl (subst (λ k. IsCommand k m.command) (sym back.command) first.0) (subst (λ n. IsLengthOf l n m.command) (sym back.len) first.1) (subst (λ xs. CanWait old.chain.room l xs) are runs.is.can).fit.0 acked.out back.read
    where
      by : (k : Command) (c : log.Command) → (oldest u).command ≡ k → IsCommand k c → IsLengthOf l (oldest u).len c → CanFollow l c → Gives k (oldest u) old.space old.out new.out → HasReadFor k p.stored (entry_blocks (oldest u).len) (bytes_in old.space (buffers_by k (oldest u)))
          → new.out ≡ given_by l c ++ drop (length (given_by l c)) old.out
      by (Append n) (log.append i payload) named is long can out read = out
      by (Append n) (log.trim i) named is long can out read = absurd is
      by (Append n) (log.pop i) named is long can out read = absurd is
      by (Trim n) (log.append i payload) named is long can out read = absurd is
      by (Trim n) (log.trim i) named is long can out read = out
      by (Trim n) (log.pop i) named is long can out read = absurd is
      by (Pop n) (log.append i payload) named is long can out read = absurd is
      by (Pop n) (log.trim i) named is long can out read = absurd is
      by (Pop n) (log.pop i) named is long can out read =
          let there : (oldest u).buf ≡ Some (entry_piece (oldest u)) =
          placed (oldest u).buf (entry_piece (oldest u)) (subst (λ k. HasEntryBuffer k (oldest u).buf) named (whole_oldest u back.whole back.waits)) (oldest_has u back.right back.waits).1 in
          let given : new.out ≡ slice_range (bytes_of old.space (entry_piece (oldest u))) 20 (20 + (oldest u).len) ++ drop (oldest u).len old.out =
          subst (λ x. IfSome x (λ b. new.out ≡ slice_range (bytes_of old.space b) 20 (20 + (oldest u).len) ++ drop (oldest u).len old.out)) there out in
          let payload = first_payload g p l (oldest u).len (bytes_of old.space (entry_piece (oldest u))) (goes h blocks p g o old new result runs ending well).is_open.waits.lies can.1 long
          (bytes_short old.space (entry_piece (oldest u))) read in
          given ∙ (λ j. payload j ++ drop (long j) old.out)

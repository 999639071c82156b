-- The row of a move, by what is posted and by the tests that come before a block.
use Rattle.std.proofs.Common.{◌≡◌, ℕ, ◌+◌, ◌*◌, Bool, true, false, not, ◌&&◌, nat_le, nat_lt, List, [], refl, ◌∙◌, ap, arith}
use Rattle.std.specs.Prelude.{if◌then◌else◌, Option, Some, option_map, unwrap_or, slice_index_or}
use Rattle.std.proofs.lemmas.Bool.Decides.{nat_tests}
use Rattle.ark_base.specs.declared.kind.Outcome.{Outcome}
use Rattle.ark_base.specs.declared.kind.Outcome.TheVariants as outcome
use Rattle.ark_vic.specs.declared.door.Bell.TheVariants as bell
use Rattle.ark_script.specs.declared.said.Said.TheVariants as said
use Rattle.ark_machine.specs.Bytes.{block_of}
use Rattle.ark_machine.specs.Objects
use Rattle.ark_machine.specs.Objects.{Object, Vsic, Raw, Buffer, Job, Transfer, Paced, transfer, flush}
use Rattle.ark_machine.specs.Machine.{Machine, Held, at, at_serial, vsic_at, bytes_at, with_object, with_vsic}
use Rattle.ark_machine.specs.Row.{Ended, Call, reads, writes}
use Rattle.ark_machine.specs.Areas.{raw_written}
use Rattle.ark_machine.specs.Moves.{Move, move, moves, moved, ends, ending, gated, tried, transferred, transfer_call, raw_numbered, block_moved, block_passed, outcome_of}
use Rattle.ark_machine.specs.Rates.{is_over_burst, may_pass, passed, rung}
use Rattle.ark_held.proofs.Effects.{at_here, set_twice}
use Rattle.ark_held.proofs.Rewriting.{with_written}

-- the machine whose card has ended its oldest descriptor so, and rung
abbrev pub ended_by : Machine → List ℕ → Vsic → Job → List Job → Outcome → Option Paced → Machine
ended_by m v card j js o pace = rung (with_object m v (Objects.vsic (ending j js o (block_passed pace card)))) card.door bell.Io

module _ (m : Machine) (v : List ℕ) (card : Vsic) (held : Held) (there : at m v ≡ Some held) (object : held.object ≡ Objects.vsic card) where
  vsic_there : vsic_at m v ≡ Some card
  vsic_there = rw (there, object) refl

  with_card : (f : Vsic → Vsic) → with_vsic m v f ≡ with_object m v (Objects.vsic (f card))
  with_card f = ap (λ (o : Option Vsic). unwrap_or (option_map (λ x. with_object m v (Objects.vsic (f x))) o) m) vsic_there

  pub move_is : (e : Ended) → move m v e ≡ moved m v card card.queue.posted e
  move_is e = ap (λ (o : Option Vsic). unwrap_or (option_map (λ x. moved m v x x.queue.posted e) o) (moves m said.Idle [])) vsic_there

  pub ends_is : (j : Job) (js : List Job) (o : Outcome) (calls : List Call) → ends m v card j js o calls ≡ moves (ended_by m v card j js o card.pace) (said.Done o) calls
  ends_is j js o calls = ap (λ (n : Machine). moves (rung n card.door bell.Io) (said.Done o) calls) (with_card (ending j js o))

  -- a block was tried, and its descriptor goes on
  pub goes_on : (now : ℕ) (count : ℕ) (j : Job) (js : List Job) (calls : List Call) (ok : Bool) → (ok && nat_lt (card.queue.moved + 1) count) ≡ true
      → tried now ok count m v card j js calls ≡ moves (with_object m v (Objects.vsic (block_moved (passed now 512 card.pace) card))) said.Moved calls
  goes_on now count j js calls ok more =
      ap (λ b. if b then moves (with_vsic m v (block_moved (passed now 512 card.pace))) said.Moved calls else ends (with_vsic m v (block_passed (passed now 512 card.pace))) v card j js (outcome_of ok) calls) more
      ∙ ap (λ (n : Machine). moves n said.Moved calls) (with_card (block_moved (passed now 512 card.pace)))

  -- or has ended
  pub has_ended : (now : ℕ) (count : ℕ) (j : Job) (js : List Job) (calls : List Call) (ok : Bool) → (ok && nat_lt (card.queue.moved + 1) count) ≡ false
      → tried now ok count m v card j js calls ≡ moves (ended_by m v card j js (outcome_of ok) (passed now 512 card.pace)) (said.Done (outcome_of ok)) calls
  has_ended now count j js calls ok last =
      let pace = passed now 512 card.pace in
      let passing : Vsic = block_passed pace card in
      ap (λ b. if b then moves (with_vsic m v (block_moved pace)) said.Moved calls else ends (with_vsic m v (block_passed pace)) v card j js (outcome_of ok) calls) last
      ∙ ap (λ (n : Machine). ends n v card j js (outcome_of ok) calls) (with_card (block_passed pace))
      ∙ ap (λ (o : Option Vsic). moves (rung (unwrap_or (option_map (λ x. with_object (with_object m v (Objects.vsic passing)) v (Objects.vsic (ending j js (outcome_of ok) x))) o) (with_object m v (Objects.vsic passing))) card.door bell.Io) (said.Done (outcome_of ok)) calls)
      (passed_there passing)
      ∙ ap (λ (n : Machine). moves (rung n card.door bell.Io) (said.Done (outcome_of ok)) calls) (set_twice m v (Objects.vsic passing) (Objects.vsic (ending j js (outcome_of ok) passing)))
    where
      passed_there : (x : Vsic) → vsic_at (with_object m v (Objects.vsic x)) v ≡ Some x
      passed_there x = rw (at_here m v (Objects.vsic x) held there) refl

-- the tests before a block, in their order
module _ (m : Machine) (v : List ℕ) (card : Vsic) (j : Job) (js : List Job) (move : Move) where
  pub gate_unbound : gated m v card j js false move ≡ ends m v card j js outcome.NoGrant []
  gate_unbound = refl

  pub gate_over : is_over_burst card.pace 512 ≡ true → gated m v card j js true move ≡ ends m v card j js outcome.OverBurst []
  gate_over over = rw over refl

  pub gate_waits : is_over_burst card.pace 512 ≡ false → may_pass card.pace m.now 512 ≡ false → gated m v card j js true move ≡ moves m said.Held []
  gate_waits within wait = rw (within, wait) refl

  pub gate_opens : is_over_burst card.pace 512 ≡ false → may_pass card.pace m.now 512 ≡ true → gated m v card j js true move ≡ move
  gate_opens within may = rw (within, may) refl

-- What a block leaves of the machine.

module _ (m : Machine) (t : Transfer) (k : ℕ) (e : Ended) (area : Held) (raw : Raw) (numbered : at_serial m t.vsa ≡ Some area) (object : area.object ≡ Objects.raw raw) where
  pub raw_there : raw_numbered m t.vsa ≡ Some raw
  raw_there = rw (numbered, object) refl

  pub put_is : t.put ≡ true → at m area.label ≡ Some area → transferred m t k e (raw_numbered m t.vsa) ≡ with_object m area.label (Objects.raw (raw_written (t.off + k) (block_of (bytes_at m t.buffer) k) e.took raw))
  put_is puts there = rw (raw_there, puts, numbered, there, object) refl

  pub put_call : t.put ≡ true → transfer_call m t k ≡ writes area.label (t.off + k) (block_of (bytes_at m t.buffer) k)
  put_call puts = rw (puts, numbered) refl

  pub get_call : t.put ≡ false → transfer_call m t k ≡ reads area.label (t.off + k)
  get_call gets = rw (gets, numbered) refl

  pub get_is : t.put ≡ false → e.ok ≡ true → (b : Buffer) (held : Held) → at m t.buffer ≡ Some held → held.object ≡ Objects.buffer b
      → transferred m t k e (raw_numbered m t.vsa) ≡ with_object m t.buffer (Objects.buffer (with_written b (512 * k) (slice_index_or raw.content (t.off + k) [])))
  get_is gets well b held there is = rw (raw_there, gets, well, there, is) refl

  pub get_fails : t.put ≡ false → e.ok ≡ false → transferred m t k e (raw_numbered m t.vsa) ≡ m
  get_fails gets bad = rw (raw_there, gets, bad) refl

-- Whether a block is the last.
pub last_is : (k count : ℕ) (ok : Bool) → (ok && nat_lt (k + 1) count) ≡ (ok && not (nat_le count (k + 1)))
last_is k count true = let e : nat_lt (k + 1) count ≡ not (nat_le count (k + 1)) = grind (arith, nat_tests) in e
last_is k count false = refl

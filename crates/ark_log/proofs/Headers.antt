-- The header and the stages of a command, as those of the list's command that it stands for.
use Rattle.std.proofs.Common.{◌≡◌, ℕ, zero, suc, ◌+◌, ◌-◌, ◌%◌, ◌≤◌, List, [], ◌∷◌, ◌++◌, length, map, take, refl, sym, ap, ◌∙◌, arith}
use Rattle.std.specs.Prelude.{sum_by}
use Rattle.std.proofs.lemmas.List.{length-drop, take_all}
use Rattle.std.proofs.lemmas.List.Sums.{sum_by-cons}
use Rattle.ark_entry.specs.Header.{Header}
use Rattle.ark_entry.specs.Entry.{entry_blocks}
use Rattle.ark_entry.specs.Found.{Entries}
use Rattle.ark_caladan.specs.Chain as log
use Rattle.ark_caladan.specs.Numbers.{CanFollow}
use Rattle.ark_caladan.specs.Leaves.{freed_by}
use Rattle.ark_caladan.specs.Plans as plans
use Rattle.ark_log.specs.declared.command.Command.{Command}
use Rattle.ark_log.specs.declared.command.Command.TheVariants.{Append, Trim, Pop}
use Rattle.ark_log.specs.Open.{OpenChain, IsRight, first_after}
use Rattle.ark_log.specs.Walked.{blocks_before}
use Rattle.ark_log.specs.Stages.{freed, header_after, stages_of}
use Rattle.ark_log.specs.Stands.{IsCommand, StandsFor, lengths_added, stage_does, phase_does}

-- the blocks of the first entries of a list, by their lengths
first_blocks : (xs : List (List ℕ)) (rest : List ℕ) (k : ℕ) → k ≤ length xs → sum_by entry_blocks (take k (map (λ p. length p) xs ++ rest)) ≡ log.blocks_of (take k xs)
first_blocks xs rest zero le = refl
first_blocks [] rest (suc k) le = absurd (omega (arith, le))
first_blocks (x ∷ xs) rest (suc k) le =
    let a = sum_by-cons entry_blocks (length x) (take k (map (λ p. length p) xs ++ rest)) in
    let b = sum_by-cons (λ (p : List ℕ). entry_blocks (length p)) x (take k xs) in
    let more = first_blocks xs rest k (omega (arith, le)) in
    omega (arith, a, b, more)

module _ (v : OpenChain) (l : Entries) (c : log.Command) (cs : List log.Command) (right : IsRight v) (is : StandsFor v l (c ∷ cs)) (h : Header) (start : h.start ≡ v.start) where
  pub stored_are : v.stored ≡ log.blocks_of l.payloads
  stored_are =
      let all : take (length l.payloads) l.payloads ≡ l.payloads = take_all (length l.payloads) l.payloads (omega arith) in
      right.stored_is ∙ (λ i. sum_by entry_blocks (take (is.count i) (is.lengths i))) ∙ first_blocks l.payloads (lengths_added (c ∷ cs)) (length l.payloads) (omega arith) ∙ ap log.blocks_of all

  pub before_are : (k : ℕ) → k ≤ length l.payloads → blocks_before v k ≡ log.blocks_of (take k l.payloads)
  before_are k le = ap (λ t. sum_by entry_blocks (take k t)) is.lengths ∙ first_blocks l.payloads (lengths_added (c ∷ cs)) k le

  -- of a list whose first k entries are dropped
  same_header : (command : Command) (k : ℕ) → first_after command v.first - v.first ≡ k → k ≤ length l.payloads → first_after command v.first ≡ (log.after_command l c).first → freed_by l c ≡ log.blocks_of (take k l.payloads)
      → length (log.after_command l c).payloads ≡ length l.payloads - k → header_after v command ≡ plans.header_after v.room h l c
  same_header command k dropped le first freed_is count =
      let gone : freed v command ≡ freed_by l c = ap (blocks_before v) dropped ∙ before_are k le ∙ sym freed_is in
      let left : v.count - (first_after command v.first - v.first) ≡ length (log.after_command l c).payloads = omega (arith, is.count, dropped, count) in
      λ i. record { first = first i; start = (sym start i + gone i) % v.room; count = left i; end = (sym start i + stored_are i) % v.room }

pub trim_header : (v : OpenChain) (l : Entries) (n : ℕ) (cs : List log.Command) (h : Header) → IsRight v → StandsFor v l (log.trim n ∷ cs) → CanFollow l (log.trim n) → h.start ≡ v.start → header_after v (Trim n) ≡ plans.header_after v.room h l (log.trim n)
trim_header v l n cs h right is can start =
    same_header v l (log.trim n) cs right is h start (Trim n) (n - l.first) (omega (arith, is.first)) (omega (arith, can.0, can.1)) refl refl (length-drop (n - l.first) l.payloads)

pub pop_header : (v : OpenChain) (l : Entries) (n : ℕ) (cs : List log.Command) (h : Header) → IsRight v → StandsFor v l (log.pop n ∷ cs) → CanFollow l (log.pop n) → h.start ≡ v.start → header_after v (Pop n) ≡ plans.header_after v.room h l (log.pop n)
pop_header v l n cs h right is can start =
    same_header v l (log.pop n) cs right is h start (Pop n) 1 (omega (arith, is.first, can.0)) (omega (arith, can.1)) (omega (arith, can.0)) refl (length-drop 1 l.payloads)

pub stages_are : (command : Command) (l : Entries) (c : log.Command) → IsCommand command c → map stage_does (stages_of command) ≡ map phase_does (log.phases_of l c)
stages_are (Append n) l (log.append m payload) is = refl
stages_are (Append n) l (log.trim m) is = absurd is
stages_are (Append n) l (log.pop m) is = absurd is
stages_are (Trim n) l (log.append m payload) is = absurd is
stages_are (Trim n) l (log.trim m) is = refl
stages_are (Trim n) l (log.pop m) is = absurd is
stages_are (Pop n) l (log.append m payload) is = absurd is
stages_are (Pop n) l (log.trim m) is = absurd is
stages_are (Pop n) l (log.pop m) is = refl

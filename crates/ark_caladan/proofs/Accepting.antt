-- Which commands may wait behind others: what an accepted command has been tested for.
use Rattle.std.proofs.Common.{◌≡◌, ℕ, ◌+◌, ◌^◌, ◌≤◌, List, [], ◌∷◌, ◌++◌, length, refl, sym, subst, arith}
use Rattle.std.specs.Prelude.{sum_by}
use Rattle.std.proofs.lemmas.List.Sums.{sum_by_push}
use Rattle.ark_entry.specs.Entry.{entry_blocks}
use Rattle.ark_entry.specs.Found.{Entries}
use Rattle.ark_caladan.specs.Chain.{Command, append, trim, pop, after_command, after_all, blocks_of, next_number}
use Rattle.ark_caladan.specs.Numbers.{CanFollow, AllFit}
use Rattle.ark_caladan.specs.Plans.{added_by, AreShort, CanWait}
use Rattle.ark_caladan.proofs.Commands.{append_adds, trim_drops, pop_drops}

all_fit_more : (l : Entries) (cs : List Command) (c : Command) → AllFit l cs → CanFollow (after_all l cs) c → AllFit l (cs ++ c ∷ [])
all_fit_more l [] c fit fits = (fits, tt)
all_fit_more l (x ∷ cs) c fit fits = (fit.0, all_fit_more (after_command l x) cs c fit.1 fits)

after_more : (l : Entries) (cs : List Command) (c : Command) → after_all l (cs ++ c ∷ []) ≡ after_command (after_all l cs) c
after_more l [] c = refl
after_more l (x ∷ cs) c = after_more (after_command l x) cs c

short_more : (cs : List Command) (c : Command) → AreShort cs → AreShort (c ∷ []) → AreShort (cs ++ c ∷ [])
short_more [] c are is = is
short_more (append n payload ∷ cs) c are is = (are.0, short_more cs c are.1 is)
short_more (trim n ∷ cs) c are is = short_more cs c are is
short_more (pop n ∷ cs) c are is = short_more cs c are is

pub can_more : (room : ℕ) (l : Entries) (cs : List Command) (c : Command) → CanWait room l cs → CanFollow (after_all l cs) c → blocks_of l.payloads + sum_by added_by cs + added_by c ≤ room → AreShort (c ∷ [])
    → next_number (after_command (after_all l cs) c) ≤ 2 ^ 62 + 1 → CanWait room l (cs ++ c ∷ [])
can_more room l cs c can fits room_for short low = record {
  fit = all_fit_more l cs c can.fit fits;
  fits = let sum : sum_by added_by (cs ++ c ∷ []) ≡ sum_by added_by cs + added_by c = sum_by_push added_by cs c in omega (arith, sum, room_for);
  short = short_more cs c can.short short;
  low = subst (λ (m : Entries). next_number m ≤ 2 ^ 62 + 1) (sym (after_more l cs c)) low;
  few = can.few;
}

pub can_append : (room : ℕ) (l : Entries) (cs : List Command) (n : ℕ) (payload : List ℕ) → CanWait room l cs → n ≡ next_number (after_all l cs) → n ≤ 2 ^ 62 → length payload ≤ 32768
    → blocks_of l.payloads + sum_by added_by cs + entry_blocks (length payload) ≤ room → CanWait room l (cs ++ append n payload ∷ [])
can_append room l cs n payload can is low short fits =
    let adds = append_adds (after_all l cs) n payload is in
    can_more room l cs (append n payload) can is fits (short, tt) (omega (arith, adds.1, low))

pub can_trim : (room : ℕ) (l : Entries) (cs : List Command) (n : ℕ) → CanWait room l cs → CanFollow (after_all l cs) (trim n) → CanWait room l (cs ++ trim n ∷ [])
can_trim room l cs n can fits =
    let drops = trim_drops (after_all l cs) n fits in
    can_more room l cs (trim n) can fits (omega (arith, can.fits)) tt (omega (arith, drops.1, can.low))

pub can_pop : (room : ℕ) (l : Entries) (cs : List Command) (n : ℕ) → CanWait room l cs → CanFollow (after_all l cs) (pop n) → CanWait room l (cs ++ pop n ∷ [])
can_pop room l cs n can fits =
    let drops = pop_drops (after_all l cs) n fits in
    can_more room l cs (pop n) can fits (omega (arith, can.fits)) tt (omega (arith, drops.1, can.low))

-- A pace that a table keeps and the passes of its machine's queue: what may pass, and what has passed.
use Rattle.std.proofs.Common.{◌≡◌, ℕ, ◌+◌, ◌≤◌, true, nat_le, refl, ◌∙◌, ap, arith}
use Rattle.std.specs.Prelude.{Option, Some, None, option_map}
use Rattle.std.proofs.lemmas.Bool.Decides.{nat_tests}
use Rattle.ark_vic.specs.Pace.{fill_of, with_fill}
use Rattle.ark_vic.proofs.PaceLemmas.{passed_law}
use Rattle.ark_machine.specs.Objects.{Paced}
use Rattle.ark_machine.specs.Rates.{passed, may_pass}
use Rattle.ark_vnic.specs.Card as net
use Rattle.ark_held.specs.Around.{Around, Both}
use Rattle.ark_held.specs.Cards.{IsPaced}
use Rattle.ark_held.specs.Kept.{PaceKept}
use Rattle.ark_held.proofs.Dues.{fill_same}

-- so many bytes have passed at a tick
abbrev pub with_passed : ℕ → ℕ → PaceKept → PaceKept
with_passed n now p = record p { pace = with_fill p.pace n now }

le_of : (a b : ℕ) → nat_le a b ≡ true → a ≤ b
le_of a b h = grind (arith, nat_tests)

module _ (x : Around) (n : ℕ) where
  -- the passes with one more, which may go
  pub passed_both : (k : Option PaceKept) (p : Option Paced) → Both (IsPaced x) k p → may_pass p x.now n ≡ true → Both (IsPaced x) (option_map (with_passed n x.now) k) (passed x.now n p)
  passed_both None None both may = tt
  passed_both (Some k) (Some p) both may =
      let fill = fill_same x k p both in
      let room : fill_of p.q p.passes x.now + n ≤ p.burst = le_of (fill_of p.q p.passes x.now + n) p.burst may in
      let burst = both.burst in record {
        rate = both.rate;
        per_tick = both.per_tick;
        burst = both.burst;
        past = omega arith;
        passes = passed_law k.pace p.passes n x.now both.passes both.past (omega (arith, fill, room, burst));
      }
  passed_both None (Some p) both may = absurd both
  passed_both (Some k) None both may = absurd both

  -- they may pass by the number that is kept where they may by the passes
  pub may_same : (k : Option PaceKept) (p : Option Paced) → Both (IsPaced x) k p → net.may_pass (option_map (λ z. z.pace) k) n x.now ≡ may_pass p x.now n
  may_same None None both = refl
  may_same (Some k) (Some p) both = ap (λ f. nat_le (f + n) k.pace.burst) (fill_same x k p both) ∙ ap (λ b. nat_le (fill_of p.q p.passes x.now + n) b) both.burst
  may_same None (Some p) both = absurd both
  may_same (Some k) None both = absurd both

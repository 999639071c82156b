-- A second frame that is above its card's rate is held; a run that shows it as sent all the same is not confined.
use Rattle.std.proofs.Common.{◌≡◌, ◌≤◌, ℕ, ◌+◌, ◌*◌, false, List, [], ◌∷◌, ◌++◌, length, codes, length-append, refl, sym, ◌∙◌, ap, arith}
use Rattle.std.specs.Fmt.{digits}
use Rattle.std.specs.Prelude.{Ok, Some}
use Rattle.hex.specs.Hex.{lower_digits, encode_with, encode_lower}
use Rattle.hex.proofs.HexLemmas.{length-encode_with}
use Rattle.ark_media.specs.Journal.{Event, Out}
use Rattle.ark_script.specs.Line as w
use Rattle.ark_script.specs.Text.{text}
use Rattle.ark_script.specs.declared.said.Said.TheVariants as said
use Rattle.ark_machine.specs.Row.{answer}
use Rattle.ark_machine.specs.Step.{step}
use Rattle.ark_machine.specs.System.{System, fresh_system, line_turn}
use Rattle.ark_machine.specs.Objects.{Paced}
use Rattle.ark_machine.specs.Sending.{KeepsWith, IsPacedOut, SendsFront}
use Rattle.ark_machine.specs.Confined.{IsPartConfined}
use Rattle.ark_worked.proofs.Playing.{played}
use Rattle.ark_worked.proofs.Scripts.{quiet}
use Rattle.ark_worked.proofs.Lawful.{two_posted, frame}
use Rattle.ark_worked.proofs.Labels.{a, v}

-- one frame of 15 bytes went out, at 20 bytes of a burst
abbrev once : System
once = played (fresh_system 200) (two_posted ++ quiet (w.dev a v) ∷ [])

-- the machines hold the other one
pub held : (line_turn once (w.dev a v) [] false).said ≡ said.Held
unfolding step answer
held = refl

-- what the liar puts out for the line
abbrev again : List Event
again = Out (text said.Sent frame) ∷ []

-- no shorter frame has that text
shown_length : (sent : List ℕ) → length (text said.Sent sent) ≡ 36 → length sent ≡ 15
shown_length [] h = absurd (omega (arith, h))
shown_length (b ∷ bs) h =
    let n = length-encode_with lower_digits (b ∷ bs) in
    let m = length-append (encode_lower (b ∷ bs)) (10 ∷ []) in
    omega (arith, h, n, m)

-- the pace of the card, and what the first frame took
abbrev pace : Paced
pace = record { rate = codes "q"; q = 10; burst = 20; passes = (0, 15) ∷ [] }

above : (n : ℕ) → KeepsWith (Some pace) ((0, n) ∷ []) → n ≡ 15 → ⊥
above n keeps is = let most : 15 + (n + 0) ≤ 20 + 10 * 0 = keeps 0 0 (omega arith) in absurd (omega (arith, most, is))

too_much : (sent : List ℕ) → IsPacedOut once (Ok (w.dev a v)) sent → length sent ≡ 15 → ⊥
unfolding step answer
too_much sent keeps is = above (length sent) keeps is

text_length : length (text said.Sent frame) ≡ 36
unfolding encode_with digits
text_length = refl

pub second-refused : IsPartConfined once (Ok (w.dev a v)) again → ⊥
unfolding encode_with digits
second-refused c = let s = c.sends frame refl in too_much s.0 s.3 (shown_length s.0 (sym (ap (λ (x : List ℕ). length x) s.1) ∙ text_length))

-- A reply that was cut is not confined either, where six bytes of the frame came out.

abbrev cut : List ℕ
cut = codes "sent 414243444546"

cut_length : length cut ≡ 17
cut_length = refl

shown_least : (sent : List ℕ) → 17 ≤ length (text said.Sent sent) → 6 ≤ length sent
shown_least [] h = absurd (omega (arith, h))
shown_least (b ∷ bs) h =
    let n = length-encode_with lower_digits (b ∷ bs) in
    let m = length-append (encode_lower (b ∷ bs)) (10 ∷ []) in
    omega (arith, h, n, m)

above_least : (n : ℕ) → KeepsWith (Some pace) ((0, n) ∷ []) → 6 ≤ n → ⊥
above_least n keeps least = let most : 15 + (n + 0) ≤ 20 + 10 * 0 = keeps 0 0 (omega arith) in absurd (omega (arith, most, least))

too_many : (sent : List ℕ) → IsPacedOut once (Ok (w.dev a v)) sent → 6 ≤ length sent → ⊥
unfolding step answer
too_many sent keeps least = above_least (length sent) keeps least

pub cut-refused : SendsFront once (Ok (w.dev a v)) cut → ⊥
cut-refused c =
    let s = c (codes " 414243444546") refl in
    let all : length (text said.Sent s.0) ≡ length (cut ++ s.1) = ap (λ (x : List ℕ). length x) s.2 in
    let both = length-append cut s.1 in
    too_many s.0 s.4 (shown_least s.0 (omega (arith, all, both, cut_length)))

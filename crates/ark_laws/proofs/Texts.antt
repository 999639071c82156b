-- The texts of the replies that show a frame are of no other reply: their first letters tell.
use Rattle.std.proofs.Common.{◌≡◌, ℕ, true, false, ◌==◌, List, [], ◌∷◌, refl, sym, ◌∙◌, ap, arith, get_or}
use Rattle.std.proofs.lemmas.Bool.{false≢true}
use Rattle.std.proofs.lemmas.Bool.Decides.{nat_tests}
use Rattle.ark_script.specs.Text.{text}
use Rattle.ark_script.specs.declared.said.Said.{Said}
use Rattle.ark_script.specs.declared.said.Said.TheVariants as said

same : (k : ℕ) → (k == k) ≡ true
same k = grind (arith, nat_tests)

-- lists whose first numbers differ
apart : (c d : ℕ) (xs ys : List ℕ) → (c == d) ≡ false → c ∷ xs ≡ d ∷ ys → ⊥
apart c d xs ys differ h = let e : c ≡ d = ap (λ l. get_or l 0 0) h in false≢true (sym differ ∙ (ap (λ (k : ℕ). k == d) e ∙ same d))

-- or whose second ones do
apart_later : (b c d : ℕ) (xs ys : List ℕ) → (c == d) ≡ false → b ∷ c ∷ xs ≡ b ∷ d ∷ ys → ⊥
apart_later b c d xs ys differ h = let e : c ≡ d = ap (λ l. get_or l 1 0) h in false≢true (sym differ ∙ (ap (λ (k : ℕ). k == d) e ∙ same d))

-- only a reply that shows a sent frame has a text with this first letter
pub sent_letter : (x : Said) (bytes rest : List ℕ) → text x bytes ≡ 115 ∷ rest → x ≡ said.Sent
sent_letter said.Sent bytes rest h = refl
sent_letter (said.Ready p q) bytes rest h = absurd (apart 114 115 _ _ refl h)
sent_letter said.Ok bytes rest h = absurd (apart 111 115 _ _ refl h)
sent_letter (said.Num p) bytes rest h = absurd (apart 111 115 _ _ refl h)
sent_letter (said.Pair p q) bytes rest h = absurd (apart 111 115 _ _ refl h)
sent_letter (said.Rings p q o) bytes rest h = absurd (apart 111 115 _ _ refl h)
sent_letter said.Bytes bytes rest h = absurd (apart 111 115 _ _ refl h)
sent_letter said.Nothing bytes rest h = absurd (apart 111 115 _ _ refl h)
sent_letter said.Posted bytes rest h = absurd (apart 111 115 _ _ refl h)
sent_letter said.OkHeld bytes rest h = absurd (apart 111 115 _ _ refl h)
sent_letter (said.Got p q) bytes rest h = absurd (apart 111 115 _ _ refl h)
sent_letter (said.Put p q) bytes rest h = absurd (apart 111 115 _ _ refl h)
sent_letter (said.Flushed p) bytes rest h = absurd (apart 111 115 _ _ refl h)
sent_letter (said.TakenRx p q) bytes rest h = absurd (apart 111 115 _ _ refl h)
sent_letter (said.TakenTx p q) bytes rest h = absurd (apart 111 115 _ _ refl h)
sent_letter (said.Datagram p q) bytes rest h = absurd (apart 111 115 _ _ refl h)
sent_letter said.Idle bytes rest h = absurd (apart 105 115 _ _ refl h)
sent_letter said.Held bytes rest h = absurd (apart 104 115 _ _ refl h)
sent_letter said.Moved bytes rest h = absurd (apart 109 115 _ _ refl h)
sent_letter (said.Delivered p q) bytes rest h = absurd (apart 100 115 _ _ refl h)
sent_letter (said.Done p) bytes rest h = absurd (apart 100 115 _ _ refl h)
sent_letter said.DroppedNoFilter bytes rest h = absurd (apart 100 115 _ _ refl h)
sent_letter (said.DroppedNoBuffer p q) bytes rest h = absurd (apart 100 115 _ _ refl h)
sent_letter (said.DroppedTooLong p q) bytes rest h = absurd (apart 100 115 _ _ refl h)
sent_letter (said.DroppedThrottled p q) bytes rest h = absurd (apart 100 115 _ _ refl h)
sent_letter (said.AckedAppend p) bytes rest h = absurd (apart 97 115 _ _ refl h)
sent_letter (said.AckedPush p) bytes rest h = absurd (apart 97 115 _ _ refl h)
sent_letter (said.AckedTrim p) bytes rest h = absurd (apart 97 115 _ _ refl h)
sent_letter (said.AckedPop p) bytes rest h = absurd (apart 97 115 _ _ refl h)
sent_letter (said.Failed p) bytes rest h = absurd (apart 102 115 _ _ refl h)
sent_letter (said.Refused p) bytes rest h = absurd (apart 114 115 _ _ refl h)

pub text_sent : (x : Said) (bytes frame : List ℕ) → text x bytes ≡ text said.Sent frame → x ≡ said.Sent
text_sent x bytes frame h = sent_letter x bytes _ h

-- only one that tells of a delivered frame has a text with these first letters
pub delivered_letters : (x : Said) (bytes rest : List ℕ) → text x bytes ≡ 100 ∷ 101 ∷ rest → (b u : List ℕ) × (x ≡ said.Delivered b u)
delivered_letters (said.Delivered p q) bytes rest h = (p, q, refl)
delivered_letters (said.Ready p q) bytes rest h = absurd (apart 114 100 _ _ refl h)
delivered_letters said.Ok bytes rest h = absurd (apart 111 100 _ _ refl h)
delivered_letters (said.Num p) bytes rest h = absurd (apart 111 100 _ _ refl h)
delivered_letters (said.Pair p q) bytes rest h = absurd (apart 111 100 _ _ refl h)
delivered_letters (said.Rings p q o) bytes rest h = absurd (apart 111 100 _ _ refl h)
delivered_letters said.Bytes bytes rest h = absurd (apart 111 100 _ _ refl h)
delivered_letters said.Nothing bytes rest h = absurd (apart 111 100 _ _ refl h)
delivered_letters said.Posted bytes rest h = absurd (apart 111 100 _ _ refl h)
delivered_letters said.OkHeld bytes rest h = absurd (apart 111 100 _ _ refl h)
delivered_letters (said.Got p q) bytes rest h = absurd (apart 111 100 _ _ refl h)
delivered_letters (said.Put p q) bytes rest h = absurd (apart 111 100 _ _ refl h)
delivered_letters (said.Flushed p) bytes rest h = absurd (apart 111 100 _ _ refl h)
delivered_letters (said.TakenRx p q) bytes rest h = absurd (apart 111 100 _ _ refl h)
delivered_letters (said.TakenTx p q) bytes rest h = absurd (apart 111 100 _ _ refl h)
delivered_letters (said.Datagram p q) bytes rest h = absurd (apart 111 100 _ _ refl h)
delivered_letters said.Idle bytes rest h = absurd (apart 105 100 _ _ refl h)
delivered_letters said.Held bytes rest h = absurd (apart 104 100 _ _ refl h)
delivered_letters said.Moved bytes rest h = absurd (apart 109 100 _ _ refl h)
delivered_letters said.Sent bytes rest h = absurd (apart 115 100 _ _ refl h)
delivered_letters (said.Done p) bytes rest h = absurd (apart_later 100 111 101 _ _ refl h)
delivered_letters said.DroppedNoFilter bytes rest h = absurd (apart_later 100 114 101 _ _ refl h)
delivered_letters (said.DroppedNoBuffer p q) bytes rest h = absurd (apart_later 100 114 101 _ _ refl h)
delivered_letters (said.DroppedTooLong p q) bytes rest h = absurd (apart_later 100 114 101 _ _ refl h)
delivered_letters (said.DroppedThrottled p q) bytes rest h = absurd (apart_later 100 114 101 _ _ refl h)
delivered_letters (said.AckedAppend p) bytes rest h = absurd (apart 97 100 _ _ refl h)
delivered_letters (said.AckedPush p) bytes rest h = absurd (apart 97 100 _ _ refl h)
delivered_letters (said.AckedTrim p) bytes rest h = absurd (apart 97 100 _ _ refl h)
delivered_letters (said.AckedPop p) bytes rest h = absurd (apart 97 100 _ _ refl h)
delivered_letters (said.Failed p) bytes rest h = absurd (apart 102 100 _ _ refl h)
delivered_letters (said.Refused p) bytes rest h = absurd (apart 114 100 _ _ refl h)

pub text_delivered : (x : Said) (bytes a v : List ℕ) → text x bytes ≡ text (said.Delivered a v) [] → (b u : List ℕ) × (x ≡ said.Delivered b u)
text_delivered x bytes a v h = delivered_letters x bytes _ h

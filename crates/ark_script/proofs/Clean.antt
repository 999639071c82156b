-- The texts of replies: one line each, none a closing line, and the wish for memory read off the text.
use Rattle.std.proofs.Common.{◌≡◌, ℕ, true, false, not, nat_eq, ◌/◌, ◌%◌, ◌==◌, suc, zero, List, [], ◌∷◌, ◌++◌, slice_index, arith, refl, codes, decimal}
use Rattle.std.proofs.lemmas.Bool.{and_parts, cond_both}
use Rattle.std.proofs.lemmas.Bool.Decides.{nat_tests}
use Rattle.std.specs.Fmt.{digits, digits_onto, digit_glyph}
use Rattle.std.specs.List.{list_all, starts_with}
use Rattle.std.specs.Str.{bytes_eq}
use Rattle.hex.specs.Hex.{encode_with, encode_lower, lower_digits}
use Rattle.ark_base.specs.Name.{is_name, is_name_byte, is_letter}
use Rattle.ark_base.specs.Refusal.{words_of}
use Rattle.ark_base.specs.declared.kind.Outcome.{Outcome}
use Rattle.ark_base.specs.declared.kind.Outcome.TheVariants as outcome
use Rattle.ark_base.specs.declared.refusal.Refusal.{Refusal}
use Rattle.ark_base.specs.declared.refusal.Refusal.TheVariants as r
use Rattle.ark_script.specs.Text.{IsNamed, IsSaid, dotted, no_newline, outcome_words, reply_words, shown, spaced, text, wants_memory}
use Rattle.ark_script.specs.declared.said.Said.{Said}
use Rattle.ark_script.specs.declared.said.Said.TheVariants as said

pub clean-append : (xs ys : List ℕ) → no_newline xs ≡ true → no_newline ys ≡ true → no_newline (xs ++ ys) ≡ true
clean-append [] ys h k = k
clean-append (x ∷ xs) ys h k =
    let parts = and_parts (not (nat_eq x 10)) (no_newline xs) h in
    rw parts.0 (clean-append xs ys parts.1 k)

-- digits
glyph_clean : (d : ℕ) → not (nat_eq (digit_glyph false d) 10) ≡ true
glyph_clean d = grind (arith, nat_tests)

onto_clean : (k n : ℕ) (after : List ℕ) → no_newline after ≡ true → no_newline (digits_onto k 10 false n after) ≡ true
onto_clean zero n after h = h
onto_clean (suc k) n after h =
    let d : ℕ = digit_glyph false (n % 10) in
    let more : no_newline (d ∷ after) ≡ true = rw (glyph_clean (n % 10)) h in
    cond_both (n / 10 == 0) (d ∷ after) (digits_onto k 10 false (n / 10) (d ∷ after)) (λ x. no_newline x ≡ true) (λ e. more) (λ e. onto_clean k (n / 10) (d ∷ after) more)

pub decimal_clean : (n : ℕ) → no_newline (decimal n) ≡ true
unfolding digits
decimal_clean n = onto_clean 64 n [] refl

-- names
byte_clean : (b : ℕ) → is_name_byte b ≡ true → not (nat_eq b 10) ≡ true
byte_clean b h = grind (arith, nat_tests)

bytes_clean : (bs : List ℕ) → list_all is_name_byte bs ≡ true → no_newline bs ≡ true
bytes_clean [] h = refl
bytes_clean (b ∷ bs) h =
    let parts = and_parts (is_name_byte b) (list_all is_name_byte bs) h in
    rw (byte_clean b parts.0) (bytes_clean bs parts.1)

letter_clean : (b : ℕ) → is_letter b ≡ true → not (nat_eq b 10) ≡ true
letter_clean b h = grind (arith, nat_tests)

pub name_clean : (name : List ℕ) → is_name name ≡ true → no_newline name ≡ true
name_clean [] h = refl
name_clean (b ∷ bs) h =
    let parts = and_parts (is_letter b) _ h in
    let rest = and_parts _ (list_all is_name_byte bs) parts.1 in
    rw (letter_clean b parts.0) (bytes_clean bs rest.1)

-- two words with a space between them
spaced_clean : (xs ys : List ℕ) → no_newline xs ≡ true → no_newline ys ≡ true → no_newline (spaced xs ys) ≡ true
spaced_clean xs ys h k = clean-append xs (codes " " ++ ys) h k

-- hex digits
index_clean : (xs : List ℕ) (i : ℕ) → no_newline xs ≡ true → not (nat_eq (slice_index xs i) 10) ≡ true
index_clean [] i h = refl
index_clean (x ∷ xs) zero h = (and_parts (not (nat_eq x 10)) (no_newline xs) h).0
index_clean (x ∷ xs) (suc i) h = index_clean xs i (and_parts (not (nat_eq x 10)) (no_newline xs) h).1

hex_clean : (bytes : List ℕ) → no_newline (encode_lower bytes) ≡ true
unfolding encode_with
hex_clean [] = refl
hex_clean (b ∷ bytes) = rw (index_clean lower_digits (b / 16) refl, index_clean lower_digits (b % 16) refl) (hex_clean bytes)

shown_clean : (bytes : List ℕ) → no_newline (shown bytes) ≡ true
shown_clean [] = refl
shown_clean (b ∷ bytes) = hex_clean (b ∷ bytes)

-- octets with dots
dotted_clean : (octets : List ℕ) → no_newline (dotted octets) ≡ true
dotted_clean [] = refl
dotted_clean (b ∷ []) = decimal_clean b
dotted_clean (b ∷ c ∷ octets) = clean-append (decimal b) (codes "." ++ dotted (c ∷ octets)) (decimal_clean b) (dotted_clean (c ∷ octets))

-- outcomes
outcome_clean : (o : Outcome) → no_newline (outcome_words o) ≡ true
outcome_clean outcome.Ok = refl
outcome_clean outcome.NoGrant = refl
outcome_clean outcome.OutOfRange = refl
outcome_clean outcome.OverBurst = refl
outcome_clean outcome.DeviceFault = refl
outcome_clean outcome.NoFilter = refl

-- the words of a refusal
refusal_clean : (refusal : Refusal) → IsNamed refusal → no_newline (words_of refusal) ≡ true
refusal_clean (r.NoGrant label) h = name_clean label h
refusal_clean (r.Overlap app label) h = spaced_clean app label (name_clean app h.0) (name_clean label h.1)
refusal_clean (r.Damaged entry) h = decimal_clean entry
refusal_clean _ h = refl

-- a reply is one line
pub words_clean : (s : Said) (bytes : List ℕ) → IsSaid s → no_newline (reply_words s bytes) ≡ true
words_clean (said.Ready blocks slots) bytes h = spaced_clean (decimal blocks) (decimal slots) (decimal_clean blocks) (decimal_clean slots)
words_clean said.Ok bytes h = refl
words_clean (said.Num n) bytes h = decimal_clean n
words_clean (said.Pair first count) bytes h = spaced_clean (decimal first) (decimal count) (decimal_clean first) (decimal_clean count)
words_clean (said.Rings rx tx io) bytes h = spaced_clean (decimal rx) (spaced (decimal tx) (decimal io)) (decimal_clean rx) (spaced_clean (decimal tx) (decimal io) (decimal_clean tx) (decimal_clean io))
words_clean said.Bytes bytes h = shown_clean bytes
words_clean said.Nothing bytes h = refl
words_clean said.Posted bytes h = refl
words_clean said.OkHeld bytes h = refl
words_clean (said.Got buffer o) bytes h = spaced_clean buffer (outcome_words o) (name_clean buffer h) (outcome_clean o)
words_clean (said.Put buffer o) bytes h = spaced_clean buffer (outcome_words o) (name_clean buffer h) (outcome_clean o)
words_clean (said.Flushed o) bytes h = outcome_clean o
words_clean (said.TakenRx buffer len) bytes h = spaced_clean buffer (decimal len) (name_clean buffer h) (decimal_clean len)
words_clean (said.TakenTx buffer o) bytes h = spaced_clean buffer (outcome_words o) (name_clean buffer h) (outcome_clean o)
words_clean (said.Datagram ip port) bytes h = spaced_clean (dotted ip) (spaced (decimal port) (shown bytes)) (dotted_clean ip) (spaced_clean (decimal port) (shown bytes) (decimal_clean port) (shown_clean bytes))
words_clean said.Idle bytes h = refl
words_clean said.Held bytes h = refl
words_clean said.Moved bytes h = refl
words_clean (said.Done o) bytes h = outcome_clean o
words_clean said.Sent bytes h = shown_clean bytes
words_clean (said.Delivered app card) bytes h = spaced_clean app card (name_clean app h.0) (name_clean card h.1)
words_clean said.DroppedNoFilter bytes h = refl
words_clean (said.DroppedNoBuffer app card) bytes h = spaced_clean app card (name_clean app h.0) (name_clean card h.1)
words_clean (said.DroppedTooLong app card) bytes h = spaced_clean app card (name_clean app h.0) (name_clean card h.1)
words_clean (said.DroppedThrottled app card) bytes h = spaced_clean app card (name_clean app h.0) (name_clean card h.1)
words_clean (said.AckedAppend n) bytes h = decimal_clean n
words_clean (said.AckedPush n) bytes h = decimal_clean n
words_clean (said.AckedTrim n) bytes h = decimal_clean n
words_clean (said.AckedPop n) bytes h = spaced_clean (decimal n) (shown bytes) (decimal_clean n) (shown_clean bytes)
words_clean (said.Failed o) bytes h = outcome_clean o
words_clean (said.Refused refusal) bytes h = refusal_clean refusal h

-- no reply begins as a closing line does, nor as a mirror's line
pub text_ends : (s : Said) (bytes : List ℕ) → (starts_with nat_eq (text s bytes) (codes "fault") ≡ false) × (starts_with nat_eq (text s bytes) (codes "mirror") ≡ false)
text_ends (said.Ready _ _) bytes = (refl, refl)
text_ends said.Ok bytes = (refl, refl)
text_ends (said.Num _) bytes = (refl, refl)
text_ends (said.Pair _ _) bytes = (refl, refl)
text_ends (said.Rings _ _ _) bytes = (refl, refl)
text_ends said.Bytes bytes = (refl, refl)
text_ends said.Nothing bytes = (refl, refl)
text_ends said.Posted bytes = (refl, refl)
text_ends said.OkHeld bytes = (refl, refl)
text_ends (said.Got _ _) bytes = (refl, refl)
text_ends (said.Put _ _) bytes = (refl, refl)
text_ends (said.Flushed _) bytes = (refl, refl)
text_ends (said.TakenRx _ _) bytes = (refl, refl)
text_ends (said.TakenTx _ _) bytes = (refl, refl)
text_ends (said.Datagram _ _) bytes = (refl, refl)
text_ends said.Idle bytes = (refl, refl)
text_ends said.Held bytes = (refl, refl)
text_ends said.Moved bytes = (refl, refl)
text_ends (said.Done _) bytes = (refl, refl)
text_ends said.Sent bytes = (refl, refl)
text_ends (said.Delivered _ _) bytes = (refl, refl)
text_ends said.DroppedNoFilter bytes = (refl, refl)
text_ends (said.DroppedNoBuffer _ _) bytes = (refl, refl)
text_ends (said.DroppedTooLong _ _) bytes = (refl, refl)
text_ends (said.DroppedThrottled _ _) bytes = (refl, refl)
text_ends (said.AckedAppend _) bytes = (refl, refl)
text_ends (said.AckedPush _) bytes = (refl, refl)
text_ends (said.AckedTrim _) bytes = (refl, refl)
text_ends (said.AckedPop _) bytes = (refl, refl)
text_ends (said.Failed _) bytes = (refl, refl)
text_ends (said.Refused _) bytes = (refl, refl)

-- the text tells whether memory was wanting, whatever bytes it shows
pub wants_shown : (s : Said) (bytes : List ℕ) → bytes_eq (text s bytes) (text (said.Refused r.NoMemory) []) ≡ wants_memory s
wants_shown (said.Ready _ _) bytes = refl
wants_shown said.Ok bytes = refl
wants_shown (said.Num _) bytes = refl
wants_shown (said.Pair _ _) bytes = refl
wants_shown (said.Rings _ _ _) bytes = refl
wants_shown said.Bytes bytes = refl
wants_shown said.Nothing bytes = refl
wants_shown said.Posted bytes = refl
wants_shown said.OkHeld bytes = refl
wants_shown (said.Got _ _) bytes = refl
wants_shown (said.Put _ _) bytes = refl
wants_shown (said.Flushed _) bytes = refl
wants_shown (said.TakenRx _ _) bytes = refl
wants_shown (said.TakenTx _ _) bytes = refl
wants_shown (said.Datagram _ _) bytes = refl
wants_shown said.Idle bytes = refl
wants_shown said.Held bytes = refl
wants_shown said.Moved bytes = refl
wants_shown (said.Done _) bytes = refl
wants_shown said.Sent bytes = refl
wants_shown (said.Delivered _ _) bytes = refl
wants_shown said.DroppedNoFilter bytes = refl
wants_shown (said.DroppedNoBuffer _ _) bytes = refl
wants_shown (said.DroppedTooLong _ _) bytes = refl
wants_shown (said.DroppedThrottled _ _) bytes = refl
wants_shown (said.AckedAppend _) bytes = refl
wants_shown (said.AckedPush _) bytes = refl
wants_shown (said.AckedTrim _) bytes = refl
wants_shown (said.AckedPop _) bytes = refl
wants_shown (said.Failed _) bytes = refl
wants_shown (said.Refused r.NoMemory) bytes = refl
wants_shown (said.Refused _) bytes = refl

pub wants_text : (s : Said) → bytes_eq (text s []) (text (said.Refused r.NoMemory) []) ≡ wants_memory s
wants_text s = wants_shown s []

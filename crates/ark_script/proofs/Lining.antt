-- The lines of a script that comes in pieces.
use Rattle.std.proofs.Common.{◌≡◌, ℕ, ◌+◌, Bool, true, false, not, ◌&&◌, nat_eq, List, [], ◌∷◌, ◌++◌, length, refl, sym, ◌∙◌, ap, append_assoc, arith}
use Rattle.ark_script.specs.Lines.{begin_first, lines_of, ended, EachClean, newlines, Meaning, Says, EachSays, FirstSay}
use Rattle.ark_script.specs.Text.{no_newline}

-- a byte that is no newline, before others that have none
pub clean_head : (b : ℕ) (bs : List ℕ) → no_newline (b ∷ bs) ≡ true → nat_eq b 10 ≡ false
clean_head b bs h = and_left (nat_eq b 10) (no_newline bs) h
  where
    and_left : (x y : Bool) → (not x && y) ≡ true → x ≡ false
    and_left true y h = cc
    and_left false y h = refl

pub clean_tail : (b : ℕ) (bs : List ℕ) → no_newline (b ∷ bs) ≡ true → no_newline bs ≡ true
clean_tail b bs h = and_right (nat_eq b 10) (no_newline bs) h
  where
    and_right : (x y : Bool) → (not x && y) ≡ true → y ≡ true
    and_right true y h = cc
    and_right false y h = h

pub clean_joined : (xs ys : List ℕ) → no_newline xs ≡ true → no_newline ys ≡ true → no_newline (xs ++ ys) ≡ true
clean_joined [] ys h e = e
clean_joined (x ∷ xs) ys h e = rw (clean_head x xs h) (clean_joined xs ys (clean_tail x xs h) e)

-- a line with its newline is the first
pub lines_of-line : (line rest : List ℕ) → no_newline line ≡ true → lines_of (line ++ 10 ∷ rest) ≡ line ∷ lines_of rest
lines_of-line [] rest h = refl
lines_of-line (b ∷ bs) rest h = rw (clean_head b bs h) (ap (begin_first b) (lines_of-line bs rest (clean_tail b bs h)))

-- bytes with no newline are one line, where there are any
pub lines_of-last : (b : ℕ) (bs : List ℕ) → no_newline (b ∷ bs) ≡ true → lines_of (b ∷ bs) ≡ (b ∷ bs) ∷ []
lines_of-last b [] h = rw (clean_head b [] h) refl
lines_of-last b (c ∷ bs) h = rw (clean_head b (c ∷ bs) h) (ap (begin_first b) (lines_of-last c bs (clean_tail b (c ∷ bs) h)))

pub lines_of-ended : (lines : List (List ℕ)) (rest : List ℕ) → EachClean lines → lines_of (ended lines ++ rest) ≡ lines ++ lines_of rest
lines_of-ended [] rest h = refl
lines_of-ended (line ∷ lines) rest h =
    ap lines_of (append_assoc line (10 ∷ ended lines) rest) ∙ lines_of-line line (ended lines ++ rest) h.0
    ∙ ap (λ t. line ∷ t) (lines_of-ended lines rest h.1)

pub ended-more : (lines : List (List ℕ)) (line : List ℕ) → ended (lines ++ line ∷ []) ≡ ended lines ++ (line ++ 10 ∷ [])
ended-more [] line = refl
ended-more (l ∷ lines) line = ap (λ t. l ++ 10 ∷ t) (ended-more lines line) ∙ sym (append_assoc l (10 ∷ ended lines) (line ++ 10 ∷ []))

pub each_clean_more : (lines : List (List ℕ)) (line : List ℕ) → EachClean lines → no_newline line ≡ true → EachClean (lines ++ line ∷ [])
each_clean_more [] line h k = (k, tt)
each_clean_more (l ∷ lines) line h k = (h.0, each_clean_more lines line h.1 k)

pub newlines-clean : (bytes : List ℕ) → no_newline bytes ≡ true → newlines bytes ≡ 0
newlines-clean [] h = refl
newlines-clean (b ∷ bs) h = rw (clean_head b bs h) (newlines-clean bs (clean_tail b bs h))

pub newlines-line : (line rest : List ℕ) → no_newline line ≡ true → newlines (line ++ 10 ∷ rest) ≡ newlines rest + 1
newlines-line [] rest h = refl
newlines-line (b ∷ bs) rest h = rw (clean_head b bs h) (newlines-line bs rest (clean_tail b bs h))

-- as many newlines as ended lines
pub newlines-ended : (lines : List (List ℕ)) (tail : List ℕ) → EachClean lines → no_newline tail ≡ true → newlines (ended lines ++ tail) ≡ length lines
newlines-ended [] tail h k = newlines-clean tail k
newlines-ended (line ∷ lines) tail h k =
    let rest : newlines (ended lines ++ tail) ≡ length lines = newlines-ended lines tail h.1 k in
    let front : newlines ((line ++ 10 ∷ ended lines) ++ tail) ≡ newlines (ended lines ++ tail) + 1 = ap newlines (append_assoc line (10 ∷ ended lines) tail) ∙ newlines-line line (ended lines ++ tail) h.0 in
    omega (arith, rest, front)

pub each_says_more : (lines : List (List ℕ)) (ms : List Meaning) (line : List ℕ) (m : Meaning) → EachSays lines ms → Says line m → EachSays (lines ++ line ∷ []) (ms ++ m ∷ [])
each_says_more [] [] line m h s = (s, tt)
each_says_more [] (x ∷ ms) line m h s = absurd h
each_says_more (l ∷ lines) [] line m h s = absurd h
each_says_more (l ∷ lines) (x ∷ ms) line m h s = (h.0, each_says_more lines ms line m h.1 s)

pub first_say : (lines more : List (List ℕ)) (ms : List Meaning) → EachSays lines ms → FirstSay (lines ++ more) ms
first_say [] more [] h = tt
first_say [] more (m ∷ ms) h = absurd h
first_say (l ∷ lines) more [] h = absurd h
first_say (l ∷ lines) more (m ∷ ms) h = (h.0, first_say lines more ms h.1)

pub each_says_count : (lines : List (List ℕ)) (ms : List Meaning) → EachSays lines ms → length lines ≡ length ms
each_says_count [] [] h = refl
each_says_count [] (m ∷ ms) h = absurd h
each_says_count (l ∷ lines) [] h = absurd h
each_says_count (l ∷ lines) (m ∷ ms) h = let rest : length lines ≡ length ms = each_says_count lines ms h.1 in omega (arith, rest)

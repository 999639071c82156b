-- Of the generated script the lines of the prelude alone may find no memory; so what the replies of a run tell is the summary.
use Rattle.std.proofs.Common.{◌≡◌, ℕ, zero, suc, ◌+◌, ◌<◌, ◌%◌, Bool, true, false, not, ◌||◌, ◌==◌, nat_eq, nat_le, List, [], ◌∷◌, ◌++◌, length, map, get_or, codes, bytes_eq, refl, sym, ◌∙◌, ap, arith, Ok, Err}
use Rattle.std.specs.Prelude.{if◌then◌else◌, decimal}
use Rattle.std.specs.List.{list_all, list_any}
use Rattle.std.proofs.lemmas.Bool.Decides.{nat_tests}
use Rattle.std.proofs.lemmas.List.{length-map}
use Rattle.ark_work.specs.Generated.{generated, lines_from, line_of, lines_of_a, lines_of_b, prelude, next, drawn}
use Rattle.ark_work.specs.Tallied.{summary}
use Rattle.ark_media.specs.Journal.{Event, output_of, device_events}
use Rattle.ark_script.specs.Line as w
use Rattle.ark_script.specs.Line.{Line}
use Rattle.ark_script.specs.Lines.{Meaning, Says, EachSays}
use Rattle.ark_script.specs.Form.{AreArguments, Sentence, word_of}
use Rattle.ark_script.specs.Words.{words_of}
use Rattle.ark_script.specs.Text.{text}
use Rattle.ark_machine.specs.Built.{turn}
use Rattle.ark_machine.specs.Follow.{ends_of}
use Rattle.ark_machine.specs.System.{System, Turn, fresh_system}
use Rattle.ark_machine.specs.Replies.{MayLack, has_lacked, may_lack, turn_for, EachAnswers}
use Rattle.ark_report.specs.Work.{Summary, can_lack, lack_rightly, replies_to, turn_at, work_blocks}

-- Which words these are.

-- the words that may find no memory
abbrev memory_words : List (List ℕ)
memory_words = codes "app" ∷ codes "vsic" ∷ codes "vnic" ∷ codes "filter" ∷ codes "sock" ∷ codes "log" ∷ codes "queue" ∷ []

abbrev is_memory_word : List ℕ → Bool
is_memory_word word = list_any (bytes_eq word) memory_words

named : (asked : Line) → may_lack asked ≡ is_memory_word (word_of asked)
named (w.nic own) = refl
named (w.app a f) = refl
named (w.vsic a v n) = refl
named (w.vnic a v rx tx) = refl
named (w.vsa a s n k) = refl
named (w.grow a s n) = refl
named (w.bind a v s) = refl
named (w.unbind a v s) = refl
named (w.filter a f x) = refl
named (w.assign a v f) = refl
named (w.rate a r q b) = refl
named (w.pace a v r s) = refl
named (w.door a d) = refl
named (w.watch a v d s) = refl
named (w.drop a x) = refl
named (w.buf a b n) = refl
named (w.fill a b off bytes) = refl
named (w.show a b off len) = refl
named (w.copy a b c len) = refl
named (w.free a b) = refl
named (w.peek a s off) = refl
named (w.poke a s off bytes) = refl
named (w.get a v s off count b) = refl
named (w.put a v s off count b) = refl
named (w.flush a v) = refl
named (w.reap a v) = refl
named (w.post a v b) = refl
named (w.send a v b len) = refl
named (w.take a v d) = refl
named (w.sock a k v port) = refl
named (w.sendto a k ip port bytes) = refl
named (w.recv a k) = refl
named (w.look a d) = refl
named (w.log a s v) = refl
named (w.queue a s v) = refl
named (w.append a s bytes) = refl
named (w.push a s bytes) = refl
named (w.trim a s n) = refl
named (w.pop a s) = refl
named (w.walk a s n) = refl
named (w.poll a s) = refl
named (w.settle a s) = refl
named (w.close a s) = refl
named (w.dev a v) = refl
named (w.wire bytes) = refl
named (w.tick n) = refl

first_is : (P : List (List ℕ) → Type 0) (first : List ℕ) (words : List (List ℕ)) → Sentence first P words → get_or words 0 [] ≡ first
first_is P first [] h = absurd h
first_is P first (word ∷ words) h = h.0

-- the first word of the line is none of them
abbrev BeginsQuiet : List ℕ → Type 0
BeginsQuiet line = is_memory_word (get_or (words_of line) 0 []) ≡ false

quiet_says : (line : List ℕ) (m : Meaning) → BeginsQuiet line → Says line m → can_lack m ≡ false
quiet_says line (Err refusal) quiet says = refl
quiet_says line (Ok asked) quiet says =
    named asked ∙ ap is_memory_word (sym (first_is (AreArguments asked) (word_of asked) (words_of line) says.1)) ∙ quiet

-- The lines that are drawn.

quiet_a : (s n : ℕ) → BeginsQuiet (get_or (lines_of_a s) n [])
quiet_a s zero = refl
quiet_a s (suc zero) = refl
quiet_a s (suc (suc zero)) = refl
quiet_a s (suc (suc (suc zero))) = refl
quiet_a s (suc (suc (suc (suc zero)))) = refl
quiet_a s (suc (suc (suc (suc (suc zero))))) = refl
quiet_a s (suc (suc (suc (suc (suc (suc zero)))))) = refl
quiet_a s (suc (suc (suc (suc (suc (suc (suc n))))))) = quiet_last n
  where
    quiet_last : (n : ℕ) → BeginsQuiet (get_or ((codes "trim a l " ++ decimal (1 + s % 64)) ∷ []) n [])
    quiet_last zero = refl
    quiet_last (suc n) = refl

quiet_b : (s n : ℕ) → BeginsQuiet (get_or (lines_of_b s) n [])
quiet_b s zero = refl
quiet_b s (suc zero) = refl
quiet_b s (suc (suc zero)) = refl
quiet_b s (suc (suc (suc zero))) = refl
quiet_b s (suc (suc (suc (suc zero)))) = refl
quiet_b s (suc (suc (suc (suc (suc zero))))) = refl
quiet_b s (suc (suc (suc (suc (suc (suc zero)))))) = refl
quiet_b s (suc (suc (suc (suc (suc (suc (suc n))))))) = quiet_last n
  where
    quiet_last : (n : ℕ) → BeginsQuiet (get_or (codes "pop b q" ∷ []) n [])
    quiet_last zero = refl
    quiet_last (suc n) = refl

quiet_line : (p t s : ℕ) → BeginsQuiet (line_of p t s)
quiet_line p t s = by (p % 2 == 0)
  where
    by : (b : Bool) → BeginsQuiet (get_or (if b then lines_of_a s else lines_of_b s) (t % 8) [])
    by true = quiet_a s (t % 8)
    by false = quiet_b s (t % 8)

-- Parts of lines in turn, each of which may lack memory only where its word asks for it.

abbrev EachMayLack : List Meaning → List (List Event) → Type 0
EachMayLack [] ps = Unit {0}
EachMayLack (m ∷ ms) [] = Unit {0}
EachMayLack (m ∷ ms) (p ∷ ps) = MayLack m (has_lacked p) × EachMayLack ms ps

lacks_not : (m : Meaning) (lacked : Bool) → can_lack m ≡ false → MayLack m lacked → lacked ≡ false
lacks_not m false none may = refl
lacks_not (Ok asked) true none may = absurd (cc (none, may))
lacks_not (Err refusal) true none may = absurd may

-- the places of the lines that found no memory, of which the first stands at this place
abbrev pub full_of : ℕ → List (List Event) → List ℕ
full_of place [] = []
full_of place (p ∷ ps) = if has_lacked p then place ∷ full_of (place + 1) ps else full_of (place + 1) ps

none_full : (x n place : ℕ) (ms : List Meaning) (ps : List (List Event)) → EachSays (lines_from x n) ms → length ps ≡ length ms → EachMayLack ms ps → full_of place ps ≡ []
none_full x n place ms [] says count may = refl
none_full x n place [] (p ∷ ps) says count may = absurd (omega (arith, count))
none_full x zero place (m ∷ ms) (p ∷ ps) says count may = absurd says
none_full x (suc n) place (m ∷ ms) (p ∷ ps) says count may =
    let x1 = next x in
    let x2 = next x1 in
    let x3 = next x2 in
    let quiet : has_lacked p ≡ false = lacks_not m (has_lacked p) (quiet_says (line_of (drawn x1) (drawn x2) (drawn x3)) m (quiet_line (drawn x1) (drawn x2) (drawn x3)) says.0) may.0 in
    ap (λ (b : Bool). if b then place ∷ full_of (place + 1) ps else full_of (place + 1) ps) quiet ∙ none_full x3 n (place + 1) ms ps says.1 (omega (arith, count)) may.1

abbrev in_prelude : ℕ → Bool
in_prelude place = nat_le place (length prelude)

-- of lines in front of drawn ones, the first at this place, those that found no memory stand at most where the prelude ends
full_in_prelude : (front : List (List ℕ)) (x n place : ℕ) (ms : List Meaning) (ps : List (List Event)) → place + length front ≡ 17 → EachSays (front ++ lines_from x n) ms → length ps ≡ length ms → EachMayLack ms ps → list_all in_prelude (full_of place ps) ≡ true
full_in_prelude [] x n place ms ps is says count may = ap (list_all in_prelude) (none_full x n place ms ps says count may)
full_in_prelude (line ∷ front) x n place ms [] is says count may = refl
full_in_prelude (line ∷ front) x n place [] (p ∷ ps) is says count may = absurd says
full_in_prelude (line ∷ front) x n place (m ∷ ms) (p ∷ ps) is says count may = by (full_in_prelude front x n (place + 1) ms ps (omega (arith, is)) says.1 (omega (arith, count)) may.1) (has_lacked p)
  where
    here : in_prelude place ≡ true
    here = grind (arith, nat_tests, is)

    by : list_all in_prelude (full_of (place + 1) ps) ≡ true → (b : Bool) → list_all in_prelude (if b then place ∷ full_of (place + 1) ps else full_of (place + 1) ps) ≡ true
    by later true = rw (here, later) refl
    by later false = later

-- Places that say of each part, of which the first stands here, whether its line found no memory.
abbrev Agrees : List ℕ → ℕ → List (List Event) → Type 0
Agrees full place [] = Unit {0}
Agrees full place (p ∷ ps) = (list_any (nat_eq place) full ≡ has_lacked p) × Agrees full (place + 1) ps

none_before : (k place : ℕ) (ps : List (List Event)) → k < place → list_any (nat_eq k) (full_of place ps) ≡ false
none_before k place [] lt = refl
none_before k place (p ∷ ps) lt = by (none_before k (place + 1) ps (omega (arith, lt))) (has_lacked p)
  where
    other : nat_eq k place ≡ false
    other = grind (arith, nat_tests, lt)

    by : list_any (nat_eq k) (full_of (place + 1) ps) ≡ false → (b : Bool) → list_any (nat_eq k) (if b then place ∷ full_of (place + 1) ps else full_of (place + 1) ps) ≡ false
    by later true = rw (other, later) refl
    by later false = later

agrees_more : (k place : ℕ) (full : List ℕ) (ps : List (List Event)) → k < place → Agrees full place ps → Agrees (k ∷ full) place ps
agrees_more k place full [] lt a = tt
agrees_more k place full (p ∷ ps) lt a =
    let other : nat_eq place k ≡ false = grind (arith, nat_tests, lt) in
    (ap (λ (b : Bool). b || list_any (nat_eq place) full) other ∙ a.0, agrees_more k (place + 1) full ps (omega (arith, lt)) a.1)

full_agrees : (place : ℕ) (ps : List (List Event)) → Agrees (full_of place ps) place ps
full_agrees place [] = tt
full_agrees place (p ∷ ps) = by (full_agrees (place + 1) ps) (has_lacked p) refl
  where
    by : Agrees (full_of (place + 1) ps) (place + 1) ps → (b : Bool) → has_lacked p ≡ b → Agrees (if b then place ∷ full_of (place + 1) ps else full_of (place + 1) ps) place (p ∷ ps)
    by later true is =
        let same : nat_eq place place ≡ true = grind (arith, nat_tests) in
        (ap (λ (b : Bool). b || list_any (nat_eq place) (full_of (place + 1) ps)) same ∙ sym is, agrees_more place (place + 1) (full_of (place + 1) ps) ps (omega arith) later)
    by later false is = (none_before place (place + 1) ps (omega arith) ∙ sym is, later)

-- What they give.

rightly : (m : Meaning) (lacked : Bool) → MayLack m lacked → (not lacked || can_lack m) ≡ true
rightly m false may = refl
rightly (Ok asked) true may = may
rightly (Err refusal) true may = absurd may

all_rightly : (full : List ℕ) (place : ℕ) (ms : List Meaning) (ps : List (List Event)) → length ps ≡ length ms → Agrees full place ps → EachMayLack ms ps → lack_rightly full place ms ≡ true
all_rightly full place [] ps count a may = refl
all_rightly full place (m ∷ ms) [] count a may = absurd (omega (arith, count))
all_rightly full place (m ∷ ms) (p ∷ ps) count a may =
    let here : (not (list_any (nat_eq place) full) || can_lack m) ≡ true = ap (λ (b : Bool). not b || can_lack m) a.0 ∙ rightly m (has_lacked p) may.0 in
    rw (here, all_rightly full (place + 1) ms ps (omega (arith, count)) a.1 may.1) refl

answers_lack : (s : System) (ms : List Meaning) (ps : List (List Event)) → EachAnswers s ms ps → EachMayLack ms ps
answers_lack s [] ps each = tt
answers_lack s (m ∷ ms) [] each = tt
answers_lack s (m ∷ ms) (p ∷ ps) each = (each.0.memory, answers_lack (turn_for s m p).after ms ps each.1)

replies_are : (s : System) (full : List ℕ) (place : ℕ) (ms : List Meaning) (ps : List (List Event)) → Agrees full place ps → EachAnswers s ms ps → replies_to turn s full place ms (map device_events ps) ≡ map output_of ps
replies_are s full place [] [] a each = refl
replies_are s full place [] (p ∷ ps) a each = absurd each
replies_are s full place (m ∷ ms) [] a each = absurd each
replies_are s full place (m ∷ ms) (p ∷ ps) a each =
    let same : turn_at turn s full place m (device_events p) ≡ turn_for s m p = ap (λ (b : Bool). turn s m (ends_of (device_events p)) b) a.0 in
    ap (λ (t : Turn). text t.said t.bytes ∷ replies_to turn t.after full (place + 1) ms (map device_events ps)) same
    ∙ ap (λ (r : List (List ℕ)). text (turn_for s m p).said (turn_for s m p).bytes ∷ r) (replies_are (turn_for s m p).after full (place + 1) ms ps a.1 each.1)
    ∙ ap (λ (b : List ℕ). b ∷ map output_of ps) (sym each.0.output)

-- the parts of a run of the generated script, and what they tell
pub summary_of : (seed lines : ℕ) (ms : List Meaning) (whole : List (List Event)) → EachSays (generated seed lines) ms → length whole ≡ length ms → EachAnswers (fresh_system work_blocks) ms whole
    → Summary turn seed lines (full_of 1 whole) (map device_events whole) (summary lines (map output_of whole))
summary_of seed lines ms whole says count each =
    let may : EachMayLack ms whole = answers_lack (fresh_system work_blocks) ms whole each in
    record {
      meanings = ms;
      say = says;
      each = length-map whole device_events ∙ count;
      in_prelude = full_in_prelude prelude seed lines 1 ms whole refl says count may;
      lacking = all_rightly (full_of 1 whole) 1 ms whole count (full_agrees 1 whole) may;
      counts = ap (summary lines) (sym (replies_are (fresh_system work_blocks) (full_of 1 whole) 1 ms whole (full_agrees 1 whole) each));
    }

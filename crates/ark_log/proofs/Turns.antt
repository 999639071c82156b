-- Commands that wait one behind another.
use Rattle.std.proofs.Common.{◌≡◌, ⊎_elim, ℕ, ◌+◌, ◌-◌, ◌≤◌, ◌<◌, ◌^◌, List, [], ◌∷◌, ◌++◌, length, take, Some, None, refl, sym, ap, ◌∙◌, subst, arith, length-append}
use Rattle.std.specs.Prelude.{All, slice_get, sum_by}
use Rattle.std.proofs.Math.Path.{transport}
use Rattle.std.proofs.lemmas.List.Elements.{All-push, All-get_or}
use Rattle.std.proofs.lemmas.List.{take-append-le}
use Rattle.std.proofs.lemmas.Option.{slice_get_cases, slice_get_within, get_or_from_slice_get}
use Rattle.std.proofs.lemmas.List.Sums.{sum_by-cons, sum_by_push}
use Rattle.ark_entry.specs.Entry.{entry_blocks}
use Rattle.ark_log.specs.declared.command.Command.{Command}
use Rattle.ark_log.specs.declared.command.Command.TheVariants.{Append, Trim, Pop}
use Rattle.ark_log.specs.declared.command.Waiting.{Waiting}
use Rattle.ark_log.specs.Open.{OpenChain, CanCome, first_after, next_after, LeadTo, HasBuffer, IsRight}
use Rattle.ark_log.specs.Refused.{IsNextToPop, next_number}

pub lead_more : (ws : List Waiting) (w : Waiting) (first next coming end : ℕ) → LeadTo first next ws coming end → CanCome w.command coming end
    → LeadTo first next (ws ++ w ∷ []) (first_after w.command coming) (next_after w.command end)
lead_more [] w first next coming end is can = (transport (λ i. CanCome w.command (sym is.0 i) (sym is.1 i)) can, (ap (first_after w.command) is.0, ap (next_after w.command) is.1))
lead_more (x ∷ ws) w first next coming end is can = (is.0, lead_more ws w (first_after x.command first) (next_after x.command next) coming end is.1 can)

-- a command goes on, and keeps the first number below the next
pub goes_up : (c : Command) (first next : ℕ) → CanCome c first next → first ≤ next → (first ≤ first_after c first) × (first_after c first ≤ next_after c next) × (next ≤ next_after c next)
goes_up (Append n) first next can le = (omega arith, omega (arith, le), omega arith)
goes_up (Trim n) first next can le = (omega (arith, can.0), can.1, omega arith)
goes_up (Pop n) first next can le = (omega (arith, can.0), omega (arith, can.0, can.1), omega arith)

pub lead_up : (ws : List Waiting) (first next coming end : ℕ) → LeadTo first next ws coming end → first ≤ next → (first ≤ coming) × (coming ≤ end) × (next ≤ end)
lead_up [] first next coming end is le = (omega (arith, is.0), omega (arith, is.0, is.1, le), omega (arith, is.1))
lead_up (x ∷ ws) first next coming end is le =
    let up = goes_up x.command first next is.0 le in
    let rest = lead_up ws (first_after x.command first) (next_after x.command next) coming end is.1 up.1 in
    (omega (arith, up.0, rest.0), rest.1, omega (arith, up.2, rest.2))

-- the first entry that no command drops is one of the list's or behind it
pub coming_within : (v : OpenChain) → IsRight v → (v.first ≤ v.coming) × (v.coming ≤ next_number v)
coming_within v right = let up = lead_up v.waiting v.first (v.first + v.count) v.coming (v.first + length v.lengths) right.in_turn (omega arith) in (up.0, up.1)

-- a command that adds nothing waits
pub right_waits : (v : OpenChain) (w : Waiting) (items : List Waiting) (coming : ℕ) → IsRight v → length v.waiting < 8 → items ≡ v.waiting ++ w ∷ [] → CanCome w.command v.coming (next_number v) → coming ≡ first_after w.command v.coming
    → next_number v ≡ next_after w.command (next_number v) → HasBuffer w → IsRight (record v { waiting = items; coming = coming })
right_waits v w items coming right less is can first next room = record {
  some = right.some;
  few = right.few;
  used_is = right.used_is;
  fits = right.fits;
  all_short = right.all_short;
  counted = right.counted;
  stored_is = right.stored_is;
  from_one = right.from_one;
  last = right.last;
  short = let more = ap length is ∙ length-append v.waiting (w ∷ []) in omega (arith, more, less);
  in_turn = transport (λ i. LeadTo v.first (v.first + v.count) (sym is i) (sym first i) (sym next i)) (lead_more v.waiting w v.first (v.first + v.count) v.coming (next_number v) right.in_turn can);
  buffers = transport (λ i. All HasBuffer (sym is i)) (All-push HasBuffer v.waiting w right.buffers room);
  header_is = right.header_is;
}

-- an entry takes a block at least
pub few_entries : (lengths : List ℕ) → length lengths ≤ sum_by entry_blocks lengths
few_entries [] = omega arith
few_entries (len ∷ lengths) = let rest = few_entries lengths in let sum = sum_by-cons entry_blocks len lengths in omega (arith, rest, sum)

-- there is room for one more length
pub fits_more : (v : OpenChain) (blocks : ℕ) → IsRight v → 1 ≤ blocks → v.used + blocks ≤ v.room → length v.lengths < v.room
fits_more v blocks right some fits = let few = few_entries v.lengths in omega (arith, few, right.used_is, some, fits)

-- an entry waits to be appended
pub right_adds : (v : OpenChain) (w : Waiting) (items : List Waiting) (lengths : List ℕ) (len blocks : ℕ) → IsRight v → length v.waiting < 8 → items ≡ v.waiting ++ w ∷ [] → lengths ≡ v.lengths ++ len ∷ [] → blocks ≡ entry_blocks len → len ≤ 32768
    → v.used + blocks ≤ v.room → next_number v ≤ 2 ^ 62 → w.command ≡ Append (next_number v) → HasBuffer w → IsRight (record v { lengths = lengths; used = v.used + blocks; waiting = items })
right_adds v w items lengths len blocks right less is adds size small fits low named room =
    let more : length lengths ≡ length v.lengths + 1 = ap length adds ∙ length-append v.lengths (len ∷ []) in
    let next : next_number v + 1 ≡ v.first + length lengths = omega (arith, more) in
    record {
      some = right.some;
      few = right.few;
      from_one = right.from_one;
      used_is = let sum = ap (λ l. sum_by entry_blocks l) adds ∙ sum_by_push entry_blocks v.lengths len in omega (arith, sum, right.used_is, size);
      fits = fits;
      all_short = transport (λ i. All (λ l. l ≤ 32768) (sym adds i)) (All-push (λ l. l ≤ 32768) v.lengths len right.all_short small);
      counted = omega (arith, right.counted, more);
      stored_is = right.stored_is ∙ ap (λ l. sum_by entry_blocks l) (sym (take-append-le v.count v.lengths (len ∷ []) right.counted) ∙ ap (λ l. take v.count l) (sym adds));
      last = omega (arith, low, more);
      short = let longer = ap length is ∙ length-append v.waiting (w ∷ []) in omega (arith, longer, less);
      in_turn = transport (λ i. LeadTo v.first (v.first + v.count) (sym is i) v.coming (next i))
          (transport (λ i. LeadTo v.first (v.first + v.count) (v.waiting ++ w ∷ []) (first_after (named i) v.coming) (next_after (named i) (next_number v)))
          (lead_more v.waiting w v.first (v.first + v.count) v.coming (next_number v) right.in_turn (transport (λ i. CanCome (sym named i) v.coming (next_number v)) refl)));
      buffers = transport (λ i. All HasBuffer (sym is i)) (All-push HasBuffer v.waiting w right.buffers room);
      header_is = right.header_is;
    }

-- the entry that the next pop drops, by its place among the lengths
pub none_to_pop : (v : OpenChain) → IsRight v → slice_get v.lengths (v.coming - v.first) ≡ None → v.coming ≡ next_number v
none_to_pop v right none =
    let within = coming_within v right in
    ⊎_elim (λ here. absurd (cc (here.2, none))) (λ past. omega (arith, past.0, within.0, within.1)) (slice_get_cases v.lengths (v.coming - v.first)).1

pub next_to_pop : (v : OpenChain) (len : ℕ) → IsRight v → slice_get v.lengths (v.coming - v.first) ≡ Some len → IsNextToPop v len
next_to_pop v len right here =
    let within = coming_within v right in
    let less = slice_get_within v.lengths (v.coming - v.first) len here in
    let is = get_or_from_slice_get v.lengths (v.coming - v.first) len 0 here in
    record {
      there = omega (arith, less, within.0);
      is = sym is;
      short = subst (λ l. l ≤ 32768) is (All-get_or (λ l. l ≤ 32768) v.lengths (v.coming - v.first) 0 less right.all_short);
    }

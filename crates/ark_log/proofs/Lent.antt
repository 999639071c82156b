-- What stays so of an open log while the buffer of its oldest command is away, and when it is back.
use Rattle.std.proofs.Common.{◌≡◌, ◌⊎◌, inl, inr, ℕ, zero, suc, ◌+◌, ◌*◌, ◌%◌, ◌≤◌, ◌<◌, ◌^◌, List, [], ◌∷◌, length, get_or, refl, sym, ap, ◌∙◌, subst, arith, Option, Some}
use Rattle.std.specs.Prelude.{All, IfSome, IsSome, slice_get}
use Rattle.std.proofs.lemmas.Option.{slice_get_within, get_or_from_slice_get}
use Rattle.std.proofs.Math.Nat.{mod-add-mod}
use Rattle.std.proofs.Math.Path.{transport}
use Rattle.ark_region.specs.Frames.{Piece}
use Rattle.ark_entry.specs.Entry.{entry_blocks}
use Rattle.ark_chain.specs.Survey.{block_at}
use Rattle.ark_log.specs.declared.command.Command.{Command}
use Rattle.ark_log.specs.declared.command.Command.TheVariants.{Append, Trim, Pop}
use Rattle.ark_log.specs.declared.command.Waiting.{Waiting}
use Rattle.ark_log.specs.declared.stage.Stage.{Stage}
use Rattle.ark_log.specs.declared.stage.Stage.TheVariants.{Load, Draft, Mark}
use Rattle.ark_log.specs.Open.{OpenChain, LeadTo, HasBuffer, IsRight, first_after, next_after}
use Rattle.ark_log.specs.Stages.{IsOfStage, HasStageBuffer, HasEntryBuffer, first_with, oldest, oldest_in, stages_of}
use Rattle.ark_log.proofs.Turns.{goes_up, lead_up}

-- the buffer is where the command says, and has its entry's blocks
abbrev pub IsItsBuffer : Option Piece → Waiting → Type 0
IsItsBuffer buf w = IfSome buf (λ b. (b.start ≡ w.start) × (b.len ≡ 512 * entry_blocks w.len))

lead_with : (buf : Option Piece) (ws : List Waiting) (first next coming end : ℕ) → LeadTo first next ws coming end → LeadTo first next (first_with buf ws) coming end
lead_with buf [] first next coming end is = is
lead_with buf (w ∷ ws) first next coming end is = is

long_with : (buf : Option Piece) (ws : List Waiting) → length (first_with buf ws) ≡ length ws
long_with buf [] = refl
long_with buf (w ∷ ws) = refl

buffers_with : (buf : Option Piece) (ws : List Waiting) → All HasBuffer ws → IsItsBuffer buf (oldest_in ws) → All HasBuffer (first_with buf ws)
buffers_with buf [] all is = all
buffers_with buf (w ∷ ws) all is = each
  where
    each : All HasBuffer (record w { buf = buf } ∷ ws)
    each zero d less = ((all zero d less).0, is)
    each (suc k) d less = all (suc k) d less

-- the buffer that the oldest command has is its own
pub first_buffer : (v : OpenChain) (b : Piece) → IsRight v → 0 < length v.waiting → Some b ≡ (oldest v).buf → (b.start ≡ (oldest v).start) × (b.len ≡ 512 * entry_blocks (oldest v).len)
first_buffer v b right some is = by v.waiting some right.buffers is
  where
    by : (ws : List Waiting) → 0 < length ws → All HasBuffer ws → Some b ≡ (oldest_in ws).buf → (b.start ≡ (oldest_in ws).start) × (b.len ≡ 512 * entry_blocks (oldest_in ws).len)
    by [] less all is = absurd (omega (arith, less))
    by (w ∷ ws) less all is = subst (λ x. IsItsBuffer x w) (sym is) (all 0 w less).1

pub right_with : (v : OpenChain) (buf : Option Piece) (items : List Waiting) → IsRight v → items ≡ first_with buf v.waiting → IsItsBuffer buf (oldest v) → IsRight (record v { waiting = items })
right_with v buf items right is its = transport (λ i. IsRight (record v { waiting = sym is i })) (record {
  some = right.some;
  few = right.few;
  used_is = right.used_is;
  fits = right.fits;
  all_short = right.all_short;
  counted = right.counted;
  stored_is = right.stored_is;
  from_one = right.from_one;
  last = right.last;
  short = let same = long_with buf v.waiting in omega (arith, same, right.short);
  in_turn = lead_with buf v.waiting v.first (v.first + v.count) v.coming (v.first + length v.lengths) right.in_turn;
  buffers = buffers_with buf v.waiting right.buffers its;
  header_is = right.header_is;
})

-- a block behind an entry's first one, by the place of that
pub behind_place : (room start stored more : ℕ) → block_at room ((start + stored) % room) more ≡ block_at room start (stored + more)
behind_place room start stored more =
    let e : start + stored + more ≡ start + (stored + more) = omega arith in
    ap (λ n. n + 1) (mod-add-mod (start + stored) room more ∙ ap (λ n. n % room) e)

-- a stage that has the buffer of the oldest command
pub entry_stage : (v : OpenChain) (stage : Stage) (buf : Option Piece) → IsOfStage v stage buf → (stage ≡ Load) ⊎ ((stage ≡ Draft) ⊎ (stage ≡ Mark)) → IsItsBuffer buf (oldest v)
entry_stage v stage buf its (inl is) = subst (λ s. IsOfStage v s buf) is its
entry_stage v stage buf its (inr (inl is)) = subst (λ s. IsOfStage v s buf) is its
entry_stage v stage buf its (inr (inr is)) = subst (λ s. IsOfStage v s buf) is its

-- the first number behind the oldest command is low
pub first_low : (v : OpenChain) → IsRight v → 0 < length v.waiting → first_after (oldest v).command v.first ≤ 2 ^ 62 + 1
first_low v right some = by v.waiting some right.in_turn
  where
    by : (ws : List Waiting) → 0 < length ws → LeadTo v.first (v.first + v.count) ws v.coming (v.first + length v.lengths) → first_after (oldest_in ws).command v.first ≤ 2 ^ 62 + 1
    by [] less is = absurd (omega (arith, less))
    by (w ∷ ws) less is =
        let up = goes_up w.command v.first (v.first + v.count) is.0 (omega arith) in
        let rest = lead_up ws (first_after w.command v.first) (next_after w.command (v.first + v.count)) v.coming (v.first + length v.lengths) is.1 up.1 in
        omega (arith, rest.0, rest.1, right.last)

pub oldest_has : (v : OpenChain) → IsRight v → 0 < length v.waiting → HasBuffer (oldest v)
oldest_has v right some = by v.waiting some right.buffers
  where
    by : (ws : List Waiting) → 0 < length ws → All HasBuffer ws → HasBuffer (oldest_in ws)
    by [] less all = absurd (omega (arith, less))
    by (w ∷ ws) less all = all 0 w less

-- the buffers of a command are those of each of its stages
pub stage_has : (v : OpenChain) (c : Command) (done : ℕ) (stage : Stage) → IsSome v.header → HasEntryBuffer c (oldest v).buf → slice_get (stages_of c) done ≡ Some stage → HasStageBuffer v stage
stage_has v c done stage header entry is = at_stage (HasStageBuffer v) (stages_of c) done stage (each c entry) is
  where
    each : (c : Command) → HasEntryBuffer c (oldest v).buf → (s : ℕ) (d : Stage) → s < length (stages_of c) → HasStageBuffer v (get_or (stages_of c) s d)
    each (Append n) entry zero d less = tt
    each (Append n) entry (suc zero) d less = tt
    each (Append n) entry (suc (suc zero)) d less = entry
    each (Append n) entry (suc (suc (suc zero))) d less = tt
    each (Append n) entry (suc (suc (suc (suc s)))) d less = absurd (omega (arith, less))
    each (Trim n) entry zero d less = header
    each (Trim n) entry (suc zero) d less = tt
    each (Trim n) entry (suc (suc zero)) d less = tt
    each (Trim n) entry (suc (suc (suc zero))) d less = tt
    each (Trim n) entry (suc (suc (suc (suc s)))) d less = absurd (omega (arith, less))
    each (Pop n) entry zero d less = tt
    each (Pop n) entry (suc zero) d less = header
    each (Pop n) entry (suc (suc zero)) d less = tt
    each (Pop n) entry (suc (suc (suc zero))) d less = tt
    each (Pop n) entry (suc (suc (suc (suc zero)))) d less = tt
    each (Pop n) entry (suc (suc (suc (suc (suc s))))) d less = absurd (omega (arith, less))

    at_stage : (P : Stage → Type 0) (xs : List Stage) (i : ℕ) (x : Stage) → ((k : ℕ) (d : Stage) → k < length xs → P (get_or xs k d)) → slice_get xs i ≡ Some x → P x
    at_stage P xs i x all is = subst P (get_or_from_slice_get xs i x x is) (all i x (slice_get_within xs i x is))

-- the first that waits is the oldest
pub front_is : (ws : List Waiting) (w : Waiting) → Some w ≡ slice_get ws 0 → w ≡ oldest_in ws
front_is [] w is = absurd (cc (is))
front_is (x ∷ ws) w is = cc

-- The phases of the oldest command are what the descriptors of its stages carry out.
use Rattle.std.proofs.Common.{◌≡◌, ⊎_elim, ℕ, suc, ◌+◌, ◌-◌, ◌≤◌, ◌<◌, List, [], ◌∷◌, length, map, take, drop, get_or, Option, Some, None, refl, sym, ap, ◌∙◌, subst, arith, drop-cons}
use Rattle.std.specs.Prelude.{option_map, slice_get, sum_by}
use Rattle.std.proofs.lemmas.List.{drop_all, length-map}
use Rattle.std.proofs.lemmas.List.Sums.{sum_by-cons}
use Rattle.std.proofs.lemmas.Option.{get_or_from_slice_get, slice_get_cases, slice_get-map, slice_get_within}
use Rattle.ark_media.specs.Journal.{History}
use Rattle.ark_region.specs.Frames.{Piece, Space}
use Rattle.ark_vic.specs.Queue.{Queue}
use Rattle.ark_vic.specs.declared.descriptor.Descriptor.{Descriptor}
use Rattle.ark_entry.specs.Header.{Header}
use Rattle.ark_entry.specs.Entry.{entry_blocks}
use Rattle.ark_entry.specs.Found.{Entries}
use Rattle.ark_caladan.specs.Chain as log
use Rattle.ark_caladan.specs.Chain.{Log, Opened, Phase, commands, entries, deciding, phase, phases_of, reading, syncing, writing}
use Rattle.ark_caladan.specs.Numbers.{CanFollow}
use Rattle.ark_caladan.specs.Open.{Layout}
use Rattle.ark_caladan.specs.Plans.{CanWait}
use Rattle.ark_log.specs.declared.command.Command.{Command}
use Rattle.ark_log.specs.declared.command.Command.TheVariants.{Append, Trim, Pop}
use Rattle.ark_log.specs.declared.command.Waiting.{Waiting}
use Rattle.ark_log.specs.declared.stage.Stage.{Stage}
use Rattle.ark_log.specs.declared.stage.Stage.TheVariants.{Load, Draft, Mark, Header as HeaderStage, Clear, Flush}
use Rattle.ark_log.specs.Open.{IsRight, OpenChain, first_after}
use Rattle.ark_log.specs.declared.polling.Polled.{Polled}
use Rattle.ark_log.specs.Polled.{Around, EndsWell, HasEnded, ended, stage_of}
use Rattle.ark_log.specs.Stages.{first_with, freed, oldest, oldest_in, posting_of, stage_with, stages_of}
use Rattle.ark_log.specs.Stands.{IsCommand, StandsFor}
use Rattle.ark_log.proofs.Headers.{before_are}
use Rattle.ark_running.specs.Buffers.{HaveLengths, IsLengthOf}
use Rattle.ark_running.specs.Phases.{IsPhaseUnderWay, phase_by}
use Rattle.ark_running.specs.Running.{IsRunning}
use Rattle.ark_running.proofs.GoesOn.{next_is}
use Rattle.ark_running.proofs.Proceeding.{alone_posted}

-- the first entry's blocks
pub first_blocks : (xs : List (List ℕ)) → 0 < length xs → log.blocks_of (take 1 xs) ≡ entry_blocks (length (get_or xs 0 []))
first_blocks [] some = absurd (omega (arith, some))
first_blocks (x ∷ xs) some = let sum = sum_by-cons (λ (q : List ℕ). entry_blocks (length q)) x [] in omega (arith, sum)

module _ (v0 : OpenChain) (w : Waiting) (ws : List Waiting) (l : Entries) (c : log.Command) (cs : List log.Command) where
  abbrev v : OpenChain
  v = record v0 { waiting = w ∷ ws }

  -- the phase of a stage
  abbrev pub its_phase : Stage → Phase
  its_phase stage = phase_by stage (posting_of v stage).count

  module _ (right : IsRight v) (stands : StandsFor v l (c ∷ cs)) (can : CanFollow l c) (len : IsLengthOf l w.len c) (h : Header) (start : h.start ≡ v0.start) where
    frees : (x : Command) (k : ℕ) → x ≡ w.command → k ≤ length l.payloads → first_after x v0.first - v0.first ≡ k → log.blocks_of (take k l.payloads) ≡ freed v w.command
    frees x k same low is = sym (ap (freed v) (sym same) ∙ ap (λ n. sum_by entry_blocks (take n v0.lengths)) is ∙ before_are v l c cs right stands h start k low)

    abbrev dropping : ℕ → List Phase
    dropping n = deciding ∷ phase syncing 1 ∷ phase writing n ∷ phase syncing 1 ∷ []

    pub phases_are : phases_of l c ≡ map its_phase (stages_of w.command)
    phases_are = by w.command c refl stands.waiting.0 can len
      where
        by : (x : Command) (y : log.Command) → x ≡ w.command → IsCommand x y → CanFollow l y → IsLengthOf l w.len y → phases_of l y ≡ map its_phase (stages_of x)
        by (Append n) (log.append m payload) same is fits long = ap (λ k. phase writing (entry_blocks k) ∷ phase syncing 1 ∷ deciding ∷ phase syncing 1 ∷ []) (sym long)
        by (Append n) (log.trim m) same is fits long = absurd is
        by (Append n) (log.pop m) same is fits long = absurd is
        by (Trim n) (log.append m payload) same is fits long = absurd is
        by (Trim n) (log.trim m) same is fits long =
            ap (λ k. dropping k) (frees (Trim n) (m - l.first) same (omega (arith, fits.0, fits.1)) (omega (arith, is, stands.first)))
        by (Trim n) (log.pop m) same is fits long = absurd is
        by (Pop n) (log.append m payload) same is fits long = absurd is
        by (Pop n) (log.trim m) same is fits long = absurd is
        by (Pop n) (log.pop m) same is fits long =
            let one : 1 ≤ length l.payloads = omega (arith, fits.1) in
            let zeros = frees (Pop n) 1 same one (omega (arith, is, fits.0, stands.first)) in
            let loads : log.blocks_of (take 1 l.payloads) ≡ entry_blocks w.len = first_blocks l.payloads one ∙ ap entry_blocks (sym long) in
            λ i. phase reading (loads i) ∷ dropping (zeros i)

    -- the phases from a stage on, and behind the last
    pub from_stage : (i : ℕ) (stage : Stage) → slice_get (stages_of w.command) i ≡ Some stage → drop i (phases_of l c) ≡ its_phase stage ∷ drop (i + 1) (phases_of l c)
    from_stage i stage at =
        let is : phases_of l c ≡ map its_phase (stages_of w.command) = phases_are in
        let there : slice_get (map its_phase (stages_of w.command)) i ≡ Some (its_phase stage) = slice_get-map its_phase (stages_of w.command) i ∙ ap (option_map its_phase) at in
        let next : suc i ≡ i + 1 = omega arith in
        subst (λ xs. drop i xs ≡ its_phase stage ∷ drop (i + 1) xs) (sym is)
        (drop-cons (map its_phase (stages_of w.command)) i (its_phase stage) (slice_get_within (map its_phase (stages_of w.command)) i (its_phase stage) there)
        ∙ (λ k. get_or_from_slice_get (map its_phase (stages_of w.command)) i (its_phase stage) (its_phase stage) there k ∷ drop (next k) (map its_phase (stages_of w.command))))

    pub behind_last : (i : ℕ) → slice_get (stages_of w.command) i ≡ None → drop i (phases_of l c) ≡ []
    behind_last i none = ap (drop i) phases_are ∙ drop_all i (map its_phase (stages_of w.command)) (let long = length-map (stages_of w.command) its_phase in omega (arith, long, past))
      where
        past : length (stages_of w.command) ≤ i
        past = ⊎_elim (λ here. absurd (cc (here.2, none))) (λ there. there.0) (slice_get_cases (stages_of w.command) i).1

-- the same of any log with a command that waits
module _ (l : Entries) (c : log.Command) (cs : List log.Command) (h : Header) (can : CanFollow l c) where
  abbrev Same : (i : ℕ) → OpenChain → Type 0
  Same i v =
      IsRight v → StandsFor v l (c ∷ cs) → HaveLengths l v.waiting (c ∷ cs) → h.start ≡ v.start
      → ((stage : Stage) → slice_get (stages_of (oldest v).command) i ≡ Some stage → drop i (phases_of l c) ≡ phase_by stage (posting_of v stage).count ∷ drop (i + 1) (phases_of l c))
      × (slice_get (stages_of (oldest v).command) i ≡ None → drop i (phases_of l c) ≡ [])

  pub phases_from : (i : ℕ) (v : OpenChain) → 0 < length v.waiting → Same i v
  phases_from i v some = by v.waiting refl
    where
      by : (xs : List Waiting) → v.waiting ≡ xs → Same i v
      by [] none = let long : length v.waiting ≡ 0 = ap length none in absurd (omega (arith, long, some))
      by (w ∷ ws) front =
          let is_v : v ≡ record v { waiting = w ∷ ws } = λ k. record v { waiting = front k } in
          subst (Same i) (sym is_v) (λ right stands lengths start. (from_stage v w ws l c cs right stands can lengths.0 h start i, behind_last v w ws l c cs right stands can lengths.0 h start i))

-- The buffer of a descriptor is that of its stage, and its blocks do not depend on it.
module _ (v : OpenChain) (buf : Option Piece) where
  own : (ws : List Waiting) → first_with (oldest_in (first_with buf ws)).buf ws ≡ first_with buf ws
  own [] = refl
  own (w ∷ ws) = refl

  as_long : (ws : List Waiting) → (oldest_in (first_with buf ws)).len ≡ (oldest_in ws).len
  as_long [] = refl
  as_long (w ∷ ws) = refl

  pub own_buffer : (stage : Stage) → stage_with v stage (posting_of (stage_with v stage buf) stage).buf ≡ stage_with v stage buf
  own_buffer Load = ap (λ ws. record v { waiting = ws }) (own v.waiting)
  own_buffer Draft = ap (λ ws. record v { waiting = ws }) (own v.waiting)
  own_buffer Mark = ap (λ ws. record v { waiting = ws }) (own v.waiting)
  own_buffer HeaderStage = refl
  own_buffer Clear = refl
  own_buffer Flush = refl

  same_count : (stage : Stage) → (posting_of (stage_with v stage buf) stage).count ≡ (posting_of v stage).count
  same_count Load = ap entry_blocks (as_long v.waiting)
  same_count Draft = ap entry_blocks (as_long v.waiting)
  same_count Mark = refl
  same_count HeaderStage = refl
  same_count Clear = refl
  same_count Flush = refl

module _ (h : History) (blocks : List ℕ) (space : Space) (ring : Queue) (v : OpenChain) (p : Layout) (g : Log) (o : Opened) (m : log.Waiting) (ms : List log.Waiting) (runs : IsRunning h blocks space ring v p g o) (front : o.waiting ≡ m ∷ ms) where
  abbrev l : Entries
  l = entries g.list

  abbrev cs : List log.Command
  cs = map (λ (x : log.Waiting). x.command) ms

  are : commands o ≡ m.command ∷ cs
  are = ap (λ (xs : List log.Waiting). map (λ (x : log.Waiting). x.command) xs) front

  pub phases_at : (i : ℕ) → 0 < length v.waiting → ((stage : Stage) → slice_get (stages_of (oldest v).command) i ≡ Some stage → drop i (phases_of l m.command) ≡ phase_by stage (posting_of v stage).count ∷ drop (i + 1) (phases_of l m.command))
      × (slice_get (stages_of (oldest v).command) i ≡ None → drop i (phases_of l m.command) ≡ [])
  phases_at i some =
      let can : CanWait v.room l (m.command ∷ cs) = subst (λ xs. CanWait v.room l xs) are runs.is.can in
      phases_from l m.command cs p.says can.fit.0 i v some runs.is.right (subst (λ xs. StandsFor v l xs) are runs.is.stands) (subst (λ xs. HaveLengths l v.waiting xs) are runs.is.lengths) runs.is.start

  pub posted_phase : (d : Descriptor) → slice_get ring.posted 0 ≡ Some d → IsPhaseUnderWay v (phases_of l m.command) o.done d
  posted_phase d at =
      let is = (alone_posted v space ring.moved ring.posted ring.unreaped d runs.ring at).2 in
      let stage = is.0 in
      let way = is.2.way in
      let left = (phases_at o.done way.some).0 is.0 (ap (slice_get (stages_of (oldest v).command)) (sym runs.is.done) ∙ way.is) in
      let count : (posting_of v is.0).count ≡ d.count = sym (ap (λ (x : Descriptor). x.count) is.2.its ∙ same_count v is.1 is.0) in
      record {
        stage = is.0;
        is = way.is;
        its = is.2.its ∙ ap (λ y. posting_of y is.0) (sym (ap (λ (x : Descriptor). stage_with v is.0 x.buf) is.2.its ∙ own_buffer v is.1 is.0));
        left = left ∙ ap (λ k. phase_by is.0 k ∷ drop (o.done + 1) (phases_of l m.command)) count;
      }

pub polled_none_left : (h : History) (blocks : List ℕ) (p : Layout) (g : Log) (o : Opened) (m : log.Waiting) (ms : List log.Waiting) (old new : Around) (result : Polled) → IsRunning h blocks old.space old.ring old.chain p g o → o.waiting ≡ m ∷ ms
    → (ending : HasEnded old new result) → EndsWell ending.ending old new result → stage_of (ended old.chain ending.ending.buf) ≡ None → drop (o.done + 1) (phases_of (entries g.list) m.command) ≡ []
polled_none_left h blocks p g o m ms old new result runs front ending well none =
    (phases_at h blocks old.space old.ring old.chain p g o m ms runs front (o.done + 1) ending.some).1
    (ap (λ n. slice_get (stages_of (oldest old.chain).command) (n + 1)) (sym runs.is.done) ∙ next_is h blocks p g o old new result runs ending well ∙ none)

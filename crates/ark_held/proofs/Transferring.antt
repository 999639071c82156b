-- A transfer that is the oldest descriptor of a card: what is due of it, and the buffer that it has.
use Rattle.std.proofs.Common.{◌≡◌, ℕ, ◌+◌, ◌*◌, ◌-◌, ◌<◌, ◌≤◌, Bool, true, false, cond, ◌&&◌, List, [], length, get_or, take, drop, refl, sym, ◌∙◌, ap, subst, arith}
use Rattle.std.specs.Prelude.{if◌then◌else◌, Option, Some, None, is_some, option_map, MatchOption, slice_get, slice_range, unwrap_or, ◌==◌}
use Rattle.std.specs.List.{list_any}
use Rattle.std.proofs.Math.Bool.{and-false, and-true}
use Rattle.std.proofs.lemmas.Bool.{cond-false}
use Rattle.std.proofs.lemmas.Bool.Decides.{nat_tests}
use Rattle.ark_base.specs.declared.kind.Outcome.TheVariants as outcome
use Rattle.ark_region.specs.Frames.{Piece, LiesInRegion, bytes_of}
use Rattle.ark_vic.specs.declared.descriptor.Descriptor.{Descriptor}
use Rattle.ark_vic.specs.declared.descriptor.Job.{Job}
use Rattle.ark_vic.specs.declared.descriptor.Job.TheVariants as vic
use Rattle.ark_vsic.specs.Card.{is_bound as is_bound_to}
use Rattle.ark_vsic.specs.Places.{place_of, is_wrapped}
use Rattle.ark_vsic.specs.Moves.{due_by, due_at, due_in, area_of, buffered, CanMove, HasRoom, IsSoundBy}
use Rattle.ark_vsic.specs.declared.due.Due.{Due}
use Rattle.ark_vsic.specs.declared.due.Due.TheVariants as due
use Rattle.ark_machine.specs.Bytes.{block_of}
use Rattle.ark_machine.specs.Objects
use Rattle.ark_machine.specs.Objects.{Object, Buffer, Transfer, Vsic}
use Rattle.ark_machine.specs.Machine.{Held, at, bytes_at}
use Rattle.ark_machine.specs.Moves.{is_bound}
use Rattle.ark_machine.specs.Rates.{is_over_burst, may_pass}
use Rattle.ark_held.specs.Kept.{BufferKept, CardKept}
use Rattle.ark_held.specs.Around.{Around, Each, Both, piece_of}
use Rattle.ark_held.specs.Cards.{IsPaced, IsTransfer}
use Rattle.ark_held.specs.Held.{IsObjectOf, Holds}
use Rattle.ark_held.specs.Moving.{blocks_held}
use Rattle.ark_held.specs.declared.areas.Area.{Area}
use Rattle.ark_held.proofs.Finding.{stands_at}
use Rattle.ark_held.proofs.Members.{get_there}
use Rattle.ark_held.proofs.Dues.{bound_same, blocks_found, due_by_tests, paced_same}
use Rattle.ark_held.proofs.Reaching.{IsReached, IsGone}

-- What is due.

not_sync : (b : Bool) (y : Due) → due_by (if b then vic.Write else vic.Read) y ≡ y
not_sync true y = refl
not_sync false y = refl

straight : (n first k : ℕ) → place_of n 0 first k ≡ first + k
straight n first k = cond-false (is_wrapped n 0 first k) _ _ (grind (arith, nat_tests))

module _ (x : Around) (holds : Holds x) (k : CardKept) (card : Vsic) (bound : Each (λ g s. slice_get x.numbers s ≡ Some g) k.bound card.bound) (pace : Both (IsPaced x) k.pace card.pace) (d : Descriptor) (t : Transfer) (is : IsTransfer x d t) where
  abbrev blocks : Option (List ℕ)
  blocks = area_of d.grant k.bound (blocks_held x.areas)

  abbrev place : Option (List ℕ) → Due
  place o = due_in o d k.ring.moved (option_map (λ p. p.pace) k.pace) x.now

  its_test : is_bound_to d.grant k.bound ≡ list_any (λ s. s == t.vsa) card.bound
  its_test = bound_same x holds.one t.vsa d.grant is.vsa k.bound card.bound bound

  -- an area that is gone
  pub due_gone : IsGone x d t → (due_by d.job (place blocks) ≡ due.Ends outcome.NoGrant) × (is_bound x.machine card t.vsa ≡ false)
  due_gone gone = (
    ap (λ (j : Job). due_by j (place blocks)) is.does ∙ not_sync t.put (place blocks)
        ∙ ap (λ (o : Option (List ℕ)). place (cond (is_bound_to d.grant k.bound) o None)) (blocks_found d.grant x.areas ∙ ap (λ (o : Option Area). option_map (λ a. a.spans) o) gone.kept)
        ∙ ap (λ (o : Option (List ℕ)). place o) (none_both (is_bound_to d.grant k.bound)),
    ap (λ (o : Option Held). list_any (λ s. s == t.vsa) card.bound && is_some o) gone.numbered ∙ and-false (list_any (λ s. s == t.vsa) card.bound),
  )
    where
      none_both : (b : Bool) → ◌≡◌ {A = Option (List ℕ)} (cond b None None) None
      none_both true = refl
      none_both false = refl

  module _ (r : IsReached x d t) (below : k.ring.moved < d.count) where
    abbrev place_in : ℕ
    place_in = d.first + k.ring.moved

    pub inside : place_in < length r.slot.blocks
    inside = let near = r.near in omega (arith, below, near)

    -- the block of the device that is next
    abbrev pub next : ℕ
    next = get_or r.slot.blocks place_in 0

    pub at_next : slice_get r.slot.blocks place_in ≡ Some next
    at_next = get_there r.slot.blocks place_in 0 inside

    held_is : is_bound x.machine card t.vsa ≡ list_any (λ s. s == t.vsa) card.bound
    held_is = ap (λ (o : Option Held). list_any (λ s. s == t.vsa) card.bound && is_some o) r.numbered ∙ and-true (list_any (λ s. s == t.vsa) card.bound)

    found : blocks ≡ cond (is_bound x.machine card t.vsa) (Some r.slot.blocks) None
    found =
        ap (λ (o : Option (List ℕ)). cond (is_bound_to d.grant k.bound) o None) (blocks_found d.grant x.areas ∙ ap (λ (o : Option Area). option_map (λ a. a.spans) o) r.kept)
        ∙ ap (λ b. cond b (Some r.slot.blocks) None) (its_test ∙ sym held_is)

    placed : place (Some r.slot.blocks) ≡ due_by_tests true (is_over_burst card.pace 512) (may_pass card.pace x.now 512) next
    placed =
        ap (λ w. due_at (slice_get r.slot.blocks (place_of (length r.slot.blocks) w d.first k.ring.moved)) (option_map (λ p. p.pace) k.pace) x.now) is.wrap
        ∙ ap (λ p. due_at (slice_get r.slot.blocks p) (option_map (λ p. p.pace) k.pace) x.now) (straight (length r.slot.blocks) d.first k.ring.moved)
        ∙ ap (λ (o : Option ℕ). due_at o (option_map (λ p. p.pace) k.pace) x.now) at_next
        ∙ paced_same x k.pace card.pace next pace

    by_bound : (b : Bool) → place (cond b (Some r.slot.blocks) None) ≡ due_by_tests b (is_over_burst card.pace 512) (may_pass card.pace x.now 512) next
    by_bound true = placed
    by_bound false = refl

    -- an area that is held
    pub due_reached : due_by d.job (place blocks) ≡ due_by_tests (is_bound x.machine card t.vsa) (is_over_burst card.pace 512) (may_pass card.pace x.now 512) next
    due_reached =
        ap (λ (j : Job). due_by j (place blocks)) is.does ∙ not_sync t.put (place blocks) ∙ ap (λ (o : Option (List ℕ)). place o) found ∙ by_bound (is_bound x.machine card t.vsa)

-- The buffer.

pub record ItsBuffer (x : Around) (d : Descriptor) (t : Transfer) : Type 0 where
  pub held : Held
  pub buffer : Buffer
  pub there : at x.machine t.buffer ≡ Some held
  pub object : held.object ≡ Objects.buffer buffer
  pub place : d.buf ≡ Some (piece_of buffer)
  pub bytes : buffer.bytes ≡ bytes_of x.tables.memory (piece_of buffer)

module _ (x : Around) (holds : Holds x) (d : Descriptor) (t : Transfer) (is : IsTransfer x d t) where
  of_object : (h : Held) (o : Object) → h.object ≡ o → at x.machine t.buffer ≡ Some h → IsObjectOf x t.buffer is.buffer.named.cap o → ItsBuffer x d t
  of_object h (Objects.buffer b) its there f = record {
    held = h;
    buffer = b;
    there = there;
    object = its;
    place = sym is.buffer.place ∙ ap (λ i. option_map (λ z. z.piece) (x.tables.buffers i)) (sym is.buffer.named.its_key)
        ∙ ap (λ (o : Option BufferKept). option_map (λ z. z.piece) o) f.kept ∙ ap (λ (p : Piece). Some p) f.place;
    bytes = f.bytes;
  }
  of_object h (Objects.raw z) its there f = absurd (cc (is.buffer.named.its_kind, f.its_kind))
  of_object h (Objects.log z) its there f = absurd (cc (is.buffer.named.its_kind, f.its_kind))
  of_object h (Objects.vsic z) its there f = absurd (cc (is.buffer.named.its_kind, f.its_kind))
  of_object h (Objects.vnic z) its there f = absurd (cc (is.buffer.named.its_kind, f.its_kind))
  of_object h (Objects.filter z y) its there f = absurd (cc (is.buffer.named.its_kind, f.its_kind))
  of_object h (Objects.door z) its there f = absurd (cc (is.buffer.named.its_kind, f.its_kind))
  of_object h (Objects.rate z y) its there f = absurd (cc (is.buffer.named.its_kind, f.its_kind))
  of_object h (Objects.socket z) its there f = absurd (cc (is.buffer.named.its_kind, f.its_kind))

  pub its_buffer : ItsBuffer x d t
  its_buffer = let s = stands_at x t.buffer is.buffer.named.cap holds is.buffer.named.there in of_object s.held s.held.object refl s.there s.matches.object

  module _ (k : ℕ) (sound : CanMove x.tables.memory.taken k d) where
    by_put : (b : Bool) → IsSoundBy (if b then vic.Write else vic.Read) x.tables.memory.taken d k → (k < d.count) × HasRoom x.tables.memory.taken d
    by_put true s = s
    by_put false s = s

    has_room : (k < d.count) × HasRoom x.tables.memory.taken d
    has_room = by_put t.put (subst (λ (j : Job). IsSoundBy j x.tables.memory.taken d k) is.does sound)

    pub below : k < d.count
    below = has_room.0

    -- the buffer has all blocks of the descriptor
    pub room : 512 * k + 512 ≤ length its_buffer.buffer.bytes
    room =
        let b = its_buffer in
        let r : LiesInRegion x.tables.memory.taken (piece_of b.buffer) × (d.from + 512 * d.count ≤ length b.buffer.bytes) =
        subst (λ (o : Option Piece). MatchOption o ⊥ (λ p. LiesInRegion x.tables.memory.taken p × (d.from + 512 * d.count ≤ p.len))) b.place has_room.1 in
        let within = r.1 in let lt = has_room.0 in omega (arith, within, lt)

    -- block k of the buffer is what the descriptor writes
    pub content : buffered d k x.tables.memory ≡ block_of (bytes_at x.machine t.buffer) k
    content =
        let b = its_buffer in
        let start : d.from + 512 * k ≡ 512 * k = let none = is.from in omega (arith, none) in
        let size : (512 * k + 512) - 512 * k ≡ 512 = omega arith in
        let here : bytes_at x.machine t.buffer ≡ b.buffer.bytes = rw (b.there, b.object) refl in
        ap (λ (o : Option Piece). unwrap_or (option_map (λ p. slice_range (bytes_of x.tables.memory p) (d.from + 512 * k) (d.from + 512 * k + 512)) o) []) b.place
        ∙ ap (λ s. slice_range (bytes_of x.tables.memory (piece_of b.buffer)) s (s + 512)) start
        ∙ ap (λ (bs : List ℕ). slice_range bs (512 * k) (512 * k + 512)) (sym (here ∙ b.bytes))
        ∙ ap (λ n. take n (drop (512 * k) (bytes_at x.machine t.buffer))) size

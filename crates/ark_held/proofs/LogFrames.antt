-- The frames of an open log's buffers.
use Rattle.std.proofs.Common.{◌≡◌, ℕ, zero, suc, ◌+◌, ◌*◌, ◌<◌, ◌≤◌, List, [], ◌∷◌, map, refl, sym, ◌∙◌, ap, subst, arith}
use Rattle.std.specs.Prelude.{flat_map}
use Rattle.std.specs.List.{AllByRecursion}
use Rattle.ark_region.specs.Frames.{Apart, Covers, Piece, Space, frames_of}
use Rattle.ark_entry.specs.Entry.{entry_blocks}
use Rattle.ark_media.specs.Journal.{History}
use Rattle.ark_vic.specs.Queue.{Queue}
use Rattle.ark_caladan.specs.Chain as log
use Rattle.ark_caladan.specs.Chain.{Log, Opened}
use Rattle.ark_caladan.specs.Open.{Layout}
use Rattle.ark_log.specs.declared.command.Command.{Command}
use Rattle.ark_log.specs.declared.command.Command.TheVariants.{Append, Trim, Pop}
use Rattle.ark_log.specs.declared.command.Waiting.{Waiting}
use Rattle.ark_log.specs.Open.{OpenChain}
use Rattle.ark_running.specs.Buffers.{AreRoomsOf, buffers_by, buffers_of, pieces_of}
use Rattle.ark_running.specs.Running.{IsRunning}
use Rattle.ark_running.proofs.Framing.{all_joined}
use Rattle.ark_machine.specs.Objects
use Rattle.ark_machine.specs.Objects.{object_frames, opened_frames}
use Rattle.ark_held.specs.Totals.{bit, total, covers, object_covers}
use Rattle.ark_held.proofs.Placing.{has_covers, total_append}

abbrev pub count : ℕ → List (ℕ × ℕ) → ℕ
count j fs = total (λ f. bit (covers j f)) fs

abbrev pub rooms : List log.Waiting → List (ℕ × ℕ)
rooms ms = flat_map (λ m. m.room) ms

module _ (b : Piece) where
  -- a piece of so many blocks is apart, where none of its frames is counted
  pub one_apart : (p : Piece) (blocks : ℕ) → p.len ≡ 512 * blocks → ((j : ℕ) → Covers b j → bit (covers j (p.start, blocks)) ≡ 0) → Apart b p
  one_apart p blocks long clear j in_b in_p =
      let size : frames_of p.len ≡ blocks = omega (arith, long) in
      let one : bit (covers j (p.start, blocks)) ≡ 1 = ap bit (has_covers j (p.start, blocks) (in_p.0, subst (λ n. j < p.start + n) size in_p.1)) in
      let none = clear j in_b in
      let z : ⊥ = omega (arith, one, none) in z

  command_apart : (c : Command) (w : Waiting) (room : List (ℕ × ℕ)) → room ≡ map (λ p. (p.start, entry_blocks w.len)) (buffers_by c w) → ((j : ℕ) → Covers b j → count j room ≡ 0) → AllByRecursion (Apart b) (buffers_by c w)
  command_apart (Append n) w room is clear =
      (one_apart (record { start = w.start; len = 512 * entry_blocks w.len }) (entry_blocks w.len) refl (λ j has. let sum : count j room ≡ bit (covers j (w.start, entry_blocks w.len)) + 0 = ap (count j) is in let none = clear j has in omega (arith, sum, none)), tt)
  command_apart (Trim n) w room is clear = tt
  command_apart (Pop n) w room is clear =
      (one_apart (record { start = w.start; len = 512 * entry_blocks w.len }) (entry_blocks w.len) refl (λ j has. let sum : count j room ≡ bit (covers j (w.start, entry_blocks w.len)) + 0 = ap (count j) is in let none = clear j has in omega (arith, sum, none)), tt)

  pub rooms_apart : (ws : List Waiting) (ms : List log.Waiting) → AreRoomsOf ws ms → ((j : ℕ) → Covers b j → count j (rooms ms) ≡ 0) → AllByRecursion (Apart b) (flat_map buffers_of ws)
  rooms_apart [] [] is clear = tt
  rooms_apart (w ∷ ws) (m ∷ ms) is clear =
      all_joined (Apart b) (buffers_of w) (flat_map buffers_of ws)
      (command_apart w.command w m.room is.0 (λ j has. let sum = total_append (λ f. bit (covers j f)) m.room (rooms ms) in let none = clear j has in omega (arith, sum, none)))
      (rooms_apart ws ms is.1 (λ j has. let sum = total_append (λ f. bit (covers j f)) m.room (rooms ms) in let none = clear j has in omega (arith, sum, none)))
  rooms_apart [] (m ∷ ms) is clear = absurd is
  rooms_apart (w ∷ ws) [] is clear = absurd is

apart_turned : (p : Piece) (bs : List Piece) → AllByRecursion (Apart p) bs → AllByRecursion (λ b. Apart b p) bs
apart_turned p [] all = tt
apart_turned p (b ∷ bs) all = ((λ j in_b in_p. all.0 j in_p in_b), apart_turned p bs all.1)

module _ (h : History) (blocks : List ℕ) (space : Space) (ring : Queue) (v : OpenChain) (p : Layout) (g : Log) (o : Opened) (runs : IsRunning h blocks space ring v p g o) where
  pub its_frames : object_frames (Objects.log g) ≡ (o.header_frame, 1) ∷ rooms o.waiting
  its_frames = ap opened_frames runs.is.opened

  -- a piece none of whose frames it has is apart from all that it has
  pub own_apart : (b : Piece) → ((j : ℕ) → Covers b j → object_covers j (Objects.log g) ≡ 0) → AllByRecursion (Apart b) (pieces_of v)
  own_apart b clear =
      let parts : (j : ℕ) → Covers b j → bit (covers j (o.header_frame, 1)) + count j (rooms o.waiting) ≡ 0 = λ j has. sym (ap (count j) its_frames) ∙ clear j has in (
        one_apart b (record { start = v.header_at; len = 512 }) 1 refl
            (λ j has. subst (λ n. bit (covers j (n, 1)) ≡ 0) (sym runs.is.header) (let none = parts j has in omega (arith, none))),
        rooms_apart b v.waiting o.waiting runs.is.rooms (λ j has. let none = parts j has in omega (arith, none)),
      )

  none_of : (n : ℕ) → n ≤ 1 → (n ≡ 1 → ⊥) → n ≡ 0
  none_of zero le not = refl
  none_of (suc zero) le not = absurd (not refl)
  none_of (suc (suc n)) le not = absurd (omega (arith, le))

  -- all that it has is apart from a piece with none of its frames, each of which it has once
  pub spared : ((j : ℕ) → object_covers j (Objects.log g) ≤ 1) → (b : Piece) → ((j : ℕ) → object_covers j (Objects.log g) ≡ 1 → Covers b j → ⊥) → AllByRecursion (λ a. Apart a b) (pieces_of v)
  spared most b spares = apart_turned b (pieces_of v) (own_apart b (λ j has. none_of (object_covers j (Objects.log g)) (most j) (λ one. spares j one has)))

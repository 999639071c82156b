-- One more command waits, in lists of what waits.
use Rattle.std.proofs.Common.{◌≡◌, suc, ◌<◌, List, [], ◌∷◌, ◌++◌, length, map, Option, refl, ap, ◌∙◌, arith}
use Rattle.std.specs.Prelude.{flat_map}
use Rattle.std.proofs.lemmas.List.{append-nil}
use Rattle.std.proofs.lemmas.Grind.{flat_map-append}
use Rattle.ark_region.specs.Frames.{Piece}
use Rattle.ark_entry.specs.Found.{Entries}
use Rattle.ark_caladan.specs.Chain as log
use Rattle.ark_caladan.specs.Chain.{after_all, after_command}
use Rattle.ark_log.specs.declared.command.Waiting.{Waiting}
use Rattle.ark_log.specs.Stages.{first_with, oldest_in}
use Rattle.ark_log.specs.Stands.{AreCommands}
use Rattle.ark_running.specs.Buffers.{AreRoomsOf, HaveLengths, IsLengthOf, IsRoomOf, buffers_of}

pub oldest_more : (ws : List Waiting) (x : Waiting) → 0 < length ws → oldest_in (ws ++ x ∷ []) ≡ oldest_in ws
oldest_more [] x some = absurd (omega (arith, some))
oldest_more (w ∷ ws) x some = refl

pub with_more : (buf : Option Piece) (ws : List Waiting) (x : Waiting) → 0 < length ws → first_with buf (ws ++ x ∷ []) ≡ first_with buf ws ++ x ∷ []
with_more buf [] x some = absurd (omega (arith, some))
with_more buf (w ∷ ws) x some = refl

pub long_with : (buf : Option Piece) (ws : List Waiting) → length (first_with buf ws) ≡ length ws
long_with buf [] = refl
long_with buf (w ∷ ws) = refl

-- as many wait as its machine has
pub as_many : (ws : List Waiting) (ms : List log.Waiting) → AreCommands ws (map (λ m. m.command) ms) → length ws ≡ length ms
as_many [] [] are = refl
as_many [] (m ∷ ms) are = absurd are
as_many (w ∷ ws) [] are = absurd are
as_many (w ∷ ws) (m ∷ ms) are = ap suc (as_many ws ms are.1)

pub lengths_more : (l : Entries) (ws : List Waiting) (cs : List log.Command) (x : Waiting) (c : log.Command) → HaveLengths l ws cs → IsLengthOf (after_all l cs) x.len c → HaveLengths l (ws ++ x ∷ []) (cs ++ c ∷ [])
lengths_more l [] [] x c have one = (one, tt)
lengths_more l [] (y ∷ cs) x c have one = absurd have
lengths_more l (w ∷ ws) [] x c have one = absurd have
lengths_more l (w ∷ ws) (y ∷ cs) x c have one = (have.0, lengths_more (after_command l y) ws cs x c have.1 one)

pub rooms_more : (ws : List Waiting) (ms : List log.Waiting) (x : Waiting) (m : log.Waiting) → AreRoomsOf ws ms → IsRoomOf x m → AreRoomsOf (ws ++ x ∷ []) (ms ++ m ∷ [])
rooms_more [] [] x m are one = (one, tt)
rooms_more [] (y ∷ ms) x m are one = absurd are
rooms_more (w ∷ ws) [] x m are one = absurd are
rooms_more (w ∷ ws) (y ∷ ms) x m are one = (are.0, rooms_more ws ms x m are.1 one)

pub pieces_more : (ws : List Waiting) (x : Waiting) → flat_map buffers_of (ws ++ x ∷ []) ≡ flat_map buffers_of ws ++ buffers_of x
pieces_more ws x = flat_map-append buffers_of ws (x ∷ []) ∙ ap (λ t. flat_map buffers_of ws ++ t) (append-nil (buffers_of x))

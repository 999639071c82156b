-- The turns that a line may have. What is so of each of them is so of what every line does: one walk for all laws.
use Rattle.std.proofs.Common.{◌≡◌, ℕ, Bool, true, false, List, [], refl, subst}
use Rattle.std.proofs.lemmas.Bool.{false≢true}
use Rattle.std.specs.Prelude.{Option, Some, None, find, unwrap_or}
use Rattle.ark_base.specs.declared.refusal.Refusal.TheVariants as r
use Rattle.ark_packet.specs.declared.own.Own.{Own}
use Rattle.ark_script.specs.Line as w
use Rattle.ark_script.specs.Line.{Line}
use Rattle.ark_script.specs.declared.said.Said.{Said}
use Rattle.ark_script.specs.declared.said.Said.TheVariants as said
use Rattle.ark_machine.specs.Row.{Ended}
use Rattle.ark_machine.specs.Network.{arrive}
use Rattle.ark_machine.specs.Step.{step}
use Rattle.ark_machine.specs.Plane.{LiveFilter, recorded}
use Rattle.ark_machine.specs.System.{System, Turn, machine_of, owner, takes, quiet_turn, own_turn, tick_turn, nic_turn, arrival_turn, taken_turn, wire_turn, common_turn, owned_turn, line_turn}

-- the replies of a line that changes nothing
abbrev pub is_quiet : Said → Bool
is_quiet said.Ok = true
is_quiet said.DroppedNoFilter = true
is_quiet (said.Refused x) = true
is_quiet _ = false

pub quiet_not_sent : (x : Said) → is_quiet x ≡ true → x ≡ said.Sent → ⊥
quiet_not_sent x h e = false≢true (subst (λ y. is_quiet y ≡ true) e h)

pub quiet_not_delivered : (x : Said) (b u : List ℕ) → is_quiet x ≡ true → x ≡ said.Delivered b u → ⊥
quiet_not_delivered x b u h e = false≢true (subst (λ y. is_quiet y ≡ true) e h)

-- P is so of the turn of an application's row, of ticks, of addresses that are given first, of a frame that a filter takes, and of a
-- reply that changes nothing.
pub record OfTurns (P : Turn → Type 0) (s : System) (line : Line) (ends : List Ended) (memory : Bool) : Type 0 where
  pub own : (a : List ℕ) → owner line ≡ Some a → P (own_turn s a line (step (machine_of s a) line (recorded s.plane line ends memory)))
  pub ticks : (n : ℕ) → line ≡ w.tick n → P (tick_turn s n)
  pub given : (own : Own) → line ≡ w.nic own → P (nic_turn s own None)
  pub arrives : (frame : List ℕ) (own : Own) (f : LiveFilter) → line ≡ w.wire frame → s.plane.own ≡ Some own → find (λ f. takes own frame f) s.plane.filters ≡ Some f
      → P (arrival_turn s f.owner (arrive f.owner (machine_of s f.owner) (unwrap_or f.card []) frame))
  pub quiet : (reply : Said) → is_quiet reply ≡ true → P (quiet_turn s reply)

-- so it is of what the line does
pub each_turn : (P : Turn → Type 0) (s : System) (line : Line) (ends : List Ended) (memory : Bool) → OfTurns P s line ends memory → P (line_turn s line ends memory)
each_turn P s line ends memory h = by (owner line) refl
  where
    given : (own : Own) → line ≡ w.nic own → (o : Option Own) → P (nic_turn s own o)
    given own is None = h.given own is
    given own is (Some old) = h.quiet (said.Refused r.NameTaken) refl

    taken : (frame : List ℕ) (own : Own) → line ≡ w.wire frame → s.plane.own ≡ Some own → (o : Option LiveFilter) → find (λ f. takes own frame f) s.plane.filters ≡ o → P (taken_turn s frame o)
    taken frame own is addressed None found = h.quiet said.DroppedNoFilter refl
    taken frame own is addressed (Some f) found = h.arrives frame own f is addressed found

    arrives : (frame : List ℕ) → line ≡ w.wire frame → (o : Option Own) → s.plane.own ≡ o → P (wire_turn s frame o)
    arrives frame is None addressed = h.quiet (said.Refused r.NoNic) refl
    arrives frame is (Some own) addressed = taken frame own is addressed (find (λ f. takes own frame f) s.plane.filters) refl

    common : (x : Line) → line ≡ x → P (common_turn s x)
    common (w.tick n) is = h.ticks n is
    common (w.nic own) is = given own is s.plane.own
    common (w.wire frame) is = arrives frame is s.plane.own refl
    common _ is = h.quiet said.Ok refl

    by : (o : Option (List ℕ)) → owner line ≡ o → P (owned_turn s line ends memory o)
    by None is = common line refl
    by (Some a) is = h.own a is

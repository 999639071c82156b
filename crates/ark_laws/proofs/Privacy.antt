-- What an application is told comes from its own machine and what came to it.
use Rattle.std.proofs.Common.{◌≡◌, ◌⊎◌, inl, inr, ℕ, Bool, true, false, not, List, [], ◌∷◌, ◌++◌, refl, sym, ◌∙◌, ap, subst, cond, append_assoc}
use Rattle.std.specs.Prelude.{Option, Some, None, option_map, find, unwrap_or, bytes_eq, nat_lt, length}
use Rattle.ark_packet.specs.declared.own.Own.{Own}
use Rattle.ark_script.specs.Line as w
use Rattle.ark_script.specs.Line.{Line}
use Rattle.ark_script.specs.declared.said.Said.TheVariants as said
use Rattle.ark_machine.specs.Objects.{Vnic, Place}
use Rattle.ark_machine.specs.Machine.{Machine, vnic_at}
use Rattle.ark_machine.specs.Row.{Row, Ended, Given, says}
use Rattle.ark_machine.specs.Control.{is_label}
use Rattle.ark_machine.specs.Asked.{part_for}
use Rattle.ark_machine.specs.Rates.{may_pass}
use Rattle.ark_machine.specs.Network.{bytes_in, received, arrival, arrive}
use Rattle.ark_machine.specs.Step.{step}
use Rattle.ark_machine.specs.Plane.{LiveFilter, recorded}
use Rattle.ark_machine.specs.System.{System, Turn, listed_machine, machine_of, set_machine, owner, takes, own_turn, nic_turn, arrival_turn, taken_turn, wire_turn, common_turn, owned_turn, line_turn}
use Rattle.ark_machine.specs.Private.{Play, play_turn, after_plays, Input, asks, comes, line_inputs, frame_inputs, taker, common_inputs, inputs_by, inputs_in, inputs_of, concerned, reply_of, replies_to, private_row, told, private_replies, private_machine}
use Rattle.ark_laws.proofs.Rows.{row_is}
use Rattle.ark_laws.proofs.Listed.{same_bytes, unmade_at, is_unlisted, unlisted_machine, set_there, set_here, ticked_machine}

-- Inputs one after another.

replies_append : (a : List ℕ) (m : Machine) (is js : List Input) → private_replies a m (is ++ js) ≡ private_replies a m is ++ private_replies a (private_machine a m is) js
replies_append a m [] js = refl
replies_append a m (i ∷ is) js =
    let next : Machine = (private_row a m i).machine in
    ap (λ rs. told i (private_row a m i) ++ rs) (replies_append a next is js) ∙ sym (append_assoc (told i (private_row a m i)) (private_replies a next is) (private_replies a (private_machine a next is) js))

machine_append : (a : List ℕ) (m : Machine) (is js : List Input) → private_machine a m (is ++ js) ≡ private_machine a (private_machine a m is) js
machine_append a m [] js = refl
machine_append a m (i ∷ is) js = machine_append a (private_row a m i).machine is js

-- One line.

-- the turn tells application a what its machine answers, and leaves it that machine
abbrev Fits : List ℕ → System → Turn → Option (List ℕ) → List Input → Type 0
Fits a s t whom is = (cond (is_label a whom) (reply_of t ∷ []) [] ≡ private_replies a (machine_of s a) is) × (machine_of t.after a ≡ private_machine a (machine_of s a) is)

-- the machine that a line of the application leaves
pub own_machine : (s : System) (a : List ℕ) (line : Line) (g : Given) → listed_machine (set_machine s.machines a (step (machine_of s a) line g).machine) s.now a ≡ (step (machine_of s a) line g).machine
own_machine s a line g = set_here s.machines s.now a (step (machine_of s a) line g).machine made
  where
    made : is_unlisted s.machines a ≡ true → ((step (machine_of s a) line g).machine.made ≡ true) ⊎ ((step (machine_of s a) line g).machine ≡ unmade_at s.now)
    made lacks =
        let none : machine_of s a ≡ unmade_at s.now = unlisted_machine s.machines s.now a lacks in
        by none ((row_is (machine_of s a) line g).unmade (rw none refl))
      where
        by : machine_of s a ≡ unmade_at s.now → ((step (machine_of s a) line g).machine.made ≡ true) ⊎ ((step (machine_of s a) line g).machine ≡ machine_of s a)
            → ((step (machine_of s a) line g).machine.made ≡ true) ⊎ ((step (machine_of s a) line g).machine ≡ unmade_at s.now)
        by none (inl made) = inl made
        by none (inr same) = inr (same ∙ none)

-- a word asks for no more than its part
step_part : (m : Machine) (line : Line) (g : Given) → step m line g ≡ step m line (part_for line g)
unfolding step
step_part m (w.nic x0) g = refl
step_part m (w.app x0 x1) g = refl
step_part m (w.vsic x0 x1 x2) g = refl
step_part m (w.vnic x0 x1 x2 x3) g = refl
step_part m (w.vsa x0 x1 x2 x3) g = refl
step_part m (w.grow x0 x1 x2) g = refl
step_part m (w.bind x0 x1 x2) g = refl
step_part m (w.unbind x0 x1 x2) g = refl
step_part m (w.filter x0 x1 x2) g = refl
step_part m (w.assign x0 x1 x2) g = refl
step_part m (w.rate x0 x1 x2 x3) g = refl
step_part m (w.pace x0 x1 x2 x3) g = refl
step_part m (w.door x0 x1) g = refl
step_part m (w.watch x0 x1 x2 x3) g = refl
step_part m (w.drop x0 x1) g = refl
step_part m (w.buf x0 x1 x2) g = refl
step_part m (w.fill x0 x1 x2 x3) g = refl
step_part m (w.show x0 x1 x2 x3) g = refl
step_part m (w.copy x0 x1 x2 x3) g = refl
step_part m (w.free x0 x1) g = refl
step_part m (w.peek x0 x1 x2) g = refl
step_part m (w.poke x0 x1 x2 x3) g = refl
step_part m (w.get x0 x1 x2 x3 x4 x5) g = refl
step_part m (w.put x0 x1 x2 x3 x4 x5) g = refl
step_part m (w.flush x0 x1) g = refl
step_part m (w.reap x0 x1) g = refl
step_part m (w.post x0 x1 x2) g = refl
step_part m (w.send x0 x1 x2 x3) g = refl
step_part m (w.take x0 x1 x2) g = refl
step_part m (w.sock x0 x1 x2 x3) g = refl
step_part m (w.sendto x0 x1 x2 x3 x4) g = refl
step_part m (w.recv x0 x1) g = refl
step_part m (w.look x0 x1) g = refl
step_part m (w.log x0 x1 x2) g = refl
step_part m (w.queue x0 x1 x2) g = refl
step_part m (w.append x0 x1 x2) g = refl
step_part m (w.push x0 x1 x2) g = refl
step_part m (w.trim x0 x1 x2) g = refl
step_part m (w.pop x0 x1) g = refl
step_part m (w.walk x0 x1 x2) g = refl
step_part m (w.poll x0 x1) g = refl
step_part m (w.settle x0 x1) g = refl
step_part m (w.close x0 x1) g = refl
step_part m (w.dev x0 x1) g = refl
step_part m (w.wire x0) g = refl
step_part m (w.tick x0) g = refl

own_fits : (a b : List ℕ) (s : System) (line : Line) (g : Given)
    → Fits a s (own_turn s b line (step (machine_of s b) line g)) (Some b) (line_inputs a b line g)
own_fits a b s line g = by (bytes_eq a b) refl
  where
    by : (t : Bool) → bytes_eq a b ≡ t → (cond t (reply_of (own_turn s b line (step (machine_of s b) line g)) ∷ []) [] ≡ private_replies a (machine_of s a) (cond t (asks line (part_for line g) ∷ []) []))
        × (listed_machine (set_machine s.machines b (step (machine_of s b) line g).machine) s.now a ≡ private_machine a (machine_of s a) (cond t (asks line (part_for line g) ∷ []) []))
    by true e = subst (λ c. (reply_of (own_turn s c line (step (machine_of s c) line g)) ∷ [] ≡ private_replies a (machine_of s a) (asks line (part_for line g) ∷ []))
        × (listed_machine (set_machine s.machines c (step (machine_of s c) line g).machine) s.now a ≡ private_machine a (machine_of s a) (asks line (part_for line g) ∷ []))) (same_bytes a b e)
        (ap (λ row. (record { said = row.said; bytes = row.bytes; calls = row.calls }) ∷ []) (step_part (machine_of s a) line g), own_machine s a line g ∙ ap (λ row. row.machine) (step_part (machine_of s a) line g))
    by false e = (refl, set_there s.machines s.now a b (step (machine_of s b) line g).machine e)

-- A frame that arrives.

arrival_calls : (a : List ℕ) (m : Machine) (v : List ℕ) (x : Vnic) (ps : List Place) (frame : List ℕ) → (arrival a m v x ps frame).calls ≡ []
arrival_calls a m v x [] frame = refl
arrival_calls a m v x (p ∷ ps) frame = by (nat_lt (length (bytes_in m p)) (length frame)) (may_pass x.rx_pace m.now (length frame))
  where
    by : (b c : Bool) → (cond b (says m (said.DroppedTooLong a v)) (cond (not c) (says m (said.DroppedThrottled a v)) (says (received m v x p ps frame) (said.Delivered a v)))).calls ≡ []
    by true c = refl
    by false true = refl
    by false false = refl

arrive_calls : (a : List ℕ) (m : Machine) (v frame : List ℕ) → (arrive a m v frame).calls ≡ []
arrive_calls a m v frame = by (vnic_at m v)
  where
    by : (o : Option Vnic) → (unwrap_or (option_map (λ x. arrival a m v x x.rx.posted frame) o) (says m said.DroppedNoFilter)).calls ≡ []
    by None = refl
    by (Some x) = arrival_calls a m v x x.rx.posted frame

-- a machine that is not listed has no card
arrived_machine : (s : System) (a v frame : List ℕ) → listed_machine (set_machine s.machines a (arrive a (machine_of s a) v frame).machine) s.now a ≡ (arrive a (machine_of s a) v frame).machine
arrived_machine s a v frame =
    set_here s.machines s.now a (arrive a (machine_of s a) v frame).machine
    (λ lacks. inr (subst (λ m. (arrive a m v frame).machine ≡ unmade_at s.now) (sym (unlisted_machine s.machines s.now a lacks)) refl))

-- what the arrival of a frame tells
frame_told : (s : System) (a v frame : List ℕ) → (reply_of (arrival_turn s a (arrive a (machine_of s a) v frame)) ∷ []) ≡ private_replies a (machine_of s a) (comes v frame ∷ [])
frame_told s a v frame =
    let row : Row = arrive a (machine_of s a) v frame in
    ap (λ cs. (record { said = row.said; bytes = row.bytes; calls = cs }) ∷ []) (sym (arrive_calls a (machine_of s a) v frame))

taken_fits : (a : List ℕ) (s : System) (frame : List ℕ) (o : Option LiveFilter) → Fits a s (taken_turn s frame o) (option_map (λ f. f.owner) o) (frame_inputs a frame o)
taken_fits a s frame None = (refl, refl)
taken_fits a s frame (Some f) = by (bytes_eq a f.owner) refl
  where
    v : List ℕ
    v = unwrap_or f.card []

    arrived : List ℕ → Turn
    arrived c = arrival_turn s c (arrive c (machine_of s c) v frame)

    by : (t : Bool) → bytes_eq a f.owner ≡ t → (cond t (reply_of (arrived f.owner) ∷ []) [] ≡ private_replies a (machine_of s a) (cond t (comes v frame ∷ []) []))
        × (machine_of (arrived f.owner).after a ≡ private_machine a (machine_of s a) (cond t (comes v frame ∷ []) []))
    by true e = subst (λ c. (reply_of (arrived c) ∷ [] ≡ private_replies a (machine_of s a) (comes v frame ∷ [])) × (machine_of (arrived c).after a ≡ private_machine a (machine_of s a) (comes v frame ∷ [])))
        (same_bytes a f.owner e) (frame_told s a v frame, arrived_machine s a v frame)
    by false e = (refl, set_there s.machines s.now a f.owner (arrive f.owner (machine_of s f.owner) v frame).machine e)

wire_fits : (a : List ℕ) (s : System) (frame : List ℕ) (o : Option Own) → Fits a s (wire_turn s frame o) (option_map (λ f. f.owner) (taker s frame o)) (frame_inputs a frame (taker s frame o))
wire_fits a s frame None = (refl, refl)
wire_fits a s frame (Some own) = taken_fits a s frame (find (λ f. takes own frame f) s.plane.filters)

-- Lines of no application.

nic_fits : (a : List ℕ) (s : System) (own : Own) (o : Option Own) → Fits a s (nic_turn s own o) None []
nic_fits a s own None = (refl, refl)
nic_fits a s own (Some old) = (refl, refl)

common_fits : (a : List ℕ) (s : System) (line : Line) → owner line ≡ None → Fits a s (common_turn s line) (concerned s line) (common_inputs a s line)
common_fits a s (w.tick n) is = (refl, ticked_machine s.machines s.now n a)
common_fits a s (w.nic own) is = nic_fits a s own s.plane.own
common_fits a s (w.wire frame) is = wire_fits a s frame s.plane.own
common_fits a s _ is = absurd cc

concerns_owner : (s : System) (line : Line) (b : List ℕ) → owner line ≡ Some b → concerned s line ≡ Some b
concerns_owner s (w.wire frame) b is = absurd cc
concerns_owner s line b is = is

line_fits : (a : List ℕ) (s : System) (x : Play) → Fits a s (play_turn s x) (concerned s x.line) (inputs_in a s x)
line_fits a s x = by (owner x.line) refl
  where
    by : (o : Option (List ℕ)) → owner x.line ≡ o → Fits a s (owned_turn s x.line x.ends x.memory o) (concerned s x.line) (inputs_by a s x o)
    by None is = common_fits a s x.line is
    by (Some b) is =
        subst (λ whom. Fits a s (own_turn s b x.line (step (machine_of s b) x.line (recorded s.plane x.line x.ends x.memory))) whom (line_inputs a b x.line (recorded s.plane x.line x.ends x.memory)))
        (sym (concerns_owner s x.line b is)) (own_fits a b s x.line (recorded s.plane x.line x.ends x.memory))

-- Whole runs.

pub replies_private : (a : List ℕ) (s : System) (xs : List Play) → replies_to a s xs ≡ private_replies a (machine_of s a) (inputs_of a s xs)
replies_private a s [] = refl
replies_private a s (x ∷ xs) =
    let next : System = (play_turn s x).after in
    let m : Machine = machine_of s a in
    let is : List Input = inputs_in a s x in
    let js : List Input = inputs_of a next xs in
    let f = line_fits a s x in
    ap (λ rs. rs ++ replies_to a next xs) f.0
    ∙ (ap (λ rs. private_replies a m is ++ rs) (replies_private a next xs ∙ ap (λ k. private_replies a k js) f.1)
    ∙ sym (replies_append a m is js))

pub machine_private : (a : List ℕ) (s : System) (xs : List Play) → machine_of (after_plays s xs) a ≡ private_machine a (machine_of s a) (inputs_of a s xs)
machine_private a s [] = refl
machine_private a s (x ∷ xs) =
    let next : System = (play_turn s x).after in
    let js : List Input = inputs_of a next xs in
    machine_private a next xs ∙ (ap (λ k. private_machine a k js) (line_fits a s x).1 ∙ sym (machine_append a (machine_of s a) (inputs_in a s x) js))

-- a line of one application leaves each other's machine as it is
pub others_left : (s : System) (line : Line) (ends : List Ended) (memory : Bool) (a b : List ℕ) → owner line ≡ Some b → bytes_eq a b ≡ false
    → machine_of (line_turn s line ends memory).after a ≡ machine_of s a
others_left s line ends memory a b is apart = by (owner line) is
  where
    by : (o : Option (List ℕ)) → o ≡ Some b → machine_of (owned_turn s line ends memory o).after a ≡ machine_of s a
    by None e = absurd cc
    by (Some c) e = subst (λ o. machine_of (owned_turn s line ends memory o).after a ≡ machine_of s a) (sym e) (set_there s.machines s.now a b (step (machine_of s b) line (recorded s.plane line ends memory)).machine apart)

-- two runs that bring the same to one and the same machine tell the same
pub replies_alike : (a : List ℕ) (s t : System) (xs ys : List Play) → machine_of s a ≡ machine_of t a → inputs_of a s xs ≡ inputs_of a t ys → replies_to a s xs ≡ replies_to a t ys
replies_alike a s t xs ys m is =
    replies_private a s xs ∙ (ap (λ k. private_replies a k (inputs_of a s xs)) m ∙ (ap (λ js. private_replies a (machine_of t a) js) is ∙ sym (replies_private a t ys)))

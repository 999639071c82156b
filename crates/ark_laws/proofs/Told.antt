-- What a run puts out for one application comes from its own machine and inputs, and so does the machine at its start.
use Rattle.std.proofs.Common.{◌≡◌, ℕ, Bool, true, false, List, [], ◌∷◌, ◌++◌, map, refl, sym, ◌∙◌, ap, subst, cond}
use Rattle.std.proofs.lemmas.List.{map-append}
use Rattle.std.specs.Prelude.{Some, None, Ok, Err, option_map, find, unwrap_or, bytes_eq}
use Rattle.ark_base.specs.declared.refusal.Refusal.TheVariants as r
use Rattle.ark_media.specs.Journal.{Event, output_of, device_events}
use Rattle.ark_table.specs.Slots.{Slot}
use Rattle.ark_script.specs.Line.{Line}
use Rattle.ark_script.specs.Lines.{Meaning}
use Rattle.ark_script.specs.Text.{text}
use Rattle.ark_script.specs.declared.said.Said.TheVariants as said
use Rattle.ark_machine.specs.Machine.{Machine, unmade}
use Rattle.ark_machine.specs.Control.{is_label}
use Rattle.ark_machine.specs.System.{System, Turn, listed_machine, machine_of, line_turn, quiet_turn}
use Rattle.ark_machine.specs.Start.{with_slot, with_stored, all_stored, start_system}
use Rattle.ark_machine.specs.Built.{is_built}
use Rattle.ark_machine.specs.Follow.{ends_of}
use Rattle.ark_machine.specs.Replies.{has_lacked, EachAnswers}
use Rattle.ark_machine.specs.Private.{Play, play_turn, Reply, concerned, reply_of, replies_in, replies_to, inputs_of, private_replies}
use Rattle.ark_machine.specs.Told.{play_of, plays_in, plays_of, outputs_in, outputs_to, text_of, own_slots, Area, area_in, with_areas}
use Rattle.ark_laws.proofs.Listed.{same_bytes, unmade_at}
use Rattle.ark_laws.proofs.Privacy.{replies_private, replies_alike}

-- the part of a line that comes to the machines shows its reply
shown_in : (a : List ℕ) (s : System) (line : Line) (part : List Event) → output_of part ≡ text_of (reply_of (play_turn s (play_of line part)))
    → outputs_in a s (Some line) part ≡ map text_of (replies_in a s (play_of line part))
shown_in a s line part is =
    let reply : Reply = reply_of (play_turn s (play_of line part)) in
    elim (is_label a (concerned s line)) as (λ b. cond b (output_of part ∷ []) [] ≡ map text_of (cond b (reply ∷ []) [])) [ true ↦ ap (λ (x : List ℕ). x ∷ []) is | false ↦ refl ]

outputs_told : (a : List ℕ) (s : System) (ms : List Meaning) (ps : List (List Event)) → EachAnswers s ms ps → outputs_to a s ms ps ≡ map text_of (replies_to a s (plays_of ms ps))
outputs_told a s [] ps h = refl
outputs_told a s (m ∷ ms) [] h = refl
outputs_told a s (Err x ∷ ms) (p ∷ ps) h = outputs_told a s ms ps h.1
outputs_told a s (Ok line ∷ ms) (p ∷ ps) h = by (λ t k. outputs_told a t ms ps k) (is_built line) h.0.output h.1
  where
    whole : Bool → Turn
    whole b = cond b (line_turn s line (ends_of (device_events p)) (has_lacked p)) (quiet_turn s (said.Refused r.UnknownWord))

    by : ((t : System) → EachAnswers t ms ps → outputs_to a t ms ps ≡ map text_of (replies_to a t (plays_of ms ps))) → (b : Bool) → output_of p ≡ text (whole b).said (whole b).bytes
        → EachAnswers (whole b).after ms ps
        → outputs_in a s (cond b (Some line) None) p ++ outputs_to a (whole b).after ms ps ≡ map text_of (replies_to a s (plays_in (cond b (Some line) None) p ++ plays_of ms ps))
    by rest false is k = rest s k
    by rest true is k =
        let next : System = (play_turn s (play_of line p)).after in
        let xs : List Play = plays_of ms ps in
        ap (λ (zs : List (List ℕ)). zs ++ outputs_to a next ms ps) (shown_in a s line p is)
        ∙ (ap (λ (zs : List (List ℕ)). map text_of (replies_in a s (play_of line p)) ++ zs) (rest next k)
        ∙ sym (map-append text_of (replies_in a s (play_of line p)) (replies_to a next xs)))

-- what is put out for an application
pub outputs_private : (a : List ℕ) (s : System) (ms : List Meaning) (ps : List (List Event)) → EachAnswers s ms ps
    → outputs_to a s ms ps ≡ map text_of (private_replies a (machine_of s a) (inputs_of a s (plays_of ms ps)))
outputs_private a s ms ps h = outputs_told a s ms ps h ∙ ap (λ (rs : List Reply). map text_of rs) (replies_private a s (plays_of ms ps))

-- two runs that bring the same to it
pub outputs_alike : (a : List ℕ) (s t : System) (ms ns : List Meaning) (ps qs : List (List Event)) → EachAnswers s ms ps → EachAnswers t ns qs → machine_of s a ≡ machine_of t a
    → inputs_of a s (plays_of ms ps) ≡ inputs_of a t (plays_of ns qs) → outputs_to a s ms ps ≡ outputs_to a t ns qs
outputs_alike a s t ms ns ps qs h k m is =
    outputs_told a s ms ps h ∙ (ap (λ (rs : List Reply). map text_of rs) (replies_alike a s t (plays_of ms ps) (plays_of ns qs) m is) ∙ sym (outputs_told a t ns qs k))

-- The start.

abbrev areas_of : List ℕ → List (List ℕ) → List Slot → List Area
areas_of a image ts = map (area_in image) (own_slots a ts)

abbrev with_own : Bool → List (List ℕ) → Machine → Slot → Machine
with_own b image m t = cond b (with_slot image m t) m

abbrev chosen : Bool → List ℕ × Machine → List (List ℕ × Machine) → List ℕ → Machine
chosen b p ps a = unwrap_or (option_map (λ q. q.1) (cond b (Some p) (find (λ q. bytes_eq a q.0) ps))) (unmade_at 0)

-- names that equal a third one are compared alike
same_test : (a b c : List ℕ) → bytes_eq b c ≡ true → bytes_eq a b ≡ bytes_eq a c
same_test a b c h = ap (λ x. bytes_eq a x) (same_bytes b c h)

-- a name that differs from another is not both of them
not_both : (a b c : List ℕ) → bytes_eq b c ≡ false → bytes_eq a c ≡ true → bytes_eq a b ≡ false
not_both a b c apart here = by (bytes_eq a b) refl
  where
    by : (t : Bool) → bytes_eq a b ≡ t → t ≡ false
    by true e = sym (subst (λ x. bytes_eq x c ≡ true) (same_bytes a b e) here) ∙ apart
    by false e = refl

one_stored : (image : List (List ℕ)) (ms : List (List ℕ × Machine)) (t : Slot) (a : List ℕ) → listed_machine (with_stored image ms t) 0 a ≡ with_own (bytes_eq a t.app) image (listed_machine ms 0 a) t
one_stored image [] t a = elim (bytes_eq a t.app) as (λ b. chosen b (t.app, with_slot image unmade t) [] a ≡ with_own b image (unmade_at 0) t) [ true ↦ refl | false ↦ refl ]
one_stored image (p ∷ ps) t a = by (one_stored image ps t a) (bytes_eq t.app p.0) (bytes_eq a p.0) refl refl
  where
    by : listed_machine (with_stored image ps t) 0 a ≡ with_own (bytes_eq a t.app) image (listed_machine ps 0 a) t → (b c : Bool) → bytes_eq t.app p.0 ≡ b → bytes_eq a p.0 ≡ c
        → listed_machine (cond b ((p.0, with_slot image p.1 t) ∷ ps) (p ∷ with_stored image ps t)) 0 a ≡ with_own (bytes_eq a t.app) image (chosen c p ps a) t
    by rest true true e g = let own : bytes_eq a t.app ≡ true = same_test a t.app p.0 e ∙ g in rw (own, g) refl
    by rest true false e g = let other : bytes_eq a t.app ≡ false = same_test a t.app p.0 e ∙ g in rw (other, g) refl
    by rest false true e g = let other : bytes_eq a t.app ≡ false = not_both a t.app p.0 e g in rw (other, g) refl
    by rest false false e g = rw g rest

stored_for : (image : List (List ℕ)) (ms : List (List ℕ × Machine)) (ts : List Slot) (a : List ℕ) → listed_machine (all_stored image ms ts) 0 a ≡ with_areas (listed_machine ms 0 a) (areas_of a image ts)
stored_for image ms [] a = refl
stored_for image ms (t ∷ ts) a = stored_for image (with_stored image ms t) ts a ∙ (ap (λ m. with_areas m (areas_of a image ts)) (one_stored image ms t a) ∙ by (bytes_eq a t.app))
  where
    by : (b : Bool) → with_areas (with_own b image (listed_machine ms 0 a) t) (areas_of a image ts) ≡ with_areas (listed_machine ms 0 a) (map (area_in image) (cond b (t ∷ own_slots a ts) (own_slots a ts)))
    by true = refl
    by false = refl

-- an application starts with what its own slots hold
pub start_private : (image : List (List ℕ)) (slots : List Slot) (a : List ℕ) → machine_of (start_system image slots) a ≡ with_areas unmade (map (area_in image) (own_slots a slots))
start_private image slots a = stored_for image [] slots a

-- two runs that start with the same areas for it, and bring the same to it
same_start : (image other : List (List ℕ)) (slots others : List Slot) (a : List ℕ) → map (area_in image) (own_slots a slots) ≡ map (area_in other) (own_slots a others)
    → machine_of (start_system image slots) a ≡ machine_of (start_system other others) a
same_start image other slots others a areas = start_private image slots a ∙ (ap (λ (zs : List Area). with_areas unmade zs) areas ∙ sym (start_private other others a))

pub start_alike : (image other : List (List ℕ)) (slots others : List Slot) (a : List ℕ) (xs ys : List Play) → map (area_in image) (own_slots a slots) ≡ map (area_in other) (own_slots a others)
    → inputs_of a (start_system image slots) xs ≡ inputs_of a (start_system other others) ys → replies_to a (start_system image slots) xs ≡ replies_to a (start_system other others) ys
start_alike image other slots others a xs ys areas is = replies_alike a (start_system image slots) (start_system other others) xs ys (same_start image other slots others a areas) is

pub start_outputs_alike : (image other : List (List ℕ)) (slots others : List Slot) (a : List ℕ) (ms ns : List Meaning) (ps qs : List (List Event)) → EachAnswers (start_system image slots) ms ps → EachAnswers (start_system other others) ns qs
    → map (area_in image) (own_slots a slots) ≡ map (area_in other) (own_slots a others) → inputs_of a (start_system image slots) (plays_of ms ps) ≡ inputs_of a (start_system other others) (plays_of ns qs)
    → outputs_to a (start_system image slots) ms ps ≡ outputs_to a (start_system other others) ns qs
start_outputs_alike image other slots others a ms ns ps qs h k areas is =
    outputs_alike a (start_system image slots) (start_system other others) ms ns ps qs h k (same_start image other slots others a areas) is

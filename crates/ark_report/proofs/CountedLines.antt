-- Lines that are answered, and whose replies are counted: one more, and all of them.
use Rattle.std.proofs.Common.{◌≡◌, ℕ, List, [], ◌∷◌, ◌++◌, length, map, refl, sym, ◌∙◌, ap, subst, append_assoc, append-nil, length-append, arith}
use Rattle.std.proofs.lemmas.List.{map-append}
use Rattle.std.specs.Prelude.{Some, None}
use Rattle.ark_work.specs.Tallied.{Tells}
use Rattle.ark_work.specs.declared.tally.Tally.{Tally}
use Rattle.ark_media.specs.Journal.{Event, History, onto, output_of, device_events}
use Rattle.ark_media.specs.Calls.{Told, Tells as TellsOn}
use Rattle.ark_media.specs.Parts.{parts, joined}
use Rattle.ark_media.specs.Standing.{after}
use Rattle.ark_media.proofs.Parting.{joined-more, whole_more, parts-joined}
use Rattle.ark_media.proofs.Composing.{device_events-append, output_of-put, devices_silent}
use Rattle.ark_script.specs.Lines.{Meaning, EachSays}
use Rattle.ark_script.proofs.Lining.{each_says_more, each_says_count}
use Rattle.ark_machine.specs.System.{System}
use Rattle.ark_machine.specs.Replies.{turn_for, system_after, Replies}
use Rattle.ark_machine.specs.Fronts.{AtEachFront, RunRecoversAtFronts}
use Rattle.ark_machine.proofs.Runs.{each_more, system_after-more, replies_of, begins_none}
use Rattle.ark_machine.proofs.Fronts.{each_at_more, recovers_of}
use Rattle.ark_host.specs.declared.host.Host.{Host}
use Rattle.ark_host.specs.Stands.{Stands, Stood}
use Rattle.ark_host.proofs.Recovering.{none_fronts}
use Rattle.ark_host.proofs.Stood.{after_append, stood_before, stood_then}
use Rattle.ark_answer.specs.Answered.{LineReplied, part_of}
use Rattle.ark_answer.proofs.Replied.{part_devices}
use Rattle.ark_report.specs.Counted.{CountedSoFar}
use Rattle.ark_report.proofs.Beside.{onto_alike, onto_devices, fronts_alike, each_alike}

-- no line was answered
pub none_counted : (host : Host) (script : List (List ℕ)) (told : Told) (tally : Tally) → Tells tally [] → CountedSoFar host script script [] host told tally
none_counted host script told tally tells = record {
  lines = [];
  cut = refl;
  meanings = [];
  says = tt;
  whole = [];
  parts = tt;
  count = refl;
  devices = refl;
  tells = tells;
  each = λ s h stood. tt;
  stands = λ s h stood. stood.stands;
  fronts = λ s h stood. tt;
}

module _ (first : Host) (script left : List (List ℕ)) (line text : List ℕ) (es more : List Event) (host now : Host) (t0 t1 : Told) (tally one : Tally) (tells : TellsOn more t0 t1)
    (f : CountedSoFar first script (line ∷ left) es host t0 tally) (a : LineReplied host line more now t1 text) (counted : (replies : List (List ℕ)) → Tells tally replies → Tells one (replies ++ text ∷ [])) where
  abbrev part : List Event
  part = part_of more text

  meanings : List Meaning
  meanings = f.meanings ++ a.meaning ∷ []

  back : (s : System) (h : History) → Stood first t1 h (es ++ more) s → Stood first t0 h es s
  back s h stood = stood_before first t0 t1 es more s h tells.adds tells.blocks stood

  mid : (s : System) (h : History) → Stood first t1 h (es ++ more) s → Stood host t1 (after h es) more (system_after s f.meanings f.whole)
  mid s h stood = stood_then first host t0 t1 es more s (system_after s f.meanings f.whole) h tells.blocks stood (f.stands s h (back s h stood))

  -- the journal of the device, and that of a run
  alike : (h : History) → device_events (onto es h.journal) ≡ device_events (onto (joined f.whole) h.journal)
  alike h = ap (λ (x : List Event). device_events (onto x h.journal)) (sym f.devices) ∙ onto_devices (joined f.whole) h.journal

  its_fronts : (s : System) (h : History) → Stood first t1 h (es ++ more) s → AtEachFront h.base (onto (joined f.whole) h.journal) (system_after s f.meanings f.whole) (Some a.meaning) part
  its_fronts s h stood = fronts_alike h.base (onto es h.journal) (onto (joined f.whole) h.journal) (system_after s f.meanings f.whole) (Some a.meaning) part (alike h) (a.fronts (system_after s f.meanings f.whole) (after h es) (mid s h stood))

  shown : output_of part ≡ text
  shown = output_of-put more text (devices_silent more a.devices)

  pub one_counted : CountedSoFar first script left (es ++ more) now t1 one
  one_counted = record {
    lines = f.lines ++ line ∷ [];
    cut = f.cut ∙ sym (append_assoc f.lines (line ∷ []) left);
    meanings = f.meanings ++ a.meaning ∷ [];
    says = each_says_more f.lines f.meanings line a.meaning f.says a.says;
    whole = f.whole ++ part ∷ [];
    parts = whole_more f.whole part f.parts a.whole;
    count = omega (arith, length-append f.whole (part ∷ []), length-append f.meanings (a.meaning ∷ []), f.count);
    devices = ap device_events (joined-more f.whole part) ∙ device_events-append (joined f.whole) part
        ∙ ap (λ (x : List Event). x ++ device_events part) f.devices ∙ ap (λ (x : List Event). es ++ x) (part_devices more text a.devices);
    tells = subst (λ (r : List (List ℕ)). Tells one r) (ap (λ (b : List ℕ). map output_of f.whole ++ b ∷ []) (sym shown) ∙ sym (map-append output_of f.whole (part ∷ []))) (counted (map output_of f.whole) f.tells);
    each = λ s h stood. each_more s f.meanings f.whole a.meaning part (f.each s h (back s h stood)) (a.answers _ _ (mid s h stood));
    stands = λ s h stood.
        subst (λ (t : System). Stands now t1.blocks (after h (es ++ more)) t) (sym (system_after-more s f.meanings f.whole a.meaning part f.count))
        (subst (λ (z : History). Stands now t1.blocks z (turn_for (system_after s f.meanings f.whole) a.meaning part).after) (sym (after_append h es more)) (a.stands _ _ (mid s h stood)));
    fronts = λ s h stood. each_at_more h.base h.journal s f.meanings f.whole a.meaning part (f.fronts s h (back s h stood)) (its_fronts s h stood);
  }

-- The whole script was answered: as a run's, by a host that stood for a system when these events came.
module _ (first now : Host) (script : List (List ℕ)) (es : List Event) (told : Told) (tally : Tally) (f : CountedSoFar first script [] es now told tally) where
  pub all_lines : script ≡ f.lines
  all_lines = f.cut ∙ append-nil f.lines

  pub all_parts : parts (joined f.whole) ≡ record { whole = f.whole; unfinished = [] }
  all_parts = ap parts (sym (append-nil (joined f.whole))) ∙ parts-joined f.whole [] f.parts tt

  pub all_count : length f.whole ≡ length script
  all_count = f.count ∙ sym (each_says_count f.lines f.meanings f.says) ∙ ap (λ (l : List (List ℕ)). length l) (sym all_lines)

  module _ (s : System) (h : History) (stood : Stood first told h es s) where
    pub all_replies : Replies s script f.whole []
    all_replies = subst (λ (l : List (List ℕ)). Replies s l f.whole []) (sym f.cut)
        (replies_of s f.lines [] f.meanings f.whole [] f.says f.count (f.each s h stood) (begins_none (system_after s f.meanings f.whole) []))

    -- behind a journal with the same events of the device
    pub all_recovers : (j : List Event) → device_events h.journal ≡ device_events j → RunRecoversAtFronts h.base j s script (joined f.whole)
    all_recovers j same =
        let s1 : System = system_after s f.meanings f.whole in
        let behind : AtEachFront h.base (onto es h.journal) s1 None [] = none_fronts now told.blocks (after h es) s1 (f.stands s h stood) None in
        let journals : device_events (onto es h.journal) ≡ device_events (onto (joined f.whole) j) =
        ap (λ (x : List Event). device_events (onto x h.journal)) (sym f.devices) ∙ onto_devices (joined f.whole) h.journal ∙ onto_alike (joined f.whole) h.journal j same in
        subst (λ (l : List (List ℕ)). RunRecoversAtFronts h.base j s l (joined f.whole)) (sym f.cut)
        (subst (λ (x : List Event). RunRecoversAtFronts h.base j s (f.lines ++ []) x) (append-nil (joined f.whole))
        (recovers_of h.base j s f.lines [] f.meanings [] f.whole [] (subst (λ (l : List Meaning). EachSays f.lines l) (sym (append-nil f.meanings)) f.says) f.parts tt
        (each_alike h.base h.journal j s f.meanings f.whole same (f.fronts s h stood))
        (fronts_alike h.base (onto es h.journal) (onto (joined f.whole) j) s1 None [] journals behind)))

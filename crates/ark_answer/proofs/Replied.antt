-- A line that was served, with the text of its reply behind its events: the part of the line.
use Rattle.std.proofs.Common.{◌≡◌, ℕ, Bool, true, List, [], ◌∷◌, ◌++◌, refl, sym, ◌∙◌, ap, subst, bytes_eq}
use Rattle.std.specs.Prelude.{Some}
use Rattle.ark_base.specs.declared.refusal.Refusal.TheVariants as r
use Rattle.ark_media.specs.Journal.{Event, Out, output_of, device_events}
use Rattle.ark_media.specs.Calls.{Told}
use Rattle.ark_media.specs.Parts.{ends_with_newline, ends_reply}
use Rattle.ark_media.specs.Standing.{after}
use Rattle.ark_media.proofs.Parting.{whole_with, devices_unfinished}
use Rattle.ark_media.proofs.Composing.{device_events-put, output_of-put, devices_silent}
use Rattle.ark_script.specs.Text.{text, reply_words, wants_memory}
use Rattle.ark_script.specs.declared.said.Said.{Said}
use Rattle.ark_script.specs.declared.said.Said.TheVariants as said
use Rattle.ark_script.proofs.Clean.{text_ends, wants_shown}
use Rattle.ark_machine.specs.System.{System, Turn}
use Rattle.ark_machine.specs.Built.{turn}
use Rattle.ark_machine.specs.Follow.{Performs, ends_of}
use Rattle.ark_machine.specs.Replies.{turn_for, has_lacked, MayLack}
use Rattle.ark_machine.proofs.Fronts.{put_at_fronts}
use Rattle.ark_host.specs.declared.host.Host.{Host}
use Rattle.ark_host.specs.Stands.{Stands}
use Rattle.ark_answer.specs.Answered.{LineSaid, LineReplied, part_of}

newline_last : (words : List ℕ) → ends_with_newline (words ++ 10 ∷ []) ≡ true
newline_last [] = refl
newline_last (b ∷ []) = refl
newline_last (b ∷ c ∷ words) = newline_last (c ∷ words)

-- the text of a reply ends its part
pub reply_ends : (s : Said) (bytes : List ℕ) → ends_reply (Out (text s bytes)) ≡ true
reply_ends s bytes =
    let begins = text_ends s bytes in
    rw (newline_last (reply_words s bytes), begins.0, begins.1) refl

-- what is put out is done to no device
pub part_devices : (es : List Event) (bytes : List ℕ) → device_events es ≡ es → device_events (part_of es bytes) ≡ es
part_devices es bytes alone = device_events-put es bytes ∙ alone

module _ (old : Host) (line : List ℕ) (es : List Event) (told : Told) (host : Host) (reply : Said) (shown : List ℕ) (served : LineSaid old line es host told reply shown) where
  abbrev part : List Event
  part = part_of es (text reply shown)

  silent : output_of es ≡ []
  silent = devices_silent es served.steps.devices

  devices : device_events part ≡ es
  devices = part_devices es (text reply shown) served.steps.devices

  lacked : has_lacked part ≡ wants_memory reply
  lacked = ap (λ (b : List ℕ). bytes_eq b (text (said.Refused r.NoMemory) [])) (output_of-put es (text reply shown) silent) ∙ wants_shown reply shown

  same_turn : (s : System) → turn_for s served.meaning part ≡ turn s served.meaning (ends_of es) (wants_memory reply)
  same_turn s = ap (λ (x : List Event). turn s served.meaning (ends_of x) (has_lacked part)) devices ∙ ap (λ (b : Bool). turn s served.meaning (ends_of es) b) lacked

  pub replied : LineReplied old line es host told (text reply shown)
  replied = record {
    meaning = served.meaning;
    says = served.says;
    devices = served.steps.devices;
    whole = whole_with es (Out (text reply shown)) (devices_unfinished es served.steps.devices) (reply_ends reply shown);
    answers = λ s h stood. let a = served.steps.answered s h stood in record {
      output = output_of-put es (text reply shown) silent
          ∙ ap (λ (x : Said). text x shown) a.said
          ∙ ap (λ (b : List ℕ). text (turn s served.meaning (ends_of es) (wants_memory reply)).said b) a.bytes
          ∙ ap (λ (t : Turn). text t.said t.bytes) (sym (same_turn s));
      calls = subst (λ (x : List Event). Performs s served.meaning (turn_for s served.meaning part).calls x) (sym devices)
          (subst (λ (t : Turn). Performs s served.meaning t.calls es) (sym (same_turn s)) a.calls);
      memory = subst (λ (b : Bool). MayLack served.meaning b) (sym lacked) a.memory;
    };
    stands = λ s h stood. subst (λ (t : Turn). Stands host told.blocks (after h es) t.after) (sym (same_turn s)) (served.steps.answered s h stood).stands;
    fronts = λ s h stood. put_at_fronts h.base h.journal s (Some served.meaning) es (text reply shown) (served.steps.fronts s h stood);
  }

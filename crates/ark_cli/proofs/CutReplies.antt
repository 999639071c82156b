-- Lines that were answered, and one whose reply was cut.
use Rattle.std.proofs.Common.{◌≡◌, ℕ, List, [], ◌∷◌, ◌++◌, length, drop, refl, sym, ◌∙◌, subst, inl, inr}
use Rattle.ark_media.specs.Journal.{Event, device_events, output_of}
use Rattle.ark_script.specs.Lines.{Meaning, EachSays}
use Rattle.ark_script.proofs.Lining.{each_says_count, first_say}
use Rattle.ark_machine.specs.System.{System}
use Rattle.ark_machine.specs.Follow.{ends_of}
use Rattle.ark_machine.specs.Replies.{system_after, EachAnswers, Begins}
use Rattle.ark_machine.specs.Paced.{StandsPaced}
use Rattle.ark_laws.proofs.Confining.{each_count, performs_confined, run_paced}
use Rattle.ark_laws.proofs.FramesWithin.{sends_front, delivers_front}
use Rattle.ark_cli.specs.Cut.{IsFront, IsCutConfined, ShowsFront, ShowsConfined, CutReplies, CutConfined}

-- nothing came of the lines that are left
pub shows_none : (s : System) (lines : List (List ℕ)) → ShowsFront s lines []
shows_none s [] = refl
shows_none s (line ∷ lines) = inl refl

behind : (lines more : List (List ℕ)) (n : ℕ) → n ≡ length lines → drop n (lines ++ more) ≡ more
behind [] more n h = rw h refl
behind (l ∷ lines) more n h = rw h (behind lines more (length lines) refl)

-- lines that were answered, and what came of the next one
pub cut_replies_of : (s : System) (lines more : List (List ℕ)) (ms : List Meaning) (whole : List (List Event)) (part : List Event) →
    EachSays lines ms → length whole ≡ length ms → EachAnswers s ms whole → Begins (system_after s ms whole) more (device_events part) → ShowsFront (system_after s ms whole) more part → CutReplies s (lines ++ more) whole part
cut_replies_of s lines more ms whole part says count each begins shows =
    let left : more ≡ drop (length whole) (lines ++ more) = sym (behind lines more (length whole) (count ∙ sym (each_says_count lines ms says))) in
    record {
      replies = record {
        meanings = ms;
        say = first_say lines more ms says;
        each = each;
        begins = subst (λ (l : List (List ℕ)). Begins (system_after s ms whole) l (device_events part)) left begins;
      };
      shows = subst (λ (l : List (List ℕ)). ShowsFront (system_after s ms whole) l part) left shows;
    }

front_confined : (s : System) (m : Meaning) (part : List Event) → StandsPaced s → IsFront s m part → IsCutConfined s m part
front_confined s m part paced f = record {
  device = performs_confined s m (ends_of (device_events part)) f.lacked (device_events part) paced f.calls;
  sends = sends_front s m (ends_of (device_events part)) f.lacked (output_of part) f.more paced f.front;
  delivers = delivers_front s m (ends_of (device_events part)) f.lacked (output_of part) f.more paced f.front;
}

shows_confined : (s : System) (lines : List (List ℕ)) (part : List Event) → StandsPaced s → ShowsFront s lines part → ShowsConfined s lines part
shows_confined s [] part paced h = h
shows_confined s (line ∷ lines) part paced (inl none) = inl none
shows_confined s (line ∷ lines) part paced (inr f) = inr (f.0, f.1, front_confined s f.0 part paced f.2)

-- a reply that was cut shows no frame that was not let out or in
pub cut_confined_of : (s : System) (lines : List (List ℕ)) (whole : List (List Event)) (part : List Event) → StandsPaced s → CutReplies s lines whole part → CutConfined s lines whole part
cut_confined_of s lines whole part paced r = record {
  meanings = r.replies.meanings;
  say = r.replies.say;
  count = each_count s r.replies.meanings whole r.replies.each;
  shows = shows_confined (system_after s r.replies.meanings whole) (drop (length whole) lines) part (run_paced s r.replies.meanings whole paced) r.shows;
}

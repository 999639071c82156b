-- One fetch after another.
use Rattle.std.proofs.Common.{◌≡◌, ℕ, true, false, ◌+◌, ◌≤◌, List, [], ◌++◌, length, take, refl, sym, ◌∙◌, ap, subst, append-nil, arith, rules, length-append, inl, inr}
use Rattle.std.proofs.lemmas.List.{length-take}
use Rattle.std.specs.Prelude.{Option, Ok, Err, ◌⊎◌}
use Rattle.ark_base.specs.declared.status.Status.{Status}
use Rattle.ark_base.specs.declared.status.Status.TheVariants.{Done, Usage, Source, Sink, Device, Memory, Damaged, Long}
use Rattle.ark_media.specs.Journal.{Event}
use Rattle.ark_media.specs.Calls.{Told, Beside, Script, Rests, Rose, Goes, Takes, StillTold, Fetches, KeepsAtFetch}
use Rattle.ark_media.proofs.Composing.{takes_none, takes_fetched, goes_none, goes_fetched, goes_then}
use Rattle.ark_script.specs.Lines.{newlines}
use Rattle.ark_host.specs.declared.host.Host.{Host}
use Rattle.ark_cli.specs.Line.{limit, within_limit}
use Rattle.ark_cli.specs.Session.{WorldGoesBy, FedSoFar, AnsweredToCut, FirstAnswered, AnsweredBy, FeedsMore, FeedsLast, IsAtEnd, IsFault, FetchesMore, FetchesSoFar, ScriptRun, is_done, NoneFailed, IsScriptEnd}
use Rattle.ark_cli.proofs.Kept.{within_limit-more}
use Rattle.ark_cli.proofs.NoneFailed.{unfailed_then}
use Rattle.ark_cli.proofs.FedLines.{fed_first, fed_rests, fed_answered}

-- the lines whose newline came were answered, and nothing else came
fed_till_failed : (first : Host) (fed : List ℕ) (added : List Event) (host : Host) (told : Told) (line : List ℕ) → FedSoFar first fed added host told line → AnsweredBy first (fed ++ []) (added ++ []) told Source
fed_till_failed first fed added host told line f =
    subst (λ n. FirstAnswered first (fed ++ []) (added ++ []) told n) (ap newlines (sym (append-nil fed)))
    (subst (λ a. FirstAnswered first (fed ++ []) a told (newlines fed)) (sym (append-nil added)) (fed_answered first fed added host told line f []))

-- at the end of the script nothing is left, also after calls that take none of it
pub end_after : (a b c : Option Script) (out : List ℕ) → Fetches a b 0 out → Takes b c [] → IsAtEnd c
end_after a b c out f t = record { none = λ x is. let was = t.told x is in sym was.3 ∙ (f.told was.0 was.1).4 refl }

-- a fetch failed
pub fetch_failed : (room : ℕ) (t0 t1 : Told) (b0 b1 : Beside) (host : Host) (line : List ℕ) → StillTold b0.script b1.script → Rests [] t0 t1 → KeepsAtFetch b0 b1 → b0.source_faults ≤ b1.source_faults →
    FetchesMore room t0 t1 b0 b1 host host line line (Err Source)
fetch_failed room t0 t1 b0 b1 host line still rests keeps later = record {
  bytes = [];
  events = [];
  goes = goes_fetched t0 t1 b0 b1 [] rests keeps later (takes_none b0.script b1.script still);
  taken = search rules;
  at_end = search rules;
  short = omega arith;
  fed = λ first fed added f. search rules;
  failed = λ first fed added f. fed_till_failed first fed added host t1 line (fed_rests first fed added host t0 line f t1 rests);
}

module _ (room : ℕ) (t0 tm t1 : Told) (b0 bm b1 : Beside) (host now : Host) (line held : List ℕ) (count : ℕ) (out : List ℕ) (few : length out ≤ room)
    (fetches : Fetches b0.script bm.script count out) (rests : Rests [] t0 tm) (keeps : KeepsAtFetch b0 bm) (later : b0.source_faults ≤ bm.source_faults) where
  fetched_then : (events : List Event) → Goes events [] tm t1 bm b1 → Goes events (take count out) t0 t1 b0 b1
  fetched_then events goes = subst (λ b. Goes events b t0 t1 b0 b1) (append-nil (take count out))
      (goes_then [] events (take count out) [] t0 tm t1 b0 bm b1 (goes_fetched t0 tm b0 bm (take count out) rests keeps later (takes_fetched b0.script bm.script count out fetches)) goes)

  -- a fetch brought bytes, and they were fed
  pub fetches_fed : WorldGoesBy tm t1 bm b1 (λ more. (first : Host) (fed : List ℕ) (added : List Event) → FedSoFar first fed added host tm line → FeedsMore first fed (take count out) added more now t1 held true) →
      FetchesMore room t0 t1 b0 b1 host now line held (Ok count)
  fetches_fed a = record {
    bytes = take count out;
    events = a.events;
    goes = fetched_then a.events a.goes;
    taken = length-take count out ∙ omega (arith, fetches.fits);
    at_end = λ none. end_after b0.script bm.script b1.script out (subst (λ n. Fetches b0.script bm.script n out) none fetches) a.goes.takes;
    short = search rules;
    fed = λ first fed added f. (a.does first fed added (fed_rests first fed added host t0 line f tm rests)).done refl;
    failed = λ first fed added f. search rules;
  }

  -- and a put failed
  pub fetches_cut : WorldGoesBy tm t1 bm b1 (λ more. (first : Host) (fed : List ℕ) (added : List Event) → FedSoFar first fed added host tm line → FeedsMore first fed (take count out) added more now t1 held false) →
      FetchesMore room t0 t1 b0 b1 host now line held (Err Sink)
  fetches_cut a = record {
    bytes = take count out;
    events = a.events;
    goes = fetched_then a.events a.goes;
    taken = search rules;
    at_end = search rules;
    short = omega (arith, length-take count out, few);
    fed = λ first fed added f. search rules;
    failed = λ first fed added f. subst (λ b. AnsweredToCut first (fed ++ b) (added ++ a.events) t1) (append-nil (take count out)) ((a.does first fed added (fed_rests first fed added host t0 line f tm rests)).failed refl []);
  }

pub fetched_none : (told : Told) (beside : Beside) (host : Host) (line : List ℕ) → FetchesSoFar told told beside beside host host line line 0
fetched_none told beside host line = record {
  script = [];
  events = [];
  goes = goes_none told told beside beside refl refl;
  counted = refl;
  fed = λ none. fed_first host told line none;
}

fault_is : (before now : Beside) (e : Status) → IsFault before now e → (e ≡ Source) ⊎ (e ≡ Sink)
fault_is before now Source h = inl refl
fault_is before now Sink h = inr refl
fault_is before now Done h = absurd h
fault_is before now Usage h = absurd h
fault_is before now Device h = absurd h
fault_is before now Memory h = absurd h
fault_is before now (Damaged block) h = absurd h
fault_is before now Long h = absurd h

-- nothing is left of the script after calls that take none of it
pub still_at_end : (a b : Option Script) → IsAtEnd a → Takes a b [] → IsAtEnd b
still_at_end a b end t = record { none = λ x is. let was = t.told x is in sym was.3 ∙ end.none was.0 was.1 }

module _ (t0 tm t1 : Told) (b0 bm b1 : Beside) (host0 host : Host) (line0 line : List ℕ) (count : ℕ) (g : FetchesSoFar t0 tm b0 bm host0 host line0 line count) where
  pub fetched_more : (room : ℕ) (now : Host) (held : List ℕ) (n : ℕ) → FetchesMore room tm t1 bm b1 host now line held (Ok n) → FetchesSoFar t0 t1 b0 b1 host0 now line0 held (count + n)
  fetched_more room now held n t = record {
    script = g.script ++ t.bytes;
    events = g.events ++ t.events;
    goes = goes_then g.events t.events g.script t.bytes t0 tm t1 b0 bm b1 g.goes t.goes;
    counted = omega (arith, length-append g.script t.bytes, g.counted, t.taken);
    fed = λ none. t.fed host0 g.script g.events (g.fed none);
  }

  -- a fetch brought nothing
  pub fetched_nothing : Rests [] tm t1 → KeepsAtFetch bm b1 → bm.source_faults ≤ b1.source_faults → Takes bm.script b1.script [] → FetchesSoFar t0 t1 b0 b1 host0 host line0 line count
  fetched_nothing rests keeps later takes = record {
    script = g.script;
    events = g.events;
    goes = subst (λ es. Goes es g.script t0 t1 b0 b1) (append-nil g.events) (subst (λ b. Goes (g.events ++ []) b t0 t1 b0 b1) (append-nil g.script)
        (goes_then g.events [] g.script [] t0 tm t1 b0 bm b1 g.goes (goes_fetched tm t1 bm b1 [] rests keeps later takes)));
    counted = g.counted;
    fed = λ none. fed_rests host0 g.script g.events host tm line (g.fed none) t1 rests;
  }

  -- it ended in this turn
  pub run_failed : (room : ℕ) (now : Host) (held : List ℕ) (e : Status) → IsFault bm b1 e → count + room ≤ limit → FetchesMore room tm t1 bm b1 host now line held (Err e) → ScriptRun t0 t1 b0 b1 host0 line0 e
  run_failed room now held e fault fits t = record {
    script = g.script ++ t.bytes;
    events = g.events ++ t.events;
    goes = goes_then g.events t.events g.script t.bytes t0 tm t1 b0 bm b1 g.goes t.goes;
    ended = λ none. t.failed host0 g.script g.events (g.fed none);
    at_end = λ h. elim (fault_is bm b1 e fault) [ inl x ↦ cc | inr x ↦ cc ];
    long = λ h. elim (fault_is bm b1 e fault) [ inl x ↦ cc | inr x ↦ cc ];
    short = λ h. omega (arith, length-append g.script t.bytes, g.counted, t.short, fits);
  }

  -- more than the limit came
  pub run_long : (n : ℕ) (out : List ℕ) → count ≡ limit → length out ≤ 1 → (n ≡ 0 → ⊥) → Fetches bm.script b1.script n out → Rests [] tm t1 → KeepsAtFetch bm b1 → bm.source_faults ≤ b1.source_faults → ScriptRun t0 t1 b0 b1 host0 line0 Long
  run_long n out full one some f rests keeps later =
      let more : length (g.script ++ take n out) ≡ limit + 1 = omega (arith, length-append g.script (take n out), length-take n out, g.counted, full, one, some, f.fits) in
      let first : within_limit (g.script ++ take n out) ≡ g.script = within_limit-more g.script (take n out) (g.counted ∙ full) in
      record {
        script = g.script ++ take n out;
        events = g.events;
        goes = subst (λ es. Goes es (g.script ++ take n out) t0 t1 b0 b1) (append-nil g.events)
            (goes_then g.events [] g.script (take n out) t0 tm t1 b0 bm b1 g.goes (goes_fetched tm t1 bm b1 (take n out) rests keeps later (takes_fetched bm.script b1.script n out f)));
        ended = λ none. subst (λ b. FirstAnswered host0 (g.script ++ take n out) g.events t1 (newlines b)) (sym first)
            (fed_answered host0 g.script g.events host t1 line (fed_rests host0 g.script g.events host tm line (g.fed none) t1 rests) (take n out));
        at_end = λ h. cc;
        long = λ h. more;
        short = λ other. absurd (other refl);
      }

  -- a fetch failed
  pub run_source : StillTold bm.script b1.script → Rests [] tm t1 → KeepsAtFetch bm b1 → bm.source_faults ≤ b1.source_faults → count ≤ limit → ScriptRun t0 t1 b0 b1 host0 line0 Source
  run_source still rests keeps later fits =
      let h = fetched_nothing rests keeps later (takes_none bm.script b1.script still) in
      record {
        script = h.script;
        events = h.events;
        goes = h.goes;
        ended = λ none. subst (λ b. FirstAnswered host0 b h.events t1 (newlines h.script)) (append-nil h.script) (fed_answered host0 h.script h.events host t1 line (h.fed none) []);
        at_end = λ e. cc;
        long = λ e. cc;
        short = λ e. omega (arith, h.counted, fits);
      }

  -- the script came to its end
  pub run_finished : (status : Status) → IsAtEnd bm.script → WorldGoesBy tm t1 bm b1 (λ more. (first : Host) (fed : List ℕ) (added : List Event) → FedSoFar first fed added host tm line → FeedsLast first fed added more t1 (is_done status)) →
      (status ≡ Done) ⊎ (status ≡ Sink) → count ≤ limit → ScriptRun t0 t1 b0 b1 host0 line0 status
  run_finished status end a how fits = record {
    script = g.script;
    events = g.events ++ a.events;
    goes = subst (λ b. Goes (g.events ++ a.events) b t0 t1 b0 b1) (append-nil g.script) (goes_then g.events a.events g.script [] t0 tm t1 b0 bm b1 g.goes a.goes);
    ended = λ none. how_ended how (a.does host0 g.script g.events (g.fed none));
    at_end = λ h. still_at_end bm.script b1.script end a.goes.takes;
    long = λ h. elim how [ inl x ↦ cc | inr x ↦ cc ];
    short = λ h. omega (arith, g.counted, fits);
  }
    where
      how_ended : (status ≡ Done) ⊎ (status ≡ Sink) → FeedsLast host0 g.script g.events a.events t1 (is_done status) → AnsweredBy host0 g.script (g.events ++ a.events) t1 status
      how_ended (inl done) f = subst (λ (x : Status). AnsweredBy host0 g.script (g.events ++ a.events) t1 x) (sym done) (f.done (ap is_done done))
      how_ended (inr sink) f = subst (λ (x : Status). AnsweredBy host0 g.script (g.events ++ a.events) t1 x) (sym sink) (f.failed (ap is_done sink))

-- why a script ended, of which no fetch and no put had failed before its last line
pub script_end : (b0 b1 b2 : Beside) (status : Status) → NoneFailed b0 b1 → ((status ≡ Done) × NoneFailed b1 b2) ⊎ ((status ≡ Sink) × Rose b1.sink_faults b2.sink_faults) → IsScriptEnd b0 b2 status
script_end b0 b1 b2 status first (inl done) = subst (λ (e : Status). IsScriptEnd b0 b2 e) (sym done.0) (unfailed_then b0 b1 b2 first done.1)
script_end b0 b1 b2 status first (inr sink) = subst (λ (e : Status). IsScriptEnd b0 b2 e) (sym sink.0) (subst (λ n. Rose n b2.sink_faults) first.sink sink.1)

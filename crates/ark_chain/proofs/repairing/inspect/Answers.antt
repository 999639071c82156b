use Rattle.std.proofs.Common.{◌≡◌, ◌+◌, ◌-◌, ◌∙◌, ℕ, true, false, Ok, refl, ap, subst, length, arith}
use Rattle.ark_media.specs.Journal.{current}
use Rattle.ark_media.specs.Calls.{Went}
use Rattle.ark_chain.specs.Survey.{reads, IsSurvey}
use Rattle.ark_chain.specs.Repair.{outside, not_zero}
use Rattle.ark_chain.proofs.Looking.{still_told, survey_blocks, image_long}
use Rattle.ark_chain.proofs.repairing.inspect.Goals as goal

pub returns-in-Err-note_outside-clause-went : goal.returns-in-Err-note_outside-clause-went
returns-in-Err-note_outside-clause-went g c =
    let room = c.blocks-room.result - 1 in
    let seen = c.in-Ok.seen in
    let surveyed = c.in-Ok.ensures.went in
    let same : room ≡ surveyed.room = omega (arith, surveyed.ring, c.blocks-room.ensures) in
    record {
      between = c.survey.new.disk;
      surveyed = Ok seen;
      survey = surveyed;
      ok = false;
      behind = subst (λ (r : ℕ). Went g.D.Disk.goes (reads (outside r seen.start seen.used r)) false c.survey.new.disk c.note_outside.new.disk) same c.in-Err-note_outside.ensures.went;
      answer = refl;
    }

pub returns-in-Ok-note_outside-clause-went : goal.returns-in-Ok-note_outside-clause-went
returns-in-Ok-note_outside-clause-went g c =
    let room = c.blocks-room.result - 1 in
    let seen = c.in-Ok.seen in
    let surveyed = c.in-Ok.ensures.went in
    let same : room ≡ surveyed.room = omega (arith, surveyed.ring, c.blocks-room.ensures) in
    record {
      between = c.survey.new.disk;
      surveyed = Ok seen;
      survey = surveyed;
      ok = true;
      behind = subst (λ (r : ℕ). Went g.D.Disk.goes (reads (outside r seen.start seen.used r)) true c.survey.new.disk c.note_outside.new.disk) same c.in-Ok-note_outside.ensures.went;
      answer = refl;
    }

pub returns-in-Ok-note_outside-clause-found : goal.returns-in-Ok-note_outside-clause-found
returns-in-Ok-note_outside-clause-found g c =
    let room = c.blocks-room.result - 1 in
    let seen = c.in-Ok.seen in
    still_told g.D.Disk.goes g.D.Disk.told g.met.D.Disk.goes_told (outside room seen.start seen.used room) true c.survey.new.disk c.note_outside.new.disk c.in-Ok-note_outside.ensures.went
    (IsSurvey c.args.kind (Ok seen) c.survey.new.lengths.items) c.in-Ok.ensures.found

pub returns-in-Ok-note_outside-clause-noted : goal.returns-in-Ok-note_outside-clause-noted
returns-in-Ok-note_outside-clause-noted g c h is =
    let room = c.blocks-room.result - 1 in
    let seen = c.in-Ok.seen in
    let went = c.in-Ok-note_outside.ensures.went in
    let between = c.survey.new.disk in
    let now = c.note_outside.new.disk in
    let ring : room + 1 ≡ (g.D.Disk.told between).blocks = omega (arith, c.blocks-room.ensures, survey_blocks g.D.Disk.goes g.D.Disk.told g.met.D.Disk.goes_told c.args.kind (Ok seen) c.survey.new.lengths.items c.args.disk.now between c.in-Ok.ensures.went, c.requires.two) in
    let long : length (current h.base h.journal) ≡ room + 1 = image_long g.D.Disk.goes g.D.Disk.told g.met.D.Disk.goes_told g.met.D.Disk.size_is (reads (outside room seen.start seen.used room)) true between now went (room + 1) ring h is in
    let same : room ≡ length (current h.base h.journal) - 1 = omega (arith, long) in
    c.in-Ok-note_outside.ensures.noted h is ∙ ap (λ r. not_zero (current h.base h.journal) (outside r seen.start seen.used r)) same

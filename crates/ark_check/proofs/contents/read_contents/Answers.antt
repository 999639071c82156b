use Rattle.std.proofs.Common.{rules, ◌≡◌, ◌∙◌, ◌∷◌, true, false, Ok, Err, ap, subst, refl}
use Rattle.std.specs.Prelude.{map}
use Rattle.std.proofs.lemmas.Bool.{false≢true}
use denote.Enum.Bare.{sameb}
use Rattle.ark_base.specs.declared.kind.Kind.{Kind}
use Rattle.ark_base.specs.declared.kind.Kind.TheVariants.{Raw}
use Rattle.ark_base.specs.contracts.kind.Kind.{the_type}
use Rattle.ark_media.specs.Journal.{current}
use Rattle.ark_extents.specs.Views.{view_image}
use Rattle.ark_chain.specs.declared.surveying.SurveyFault.{SurveyFault}
use Rattle.ark_chain.specs.Survey.{block_at, is_damage, IsAnswer}
use Rattle.ark_check.proofs.Areas.{area_within, area_two, view_surveyed, words_found, words_damaged}
use Rattle.ark_check.proofs.Readings.{goes_reading}
use Rattle.ark_check.proofs.contents.read_contents.Goals as goal

-- a kind that was compared with raw
ordered : (kind : Kind) → false ≡ sameb the_type kind Raw → kind ≡ Raw → ⊥
ordered kind differs is = false≢true (differs ∙ ap (λ (k : Kind). sameb the_type k Raw) is)

pub new-area-requires : goal.new-area-requires
new-area-requires g c = record { inside = area_within (g.D.Disk.told c.args.disk.now).blocks c.args.slot.now c.requires.right }

pub survey-requires-clause-two : goal.survey-requires-clause-two
survey-requires-clause-two g c = rw c.new-area.ensures.spans (area_two (g.D.Disk.told c.args.disk.now).blocks c.args.slot.now c.requires.right (ordered c.args.slot.now.kind c.if-eq.ensures))

pub returns-in-Ok-clause-went : goal.returns-in-Ok-clause-went
returns-in-Ok-clause-went g c =
    let w = c.in-Ok.ensures.went in
    goes_reading g.D.Disk.goes c.new-area.result.spans (0 ∷ map (λ u. block_at w.room w.start u) w.places) _ true w.went.events _ _ _ _ refl (ap (λ b. b.now) c.new-area.ensures.disk) (search rules) w.went.makes w.went.goes_on.2

pub returns-in-Ok-clause-found : goal.returns-in-Ok-clause-found
returns-in-Ok-clause-found g c h told whole =
    let v = c.survey.new.disk in
    words_found c.args.slot.now.kind (ordered c.args.slot.now.kind c.if-eq.ensures) c.in-Ok.seen c.survey.new.lengths.items _
    (view_surveyed c.args.slot.now.kind (Ok c.in-Ok.seen) c.survey.new.lengths.items v.spans c.args.slot.now.spans (g.D.Disk.told v.disk.now) _ (c.in-Ok.ensures.went.went.goes_on.0 ∙ c.new-area.ensures.spans)
    (ap g.D.Disk.told (search rules)) v.placed v.inside (g.met.D.Disk.size_is v.disk.now) c.in-Ok.ensures.found h told whole)

pub returns-in-Err-Damaged-clause-went : goal.returns-in-Err-Damaged-clause-went
returns-in-Err-Damaged-clause-went g c =
    let w = c.in-Err-Damaged.ensures.went in
    goes_reading g.D.Disk.goes c.new-area.result.spans (0 ∷ map (λ u. block_at w.room w.start u) w.places) _ true w.went.events _ _ _ _ (ap is_damage c.in-Err-Damaged.field-0-is) (ap (λ b. b.now) c.new-area.ensures.disk) (search rules) w.went.makes w.went.goes_on.2

pub returns-in-Err-Damaged-clause-found : goal.returns-in-Err-Damaged-clause-found
returns-in-Err-Damaged-clause-found g c h told whole =
    let v = c.survey.new.disk in
    words_damaged c.args.slot.now.kind (ordered c.args.slot.now.kind c.if-eq.ensures) c.in-Err-Damaged.number _
    (subst (λ (fault : SurveyFault). IsAnswer c.args.slot.now.kind (Err fault) c.survey.new.lengths.items (view_image c.args.slot.now.spans (current h.base h.journal))) c.in-Err-Damaged.field-0-is
    (view_surveyed c.args.slot.now.kind (Err c.in-Err-Damaged.field-0) c.survey.new.lengths.items v.spans c.args.slot.now.spans (g.D.Disk.told v.disk.now) _ (c.in-Err-Damaged.ensures.went.went.goes_on.0 ∙ c.new-area.ensures.spans)
    (ap g.D.Disk.told (search rules)) v.placed v.inside (g.met.D.Disk.size_is v.disk.now) c.in-Err-Damaged.ensures.found h told whole))

pub returns-in-Err-DeviceFault-clause-went : goal.returns-in-Err-DeviceFault-clause-went
returns-in-Err-DeviceFault-clause-went g c =
    let w = c.in-Err-DeviceFault.ensures.went in
    goes_reading g.D.Disk.goes c.new-area.result.spans (0 ∷ map (λ u. block_at w.room w.start u) w.places) _ false w.went.events _ _ _ _ (ap is_damage c.in-Err-DeviceFault.field-0-is) (ap (λ b. b.now) c.new-area.ensures.disk) (search rules) w.went.makes w.went.goes_on.2

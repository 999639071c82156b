use Rattle.std.proofs.Common.{◌≡◌, ◌∙◌, ◌<◌, true, ℕ, List, ap, sym, subst, rules, ◌∷◌, [], ◌++◌, All, nat_eq, bytes_eq}
use Rattle.std.specs.Map.{lookup}
use Rattle.std.proofs.lemmas.Bool.{false≢true}
use Rattle.ark_extents.proofs.RunLemmas.{blocks_of-runs_of}
use Rattle.ark_held.specs.Inside.{AreasInside}
use Rattle.ark_held.specs.Words.{AreaList, with_area, new_area_cap}
use Rattle.ark_host.proofs.InDevice.{with_inside}
use Rattle.ark_host.proofs.host.stored.give_slot.Goals as goal

pub returns : goal.returns
returns c =
    let slot = c.args.slot.now in
    let old = c.args.app.now in
    let areas = c.add_area.ensures.areas ∙ ap (λ g. with_area old.areas g (record { kind = slot.kind; slot = c.args.i; spans = slot.spans })) c.from.ensures in
    let own : bytes_eq old.name slot.app ≡ true = search rules in
    record {
      gives = record {
        name = c.add_area.ensures.name;
        region = c.add_area.ensures.region;
        own = λ mine room. (
          c.add_area.ensures.labels ∙ ap (λ g. old.labels ++ (slot.label, new_area_cap g) ∷ []) c.from.ensures,
          areas ∙ ap (λ (bs : List ℕ). with_area old.areas c.args.i (record { kind = slot.kind; slot = c.args.i; spans = bs })) (sym (blocks_of-runs_of slot.spans)),
        );
        other = λ other. absurd (false≢true (sym other ∙ own));
        inside = λ size below inside. subst (λ (xs : AreaList). AreasInside size xs) (sym areas)
            (with_inside size old.areas c.args.i (record { kind = slot.kind; slot = c.args.i; spans = slot.spans }) (lookup (nat_eq c.args.i) old.areas) inside (subst (λ (bs : List ℕ). All (λ n. n < size) bs) (blocks_of-runs_of slot.spans) below));
      };
    }

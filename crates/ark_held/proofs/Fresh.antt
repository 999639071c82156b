-- An application that was just made holds nothing.
use Rattle.std.proofs.Common.{◌≡◌, ℕ, zero, suc, Bool, true, false, List, [], length, replicate, refl, sym, ◌∙◌, ap, subst}
use Rattle.std.specs.Prelude.{Some, None, slice_get, slice_index_or}
use Rattle.std.proofs.lemmas.List.{length-replicate}
use Rattle.ark_machine.specs.Machine.{Held}
use Rattle.ark_held.specs.Words.{Labels, AreaList}
use Rattle.ark_held.specs.Totals.{bit, total, object_covers}
use Rattle.ark_held.specs.Around.{Around, slot_at}
use Rattle.ark_held.specs.Held.{AllMatch, AreDistinctLabels, AreOwn, Holds, area_labels}
use Rattle.ark_held.proofs.Lists.{not_some}

pub all_free : (n j : ℕ) → slice_index_or (replicate n false) j false ≡ false
all_free zero j = refl
all_free (suc n) zero = refl
all_free (suc n) (suc j) = all_free n j

none_own : AreOwn []
none_own = record {
  grants = λ l k c d is. absurd (not_some None c refl is);
  keys = λ l k c d is. absurd (not_some None c refl is);
}

pub holds_none : (x : Around) → x.machine.made ≡ true → x.machine.now ≡ x.now → x.machine.serial ≡ 0 → x.machine.held ≡ [] → x.numbers ≡ [] → x.labels ≡ [] → x.areas ≡ [] → ((l : List ℕ) → slot_at x l ≡ None)
    → x.tables.memory.taken ≡ replicate x.machine.frames false → Holds x
holds_none x made now serial held numbers labels areas slots taken = record {
  made = made;
  now = now;
  serials = ap (λ (l : List ℕ). length l) numbers ∙ sym serial;
  one = subst (λ (n : List ℕ). (i j g : ℕ) → slice_get n i ≡ Some g → slice_get n j ≡ Some g → i ≡ j) (sym numbers) (λ i j g is. absurd (not_some None g refl is));
  held = subst (λ (hs : List Held). AllMatch x x.labels hs) (sym held) (subst (λ (ls : Labels). AllMatch x ls []) (sym labels) tt);
  apart = subst (λ (ls : Labels). AreDistinctLabels ls) (sym labels) tt;
  own = subst (λ (ls : Labels). AreOwn ls) (sym labels) none_own;
  areas = ap (λ (es : AreaList). length es) areas ∙ sym (ap (λ (ls : Labels). length (area_labels ls)) labels);
  unlisted = λ l none. slots l;
  frames = ap (λ (bs : List Bool). length bs) taken ∙ length-replicate x.machine.frames false;
  taken = λ j.
      ap (λ (hs : List Held). total (λ z. object_covers j z.object) hs) held
      ∙ sym (ap (λ (bs : List Bool). bit (slice_index_or bs j false)) taken ∙ ap bit (all_free x.machine.frames j));
}

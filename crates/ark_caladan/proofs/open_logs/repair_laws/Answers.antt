use Rattle.std.proofs.Common.{◌≡◌, ℕ, ◌-◌, [], ◌∷◌, sym, subst, arith}
use Rattle.std.specs.Prelude.{Contains}
use Rattle.ark_base.specs.declared.kind.Kind.{Kind}
use Rattle.ark_media.specs.Standing.{after}
use Rattle.ark_entry.specs.Found.{Found}
use Rattle.ark_caladan.specs.Chain.{lists, stored}
use Rattle.ark_caladan.specs.Listed.{IsFoundIn}
use Rattle.ark_caladan.specs.Open.{IsOpenWith}
use Rattle.ark_caladan.specs.Repairing.{repaired_layout}
use Rattle.ark_caladan.proofs.Commands.{stored_is_listed}
use Rattle.ark_caladan.proofs.Seeing.{places_suffice}
use Rattle.ark_caladan.proofs.Standing.{opens}
use Rattle.ark_caladan.proofs.Repairing.{repair_begins, repair_kept, repair_moved, repair_failed, repair_written, repair_opens}
use Rattle.ark_caladan.proofs.open_logs.repair_laws.Goals as goal

pub returns : goal.returns
returns c = record {
  places = places_suffice;
  begins = repair_begins;
  listed = λ kind room blocks r history done n inside g same is full.
      subst (λ (k : Kind). IsFoundIn k history blocks (stored g) (lists g)) (sym same) (subst (λ (f : Found). IsFoundIn kind history blocks f (lists g)) (sym is)
      (repair_kept kind room blocks r history done n inside (lists g) (subst (λ (f : Found). Contains (lists g) f) is (stored_is_listed g)) full));
  made = repair_moved;
  failed = λ kind room blocks r history done n inside g same is e full lt came.
      subst (λ (k : Kind). IsFoundIn k (after history (e ∷ [])) blocks (stored g) (lists g)) (sym same) (subst (λ (f : Found). IsFoundIn kind (after history (e ∷ [])) blocks f (lists g)) (sym is)
      (repair_failed kind room blocks r history done n inside (lists g) (subst (λ (f : Found). Contains (lists g) f) is (stored_is_listed g)) e full lt came));
  written = repair_written;
  opens = λ kind room blocks r history few inside g o same size is none first undecided.
      let less : room ≡ g.blocks - 1 = omega (arith, size) in
      opens blocks g (repaired_layout r) history o r.list is none first undecided
      (subst (λ (n : ℕ). IsOpenWith g.kind n history blocks (repaired_layout r) r.list [] 0 0) less
      (subst (λ (k : Kind). IsOpenWith k room history blocks (repaired_layout r) r.list [] 0 0) (sym same)
      (repair_opens kind room blocks r history few inside)));
}

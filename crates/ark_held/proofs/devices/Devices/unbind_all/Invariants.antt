use Rattle.std.proofs.Common.{◌≡◌, ℕ, ◌<◌, ◌≤◌}
use Rattle.std.specs.Prelude.{option_map}
use Rattle.ark_objects.specs.Held.{at, held}
use Rattle.ark_held.specs.Rings.{unbound}
use Rattle.ark_held.proofs.devices.Devices.unbind_all.Given as goal

abbrev pub invariant-loop-key : goal.invariant-loop-key
invariant-loop-key l = record {
  before : (k : ℕ) → k < l.key → at l.self.cards k ≡ option_map (unbound l.grant) (at l.initial.self.cards k);
  behind : (k : ℕ) → l.key ≤ k → at l.self.cards k ≡ at l.initial.self.cards k;
  held : held l.self.cards ≡ held l.initial.self.cards;
  doors : l.self.doors ≡ l.initial.self.doors;
  rates : l.self.rates ≡ l.initial.self.rates;
  nets : l.self.nets ≡ l.initial.self.nets;
  frames : l.self.frames ≡ l.initial.self.frames;
}

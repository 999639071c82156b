-- Lines that have their form, and lines that begin with no word of the language.
use Rattle.std.proofs.Common.{◌≡◌, ◌∷◌, [], codes, Some, None, inl, inr, refl, arith}
use Rattle.std.specs.Fmt.{digits}
use Rattle.ark_base.specs.declared.kind.Kind.TheVariants as kind
use Rattle.ark_filters.specs.declared.filter.Direction.TheVariants as direction
use Rattle.ark_filters.specs.declared.filter.Proto.TheVariants as proto
use Rattle.ark_script.specs.declared.step.Side.TheVariants as side
use Rattle.ark_script.specs.Form.{IsForm}
use Rattle.ark_script.specs.Line as w
use Rattle.ark_script.specs.Lists.{peers_are, services_are}
use Rattle.ark_script.specs.Words.{IsKnown, words_of}

pub three_words : words_of (codes "door a d") ≡ codes "door" ∷ codes "a" ∷ codes "d" ∷ []
three_words = refl

-- the empty line is one empty word, and two spaces have an empty word between them
pub no_words : words_of [] ≡ [] ∷ []
no_words = refl

pub empty_word : words_of (codes "door  d") ≡ codes "door" ∷ [] ∷ codes "d" ∷ []
empty_word = refl

pub bare_app : IsForm (w.app (codes "a") None) (codes "app a")
bare_app = (refl, (refl, refl))

pub sized_app : IsForm (w.app (codes "a") (Some 4096)) (codes "app a 4096")
unfolding digits
sized_app = (refl, ((refl, refl), (refl, omega arith, omega arith)))

pub area : IsForm (w.vsa (codes "b_1") (codes "q") 64 kind.Queue) (codes "vsa b_1 q 64 queue")
unfolding digits
area = (refl, ((refl, refl), (refl, refl), (refl, omega arith, omega arith), refl))

pub card : IsForm (w.vnic (codes "a") (codes "v") 2 256) (codes "vnic a v 2 256")
unfolding digits
card = (refl, ((refl, refl), (refl, refl), ((refl, omega arith, omega arith), refl), ((refl, omega arith, omega arith), refl)))

pub no_rate : IsForm (w.pace (codes "a") (codes "v") None side.Io) (codes "pace a v - io")
no_rate = (refl, ((refl, refl), (refl, refl), refl, refl))

pub bytes : IsForm (w.append (codes "a") (codes "l") (222 ∷ 173 ∷ 190 ∷ 239 ∷ [])) (codes "append a l deADbeEF")
bytes = (refl, ((refl, refl), (refl, refl), (refl, refl, refl, omega arith, omega arith)))

pub no_bytes : IsForm (w.push (codes "a") (codes "q") []) (codes "push a q -")
no_bytes = (refl, ((refl, refl), (refl, refl), refl))

pub own : IsForm (w.nic (record { mac = 2 ∷ 0 ∷ 0 ∷ 0 ∷ 0 ∷ 1 ∷ []; ip = 10 ∷ 0 ∷ 0 ∷ 1 ∷ []; gateway = 2 ∷ 0 ∷ 0 ∷ 0 ∷ 0 ∷ 255 ∷ [] })) (codes "nic 020000000001 10.0.0.1 0200000000FF")
unfolding digits
own = (
  refl,
  (
    (refl, refl, refl, omega arith, omega arith),
    ((refl, omega arith, omega arith), (refl, omega arith, omega arith), (refl, omega arith, omega arith), (refl, omega arith, omega arith)),
    (refl, refl, refl, omega arith, omega arith),
  ),
)

pub listener : IsForm
    (w.filter (codes "a") (codes "f") (record {
      direction = direction.Rx;
      proto = proto.Udp;
      peers = peers_are [];
      services = services_are ((53, 53) ∷ (8000, 8080) ∷ []);
    }))
    (codes "filter a f rx udp * 53,8000-8080")
unfolding digits
listener = (
  refl,
  (
    (refl, refl),
    (refl, refl),
    refl,
    refl,
    inl (refl, refl),
    inr ((53, 53) ∷ (8000, 8080) ∷ [], (((refl, omega arith, omega arith), refl), (((refl, omega arith, omega arith), (refl, omega arith, omega arith)), tt)), omega arith, refl),
  ),
)

pub known : IsKnown (codes "use 1 2 3")
known = refl

pub unknown : IsKnown (codes "App a") → ⊥
unknown h = cc

-- Each word of a choice is read just where it stands.
use Rattle.std.proofs.Common.{◌≡◌, ℕ, List, codes, Some, refl, subst, inl, inr}
use Rattle.ark_base.specs.declared.kind.Kind.{Kind}
use Rattle.ark_base.specs.declared.kind.Kind.TheVariants as kind
use Rattle.ark_filters.specs.declared.filter.Direction.{Direction}
use Rattle.ark_filters.specs.declared.filter.Direction.TheVariants as direction
use Rattle.ark_filters.specs.declared.filter.Proto.{Proto}
use Rattle.ark_filters.specs.declared.filter.Proto.TheVariants as proto
use Rattle.ark_script.specs.declared.step.Side.{Side}
use Rattle.ark_script.specs.declared.step.Side.TheVariants as side
use Rattle.ark_script.specs.Arguments.{IsKind, IsSide, IsDirection, IsProto}
use Rattle.ark_forms.specs.Reading.{kind_of, side_of, direction_of, proto_of}
use Rattle.ark_forms.proofs.Arguing.{chosen}
use Rattle.ark_forms.proofs.Readers.{Reads}

pub kind_reads : Reads kind_of IsKind
unfolding kind_of
kind_reads = record { sound = sound; complete = complete }
  where
    sound : (word : List ℕ) (x : Kind) → kind_of word ≡ Some x → IsKind x word
    sound word x h =
        elim (chosen word (codes "raw") kind.Raw x _ h) [
          | inl is ↦ subst (λ (y : Kind). IsKind y word) is.1 is.0
          | inr more ↦
              elim (chosen word (codes "log") kind.Log x _ more.1) [
                | inl is ↦ subst (λ (y : Kind). IsKind y word) is.1 is.0
                | inr more ↦
                    elim (chosen word (codes "queue") kind.Queue x _ more.1) [
                      | inl is ↦ subst (λ (y : Kind). IsKind y word) is.1 is.0
                      | inr more ↦ cc (more.1)
                    ]
              ]
        ]

    complete : (word : List ℕ) (x : Kind) → IsKind x word → kind_of word ≡ Some x
    complete word kind.Raw h = rw h refl
    complete word kind.Log h = rw h refl
    complete word kind.Queue h = rw h refl

pub side_reads : Reads side_of IsSide
unfolding side_of
side_reads = record { sound = sound; complete = complete }
  where
    sound : (word : List ℕ) (x : Side) → side_of word ≡ Some x → IsSide x word
    sound word x h =
        elim (chosen word (codes "rx") side.Rx x _ h) [
          | inl is ↦ subst (λ (y : Side). IsSide y word) is.1 is.0
          | inr more ↦
              elim (chosen word (codes "tx") side.Tx x _ more.1) [
                | inl is ↦ subst (λ (y : Side). IsSide y word) is.1 is.0
                | inr more ↦
                    elim (chosen word (codes "io") side.Io x _ more.1) [
                      | inl is ↦ subst (λ (y : Side). IsSide y word) is.1 is.0
                      | inr more ↦ cc (more.1)
                    ]
              ]
        ]

    complete : (word : List ℕ) (x : Side) → IsSide x word → side_of word ≡ Some x
    complete word side.Rx h = rw h refl
    complete word side.Tx h = rw h refl
    complete word side.Io h = rw h refl

pub direction_reads : Reads direction_of IsDirection
unfolding direction_of
direction_reads = record { sound = sound; complete = complete }
  where
    sound : (word : List ℕ) (x : Direction) → direction_of word ≡ Some x → IsDirection x word
    sound word x h =
        elim (chosen word (codes "rx") direction.Rx x _ h) [
          | inl is ↦ subst (λ (y : Direction). IsDirection y word) is.1 is.0
          | inr more ↦
              elim (chosen word (codes "tx") direction.Tx x _ more.1) [
                | inl is ↦ subst (λ (y : Direction). IsDirection y word) is.1 is.0
                | inr more ↦ cc (more.1)
              ]
        ]

    complete : (word : List ℕ) (x : Direction) → IsDirection x word → direction_of word ≡ Some x
    complete word direction.Rx h = rw h refl
    complete word direction.Tx h = rw h refl

pub proto_reads : Reads proto_of IsProto
unfolding proto_of
proto_reads = record { sound = sound; complete = complete }
  where
    sound : (word : List ℕ) (x : Proto) → proto_of word ≡ Some x → IsProto x word
    sound word x h =
        elim (chosen word (codes "eth") proto.Eth x _ h) [
          | inl is ↦ subst (λ (y : Proto). IsProto y word) is.1 is.0
          | inr more ↦
              elim (chosen word (codes "ip") proto.Ip x _ more.1) [
                | inl is ↦ subst (λ (y : Proto). IsProto y word) is.1 is.0
                | inr more ↦
                    elim (chosen word (codes "udp") proto.Udp x _ more.1) [
                      | inl is ↦ subst (λ (y : Proto). IsProto y word) is.1 is.0
                      | inr more ↦
                          elim (chosen word (codes "tcp") proto.Tcp x _ more.1) [
                            | inl is ↦ subst (λ (y : Proto). IsProto y word) is.1 is.0
                            | inr more ↦ cc (more.1)
                          ]
                    ]
              ]
        ]

    complete : (word : List ℕ) (x : Proto) → IsProto x word → proto_of word ≡ Some x
    complete word proto.Eth h = rw h refl
    complete word proto.Ip h = rw h refl
    complete word proto.Udp h = rw h refl
    complete word proto.Tcp h = rw h refl

-- The frames that a card may send.
use Rattle.std.specs.Prelude.{◌≡◌, ℕ, true, List, Some, Contains}
use Rattle.ark_packet.specs.declared.own.Own.{Own}
use Rattle.ark_filters.specs.In.{is_in}
use Rattle.ark_filters.specs.declared.filter.Direction.TheVariants as direction
use Rattle.ark_filters.specs.declared.live.Live.{Live}
use Rattle.ark_region.specs.Frames.{Space}
use Rattle.ark_vic.specs.declared.descriptor.Descriptor.{Descriptor}
use Rattle.ark_vnic.specs.Card.{NetCard, head_of}
use Rattle.ark_vnic.specs.Sending.{frame_in}

-- a frame of so many bytes is the oldest posted one, and a live transmit filter that is assigned to the card matches it
pub record IsLetOut (card : NetCard) (rules : List Live) (own : Own) (space : Space) (len : ℕ) : Type 0 where
  pub head : Descriptor
  pub oldest : head_of card.tx ≡ Some head
  pub whole : head.len ≡ len
  pub live : Live
  pub among : Contains rules live
  pub assigned : live.vnic ≡ Some card.grant
  pub transmits : live.filter.direction ≡ direction.Tx
  pub matching : is_in live.filter (frame_in head space) own ≡ true

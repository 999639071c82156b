-- The move of a network card: what becomes of its oldest frame to be sent.
use Rattle.std.specs.Prelude.{ℕ, ◌+◌, ◌≤◌, Bool, nat_lt, nat_le, List, [], ◌++◌, take, drop, if◌then◌else◌, Option, Some, None, option_map, unwrap_or, MatchOption}
use Rattle.std.specs.List.{list_any}
use Rattle.ark_base.specs.declared.kind.Outcome.TheVariants as outcome
use Rattle.ark_packet.specs.declared.own.Own.{Own}
use Rattle.ark_filters.specs.In.{is_in}
use Rattle.ark_filters.specs.Rules.{sends}
use Rattle.ark_filters.specs.declared.live.Live.{Live}
use Rattle.ark_region.specs.Frames.{Space, LiesInRegion, bytes_of}
use Rattle.ark_vic.specs.Pace.{Pace, fill_at}
use Rattle.ark_vic.specs.Queue.{Queue}
use Rattle.ark_vic.specs.declared.descriptor.Descriptor.{Descriptor}
use Rattle.ark_vnic.specs.Card.{NetCard, head_of, ended, passed}
use Rattle.ark_vnic.specs.declared.sent.Sent.{Sent}
use Rattle.ark_vnic.specs.declared.sent.Sent.TheVariants as sent

-- the frame that a descriptor posts: the first bytes of its buffer
abbrev pub frame_in : Descriptor → Space → List ℕ
frame_in d space = unwrap_or (option_map (λ b. take d.len (bytes_of space b)) d.buf) []

-- a frame of 14 to 1,514 bytes in a buffer of the region
pub record HasFrame (taken : List Bool) (d : Descriptor) : Type 0 where
  pub at_least : 14 ≤ d.len
  pub at_most : d.len ≤ 1514
  pub inside : MatchOption d.buf ⊥ (λ b. LiesInRegion taken b × (d.len ≤ b.len))

-- a transmit filter that is assigned to the card of this grant lets the frame out
abbrev pub is_let_out : ℕ → List Live → Own → List ℕ → Bool
is_let_out grant rules own frame = list_any (sends (λ f. is_in f frame own) grant) rules

-- what becomes of a frame of so many bytes by what paces it
abbrev pub sent_paced : Option Pace → ℕ → ℕ → Sent
sent_paced None len now = sent.Frame len
sent_paced (Some p) len now =
    if nat_lt p.burst len then sent.OverBurst
    else if nat_le (fill_at p now + len) p.burst then sent.Frame len
    else sent.Held

abbrev pub sent_for : Option Descriptor → NetCard → List Live → Own → Space → ℕ → Sent
sent_for None card rules own space now = sent.Idle
sent_for (Some d) card rules own space now =
    if is_let_out card.grant rules own (frame_in d space) then sent_paced card.tx_pace d.len now
    else sent.NoFilter

-- what becomes of the oldest posted frame at a tick
abbrev pub sent_of : NetCard → List Live → Own → Space → ℕ → Sent
sent_of card rules own space now = sent_for (head_of card.tx) card rules own space now

abbrev pub frame_length : Option Descriptor → ℕ
frame_length None = 0
frame_length (Some d) = d.len

-- the transmit ring afterwards
abbrev pub tx_after : Queue → Sent → Queue
tx_after q sent.Idle = q
tx_after q sent.Held = q
tx_after q sent.NoFilter = ended q (head_of q) outcome.NoFilter (frame_length (head_of q))
tx_after q sent.OverBurst = ended q (head_of q) outcome.OverBurst (frame_length (head_of q))
tx_after q (sent.Frame len) = ended q (head_of q) outcome.Ok len

-- what paces it afterwards: a frame that goes out passes its bytes
abbrev pub pace_after : Option Pace → Sent → ℕ → Option Pace
pace_after pace (sent.Frame len) now = passed pace len now
pace_after pace _ now = pace

abbrev pub after_sending : NetCard → Sent → ℕ → NetCard
after_sending card x now = record card { tx = tx_after card.tx x; tx_pace = pace_after card.tx_pace x now }

abbrev pub shown_of : Option Descriptor → Sent → Space → List ℕ → List ℕ
shown_of (Some d) (sent.Frame len) space out = frame_in d space ++ drop len out
shown_of _ _ space out = out

-- the bytes shown afterwards: the frame that went out, before the rest as it was
abbrev pub out_after : NetCard → Sent → Space → List ℕ → List ℕ
out_after card x space out = shown_of (head_of card.tx) x space out

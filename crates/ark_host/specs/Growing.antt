-- What the word `grow` says before any device call, and what it then has.
use Rattle.std.specs.Prelude.{◌≡◌, ℕ, ◌≤◌, ◌++◌, false, List, [], length, take, Some, Ok, bytes_eq, position, get_or}
use Rattle.ark_base.specs.declared.refusal.Refusal.{Refusal}
use Rattle.ark_media.specs.Journal.{Event, History}
use Rattle.ark_table.specs.Using.{MayJoin}
use Rattle.ark_script.specs.Line as w
use Rattle.ark_script.specs.declared.said.Said.{Said}
use Rattle.ark_script.specs.declared.said.Said.TheVariants as said
use Rattle.ark_machine.specs.Row.{Row, says}
use Rattle.ark_machine.specs.Areas as areas
use Rattle.ark_machine.specs.System.{System, machine_of}
use Rattle.ark_held.specs.Words.{grant_at}
use Rattle.ark_held.specs.declared.app.App.{App}
use Rattle.ark_host.specs.Stands.{Stands, given_of}
use Rattle.ark_host.specs.declared.host.Host.{Host}
use Rattle.ark_host.specs.declared.host.grow.Growth.{Growth}

abbrev pub grow_row : System → List ℕ → List ℕ → ℕ → List Event → Said → Row
grow_row s a l n es reply = areas.grow (machine_of s a) l n (given_of s (w.grow a l n) es reply)

-- whatever system the host stands for, the area is refused more blocks so before any device call
abbrev pub IsGrowRefused : Host → List ℕ → List ℕ → ℕ → Refusal → Type 0
IsGrowRefused host a l n e = (size : ℕ) (h : History) (s : System) → Stands host size h s → grow_row s a l n [] (said.Refused e) ≡ says (machine_of s a) (said.Refused e)

-- The application at its place has a raw area under the label, and so many free blocks may stand behind those of its slot.
pub record MayGrow (host : Host) (a l : List ℕ) (n : ℕ) (g : Growth) : Type 0 where
  pub place : position (λ app. bytes_eq a app.name) host.apps.items ≡ Some g.place
  pub area : (app : App) → get_or host.apps.items g.place app ≡ app → grant_at app.labels app.areas l ≡ Ok (g.grant, g.area)
  pub settled : host.plane.failed ≡ false
  pub space : n ≤ length host.plane.free
  pub more : g.more ≡ take n host.plane.free
  pub joins : MayJoin host.plane.table g.area.slot g.more
  pub spans : g.spans ≡ g.area.spans ++ g.more

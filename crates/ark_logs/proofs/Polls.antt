-- The row of `poll`.
use Rattle.std.proofs.Common.{◌≡◌, ℕ, true, false, not, List, [], ◌∷◌, length, refl, sym, ◌∙◌, ap}
use Rattle.std.specs.Prelude.{Option, Some, None, Ok, Err, is_none, option_and_then, option_map}
use Rattle.ark_base.specs.Conditions.{Conditions, none}
use Rattle.ark_base.specs.declared.kind.Kind.{Kind}
use Rattle.ark_base.specs.declared.refusal.Refusal.{Refusal}
use Rattle.ark_base.specs.declared.refusal.Refusal.TheVariants as r
use Rattle.ark_media.specs.Calls.{Told}
use Rattle.ark_script.specs.declared.said.Said.TheVariants as said
use Rattle.ark_caladan.specs.Chain.{Log, Opened}
use Rattle.ark_log.specs.declared.polling.Polled.{Polled}
use Rattle.ark_log.specs.Open.{OpenChain}
use Rattle.ark_machine.specs.Objects
use Rattle.ark_machine.specs.Objects.{as_log}
use Rattle.ark_machine.specs.Machine.{Machine, Held, at, log_at, missing}
use Rattle.ark_machine.specs.Logs.{has_failed, opened_of}
use Rattle.ark_machine.specs.Polls as rows
use Rattle.ark_machine.specs.Row.{Row, Given, answer, says}
use Rattle.ark_held.specs.Held.{Holds}
use Rattle.ark_held.specs.Closing.{OfLogAt}
use Rattle.ark_held.specs.Polling.{HasPolledOn}
use Rattle.ark_held.specs.Beyond.{Beyond, around}
use Rattle.ark_held.specs.Does.{Acts}
use Rattle.ark_held.specs.declared.app.App.{App}
use Rattle.ark_held.specs.declared.card.StorageCard.{StorageCard}
use Rattle.ark_held.proofs.Doing.{comes, never, refuses}
use Rattle.ark_held.proofs.Lists.{not_some, some_same}
use Rattle.ark_logs.specs.Finds.{open_under}
use Rattle.ark_logs.specs.Polling.{chain_on, said_by, shown_by}
use Rattle.ark_logs.specs.declared.finding.OpenAt.{OpenAt}
use Rattle.ark_logs.proofs.OfLogs.{FoundOpen, HasNone, found_open}
use Rattle.ark_logs.proofs.PolledLogs.{polled_comes}

-- The row, where the log is open.

module _ (m : Machine) (s : List ℕ) (h : Held) (log : Log) (o : Opened) (made : m.made ≡ true) (there : at m s ≡ Some h) (object : h.object ≡ Objects.log log) (is_open : log.opened ≡ Some o) where
  abbrev asked : Conditions
  asked = record none { no_application = not m.made; no_grant = missing m (s ∷ []); wrong_kind = is_none (opened_of (log_at m s)); log_failed = has_failed (opened_of (log_at m s)) }

  failed_row : (row : Row) → o.failed ≡ true → answer m asked row ≡ says m (said.Refused r.LogFailed)
  unfolding answer
  failed_row row failed = rw (made, there, object, is_open, failed) refl

  open_row : (row : Row) → o.failed ≡ false → answer m asked row ≡ row
  unfolding answer
  open_row row going = rw (made, there, object, is_open, going) refl

-- The word.

module _ (t : Told) (app : App) (s : List ℕ) where
  abbrev row : Machine → Given → Row
  row m g = rows.poll m s g

  none_there : (y : Beyond) (g : Given) (e : Refusal) → y.machine.made ≡ true → HasNone (around y app) s e → row y.machine g ≡ says y.machine (said.Refused e)
  unfolding answer
  none_there y g (r.NoGrant k) made f = rw (f.0, made, f.1) refl
  none_there y g r.WrongKind made f =
      let h = f.0 in
      let shut : opened_of (as_log h.object) ≡ None = ap (λ (z : Option Held). opened_of (option_and_then as_log (option_map (λ y. y.object) z))) (sym f.1) ∙ f.2 in
      rw (made, f.1, shut) refl
  none_there y g _ made f = absurd f

  pub not_open : (e : Refusal) → Err e ≡ open_under app.labels app.devices.cards s → Acts t app app row [] (said.Refused e) []
  not_open e is = refuses t app row e (λ y g sited h. none_there y g e h.made (found_open y app h s (Err e) is))

  module _ (a : OpenAt) (is : Ok a ≡ open_under app.labels app.devices.cards s) where
    abbrev its : (y : Beyond) → Holds (around y app) → FoundOpen (around y app) app.devices.cards s a
    its y h = found_open y app h s (Ok a) is

    its_chain : (y : Beyond) (h : Holds (around y app)) → chain_on app.devices.cards a.key ≡ Some (its y h).chain
    its_chain y h = let f = its y h in ap (λ (o : Option StorageCard). option_and_then (λ c. c.log) o) f.here ∙ f.its_log

    -- an open log has its card
    pub no_chain : chain_on app.devices.cards a.key ≡ None → Acts t app app row [] (said.Refused r.WrongKind) []
    no_chain none = never t app app row (said.Refused r.WrongKind) [] (λ y h. not_some (chain_on app.devices.cards a.key) (its y h).chain none (its_chain y h))

    module _ (v : OpenChain) (has : chain_on app.devices.cards a.key ≡ Some v) where
      same : (y : Beyond) (h : Holds (around y app)) → (its y h).chain ≡ v
      same y h = some_same (chain_on app.devices.cards a.key) (its y h).chain v (its_chain y h) has

      pub is_failed : v.failed ≡ true → Acts t app app row [] (said.Refused r.LogFailed) []
      is_failed failed = refuses t app row r.LogFailed (λ y g sited h.
          let f = its y h in
          failed_row y.machine s f.both.held_log f.both.log f.opened h.made f.both.there_log f.both.object_log f.is_open (rows.polled y.machine s).row
          (sym f.runs.is.failed ∙ ap (λ (u : OpenChain). u.failed) (same y h) ∙ failed))

      pub poll_done : v.failed ≡ false → (app1 : App) (given out : List ℕ) (result : Polled) → OfLogAt app.devices.cards a.key (λ one u. HasPolledOn app.devices.cards app1.devices.cards a.key one u app.store.region app1.store.region given out result)
          → length app1.store.region.taken ≡ length app.store.region.taken → app1.store.buffers ≡ app.store.buffers → app1.labels ≡ app.labels → app1.areas ≡ app.areas → app1.devices.doors ≡ app.devices.doors → app1.devices.rates ≡ app.devices.rates → app1.devices.nets ≡ app.devices.nets → app1.name ≡ app.name
          → Acts t app app1 row [] (said_by v.kind result) (shown_by result out)
      poll_done going app1 given out result polled frames buffers labels areas doors rates nets name = comes t app app1 row (said_by v.kind result) (shown_by result out) areas name (λ y g sited h.
          let f = its y h in
          let kind : f.both.log.kind ≡ v.kind = sym f.runs.is.kind ∙ ap (λ (u : OpenChain). u.kind) (same y h) in
          let still : f.chain.failed ≡ false = ap (λ (u : OpenChain). u.failed) (same y h) ∙ going in
          let q = polled f.one f.chain f.here f.its_log in
          let c = polled_comes y app s a h f app1 given out result q frames buffers labels areas doors rates nets still in (
            c.machine,
            open_row y.machine s f.both.held_log f.both.log f.opened h.made f.both.there_log f.both.object_log f.is_open (rows.polled y.machine s).row (sym f.runs.is.failed ∙ still)
                ∙ c.is_row
                ∙ ap (λ (k : Kind). record { machine = c.machine; said = said_by k result; bytes = shown_by result out; calls = [] }) kind,
            c.holds,
          ))

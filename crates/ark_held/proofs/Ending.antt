-- A storage card after a move: its oldest descriptor has moved on, or has ended and rung.
use Rattle.std.proofs.Common.{◌≡◌, ℕ, ◌+◌, true, false, cond, List, [], ◌∷◌, ◌++◌, drop, map, refl, sym, ◌∙◌, ap, subst, arith, bytes_eq}
use Rattle.std.specs.Prelude.{Option, Some, None, is_some, find, slice_get}
use Rattle.ark_base.specs.declared.kind.Outcome.{Outcome}
use Rattle.ark_caps.specs.Labels.{value_at}
use Rattle.ark_caps.specs.declared.capability.Capability.{Capability}
use Rattle.ark_caps.specs.declared.capability.CapKind.TheVariants as cap_kind
use Rattle.ark_vic.specs.Queue.{finished, completion_of}
use Rattle.ark_vic.specs.declared.descriptor.Descriptor.{Descriptor}
use Rattle.ark_vic.specs.declared.descriptor.Completion.{Completion}
use Rattle.ark_vic.specs.declared.door.Bell.TheVariants as bell
use Rattle.ark_vic.specs.declared.door.Counts.{Counts}
use Rattle.ark_caladan.specs.Chain.{Phase}
use Rattle.ark_log.specs.Open.{OpenChain}
use Rattle.ark_machine.specs.Objects
use Rattle.ark_machine.specs.Objects.{Object, Vsic, Job, Paced, transfer, flush, phase}
use Rattle.ark_machine.specs.Machine.{Machine, Held, at, holding, with_object}
use Rattle.ark_machine.specs.Buffers.{job_has}
use Rattle.ark_machine.specs.Moves.{ending, block_moved, block_passed}
use Rattle.ark_machine.specs.Rates.{rung}
use Rattle.ark_held.specs.Words.{Labels}
use Rattle.ark_held.specs.Totals.{bit, total, uses, vsic_uses, open_count}
use Rattle.ark_held.specs.Kept.{CardKept, PaceKept}
use Rattle.ark_held.specs.Around.{Around, Each, Both}
use Rattle.ark_held.specs.Cards.{HasPhases, IsCard, IsJob, IsPhase, IsEnded, IsPaced, IsWatched}
use Rattle.ark_held.specs.Held.{IsObjectOf, AllMatch, AreDistinctLabels, Holds}
use Rattle.ark_held.specs.Keeps.{IsOpenOn, StaysOpen, Keeps, Within, JobWithin, any_label, any_piece}
use Rattle.ark_held.specs.Ringing.{Sets, Rings}
use Rattle.ark_held.proofs.Lists.{by_test, same_name, some_same, total_last, each_kept}
use Rattle.ark_held.proofs.Changing.{put_at, none_put}
use Rattle.ark_held.proofs.Creating.{but}
use Rattle.ark_held.proofs.Devising.{with_devices, card_keeps, card_set, open_same}
use Rattle.ark_held.proofs.Finding.{its_own, stands_at}
use Rattle.ark_held.proofs.Opens.{none_open, shut_phases, stays_same}
use Rattle.ark_held.proofs.Keeping.{job_kept, ended_kept, paced_kept, watched_kept}
use Rattle.ark_held.proofs.Rung.{rung_holds}
use Rattle.ark_held.proofs.Staying.{within}

-- a kept card stands for a machine's card under a label
pub record StandsFor (x : Around) (v : List ℕ) (k : CardKept) (card : Vsic) : Type 0 where
  pub size : card.size ≡ k.ring.size
  pub posted : Each (IsJob x k.log) k.ring.posted card.queue.posted
  pub unreaped : Each (IsEnded x k.log) k.ring.unreaped card.queue.unreaped
  pub moved : card.queue.moved ≡ k.ring.moved
  pub bound : Each (λ g s. slice_get x.numbers s ≡ Some g) k.bound card.bound
  pub pace : Both (IsPaced x) k.pace card.pace
  pub door : Both (IsWatched x) k.door card.door
  pub log : bit (is_some k.log) ≡ open_count x.machine v
  pub phases : HasPhases k.log card.queue.posted card.queue.unreaped

-- the card under a label, kept and held
pub record OnCard (x : Around) (v : List ℕ) (c : Capability) (k : CardKept) (card : Vsic) : Type 0 where
  pub holds : Holds x
  pub named : value_at x.labels v ≡ Some c
  pub kind : c.kind ≡ cap_kind.Vsic
  pub held : Held
  pub there : at x.machine v ≡ Some held
  pub object : held.object ≡ Objects.vsic card
  pub was : x.tables.cards c.key ≡ Some k
  pub fits : StandsFor x v k card

stands_for : (x : Around) (v : List ℕ) (c : Capability) (card : Vsic) (f : IsCard x v c card) → StandsFor x v f.card card
stands_for x v c card f = record { size = f.size; posted = f.posted; unreaped = f.unreaped; moved = f.moved; bound = f.bound; pace = f.pace; door = f.door; log = f.log; phases = f.phases }

pub on_card : (x : Around) (v : List ℕ) (c : Capability) (k : CardKept) (card : Vsic) (held : Held) → Holds x → value_at x.labels v ≡ Some c → c.kind ≡ cap_kind.Vsic → at x.machine v ≡ Some held → held.object ≡ Objects.vsic card → x.tables.cards c.key ≡ Some k
    → OnCard x v c k card
on_card x v c k card held h named kind there object was =
    let s = stands_at x v c h named in
    let same : s.held ≡ held = some_same (at x.machine v) s.held held s.there there in
    let f : IsCard x v c card = subst (λ (o : Object). IsObjectOf x v c o) (ap (λ (z : Held). z.object) same ∙ object) s.matches.object in record {
      holds = h;
      named = named;
      kind = kind;
      held = held;
      there = there;
      object = object;
      was = was;
      fits = subst (λ (z : CardKept). StandsFor x v z card) (some_same (x.tables.cards c.key) f.card k f.kept was) (stands_for x v c card f);
    }

-- The card.

module _ (x : Around) (v : List ℕ) (c : Capability) (k : CardKept) (card : Vsic) (on : OnCard x v c k card) where
  -- what an object is set to that it was changes nothing
  put_same : (o : Object) (g : Held) (ps : Labels) (hs : List Held) → AreDistinctLabels ps → AllMatch x ps hs → find (λ z. bytes_eq v z.label) hs ≡ Some g → g.object ≡ o → map (put_at v o) hs ≡ hs
  put_same o g [] [] apart all is same = refl
  put_same o g (p ∷ ps) (h ∷ hs) apart all is same =
      by_test (λ t. bytes_eq v p.0 ≡ t → cond (bytes_eq v h.label) (holding o h) h ∷ map (put_at v o) hs ≡ h ∷ hs) (bytes_eq v p.0)
      (λ yes q.
      let its : h ≡ g = its_own x v p ps h g hs all.0 q is in
      let here : bytes_eq v h.label ≡ true = ap (λ l. bytes_eq v l) all.0.label ∙ q in
      ap (λ b. cond b (holding o h) h ∷ map (put_at v o) hs) here
      ∙ ap (λ (z : Object). holding z h ∷ map (put_at v o) hs) (sym same ∙ ap (λ (z : Held). z.object) (sym its))
      ∙ ap (λ (zs : List Held). h ∷ zs) (none_put x v o ps hs all.1 (ap (λ l. value_at ps l) (same_name v p.0 q) ∙ apart.0)))
      (λ no q.
      let there : bytes_eq v h.label ≡ false = ap (λ l. bytes_eq v l) all.0.label ∙ q in
      ap (λ b. cond b (holding o h) h ∷ map (put_at v o) hs) there
      ∙ ap (λ (zs : List Held). h ∷ zs) (put_same o g ps hs apart.1 all.1 (sym (ap (λ b. cond b (Some h) (find (λ z. bytes_eq v z.label) hs)) there) ∙ is) same)) refl
  put_same o g [] (h ∷ hs) apart all is same = absurd all
  put_same o g (p ∷ ps) [] apart all is same = absurd all

  same_machine : with_object x.machine v (Objects.vsic card) ≡ x.machine
  same_machine = ap (λ (hs : List Held). record x.machine { held = hs }) (put_same (Objects.vsic card) on.held x.labels x.machine.held on.holds.apart on.holds.held on.there on.object)

  module _ (new : Vsic) (now : CardKept) (cards : ℕ → Option CardKept) (sets : Sets c.key now x.tables.cards cards) (stays : (grant : ℕ) → IsOpenOn grant k → StaysOpen grant k (Some now)) (used : (l : List ℕ) → uses l (Objects.vsic new) ≡ uses l (Objects.vsic card))
      (fits : StandsFor x v now new) where
    abbrev y : Around
    y = with_devices x cards x.tables.doors (with_object x.machine v (Objects.vsic new))

    keeps : Keeps (but v) any_label any_piece x y
    keeps = card_keeps x on.holds v c on.named on.kind on.held on.there card new on.object cards k now on.was sets stays used

    fits_then : IsCard y v c new
    fits_then =
        let w : Within any_label any_piece (Objects.vsic new) = within (Objects.vsic new) in record {
          its_kind = on.kind;
          card = now;
          kept = sets.here;
          size = fits.size;
          posted = each_kept (IsJob x now.log) (IsJob y now.log) (JobWithin any_label any_piece) (job_kept (but v) any_label any_piece x y keeps now.log) now.ring.posted new.queue.posted w.0 fits.posted;
          unreaped = each_kept (IsEnded x now.log) (IsEnded y now.log) (λ u. JobWithin any_label any_piece u.0) (ended_kept (but v) any_label any_piece x y keeps now.log) now.ring.unreaped new.queue.unreaped w.1 fits.unreaped;
          moved = fits.moved;
          bound = fits.bound;
          pace = paced_kept (but v) any_label any_piece x y keeps now.pace new.pace w.2 fits.pace;
          door = watched_kept (but v) any_label any_piece x y keeps now.door new.door w.3 fits.door;
          log = fits.log ∙ sym (open_same x on.holds v c on.named on.kind on.held on.there card new on.object cards k now on.was sets stays used);
          phases = fits.phases;
        }

    pub card_holds : Holds y
    card_holds = card_set x on.holds v c on.named on.kind on.held on.there card new on.object cards k now on.was sets stays used fits_then

    pub card_watched : Both (IsWatched x) now.door new.door → Both (IsWatched y) now.door new.door
    card_watched watched = watched_kept (but v) any_label any_piece x y keeps now.door new.door (within (Objects.vsic new)).3 watched

  -- a card that did not move
  pub stays : (cards : ℕ → Option CardKept) → Sets c.key k x.tables.cards cards → Holds (with_devices x cards x.tables.doors x.machine)
  stays cards sets = subst (λ (m : Machine). Holds (with_devices x cards x.tables.doors m)) same_machine (card_holds card k cards sets (λ grant on_it. stays_same grant k (Some k) (Some k) refl refl) (λ l. refl) on.fits)

  -- a block more has moved
  pub moves_on : k.log ≡ None → (paced : Option PaceKept) (pace : Option Paced) → Both (IsPaced x) paced pace → (cards : ℕ → Option CardKept) → Sets c.key (record k { ring = record k.ring { moved = k.ring.moved + 1 }; pace = paced }) x.tables.cards cards
      → Holds (with_devices x cards x.tables.doors (with_object x.machine v (Objects.vsic (block_moved pace card))))
  moves_on none paced pace both cards sets = card_holds (block_moved pace card) (record k { ring = record k.ring { moved = k.ring.moved + 1 }; pace = paced }) cards sets
      (λ grant on_it. none_open grant k (Some (record k { ring = record k.ring { moved = k.ring.moved + 1 }; pace = paced })) none on_it) (λ l. refl) (record {
        size = on.fits.size;
        posted = on.fits.posted;
        unreaped = on.fits.unreaped;
        moved = ap (λ n. n + 1) on.fits.moved;
        bound = on.fits.bound;
        pace = both;
        door = on.fits.door;
        log = on.fits.log;
        phases = on.fits.phases;
      })

  -- The oldest descriptor has ended.
  module _ (d : Descriptor) (ds : List Descriptor) (j : Job) (js : List Job) (posted : k.ring.posted ≡ d ∷ ds) (jobs : card.queue.posted ≡ j ∷ js) (o : Outcome) where
    pub its_jobs : Each (IsJob x k.log) (d ∷ ds) (j ∷ js)
    its_jobs = subst (λ (zs : List Job). Each (IsJob x k.log) (d ∷ ds) zs) jobs (subst (λ (zs : List Descriptor). Each (IsJob x k.log) zs card.queue.posted) posted on.fits.posted)

    ended_one : (i : Job) → IsJob x k.log d i → IsEnded x k.log (completion_of d o 0) (i, o)
    ended_one (transfer t) is = (refl, is.does, is.buffer)
    ended_one flush is = (refl, is.0, is.1)
    ended_one (phase p) is = (refl, its_log k.log p is)
      where
        its_log : (log : Option OpenChain) (q : Phase) → IsPhase log q d → is_some log ≡ true
        its_log None q is = absurd is
        its_log (Some v) q is = refl

    pub each_last : (cs : List Completion) (us : List (Job × Outcome)) → Each (IsEnded x k.log) cs us → Each (IsEnded x k.log) (cs ++ completion_of d o 0 ∷ []) (us ++ (j, o) ∷ [])
    each_last [] [] each = (ended_one j its_jobs.0, tt)
    each_last (a ∷ cs) (b ∷ us) each = (each.0, each_last cs us each.1)
    each_last [] (b ∷ us) each = absurd each
    each_last (a ∷ cs) [] each = absurd each

    pub uses_same : (pace : Option Paced) (l : List ℕ) → vsic_uses l (ending j js o (block_passed pace card)) ≡ vsic_uses l card
    uses_same pace l =
        let more = total_last (λ u. bit (job_has l u.0)) card.queue.unreaped (j, o) in
        let had : total (λ i. bit (job_has l i)) card.queue.posted ≡ bit (job_has l j) + total (λ i. bit (job_has l i)) js = ap (λ (zs : List Job). total (λ i. bit (job_has l i)) zs) jobs in
        omega (arith, more, had)

    pub ends_so : k.log ≡ None → (paced : Option PaceKept) (pace : Option Paced) → Both (IsPaced x) paced pace → (cards : ℕ → Option CardKept) (doors : ℕ → Option Counts)
        → Sets c.key (record k { ring = finished k.ring d o 0; pace = paced }) x.tables.cards cards → Rings k.door x.tables.doors doors
        → Holds (with_devices x cards doors (rung (with_object x.machine v (Objects.vsic (ending j js o (block_passed pace card)))) card.door bell.Io))
    ends_so none paced pace both cards doors sets rings =
        let now : CardKept = record k { ring = finished k.ring d o 0; pace = paced } in
        let new : Vsic = ending j js o (block_passed pace card) in
        let opens : (grant : ℕ) → IsOpenOn grant k → StaysOpen grant k (Some now) = λ grant on_it. none_open grant k (Some now) none on_it in
        let rest : drop 1 k.ring.posted ≡ ds = ap (λ (zs : List Descriptor). drop 1 zs) posted in
        let fits : StandsFor x v now new = record {
          size = on.fits.size;
          posted = subst (λ (zs : List Descriptor). Each (IsJob x k.log) zs js) (sym rest) its_jobs.1;
          unreaped = each_last k.ring.unreaped card.queue.unreaped on.fits.unreaped;
          moved = refl;
          bound = on.fits.bound;
          pace = both;
          door = on.fits.door;
          log = on.fits.log;
          phases = shut_phases k.log new.queue.posted new.queue.unreaped none;
        } in
        rung_holds (y new now cards sets opens (uses_same pace) fits) (card_holds new now cards sets opens (uses_same pace) fits) doors bell.Io k.door card.door (card_watched new now cards sets opens (uses_same pace) fits on.fits.door) rings

-- What stays where an open log is given a command.
use Rattle.std.proofs.Common.{◌≡◌, ℕ, ◌≤◌, ◌<◌, Bool, List, [], ◌∷◌, ◌++◌, length, set, refl, sym, ◌∙◌, ap, subst, arith}
use Rattle.std.specs.Prelude.{All, Option, Some, None, IfSome, Result, Ok, Err, IfOk, IfErr, OnOk, OnErr}
use Rattle.std.proofs.lemmas.List.Elements.{All-append, All-cons, All-nil}
use Rattle.ark_objects.specs.Held.{at}
use Rattle.ark_region.specs.Frames.{Piece, Space, LiesInRegion}
use Rattle.ark_entry.specs.Entry.{entry_blocks}
use Rattle.ark_log.specs.declared.command.Command.TheVariants.{Append, Trim, Pop}
use Rattle.ark_log.specs.declared.command.Waiting.{Waiting}
use Rattle.ark_log.specs.Closed as given
use Rattle.ark_log.specs.Open.{OpenChain}
use Rattle.ark_log.specs.Refused.{Admits, IsFull, length_of, next_number}
use Rattle.ark_log.specs.Waits.{WaitsToAppend, WaitsToPop, waits, with_buffer}
use Rattle.ark_held.specs.Accepting.{GoesOnAs, HasAppended, HasPopped, HasTrimmed}
use Rattle.ark_held.specs.Bound.{AreBound}
use Rattle.ark_held.specs.Closing.{IsOpenAt, OfLogAt}
use Rattle.ark_held.specs.LogBuffers.{LiesIn}
use Rattle.ark_held.specs.Words.{AreaList}
use Rattle.ark_held.specs.declared.card.StorageCard.{StorageCard}
use Rattle.ark_held.proofs.Bindings.{bound_same, bound_still}
use Rattle.ark_held.proofs.Keyed.{changes_set}
use Rattle.ark_held.proofs.Lists.{some_same}

-- What is so of the card and the log that are found.
module _ (cards : List (Option StorageCard)) (key : ℕ) (one : StorageCard) (v : OpenChain) (there : at cards key ≡ Some one) (log : one.log ≡ Some v) where
  pub of_log : (P : StorageCard → OpenChain → Type 0) → P one v → OfLogAt cards key P
  of_log P its other u here is =
      let same = some_same (at cards key) one other there here in
      subst (λ (z : StorageCard). P z u) same (subst (P one) (some_same one.log v u log (ap (λ (z : StorageCard). z.log) same ∙ is)) its)

  goes_on : (w : OpenChain) → GoesOnAs cards (set cards key (Some (record one { log = Some w }))) key one w
  goes_on w = changes_set cards key one (record one { log = Some w }) there

  pub appended : (payload : List ℕ) (w : OpenChain) (before after : Space) {E : Type 0} (result : Result ℕ E) → IfOk result (λ n. n ≡ next_number v) → OnOk result (WaitsToAppend payload v w before after)
      → OnOk result (Admits v) → OnOk result (¬ IsFull v (entry_blocks (length payload)))
      → IfOk result (λ n. OfLogAt cards key (λ z u. HasAppended cards (set cards key (Some (record one { log = Some w }))) key z u payload before after n))
  appended payload w before after (Ok n) number made admitted room =
      of_log (λ z u. HasAppended cards (set cards key (Some (record one { log = Some w }))) key z u payload before after n)
      (record { number = number; admitted = admitted; room = room; log = w; card = goes_on w; waits = made })
  appended payload w before after (Err e) number made admitted room = tt

  pub trimmed : (n : ℕ) (w : OpenChain) {E : Type 0} (result : Result (Unit {0}) E) → OnOk result (w ≡ waits v (record { command = Trim n; len = 0; start = 0; buf = None }) n)
      → OnOk result (Admits v) → OnOk result (v.coming < n) → OnOk result (n ≤ next_number v)
      → OnOk result (OfLogAt cards key (λ z u. HasTrimmed cards (set cards key (Some (record one { log = Some w }))) key z u n))
  trimmed n w (Ok t) made admitted some there =
      of_log (λ z u. HasTrimmed cards (set cards key (Some (record one { log = Some w }))) key z u n)
      (record { admitted = admitted; some = some; there = there; card = subst (λ (q : OpenChain). GoesOnAs cards (set cards key (Some (record one { log = Some w }))) key one q) made (goes_on w) })
  trimmed n w (Err e) made admitted some there = tt

  pub popped : (w : OpenChain) (before after : Space) {E : Type 0} (result : Result ℕ E) → IfOk result (λ n. n ≡ v.coming) → OnOk result (WaitsToPop v w before after)
      → OnOk result (Admits v) → OnOk result (v.coming < next_number v)
      → IfOk result (λ n. OfLogAt cards key (λ z u. HasPopped cards (set cards key (Some (record one { log = Some w }))) key z u before after n))
  popped w before after (Ok n) number made admitted some =
      of_log (λ z u. HasPopped cards (set cards key (Some (record one { log = Some w }))) key z u before after n)
      (record { number = number; admitted = admitted; some = some; log = w; card = goes_on w; waits = made })
  popped w before after (Err e) number made admitted some = tt

  pub refused : {T E : Type 0} (P : OpenChain → E → Type 0) (result : Result T E) → IfErr result (P v) → IfErr result (λ e. OfLogAt cards key (λ z u. P u e))
  refused P (Ok t) its = tt
  refused P (Err e) its = of_log (λ z u. P u e) its

-- Where its buffers lie.

lies_more : (frames : ℕ) (v w : OpenChain) (x : Waiting) → w.header ≡ v.header → w.waiting ≡ v.waiting ++ x ∷ [] → ((taken : List Bool) → length taken ≡ frames → given.LiesIn taken x) → LiesIn frames (Some v) → LiesIn frames (Some w)
lies_more frames v w x header waiting new all taken long = record {
  header = subst (λ (o : Option Piece). IfSome o (LiesInRegion taken)) (sym header) (all taken long).header;
  waiting = subst (λ (ws : List Waiting). All (given.LiesIn taken) ws) (sym waiting)
      (All-append (given.LiesIn taken) v.waiting (x ∷ []) (all taken long).waiting (All-cons (given.LiesIn taken) x [] (new taken long) (All-nil (given.LiesIn taken))));
}

module _ (frames : ℕ) (v w : OpenChain) (all : LiesIn frames (Some v)) where
  same_lies : w ≡ v → LiesIn frames (Some w)
  same_lies same = subst (λ (z : OpenChain). LiesIn frames (Some z)) (sym same) all

  pub appended_lies : (payload : List ℕ) (before after : Space) {E : Type 0} (result : Result ℕ E) → OnOk result (WaitsToAppend payload v w before after) → OnErr result (w ≡ v) → frames ≡ length before.taken → length after.taken ≡ length before.taken → LiesIn frames (Some w)
  appended_lies payload before after (Ok n) made same size long =
      lies_more frames v w (with_buffer (Append (next_number v)) (length payload) made.buffer) (ap (λ (z : OpenChain). z.header) made.waiting) (ap (λ (z : OpenChain). z.waiting) made.waiting)
      (λ taken is. let inside = made.made.lies in omega (arith, inside, size, long, is)) all
  appended_lies payload before after (Err e) made same size long = same_lies same

  pub trimmed_lies : (n : ℕ) {E : Type 0} (result : Result (Unit {0}) E) → OnOk result (w ≡ waits v (record { command = Trim n; len = 0; start = 0; buf = None }) n) → OnErr result (w ≡ v) → LiesIn frames (Some w)
  trimmed_lies n (Ok t) made same =
      lies_more frames v w (record { command = Trim n; len = 0; start = 0; buf = None }) (ap (λ (z : OpenChain). z.header) made) (ap (λ (z : OpenChain). z.waiting) made) (λ taken is. tt) all
  trimmed_lies n (Err e) made same = same_lies same

  pub popped_lies : (before after : Space) {E : Type 0} (result : Result ℕ E) → OnOk result (WaitsToPop v w before after) → OnErr result (w ≡ v) → frames ≡ length before.taken → length after.taken ≡ length before.taken → LiesIn frames (Some w)
  popped_lies before after (Ok n) made same size long =
      lies_more frames v w (with_buffer (Pop v.coming) (length_of v v.coming) made.buffer) (ap (λ (z : OpenChain). z.header) made.waiting) (ap (λ (z : OpenChain). z.waiting) made.waiting)
      (λ taken is. let inside = made.made.lies in omega (arith, inside, size, long, is)) all
  popped_lies before after (Err e) made same size long = same_lies same

-- The areas that are bound to the cards.
module _ (areas : AreaList) (before after : List (Option StorageCard)) (key : ℕ) (all : ∥ AreBound areas before ∥₁) (on : IsOpenAt before key) where
  still_bound : (w : OpenChain) → GoesOnAs before after key on.one w → ∥ AreBound areas after ∥₁
  still_bound w changes = bound_same areas before after key all on.one on.there (record on.one { log = Some w }) changes refl

  pub appended_bound : (payload : List ℕ) (old new : Space) {E : Type 0} (result : Result ℕ E) → IfOk result (λ n. OfLogAt before key (λ one v. HasAppended before after key one v payload old new n)) → OnErr result (after ≡ before) → ∥ AreBound areas after ∥₁
  appended_bound payload old new (Ok n) made same = let its = made on.one on.chain on.there on.log in still_bound its.log its.card
  appended_bound payload old new (Err e) made same = bound_still areas before after same all

  pub trimmed_bound : (n : ℕ) {E : Type 0} (result : Result (Unit {0}) E) → OnOk result (OfLogAt before key (λ one v. HasTrimmed before after key one v n)) → OnErr result (after ≡ before) → ∥ AreBound areas after ∥₁
  trimmed_bound n (Ok t) made same = let its = made on.one on.chain on.there on.log in still_bound (waits on.chain (record { command = Trim n; len = 0; start = 0; buf = None }) n) its.card
  trimmed_bound n (Err e) made same = bound_still areas before after same all

  pub popped_bound : (old new : Space) {E : Type 0} (result : Result ℕ E) → IfOk result (λ n. OfLogAt before key (λ one v. HasPopped before after key one v old new n)) → OnErr result (after ≡ before) → ∥ AreBound areas after ∥₁
  popped_bound old new (Ok n) made same = let its = made on.one on.chain on.there on.log in still_bound its.log its.card
  popped_bound old new (Err e) made same = bound_still areas before after same all

-- An open log whose buffers are lent or are back, and whose oldest command has come further or failed.
use Rattle.std.proofs.Common.{◌≡◌, ◌⊎◌, inl, inr, ℕ, zero, suc, ◌*◌, Bool, List, [], ◌∷◌, ◌++◌, map, Option, Some, None, refl, sym, ap, ◌∙◌, subst}
use Rattle.std.specs.Prelude.{All, IfSome, flat_map, slice_get}
use Rattle.std.specs.List.{AllByRecursion}
use Rattle.std.proofs.lemmas.List.Elements.{All-cons, All-head, All-nil, All-tail}
use Rattle.ark_region.specs.Frames.{LiesInRegion, Piece, Space}
use Rattle.ark_entry.specs.Entry.{entry_blocks}
use Rattle.ark_entry.specs.Found.{Entries}
use Rattle.ark_caladan.specs.Chain as log
use Rattle.ark_caladan.specs.Chain.{Log, Opened, commands, entries}
use Rattle.ark_caladan.specs.Open.{Layout}
use Rattle.ark_log.specs.declared.command.Command.{Command}
use Rattle.ark_log.specs.declared.command.Command.TheVariants.{Append, Trim, Pop}
use Rattle.ark_log.specs.declared.command.Waiting.{Waiting}
use Rattle.ark_log.specs.declared.stage.Stage.{Stage}
use Rattle.ark_log.specs.declared.stage.Stage.TheVariants.{Load, Draft, Mark, Header, Clear, Flush}
use Rattle.ark_log.specs.Closed.{HasBuffersIn, LiesIn}
use Rattle.ark_log.specs.Open.{HasBuffer, IsRight, OpenChain}
use Rattle.ark_log.specs.Stages.{IsOfStage, first_with, oldest_in, stage_with, stages_of}
use Rattle.ark_log.specs.Stands.{AreCommands}
use Rattle.ark_log.proofs.Lent.{right_with}
use Rattle.ark_running.specs.Accepted.{with_opened}
use Rattle.ark_running.specs.Buffers.{AreRoomsOf, HasNoneOfTrim, HaveLengths, buffers_by, buffers_of, bytes_in, entry_bytes_in, pieces_of}
use Rattle.ark_running.specs.Running.{IsOpenFor}
use Rattle.ark_running.proofs.Framing.{all_parts}

-- the same commands, with other buffers
abbrev pub AreLike : List Waiting → List Waiting → Type 0
AreLike [] [] = Unit {0}
AreLike [] (x ∷ xs) = ⊥
AreLike (w ∷ ws) [] = ⊥
AreLike (w ∷ ws) (x ∷ xs) = (x ≡ record w { buf = x.buf }) × AreLike ws xs

pub like_itself : (ws : List Waiting) → AreLike ws ws
like_itself [] = tt
like_itself (w ∷ ws) = (refl, like_itself ws)

pub like_with : (buf : Option Piece) (ws : List Waiting) → AreLike ws (first_with buf ws)
like_with buf [] = tt
like_with buf (w ∷ ws) = (refl, like_itself ws)

pub like_twice : (a b : Option Piece) (ws : List Waiting) → AreLike ws (first_with a (first_with b ws))
like_twice a b [] = tt
like_twice a b (w ∷ ws) = (refl, like_itself ws)

abbrev pub TrimsHaveNone : List Waiting → Type 0
TrimsHaveNone ws = AllByRecursion (λ w. HasNoneOfTrim w.command w.buf) ws

commands_like : (ws xs : List Waiting) (cs : List log.Command) → AreLike ws xs → AreCommands ws cs → AreCommands xs cs
commands_like [] [] cs like are = are
commands_like [] (x ∷ xs) cs like are = absurd like
commands_like (w ∷ ws) [] cs like are = absurd like
commands_like (w ∷ ws) (x ∷ xs) [] like are = absurd are
commands_like (w ∷ ws) (x ∷ xs) (c ∷ cs) like are = subst (λ y. AreCommands (y ∷ xs) (c ∷ cs)) (sym like.0) (are.0, commands_like ws xs cs like.1 are.1)

lengths_like : (l : Entries) (ws xs : List Waiting) (cs : List log.Command) → AreLike ws xs → HaveLengths l ws cs → HaveLengths l xs cs
lengths_like l [] [] cs like are = are
lengths_like l [] (x ∷ xs) cs like are = absurd like
lengths_like l (w ∷ ws) [] cs like are = absurd like
lengths_like l (w ∷ ws) (x ∷ xs) [] like are = absurd are
lengths_like l (w ∷ ws) (x ∷ xs) (c ∷ cs) like are = subst (λ y. HaveLengths l (y ∷ xs) (c ∷ cs)) (sym like.0) (are.0, lengths_like (log.after_command l c) ws xs cs like.1 are.1)

bufferless : (w : Waiting) (buf : Option Piece) → buffers_of (record w { buf = buf }) ≡ buffers_of w
bufferless w buf = by w.command
  where
    by : (c : Command) → buffers_by c (record w { buf = buf }) ≡ buffers_by c w
    by (Append n) = refl
    by (Trim n) = refl
    by (Pop n) = refl

rooms_like : (ws xs : List Waiting) (ms : List log.Waiting) → AreLike ws xs → AreRoomsOf ws ms → AreRoomsOf xs ms
rooms_like [] [] ms like are = are
rooms_like [] (x ∷ xs) ms like are = absurd like
rooms_like (w ∷ ws) [] ms like are = absurd like
rooms_like (w ∷ ws) (x ∷ xs) [] like are = absurd are
rooms_like (w ∷ ws) (x ∷ xs) (m ∷ ms) like are = subst (λ y. AreRoomsOf (y ∷ xs) (m ∷ ms)) (sym like.0) (are.0 ∙ ap (λ bs. map (λ (b : Piece). (b.start, entry_blocks w.len)) bs) (sym (bufferless w x.buf)), rooms_like ws xs ms like.1 are.1)

pub pieces_like : (ws xs : List Waiting) → AreLike ws xs → flat_map buffers_of xs ≡ flat_map buffers_of ws
pieces_like [] [] like = refl
pieces_like [] (x ∷ xs) like = absurd like
pieces_like (w ∷ ws) [] like = absurd like
pieces_like (w ∷ ws) (x ∷ xs) like = λ i. (ap buffers_of like.0 ∙ bufferless w x.buf) i ++ pieces_like ws xs like.1 i

pub entries_like : (space : Space) (ws xs : List Waiting) → AreLike ws xs → map (entry_bytes_in space) xs ≡ map (entry_bytes_in space) ws
entries_like space [] [] like = refl
entries_like space [] (x ∷ xs) like = absurd like
entries_like space (w ∷ ws) [] like = absurd like
entries_like space (w ∷ ws) (x ∷ xs) like = λ i. bytes_in space ((ap buffers_of like.0 ∙ bufferless w x.buf) i) ∷ entries_like space ws xs like.1 i

-- the oldest is the same but for its buffer
pub oldest_like : (ws xs : List Waiting) → AreLike ws xs → oldest_in xs ≡ record (oldest_in ws) { buf = (oldest_in xs).buf }
oldest_like [] [] like = refl
oldest_like [] (x ∷ xs) like = absurd like
oldest_like (w ∷ ws) [] like = absurd like
oldest_like (w ∷ ws) (x ∷ xs) like = like.0

pub entry_like : (space : Space) (ws xs : List Waiting) → AreLike ws xs → entry_bytes_in space (oldest_in xs) ≡ entry_bytes_in space (oldest_in ws)
entry_like space ws xs like = ap (entry_bytes_in space) (oldest_like ws xs like) ∙ ap (bytes_in space) (bufferless (oldest_in ws) (oldest_in xs).buf)

-- the log with other buffers, so many stages of its oldest command whole, failed or not
abbrev pub as_lent : OpenChain → List Waiting → Option Piece → ℕ → Bool → OpenChain
as_lent v ws header done failed = record v { waiting = ws; header = header; done = done; failed = failed }

abbrev pub come_to : Opened → ℕ → Bool → Opened
come_to o done failed = record o { done = done; failed = failed }

pub open_like : (v : OpenChain) (p : Layout) (g : Log) (o : Opened) (ws : List Waiting) (header : Option Piece) (done n : ℕ) (failed : Bool) → IsOpenFor v p g o → AreLike v.waiting ws → IsRight (as_lent v ws header done failed) → TrimsHaveNone ws → done ≡ n
    → IsOpenFor (as_lent v ws header done failed) p (with_opened g (come_to o n failed)) (come_to o n failed)
open_like v p g o ws header done n failed is like right none same = record {
  right = right;
  kind = is.kind;
  room = is.room;
  opened = refl;
  list = is.list;
  stands = record {
    first = is.stands.first;
    count = is.stands.count;
    lengths = is.stands.lengths;
    coming = is.stands.coming;
    waiting = commands_like v.waiting ws (commands o) like is.stands.waiting;
  };
  can = is.can;
  lengths = lengths_like (entries g.list) v.waiting ws (commands o) like is.lengths;
  start = is.start;
  done = same;
  failed = refl;
  header = is.header;
  rooms = rooms_like v.waiting ws o.waiting like is.rooms;
  trims = none;
}

-- How the buffer of a stage is given and taken.

abbrev pub waiting_with : Stage → Option Piece → List Waiting → List Waiting
waiting_with Load buf ws = first_with buf ws
waiting_with Draft buf ws = first_with buf ws
waiting_with Mark buf ws = first_with buf ws
waiting_with Header buf ws = ws
waiting_with Clear buf ws = ws
waiting_with Flush buf ws = ws

abbrev pub header_with : Stage → Option Piece → Option Piece → Option Piece
header_with Header buf was = buf
header_with Load buf was = was
header_with Draft buf was = was
header_with Mark buf was = was
header_with Clear buf was = was
header_with Flush buf was = was

pub stage_is : (v : OpenChain) (stage : Stage) (buf : Option Piece) → stage_with v stage buf ≡ as_lent v (waiting_with stage buf v.waiting) (header_with stage buf v.header) v.done v.failed
stage_is v Load buf = refl
stage_is v Draft buf = refl
stage_is v Mark buf = refl
stage_is v Header buf = refl
stage_is v Clear buf = refl
stage_is v Flush buf = refl

pub like_stage : (stage : Stage) (buf : Option Piece) (ws : List Waiting) → AreLike ws (waiting_with stage buf ws)
like_stage Load buf ws = like_with buf ws
like_stage Draft buf ws = like_with buf ws
like_stage Mark buf ws = like_with buf ws
like_stage Header buf ws = like_itself ws
like_stage Clear buf ws = like_itself ws
like_stage Flush buf ws = like_itself ws

pub like_on : (ws xs ys : List Waiting) → AreLike ws xs → AreLike xs ys → AreLike ws ys
like_on [] [] ys a b = b
like_on [] (x ∷ xs) ys a b = absurd a
like_on (w ∷ ws) [] ys a b = absurd a
like_on (w ∷ ws) (x ∷ xs) [] a b = absurd b
like_on (w ∷ ws) (x ∷ xs) (y ∷ ys) a b = (b.0 ∙ ap (λ (z : Waiting). record z { buf = y.buf }) a.0, like_on ws xs ys a.1 b.1)

pub some_same : (a b : Stage) → Some a ≡ Some b → a ≡ b
some_same a b is = cc (is)

-- a stage that has the buffer of the oldest command is none of a trim
pub none_stage : (c : Command) (done : ℕ) (stage : Stage) (buf was : Option Piece) → slice_get (stages_of c) done ≡ Some stage → HasNoneOfTrim c was → (stage ≡ Header) ⊎ ((stage ≡ Clear) ⊎ ((stage ≡ Flush) ⊎ HasNoneOfTrim c buf))
none_stage (Append n) done stage buf was is none = inr (inr (inr tt))
none_stage (Pop n) done stage buf was is none = inr (inr (inr tt))
none_stage (Trim n) zero stage buf was is none = inl (sym (some_same Header stage is))
none_stage (Trim n) (suc zero) stage buf was is none = inr (inr (inl (sym (some_same Flush stage is))))
none_stage (Trim n) (suc (suc zero)) stage buf was is none = inr (inl (sym (some_same Clear stage is)))
none_stage (Trim n) (suc (suc (suc zero))) stage buf was is none = inr (inr (inl (sym (some_same Flush stage is))))
none_stage (Trim n) (suc (suc (suc (suc done)))) stage buf was is none = absurd (cc (is))

trims_with : (buf : Option Piece) (ws : List Waiting) → HasNoneOfTrim (oldest_in ws).command buf → TrimsHaveNone ws → TrimsHaveNone (first_with buf ws)
trims_with buf [] none all = tt
trims_with buf (w ∷ ws) none all = (none, all.1)

pub trims_stage : (stage : Stage) (buf : Option Piece) (ws : List Waiting) → (stage ≡ Header) ⊎ ((stage ≡ Clear) ⊎ ((stage ≡ Flush) ⊎ HasNoneOfTrim (oldest_in ws).command buf)) → TrimsHaveNone ws → TrimsHaveNone (waiting_with stage buf ws)
trims_stage stage buf ws (inl is) all = subst (λ s. TrimsHaveNone (waiting_with s buf ws)) (sym is) all
trims_stage stage buf ws (inr (inl is)) all = subst (λ s. TrimsHaveNone (waiting_with s buf ws)) (sym is) all
trims_stage stage buf ws (inr (inr (inl is))) all = subst (λ s. TrimsHaveNone (waiting_with s buf ws)) (sym is) all
trims_stage stage buf ws (inr (inr (inr none))) all = by stage
  where
    by : (s : Stage) → TrimsHaveNone (waiting_with s buf ws)
    by Load = trims_with buf ws none all
    by Draft = trims_with buf ws none all
    by Mark = trims_with buf ws none all
    by Header = all
    by Clear = all
    by Flush = all

-- no buffer at all is none of a trim
pub none_given : (c : Command) → HasNoneOfTrim c None
none_given (Append n) = tt
none_given (Trim n) = refl
none_given (Pop n) = tt

-- What is right with one buffer is right with another of the same place.
pub right_stage : (v : OpenChain) (stage : Stage) (buf : Option Piece) → IsRight v → IsOfStage v stage buf → IsRight (stage_with v stage buf)
right_stage v Load buf right its = right_with v buf (first_with buf v.waiting) right refl its
right_stage v Draft buf right its = right_with v buf (first_with buf v.waiting) right refl its
right_stage v Mark buf right its = right_with v buf (first_with buf v.waiting) right refl its
right_stage v Header buf right its = record {
  some = right.some;
  few = right.few;
  used_is = right.used_is;
  fits = right.fits;
  all_short = right.all_short;
  counted = right.counted;
  stored_is = right.stored_is;
  from_one = right.from_one;
  last = right.last;
  short = right.short;
  in_turn = right.in_turn;
  buffers = right.buffers;
  header_is = its;
}
right_stage v Clear buf right its = right
right_stage v Flush buf right its = right

pub right_done : (v : OpenChain) (done : ℕ) → IsRight v → IsRight (record v { done = done })
right_done v done right = record {
  some = right.some;
  few = right.few;
  used_is = right.used_is;
  fits = right.fits;
  all_short = right.all_short;
  counted = right.counted;
  stored_is = right.stored_is;
  from_one = right.from_one;
  last = right.last;
  short = right.short;
  in_turn = right.in_turn;
  buffers = right.buffers;
  header_is = right.header_is;
}

-- The buffers of a right log lie in the memory.
its : (taken : List Bool) (buf : Option Piece) (w : Waiting) → IfSome buf (λ b. (b.start ≡ w.start) × (b.len ≡ 512 * entry_blocks w.len)) → LiesInRegion taken (record { start = w.start; len = 512 * entry_blocks w.len }) → IfSome buf (LiesInRegion taken)
its taken None w is lies = tt
its taken (Some b) w is lies = subst (LiesInRegion taken) (sym (λ i. record { start = is.0 i; len = is.1 i })) lies

lies_by : (taken : List Bool) (c : Command) (w : Waiting) → HasBuffer w → HasNoneOfTrim c w.buf → AllByRecursion (LiesInRegion taken) (buffers_by c w) → LiesIn taken w
lies_by taken (Append n) w has none lies = its taken w.buf w has.1 lies.0
lies_by taken (Trim n) w has none lies = subst (λ b. IfSome b (LiesInRegion taken)) (sym none) tt
lies_by taken (Pop n) w has none lies = its taken w.buf w has.1 lies.0

all_lie : (taken : List Bool) (ws : List Waiting) → All HasBuffer ws → TrimsHaveNone ws → AllByRecursion (LiesInRegion taken) (flat_map buffers_of ws) → All (LiesIn taken) ws
all_lie taken [] has none lies = All-nil (LiesIn taken)
all_lie taken (w ∷ ws) has none lies =
    let parts = all_parts (LiesInRegion taken) (buffers_of w) (flat_map buffers_of ws) lies in
    All-cons (LiesIn taken) w ws (lies_by taken w.command w (All-head HasBuffer w ws has) none.0 parts.0) (all_lie taken ws (All-tail HasBuffer w ws has) none.1 parts.1)

pub buffers_in : (taken : List Bool) (v : OpenChain) → IsRight v → TrimsHaveNone v.waiting → AllByRecursion (LiesInRegion taken) (pieces_of v) → HasBuffersIn taken v
buffers_in taken v right none lies = record { header = at v.header right.header_is; waiting = all_lie taken v.waiting right.buffers none lies.1 }
  where
    at : (b : Option Piece) → IfSome b (λ c. (c.start ≡ v.header_at) × (c.len ≡ 512)) → IfSome b (LiesInRegion taken)
    at None is = tt
    at (Some b) is = subst (LiesInRegion taken) (sym (λ i. record { start = is.0 i; len = is.1 i })) lies.0

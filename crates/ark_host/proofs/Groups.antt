-- Groups of words: which of them have words that are built, and what a line of a group leaves of the host's counts.
use Rattle.std.proofs.Common.{◌≡◌, ◌≤◌, ℕ, Bool, true, false, List, refl, sym, arith}
use Rattle.std.proofs.lemmas.Bool.{false≢true}
use Rattle.std.specs.Prelude.{Option}
use Rattle.ark_base.specs.declared.kind.Kind.{Kind}
use Rattle.ark_filters.specs.declared.filter.Direction.{Direction}
use Rattle.ark_packet.specs.declared.own.Own.{Own}
use Rattle.ark_script.specs.Attributes.{attributes}
use Rattle.ark_script.specs.Form.{a_billion}
use Rattle.ark_script.specs.Line as w
use Rattle.ark_script.specs.Line.{Line, line_of}
use Rattle.ark_script.specs.declared.group.Group.{Group}
use Rattle.ark_script.specs.declared.group.Group.TheVariants as group
use Rattle.ark_script.specs.declared.step.Hex.{Hex}
use Rattle.ark_script.specs.declared.step.Side.{Side}
use Rattle.ark_script.specs.declared.step.Step.{Step}
use Rattle.ark_script.specs.declared.step.Step.TheVariants as step
use Rattle.ark_machine.specs.Built.{is_built}
use Rattle.ark_host.specs.declared.host.Host.{Host}
use Rattle.ark_host.specs.Time.{Counts, CountsLine}

-- a group that has a word that is built
abbrev pub has_built : Group → Bool
has_built group.Control = true
has_built group.Memory = true
has_built group.Rates = true
has_built group.Cards = true
has_built group.Network = true
has_built group.Logs = true
has_built _ = false

-- no word of any other group is
pub unbuilt_group : (line : Line) → has_built (attributes line).group ≡ false → is_built line ≡ false
unbuilt_group (w.app a frames) none = absurd (false≢true (sym none))
unbuilt_group (w.vsa a s n k) none = absurd (false≢true (sym none))
unbuilt_group (w.grow a s n) none = absurd (false≢true (sym none))
unbuilt_group (w.peek a s off) none = absurd (false≢true (sym none))
unbuilt_group (w.poke a s off bytes) none = absurd (false≢true (sym none))
unbuilt_group (w.buf a b len) none = absurd (false≢true (sym none))
unbuilt_group (w.show a b off len) none = absurd (false≢true (sym none))
unbuilt_group (w.fill a b off bytes) none = absurd (false≢true (sym none))
unbuilt_group (w.copy a b c len) none = absurd (false≢true (sym none))
unbuilt_group (w.free a b) none = absurd (false≢true (sym none))
unbuilt_group (w.drop a x) none = absurd (false≢true (sym none))
unbuilt_group (w.tick n) none = absurd (false≢true (sym none))
unbuilt_group (w.nic own) none = absurd (false≢true (sym none))
unbuilt_group (w.vsic a v size) none = absurd (false≢true (sym none))
unbuilt_group (w.bind a v s) none = absurd (false≢true (sym none))
unbuilt_group (w.unbind a v s) none = absurd (false≢true (sym none))
unbuilt_group (w.get a v s off count b) none = absurd (false≢true (sym none))
unbuilt_group (w.put a v s off count b) none = absurd (false≢true (sym none))
unbuilt_group (w.flush a v) none = absurd (false≢true (sym none))
unbuilt_group (w.reap a v) none = absurd (false≢true (sym none))
unbuilt_group (w.dev a v) none = absurd (false≢true (sym none))
unbuilt_group (w.door a d) none = absurd (false≢true (sym none))
unbuilt_group (w.watch a v d q) none = absurd (false≢true (sym none))
unbuilt_group (w.look a d) none = absurd (false≢true (sym none))
unbuilt_group (w.rate a r q b) none = absurd (false≢true (sym none))
unbuilt_group (w.pace a v r q) none = absurd (false≢true (sym none))
unbuilt_group (w.vnic a v rx tx) none = absurd (false≢true (sym none))
unbuilt_group (w.post a v b) none = absurd (false≢true (sym none))
unbuilt_group (w.take a v d) none = absurd (false≢true (sym none))
unbuilt_group (w.log a s v) none = absurd (false≢true (sym none))
unbuilt_group (w.queue a s v) none = absurd (false≢true (sym none))
unbuilt_group (w.append a s bytes) none = absurd (false≢true (sym none))
unbuilt_group (w.push a s bytes) none = absurd (false≢true (sym none))
unbuilt_group (w.trim a s n) none = absurd (false≢true (sym none))
unbuilt_group (w.pop a s) none = absurd (false≢true (sym none))
unbuilt_group (w.close a s) none = absurd (false≢true (sym none))
unbuilt_group (w.walk a s n) none = absurd (false≢true (sym none))
unbuilt_group (w.poll a s) none = absurd (false≢true (sym none))
unbuilt_group _ none = refl

pub other_group : (g : Group) → (g ≡ group.Control → ⊥) → (g ≡ group.Memory → ⊥) → (g ≡ group.Rates → ⊥) → (g ≡ group.Cards → ⊥) → (g ≡ group.Network → ⊥) → (g ≡ group.Logs → ⊥) → has_built g ≡ false
other_group group.Control no_control no_memory no_rates no_cards no_network no_logs = absurd (no_control refl)
other_group group.Memory no_control no_memory no_rates no_cards no_network no_logs = absurd (no_memory refl)
other_group group.Rates no_control no_memory no_rates no_cards no_network no_logs = absurd (no_rates refl)
other_group group.Cards no_control no_memory no_rates no_cards no_network no_logs = absurd (no_cards refl)
other_group group.Network no_control no_memory no_rates no_cards no_network no_logs = absurd (no_network refl)
other_group group.Logs no_control no_memory no_rates no_cards no_network no_logs = absurd (no_logs refl)
other_group _ no_control no_memory no_rates no_cards no_network no_logs = refl

two_groups : group.Control ≡ group.Memory → ⊥
two_groups h = cc

no_rates_control : group.Rates ≡ group.Control → ⊥
no_rates_control h = cc

no_rates_memory : group.Rates ≡ group.Memory → ⊥
no_rates_memory h = cc

no_cards_control : group.Cards ≡ group.Control → ⊥
no_cards_control h = cc

no_cards_memory : group.Cards ≡ group.Memory → ⊥
no_cards_memory h = cc

no_cards_rates : group.Cards ≡ group.Rates → ⊥
no_cards_rates h = cc

no_network_control : group.Network ≡ group.Control → ⊥
no_network_control h = cc

no_network_memory : group.Network ≡ group.Memory → ⊥
no_network_memory h = cc

no_network_rates : group.Network ≡ group.Rates → ⊥
no_network_rates h = cc

no_network_cards : group.Network ≡ group.Cards → ⊥
no_network_cards h = cc

no_logs_control : group.Logs ≡ group.Control → ⊥
no_logs_control h = cc

no_logs_memory : group.Logs ≡ group.Memory → ⊥
no_logs_memory h = cc

no_logs_rates : group.Logs ≡ group.Rates → ⊥
no_logs_rates h = cc

no_logs_cards : group.Logs ≡ group.Cards → ⊥
no_logs_cards h = cc

no_logs_network : group.Logs ≡ group.Network → ⊥
no_logs_network h = cc

-- the words about applications, areas and time that are not built
pub unbuilt_control : (x : Step) → (attributes (line_of x)).group ≡ group.Control
    → ((a : List ℕ) (frames : Option ℕ) → x ≡ step.App a frames → ⊥) → ((a l : List ℕ) (n : ℕ) (k : Kind) → x ≡ step.Vsa a l n k → ⊥)
    → ((a l : List ℕ) (n : ℕ) → x ≡ step.Grow a l n → ⊥) → ((a l : List ℕ) → x ≡ step.Drop a l → ⊥) → ((n : ℕ) → x ≡ step.Tick n → ⊥)
    → is_built (line_of x) ≡ false
unbuilt_control (step.App a frames) about no_app no_vsa no_grow no_drop no_tick = absurd (no_app a frames refl)
unbuilt_control (step.Vsa a l n k) about no_app no_vsa no_grow no_drop no_tick = absurd (no_vsa a l n k refl)
unbuilt_control (step.Grow a l n) about no_app no_vsa no_grow no_drop no_tick = absurd (no_grow a l n refl)
unbuilt_control (step.Drop a l) about no_app no_vsa no_grow no_drop no_tick = absurd (no_drop a l refl)
unbuilt_control (step.Tick n) about no_app no_vsa no_grow no_drop no_tick = absurd (no_tick n refl)
unbuilt_control (step.Peek a l off) about no_app no_vsa no_grow no_drop no_tick = absurd (two_groups (sym about))
unbuilt_control (step.Poke a l off hex) about no_app no_vsa no_grow no_drop no_tick = absurd (two_groups (sym about))
unbuilt_control (step.Buf a l n) about no_app no_vsa no_grow no_drop no_tick = absurd (two_groups (sym about))
unbuilt_control (step.Show a l off n) about no_app no_vsa no_grow no_drop no_tick = absurd (two_groups (sym about))
unbuilt_control (step.Fill a l off hex) about no_app no_vsa no_grow no_drop no_tick = absurd (two_groups (sym about))
unbuilt_control (step.Copy a l m n) about no_app no_vsa no_grow no_drop no_tick = absurd (two_groups (sym about))
unbuilt_control (step.Free a l) about no_app no_vsa no_grow no_drop no_tick = absurd (two_groups (sym about))
unbuilt_control (step.Door a d) about no_app no_vsa no_grow no_drop no_tick = absurd (no_rates_control about)
unbuilt_control (step.Watch a v d q) about no_app no_vsa no_grow no_drop no_tick = absurd (no_rates_control about)
unbuilt_control (step.Look a d) about no_app no_vsa no_grow no_drop no_tick = absurd (no_rates_control about)
unbuilt_control (step.Rate a l n b) about no_app no_vsa no_grow no_drop no_tick = absurd (no_rates_control about)
unbuilt_control (step.Pace a v l q) about no_app no_vsa no_grow no_drop no_tick = absurd (no_rates_control about)
unbuilt_control (step.Vsic a v size) about no_app no_vsa no_grow no_drop no_tick = absurd (no_cards_control about)
unbuilt_control (step.Bind a v s) about no_app no_vsa no_grow no_drop no_tick = absurd (no_cards_control about)
unbuilt_control (step.Unbind a v s) about no_app no_vsa no_grow no_drop no_tick = absurd (no_cards_control about)
unbuilt_control (step.Get a v s off n b) about no_app no_vsa no_grow no_drop no_tick = absurd (no_cards_control about)
unbuilt_control (step.Put a v s off n b) about no_app no_vsa no_grow no_drop no_tick = absurd (no_cards_control about)
unbuilt_control (step.Flush a v) about no_app no_vsa no_grow no_drop no_tick = absurd (no_cards_control about)
unbuilt_control (step.Reap a v) about no_app no_vsa no_grow no_drop no_tick = absurd (no_cards_control about)
unbuilt_control (step.Dev a v) about no_app no_vsa no_grow no_drop no_tick = absurd (no_cards_control about)
unbuilt_control (step.Nic own) about no_app no_vsa no_grow no_drop no_tick = absurd (no_network_control about)
unbuilt_control (step.Vnic a v rx tx) about no_app no_vsa no_grow no_drop no_tick = absurd (no_network_control about)
unbuilt_control (step.Post a v b) about no_app no_vsa no_grow no_drop no_tick = absurd (no_network_control about)
unbuilt_control (step.Take a v d) about no_app no_vsa no_grow no_drop no_tick = absurd (no_network_control about)
unbuilt_control (step.Log a l v) about no_app no_vsa no_grow no_drop no_tick = absurd (no_logs_control about)
unbuilt_control (step.Queue a l v) about no_app no_vsa no_grow no_drop no_tick = absurd (no_logs_control about)
unbuilt_control (step.Append a l hex) about no_app no_vsa no_grow no_drop no_tick = absurd (no_logs_control about)
unbuilt_control (step.Push a l hex) about no_app no_vsa no_grow no_drop no_tick = absurd (no_logs_control about)
unbuilt_control (step.Trim a l n) about no_app no_vsa no_grow no_drop no_tick = absurd (no_logs_control about)
unbuilt_control (step.Pop a l) about no_app no_vsa no_grow no_drop no_tick = absurd (no_logs_control about)
unbuilt_control (step.Close a l) about no_app no_vsa no_grow no_drop no_tick = absurd (no_logs_control about)
unbuilt_control (step.Walk a l n) about no_app no_vsa no_grow no_drop no_tick = absurd (no_logs_control about)
unbuilt_control (step.Poll a l) about no_app no_vsa no_grow no_drop no_tick = absurd (no_logs_control about)
unbuilt_control _ about no_app no_vsa no_grow no_drop no_tick = refl

-- each word about blocks and buffers is built
pub all_memory : (x : Step) → (attributes (line_of x)).group ≡ group.Memory → ((a l : List ℕ) (off : ℕ) → x ≡ step.Peek a l off → ⊥)
    → ((a l : List ℕ) (off : ℕ) (hex : Hex) → x ≡ step.Poke a l off hex → ⊥) → ((a l : List ℕ) (n : ℕ) → x ≡ step.Buf a l n → ⊥)
    → ((a l : List ℕ) (off n : ℕ) → x ≡ step.Show a l off n → ⊥) → ((a l : List ℕ) (off : ℕ) (hex : Hex) → x ≡ step.Fill a l off hex → ⊥)
    → ((a l m : List ℕ) (n : ℕ) → x ≡ step.Copy a l m n → ⊥) → ((a l : List ℕ) → x ≡ step.Free a l → ⊥) → is_built (line_of x) ≡ false
all_memory (step.Peek a l off) about no_peek no_poke no_buf no_show no_fill no_copy no_free = absurd (no_peek a l off refl)
all_memory (step.Poke a l off hex) about no_peek no_poke no_buf no_show no_fill no_copy no_free = absurd (no_poke a l off hex refl)
all_memory (step.Buf a l n) about no_peek no_poke no_buf no_show no_fill no_copy no_free = absurd (no_buf a l n refl)
all_memory (step.Show a l off n) about no_peek no_poke no_buf no_show no_fill no_copy no_free = absurd (no_show a l off n refl)
all_memory (step.Fill a l off hex) about no_peek no_poke no_buf no_show no_fill no_copy no_free = absurd (no_fill a l off hex refl)
all_memory (step.Copy a l m n) about no_peek no_poke no_buf no_show no_fill no_copy no_free = absurd (no_copy a l m n refl)
all_memory (step.Free a l) about no_peek no_poke no_buf no_show no_fill no_copy no_free = absurd (no_free a l refl)
all_memory (step.App a frames) about no_peek no_poke no_buf no_show no_fill no_copy no_free = absurd (two_groups about)
all_memory (step.Vsa a l n k) about no_peek no_poke no_buf no_show no_fill no_copy no_free = absurd (two_groups about)
all_memory (step.Grow a l n) about no_peek no_poke no_buf no_show no_fill no_copy no_free = absurd (two_groups about)
all_memory (step.Tick n) about no_peek no_poke no_buf no_show no_fill no_copy no_free = absurd (two_groups about)
all_memory (step.Drop a l) about no_peek no_poke no_buf no_show no_fill no_copy no_free = absurd (two_groups about)
all_memory (step.Door a d) about no_peek no_poke no_buf no_show no_fill no_copy no_free = absurd (no_rates_memory about)
all_memory (step.Watch a v d q) about no_peek no_poke no_buf no_show no_fill no_copy no_free = absurd (no_rates_memory about)
all_memory (step.Look a d) about no_peek no_poke no_buf no_show no_fill no_copy no_free = absurd (no_rates_memory about)
all_memory (step.Rate a l n b) about no_peek no_poke no_buf no_show no_fill no_copy no_free = absurd (no_rates_memory about)
all_memory (step.Pace a v l q) about no_peek no_poke no_buf no_show no_fill no_copy no_free = absurd (no_rates_memory about)
all_memory (step.Vsic a v size) about no_peek no_poke no_buf no_show no_fill no_copy no_free = absurd (no_cards_memory about)
all_memory (step.Bind a v s) about no_peek no_poke no_buf no_show no_fill no_copy no_free = absurd (no_cards_memory about)
all_memory (step.Unbind a v s) about no_peek no_poke no_buf no_show no_fill no_copy no_free = absurd (no_cards_memory about)
all_memory (step.Get a v s off n b) about no_peek no_poke no_buf no_show no_fill no_copy no_free = absurd (no_cards_memory about)
all_memory (step.Put a v s off n b) about no_peek no_poke no_buf no_show no_fill no_copy no_free = absurd (no_cards_memory about)
all_memory (step.Flush a v) about no_peek no_poke no_buf no_show no_fill no_copy no_free = absurd (no_cards_memory about)
all_memory (step.Reap a v) about no_peek no_poke no_buf no_show no_fill no_copy no_free = absurd (no_cards_memory about)
all_memory (step.Dev a v) about no_peek no_poke no_buf no_show no_fill no_copy no_free = absurd (no_cards_memory about)
all_memory (step.Nic own) about no_peek no_poke no_buf no_show no_fill no_copy no_free = absurd (no_network_memory about)
all_memory (step.Vnic a v rx tx) about no_peek no_poke no_buf no_show no_fill no_copy no_free = absurd (no_network_memory about)
all_memory (step.Post a v b) about no_peek no_poke no_buf no_show no_fill no_copy no_free = absurd (no_network_memory about)
all_memory (step.Take a v d) about no_peek no_poke no_buf no_show no_fill no_copy no_free = absurd (no_network_memory about)
all_memory (step.Log a l v) about no_peek no_poke no_buf no_show no_fill no_copy no_free = absurd (no_logs_memory about)
all_memory (step.Queue a l v) about no_peek no_poke no_buf no_show no_fill no_copy no_free = absurd (no_logs_memory about)
all_memory (step.Append a l hex) about no_peek no_poke no_buf no_show no_fill no_copy no_free = absurd (no_logs_memory about)
all_memory (step.Push a l hex) about no_peek no_poke no_buf no_show no_fill no_copy no_free = absurd (no_logs_memory about)
all_memory (step.Trim a l n) about no_peek no_poke no_buf no_show no_fill no_copy no_free = absurd (no_logs_memory about)
all_memory (step.Pop a l) about no_peek no_poke no_buf no_show no_fill no_copy no_free = absurd (no_logs_memory about)
all_memory (step.Close a l) about no_peek no_poke no_buf no_show no_fill no_copy no_free = absurd (no_logs_memory about)
all_memory (step.Walk a l n) about no_peek no_poke no_buf no_show no_fill no_copy no_free = absurd (no_logs_memory about)
all_memory (step.Poll a l) about no_peek no_poke no_buf no_show no_fill no_copy no_free = absurd (no_logs_memory about)
all_memory _ about no_peek no_poke no_buf no_show no_fill no_copy no_free = refl

-- the words about rates and doors that are not built
pub unbuilt_rates : (x : Step) → (attributes (line_of x)).group ≡ group.Rates → ((a d : List ℕ) → x ≡ step.Door a d → ⊥) → ((a v : List ℕ) (d : Option (List ℕ)) (q : Side) → x ≡ step.Watch a v d q → ⊥) → ((a d : List ℕ) → x ≡ step.Look a d → ⊥)
    → ((a l : List ℕ) (n b : ℕ) → x ≡ step.Rate a l n b → ⊥) → ((a v : List ℕ) (l : Option (List ℕ)) (q : Side) → x ≡ step.Pace a v l q → ⊥) → is_built (line_of x) ≡ false
unbuilt_rates (step.Door a d) about no_door no_watch no_look no_rate no_pace = absurd (no_door a d refl)
unbuilt_rates (step.Watch a v d q) about no_door no_watch no_look no_rate no_pace = absurd (no_watch a v d q refl)
unbuilt_rates (step.Look a d) about no_door no_watch no_look no_rate no_pace = absurd (no_look a d refl)
unbuilt_rates (step.Rate a l n b) about no_door no_watch no_look no_rate no_pace = absurd (no_rate a l n b refl)
unbuilt_rates (step.Pace a v l q) about no_door no_watch no_look no_rate no_pace = absurd (no_pace a v l q refl)
unbuilt_rates (step.App a frames) about no_door no_watch no_look no_rate no_pace = absurd (no_rates_control (sym about))
unbuilt_rates (step.Vsa a l n k) about no_door no_watch no_look no_rate no_pace = absurd (no_rates_control (sym about))
unbuilt_rates (step.Drop a l) about no_door no_watch no_look no_rate no_pace = absurd (no_rates_control (sym about))
unbuilt_rates (step.Grow a l n) about no_door no_watch no_look no_rate no_pace = absurd (no_rates_control (sym about))
unbuilt_rates (step.Tick n) about no_door no_watch no_look no_rate no_pace = absurd (no_rates_control (sym about))
unbuilt_rates (step.Peek a l off) about no_door no_watch no_look no_rate no_pace = absurd (no_rates_memory (sym about))
unbuilt_rates (step.Poke a l off hex) about no_door no_watch no_look no_rate no_pace = absurd (no_rates_memory (sym about))
unbuilt_rates (step.Buf a l n) about no_door no_watch no_look no_rate no_pace = absurd (no_rates_memory (sym about))
unbuilt_rates (step.Show a l off n) about no_door no_watch no_look no_rate no_pace = absurd (no_rates_memory (sym about))
unbuilt_rates (step.Fill a l off hex) about no_door no_watch no_look no_rate no_pace = absurd (no_rates_memory (sym about))
unbuilt_rates (step.Copy a l m n) about no_door no_watch no_look no_rate no_pace = absurd (no_rates_memory (sym about))
unbuilt_rates (step.Free a l) about no_door no_watch no_look no_rate no_pace = absurd (no_rates_memory (sym about))
unbuilt_rates (step.Vsic a v size) about no_door no_watch no_look no_rate no_pace = absurd (no_cards_rates about)
unbuilt_rates (step.Bind a v s) about no_door no_watch no_look no_rate no_pace = absurd (no_cards_rates about)
unbuilt_rates (step.Unbind a v s) about no_door no_watch no_look no_rate no_pace = absurd (no_cards_rates about)
unbuilt_rates (step.Get a v s off n b) about no_door no_watch no_look no_rate no_pace = absurd (no_cards_rates about)
unbuilt_rates (step.Put a v s off n b) about no_door no_watch no_look no_rate no_pace = absurd (no_cards_rates about)
unbuilt_rates (step.Flush a v) about no_door no_watch no_look no_rate no_pace = absurd (no_cards_rates about)
unbuilt_rates (step.Reap a v) about no_door no_watch no_look no_rate no_pace = absurd (no_cards_rates about)
unbuilt_rates (step.Dev a v) about no_door no_watch no_look no_rate no_pace = absurd (no_cards_rates about)
unbuilt_rates (step.Nic own) about no_door no_watch no_look no_rate no_pace = absurd (no_network_rates about)
unbuilt_rates (step.Vnic a v rx tx) about no_door no_watch no_look no_rate no_pace = absurd (no_network_rates about)
unbuilt_rates (step.Post a v b) about no_door no_watch no_look no_rate no_pace = absurd (no_network_rates about)
unbuilt_rates (step.Take a v d) about no_door no_watch no_look no_rate no_pace = absurd (no_network_rates about)
unbuilt_rates (step.Log a l v) about no_door no_watch no_look no_rate no_pace = absurd (no_logs_rates about)
unbuilt_rates (step.Queue a l v) about no_door no_watch no_look no_rate no_pace = absurd (no_logs_rates about)
unbuilt_rates (step.Append a l hex) about no_door no_watch no_look no_rate no_pace = absurd (no_logs_rates about)
unbuilt_rates (step.Push a l hex) about no_door no_watch no_look no_rate no_pace = absurd (no_logs_rates about)
unbuilt_rates (step.Trim a l n) about no_door no_watch no_look no_rate no_pace = absurd (no_logs_rates about)
unbuilt_rates (step.Pop a l) about no_door no_watch no_look no_rate no_pace = absurd (no_logs_rates about)
unbuilt_rates (step.Close a l) about no_door no_watch no_look no_rate no_pace = absurd (no_logs_rates about)
unbuilt_rates (step.Walk a l n) about no_door no_watch no_look no_rate no_pace = absurd (no_logs_rates about)
unbuilt_rates (step.Poll a l) about no_door no_watch no_look no_rate no_pace = absurd (no_logs_rates about)
unbuilt_rates _ about no_door no_watch no_look no_rate no_pace = refl

-- the words about storage cards that are not built
pub unbuilt_cards : (x : Step) → (attributes (line_of x)).group ≡ group.Cards → ((a v : List ℕ) (size : ℕ) → x ≡ step.Vsic a v size → ⊥) → ((a v s : List ℕ) → x ≡ step.Bind a v s → ⊥) → ((a v s : List ℕ) → x ≡ step.Unbind a v s → ⊥)
    → ((a v s : List ℕ) (off n : ℕ) (b : List ℕ) → x ≡ step.Get a v s off n b → ⊥)
    → ((a v s : List ℕ) (off n : ℕ) (b : List ℕ) → x ≡ step.Put a v s off n b → ⊥) → ((a v : List ℕ) → x ≡ step.Flush a v → ⊥) → ((a v : List ℕ) → x ≡ step.Reap a v → ⊥) → ((a v : List ℕ) → x ≡ step.Dev a v → ⊥) → is_built (line_of x) ≡ false
unbuilt_cards (step.Vsic a v size) about no_vsic no_bind no_unbind no_get no_put no_flush no_reap no_dev = absurd (no_vsic a v size refl)
unbuilt_cards (step.Bind a v s) about no_vsic no_bind no_unbind no_get no_put no_flush no_reap no_dev = absurd (no_bind a v s refl)
unbuilt_cards (step.Unbind a v s) about no_vsic no_bind no_unbind no_get no_put no_flush no_reap no_dev = absurd (no_unbind a v s refl)
unbuilt_cards (step.Get a v s off n b) about no_vsic no_bind no_unbind no_get no_put no_flush no_reap no_dev = absurd (no_get a v s off n b refl)
unbuilt_cards (step.Put a v s off n b) about no_vsic no_bind no_unbind no_get no_put no_flush no_reap no_dev = absurd (no_put a v s off n b refl)
unbuilt_cards (step.Flush a v) about no_vsic no_bind no_unbind no_get no_put no_flush no_reap no_dev = absurd (no_flush a v refl)
unbuilt_cards (step.Reap a v) about no_vsic no_bind no_unbind no_get no_put no_flush no_reap no_dev = absurd (no_reap a v refl)
unbuilt_cards (step.Dev a v) about no_vsic no_bind no_unbind no_get no_put no_flush no_reap no_dev = absurd (no_dev a v refl)
unbuilt_cards (step.Door a d) about no_vsic no_bind no_unbind no_get no_put no_flush no_reap no_dev = absurd (no_cards_rates (sym about))
unbuilt_cards (step.Watch a v d q) about no_vsic no_bind no_unbind no_get no_put no_flush no_reap no_dev = absurd (no_cards_rates (sym about))
unbuilt_cards (step.Look a d) about no_vsic no_bind no_unbind no_get no_put no_flush no_reap no_dev = absurd (no_cards_rates (sym about))
unbuilt_cards (step.Rate a l n b) about no_vsic no_bind no_unbind no_get no_put no_flush no_reap no_dev = absurd (no_cards_rates (sym about))
unbuilt_cards (step.Pace a v l q) about no_vsic no_bind no_unbind no_get no_put no_flush no_reap no_dev = absurd (no_cards_rates (sym about))
unbuilt_cards (step.App a frames) about no_vsic no_bind no_unbind no_get no_put no_flush no_reap no_dev = absurd (no_cards_control (sym about))
unbuilt_cards (step.Vsa a l n k) about no_vsic no_bind no_unbind no_get no_put no_flush no_reap no_dev = absurd (no_cards_control (sym about))
unbuilt_cards (step.Grow a l n) about no_vsic no_bind no_unbind no_get no_put no_flush no_reap no_dev = absurd (no_cards_control (sym about))
unbuilt_cards (step.Drop a l) about no_vsic no_bind no_unbind no_get no_put no_flush no_reap no_dev = absurd (no_cards_control (sym about))
unbuilt_cards (step.Tick n) about no_vsic no_bind no_unbind no_get no_put no_flush no_reap no_dev = absurd (no_cards_control (sym about))
unbuilt_cards (step.Peek a l off) about no_vsic no_bind no_unbind no_get no_put no_flush no_reap no_dev = absurd (no_cards_memory (sym about))
unbuilt_cards (step.Poke a l off hex) about no_vsic no_bind no_unbind no_get no_put no_flush no_reap no_dev = absurd (no_cards_memory (sym about))
unbuilt_cards (step.Buf a l n) about no_vsic no_bind no_unbind no_get no_put no_flush no_reap no_dev = absurd (no_cards_memory (sym about))
unbuilt_cards (step.Show a l off n) about no_vsic no_bind no_unbind no_get no_put no_flush no_reap no_dev = absurd (no_cards_memory (sym about))
unbuilt_cards (step.Fill a l off hex) about no_vsic no_bind no_unbind no_get no_put no_flush no_reap no_dev = absurd (no_cards_memory (sym about))
unbuilt_cards (step.Copy a l m n) about no_vsic no_bind no_unbind no_get no_put no_flush no_reap no_dev = absurd (no_cards_memory (sym about))
unbuilt_cards (step.Free a l) about no_vsic no_bind no_unbind no_get no_put no_flush no_reap no_dev = absurd (no_cards_memory (sym about))
unbuilt_cards (step.Nic own) about no_vsic no_bind no_unbind no_get no_put no_flush no_reap no_dev = absurd (no_network_cards about)
unbuilt_cards (step.Vnic a v rx tx) about no_vsic no_bind no_unbind no_get no_put no_flush no_reap no_dev = absurd (no_network_cards about)
unbuilt_cards (step.Post a v b) about no_vsic no_bind no_unbind no_get no_put no_flush no_reap no_dev = absurd (no_network_cards about)
unbuilt_cards (step.Take a v d) about no_vsic no_bind no_unbind no_get no_put no_flush no_reap no_dev = absurd (no_network_cards about)
unbuilt_cards (step.Log a l v) about no_vsic no_bind no_unbind no_get no_put no_flush no_reap no_dev = absurd (no_logs_cards about)
unbuilt_cards (step.Queue a l v) about no_vsic no_bind no_unbind no_get no_put no_flush no_reap no_dev = absurd (no_logs_cards about)
unbuilt_cards (step.Append a l hex) about no_vsic no_bind no_unbind no_get no_put no_flush no_reap no_dev = absurd (no_logs_cards about)
unbuilt_cards (step.Push a l hex) about no_vsic no_bind no_unbind no_get no_put no_flush no_reap no_dev = absurd (no_logs_cards about)
unbuilt_cards (step.Trim a l n) about no_vsic no_bind no_unbind no_get no_put no_flush no_reap no_dev = absurd (no_logs_cards about)
unbuilt_cards (step.Pop a l) about no_vsic no_bind no_unbind no_get no_put no_flush no_reap no_dev = absurd (no_logs_cards about)
unbuilt_cards (step.Close a l) about no_vsic no_bind no_unbind no_get no_put no_flush no_reap no_dev = absurd (no_logs_cards about)
unbuilt_cards (step.Walk a l n) about no_vsic no_bind no_unbind no_get no_put no_flush no_reap no_dev = absurd (no_logs_cards about)
unbuilt_cards (step.Poll a l) about no_vsic no_bind no_unbind no_get no_put no_flush no_reap no_dev = absurd (no_logs_cards about)
unbuilt_cards _ about no_vsic no_bind no_unbind no_get no_put no_flush no_reap no_dev = refl

-- the words about network cards that are not built
pub unbuilt_network : (x : Step) → (attributes (line_of x)).group ≡ group.Network → ((own : Own) → x ≡ step.Nic own → ⊥) → ((a v : List ℕ) (rx tx : ℕ) → x ≡ step.Vnic a v rx tx → ⊥) → ((a v b : List ℕ) → x ≡ step.Post a v b → ⊥)
    → ((a v : List ℕ) (d : Direction) → x ≡ step.Take a v d → ⊥) → is_built (line_of x) ≡ false
unbuilt_network (step.Nic own) about no_nic no_vnic no_post no_take = absurd (no_nic own refl)
unbuilt_network (step.Vnic a v rx tx) about no_nic no_vnic no_post no_take = absurd (no_vnic a v rx tx refl)
unbuilt_network (step.Post a v b) about no_nic no_vnic no_post no_take = absurd (no_post a v b refl)
unbuilt_network (step.Take a v d) about no_nic no_vnic no_post no_take = absurd (no_take a v d refl)
unbuilt_network (step.App a frames) about no_nic no_vnic no_post no_take = absurd (no_network_control (sym about))
unbuilt_network (step.Vsa a l n k) about no_nic no_vnic no_post no_take = absurd (no_network_control (sym about))
unbuilt_network (step.Grow a l n) about no_nic no_vnic no_post no_take = absurd (no_network_control (sym about))
unbuilt_network (step.Drop a l) about no_nic no_vnic no_post no_take = absurd (no_network_control (sym about))
unbuilt_network (step.Tick n) about no_nic no_vnic no_post no_take = absurd (no_network_control (sym about))
unbuilt_network (step.Peek a l off) about no_nic no_vnic no_post no_take = absurd (no_network_memory (sym about))
unbuilt_network (step.Poke a l off hex) about no_nic no_vnic no_post no_take = absurd (no_network_memory (sym about))
unbuilt_network (step.Buf a l n) about no_nic no_vnic no_post no_take = absurd (no_network_memory (sym about))
unbuilt_network (step.Show a l off n) about no_nic no_vnic no_post no_take = absurd (no_network_memory (sym about))
unbuilt_network (step.Fill a l off hex) about no_nic no_vnic no_post no_take = absurd (no_network_memory (sym about))
unbuilt_network (step.Copy a l m n) about no_nic no_vnic no_post no_take = absurd (no_network_memory (sym about))
unbuilt_network (step.Free a l) about no_nic no_vnic no_post no_take = absurd (no_network_memory (sym about))
unbuilt_network (step.Door a d) about no_nic no_vnic no_post no_take = absurd (no_network_rates (sym about))
unbuilt_network (step.Watch a v d q) about no_nic no_vnic no_post no_take = absurd (no_network_rates (sym about))
unbuilt_network (step.Look a d) about no_nic no_vnic no_post no_take = absurd (no_network_rates (sym about))
unbuilt_network (step.Rate a l n b) about no_nic no_vnic no_post no_take = absurd (no_network_rates (sym about))
unbuilt_network (step.Pace a v l q) about no_nic no_vnic no_post no_take = absurd (no_network_rates (sym about))
unbuilt_network (step.Vsic a v size) about no_nic no_vnic no_post no_take = absurd (no_network_cards (sym about))
unbuilt_network (step.Bind a v s) about no_nic no_vnic no_post no_take = absurd (no_network_cards (sym about))
unbuilt_network (step.Unbind a v s) about no_nic no_vnic no_post no_take = absurd (no_network_cards (sym about))
unbuilt_network (step.Get a v s off n b) about no_nic no_vnic no_post no_take = absurd (no_network_cards (sym about))
unbuilt_network (step.Put a v s off n b) about no_nic no_vnic no_post no_take = absurd (no_network_cards (sym about))
unbuilt_network (step.Flush a v) about no_nic no_vnic no_post no_take = absurd (no_network_cards (sym about))
unbuilt_network (step.Reap a v) about no_nic no_vnic no_post no_take = absurd (no_network_cards (sym about))
unbuilt_network (step.Dev a v) about no_nic no_vnic no_post no_take = absurd (no_network_cards (sym about))
unbuilt_network (step.Log a l v) about no_nic no_vnic no_post no_take = absurd (no_logs_network about)
unbuilt_network (step.Queue a l v) about no_nic no_vnic no_post no_take = absurd (no_logs_network about)
unbuilt_network (step.Append a l hex) about no_nic no_vnic no_post no_take = absurd (no_logs_network about)
unbuilt_network (step.Push a l hex) about no_nic no_vnic no_post no_take = absurd (no_logs_network about)
unbuilt_network (step.Trim a l n) about no_nic no_vnic no_post no_take = absurd (no_logs_network about)
unbuilt_network (step.Pop a l) about no_nic no_vnic no_post no_take = absurd (no_logs_network about)
unbuilt_network (step.Close a l) about no_nic no_vnic no_post no_take = absurd (no_logs_network about)
unbuilt_network (step.Walk a l n) about no_nic no_vnic no_post no_take = absurd (no_logs_network about)
unbuilt_network (step.Poll a l) about no_nic no_vnic no_post no_take = absurd (no_logs_network about)
unbuilt_network _ about no_nic no_vnic no_post no_take = refl

-- the words about logs and queues that are not built
pub unbuilt_logs : (x : Step) → (attributes (line_of x)).group ≡ group.Logs → ((a l v : List ℕ) → x ≡ step.Log a l v → ⊥) → ((a l v : List ℕ) → x ≡ step.Queue a l v → ⊥) → ((a l : List ℕ) → x ≡ step.Close a l → ⊥) → ((a l : List ℕ) (n : ℕ) → x ≡ step.Walk a l n → ⊥) → ((a l : List ℕ) (hex : Hex) → x ≡ step.Append a l hex → ⊥) → ((a l : List ℕ) (hex : Hex) → x ≡ step.Push a l hex → ⊥)
    → ((a l : List ℕ) (n : ℕ) → x ≡ step.Trim a l n → ⊥) → ((a l : List ℕ) → x ≡ step.Pop a l → ⊥) → ((a l : List ℕ) → x ≡ step.Poll a l → ⊥) → is_built (line_of x) ≡ false
unbuilt_logs (step.Log a l v) about no_log no_queue no_close no_walk no_append no_push no_trim no_pop no_poll = absurd (no_log a l v refl)
unbuilt_logs (step.Queue a l v) about no_log no_queue no_close no_walk no_append no_push no_trim no_pop no_poll = absurd (no_queue a l v refl)
unbuilt_logs (step.Append a l hex) about no_log no_queue no_close no_walk no_append no_push no_trim no_pop no_poll = absurd (no_append a l hex refl)
unbuilt_logs (step.Push a l hex) about no_log no_queue no_close no_walk no_append no_push no_trim no_pop no_poll = absurd (no_push a l hex refl)
unbuilt_logs (step.Trim a l n) about no_log no_queue no_close no_walk no_append no_push no_trim no_pop no_poll = absurd (no_trim a l n refl)
unbuilt_logs (step.Pop a l) about no_log no_queue no_close no_walk no_append no_push no_trim no_pop no_poll = absurd (no_pop a l refl)
unbuilt_logs (step.Close a l) about no_log no_queue no_close no_walk no_append no_push no_trim no_pop no_poll = absurd (no_close a l refl)
unbuilt_logs (step.Walk a l n) about no_log no_queue no_close no_walk no_append no_push no_trim no_pop no_poll = absurd (no_walk a l n refl)
unbuilt_logs (step.Poll a l) about no_log no_queue no_close no_walk no_append no_push no_trim no_pop no_poll = absurd (no_poll a l refl)
unbuilt_logs (step.App a frames) about no_log no_queue no_close no_walk no_append no_push no_trim no_pop no_poll = absurd (no_logs_control (sym about))
unbuilt_logs (step.Vsa a l n k) about no_log no_queue no_close no_walk no_append no_push no_trim no_pop no_poll = absurd (no_logs_control (sym about))
unbuilt_logs (step.Grow a l n) about no_log no_queue no_close no_walk no_append no_push no_trim no_pop no_poll = absurd (no_logs_control (sym about))
unbuilt_logs (step.Drop a l) about no_log no_queue no_close no_walk no_append no_push no_trim no_pop no_poll = absurd (no_logs_control (sym about))
unbuilt_logs (step.Tick n) about no_log no_queue no_close no_walk no_append no_push no_trim no_pop no_poll = absurd (no_logs_control (sym about))
unbuilt_logs (step.Peek a l off) about no_log no_queue no_close no_walk no_append no_push no_trim no_pop no_poll = absurd (no_logs_memory (sym about))
unbuilt_logs (step.Poke a l off hex) about no_log no_queue no_close no_walk no_append no_push no_trim no_pop no_poll = absurd (no_logs_memory (sym about))
unbuilt_logs (step.Buf a l n) about no_log no_queue no_close no_walk no_append no_push no_trim no_pop no_poll = absurd (no_logs_memory (sym about))
unbuilt_logs (step.Show a l off n) about no_log no_queue no_close no_walk no_append no_push no_trim no_pop no_poll = absurd (no_logs_memory (sym about))
unbuilt_logs (step.Fill a l off hex) about no_log no_queue no_close no_walk no_append no_push no_trim no_pop no_poll = absurd (no_logs_memory (sym about))
unbuilt_logs (step.Copy a l m n) about no_log no_queue no_close no_walk no_append no_push no_trim no_pop no_poll = absurd (no_logs_memory (sym about))
unbuilt_logs (step.Free a l) about no_log no_queue no_close no_walk no_append no_push no_trim no_pop no_poll = absurd (no_logs_memory (sym about))
unbuilt_logs (step.Door a d) about no_log no_queue no_close no_walk no_append no_push no_trim no_pop no_poll = absurd (no_logs_rates (sym about))
unbuilt_logs (step.Watch a v d q) about no_log no_queue no_close no_walk no_append no_push no_trim no_pop no_poll = absurd (no_logs_rates (sym about))
unbuilt_logs (step.Look a d) about no_log no_queue no_close no_walk no_append no_push no_trim no_pop no_poll = absurd (no_logs_rates (sym about))
unbuilt_logs (step.Rate a l n b) about no_log no_queue no_close no_walk no_append no_push no_trim no_pop no_poll = absurd (no_logs_rates (sym about))
unbuilt_logs (step.Pace a v l q) about no_log no_queue no_close no_walk no_append no_push no_trim no_pop no_poll = absurd (no_logs_rates (sym about))
unbuilt_logs (step.Vsic a v size) about no_log no_queue no_close no_walk no_append no_push no_trim no_pop no_poll = absurd (no_logs_cards (sym about))
unbuilt_logs (step.Bind a v s) about no_log no_queue no_close no_walk no_append no_push no_trim no_pop no_poll = absurd (no_logs_cards (sym about))
unbuilt_logs (step.Unbind a v s) about no_log no_queue no_close no_walk no_append no_push no_trim no_pop no_poll = absurd (no_logs_cards (sym about))
unbuilt_logs (step.Get a v s off n b) about no_log no_queue no_close no_walk no_append no_push no_trim no_pop no_poll = absurd (no_logs_cards (sym about))
unbuilt_logs (step.Put a v s off n b) about no_log no_queue no_close no_walk no_append no_push no_trim no_pop no_poll = absurd (no_logs_cards (sym about))
unbuilt_logs (step.Flush a v) about no_log no_queue no_close no_walk no_append no_push no_trim no_pop no_poll = absurd (no_logs_cards (sym about))
unbuilt_logs (step.Reap a v) about no_log no_queue no_close no_walk no_append no_push no_trim no_pop no_poll = absurd (no_logs_cards (sym about))
unbuilt_logs (step.Dev a v) about no_log no_queue no_close no_walk no_append no_push no_trim no_pop no_poll = absurd (no_logs_cards (sym about))
unbuilt_logs (step.Nic own) about no_log no_queue no_close no_walk no_append no_push no_trim no_pop no_poll = absurd (no_logs_network (sym about))
unbuilt_logs (step.Vnic a v rx tx) about no_log no_queue no_close no_walk no_append no_push no_trim no_pop no_poll = absurd (no_logs_network (sym about))
unbuilt_logs (step.Post a v b) about no_log no_queue no_close no_walk no_append no_push no_trim no_pop no_poll = absurd (no_logs_network (sym about))
unbuilt_logs (step.Take a v d) about no_log no_queue no_close no_walk no_append no_push no_trim no_pop no_poll = absurd (no_logs_network (sym about))
unbuilt_logs _ about no_log no_queue no_close no_walk no_append no_push no_trim no_pop no_poll = refl

-- a word's counts are those of a line
pub counted : (old now : Host) (ticks most : ℕ) → ticks ≤ a_billion → most ≤ 1 → Counts old now ticks most → CountsLine old now
counted old now ticks most few one c = (omega (arith, c.0, few), c.1, c.2, omega (arith, c.3, one))

-- The one order of refusals, and the condition of each.
use Rattle.std.specs.Prelude.{◌≡◌, ℕ, true, Some}
use Rattle.ark_base.specs.Conditions.{Conditions}
use Rattle.ark_base.specs.declared.refusal.Refusal.{Refusal}
use Rattle.ark_base.specs.declared.refusal.Refusal.TheVariants as r

-- a refusal of lesser rank comes before one of greater rank
abbrev pub rank : Refusal → ℕ
rank r.TooLong = 0
rank r.UnknownWord = 1
rank r.Syntax = 2
rank r.NoApplication = 3
rank r.NameTaken = 4
rank (r.NoGrant l) = 5
rank r.WrongKind = 6
rank r.Limit = 7
rank r.NoNic = 8
rank r.OutOfRange = 9
rank r.TableFailed = 10
rank r.LogFailed = 11
rank r.Busy = 12
rank r.Lent = 13
rank r.RingFull = 14
rank r.LogFull = 15
rank r.NoEntry = 16
rank r.NoBuffer = 17
rank r.NoSpace = 18
rank r.Scattered = 19
rank (r.Overlap a f) = 20
rank r.NoMemory = 21
rank r.DeviceFault = 22
rank (r.Damaged n) = 23

-- the condition with which a line is refused so
abbrev pub HasCondition : Conditions → Refusal → Type 0
HasCondition c r.TooLong = c.too_long ≡ true
HasCondition c r.UnknownWord = c.unknown_word ≡ true
HasCondition c r.Syntax = c.syntax_fault ≡ true
HasCondition c r.NoApplication = c.no_application ≡ true
HasCondition c r.NameTaken = c.name_taken ≡ true
HasCondition c (r.NoGrant l) = c.no_grant ≡ Some l
HasCondition c r.WrongKind = c.wrong_kind ≡ true
HasCondition c r.Limit = c.limit ≡ true
HasCondition c r.NoNic = c.no_nic ≡ true
HasCondition c r.OutOfRange = c.out_of_range ≡ true
HasCondition c r.TableFailed = c.table_failed ≡ true
HasCondition c r.LogFailed = c.log_failed ≡ true
HasCondition c r.Busy = c.busy ≡ true
HasCondition c r.Lent = c.lent ≡ true
HasCondition c r.RingFull = c.ring_full ≡ true
HasCondition c r.LogFull = c.log_full ≡ true
HasCondition c r.NoEntry = c.no_entry ≡ true
HasCondition c r.NoBuffer = c.no_buffer ≡ true
HasCondition c r.NoSpace = c.no_space ≡ true
HasCondition c r.Scattered = c.scattered ≡ true
HasCondition c (r.Overlap a f) = c.overlap ≡ Some (a, f)
HasCondition c r.NoMemory = c.no_memory ≡ true
HasCondition c r.DeviceFault = c.device_fault ≡ true
HasCondition c (r.Damaged n) = c.damaged ≡ Some n

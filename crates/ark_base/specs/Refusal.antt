-- The number of each refusal, and its words as a reply prints them, the number first.
use Rattle.std.specs.Prelude.{ℕ, List, ◌++◌, codes, decimal}
use Rattle.ark_base.specs.declared.refusal.Refusal.{Refusal}
use Rattle.ark_base.specs.declared.refusal.Refusal.TheVariants as r

abbrev pub number_of : Refusal → ℕ
number_of r.Syntax = 1
number_of r.UnknownWord = 2
number_of r.NoApplication = 3
number_of r.NameTaken = 4
number_of (r.NoGrant label) = 5
number_of r.WrongKind = 6
number_of r.Limit = 7
number_of r.NoNic = 8
number_of r.OutOfRange = 9
number_of r.NoSpace = 10
number_of r.Scattered = 11
number_of (r.Overlap app label) = 12
number_of r.RingFull = 13
number_of r.NoBuffer = 14
number_of r.Lent = 15
number_of r.Busy = 16
number_of r.LogFailed = 17
number_of r.LogFull = 18
number_of r.NoEntry = 19
number_of r.NoMemory = 20
number_of r.DeviceFault = 21
number_of r.TableFailed = 22
number_of (r.Damaged entry) = 23
number_of r.TooLong = 24

abbrev pub words_of : Refusal → List ℕ
words_of r.Syntax = codes "1 syntax"
words_of r.UnknownWord = codes "2 unknown word"
words_of r.NoApplication = codes "3 no application"
words_of r.NameTaken = codes "4 name taken"
words_of (r.NoGrant label) = codes "5 no grant " ++ label
words_of r.WrongKind = codes "6 wrong kind"
words_of r.Limit = codes "7 limit"
words_of r.NoNic = codes "8 no nic"
words_of r.OutOfRange = codes "9 out of range"
words_of r.NoSpace = codes "10 no space"
words_of r.Scattered = codes "11 scattered"
words_of (r.Overlap app label) = codes "12 overlap " ++ (app ++ (codes " " ++ label))
words_of r.RingFull = codes "13 ring full"
words_of r.NoBuffer = codes "14 no buffer"
words_of r.Lent = codes "15 lent"
words_of r.Busy = codes "16 busy"
words_of r.LogFailed = codes "17 log failed"
words_of r.LogFull = codes "18 log full"
words_of r.NoEntry = codes "19 no entry"
words_of r.NoMemory = codes "20 no memory"
words_of r.DeviceFault = codes "21 device fault"
words_of r.TableFailed = codes "22 table failed"
words_of (r.Damaged entry) = codes "23 damaged " ++ decimal entry
words_of r.TooLong = codes "24 too long"

-- The labels and names that worked scripts give, and the plainest reply, each by the bytes that spell it.
use Rattle.std.specs.Prelude.{ℕ, List, codes}

abbrev pub a : List ℕ
a = codes "a"

abbrev pub b : List ℕ
b = codes "b"

abbrev pub d : List ℕ
d = codes "d"

abbrev pub db : List ℕ
db = codes "db"

abbrev pub e : List ℕ
e = codes "e"

abbrev pub f : List ℕ
f = codes "f"

abbrev pub g : List ℕ
g = codes "g"

abbrev pub h : List ℕ
h = codes "h"

abbrev pub j : List ℕ
j = codes "j"

abbrev pub k : List ℕ
k = codes "k"

abbrev pub l : List ℕ
l = codes "l"

abbrev pub m : List ℕ
m = codes "m"

abbrev pub n : List ℕ
n = codes "n"

abbrev pub o : List ℕ
o = codes "o"

abbrev pub ok : List ℕ
ok = codes "ok"

abbrev pub q : List ℕ
q = codes "q"

abbrev pub r : List ℕ
r = codes "r"

abbrev pub s : List ℕ
s = codes "s"

abbrev pub t : List ℕ
t = codes "t"

abbrev pub u : List ℕ
u = codes "u"

abbrev pub v : List ℕ
v = codes "v"

abbrev pub x : List ℕ
x = codes "x"

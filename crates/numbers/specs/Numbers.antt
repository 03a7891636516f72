-- Numbers of 2, 4 and 8 bytes. «Numbers are big-endian.»
use Rattle.std.specs.Prelude.{ℕ, zero, suc, ◌+◌, ◌*◌, ◌/◌, ◌%◌, ◌<◌, List, [], ◌∷◌, ◌++◌, length, get_or, take, drop}

-- every element is a byte
abbrev pub Bytes : List ℕ → Type 0
Bytes b = (i : ℕ) → get_or b i 0 < 256

-- what numbers of 2 and of 4 bytes are below
abbrev pub past2 : ℕ
past2 = 65536

abbrev pub past4 : ℕ
past4 = 4294967296

-- [Y1] the number of 2, 4, 8 bytes at place q
abbrev pub num2 : List ℕ → ℕ → ℕ
num2 b q = get_or b q 0 * 256 + get_or b (q + 1) 0

abbrev pub num4 : List ℕ → ℕ → ℕ
num4 b q = num2 b q * 65536 + num2 b (q + 2)

abbrev pub num8 : List ℕ → ℕ → ℕ
num8 b q = num4 b q * 4294967296 + num4 b (q + 4)

-- [Y1] its bytes
abbrev pub be2 : ℕ → List ℕ
be2 v = v / 256 ∷ v % 256 ∷ []

abbrev pub be4 : ℕ → List ℕ
be4 v = be2 (v / 65536) ++ be2 (v % 65536)

abbrev pub be8 : ℕ → List ℕ
be8 v = be4 (v / 4294967296) ++ be4 (v % 4294967296)

-- k words from place q on, and their bytes
abbrev pub words_in : ℕ → List ℕ → ℕ → List ℕ
words_in zero b q = []
words_in (suc k) b q = num8 b q ∷ words_in k b (q + 8)

abbrev pub word_bytes : List ℕ → List ℕ
word_bytes [] = []
word_bytes (w ∷ ws) = be8 w ++ word_bytes ws

-- k counts from place q on, and their bytes
abbrev pub counts_in : ℕ → List ℕ → ℕ → List ℕ
counts_in zero b q = []
counts_in (suc k) b q = num2 b q ∷ counts_in k b (q + 2)

abbrev pub count_bytes : List ℕ → List ℕ
count_bytes [] = []
count_bytes (n ∷ ns) = be2 n ++ count_bytes ns

-- [Y16] vs over the front of b, and over b from p on: «Every other byte stays.»
abbrev pub over : List ℕ → List ℕ → List ℕ
over vs b = vs ++ drop (length vs) b

abbrev pub patch : ℕ → List ℕ → List ℕ → List ℕ
patch p vs b = take p b ++ over vs (drop p b)

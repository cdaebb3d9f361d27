-- Unsigned little-endian numbers in a list of bytes.
use Rattle.std.specs.Prelude.{ℕ, ◌+◌, ◌*◌, ◌/◌, ◌%◌, ◌<◌, List, [], ◌∷◌, ◌++◌, get_or}

-- a number that one byte holds
abbrev pub Byte : ℕ → Type 0
Byte n = n < 256

abbrev pub byte_at : List ℕ → ℕ → ℕ
byte_at b i = get_or b i 0

-- the number in the 2 bytes from i on
unfoldable pub two_at_lem : List ℕ → ℕ → ℕ
two_at_lem b i = byte_at b i + 256 * byte_at b (i + 1)

-- the number in the 4 bytes from i on
unfoldable pub four_at_lem : List ℕ → ℕ → ℕ
four_at_lem b i = two_at_lem b i + 65_536 * two_at_lem b (i + 2)

-- the 2 bytes of a number
unfoldable pub two_bytes : ℕ → List ℕ
two_bytes n = n % 256 ∷ n / 256 % 256 ∷ []

-- the 4 bytes of a number
unfoldable pub four_bytes : ℕ → List ℕ
four_bytes n = two_bytes (n % 65_536) ++ two_bytes (n / 65_536)

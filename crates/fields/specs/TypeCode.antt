-- The type of a WKB geometry, a u32 (document 01, Walk): v, its low 16 bits, and EWKB's flags above them. Definitions only.
use Rattle.std.specs.Prelude.{ℕ, ◌/◌, ◌%◌, Bool, eqb}
use Rattle.fields.specs.declared.Flag.{Flag}
use Rattle.fields.specs.declared.Flag.TheVariants.{Z, M, Srid}

-- v
abbrev pub low_bits_of : ℕ → ℕ
low_bits_of code = code % 65536

-- v / 1000: 1, 2, 3 mean XYZ, XYM, XYZM
abbrev pub thousands_of : ℕ → ℕ
thousands_of code = low_bits_of code / 1000

-- the kind is v mod 1000
abbrev pub kind_of : ℕ → ℕ
kind_of code = low_bits_of code % 1000

-- whether a flag, a power of 2, is set
abbrev pub has_flag : ℕ → ℕ → Bool
has_flag flag code = eqb (code / flag % 2) 1

-- the flags: Z, M, and an SRID after the type
abbrev pub z_flag : ℕ
z_flag = 0x8000_0000

abbrev pub m_flag : ℕ
m_flag = 0x4000_0000

abbrev pub srid_flag : ℕ
srid_flag = 0x2000_0000

-- the power of 2 that a flag is
abbrev pub mask_of : Flag → ℕ
mask_of Z = z_flag
mask_of M = m_flag
mask_of Srid = srid_flag

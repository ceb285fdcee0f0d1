-- The blobs that are written: document 01, "Line writer", "Point WKB" and the bytes of case 9. Definitions only.
use Rattle.std.specs.Prelude.{ℕ, List, [], ◌∷◌, ◌++◌, Float}
use Rattle.std.specs.Float.{binary64}
use Rattle.std.specs.Float.Ieee.{to_bits}
use Rattle.fields.specs.Fields.{bytes_of_u32, bytes_of_u64}

-- GeoPackage: 47 50, version 0, flags 01 (little-endian, no envelope, not empty), SRID; WKB: byte order 01, type
unfoldable pub header_bytes : ℕ → ℕ → List ℕ
header_bytes srid code = (0x47 ∷ 0x50 ∷ 0x00 ∷ 0x01 ∷ []) ++ bytes_of_u32 srid ++ (0x01 ∷ []) ++ bytes_of_u32 code

-- an ordinate's pattern, little-endian; a NaN's is 7FF8000000000000 hexadecimal
unfoldable pub ordinate_bytes : Float → List ℕ
ordinate_bytes x = bytes_of_u64 (to_bits binary64 x)

-- ordinates lie x, y, z
unfoldable pub coordinate_bytes : Float → Float → Float → List ℕ
coordinate_bytes x y z = ordinate_bytes x ++ ordinate_bytes y ++ ordinate_bytes z

-- the bytes of a point blob: header, three ordinates
abbrev pub point_bytes : ℕ
point_bytes = 37

-- the bytes of a line blob: header, count, six ordinates
abbrev pub line_bytes : ℕ
line_bytes = 65

-- a point: type 1001, x, y, z
unfoldable pub point_blob : ℕ → Float → Float → Float → List ℕ
point_blob srid x y z = header_bytes srid 1001 ++ coordinate_bytes x y z

-- a line of two coordinates: type 1002, count 2, both coordinates
unfoldable pub line_blob : ℕ → Float → Float → Float → Float → Float → Float → List ℕ
line_blob srid ax ay az bx by bz = header_bytes srid 1002 ++ bytes_of_u32 2 ++ coordinate_bytes ax ay az ++ coordinate_bytes bx by bz

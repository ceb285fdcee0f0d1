-- The walk of a WKB geometry (document 01, Walk): the tree that the bytes at a position hold and the position after it, or the reason of a refusal. Definitions only.
use Rattle.std.specs.Prelude.{ℕ, zero, suc, ◌+◌, ◌*◌, List, [], ◌∷◌, Bool, true, false, cond, ◌&&◌, ◌||◌, length, get_or, ltb, leb, eqb, Option, None, Some, Result, Ok, Err}
use Rattle.fields.specs.Fields.{u32_at, u64_at}
use Rattle.fields.specs.TypeCode.{thousands_of, kind_of, has_flag, z_flag, m_flag, srid_flag}
use Rattle.refusals.specs.declared.Reason.{Reason}
use Rattle.refusals.specs.declared.Reason.TheVariants.{BytesMissing, ByteOrder, UnknownKind, TooManyLevels}
use Rattle.coords.specs.declared.WkbHeader.{WkbHeader}
use Rattle.coords.specs.declared.GeometryClass.{GeometryClass}
use Rattle.coords.specs.declared.GeometryClass.TheVariants as class

-- ---- the tree

-- ordinates by their 64-bit patterns; a missing z or m is 0
pub record Coordinate : Type 0 where
  pub x : ℕ
  pub y : ℕ
  pub z : ℕ
  pub m : ℕ

mutual
  -- kind, whether it has z, whether it has m, content
  pub data Geometry : Type 0 where
    geometry : ℕ → Bool → Bool → Content → Geometry

  -- one coordinate, a line's, a polygon's or triangle's rings, a collection's members
  pub data Content : Type 0 where
    point : Coordinate → Content
    line : List Coordinate → Content
    rings : List (List Coordinate) → Content
    members : Members → Content

  -- geometries in a row
  pub data Members : Type 0 where
    no_members : Members
    one_more : Geometry → Members → Members

-- what was read and the position after it, or the refusal's reason
pub data Parsed (A : Type 0) : Type 0 where
  ok : A → ℕ → Parsed A
  refused : Reason → Parsed A

-- f of what was read
unfoldable pub map_parsed : {A B : Type 0} → (A → B) → Parsed A → Parsed B
map_parsed f (ok a end) = ok (f a) end
map_parsed f (refused k) = refused k

-- refusal 9 where the bytes end before a position
abbrev pub need_bytes : {A : Type 0} → List ℕ → ℕ → Parsed A → Parsed A
need_bytes s end r = cond (ltb (length s) end) (refused BytesMissing) r

-- ---- the header of a geometry

abbrev pub ParsedHeader : Type 0
ParsedHeader = Result WkbHeader Reason

-- v / 1000 of 1, 2, 3 means XYZ, XYM, XYZM; otherwise flag 80000000 gives Z
unfoldable pub z_of : ℕ → Bool
z_of code =
    cond (eqb (thousands_of code) 1) true
    (cond (eqb (thousands_of code) 2) false
    (cond (eqb (thousands_of code) 3) true
    (has_flag z_flag code)))

-- the same for M: flag 40000000
unfoldable pub m_of : ℕ → Bool
m_of code =
    cond (eqb (thousands_of code) 1) false
    (cond (eqb (thousands_of code) 2) true
    (cond (eqb (thousands_of code) 3) true
    (has_flag m_flag code)))

-- byte order, type, and where the content starts
abbrev pub wkb_header : Bool → ℕ → ℕ → WkbHeader
wkb_header little code body = record { little = little; z = z_of code; m = m_of code; kind = kind_of code; body = body }

-- the type is read; 4 SRID bytes follow it if flag 20000000 is set: refusal 9 where they are missing
unfoldable pub header_of_type : List ℕ → Bool → ℕ → ℕ → ParsedHeader
header_of_type s little code at =
    cond (has_flag srid_flag code)
    (cond (ltb (length s) (at + 9)) (Err BytesMissing) (Ok (wkb_header little code (at + 9))))
    (Ok (wkb_header little code (at + 5)))

-- byte order (0 big, 1 little), type and SRID at a position: refusals 9 and 10
unfoldable pub header_at : List ℕ → ℕ → ParsedHeader
header_at s at =
    cond (ltb (length s) (at + 5)) (Err BytesMissing)
    (cond (ltb 1 (get_or s at 0)) (Err ByteOrder)
    (header_of_type s (eqb (get_or s at 0) 1) (u32_at (eqb (get_or s at 0) 1) s (at + 1)) at))

-- ---- coordinates

-- the bytes of a coordinate, by whether it has z and m
unfoldable pub stride_of : Bool → Bool → ℕ
stride_of true true = 32
stride_of true false = 24
stride_of false true = 24
stride_of false false = 16

abbrev pub stride : WkbHeader → ℕ
stride h = stride_of h.z h.m

-- an ordinate that may be missing: 0 then
unfoldable pub ordinate_if : Bool → Bool → List ℕ → ℕ → ℕ
ordinate_if true little s at = u64_at little s at
ordinate_if false little s at = 0

-- m follows z, or y where there is no z
unfoldable pub m_offset : Bool → ℕ
m_offset true = 24
m_offset false = 16

-- the coordinate at a position: x, y, then z, m if present
unfoldable pub coordinate_at : WkbHeader → List ℕ → ℕ → Coordinate
coordinate_at h s at =
    record {
      x = u64_at h.little s at;
      y = u64_at h.little s (at + 8);
      z = ordinate_if h.z h.little s (at + 16);
      m = ordinate_if h.m h.little s (at + m_offset h.z);
    }

-- n coordinates from a position on
unfoldable pub coordinates_from : WkbHeader → List ℕ → ℕ → ℕ → List Coordinate
coordinates_from h s zero at = []
coordinates_from h s (suc n) at = coordinate_at h s at ∷ coordinates_from h s n (at + stride h)

-- the content of a point
unfoldable pub point_at : WkbHeader → List ℕ → ℕ → Parsed Coordinate
point_at h s at = need_bytes s (at + stride h) (ok (coordinate_at h s at) (at + stride h))

-- n coordinates, which the bytes must hold
unfoldable pub coordinates_at : WkbHeader → List ℕ → ℕ → ℕ → Parsed (List Coordinate)
coordinates_at h s n at = need_bytes s (at + n * stride h) (ok (coordinates_from h s n at) (at + n * stride h))

-- a count, and as many coordinates
unfoldable pub line_at : WkbHeader → List ℕ → ℕ → Parsed (List Coordinate)
line_at h s at = need_bytes s (at + 4) (coordinates_at h s (u32_at h.little s at) (at + 4))

-- ---- lists

-- a thing before what was read after it
abbrev pub cons_parsed : {A B : Type 0} → (A → B → B) → A → Parsed B → Parsed B
cons_parsed cons a (refused k) = refused k
cons_parsed cons a (ok b end) = ok (cons a b) end

-- a thing, then the rest from its end on; the first refusal counts
abbrev pub and_then : {A B : Type 0} → (A → B → B) → Parsed A → (ℕ → Parsed B) → Parsed B
and_then cons (refused k) rest = refused k
and_then cons (ok a next) rest = cons_parsed cons a (rest next)

-- n things one after the other, each read by f
unfoldable pub times : {A B : Type 0} → (A → B → B) → B → (ℕ → Parsed A) → ℕ → ℕ → Parsed B
times cons nil f zero at = ok nil at
times cons nil f (suc n) at = and_then cons (f at) (times cons nil f n)

-- a count, and as many things
unfoldable pub list_at : {A B : Type 0} → (A → B → B) → B → (ℕ → Parsed A) → Bool → List ℕ → ℕ → Parsed B
list_at cons nil f little s at = need_bytes s (at + 4) (times cons nil f (u32_at little s at) (at + 4))

-- a ring count, then each ring like a line
abbrev pub rings_at : WkbHeader → List ℕ → ℕ → Parsed (List (List Coordinate))
rings_at h s at = list_at ◌∷◌ [] (line_at h s) h.little s at

-- a count of geometries, each member read by f
abbrev pub members_at : (ℕ → Parsed Geometry) → Bool → List ℕ → ℕ → Parsed Members
members_at f little s at = list_at one_more no_members f little s at

-- ---- geometries

-- what a geometry of some kind holds: 1 point, 2 line, 3 polygon, 17 triangle, 4 to 7, 15 and 16 collections, nothing else
unfoldable pub geometry_class_of : ℕ → Option GeometryClass
geometry_class_of k =
    cond (eqb k 1) (Some class.Point)
    (cond (eqb k 2) (Some class.Line)
    (cond (eqb k 3 || eqb k 17) (Some class.Polygon)
    (cond ((leb 4 k && leb k 7) || (eqb k 15 || eqb k 16)) (Some class.Collection) None)))

-- what follows a header: refusal 11 for an unknown kind; f reads a member
unfoldable pub content_of : Option GeometryClass → (ℕ → Parsed Geometry) → List ℕ → WkbHeader → Parsed Content
content_of (Some class.Point) f s h = map_parsed point (point_at h s h.body)
content_of (Some class.Line) f s h = map_parsed line (line_at h s h.body)
content_of (Some class.Polygon) f s h = map_parsed rings (rings_at h s h.body)
content_of (Some class.Collection) f s h = map_parsed members (members_at f h.little s h.body)
content_of None f s h = refused UnknownKind

-- a geometry by its header; f reads a member
unfoldable pub geometry_from : (ℕ → Parsed Geometry) → List ℕ → ParsedHeader → Parsed Geometry
geometry_from f s (Err k) = refused k
geometry_from f s (Ok h) = map_parsed (geometry h.kind h.z h.m) (content_of (geometry_class_of h.kind) f s h)

-- the levels that are read: 0, the top, to 32
abbrev pub all_levels : ℕ
all_levels = 33

-- the geometry at a position, with so many levels left to read: refusal 12 where none is
unfoldable pub walk_of : ℕ → List ℕ → ℕ → Parsed Geometry
walk_of zero s at = refused TooManyLevels
walk_of (suc levels) s at = geometry_from (walk_of levels s) s (header_at s at)

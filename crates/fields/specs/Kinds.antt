-- The kinds of WKB geometries: which number is which (OGC Simple Features Access, part 1, WKB). Definitions only.
use Rattle.std.specs.Prelude.{◌≡◌, ℕ, ◌<◌, ◌⊎◌, Result, MatchResult}
use Rattle.fields.specs.declared.Kind.{Kind}
use Rattle.fields.specs.declared.Kind.TheVariants.{Point, LineString, Polygon, MultiPoint, MultiLineString, MultiPolygon, GeometryCollection, PolyhedralSurface, Tin, Triangle}
use Rattle.fields.specs.declared.UnknownKind.{UnknownKind}

-- the number of a kind
abbrev pub number_of : Kind → ℕ
number_of Point = 1
number_of LineString = 2
number_of Polygon = 3
number_of MultiPoint = 4
number_of MultiLineString = 5
number_of MultiPolygon = 6
number_of GeometryCollection = 7
number_of PolyhedralSurface = 15
number_of Tin = 16
number_of Triangle = 17

-- no kind has that number
abbrev pub IsNoKind : ℕ → Type 0
IsNoKind n = (n < 1) ⊎ (((7 < n) × (n < 15)) ⊎ (17 < n))

-- the kind that has the number, or an error where none has it
abbrev pub NamesKind : ℕ → Result Kind UnknownKind → Type 0
NamesKind n r = MatchResult r (λ kind. number_of kind ≡ n) (λ _. IsNoKind n)
